-- The pass that has taken all workers in.
use Rattle.std.proofs.Common.{◌≡◌, ◌+◌, ℕ, suc, List, [], ◌∷◌, ◌++◌, length, map, take, drop, refl, sym, subst, ◌∙◌, ap, arith, append-nil}
use Rattle.std.proofs.lemmas.List.{drop_all, take_all}
use Rattle.tree_passes.specs.Counting.{all_of, sum_of, times}
use Rattle.tree_passes.proofs.Laws.{sum_of-map, times-all_of}
use Rattle.shared_tree.specs.Seen.{IsOf, PassState, SharedTree}
use Rattle.build_workers.specs.declared.hands.Hand.{Hand}
use Rattle.build_workers.specs.Shares.{times_in_all}
use Rattle.build_workers.specs.Hands.{joined_with, AreDealt, AreSpent, EachIsDone}
use Rattle.build_workers.specs.Working.{HasPutShares, IsSumFor}

-- Workers have put in what shares hold, by so many publications as they may need for it.
pub record AreAllDone {P O : Type 0} (state : P → PassState) (t : SharedTree) (may : List ℕ → ℕ → Type 0) (shares : List (List ℕ))
    (hands : List (Hand P O)) : Type 0 where
  pub spent : AreSpent state t hands
  pub done : (x : ℕ) → sum_of (λ h. times x (state h.pass).done) hands ≡ times_in_all x shares
  pub changes : IsSumFor may shares (sum_of (λ h. (state h.pass).changes) hands)

module _ {P O : Type 0} (state : P → PassState) (t : SharedTree) (may : List ℕ → ℕ → Type 0) where
  -- what the workers have put in is what their shares were
  done_each : (x : ℕ) (before after : List (Hand P O)) → length after ≡ length before → EachIsDone state t may before after
      → sum_of (λ h. times x (state h.pass).done) after ≡ sum_of (λ h. times x h.share.now) before
  done_each x [] [] long each = refl
  done_each x [] (a ∷ as') long each = absurd (omega arith)
  done_each x (b ∷ bs) [] long each = absurd (omega arith)
  done_each x (b ∷ bs) (a ∷ as') long each =
      let first = (each 0 a (omega arith)).done x in
      let rest = done_each x bs as' (omega arith) (λ i d l. each (suc i) d (omega arith)) in
      omega arith

  -- and so are their publications
  changes_each : (before after : List (Hand P O)) → length after ≡ length before → EachIsDone state t may before after
      → IsSumFor may (map (λ h. h.share.now) before) (sum_of (λ h. (state h.pass).changes) after)
  changes_each [] [] long each = refl
  changes_each [] (a ∷ as') long each = absurd (omega arith)
  changes_each (b ∷ bs) [] long each = absurd (omega arith)
  changes_each (b ∷ bs) (a ∷ as') long each = (
    (state a.pass).changes,
    sum_of (λ h. (state h.pass).changes) as',
    (each 0 a (omega arith)).changes,
    changes_each bs as' (omega arith) (λ i d l. each (suc i) d (omega arith)),
    refl,
  )

-- a list whose elements were all written
written : {A : Type 0} (n : ℕ) (old new : List A) → n ≡ length old → length new ≡ length old → take n (new ++ drop (length new) old) ≡ new
written {A = A} n old new size same =
    ap (λ (z : List A). take n (new ++ z)) (drop_all (length new) old (omega arith)) ∙ ap (take n) (append-nil new) ∙ take_all n new (omega arith)

pub all_done : {P O : Type 0} (state : P → PassState) (t : SharedTree) (may : List ℕ → ℕ → Type 0) (shares : List (List ℕ)) (before after : List (Hand P O))
    (n : ℕ) → n ≡ length before → length after ≡ length before → AreDealt shares before → EachIsDone state t may before after
    → AreAllDone state t may shares (take n (after ++ drop (length after) before))
all_done state t may shares before after n size count dealt each =
    subst (AreAllDone state t may shares) (sym (written n before after size count)) (record {
      spent = λ k d l. let e = each k d (omega arith) in record { tree = e.tree; todo = e.todo };
      done = λ x. done_each state t may x before after count each ∙ sym (sum_of-map (times x) (λ h. h.share.now) before) ∙ ap (sum_of (times x)) dealt;
      changes = subst (λ s. IsSumFor may s (sum_of (λ h. (state h.pass).changes) after)) dealt (changes_each state t may before after count each);
    })

-- the pass that has taken in workers that are all done
pub put_shares : {P O : Type 0} (state : P → PassState) (t : SharedTree) (may : List ℕ → ℕ → Type 0) (shares : List (List ℕ)) (hands : List (Hand P O))
    (first dealt last : PassState) → AreAllDone state t may shares hands → IsOf first t → first.done ≡ [] → first.changes ≡ 0
    → dealt ≡ record first { todo = [] } → last ≡ joined_with state dealt hands → HasPutShares t may shares last
put_shares {P = P} {O = O} state t may shares hands first dealt last all of nothing none d e =
    let own : Hand P O → List ℕ = λ h. (state h.pass).done in
    let done : last.done ≡ all_of own hands =
    ap (λ (p : PassState). p.done) e ∙ ap (λ (z : List ℕ). z ++ all_of own hands) (ap (λ (p : PassState). p.done) d ∙ nothing) in
    let began : dealt.changes ≡ first.changes = ap (λ (p : PassState). p.changes) d in
    let sum : last.changes ≡ dealt.changes + sum_of (λ h. (state h.pass).changes) hands = ap (λ (p : PassState). p.changes) e in
    let changes : sum_of (λ h. (state h.pass).changes) hands ≡ last.changes = omega arith in
    record {
      tree = record {
        table = ap (λ (p : PassState). p.table_id) e ∙ ap (λ (p : PassState). p.table_id) d ∙ of.table;
        points = ap (λ (p : PassState). p.points) e ∙ ap (λ (p : PassState). p.points) d ∙ of.points;
        bodies = ap (λ (p : PassState). p.bodies) e ∙ ap (λ (p : PassState). p.bodies) d ∙ of.bodies;
      };
      todo = ap (λ (p : PassState). p.todo) e ∙ ap (λ (p : PassState). p.todo) d;
      done = λ x. ap (times x) done ∙ times-all_of x own hands ∙ all.done x;
      changes = subst (IsSumFor may shares) changes all.changes;
    }
