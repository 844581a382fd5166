-- What builders rest on: what all workers have put in where shares hold each number once, and shares that an owner of each body tells.
use Rattle.std.proofs.Common.{◌≡◌, ◌≢◌, ◌+◌, ◌<◌, ◌≤◌, ℕ, cond, Bool, true, false, List, [], ◌∷◌, ◌++◌, length, map, refl, sym, ◌∙◌, ap, arith, eqb}
use Rattle.std.proofs.Common.{eq-eqb, ne_eqb}
use Rattle.std.proofs.lemmas.List.{append-nil, length-map}
use Rattle.std.proofs.lemmas.List.Elements.{filter-append}
use mathlib.Core.Logic.{dite}
use native.Mathlib.Decide.{ℕ_discrete}
use Rattle.bh_model.proofs.Lists.{numbers_more}
use Rattle.bh_model.specs.Bodies.{numbers}
use Rattle.bh_model.proofs.Standing.{length_numbers}
use Rattle.tree_passes.specs.Counting.{all_of, same, sum_of, times}
use Rattle.tree_passes.proofs.Laws.{length-all_of, length-same, same-eq, same-ne, sum_of-map, times-all_of}
use Rattle.shared_tree.specs.Seen.{entrusted, PassState, SharedTree}
use Rattle.build_workers.specs.Shares.{owned, times_in_all, AreShares}
use Rattle.build_workers.specs.Working.{one_for_each, HasPutShares, IsSumFor}
use Rattle.build_workers.proofs.Sharing.{each_of_numbers, shares_part}
pub use Rattle.build_workers.proofs.Sharing.{part_of_all, parts_within, shares_within}

-- which is the worker's, or is not
module _ (own : ℕ → ℕ) (n w : ℕ) where
  joins : (b : Bool) → eqb (own n) w ≡ b → owned own (numbers n) w ++ cond b (n ∷ []) [] ≡ owned own (numbers (n + 1)) w
  joins b e = ap (λ (z : Bool). owned own (numbers n) w ++ cond z (n ∷ []) []) (sym e) ∙ sym (filter-append (λ m. eqb (own m) w) (numbers n) (n ∷ []))
      ∙ ap (λ (l : List ℕ). owned own l w) (sym (numbers_more n))

  pub owned_more : own n ≡ w → owned own (numbers n) w ++ (n ∷ []) ≡ owned own (numbers (n + 1)) w
  owned_more e = joins true (eq-eqb (own n) w e)

  pub owned_no_more : own n ≢ w → owned own (numbers n) w ≡ owned own (numbers (n + 1)) w
  owned_no_more d = sym (append-nil (owned own (numbers n) w)) ∙ joins false (ne_eqb (own n) w d)

module _ (own : ℕ → ℕ) (w n : ℕ) where
  times-own : (all : List ℕ) → own n ≡ w → times n (owned own all w) ≡ times n all
  times-own [] mine = refl
  times-own (y ∷ ys) mine = dite (ℕ_discrete (own y) w)
      (λ e.
      let f : times n (owned own (y ∷ ys) w) ≡ same y n + times n (owned own ys w) =
      ap (λ (b : Bool). times n (cond b (y ∷ owned own ys w) (owned own ys w))) (eq-eqb (own y) w e) in
      let r = times-own ys mine in
      omega arith)
      (λ d.
      let f : times n (owned own (y ∷ ys) w) ≡ times n (owned own ys w) =
      ap (λ (b : Bool). times n (cond b (y ∷ owned own ys w) (owned own ys w))) (ne_eqb (own y) w d) in
      let r = times-own ys mine in
      let other = same-ne y n (λ (q : y ≡ n). d (ap own q ∙ mine)) in
      omega arith)

  times-other : (all : List ℕ) → own n ≢ w → times n (owned own all w) ≡ 0
  times-other [] apart = refl
  times-other (y ∷ ys) apart = dite (ℕ_discrete (own y) w)
      (λ e.
      let f : times n (owned own (y ∷ ys) w) ≡ same y n + times n (owned own ys w) =
      ap (λ (b : Bool). times n (cond b (y ∷ owned own ys w) (owned own ys w))) (eq-eqb (own y) w e) in
      let r = times-other ys apart in
      let other = same-ne y n (λ (q : y ≡ n). apart (sym (ap own q) ∙ e)) in
      omega arith)
      (λ d.
      let f : times n (owned own (y ∷ ys) w) ≡ times n (owned own ys w) =
      ap (λ (b : Bool). times n (cond b (y ∷ owned own ys w) (owned own ys w))) (ne_eqb (own y) w d) in
      let r = times-other ys apart in
      omega arith)

-- in the shares of some workers a number stands as often as its owner is one of them
times_owned : (own : ℕ → ℕ) (n : ℕ) (all workers : List ℕ) → times n all ≡ 1
    → sum_of (λ w. times n (owned own all w)) workers ≡ times (own n) workers
times_owned own n all [] one = refl
times_owned own n all (w ∷ ws) one =
    let r = times_owned own n all ws one in
    dite (ℕ_discrete (own n) w) (λ e. let t = times-own own w n all e in let s = same-eq w (own n) (sym e) in omega arith)
    (λ d. let t = times-other own w n all d in let s = same-ne w (own n) (λ (q : w ≡ own n). d (sym q)) in omega arith)

-- and one that no list has stands in none
none_owned : (own : ℕ → ℕ) (n : ℕ) (all workers : List ℕ) → times n all ≡ 0 → sum_of (λ w. times n (owned own all w)) workers ≡ 0
none_owned own n all [] none = refl
none_owned own n all (w ∷ ws) none =
    let r = none_owned own n all ws none in
    dite (ℕ_discrete (own n) w) (λ e. let t = times-own own w n all e in omega arith) (λ d. let t = times-other own w n all d in omega arith)

-- where each number below the count is owned by one of 1 to 64 workers, what they own are shares
pub owned_are_shares : (workers count : ℕ) (own : ℕ → ℕ) → 1 ≤ workers → workers ≤ 64 → ((n : ℕ) → n < count → own n < workers)
    → AreShares count (map (owned own (numbers count)) (numbers workers))
owned_are_shares workers count own some few less =
    let all = numbers count in
    let every = each_of_numbers count in
    let those = each_of_numbers workers in
    let size = length-map (numbers workers) (owned own all) in
    let many = length_numbers workers in
    record {
      some = omega arith;
      few = omega arith;
      once = λ n s. sum_of-map (times n) (owned own all) (numbers workers) ∙ times_owned own n all (numbers workers) (every.once n s)
          ∙ those.once (own n) (less n s);
      no_other = λ n s. sum_of-map (times n) (owned own all) (numbers workers) ∙ none_owned own n all (numbers workers) (every.no_other n s);
    }

-- the todo list of all numbers is parted by the shares
pub all_parted : (count : ℕ) (shares : List (List ℕ)) (todo : List ℕ) → AreShares count shares → todo ≡ numbers count → (x : ℕ)
    → times x todo ≡ times_in_all x shares
all_parted count shares todo are is x = ap (times x) is ∙ shares_part count x shares are

-- where a publication puts one body in, there are as many as the shares hold bodies
sum_of_ones : (shares : List (List ℕ)) (sum : ℕ) → IsSumFor one_for_each shares sum → sum ≡ sum_of length shares
sum_of_ones [] sum h = h
sum_of_ones (s ∷ ss) sum h =
    let first = h.2 in
    let rest = sum_of_ones ss h.1 h.3 in
    let whole = h.4 in
    omega arith

module _ (count : ℕ) (t : SharedTree) (may : List ℕ → ℕ → Type 0) (shares : List (List ℕ)) (p : PassState) (are : AreShares count shares)
    (put : HasPutShares t may shares p) where
  -- the pass has put in each number below the count, once, and no other
  pub put_each : (x : ℕ) → times x p.done ≡ times x (numbers count)
  put_each x = put.done x ∙ sym (shares_part count x shares are)

  -- that is all that the tree was opened with
  pub put_entrusted : (todo : List ℕ) → todo ≡ numbers count → (x : ℕ) → times x todo ≡ times x (entrusted p)
  put_entrusted todo is x = ap (times x) is ∙ sym (put_each x) ∙ ap (λ (z : List ℕ). times x (z ++ p.done)) (sym put.todo)

  pub put_count : length p.done ≡ count
  put_count = length-same p.done (numbers count) put_each ∙ length_numbers count

-- where each body took one publication, there were as many as bodies were put in
pub put_ones : (t : SharedTree) (shares : List (List ℕ)) (p : PassState) → HasPutShares t one_for_each shares p → p.changes ≡ length p.done
put_ones t shares p put =
    let whole = all_of (λ (s : List ℕ). s) shares in
    let size : length whole ≡ length p.done =
    length-same whole p.done (λ x. times-all_of x (λ (l : List ℕ). l) shares ∙ sym (put.done x)) in
    let total = length-all_of (λ (s : List ℕ). s) shares in
    let sum = sum_of_ones shares p.changes put.changes in
    omega arith

-- and as many as there are numbers below the count, where the shares hold these
pub put_changes : (count : ℕ) (t : SharedTree) (shares : List (List ℕ)) (p : PassState) → AreShares count shares
    → HasPutShares t one_for_each shares p → p.changes ≡ count
put_changes count t shares p are put = put_ones t shares p put ∙ put_count count t one_for_each shares p are put
