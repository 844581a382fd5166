-- A lock is taken and given up.
use Rattle.std.proofs.Common.{◌≡◌, ◌≢◌, ℕ, ◌+◌, ◌<◌, ◌≤◌, eqb, Bool, List, [], ◌∷◌, length, get_or, set, sym, refl, ap, ◌∙◌, subst, arith, eq-eqb}
use Rattle.std.proofs.Common.{ne_eqb, length-set, get_or-set_same, get_or-set_other}
use mathlib.Core.Option.{none, some}
use mathlib.Core.Logic.{dite}
use native.Mathlib.Decide.{ℕ_discrete}
use prog.Atomic.{either}
use lib.ListN.{get_elem?}
use Rattle.atomic_table.specs.Table.{Allows, State, keeps, step, stepped}
use Rattle.tree_rule.specs.Words.{at_of, child_place, key_place}
use Rattle.tree_rule.specs.declared.words.TheConstants.{POOL_PLACE}
use Rattle.tree_passes.specs.declared.view.View.{View}
use Rattle.tree_passes.specs.Counting.{sum_of, times}
use Rattle.tree_passes.specs.Opening.{Opening}
use Rattle.tree_passes.specs.Passes.{IsCell, Knows}
use Rattle.tree_passes.specs.Rule.{Kept}
use Rattle.tree_passes.specs.Locks.{CellsLock, Holds, IsLock, IsLockOf, Locked, OfChild, OfRoot, RootsLock}
use Rattle.tree_passes.specs.Plays.{acquired, Mine, released}
use Rattle.tree_passes.proofs.Counts.{same-eq, same-ne, sum_of-set, sum_of_one}
use Rattle.tree_passes.proofs.After.{SameLists, knows_less, knows_on, moves_not, parted_after, reviewed, set_read}
use Rattle.tree_passes.proofs.Storing.{IsAside, grows_aside, kept_aside}
use Rattle.tree_passes.proofs.Quiet.{row_no_lock}
use Rattle.tree_passes.proofs.FreeSteps.{place_no_lock}
use Rattle.tree_passes.proofs.LockedRule.{holds_on, locked_after, one_on}

-- a lock is none of the words that have one
not_under : (i v w : ℕ) → IsLockOf i v → IsLock w → i ≢ w
not_under i v w (OfRoot a b) (RootsLock c) e = omega arith
not_under i v w (OfRoot a b) (CellsLock c d) e = omega arith
not_under i v w (OfChild c k l g h) (RootsLock d) e = omega arith
not_under i v w (OfChild c k l g h) (CellsLock d f) e = omega arith

-- nor is it the pool word
pub not_pool : (w : ℕ) → IsLock w → POOL_PLACE ≢ w
not_pool w (RootsLock d) e = omega arith
not_pool w (CellsLock d f) e = omega arith

-- a lock is aside
lock_aside : (o : Opening) (s : State (Unit {0}) View) (h : Kept o s) (w : ℕ) → IsLock w → IsAside o s h w
lock_aside o s h w lock = record {
  no_place = λ key k p e. place_no_lock (at_of s.words) (IsCell o h.cells) key k w p lock (sym e);
  no_key = λ c p e. row_no_lock w lock c 8 (omega arith) (let k : key_place c ≡ child_place c 8 = omega arith in sym k ∙ e);
}

-- a lock word may change, and the view in what the other facts do not see
kept_lock : (o : Opening) (s : State (Unit {0}) View) (h : Kept o s) (id : ℕ) (v x : View) (w n : ℕ) → get_elem? s.views id ≡ some v → IsLock w
    → SameLists v x → ((us : List ℕ) (cells bodies : ℕ → ℕ) → Knows o us cells bodies v → Knows o us cells bodies x)
    → Kept o record { words = set s.words w n; homes = s.homes; views = set s.views id x }
kept_lock o s h id v x w n at lock l f =
    let aside = lock_aside o s h w lock in
    kept_aside o s h w n aside id v x at
    (parted_after o h.cells h.cells h.bodies h.bodies s.views id v x at (moves_not v x h.cells h.bodies l) h.parted)
    (λ j u ne e c k p m. row_no_lock w lock c k m)
    (f (set s.words w n) h.cells h.bodies
    (knows_on o s.words (set s.words w n) h.cells h.cells h.bodies h.bodies (grows_aside o s h w n aside) v
    (λ c j p m. get_or-set_other s.words w (child_place c j) n 0 (row_no_lock w lock c j m)) (h.knows id v at)))

-- what others hold stays where a lock word changes
others_lock : (o : Opening) (s : State (Unit {0}) View) (f : Locked o s) (w n : ℕ) → IsLock w → (j : ℕ) (u : View) → get_elem? s.views j ≡ some u
    → Holds (set s.words w n) u
others_lock o s f w n lock j u e =
    let h = f.holds j u e in
    holds_on s.words (set s.words w n) u
    (λ i m p. get_or-set_other s.words w i n 0 (let t = h.under i m p in not_under i t.1.0 w t.1.1 lock))
    (let t = get_or-set_other s.words w POOL_PLACE n 0 (not_pool w lock) in omega arith) h

-- the counts of a lock word that changes with the locks of one view
lock_counts : (s : State (Unit {0}) View) (v x : View) (w n : ℕ) → w < length s.words → n + times w v.locks ≡ at_of s.words w + times w x.locks
    → ((i : ℕ) → i ≢ w → times i x.locks ≡ times i v.locks) → (i : ℕ) → at_of (set s.words w n) i + times i v.locks ≡ at_of s.words i + times i x.locks
lock_counts s v x w n inside here others i = dite (ℕ_discrete i w)
    (λ (e : i ≡ w). subst (λ (z : ℕ). at_of (set s.words w n) z + times z v.locks ≡ at_of s.words z + times z x.locks) (sym e)
    (let a = get_or-set_same s.words w n 0 inside in omega arith))
    (λ (e : i ≢ w). let a = get_or-set_other s.words w i n 0 e in let b = others i e in omega arith)

-- a lock is taken by a pass that holds none
pub acquires : (o : Opening) (slots id : ℕ) (me : Mine) (w : ℕ) → IsLock w → w < length me.0.memory → me.0.locks ≡ []
    → Allows (Locked o) slots id me w (λ n. either (eqb n 0) 1 n) (acquired (step slots w 0 1 none) me)
acquires o slots id me w lock inside none_held s f len at small =
    let v = me.0 in
    let h = f.holds id v at in
    let x : ℕ = get_or s.words w 0 in
    dite (ℕ_discrete x 0)
    (λ (free : x ≡ 0).
    let y = record v { locks = w ∷ [] } in
    let count = f.counted w lock in
    let none_now = λ (i : ℕ). ap (times i) none_held in
    let within : w < length s.words = (let l = (f.kept.knows id v at).long in omega arith) in (
      y,
      keeps,
      tt,
      subst (λ (b : Bool). Locked o (stepped s w (either b 1 x) id me.1 y keeps)) (sym (eq-eqb x 0 free))
          (locked_after o s id v y (set s.words w 1) f at
          (kept_lock o s f.kept id v y w 1 at lock (record { todo = refl; done = refl; held = refl; published = refl })
          (λ us cells bodies k. knows_less (λ c. omega arith) k.under k))
          (record {
            long = length-set s.words w 1;
            counted = λ i l. lock_counts s v y w 1 within (let q = none_now w in let e = same-eq w w refl in omega arith)
                (λ j ne. let q = none_now j in let e = same-ne w j (λ z. ne (sym z)) in omega arith) i;
            one = λ i. dite (ℕ_discrete i w)
                (λ (e : i ≡ w). subst (λ (z : ℕ). sum_of (λ (u : View). times z u.locks) (set s.views id y) ≤ 1) (sym e)
                (let z = sum_of-set (λ (u : View). times w u.locks) s.views id v y at in let q = same-eq w w refl in omega arith))
                (λ (e : i ≢ w). let z = sum_of-set (λ (u : View). times i u.locks) s.views id v y at in
                let t = f.one i in
                let q = same-ne w i (λ z. e (sym z)) in
                omega arith);
            pool = let t = get_or-set_other s.words w POOL_PLACE 1 0 (not_pool w lock) in omega arith;
            given = let t = get_or-set_other s.words w POOL_PLACE 1 0 (not_pool w lock) in omega arith;
            others = λ j u ne e. others_lock o s f w 1 lock j u e;
            mine =
                let g = others_lock o s f w 1 lock id v at in
                record {
                  few = omega arith;
                  are_locks = λ q p. dite (ℕ_discrete w q) (λ e. subst IsLock e lock) (λ e. absurd (let no = same-ne w q e in omega arith));
                  under = λ j m p. let t = h.under j m p in absurd (let q = none_now t.1.0 in let r = t.1.2 in omega arith);
                  given = g.given;
                };
          })),
      (refl, (λ _. refl), (λ n. absurd (n free))),
    ))
    (λ (taken : x ≢ 0). (
      v,
      keeps,
      tt,
      subst (λ (b : Bool). Locked o (stepped s w (either b 1 x) id me.1 v keeps)) (sym (ne_eqb x 0 taken))
          (subst (λ (us : List ℕ). Locked o record { words = us; homes = s.homes; views = set s.views id v }) (sym (set_read s.words w))
          (locked_after o s id v v s.words f at
          (reviewed o s f.kept id v v at (record { todo = refl; done = refl; held = refl; published = refl }) (f.kept.knows id v at))
          (record {
            long = refl;
            counted = λ i l. refl;
            one = one_on s id v v at refl f.one;
            pool = refl;
            given = omega arith;
            others = λ j u ne e. f.holds j u e;
            mine = h;
          }))),
      (refl, (λ e. absurd (taken e)), (λ _. refl)),
    ))

-- a lock is given up by the pass that holds it
pub releases : (o : Opening) (slots id : ℕ) (me : Mine) (w : ℕ) → me.0.locks ≡ w ∷ [] → w < length me.0.memory
    → Allows (Locked o) slots id me w (λ _. 0) (λ _. released (step slots w 0 0 none) me 0)
releases o slots id me w held inside s f len at small =
    let v = me.0 in
    let y = record v { locks = []; under = [] } in
    let mine_now = λ (i : ℕ). ap (times i) held in
    let once = same-eq w w refl in
    let lock : IsLock w = (f.holds id v at).are_locks w (let q = mine_now w in omega arith) in
    let within : w < length s.words = (let l = (f.kept.knows id v at).long in omega arith) in
    let count = f.counted w lock in
    let most = f.one w in
    let alone = sum_of_one (λ (u : View). times w u.locks) s.views id v at in
    let pool_stays = get_or-set_other s.words w POOL_PLACE 0 0 (not_pool w lock) in (
      y,
      keeps,
      tt,
      locked_after o s id v y (set s.words w 0) f at
          (kept_lock o s f.kept id v y w 0 at lock (record { todo = refl; done = refl; held = refl; published = refl })
          (λ us cells bodies k. knows_less (λ c. omega arith) (λ i n q. absurd q) k))
          (record {
            long = length-set s.words w 0;
            counted = λ i l. lock_counts s v y w 0 within (let q = mine_now w in omega arith)
                (λ j ne. let q = mine_now j in let e = same-ne w j (λ z. ne (sym z)) in omega arith) i;
            one = λ i. let z = sum_of-set (λ (u : View). times i u.locks) s.views id v y at in let t = f.one i in omega arith;
            pool = omega arith;
            given = omega arith;
            others = λ j u ne e. others_lock o s f w 0 lock j u e;
            mine =
                let g = others_lock o s f w 0 lock id v at in
                record { few = omega arith; are_locks = λ i p. absurd (omega arith); under = λ j m p. absurd p; given = g.given };
          }),
      (refl, refl),
    )
