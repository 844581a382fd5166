-- The rule of a tree with locks and a pool is kept by each step that counts its locks and its quota.
use Rattle.std.proofs.Common.{◌≡◌, ◌≢◌, ℕ, zero, suc, ◌+◌, ◌<◌, ◌≤◌, List, length, set, ap, ◌∙◌, subst, arith}
use mathlib.Core.Option.{some}
use lib.ListN.{get_elem?}
use Rattle.atomic_table.specs.Table.{State}
use Rattle.tree_rule.specs.Words.{at_of}
use Rattle.tree_rule.specs.declared.words.TheConstants.{POOL_PLACE}
use Rattle.tree_passes.specs.declared.view.View.{View}
use Rattle.tree_passes.specs.Counting.{Has, sum_of, times}
use Rattle.tree_passes.specs.Opening.{Opening}
use Rattle.tree_passes.specs.Passes.{given_part, joined, kept_part, spent}
use Rattle.tree_passes.specs.Rule.{Kept}
use Rattle.tree_passes.specs.Locks.{Holds, IsLock, Locked}
use Rattle.tree_passes.proofs.Keeps.{IsKeptByJoins, IsKeptByQuiet, IsKeptBySplits}
use Rattle.tree_passes.proofs.Counts.{sum_of-set, times-append, times-without_all}
use Rattle.tree_passes.proofs.After.{each_set}
use Rattle.tree_passes.proofs.Parting.{each_join, each_split, join_total, kept_join, kept_split, split_total, was_there}

-- what a pass holds stays where the words under its locks stay and the pool word doesn't fall
pub holds_on : (ws us : List ℕ) (u : View) → ((i n : ℕ) → Has u.under (i, n) → at_of us i ≡ at_of ws i) → at_of ws POOL_PLACE ≤ at_of us POOL_PLACE
    → Holds ws u → Holds us u
holds_on ws us u stays more h = record {
  few = h.few;
  are_locks = h.are_locks;
  under = λ i n p. let t = h.under i n p in (stays i n p ∙ t.0, t.1);
  given = λ c p. let t = h.given c p in omega arith;
}

-- A step of a pass, whose view becomes w while the words become us: lock words count it, and the pool word gives up what the quota does.
pub record LockStep (o : Opening) (s : State (Unit {0}) View) (id : ℕ) (v w : View) (us : List ℕ) : Type 0 where
  pub long : length us ≡ length s.words
  pub counted : (i : ℕ) → IsLock i → at_of us i + times i v.locks ≡ at_of s.words i + times i w.locks
  pub one : (i : ℕ) → sum_of (λ (u : View). times i u.locks) (set s.views id w) ≤ 1
  pub pool : at_of us POOL_PLACE + w.quota ≡ at_of s.words POOL_PLACE + v.quota
  pub given : at_of s.words POOL_PLACE ≤ at_of us POOL_PLACE
  pub others : (j : ℕ) (u : View) → j ≢ id → get_elem? s.views j ≡ some u → Holds us u
  pub mine : Holds us w

pub locked_after : (o : Opening) (s : State (Unit {0}) View) (id : ℕ) (v w : View) (us : List ℕ) → Locked o s → get_elem? s.views id ≡ some v
    → Kept o (record { words = us; homes = s.homes; views = set s.views id w }) → LockStep o s id v w us
    → Locked o (record { words = us; homes = s.homes; views = set s.views id w })
locked_after o s id v w us f at k g = record {
  kept = k;
  counted = λ i l.
      let t = f.counted i l in
      let z = sum_of-set (λ (u : View). times i u.locks) s.views id v w at in
      let e = g.counted i l in
      omega arith;
  one = g.one;
  holds = each_set (λ _ u. Holds us u) s.views id w g.others g.mine;
  pool =
      let t = f.pool in
      let z = sum_of-set (λ (u : View). u.quota) s.views id v w at in
      let e = g.pool in
      let l = g.long in
      omega arith;
  given = λ c p. let t = f.given c p in let e = g.given in omega arith;
}

-- locks that stay are still held once
pub one_on : (s : State (Unit {0}) View) (id : ℕ) (v w : View) → get_elem? s.views id ≡ some v → w.locks ≡ v.locks
    → ((i : ℕ) → sum_of (λ (u : View). times i u.locks) s.views ≤ 1) → (i : ℕ) → sum_of (λ (u : View). times i u.locks) (set s.views id w) ≤ 1
one_on s id v w at same one i =
    let t = one i in
    let z = sum_of-set (λ (u : View). times i u.locks) s.views id v w at in
    let e = ap (times i) same in
    omega arith

pub locked_quiet : (o : Opening) → IsKeptByQuiet o (Locked o)
locked_quiet o s id v w us f at q k = locked_after o s id v w us f at k (record {
  long = q.long;
  counted = λ i l. let t = q.lock_words i l in let e = ap (times i) q.locks in omega arith;
  one = one_on s id v w at q.locks f.one;
  pool = let t = q.pool_word in let e = q.quota in omega arith;
  given = let t = q.pool_word in omega arith;
  others = λ j u ne there. on j u there;
  mine =
      let h = on id v at in
      record {
        few = let t = h.few in let e = ap length q.locks in omega arith;
        are_locks = λ i p. h.are_locks i (let e = ap (times i) q.locks in omega arith);
        under = λ i n p.
            let t = h.under i n (subst (λ (z : List (ℕ × ℕ)). Has z (i, n)) q.under p) in
            (t.0, (t.1.0, t.1.1, (let e = ap (times t.1.0) q.locks in let m = t.1.2 in omega arith)));
        given = λ c p. h.given c (let e = ap (times c) q.held in let g = ap (times c) q.published in omega arith);
      };
})
  where
    on : (j : ℕ) (u : View) → get_elem? s.views j ≡ some u → Holds us u
    on j u there = holds_on s.words us u
        (λ i n p. let t = (f.kept.knows j u there).under i n p in q.places f.kept t.0 i t.1)
        (let t = q.pool_word in omega arith) (f.holds j u there)

pub locked_splits : (o : Opening) → IsKeptBySplits (Locked o)
locked_splits o id v cells bodies quota own among less s f at =
    let left = kept_part cells bodies quota v in
    let right = given_part cells bodies quota v in
    let total = λ (g : View → ℕ). split_total g s.views id v left right at in
    let h = f.holds id v at in
    record {
      kept = kept_split o s f.kept id v cells bodies quota own among at;
      counted = λ i l. let t = f.counted i l in let z = total (λ (u : View). times i u.locks) in omega arith;
      one = λ i. let t = f.one i in let z = total (λ (u : View). times i u.locks) in omega arith;
      holds = each_split (λ u. Holds s.words u) s.views id left right f.holds
          (record {
            few = h.few;
            are_locks = h.are_locks;
            under = h.under;
            given = λ c p. h.given c (let b = times-without_all cells v.held own c in omega arith);
          })
          (record {
            few = omega arith;
            are_locks = λ i p. absurd (omega arith);
            under = λ i n p. absurd p;
            given = λ c p. h.given c (let b = own c in omega arith);
          });
      pool = let t = f.pool in let z = total (λ (u : View). u.quota) in omega arith;
      given = f.given;
    }

pub locked_joins : (o : Opening) → IsKeptByJoins (Locked o)
locked_joins o id v other u points bodies memory p b m none_held s f at apart there =
    let both = joined v u in
    let gone = spent points bodies memory in
    let total = λ (g : View → ℕ). join_total g s.views id other v u both gone at there in
    let h = f.holds id v at in
    let g = f.holds other u (was_there s.views id other both u apart there) in
    record {
      kept = kept_join o s f.kept id v other u points bodies memory p b m at apart there;
      counted = λ i l. let t = f.counted i l in let z = total (λ (u : View). times i u.locks) in let e = ap (times i) none_held in omega arith;
      one = λ i. let t = f.one i in let z = total (λ (u : View). times i u.locks) in omega arith;
      holds = each_join (λ u. Holds s.words u) s.views id other both gone f.holds
          (record {
            few = h.few;
            are_locks = h.are_locks;
            under = h.under;
            given = λ c q.
                let a = times-append c v.published u.published in
                given_one c (times c v.published + times c v.held) (times c u.published) (h.given c) (λ r. g.given c (omega arith)) (omega arith);
          })
          (record {
            few = omega arith;
            are_locks = λ i q. absurd (omega arith);
            under = λ i n q. absurd q;
            given = λ c q. absurd (omega arith);
          });
      pool = let t = f.pool in let z = total (λ (u : View). u.quota) in omega arith;
      given = f.given;
    }
  where
    given_one : (c a b : ℕ) → (1 ≤ a → c < at_of s.words POOL_PLACE) → (1 ≤ b → c < at_of s.words POOL_PLACE) → 1 ≤ a + b → c < at_of s.words POOL_PLACE
    given_one c zero b first second l = second (omega arith)
    given_one c (suc a) b first second l = first (omega arith)
