-- Published words are loaded and stored under their lock.
use Rattle.std.proofs.Common.{◌≡◌, ◌≢◌, ℕ, ◌≤◌, cond, eqb, Bool, List, [], ◌∷◌, get_or, set, sym, refl, ap, ◌∙◌, subst, inl, inr, arith, eq-eqb}
use Rattle.std.proofs.Common.{ne_eqb, length-set, get_or-set_same, get_or-set_other}
use mathlib.Core.Option.{none}
use mathlib.Core.Logic.{dite}
use native.Mathlib.Decide.{ℕ_discrete}
use Rattle.atomic_table.specs.Table.{Allows, keeps, step}
use Rattle.tree_rule.specs.Words.{at_of}
use Rattle.tree_rule.specs.declared.words.TheConstants.{POOL_PLACE}
use Rattle.tree_passes.specs.declared.view.View.{View}
use Rattle.tree_passes.specs.Counting.{Has, times}
use Rattle.tree_passes.specs.Opening.{Opening}
use Rattle.tree_passes.specs.Passes.{after_publication, HasKey, IsCell, KnowsPlace}
use Rattle.tree_passes.specs.Looks.{Looked}
use Rattle.tree_passes.specs.Locks.{IsLock, IsLockOf, Locked, OfChild, OfRoot}
use Rattle.tree_passes.specs.Plays.{changed, IsReadyFor, looked_under, Mine, put}
use Rattle.tree_passes.proofs.Counts.{sum_of_two, times-append, times-without_all}
use Rattle.tree_passes.proofs.After.{knows_less, place_inside, reviewed, set_read}
use Rattle.tree_passes.proofs.Looking.{after_load, knows_load, looked_load, same_key, there}
use Rattle.tree_passes.proofs.Publishing.{kept_published}
use Rattle.tree_passes.proofs.FreeSteps.{place_no_lock, place_no_pool}
use Rattle.tree_passes.proofs.LockedRule.{holds_on, locked_after, one_on}

-- a word has one lock
one_lock : (i v w : ℕ) → IsLockOf i v → IsLockOf i w → v ≡ w
one_lock i v w (OfRoot a b) (OfRoot c d) = b ∙ sym d
one_lock i v w (OfRoot a b) (OfChild c k l e f) = absurd (omega arith)
one_lock i v w (OfChild c k l e f) (OfRoot a b) = absurd (omega arith)
one_lock i v w (OfChild c k l e f) (OfChild d j m g h) = omega arith

-- a published word is loaded under its lock
pub looks_under : (o : Opening) (slots id : ℕ) (me : Mine) (i key w : ℕ) → KnowsPlace me.0 i key → IsLockOf i w → 1 ≤ times w me.0.locks
    → Allows (Locked o) slots id me i (λ n. n) (looked_under (step slots i 0 0 none) me)
looks_under o slots id me i key w place lock mine s f len at small =
    let v = me.0 in
    let h = f.kept in
    let value : ℕ = get_or s.words i 0 in
    let z = after_load o s h id v at i key (there o s h id v at i key place) in
    let x = record z { under = (i, value) ∷ v.under } in
    let k = knows_load o s h id v at i key (there o s h id v at i key place) in (
      x,
      keeps,
      tt,
      subst (λ (us : List ℕ). Locked o record { words = us; homes = s.homes; views = set s.views id x }) (sym (set_read s.words i))
          (locked_after o s id v x s.words f at
          (reviewed o s h id v x at (record { todo = refl; done = refl; held = refl; published = refl }) (knows_less (λ c. omega arith)
          (λ j n q. elim q [
            | inl e ↦ subst (λ (p : ℕ × ℕ). HasKey (at_of s.words) (IsCell o h.cells) p.0) e (key, there o s h id v at i key place)
            | inr q ↦ (h.knows id v at).under j n q
          ]) k))
          (record {
            long = refl;
            counted = λ j l. refl;
            one = one_on s id v x at refl f.one;
            pool = refl;
            given = omega arith;
            others = λ j u ne e. f.holds j u e;
            mine =
                let g = f.holds id v at in
                record {
                  few = g.few;
                  are_locks = g.are_locks;
                  under = λ j n q. elim q [
                    | inl e ↦ subst (λ (p : ℕ × ℕ). (at_of s.words p.0 ≡ p.1) × ((w : ℕ) × IsLockOf p.0 w × (1 ≤ times w v.locks))) e (refl, (w, lock, mine))
                    | inr q ↦ g.under j n q
                  ];
                  given = g.given;
                };
          })),
      (
        refl,
        λ other q. record {
          plain = z;
          looked = subst (λ (y : ℕ). Looked v i y value z) (same_key o s h id v at i key (there o s h id v at i key place) other q)
              (looked_load o s h id v at i key (there o s h id v at i key place));
          view = refl;
        },
      ),
    )

-- what stands under the locks after a store
changed_has : (hs : List (ℕ × ℕ)) (i n j m : ℕ) → Has (changed hs i n) (j, m) → (old : ℕ) × Has hs (j, old) × (m ≡ cond (eqb j i) n old)
changed_has [] i n j m h = absurd h
changed_has (p ∷ ps) i n j m (inl e) =
    let is : p.0 ≡ j = ap (λ (q : ℕ × ℕ). q.0) e in
    (p.1, inl (λ k. (is k, p.1)), sym (ap (λ (q : ℕ × ℕ). q.1) e) ∙ ap (λ (z : ℕ). cond (eqb z i) n p.1) is)
changed_has (p ∷ ps) i n j m (inr h) = let r = changed_has ps i n j m h in (r.0, inr r.1, r.2)

-- a published word is stored under its lock, where the pass knows what it holds
pub puts : (o : Opening) (slots id : ℕ) (me : Mine) (i key w old new : ℕ) (cells bodies : List ℕ) → KnowsPlace me.0 i key → IsLockOf i w
    → 1 ≤ times w me.0.locks → Has me.0.under (i, old) → IsReadyFor me.0 key old new cells bodies
    → Allows (Locked o) slots id me i (λ _. new) (λ _. put cells bodies (step slots i new 0 none) me new)
puts o slots id me i key w old new cells bodies place lock mine known r s f len at small =
    let v = me.0 in
    let h = f.kept in
    let g = f.holds id v at in
    let hit = (g.under i old known).0 in
    let z = after_publication v cells bodies in
    let x = record z { under = changed v.under i new } in
    let us = set s.words i new in
    let spot = there o s h id v at i key place in
    let lock_stays = λ (q : ℕ) (l : IsLock q). get_or-set_other s.words i q new 0 (place_no_lock (at_of s.words) (IsCell o h.cells) key i q spot l) in
    let pool_stays = get_or-set_other s.words i POOL_PLACE new 0 (place_no_pool (at_of s.words) (IsCell o h.cells) key i spot) in (
      x,
      keeps,
      tt,
      locked_after o s id v x us f at
          (kept_published o s h id v at i key old new cells bodies place hit r x (record { todo = refl; done = refl; held = refl; published = refl })
          (λ us cs bs q. knows_less (λ c. omega arith) (λ j n p. let t = changed_has v.under i new j n p in q.under j t.0 t.1) q))
          (record {
            long = length-set s.words i new;
            counted = λ q l. let e = lock_stays q l in omega arith;
            one = one_on s id v x at refl f.one;
            pool = omega arith;
            given = omega arith;
            others = λ j u ne e.
                let b = f.holds j u e in
                holds_on s.words us u
                (λ l n p. get_or-set_other s.words i l new 0 (λ d.
                let t = b.under l n p in
                let one : t.1.0 ≡ w = one_lock i t.1.0 w (subst (λ (y : ℕ). IsLockOf y t.1.0) d t.1.1) lock in
                let both = sum_of_two (λ (y : View). times w y.locks) s.views j id u v e at ne in
                let most = f.one w in
                let other : 1 ≤ times w u.locks = subst (λ (y : ℕ). 1 ≤ times y u.locks) one t.1.2 in
                omega arith))
                (omega arith) b;
            mine = record {
              few = g.few;
              are_locks = g.are_locks;
              under = λ j m p.
                  let c = changed_has v.under i new j m p in
                  let t = g.under j c.0 c.1 in
                  dite (ℕ_discrete j i)
                  (λ (e : j ≡ i). (
                    ap (at_of us) e ∙ get_or-set_same s.words i new 0 (place_inside o s h key i spot)
                        ∙ sym (c.2 ∙ ap (λ (b : Bool). cond b new c.0) (eq-eqb j i e)),
                    t.1,
                  ))
                  (λ (e : j ≢ i). (
                    get_or-set_other s.words i j new 0 e ∙ t.0 ∙ sym (c.2 ∙ ap (λ (b : Bool). cond b new c.0) (ne_eqb j i e)),
                    t.1,
                  ));
              given = λ c p.
                  let a = times-append c cells v.published in
                  let b = times-without_all cells v.held r.held c in
                  let q = g.given c (omega arith) in
                  omega arith;
            };
          }),
      (refl, refl),
    )
