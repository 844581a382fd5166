-- The rule of a tree without locks, and its exchange.
use Rattle.std.proofs.Common.{◌≡◌, ◌≢◌, ℕ, eqb, Bool, List, [], ◌∷◌, ◌++◌, get_or, set, sym, refl, ap, ◌∙◌, subst, arith, eq-eqb, ne_eqb, get_or-set_other}
use mathlib.Core.Option.{none}
use mathlib.Core.Logic.{dite}
use native.Mathlib.Decide.{ℕ_discrete}
use prog.Atomic.{either}
use Rattle.atomic_table.specs.Table.{Allows, State, keeps, step, stepped}
use Rattle.tree_rule.specs.Words.{at_of, lock_place}
use Rattle.tree_rule.specs.Flat.{ChildPlace, IsPlaceOf, TopPlace}
use Rattle.tree_rule.specs.declared.words.TheConstants.{POOL_PLACE}
use Rattle.tree_passes.specs.declared.view.View.{View}
use Rattle.tree_passes.specs.Opening.{Opening}
use Rattle.tree_passes.specs.Passes.{after_publication, given_part, IsCell, joined, kept_part, KnowsPlace, spent}
use Rattle.tree_passes.specs.Rule.{Free, Kept}
use Rattle.tree_passes.specs.Looks.{Learns}
use Rattle.tree_passes.specs.Locks.{CellsLock, IsLock, RootsLock}
use Rattle.tree_passes.proofs.Keeps.{IsKeptByJoins, IsKeptByQuiet, IsKeptBySplits}
use Rattle.tree_passes.specs.Plays.{exchanged, IsReadyFor, Mine}
use Rattle.tree_passes.proofs.After.{reviewed, set_read}
use Rattle.tree_passes.proofs.Looking.{answer, same_key, there}
use Rattle.tree_passes.proofs.Parting.{kept_join, kept_split}
use Rattle.tree_passes.proofs.Publishing.{kept_published}

-- a published word is no lock
pub place_no_lock : (at : ℕ → ℕ) (P : ℕ → Type 0) (key i w : ℕ) → IsPlaceOf at 0 1 P key i → IsLock w → w ≢ i
place_no_lock at P key i w (TopPlace a b) (RootsLock d) e = omega arith
place_no_lock at P key i w (TopPlace a b) (CellsLock d f) e = omega arith
place_no_lock at P key i w (ChildPlace c k p l a b) (RootsLock d) e = omega arith
place_no_lock at P key i w (ChildPlace c k p l a b) (CellsLock d f) e = omega arith

-- nor the pool word
pub place_no_pool : (at : ℕ → ℕ) (P : ℕ → Type 0) (key i : ℕ) → IsPlaceOf at 0 1 P key i → POOL_PLACE ≢ i
place_no_pool at P key i (TopPlace a b) e = omega arith
place_no_pool at P key i (ChildPlace c k p l a b) e = omega arith

-- locks and pool are not set where their words stay
free_with : (o : Opening) (s t : State (Unit {0}) View) → Free o s → Kept o t → ((i : ℕ) → IsLock i → at_of t.words i ≡ at_of s.words i)
    → at_of t.words POOL_PLACE ≡ at_of s.words POOL_PLACE → Free o t
free_with o s t f k locks pool = record {
  kept = k;
  unlocked = record {
    second = locks 1 (RootsLock refl) ∙ f.unlocked.second;
    third = pool ∙ f.unlocked.third;
    locks = λ c m. locks (lock_place c) (CellsLock c refl)
        ∙ f.unlocked.locks c (let a = f.kept.opened.long in let b = k.opened.long in omega arith);
  };
}

pub free_quiet : (o : Opening) → IsKeptByQuiet o (Free o)
free_quiet o s id v w us f at q k = free_with o s (record { words = us; homes = s.homes; views = set s.views id w }) f k q.lock_words q.pool_word

pub free_splits : (o : Opening) → IsKeptBySplits (Free o)
free_splits o id v cells bodies quota own among less s f at = free_with o s (record {
  words = s.words;
  homes = s.homes;
  views = set s.views id (kept_part cells bodies quota v) ++ given_part cells bodies quota v ∷ [];
}) f (kept_split o s f.kept id v cells bodies quota own among at) (λ i l. refl) refl

pub free_joins : (o : Opening) → IsKeptByJoins (Free o)
free_joins o id v other u points bodies memory p b m none_held s f at apart there_now = free_with o s (record {
  words = s.words;
  homes = s.homes;
  views = set (set s.views id (joined v u)) other (spent points bodies memory);
}) f (kept_join o s f.kept id v other u points bodies memory p b m at apart there_now) (λ i l. refl) refl

-- a published word is exchanged
pub exchanges : (o : Opening) (slots id : ℕ) (me : Mine) (i key old new : ℕ) (cells bodies : List ℕ) → KnowsPlace me.0 i key
    → IsReadyFor me.0 key old new cells bodies
    → Allows (Free o) slots id me i (λ n. either (eqb n old) new n) (exchanged cells bodies (step slots i old new none) me)
exchanges o slots id me i key old new cells bodies place r s f len at small =
    let h = f.kept in
    let v = me.0 in
    let x : ℕ = get_or s.words i 0 in
    dite (ℕ_discrete x old)
    (λ (hit : x ≡ old).
    let w = after_publication v cells bodies in
    let spot = there o s h id v at i key place in (
      w,
      keeps,
      tt,
      subst (λ (b : Bool). Free o (stepped s i (either b new x) id me.1 w keeps)) (sym (eq-eqb x old hit))
          (free_with o s (record { words = set s.words i new; homes = s.homes; views = set s.views id w }) f
          (kept_published o s h id v at i key old new cells bodies place hit r w (record { todo = refl; done = refl; held = refl; published = refl })
          (λ us cells bodies k. k))
          (λ q l. get_or-set_other s.words i q new 0 (place_no_lock (at_of s.words) (IsCell o h.cells) key i q spot l))
          (get_or-set_other s.words i POOL_PLACE new 0 (place_no_pool (at_of s.words) (IsCell o h.cells) key i spot))),
      (refl, λ other q. ((λ _. refl), (λ n. absurd (n hit)))),
    ))
    (λ (miss : x ≢ old).
    let a = answer o s h id v at i key (there o s h id v at i key place) in (
      a.view,
      keeps,
      tt,
      subst (λ (b : Bool). Free o (stepped s i (either b new x) id me.1 a.view keeps)) (sym (ne_eqb x old miss))
          (subst (λ (us : List ℕ). Free o record { words = us; homes = s.homes; views = set s.views id a.view }) (sym (set_read s.words i))
          (free_with o s (record { words = s.words; homes = s.homes; views = set s.views id a.view }) f
          (reviewed o s h id v a.view at (record {
            todo = ap (λ (z : View). z.todo) a.learns.view;
            done = ap (λ (z : View). z.done) a.learns.view;
            held = ap (λ (z : View). z.held) a.learns.view;
            published = ap (λ (z : View). z.published) a.learns.view;
          }) a.knows) (λ i l. refl) refl)),
      (
        refl,
        λ other q. (
          (λ e. absurd (miss e)),
          (λ _. subst (λ (z : ℕ). Learns v i z x a.view) (same_key o s h id v at i key (there o s h id v at i key place) other q) a.learns),
        ),
      ),
    ))
