-- Facts between the steps of an insertion.
use Rattle.std.proofs.Common.{◌≡◌, ◌≢◌, ℕ, ◌+◌, ◌*◌, ◌^◌, ◌<◌, ◌≤◌, List, [], ◌∷◌, length, take, sym, refl, ap, ◌∙◌, subst, inl, arith}
use Rattle.std.proofs.lemmas.List.{length-take-le}
use Rattle.octant_code.specs.declared.limits.TheConstants.{LEVELS}
use Rattle.octant_code.specs.Space.{Site, key_of, octant_of}
use Rattle.octant_code.specs.Points.{site_at, ArePoints}
use Rattle.octant_code.proofs.Keys.{key-suc, key-zero}
use Rattle.tree_rule.specs.declared.words.TheConstants.{CELLS_OF_ONE, MOST_CELLS, POOL_PLACE, ROOT_LOCK}
use Rattle.tree_rule.specs.Words.{body_word, cell_word, child_place, lock_place}
use Rattle.tree_rule.specs.Naming.{NamesAs}
use Rattle.tree_rule.specs.declared.words.Named.{Named}
use Rattle.tree_rule.specs.declared.words.Named.TheVariants as named
use Rattle.tree_rule.proofs.Laws.{ACell, NoBody, OneBody, WordIs, word_is}
use Rattle.octree.specs.Stored.{word_count}
use Rattle.tree_passes.specs.declared.view.View.{View}
use Rattle.tree_passes.specs.Counting.{times, without}
use Rattle.tree_passes.specs.Locks.{OfChild, OfRoot}
use Rattle.tree_passes.specs.Looks.{Looked, Tells}
use Rattle.tree_passes.specs.Making.{HasWritten}
use Rattle.tree_passes.specs.Passes.{KnowsPlace}
use Rattle.tree_passes.specs.Turns.{Descends, IsFound, IsInserted, IsStill, IsThere}
use Rattle.tree_passes.proofs.Laws.{cell_instead, descends_from, found_learnt, inserted_from, inserted_published, place_below, place_still}
use Rattle.tree_passes.proofs.Laws.{still_learnt, still_on}
use Rattle.shared_tree.specs.declared.publisher.Spot.{Spot}
use Rattle.shared_tree.specs.declared.descent.Turn.{Turn}
use Rattle.shared_tree.specs.declared.descent.Turn.TheVariants as turn
use Rattle.shared_tree.specs.Publishing.{HasFoundOther, HasLearnt, HasPublished}
use Rattle.shared_tree.specs.Inserting.{IsAt, IsPutIn, LeadsTo}

-- what a word tells is small
pub word_small : (v : View) (key value : ℕ) → Tells v key value → ArePoints v.points → length v.memory ≤ word_count MOST_CELLS → value < 2 ^ 33
word_small v key value t rule few = small (word_is value)
  where
    small : WordIs value → value < 2 ^ 33
    small (NoBody e) = omega arith
    small (OneBody n e) = let q = (t.body n e).x_in in let f = rule.few in omega arith
    small (ACell c e) = let q = (t.cell c e).inside in omega arith

-- a pass that has learnt has what it had
pub still_has : (v w : View) → HasLearnt v w → IsStill v w
still_has v w h = subst (IsStill v) (sym h.view) (record {
  points = refl;
  opening = refl;
  long = refl;
  held = refl;
  quota = refl;
  published = refl;
  todo = refl;
  done = refl;
  seen = refl;
  changes = refl;
  locks = refl;
  more_loads = h.more_loads;
  cell_notes = h.cells_stay;
  body_notes = h.bodies_stay;
})

-- a publication has put the body in
pub inserted_put : (v w : View) (n : ℕ) (cells : List ℕ) → ((c : ℕ) → times c cells ≤ times c v.held) → HasPublished v w cells (n ∷ [])
    → IsInserted v w n cells
inserted_put v w n cells among h =
    let s = still_has v h.before h.learnt in
    inserted_from v h.before w n cells s
    (inserted_published h.before w n cells (λ c. let e = ap (times c) s.held in let a = among c in omega arith) h.view)

-- another word that was found, with the key of a cube
module _ (v w : View) (i key value : ℕ) (h : HasFoundOther v i key value w) where
  still_before : IsStill v h.before
  still_before = still_has v h.before h.learnt

  pub other_still : IsStill v w
  other_still = still_on v h.before w still_before (still_learnt h.before i key value w h.learns)

  pub other_found : value ≢ 0 → IsFound w i key value
  other_found full = found_learnt h.before i key value w h.learns full

  -- where the pass knew the word to have named a body it names a cell
  pub other_cell : (x : ℕ) → IsThere v i key x → value ≢ body_word x → (d : ℕ) × (value ≡ cell_word d)
  other_cell x t apart = cell_instead h.before i key value x w h.learns (still_before.body_notes _ t.note) apart

  pub other_below : (d : ℕ) → value ≡ cell_word d → Descends v w key d
  other_below d e = record { still = other_still; below = (other_found (λ z. omega arith)).cell d e }

  pub other_small : (words : ℕ) (sites : List Site) (n : ℕ) (s : Spot) → IsAt v words sites n s → value < 2 ^ 33
  other_small words sites n s at = word_small h.before key value h.learns.tells (subst ArePoints (sym (still_before.points ∙ at.points)) at.rule)
      (let a = still_before.long in let b = at.long in let f = at.few in omega arith)

-- a word that names a cell is told to
pub names_cell : (value : ℕ) (told : Named) (d : ℕ) → NamesAs value told → value ≡ cell_word d → ((x : ℕ) → told ≡ named.Cell x → ⊥) → ⊥
names_cell value named.Nothing d h e none = omega arith
names_cell value (named.Body n) d h e none = omega arith
names_cell value (named.Cell x) d h e none = none x refl

-- the pass is at the word still
pub at_on : (v w : View) (words : ℕ) (sites : List Site) (n : ℕ) (s : Spot) → IsStill v w → (w.locks ≡ []) × (w.under ≡ []) → IsAt v words sites n s
    → IsAt w words sites n s
at_on v w words sites n s h free at = record {
  points = h.points ∙ at.points;
  long = h.long ∙ at.long;
  some = at.some;
  few = at.few;
  rule = at.rule;
  n_in = at.n_in;
  todo = subst (λ (z : List ℕ). 1 ≤ times n z) (sym h.todo) at.todo;
  low = at.low;
  spot = at.spot;
  known = place_still v w _ _ h at.known;
  no_lock = free.0;
  none_under = free.1;
}

-- and after a plain load
pub looked_free : (v : View) (i key value : ℕ) (w : View) → Looked v i key value w → (v.locks ≡ []) × (v.under ≡ []) → (w.locks ≡ []) × (w.under ≡ [])
looked_free v i key value w l free = (ap (λ (z : View). z.locks) l.view ∙ free.0, ap (λ (z : View). z.under) l.view ∙ free.1)

-- or where it wrote into its cells
pub written_free : (v w : View) (cells : List ℕ) → HasWritten v w cells → (v.locks ≡ []) × (v.under ≡ []) → (w.locks ≡ []) × (w.under ≡ [])
written_free v w cells h free = (ap (λ (z : View). z.locks) h.view ∙ free.0, ap (λ (z : View). z.under) h.view ∙ free.1)

-- what a word tells a pass that is at it is small
pub word_at : (v u : View) (words : ℕ) (sites : List Site) (n : ℕ) (s : Spot) (key value : ℕ) → IsStill v u → Tells u key value → IsAt v words sites n s
    → value < 2 ^ 33
word_at v u words sites n s key value h t at =
    word_small u key value t (subst ArePoints (sym (h.points ∙ at.points)) at.rule) (let a = h.long in let b = at.long in let f = at.few in omega arith)

-- the body is put in, with these cells
pub put_with : (v w : View) (n : ℕ) (cells : List ℕ) → length cells ≤ CELLS_OF_ONE → IsInserted v w n cells → IsPutIn v w n cells
put_with v w n cells few i = record {
  points = i.points;
  opening = i.opening;
  long = i.long;
  held = i.held;
  taken = few;
  quota = i.quota;
  todo = i.todo;
  done = i.done;
  seen = i.seen;
  changes = i.changes;
  locks = i.locks;
}

-- or with the first of the spare ones
pub put_taken : (v w : View) (n used : ℕ) (spare : List ℕ) → used ≤ CELLS_OF_ONE → used ≤ length spare → IsInserted v w n (take used spare)
    → IsPutIn v w n (take used spare)
put_taken v w n used spare few enough i = put_with v w n (take used spare) (let l = length-take-le used spare enough in omega arith) i

-- what a visit leads to, where the pass only loaded before it
pub leads_still : (u v w : View) (n : ℕ) (spare : List ℕ) (key : ℕ) (t : Turn) → IsStill u v → LeadsTo v w n spare key t
    → LeadsTo u w n spare key t
leads_still u v w n spare key (turn.Done used) s p = (p.0, put_still p.1)
  where
    put_still : IsPutIn v w n (take used spare) → IsPutIn u w n (take used spare)
    put_still i = record {
      points = i.points ∙ s.points;
      opening = i.opening ∙ s.opening;
      long = i.long ∙ s.long;
      held = λ c. i.held c ∙ ap (times c) s.held;
      taken = i.taken;
      quota = i.quota ∙ s.quota;
      todo = i.todo ∙ ap (without n) s.todo;
      done = i.done ∙ ap (λ (l : List ℕ). n ∷ l) s.done;
      seen = i.seen ∙ s.seen;
      changes = i.changes ∙ ap (λ (c : ℕ). c + 1) s.changes;
      locks = i.locks ∙ s.locks;
    }
leads_still u v w n spare key (turn.Below d) s p = descends_from u v w key d s p

-- the word of the root's cube, where each way down begins
pub at_root : (v : View) (words : ℕ) (sites : List Site) (n : ℕ) → v.points ≡ sites → length v.memory ≡ words → POOL_PLACE < words
    → words ≤ word_count MOST_CELLS → ArePoints sites → n < length sites → 1 ≤ times n v.todo → (v.locks ≡ []) × (v.under ≡ [])
    → IsAt v words sites n (record { word = 0; lock = ROOT_LOCK; level = 0 })
at_root v words sites n points long some few rule n_in todo free = record {
  points = points;
  long = long;
  some = some;
  few = few;
  rule = rule;
  n_in = n_in;
  todo = todo;
  low = omega arith;
  spot = record { inside = omega arith; lock_inside = omega arith; lock_is = OfRoot refl refl };
  known = inl (refl, key-zero (site_at sites n));
  no_lock = free.0;
  none_under = free.1;
}

-- and the word of a child of the cell that it leads to
pub at_below : (v w : View) (words : ℕ) (sites : List Site) (n : ℕ) (s s' : Spot) (d k : ℕ) → IsAt v words sites n s
    → Descends v w (key_of (site_at sites n) s.level) d → (w.locks ≡ []) × (w.under ≡ []) → k ≡ octant_of (site_at sites n) s.level → k < 8
    → s'.word ≡ child_place d k → s'.lock ≡ lock_place d → s'.level ≡ s.level + 1 → IsAt w words sites n s'
at_below v w words sites n s s' d k at below free is small word lock level =
    let low : s.level < LEVELS = below.below.cell.shallow (site_at sites n) s.level refl in
    let inside = below.below.cell.inside in
    let long = below.still.long ∙ at.long in
    let key : 8 * key_of (site_at sites n) s.level + k ≡ key_of (site_at sites n) s'.level =
    ap (λ (z : ℕ). 8 * key_of (site_at sites n) s.level + z) is ∙ sym (key-suc (site_at sites n) s.level) ∙ ap (key_of (site_at sites n)) (omega arith) in
    record {
      points = below.still.points ∙ at.points;
      long = long;
      some = at.some;
      few = at.few;
      rule = at.rule;
      n_in = at.n_in;
      todo = subst (λ (z : List ℕ). 1 ≤ times n z) (sym below.still.todo) at.todo;
      low = omega arith;
      spot = record { inside = omega arith; lock_inside = omega arith; lock_is = OfChild d k small word lock };
      known = subst (λ (z : ℕ). KnowsPlace w z (key_of (site_at sites n) s'.level)) (sym word)
          (subst (KnowsPlace w (child_place d k)) key (place_below w _ d k below.below small));
      no_lock = free.0;
      none_under = free.1;
    }
