-- What stays true when the words, the counts and one view change as the rule lets them.
use Rattle.std.proofs.Common.{◌≡◌, ◌≢◌, ℕ, zero, suc, ◌+◌, ◌*◌, ◌<◌, ◌≤◌, List, [], ◌∷◌, length, set, get_or, sym, refl, ap, ◌∙◌, subst, inl, inr}
use Rattle.std.proofs.Common.{⊎_elim, arith}
use mathlib.Core.Option.{some}
use lib.ListN.{get_elem?}
use Rattle.atomic_table.specs.Table.{State}
use Rattle.atomic_table.proofs.Lists.{at_set}
use Rattle.octant_code.specs.Points.{site_at}
use Rattle.tree_rule.specs.Words.{at_of, child_place, lock_place}
use Rattle.tree_rule.specs.Flat.{ChildPlace, IsPlaceOf, StandsFor, TopPlace}
use Rattle.tree_rule.specs.Notes.{AreLater}
use Rattle.tree_rule.proofs.Laws.{body_note_stays, cell_note_stays, place_kept}
use Rattle.tree_passes.specs.declared.view.TheConstants.{ROW_WORDS}
use Rattle.tree_passes.specs.declared.view.View.{View}
use Rattle.tree_passes.specs.Counting.{times, Has}
use Rattle.tree_passes.specs.Opening.{Opening}
use Rattle.tree_passes.specs.Passes.{HasKey, IsBody, IsCell, Knows, KnowsPlace}
use Rattle.tree_passes.specs.Rule.{Kept, Parted}
use Rattle.tree_passes.proofs.Counts.{sum_of-set}

-- the words and the counts of published cells and bodies change as they may
pub record Grows (o : Opening) (ws us : List ℕ) (cells more bodies others : ℕ → ℕ) : Type 0 where
  pub long : length us ≡ length ws
  pub later : AreLater (at_of ws) (at_of us) 0 1 (IsCell o cells) (IsCell o more)
  pub bodies_stay : (x : ℕ) → IsBody o bodies x → IsBody o others x

-- cells and bodies stay where their counts grow
pub cell_on : (o : Opening) (cells more : ℕ → ℕ) → ((c : ℕ) → cells c ≤ more c) → (c : ℕ) → IsCell o cells c → IsCell o more c
cell_on o cells more g c (inl h) = inl h
cell_on o cells more g c (inr h) = let q = g c in inr (omega arith)

pub body_on : (o : Opening) (bodies others : ℕ → ℕ) → ((x : ℕ) → bodies x ≤ others x) → (x : ℕ) → IsBody o bodies x → IsBody o others x
body_on o bodies others g x (inl h) = inl h
body_on o bodies others g x (inr h) = let q = g x in inr (omega arith)

-- what a pass knows stays true
pub knows_on : (o : Opening) (ws us : List ℕ) (cells more bodies others : ℕ → ℕ) → Grows o ws us cells more bodies others → (v : View)
    → ((c j : ℕ) → 1 ≤ times c v.held → j < ROW_WORDS → at_of us (child_place c j) ≡ at_of ws (child_place c j)) → Knows o ws cells bodies v
    → Knows o us more others v
knows_on o ws us cells more bodies others g v untouched k = record {
  points = k.points;
  opening = k.opening;
  long = k.long ∙ sym g.long;
  memory = λ c j h l. untouched c j h l ∙ k.memory c j h l;
  inside = λ c h. let t = k.inside c h in let l = g.long in omega arith;
  cell_notes = λ c key h. cell_note_stays (at_of ws) (at_of us) 0 1 (IsCell o cells) (IsCell o more) g.later c key (k.cell_notes c key h);
  body_notes = λ i x h. body_note_stays (at_of ws) (at_of us) 0 1 (IsCell o cells) (IsCell o more) g.later i x (k.body_notes i x h);
  seen = λ x h. g.bodies_stay x (k.seen x h);
  under = λ i n h. let t = k.under i n h in
      (t.0, place_kept (at_of ws) (at_of us) 0 1 (IsCell o cells) (IsCell o more) t.0 i g.later.cells_stay g.later.keys_stay t.1);
}

-- what is known is known with fewer cells too, where the words are known that other facts under locks are of
pub knows_less : {o : Opening} {ws : List ℕ} {cells bodies : ℕ → ℕ} {v : View} {held published todo done locks : List ℕ} {quota changes : ℕ}
    {under : List (ℕ × ℕ)} → ((c : ℕ) → times c held ≤ times c v.held) → ((i n : ℕ) → Has under (i, n) → HasKey (at_of ws) (IsCell o cells) i)
    → Knows o ws cells bodies v
    → Knows o ws cells bodies
    (record v { held = held; quota = quota; published = published; todo = todo; done = done; changes = changes; locks = locks; under = under })
knows_less less there k = record {
  points = k.points;
  opening = k.opening;
  long = k.long;
  memory = λ c j h. k.memory c j (let l = less c in omega arith);
  inside = λ c h. k.inside c (let l = less c in omega arith);
  cell_notes = k.cell_notes;
  body_notes = k.body_notes;
  seen = k.seen;
  under = there;
}

-- the lists of a view change, and the counts with them
pub record Moves (v w : View) (cells more bodies others : ℕ → ℕ) : Type 0 where
  pub published : (c : ℕ) → times c w.published + cells c ≡ times c v.published + more c
  pub held : (c : ℕ) → times c w.published + times c w.held ≤ times c v.published + times c v.held
  pub done : (x : ℕ) → times x w.done + bodies x ≡ times x v.done + others x
  pub todo : (x : ℕ) → times x w.todo + times x w.done ≡ times x v.todo + times x v.done

-- the view's lists stay
pub record SameLists (v w : View) : Type 0 where
  pub todo : w.todo ≡ v.todo
  pub done : w.done ≡ v.done
  pub held : w.held ≡ v.held
  pub published : w.published ≡ v.published

pub moves_same : (v w x : View) (cells more bodies others : ℕ → ℕ) → Moves v w cells more bodies others → SameLists w x
    → Moves v x cells more bodies others
moves_same v w x cells more bodies others m l = record {
  published = λ c. let e = ap (times c) l.published in let q = m.published c in omega arith;
  held = λ c. let e = ap (times c) l.published in let f = ap (times c) l.held in let q = m.held c in omega arith;
  done = λ y. let e = ap (times y) l.done in let q = m.done y in omega arith;
  todo = λ y. let e = ap (times y) l.done in let f = ap (times y) l.todo in let q = m.todo y in omega arith;
}

pub moves_not : (v w : View) (cells bodies : ℕ → ℕ) → SameLists v w → Moves v w cells cells bodies bodies
moves_not v w cells bodies l =
    moves_same v v w cells cells bodies bodies
    (record { published = λ c. refl; held = λ c. omega arith; done = λ x. refl; todo = λ x. refl }) l

pub parted_after : (o : Opening) (cells more bodies others : ℕ → ℕ) (views : List View) (id : ℕ) (v w : View) → get_elem? views id ≡ some v
    → Moves v w cells more bodies others → Parted o cells bodies views → Parted o more others (set views id w)
parted_after o cells more bodies others views id v w at m p = record {
  cells_are = λ c. let t = p.cells_are c in let s = sum_of-set (λ (u : View). times c u.published) views id v w at in let e = m.published c in omega arith;
  bodies_are = λ x. let t = p.bodies_are x in let s = sum_of-set (λ (u : View). times x u.done) views id v w at in let e = m.done x in omega arith;
  entrusted = λ x.
      let t = p.entrusted x in let s = sum_of-set (λ (u : View). times x u.todo + times x u.done) views id v w at in let e = m.todo x in omega arith;
  cells_once = λ c.
      let t = p.cells_once c in let s = sum_of-set (λ (u : View). times c u.published + times c u.held) views id v w at in let e = m.held c in omega arith;
  cells_fresh = λ c h.
      let t = p.cells_fresh c h in let s = sum_of-set (λ (u : View). times c u.published + times c u.held) views id v w at in let e = m.held c in omega arith;
}

-- what holds of each view, after one has changed
pub each_set : (P : ℕ → View → Type 0) (views : List View) (id : ℕ) (w : View) → ((j : ℕ) (u : View) → j ≢ id → get_elem? views j ≡ some u → P j u) → P id w
    → (j : ℕ) (u : View) → get_elem? (set views id w) j ≡ some u → P j u
each_set P views id w others mine j u e =
    ⊎_elim
    (λ (x : (j ≡ id) × (w ≡ u)). subst (λ (y : ℕ × View). P y.0 y.1) (λ i. (sym x.0 i, x.1 i)) mine)
    (λ (x : (j ≢ id) × (get_elem? views j ≡ some u)). others j u x.0 x.1)
    (at_set views id j w u e)

-- A step of a pass, whose view becomes w while the words become us.
pub record Goes (o : Opening) (s : State (Unit {0}) View) (h : Kept o s) (id : ℕ) (v w : View) (us : List ℕ) (more others : ℕ → ℕ) : Type 0 where
  pub grows : Grows o s.words us h.cells more h.bodies others
  pub parted : Parted o more others (set s.views id w)
  pub stand : StandsFor (site_at o.sites) (at_of us) (at_of us 0) 1 (IsCell o more) (IsBody o others)
  pub inside : (c : ℕ) → IsCell o more c → lock_place c < length s.words
  pub apart : (j : ℕ) (u : View) → j ≢ id → get_elem? s.views j ≡ some u → (c k : ℕ) → 1 ≤ times c u.held → k < ROW_WORDS
      → at_of us (child_place c k) ≡ at_of s.words (child_place c k)
  pub knows : Knows o us more others w

-- each step keeps the rule
pub kept_after : (o : Opening) (s : State (Unit {0}) View) (h : Kept o s) (id : ℕ) (v w : View) (us : List ℕ) (more others : ℕ → ℕ)
    → get_elem? s.views id ≡ some v → Goes o s h id v w us more others → Kept o record { words = us; homes = s.homes; views = set s.views id w }
kept_after o s h id v w us more others at g = record {
  cells = more;
  bodies = others;
  opened = h.opened;
  long = g.grows.long ∙ h.long;
  stand = g.stand;
  inside = λ c p. let t = g.inside c p in let l = g.grows.long in omega arith;
  keys_stay = λ c p. g.grows.later.keys_stay c (inl p) ∙ h.keys_stay c p;
  parted = g.parted;
  knows = each_set (λ j u. Knows o us more others u) s.views id w
      (λ j u n e. knows_on o s.words us h.cells more h.bodies others g.grows u (g.apart j u n e) (h.knows j u e)) g.knows;
}

-- the words stay
pub grows_not : (o : Opening) (ws : List ℕ) (cells bodies : ℕ → ℕ) → Grows o ws ws cells cells bodies bodies
grows_not o ws cells bodies = record {
  long = refl;
  later = record { cells_stay = λ c p. p; keys_stay = λ c p. refl; words_go_on = λ key i p. inl refl };
  bodies_stay = λ x p. p;
}

-- a step that leaves the words and the lists as they are
pub reviewed : (o : Opening) (s : State (Unit {0}) View) (h : Kept o s) (id : ℕ) (v w : View) → get_elem? s.views id ≡ some v → SameLists v w
    → Knows o s.words h.cells h.bodies w → Kept o record { words = s.words; homes = s.homes; views = set s.views id w }
reviewed o s h id v w at l k = kept_after o s h id v w s.words h.cells h.bodies at (record {
  grows = grows_not o s.words h.cells h.bodies;
  parted = parted_after o h.cells h.cells h.bodies h.bodies s.views id v w at (moves_not v w h.cells h.bodies l) h.parted;
  stand = h.stand;
  inside = h.inside;
  apart = λ j u n e c k p l. refl;
  knows = k;
})

-- a word that the pass knows to be published is
pub known_place : (o : Opening) (ws : List ℕ) (cells bodies : ℕ → ℕ) (v : View) → Knows o ws cells bodies v → (i key : ℕ) → KnowsPlace v i key
    → IsPlaceOf (at_of ws) 0 1 (IsCell o cells) key i
known_place o ws cells bodies v k i key (inl e) = TopPlace e.1 e.0
known_place o ws cells bodies v k i key (inr p) =
    let t = k.cell_notes p.0 p.2 p.3 in ChildPlace p.0 p.1 t.0 p.4 (p.6 ∙ ap (λ x. 8 * x + p.1) (sym t.1)) p.5

-- a published word lies in the table
pub place_inside : (o : Opening) (s : State (Unit {0}) View) (h : Kept o s) (key i : ℕ) → IsPlaceOf (at_of s.words) 0 1 (IsCell o h.cells) key i
    → i < length s.words
place_inside o s h key i (TopPlace k e) = let t = h.opened.long in let l = h.long in omega arith
place_inside o s h key i (ChildPlace c j p l k e) = let t = h.inside c p in omega arith

-- words that are read and written as they were stay
pub set_read : (l : List ℕ) (i : ℕ) → set l i (get_or l i 0) ≡ l
set_read [] i = refl
set_read (x ∷ xs) zero = refl
set_read (x ∷ xs) (suc i) = ap (λ (z : List ℕ). x ∷ z) (set_read xs i)
