-- Steps on words that are not published: those of cells that a pass holds, of locks, and of the pool.
use Rattle.std.proofs.Common.{◌≡◌, ◌≢◌, ℕ, ◌+◌, ◌*◌, ◌<◌, ◌≤◌, List, [], length, set, sym, refl, ap, ◌∙◌, subst, inl, inr, arith, length-set}
use Rattle.std.proofs.Common.{get_or-set_same, get_or-set_other}
use mathlib.Core.Option.{some}
use mathlib.Core.Logic.{dite}
use native.Mathlib.Decide.{ℕ_discrete}
use lib.ListN.{get_elem?}
use Rattle.atomic_table.specs.Table.{State}
use Rattle.octant_code.specs.Points.{site_at}
use Rattle.tree_rule.specs.Words.{at_of, child_place, key_place}
use Rattle.tree_rule.specs.Flat.{ChildPlace, IsPlaceOf, StandsFor, TopPlace}
use Rattle.tree_rule.proofs.Laws.{stands_moved}
use Rattle.tree_passes.specs.declared.view.TheConstants.{ROW_WORDS}
use Rattle.tree_passes.specs.declared.view.View.{View}
use Rattle.tree_passes.specs.Counting.{times}
use Rattle.tree_passes.specs.Opening.{Opening}
use Rattle.tree_passes.specs.Passes.{IsBody, IsCell, Knows}
use Rattle.tree_passes.specs.Rule.{Kept, Parted}
use Rattle.tree_passes.proofs.Counts.{sum_of-add, sum_of_one, sum_of_two}
use Rattle.tree_passes.proofs.After.{Grows, kept_after, knows_less, knows_on, moves_not, parted_after}

-- a cell that a pass holds is not in the tree
pub not_in_tree : (o : Opening) (s : State (Unit {0}) View) (h : Kept o s) (id : ℕ) (v : View) → get_elem? s.views id ≡ some v → (c : ℕ)
    → 1 ≤ times c v.held → IsCell o h.cells c → ⊥
not_in_tree o s h id v at c mine (inl p) =
    let a = h.parted.cells_fresh c p in
    let b = sum_of_one (λ (u : View). times c u.published + times c u.held) s.views id v at in
    omega arith
not_in_tree o s h id v at c mine (inr p) =
    let a = h.parted.cells_once c in
    let d = h.parted.cells_are c in
    let e = sum_of-add (λ (u : View). times c u.published) (λ (u : View). times c u.held) s.views in
    let b = sum_of_one (λ (u : View). times c u.held) s.views id v at in
    omega arith

-- nor does another pass hold it
not_anothers : (o : Opening) (s : State (Unit {0}) View) (h : Kept o s) (id : ℕ) (v : View) → get_elem? s.views id ≡ some v → (c : ℕ) → 1 ≤ times c v.held
    → (j : ℕ) (u : View) → j ≢ id → get_elem? s.views j ≡ some u → times c u.held ≡ 0
not_anothers o s h id v at c mine j u apart there =
    let a = h.parted.cells_once c in
    let b = sum_of_two (λ (u : View). times c u.published + times c u.held) s.views j id u v there at apart in
    omega arith

-- a published word is in no cell that a pass holds
pub place_not_held : (o : Opening) (s : State (Unit {0}) View) (h : Kept o s) (id : ℕ) (v : View) → get_elem? s.views id ≡ some v → (key i c j : ℕ)
    → IsPlaceOf (at_of s.words) 0 1 (IsCell o h.cells) key i → 1 ≤ times c v.held → j < ROW_WORDS → child_place c j ≢ i
place_not_held o s h id v at key i c j (TopPlace k e) mine small = λ f. omega arith
place_not_held o s h id v at key i c j (ChildPlace d l p m k e) mine small =
    λ f. let one : d ≡ c = omega arith in not_in_tree o s h id v at c mine (subst (λ (z : ℕ). IsCell o h.cells z) one p)

-- the place is that of no published word and of no published cell's key
pub record IsAside (o : Opening) (s : State (Unit {0}) View) (h : Kept o s) (i : ℕ) : Type 0 where
  pub no_place : (key k : ℕ) → IsPlaceOf (at_of s.words) 0 1 (IsCell o h.cells) key k → k ≢ i
  pub no_key : (c : ℕ) → IsCell o h.cells c → key_place c ≢ i

-- a word aside may become another
module _ (o : Opening) (s : State (Unit {0}) View) (h : Kept o s) (i n : ℕ) (aside : IsAside o s h i) where
  abbrev later : List ℕ
  later = set s.words i n

  key_stays : (c : ℕ) → IsCell o h.cells c → at_of later (key_place c) ≡ at_of s.words (key_place c)
  key_stays c p = get_or-set_other s.words i (key_place c) n 0 (aside.no_key c p)

  place_stays : (key k : ℕ) → IsPlaceOf (at_of s.words) 0 1 (IsCell o h.cells) key k → at_of later k ≡ at_of s.words k
  place_stays key k p = get_or-set_other s.words i k n 0 (aside.no_place key k p)

  pub grows_aside : Grows o s.words later h.cells h.cells h.bodies h.bodies
  grows_aside = record {
    long = length-set s.words i n;
    later = record { cells_stay = λ c p. p; keys_stay = key_stays; words_go_on = λ key k p. inl (place_stays key k p) };
    bodies_stay = λ x p. p;
  }

  stand_aside : StandsFor (site_at o.sites) (at_of later) (at_of later 0) 1 (IsCell o h.cells) (IsBody o h.bodies)
  stand_aside =
      subst (λ (z : ℕ). StandsFor (site_at o.sites) (at_of later) z 1 (IsCell o h.cells) (IsBody o h.bodies)) (sym (place_stays 1 0 (TopPlace refl refl)))
      (stands_moved (site_at o.sites) (at_of s.words) (at_of later) (at_of s.words 0) 1 (IsCell o h.cells) (IsBody o h.bodies) key_stays
      (λ c k p l. place_stays (8 * at_of s.words (key_place c) + k) (child_place c k) (ChildPlace c k p l refl refl)) h.stand)

  pub kept_aside : (id : ℕ) (v w : View) → get_elem? s.views id ≡ some v → Parted o h.cells h.bodies (set s.views id w)
      → ((j : ℕ) (u : View) → j ≢ id → get_elem? s.views j ≡ some u → (c k : ℕ) → 1 ≤ times c u.held → k < ROW_WORDS → child_place c k ≢ i)
      → Knows o later h.cells h.bodies w → Kept o record { words = later; homes = s.homes; views = set s.views id w }
  kept_aside id v w at parted rows knows = kept_after o s h id v w later h.cells h.bodies at (record {
    grows = grows_aside;
    parted = parted;
    stand = stand_aside;
    inside = h.inside;
    apart = λ j u ne there c k p l. get_or-set_other s.words i (child_place c k) n 0 (rows j u ne there c k p l);
    knows = knows;
  })

-- a word of a cell that a pass holds is aside
pub held_aside : (o : Opening) (s : State (Unit {0}) View) (h : Kept o s) (id : ℕ) (v : View) → get_elem? s.views id ≡ some v → (c j i : ℕ)
    → 1 ≤ times c v.held → j < ROW_WORDS → i ≡ child_place c j → IsAside o s h i
held_aside o s h id v at c j i mine low is = record {
  no_place = λ key k p e. place_not_held o s h id v at key k c j p mine low (sym is ∙ sym e);
  no_key = λ d p e. let one : d ≡ c = omega arith in not_in_tree o s h id v at c mine (subst (λ (z : ℕ). IsCell o h.cells z) one p);
}

-- a word of a cell that the pass holds is written
module _ (o : Opening) (s : State (Unit {0}) View) (h : Kept o s) (id : ℕ) (v : View) (at : get_elem? s.views id ≡ some v) (c j i n : ℕ)
    (mine : 1 ≤ times c v.held) (low : j < ROW_WORDS) (is : i ≡ child_place c j) where
  abbrev us : List ℕ
  us = set s.words i n

  abbrev w : View
  w = record v { memory = set v.memory i n }

  k : Knows o s.words h.cells h.bodies v
  k = h.knows id v at

  aside : IsAside o s h i
  aside = held_aside o s h id v at c j i mine low is

  inside_words : i < length s.words
  inside_words = let t = k.inside c mine in omega arith

  -- the words of the cells that the pass holds are those that it wrote
  memory_is : (d l : ℕ) → 1 ≤ times d v.held → l < ROW_WORDS → at_of us (child_place d l) ≡ at_of (set v.memory i n) (child_place d l)
  memory_is d l p q = dite (ℕ_discrete (child_place d l) i)
      (λ e. ap (at_of us) e ∙ get_or-set_same s.words i n 0 inside_words
      ∙ sym (ap (at_of (set v.memory i n)) e ∙ get_or-set_same v.memory i n 0 (let t = k.long in let q = inside_words in omega arith)))
      (λ ne. get_or-set_other s.words i (child_place d l) n 0 ne ∙ k.memory d l p q ∙ sym (get_or-set_other v.memory i (child_place d l) n 0 ne))

  -- what the pass knows beside the cells that it holds
  on : Knows o us h.cells h.bodies (record v { held = [] })
  on = knows_on o s.words us h.cells h.cells h.bodies h.bodies (grows_aside o s h i n aside) (record v { held = [] }) (λ d l p q. absurd (omega arith))
      (knows_less (λ d. omega arith) k.under k)

  pub kept_stored : Kept o record { words = us; homes = s.homes; views = set s.views id w }
  kept_stored = kept_aside o s h i n aside id v w at
      (parted_after o h.cells h.cells h.bodies h.bodies s.views id v w at
      (moves_not v w h.cells h.bodies (record { todo = refl; done = refl; held = refl; published = refl })) h.parted)
      (λ q u ne there d l p m e. let one : d ≡ c = omega arith in
      let held : 1 ≤ times c u.held = subst (λ (z : ℕ). 1 ≤ times z u.held) one p in
      let none_there = not_anothers o s h id v at c mine q u ne there in
      omega arith)
      (record {
        points = k.points;
        opening = k.opening;
        long = length-set v.memory i n ∙ on.long;
        memory = memory_is;
        inside = λ d p. let t = k.inside d p in let l = length-set s.words i n in omega arith;
        cell_notes = on.cell_notes;
        body_notes = on.body_notes;
        seen = k.seen;
        under = on.under;
      })
