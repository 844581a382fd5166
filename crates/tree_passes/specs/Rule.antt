-- The rule of the shared words, as both trees keep it, and that of a tree without locks.
use Rattle.std.specs.Prelude.{ℕ, ◌≡◌, ◌+◌, ◌<◌, ◌≤◌, List, length}
use mathlib.Core.Option.{some}
use lib.ListN.{get_elem?}
use Rattle.atomic_table.specs.Table.{State}
use Rattle.octant_code.specs.Points.{site_at}
use Rattle.tree_rule.specs.Words.{at_of, key_place, lock_place, HasCell}
use Rattle.tree_rule.specs.Flat.{StandsFor}
use Rattle.tree_rule.specs.Locks.{AreUnlocked}
use Rattle.tree_passes.specs.declared.view.View.{View}
use Rattle.tree_passes.specs.Counting.{times, sum_of}
use Rattle.tree_passes.specs.Opening.{IsOpened, Opening}
use Rattle.tree_passes.specs.Passes.{IsBody, IsCell, Knows}

-- The lists of all passes: the published cells and the bodies that were put in are theirs, the todo and done lists part what the opening entrusted,
-- and no cell stands in two places, or in one and in the start.
pub record Parted (o : Opening) (cells bodies : ℕ → ℕ) (views : List View) : Type 0 where
  pub cells_are : (c : ℕ) → cells c ≡ sum_of (λ v. times c v.published) views
  pub bodies_are : (x : ℕ) → bodies x ≡ sum_of (λ v. times x v.done) views
  pub entrusted : (x : ℕ) → sum_of (λ v. times x v.todo + times x v.done) views ≡ times x o.todo
  pub cells_once : (c : ℕ) → sum_of (λ v. times c v.published + times c v.held) views ≤ 1
  pub cells_fresh : (c : ℕ) → HasCell o.words c → sum_of (λ v. times c v.published + times c v.held) views ≡ 0

-- What both trees keep between any two steps: the words stand for the start's bodies and those that were put in, the start's cells keep their keys,
-- and what each pass knows is true.
pub record Kept (o : Opening) (s : State (Unit {0}) View) : Type 0 where
  pub cells : ℕ → ℕ
  pub bodies : ℕ → ℕ
  pub opened : IsOpened o
  pub long : length s.words ≡ length o.words
  pub stand : StandsFor (site_at o.sites) (at_of s.words) (at_of s.words 0) 1 (IsCell o cells) (IsBody o bodies)
  pub inside : (c : ℕ) → IsCell o cells c → lock_place c < length s.words
  pub keys_stay : (c : ℕ) → HasCell o.words c → at_of s.words (key_place c) ≡ at_of o.words (key_place c)
  pub parted : Parted o cells bodies s.views
  pub knows : (id : ℕ) (v : View) → get_elem? s.views id ≡ some v → Knows o s.words cells bodies v

-- the rule of a tree without locks: no lock word and no pool word is set
pub record Free (o : Opening) (s : State (Unit {0}) View) : Type 0 where
  pub kept : Kept o s
  pub unlocked : AreUnlocked s.words kept.opened.cells
