-- Cells that a pass makes out of those that it holds, before it publishes them.
use Rattle.std.specs.Prelude.{ℕ, ◌≡◌, ◌≢◌, ◌+◌, ◌<◌, ◌≤◌, zero, suc, cond, eqb, List, length}
use Rattle.octant_code.specs.Space.{Site, octant_of}
use Rattle.bh_model.specs.Bodies.{IsIn}
use Rattle.tree_rule.specs.Words.{at_of, child_place, key_place, lock_place}
use Rattle.tree_passes.specs.declared.view.TheConstants.{ROW_WORDS}
use Rattle.tree_passes.specs.declared.view.View.{View}
use Rattle.tree_passes.specs.Counting.{times}

-- The pass fits a table of so many words, and holds these cells, each once.
pub record IsReady (v : View) (words : ℕ) (spare : List ℕ) : Type 0 where
  pub long : length v.memory ≡ words
  pub held : (c : ℕ) → times c spare ≤ times c v.held
  pub once : (c : ℕ) → times c spare ≤ 1
  pub inside : (c : ℕ) → 1 ≤ times c spare → lock_place c < words

-- The pass wrote into these cells, and nothing else of it changed.
pub record HasWritten (v w : View) (cells : List ℕ) : Type 0 where
  pub view : w ≡ record v { memory = w.memory }
  pub long : length w.memory ≡ length v.memory
  pub others : (i : ℕ) → ((c j : ℕ) → IsIn cells c → j < ROW_WORDS → i ≢ child_place c j) → at_of w.memory i ≡ at_of v.memory i

-- The words of a cell are its key and the first so many words of its children.
pub record HasCellWords (memory : List ℕ) (c : ℕ) (children : List ℕ) (key count : ℕ) : Type 0 where
  pub key_is : at_of memory (key_place c) ≡ key
  pub children_are : (k : ℕ) → k < count → at_of memory (child_place c k) ≡ at_of children k

-- How many cells part two points in a cube of a level that has so many levels below it: one where they lie in different octants, and else one more than
-- in the octant of both.
abbrev pub cells_between : Site → Site → ℕ → ℕ → ℕ
cells_between s t level zero = 0
cells_between s t level (suc below) = cond (eqb (octant_of s level) (octant_of t level)) (suc (cells_between s t (level + 1) below)) 1
