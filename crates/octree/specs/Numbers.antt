-- The numbers of cells by their keys.
use Rattle.std.specs.Prelude.{ℕ, ◌≡◌, ◌≢◌, List, Option, None, Some}
use Rattle.tree_rule.specs.Sound.{IsReachedAs}
use Rattle.tree_rule.specs.Words.{at_of}
use Rattle.octree.specs.ByKeys.{key_of_cell}
use Rattle.octree.specs.Spot.{IsReachable}
use Rattle.octree.specs.Stored.{Stored}
use Rattle.octree.specs.declared.node.CellNo.{CellNo}

-- the cell of an octree that can be reached and has the key, or none where there is none
abbrev pub IsNumberOf : Stored → ℕ → Option CellNo → Type 0
IsNumberOf o key None = (c : ℕ) → IsReachable o c → key_of_cell o c ≢ key
IsNumberOf o key (Some cell) = IsReachable o cell.0 × (key_of_cell o cell.0 ≡ key)

-- the word that is read with a key from the first word on, whose key is `base`, or none where none is
abbrev pub IsWordOfKey : List ℕ → ℕ → ℕ → Option ℕ → Type 0
IsWordOfKey words base key None = (w : ℕ) → IsReachedAs (at_of words) (at_of words 0) base key w → ⊥
IsWordOfKey words base key (Some w) = IsReachedAs (at_of words) (at_of words 0) base key w
