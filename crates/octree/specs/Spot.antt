-- A word that is read on the way down from the root of an octree, and the tree below it.
use Rattle.std.specs.Prelude.{ℕ, ◌^◌, ◌≤◌}
use Rattle.octant_code.specs.declared.limits.TheConstants.{LEVELS}
use Rattle.bh_model.specs.Trees.{Tree}
use Rattle.tree_rule.specs.Words.{HasCell, IsReached, at_of, cell_number, cell_word, child_place}
use Rattle.tree_rule.specs.Sound.{IsReachedAs}
use Rattle.octree.specs.Stored.{IsStored, Stored, root_word, tree_of_word}

-- an octree and one of its words
pub record Spot : Type 0 where
  pub octree : Stored
  pub word : ℕ

-- the word is read on the way down, with the key of a cube of a level
pub record IsSpot (s : Spot) : Type 0 where
  pub stored : IsStored s.octree
  pub key : ℕ
  pub level : ℕ
  pub read : IsReachedAs (at_of s.octree.words) (root_word s.octree) s.octree.base key s.word
  pub shallow : level ≤ LEVELS
  pub low : 8 ^ level ≤ key

-- the tree of a cell that can be reached
abbrev pub tree_below : Stored → ℕ → Tree
tree_below o c = tree_of_word o (cell_word c)

-- the tree of a spot
unfoldable pub tree_under : Spot → Tree
tree_under s = tree_of_word s.octree s.word

-- the number of the cell that a spot's word names
unfoldable pub cell_at : Spot → ℕ
cell_at s = cell_number s.word

-- the tree of a child of the cell
unfoldable pub child_under : Spot → ℕ → Tree
child_under s k = tree_of_word s.octree (at_of s.octree.words (child_place (cell_number s.word) k))

-- a cell of an octree can be reached from its root
abbrev pub IsReachable : Stored → ℕ → Type 0
IsReachable o c = HasCell o.words c

-- a cell stands below a spot, or at it
unfoldable pub IsCellUnder : Spot → ℕ → Type 0
IsCellUnder s d = IsReached (at_of s.octree.words) s.word (cell_word d)

-- a cell stands below a child of a cell, or is that child
unfoldable pub IsUnderChild : Spot → ℕ → ℕ → Type 0
IsUnderChild s k d = IsReached (at_of s.octree.words) (at_of s.octree.words (child_place (cell_number s.word) k)) (cell_word d)
