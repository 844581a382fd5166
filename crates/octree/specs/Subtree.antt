-- What stands at the top of a subtree, and its children.
use Rattle.std.specs.Prelude.{ℕ, ◌<◌, ◌≡◌, ◌⊎◌, ◌↔◌}
use Rattle.octant_code.specs.declared.limits.TheConstants.{MOST_BODIES}
use Rattle.bh_model.specs.Bodies.{IsIn}
use Rattle.bh_model.specs.Trees.{Tree, Empty, Body as OneBody, cell_of, order}
use Rattle.octree.specs.Stored.{tree_of}
use Rattle.octree.specs.Spot.{IsCellUnder, IsReachable, IsUnderChild, Spot, cell_at, child_under, tree_below, tree_under}
use Rattle.octree.specs.declared.subtree.Top.{Top}
use Rattle.octree.specs.declared.subtree.Top.TheVariants.{Nothing, Body, Cell}

-- the subtree is empty
pub record IsNothingAt (s : Spot) : Type 0 where
  pub tree : tree_under s ≡ Empty
  pub bare : (d : ℕ) → IsCellUnder s d → ⊥

-- the subtree is one body
pub record IsBodyAt (s : Spot) (n : ℕ) : Type 0 where
  pub tree : tree_under s ≡ OneBody n
  pub bare : (d : ℕ) → IsCellUnder s d → ⊥
  pub reached : IsIn (order (tree_of s.octree)) n
  pub small : n < MOST_BODIES

-- a cell stands below one child of a cell
pub record IsUnderSome (cell : Spot) (d : ℕ) : Type 0 where
  pub octant : ℕ
  pub small : octant < 8
  pub under : IsUnderChild cell octant d

-- the cells below a cell are itself and those below its children, each below one
pub record HasParts (s cell : Spot) : Type 0 where
  pub itself : IsCellUnder s (cell_at cell)
  pub below : (k d : ℕ) → k < 8 → IsUnderChild cell k d → IsCellUnder s d
  pub nothing_else : (d : ℕ) → IsCellUnder s d → (d ≡ cell_at cell) ⊎ IsUnderSome cell d
  pub apart : (i j d : ℕ) → i < 8 → j < 8 → IsUnderChild cell i d → IsUnderChild cell j d → i ≡ j

-- a tree has a body
pub record HasSomeBody (t : Tree) : Type 0 where
  pub body : ℕ
  pub inside : IsIn (order t) body

-- the subtree is a cell
pub record IsCellAt (s cell : Spot) : Type 0 where
  pub same : cell ≡ s
  pub tree : tree_under s ≡ cell_of (child_under cell)
  pub kept : tree_under s ≡ tree_below s.octree (cell_at cell)
  pub reached : IsReachable s.octree (cell_at cell)
  pub parts : HasParts s cell
  pub some : HasSomeBody (tree_under s)

-- what stands at the top of a subtree
abbrev pub IsTopOf : Spot → Top → Type 0
IsTopOf s Nothing = IsNothingAt s
IsTopOf s (Body n) = IsBodyAt s n
IsTopOf s (Cell cell) = IsCellAt s cell

-- the subtree is child `k` of a cell
pub record IsChildOf (cell : Spot) (k : ℕ) (s : Spot) : Type 0 where
  pub tree : tree_under s ≡ child_under cell k
  pub octree : s.octree ≡ cell.octree
  pub cells : (d : ℕ) → IsCellUnder s d ↔ IsUnderChild cell k d
