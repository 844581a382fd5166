-- The parts of an octree that workers lay.
use Rattle.std.specs.Prelude.{ℕ, ◌≡◌, IfOk, List}
use Rattle.bh_model.specs.Moments.{Matter}
use Rattle.bh_model.specs.Trees.{Tree}
use Rattle.octree.specs.Spot.{tree_under}
use Rattle.octree.specs.Stored.{Stored}
use Rattle.octree.specs.Subtree.{IsCellAt}
use Rattle.force_walk.specs.Cubes.{IsTreeOfCube}
use Rattle.force_walk.specs.Flat.{flat, owners}
use Rattle.force_walk.specs.declared.node.Laid.{Laid}
use Rattle.force_walk.specs.declared.parts.Part.{Part}

-- the nodes of a tree are laid, and whose they are
pub record IsLaidTree (m : Matter) (least : List ℕ) (down : ℕ) (tree : Tree) (laid : Laid) : Type 0 where
  pub nodes_are : laid.nodes.items ≡ flat m least down tree
  pub owners_are : laid.owners.items ≡ owners tree

-- a part is a cell of an octree whose cube has side 2 ^ down, and what is laid of it is its tree
pub record IsPart (m : Matter) (most : ℕ) (least : List ℕ) (octree : Stored) (part : Part) : Type 0 where
  pub cell : IsCellAt part.cell part.cell
  pub octree_is : part.cell.octree ≡ octree
  pub cube : IsTreeOfCube m most part.down (tree_under part.cell)
  pub laid_is : IfOk part.laid (IsLaidTree m least part.down (tree_under part.cell))
