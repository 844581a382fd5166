use Rattle.std.proofs.Common.{subst}
use Rattle.octree.proofs.CanonicalTrees.{tree_is}
use Rattle.octree.specs.Stored.{IsStored}
use Rattle.octree.proofs.octree.Octree.canonical_tree.Goals as goal

pub returns-clause-tree : goal.returns-clause-tree
returns-clause-tree c = tree_is c.args.points.now c.args.self.now (subst IsStored c.self.view_is c.self.invariant.0) c.requires.canonical
