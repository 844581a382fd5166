use Rattle.std.proofs.Common.{subst}
use Rattle.octree.proofs.CanonicalTrees.{names_exactly}
use Rattle.octree.specs.Stored.{IsStored}
use Rattle.octree.proofs.octree.Octree.names_exactly.Goals as goal

pub returns : goal.returns
returns c = names_exactly c.args.points.now c.args.self.now (subst IsStored c.self.view_is c.self.invariant.0) c.requires.canonical
