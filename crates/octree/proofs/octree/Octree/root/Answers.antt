use Rattle.std.proofs.Common.{arith, refl}
use Rattle.octree.proofs.ReadWords.{read_small}
use Rattle.tree_rule.specs.Words.{Here, at_of}
use Rattle.octree.proofs.octree.Octree.root.Goals as goal

pub node_of-requires : goal.node_of-requires
node_of-requires c =
    read_small c.args.self.now _ 0 c.index.result.now c.self.view_is c.self.invariant.0 (omega (arith, c.self.invariant.0.long))
    (Here (at_of c.args.self.now.words 0) refl) c.index.ensures
