use Rattle.std.proofs.Common.{arith, ap, subst, sym}
use Rattle.octree.proofs.ReadWords.{read_small}
use Rattle.octree.specs.Stored.{Stored}
use Rattle.tree_rule.specs.Words.{Below, HasCell, at_of}
use Rattle.octree.proofs.octree.Octree.child.Goals as goal

pub node_of-requires : goal.node_of-requires
node_of-requires c =
    let words = c.args.self.now.words in
    let has : HasCell c.self.inside.words.items c.args.c.0 = subst (λ (y : Stored). HasCell y.words c.args.c.0) (sym c.self.view_is) c.requires.reachable in
    read_small c.args.self.now _ c.place_of_child.result c.index.result.now c.self.view_is c.self.invariant.0
    (omega (arith, c.self.invariant.0.long, c.self.invariant.0.cells_used c.args.c.0 has, c.place_of_child.ensures))
    (Below c.args.c.0 c.args.k (at_of words c.place_of_child.result) c.requires.reachable c.requires.octant (ap (at_of words) c.place_of_child.ensures))
    c.index.ensures
