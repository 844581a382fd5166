use Rattle.std.proofs.Common.{ap, arith}
use Rattle.bh_model.specs.Trees.{cell_count}
use Rattle.octree.proofs.Counts.{cells_few, cells_of_tree}
use Rattle.octree.proofs.octree.Octree.extent.Goals as goal

pub extent_of-requires-clause-few : goal.extent_of-requires-clause-few
extent_of-requires-clause-few c =
    let rule = c.whole.ensures.rule in
    omega (arith, ap cell_count c.whole.ensures.tree, cells_of_tree c.args.self.now, cells_few c.args.self.now rule, rule.used_held, rule.few)

pub returns-clause-numbers : goal.returns-clause-numbers
returns-clause-numbers c = omega (arith, ap cell_count c.whole.ensures.tree, cells_of_tree c.args.self.now, c.extent_of.ensures.cells)
