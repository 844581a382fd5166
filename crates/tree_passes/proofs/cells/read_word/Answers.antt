use Rattle.std.proofs.Common.{ap, rules, arith, ◌∙◌}
use Rattle.tree_rule.specs.Words.{at_of}
use Rattle.tree_passes.proofs.Quiet.{reads}
use Rattle.tree_passes.proofs.cells.read_word.Goals as goal

pub load-requires : goal.load-requires
load-requires c = (
  search rules,
  omega (arith, c.requires.inside, c.requires.part, c.place_of_child.ensures),
  reads c.args.table.now.key _ _ _ _,
)

pub returns-clause-value : goal.returns-clause-value
returns-clause-value c =
    c.load.ensures.2.2 c.args.cell c.args.part c.requires.held c.requires.part c.place_of_child.ensures
    ∙ ap (at_of c.args.pass.now.me.0.memory) c.place_of_child.ensures
