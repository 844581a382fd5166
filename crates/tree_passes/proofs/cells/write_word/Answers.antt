use Rattle.std.proofs.Common.{◌≤◌, rules, arith, subst, sym}
use Rattle.tree_passes.proofs.Quiet.{writes}
use Rattle.tree_passes.specs.Counting.{times}
use Rattle.tree_passes.specs.Plays.{Mine}
use Rattle.tree_passes.proofs.cells.write_word.Goals as goal

pub store-requires : goal.store-requires
store-requires c = (
  search rules,
  omega (arith, c.requires.inside, c.requires.part, c.place_of_child.ensures),
  writes c.args.table.now.key _ _ _ c.args.cell c.args.part _ _
      (subst (λ (m : Mine). 1 ≤ times c.args.cell m.0.held) (sym c.read_word.ensures.pass.1) c.requires.held) c.requires.part c.place_of_child.ensures,
)
