use Rattle.std.proofs.Common.{arith}
use Rattle.shared_tree.proofs.start.open_cleared.Goals as goal

pub clear_front-requires-clause-rest : goal.clear_front-requires-clause-rest
clear_front-requires-clause-rest c = λ i p.
    c.open_table-opened.ensures.blank c.args.fresh c.requires.fresh.0 i (omega (arith, p, c.place_of_child.ensures))
