use Rattle.octant_code.specs.Points.{site_at}
use Rattle.octant_code.proofs.Nested.{order_has_no_prefixes}
use Rattle.bh_model.proofs.PieceKeys.{pieces_in_order}
use Rattle.bh_model.proofs.theorems.pieces.pieces_stand_in_tree_order.Goals as goal

pub returns-clause-order : goal.returns-clause-order
returns-clause-order c = pieces_in_order (site_at c.args.points.now) c.args.workers c.args.bodies.now

pub returns-clause-apart : goal.returns-clause-apart
returns-clause-apart c = order_has_no_prefixes _ (pieces_in_order (site_at c.args.points.now) c.args.workers c.args.bodies.now)
