use Rattle.octant_code.specs.Points.{site_at}
use Rattle.bh_model.proofs.PieceKeys.{body_in_one_piece, pieces_sum}
use Rattle.bh_model.proofs.theorems.pieces.each_body_is_in_one_piece.Goals as goal

pub returns-clause-one : goal.returns-clause-one
returns-clause-one c n i = body_in_one_piece (site_at c.args.points.now) c.args.workers c.args.bodies.now n i

pub returns-clause-sum : goal.returns-clause-sum
returns-clause-sum c = pieces_sum (site_at c.args.points.now) c.args.workers c.args.bodies.now
