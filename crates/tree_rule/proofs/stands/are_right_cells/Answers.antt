use Rattle.std.proofs.Common.{refl, arith, below_more}
use Rattle.tree_rule.specs.Words.{at_of}
use Rattle.octant_code.specs.Points.{site_at}
use Rattle.tree_rule.specs.Tested.{IsRightCell}
use Rattle.tree_rule.proofs.Tested.{denied, each_member, false_where, member_at, true_where}
use Rattle.tree_rule.proofs.stands.are_right_cells.Goals as goal

pub returns-then-not-is_right_cell : goal.returns-then-not-is_right_cell
returns-then-not-is_right_cell c =
    false_where _ (λ h. denied _ c.if-not-is_right_cell.ensures (h _ (member_at c.args.cells.now c.loop-c.c-index (omega arith))))

pub loop-c-preserved : goal.loop-c-preserved
loop-c-preserved c = below_more _ _ c.loop-c.invariant (c.if-not-is_right_cell.ensures.0 refl)

pub returns : goal.returns
returns c = true_where _
    (each_member (IsRightCell (site_at c.args.points.now) (at_of c.args.words.now) c.args.cells.now c.args.bodies.now) c.args.cells.now
    (λ k l. c.loop-c.invariant k (omega arith)))
