use Rattle.std.proofs.Common.{◌∙◌, ap, arith, map}
use Rattle.octree.specs.Ranks.{body_of_rank}
use Rattle.bh_model.specs.Bodies.{numbers}
use Rattle.space_split.proofs.Ranked.{rank_more, rank_none}
use Rattle.space_split.proofs.codes.ranks_of.Goals as goal

pub loop-n-init : goal.loop-n-init
loop-n-init c = ap (map body_of_rank) c.in_ok-ranks.ensures.items ∙ rank_none

pub loop-n-preserved : goal.loop-n-preserved
loop-n-preserved c =
    ap (map body_of_rank) c.in_ok-push.ensures.items
    ∙ rank_more c.loop-n.ranks.items _ c.loop-n.n (omega (arith, c.loop-n-test.true, c.requires))
    c.loop-n.invariant

pub returns : goal.returns
returns c = c.loop-n.invariant ∙ ap numbers (omega (arith, c.loop-n-test.false, c.loop-n.auto.n-end))
