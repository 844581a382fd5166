use Rattle.bh_model.proofs.Blocks.{blocks_of_some}
use Rattle.bh_model.proofs.theorems.blocks.a_body_has_a_block.Goals as goal

pub returns : goal.returns
returns c =
    blocks_of_some c.args.points.now c.args.bodies.now c.args.others.now c.len.ensures.rule c.requires.some c.requires.within c.requires.others_within
    c.requires.apart
