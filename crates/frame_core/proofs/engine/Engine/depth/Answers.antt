use Rattle.frame_core.proofs.Stages.{frame_of_stage}
use Rattle.frame_core.proofs.engine.Engine.depth.Goals as goal

pub returns : goal.returns
returns c = (frame_of_stage c.self.inside c.args.self.now c.in-Frame.parts c.self.view_is c.self.invariant c.in-Frame.is).depth
