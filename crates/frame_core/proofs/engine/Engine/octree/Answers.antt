use Rattle.std.proofs.Common.{subst}
use Rattle.scene_file.specs.Bodies.{sites_of}
use Rattle.frame_core.proofs.Stages.{made_of_stage}
use Rattle.frame_core.specs.Building.{IsMadeTree}
use Rattle.frame_core.specs.Engines.{EngineState}
use Rattle.frame_core.proofs.engine.Engine.octree.Goals as goal

pub returns-clause-by_pieces : goal.returns-clause-by_pieces
returns-clause-by_pieces c =
    let i = c.self.inside in
    let made = made_of_stage i c.args.self.now c.in-Some.tree c.octree.result.now c.self.view_is c.self.invariant c.requires c.in-Some.is c.octree.ensures in
    (subst (λ (e : EngineState). IsMadeTree e.plan (sites_of e.bodies) c.octree.result.now) c.self.view_is made).by_pieces
