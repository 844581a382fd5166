use Rattle.std.proofs.Common.{◌<◌, ◌∙◌, length, arith}
use Rattle.std.proofs.lemmas.List.{get_or_read}
use Rattle.bh_model.specs.Pulls.{no_pull}
use Rattle.frame_core.specs.Frames.{tree_of_bodies}
use Rattle.frame_core.proofs.Frames.{pull_is, pulls_count}
use Rattle.frame_core.proofs.Stages.{frame_of_stage}
use Rattle.frame_core.proofs.engine.Engine.pull_of.Goals as goal

pub index-requires : goal.index-requires
index-requires c =
    let e = c.args.self.now in
    let found = c.in-Frame.parts.pulls in
    let parts = frame_of_stage c.self.inside e c.in-Frame.parts c.self.view_is c.self.invariant c.in-Frame.is in
    omega (arith, pulls_count e.plan.law e.bodies (tree_of_bodies e.bodies) found.items parts.pulls, found.ok.0, c.requires.body)

pub returns : goal.returns
returns c =
    let e = c.args.self.now in
    let found = c.in-Frame.parts.pulls.items in
    let parts = frame_of_stage c.self.inside e c.in-Frame.parts c.self.view_is c.self.invariant c.in-Frame.is in
    let less : c.args.n < length found = omega (arith, pulls_count e.plan.law e.bodies (tree_of_bodies e.bodies) found parts.pulls, c.requires.body) in
    get_or_read found c.args.n c.index.result.now less c.index.ensures no_pull ∙ pull_is e.plan.law e.bodies found c.args.n parts.pulls c.requires.body
