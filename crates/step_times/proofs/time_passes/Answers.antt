use Rattle.std.proofs.Common.{◌≡◌, ◌∙◌, ◌<◌, ap, arith, length, sym, subst, List}
use Rattle.bh_model.specs.declared.plan.Plan.{Plan}
use Rattle.frame_core.specs.Engines.{EngineState, opened, with_tree}
use Rattle.scene_file.specs.Moves.{IsPass, pass_at, shifted}
use Rattle.scene_file.specs.declared.bodies.Body.{Body}
use Rattle.scene_file.specs.declared.moves.Move.{Move}
use Rattle.scene_file.proofs.PassingRule.{after_more}
use Rattle.step_times.proofs.Passing.{after_none}
use Rattle.step_times.proofs.time_passes.Goals as goal

pub loop-i-init : goal.loop-i-init
loop-i-init g c =
    let made : c.make_tree.new.engine ≡ with_tree (opened c.args.plan c.args.bodies) = c.in_ok-make_tree.ensures.tree ∙ ap with_tree c.in_ok-engine.ensures in
    let plan = ap (λ (p : Plan). p.builder) (sym c.plan.view_is) in (
      ap (λ (e : EngineState). e.stage) made,
      ap (λ (e : EngineState). e.plan.builder) made ∙ plan,
      ap (λ (e : EngineState). e.bodies) made
          ∙ sym (after_none c.args.passes.now c.args.bodies),
    )

pub loop-i-preserved : goal.loop-i-preserved
loop-i-preserved g c =
    let made = c.in_ok-pass.ensures.tree in
    let within : c.loop-i.i < length c.args.passes.now = omega (arith, c.loop-i-test.true, c.len-i-end.ensures) in
    let step = ap (λ moves. shifted moves c.loop-i.engine.bodies) c.pass-moves.ensures
    ∙ ap (λ bodies. shifted (pass_at c.args.passes.now c.loop-i.i) bodies) c.loop-i.invariant.2
    ∙ sym (after_more c.args.passes.now c.loop-i.i c.args.bodies within) in (
      ap (λ (e : EngineState). e.stage) made,
      ap (λ (e : EngineState). e.plan.builder) made
          ∙ c.loop-i.invariant.1,
      ap (λ (e : EngineState). e.bodies) made ∙ step,
    )

pub time_pass-requires-clause-moves : goal.time_pass-requires-clause-moves
time_pass-requires-clause-moves g c κs outlives =
    let within : c.loop-i.i < length c.args.passes.now = omega (arith, c.loop-i-test.true, c.len-i-end.ensures) in
    let pass = c.requires.passes c.loop-i.i within in
    let told = subst (λ (bodies : List Body). IsPass bodies (pass_at c.args.passes.now c.loop-i.i)) (sym c.loop-i.invariant.2) pass in
    subst (λ (moves : List Move). IsPass c.loop-i.engine.bodies moves) (sym c.pass-moves.ensures) told
