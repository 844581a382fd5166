use Rattle.std.proofs.Common.{◌∙◌, ◌<◌, length, refl}
use Rattle.std.proofs.lemmas.List.{get_or_default, get_or_read, length-set}
use Rattle.std.proofs.lemmas.List.Elements.{All-get_or}
use Rattle.scene_file.specs.Bodies.{nobody}
use Rattle.scene_file.specs.Moves.{move_at, no_move, shifted}
use Rattle.scene_file.specs.declared.moves.Move.{Move}
use Rattle.scene_file.proofs.Shifts.{shift_more}
use Rattle.scene_file.proofs.bodies.shift.Goals as goal

pub loop-step-init : goal.loop-step-init
unfolding shifted
loop-step-init c = (refl, refl)

pub loop-step-preserved : goal.loop-step-preserved
loop-step-preserved c =
    let m = c.step-item.result in
    let moves = c.args.moves.now in
    let list = c.loop-step.bodies in
    let is = get_or_read moves c.loop-step.step-index m c.loop-step-test.true c.step-item.is no_move in
    let known : (move_at moves c.loop-step.step-index).body < length c.args.bodies.now =
    All-get_or (λ (m : Move). m.body < length c.args.bodies.now) moves c.loop-step.step-index no_move c.loop-step-test.true c.requires in
    let within : m.body < length list = rw (is, c.loop-step.invariant.1) known in (
      shift_more moves c.args.bodies.now list c.loop-step.step-index m _ c.loop-step-test.true is (get_or_default list m.body _ nobody within)
          c.loop-step.invariant.0,
      length-set _ _ _ ∙ c.loop-step.invariant.1,
    )
