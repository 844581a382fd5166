use Rattle.std.proofs.Common.{◌≡◌, ◌∙◌, length, ap}
use Rattle.scene_file.specs.Moves.{shifted}
use Rattle.scene_file.proofs.Shifts.{shifted-length, written_back}
use Rattle.scene_file.proofs.bodies.moved_list.Goals as goal

pub returns : goal.returns
returns c =
    let moves = c.args.moves.now in
    let list = c.args.list in
    let from : c.shift.new.bodies ≡ shifted moves list.items = c.shift.ensures ∙ ap (shifted moves) c.deref_mut.ensures.value in
    let same : length c.shift.new.bodies ≡ length list.items = ap length from ∙ shifted-length moves list.items in
    written_back c.shift.new.bodies list.items list.len same list.ok.0 ∙ from
