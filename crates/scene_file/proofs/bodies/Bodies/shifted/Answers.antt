use Rattle.scene_file.specs.Bodies.{AreBodies}
use Rattle.scene_file.proofs.Shifts.{shifted_rule}
use Rattle.scene_file.proofs.bodies.Bodies.shifted.Goals as goal

pub invariant_of-result : goal.invariant_of-result
invariant_of-result c =
    let rule : AreBodies c.args.self.now = rw (← c.self.view_is) c.self.invariant in
    rw (c.moved_list.ensures, c.in_ok-list.ensures, c.deref.ensures.value, c.self.view_is)
    (shifted_rule c.args.moves.now c.args.self.now rule c.requires c.all_in_cube.ensures)
