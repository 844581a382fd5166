use Rattle.std.proofs.Common.{List, arith, subst, sym}
use Rattle.scene_file.specs.Moves.{IsPass, after_passes}
use Rattle.scene_file.specs.declared.moves.Move.{Move}
use Rattle.scene_file.proofs.tests.bodies_are_shifted_by_a_pass.Goals as goal

pub shifted-requires : goal.shifted-requires
unfolding after_passes
shifted-requires g c =
    subst (λ (moves : List Move). IsPass c.scene.inside.bodies moves) (sym c.pass-moves.ensures) (c.scene.invariant.passes 0 (omega arith))
