-- The bodies before the first pass.
use Rattle.std.proofs.Common.{◌≡◌, List, [], ◌∷◌, take, refl}
use Rattle.scene_file.specs.Moves.{after_passes}
use Rattle.scene_file.specs.declared.bodies.Body.{Body}
use Rattle.scene_file.specs.declared.moves.Move.{Move}

pub after_none : (passes : List (List Move)) (bodies : List Body) → after_passes (take 0 passes) bodies ≡ bodies
unfolding after_passes
after_none [] bodies = refl
after_none (moves ∷ passes) bodies = refl
