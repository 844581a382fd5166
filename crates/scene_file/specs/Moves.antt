-- Moves of bodies, and passes of moves.
use Rattle.std.specs.Prelude.{◌<◌, ◌≤◌, ◌≢◌, ℕ, List, [], ◌∷◌, length, slice_index_or, slice_set, sum_by, take}
use Rattle.std.specs.List.{All}
use Rattle.octant_code.specs.Points.{AreApart}
use Rattle.octant_code.specs.Space.{IsInCube, origin}
use Rattle.scene_file.specs.Bodies.{AreBodies, body_at, sites_of}
use Rattle.scene_file.specs.declared.bodies.Body.{Body}
use Rattle.scene_file.specs.declared.moves.Move.{Move}
use Rattle.scene_file.specs.declared.moves.TheConstants.{MOST_MOVES, MOST_PASSES}

-- the bodies after a move: the body that it names has its mass at another point
abbrev pub moved : Move → List Body → List Body
moved move bodies = slice_set bodies move.body (record { mass = (body_at bodies move.body).mass; at = move.to })

-- the bodies after moves
unfoldable pub shifted : List Move → List Body → List Body
shifted [] bodies = bodies
shifted (move ∷ moves) bodies = shifted moves (moved move bodies)

-- the bodies after passes, each a list of moves
unfoldable pub after_passes : List (List Move) → List Body → List Body
after_passes [] bodies = bodies
after_passes (moves ∷ passes) bodies = after_passes passes (shifted moves bodies)

-- a move that no list has, for numbers past a list's end
abbrev pub no_move : Move
no_move = record { body = 0; to = origin }

-- the move of a place in a pass
abbrev pub move_at : List Move → ℕ → Move
move_at moves n = slice_index_or moves n no_move

-- moves can be one pass over bodies: each names one of them, no two name the same, and after all of them no two bodies are at one point
pub record IsPass (bodies : List Body) (moves : List Move) : Type 0 where
  pub known : All (λ (m : Move). m.body < length bodies) moves
  pub once : (i j : ℕ) → i < j → j < length moves → (move_at moves i).body ≢ (move_at moves j).body
  pub apart : AreApart (sites_of (shifted moves bodies))

-- the pass of a number
abbrev pub pass_at : List (List Move) → ℕ → List Move
pass_at passes i = slice_index_or passes i []

-- how many moves passes have
abbrev pub move_count : List (List Move) → ℕ
move_count passes = sum_by (λ (moves : List Move). length moves) passes

-- bodies, and passes that move them
pub record SceneParts : Type 0 where
  pub bodies : List Body
  pub passes : List (List Move)

-- an accepted scene: each pass can be one over the bodies after those before it, and the limits hold
pub record IsScene (scene : SceneParts) : Type 0 where
  pub bodies : AreBodies scene.bodies
  pub passes : (i : ℕ) → i < length scene.passes → IsPass (after_passes (take i scene.passes) scene.bodies) (pass_at scene.passes i)
  pub few_passes : length scene.passes ≤ MOST_PASSES
  pub few_moves : move_count scene.passes ≤ MOST_MOVES
  pub in_cube : All (λ (moves : List Move). All (λ (m : Move). IsInCube m.to) moves) scene.passes
