-- The text of a scene.
use Rattle.std.specs.Prelude.{ℕ, List, [], ◌∷◌, ◌++◌, codes, decimal, flat_map}
use Rattle.octant_code.specs.Space.{Site}
use Rattle.scene_file.specs.Moves.{SceneParts}
use Rattle.scene_file.specs.declared.bodies.Body.{Body}
use Rattle.scene_file.specs.declared.moves.Move.{Move}

-- a record of a word, a number and a point: the word, the number and the coordinates, each after a comma and without leading zeros, and a newline
abbrev pub record_text : List ℕ → ℕ → Site → List ℕ
record_text word number at = word ++ (flat_map (λ n. 44 ∷ decimal n) (number ∷ at.x ∷ at.y ∷ at.z ∷ []) ++ (10 ∷ []))

-- the record of a body: its word, its mass and its point
abbrev pub body_text : Body → List ℕ
body_text body = record_text (codes "body") body.mass body.at

-- the record of a move: its word, the body's number and its new point
abbrev pub move_text : Move → List ℕ
move_text move = record_text (codes "move") move.body move.to

-- the records of a pass: those of its moves, one after another, and that of its end
abbrev pub pass_text : List Move → List ℕ
pass_text moves = flat_map move_text moves ++ (codes "pass" ++ 10 ∷ [])

-- the records of a scene: those of its bodies, and then those of its passes
abbrev pub text_of_scene : SceneParts → List ℕ
text_of_scene scene = flat_map body_text scene.bodies ++ flat_map pass_text scene.passes
