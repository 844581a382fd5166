-- Scenes that are made of a seed: where each body lies, and what its mass is.
use Rattle.std.specs.Prelude.{ℕ, ◌+◌, ◌*◌, ◌/◌, ◌%◌, ◌^◌, List, [], ◌∷◌, ◌++◌, zero, suc}
use Rattle.octant_code.specs.Space.{Site}
use Rattle.scene_file.specs.declared.bodies.Body.{Body}
use Rattle.scene_file.specs.declared.made.Shape.{Shape}
use Rattle.scene_file.specs.declared.made.Shape.TheVariants as shape
use Rattle.scene_file.specs.declared.made.TheConstants.{MULTIPLIER}

-- how many codes a shape has: one for each point of the cube, or one for each point of its corner of side 2 ^ 15
abbrev pub codes_of : Shape → ℕ
codes_of shape.Uniform = 2 ^ 63
codes_of shape.Corner = 2 ^ 45

-- the code of a body
abbrev pub code_of : Shape → ℕ → ℕ → ℕ
code_of form seed i = (i * MULTIPLIER + seed) % codes_of form

-- the number whose binary digits are every third one of another, of which it has so many: the last, the last but three, and so on
unfoldable pub every_third : ℕ → ℕ → ℕ
every_third zero code = 0
every_third (suc count) code = 2 * every_third count (code / 8) + code % 2

-- The point of a code. The code's octal digits are the octants that the point lies in, from level 0 on.
abbrev pub site_of_code : ℕ → Site
site_of_code code = record { x = every_third 21 (code / 4); y = every_third 21 (code / 2); z = every_third 21 code }

-- a body of a made scene
abbrev pub made_body : Shape → ℕ → ℕ → Body
made_body form seed i = record { mass = 1 + i % 16; at = site_of_code (code_of form seed i) }

-- the bodies of a made scene
unfoldable pub made_bodies : ℕ → ℕ → Shape → List Body
made_bodies zero seed form = []
made_bodies (suc count) seed form = made_bodies count seed form ++ made_body form seed count ∷ []
