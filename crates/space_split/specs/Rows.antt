-- Cubes that stand for a whole list of codes.
use Rattle.std.specs.Prelude.{ℕ, ◌+◌, ◌/◌, ◌^◌, ◌≤◌, ◌≡◌, All, List, [], ◌∷◌, length}
use Rattle.space_split.specs.Ranges.{codes_of}
use Rattle.space_split.specs.declared.cube.Cube.{Cube}

-- the cubes' codes follow one another in a list, from a place to another
abbrev pub Follow : ℕ → ℕ → List Cube → Type 0
Follow from to [] = from ≡ to
Follow from to (cube ∷ rest) = (cube.start ≡ from) × Follow (from + cube.count) to rest

-- the cube's key is that of its codes without some of their last digits
abbrev pub IsOver : List ℕ → Cube → Type 0
IsOver codes cube = (down : ℕ) × (down ≤ 21) × All (λ code. code / 8 ^ down ≡ cube.key) (codes_of codes cube)

-- The cubes hold all codes of a list, each under its cube's key.
pub record AreWhole (codes : List ℕ) (cubes : List Cube) : Type 0 where
  pub some : All (λ c. 1 ≤ c.count) cubes
  pub inside : All (λ c. c.start + c.count ≤ length codes) cubes
  pub over : All (IsOver codes) cubes
  pub follow : Follow 0 (length codes) cubes
