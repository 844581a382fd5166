-- Cubes whose bodies stand side by side in a list of codes, and what dividing them gives.
use Rattle.std.specs.Prelude.{ℕ, flat_map, ◌+◌, ◌-◌, ◌*◌, ◌/◌, ◌%◌, ◌^◌, ◌<◌, ◌≤◌, ◌≡◌}
use Rattle.std.specs.Prelude.{All, nat_eq, nat_le, nat_lt, if◌then◌else◌, List, [], ◌∷◌, drop, filter, length, take}
use Rattle.std.specs.List.Sorted.{IsNonDecreasing}
use Rattle.bh_model.specs.Pieces.{cubes_from, in_turn, of_octant}
use Rattle.space_split.specs.declared.cube.Cube.{Cube}

-- the code of a point is its key at the last level; the octant that the point lies in at a level, by its code
abbrev pub octant_of_code : ℕ → ℕ → ℕ
octant_of_code code level = code / 8 ^ (20 - level) % 8

-- the codes are those of points, the least first
pub record AreCodes (codes : List ℕ) : Type 0 where
  pub each : All (λ code. (8 ^ 21 ≤ code) × (code < 2 * 8 ^ 21)) codes
  pub rising : IsNonDecreasing codes

-- the codes of a cube's bodies
abbrev pub codes_of : List ℕ → Cube → List ℕ
codes_of codes cube = take cube.count (drop cube.start codes)

-- how many bodies of some have an octant at a level
abbrev pub octant_count : List ℕ → ℕ → ℕ → ℕ
octant_count codes level k = length (of_octant octant_of_code level k codes)

-- how many of them have an earlier octant
abbrev pub earlier_count : List ℕ → ℕ → ℕ → ℕ
earlier_count codes level k = length (filter (λ code. nat_lt (octant_of_code code level) k) codes)

-- the cube of an octant, where it holds a body
abbrev pub child_of : List ℕ → ℕ → Cube → ℕ → List Cube
child_of codes level cube k =
    if nat_eq (octant_count (codes_of codes cube) level k) 0 then []
    else record {
      key = 8 * cube.key + k;
      start = cube.start + earlier_count (codes_of codes cube) level k;
      count = octant_count (codes_of codes cube) level k;
    } ∷ []

-- a cube with more than `most` bodies gives the cubes of its octants, and another stays
abbrev pub division_of : List ℕ → ℕ → ℕ → Cube → List Cube
division_of codes most level cube = if nat_le cube.count most then cube ∷ [] else in_turn (child_of codes level cube)

-- a cube of a list of codes: it holds a body, its codes are in the list, and where it has more than `most` bodies they are under its key,
-- which is of the level
pub record IsRange (codes : List ℕ) (most level : ℕ) (cube : Cube) : Type 0 where
  pub some : 1 ≤ cube.count
  pub inside : cube.start + cube.count ≤ length codes
  pub key_small : cube.key < 2 * 8 ^ level
  pub under : most < cube.count → All (λ code. code / 8 ^ (21 - level) ≡ cube.key) (codes_of codes cube)

-- the undivided cubes at a cube and below it, of a level with as many levels below
abbrev pub cubes_at : List ℕ → ℕ → ℕ → ℕ → Cube → List (ℕ × ℕ)
cubes_at codes most below level cube = cubes_from octant_of_code most below level cube.key (codes_of codes cube)

-- the cubes are cubes of the list, and the undivided cubes below them are those of the list
pub record AreCubesOf (codes : List ℕ) (most level : ℕ) (cubes : List Cube) : Type 0 where
  pub ranges : All (IsRange codes most level) cubes
  pub same : flat_map (cubes_at codes most (21 - level) level) cubes ≡ cubes_from octant_of_code most 21 0 1 codes

-- a cube by its key and its count
abbrev pub pair_of : Cube → ℕ × ℕ
pair_of cube = (cube.key, cube.count)
