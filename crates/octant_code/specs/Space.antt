-- Points of the cube of side 2 ^ 21, the octants that they lie in, and the keys of cubes.
use Rattle.std.specs.Prelude.{ℕ, ◌+◌, ◌-◌, ◌*◌, ◌/◌, ◌%◌, ◌^◌, ◌<◌, ◌≤◌, ◌≡◌, ◌==◌, ◌&&◌, Bool, zero, suc}
use Rattle.std.specs.Int.{abs_diff}
use Rattle.octant_code.specs.declared.limits.TheConstants.{LEVELS}

-- a point by its coordinates
pub record Site : Type 0 where
  pub x : ℕ
  pub y : ℕ
  pub z : ℕ

abbrev pub origin : Site
origin = record { x = 0; y = 0; z = 0 }

-- whether two sites have the same coordinates
abbrev pub same_coordinates : Site → Site → Bool
same_coordinates s t = (s.x == t.x) && ((s.y == t.y) && (s.z == t.z))

-- each coordinate is one of the cube's
pub record IsInCube (s : Site) : Type 0 where
  pub x_fits : s.x < 2 ^ 21
  pub y_fits : s.y < 2 ^ 21
  pub z_fits : s.z < 2 ^ 21

-- the coordinates of a site side by side in one number, 21 bits each: no two sites of the cube have one
unfoldable pub packed : Site → ℕ
packed s = (s.x * 2 ^ 21 + s.y) * 2 ^ 21 + s.z

-- the bit of a coordinate that decides at a level: the highest of its 21 bits at level 0
abbrev pub bit_at : ℕ → ℕ → ℕ
bit_at v level = v / 2 ^ (20 - level) % 2

-- the number of the octant that holds the point at a level
unfoldable pub octant_of : Site → ℕ → ℕ
octant_of s level = 4 * bit_at s.x level + 2 * bit_at s.y level + bit_at s.z level

-- the key of the cube of a level that holds the point: the whole cube's is 1, and a child's is 8 times its parent's and the octant
unfoldable pub key_of : Site → ℕ → ℕ
key_of s zero = 1
key_of s (suc level) = 8 * key_of s level + octant_of s level

-- the point lies in the cube of the key
abbrev pub IsUnder : ℕ → Site → Type 0
IsUnder key s = (level : ℕ) × (level ≤ LEVELS) × (key ≡ key_of s level)

-- a key is that of a cube: at a level l, 0 to 21, the keys are those from 8 ^ l on and below 2 * 8 ^ l
abbrev pub IsKey : ℕ → Type 0
IsKey key = (level : ℕ) × (level ≤ LEVELS) × (8 ^ level ≤ key) × (key < 2 * 8 ^ level)

-- the square of how far two coordinates are apart
unfoldable pub squared_gap : ℕ → ℕ → ℕ
squared_gap a b = abs_diff a b * abs_diff a b

-- the squared distance of two points
unfoldable pub squared_distance : Site → Site → ℕ
squared_distance s t = squared_gap s.x t.x + squared_gap s.y t.y + squared_gap s.z t.z
