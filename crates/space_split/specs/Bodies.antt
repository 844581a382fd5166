-- The bodies of a cube, among all in the order of their codes.
use Rattle.std.specs.Prelude.{ℕ, ◌+◌, ◌<◌, ◌≤◌, All, List, drop, length, map, take}
use Rattle.octant_code.specs.Points.{site_at}
use Rattle.octant_code.specs.Space.{IsKey, IsUnder, Site}
use Rattle.octant_code.specs.declared.limits.TheConstants.{MOST_BODIES}
use Rattle.bh_model.specs.Bodies.{NoneTwice}
use Rattle.space_split.specs.declared.codes.Coded.{Coded}
use Rattle.space_split.specs.declared.cube.Cube.{Cube}

-- the bodies of a cube
abbrev pub bodies_of : List Coded → Cube → List Coded
bodies_of bodies cube = take cube.count (drop cube.start bodies)

-- the numbers of bodies
abbrev pub numbers_of : List Coded → List ℕ
numbers_of bodies = map (λ b. b.body) bodies

-- Different bodies of a list of points, each of which lies under a key.
pub record AreUnder (sites : List Site) (key : ℕ) (bodies : List Coded) : Type 0 where
  pub is_key : IsKey key
  pub few : length bodies ≤ MOST_BODIES
  pub known : All (λ b. b.body < length sites) bodies
  pub under : All (λ b. IsUnder key (site_at sites b.body)) bodies
  pub once : NoneTwice (numbers_of bodies)

-- A cube has a body of the list, and its bodies lie under its key.
pub record IsCubeOf (sites : List Site) (bodies : List Coded) (cube : Cube) : Type 0 where
  pub some : 1 ≤ cube.count
  pub inside : cube.start + cube.count ≤ length bodies
  pub own : AreUnder sites cube.key (bodies_of bodies cube)

-- each cube is one of the list
abbrev pub AreCubesIn : List Site → List Coded → List Cube → Type 0
AreCubesIn sites bodies cubes = All (IsCubeOf sites bodies) cubes
