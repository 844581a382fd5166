-- Lists of bodies.
use Rattle.std.specs.Prelude.{◌<◌, ◌≤◌, ◌^◌, ℕ, List, Option, length, map, slice_index_or, sum_by}
use Rattle.std.specs.List.{All, position_from}
use Rattle.octant_code.specs.Points.{AreApart}
use Rattle.octant_code.specs.Space.{IsInCube, Site, origin, same_coordinates}
use Rattle.octant_code.specs.declared.limits.TheConstants.{MOST_BODIES}
use Rattle.scene_file.specs.declared.bodies.Body.{Body}

-- a body that no list has, for numbers past a list's end
abbrev pub nobody : Body
nobody = record { mass = 0; at = origin }

-- the body of a number
abbrev pub body_at : List Body → ℕ → Body
body_at bodies n = slice_index_or bodies n nobody

-- the bodies' points, in the order of the bodies' numbers
abbrev pub sites_of : List Body → List Site
sites_of bodies = map (λ (b : Body). b.at) bodies

-- the mass of all bodies
abbrev pub total_mass : List Body → ℕ
total_mass bodies = sum_by (λ (b : Body). b.mass) bodies

-- the number of the first body at a point
abbrev pub number_at : List Body → Site → Option ℕ
number_at bodies site = position_from (λ (b : Body). same_coordinates site b.at) 0 bodies

-- at most 65,536 bodies, each with mass, of a total mass below 2 ^ 40, each in the cube, and no two at one point
pub record AreBodies (bodies : List Body) : Type 0 where
  pub few : length bodies ≤ MOST_BODIES
  pub massive : All (λ (b : Body). 0 < b.mass) bodies
  pub total : total_mass bodies < 2 ^ 40
  pub apart : AreApart (sites_of bodies)
  pub in_cube : All IsInCube (sites_of bodies)
