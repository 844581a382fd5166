-- How bodies are gathered at whatever points, before it is tested that these are apart.
use Rattle.std.specs.Prelude.{◌≡◌, ◌<◌, ◌≤◌, ◌+◌, ◌^◌, ℕ, List, [], ◌∷◌, ◌++◌, length, nat_le, if◌then◌else◌, Result, Ok, Err, ⊤}
use Rattle.std.specs.List.{All}
use Rattle.octant_code.specs.Distinct.{AreFirstSame}
use Rattle.octant_code.specs.Points.{AreApart}
use Rattle.octant_code.specs.Space.{IsInCube}
use Rattle.octant_code.specs.declared.limits.TheConstants.{MOST_BODIES}
use Rattle.scene_file.specs.Bodies.{sites_of, total_mass}
use Rattle.scene_file.specs.declared.bodies.Body.{Body}
use Rattle.scene_file.specs.declared.fault.SceneFault.{SceneFault}
use Rattle.scene_file.specs.declared.fault.SceneFault.TheVariants as fault

-- what a list keeps that was gathered, with its total mass: the rule of bodies, but for the points being apart
pub record AreGathered (bodies : List Body) (total : ℕ) : Type 0 where
  pub few : length bodies ≤ MOST_BODIES
  pub massive : All (λ (b : Body). 0 < b.mass) bodies
  pub small : total_mass bodies < 2 ^ 40
  pub in_cube : All IsInCube (sites_of bodies)
  pub sum : total ≡ total_mass bodies

-- the bodies with one more, wherever it is: there is place for it, and the total mass stays below 2 ^ 40
abbrev pub gathered : ℕ → List Body → Body → Result (List Body) SceneFault
gathered number bodies body =
    if nat_le MOST_BODIES (length bodies) then Err (fault.TooMany number)
    else if nat_le (2 ^ 40) (total_mass bodies + body.mass) then Err (fault.MassTotal number)
    else Ok (bodies ++ body ∷ [])

-- the points are apart; or the fault names the first body at the point of an earlier one, and its record; or memory ran out
abbrev pub IsPointTest : List Body → Result (Unit {0}) SceneFault → Type 0
IsPointTest bodies (Ok done) = AreApart (sites_of bodies)
IsPointTest bodies (Err (fault.Coincident number earlier later)) = (number ≡ later + 1) × AreFirstSame (sites_of bodies) earlier later
IsPointTest bodies (Err fault.OutOfMemory) = ⊤
IsPointTest bodies (Err f) = ⊥
