-- Which whole points are taken by bodies.
use Rattle.std.specs.Prelude.{◌≡◌, ◌≤◌, ℕ, Bool, List, length}
use Rattle.std.specs.List.{list_any}
use Rattle.octant_code.specs.Points.{AreApart}
use Rattle.octant_code.specs.Space.{IsInCube, Site, packed, same_coordinates}
use Rattle.octant_code.specs.declared.limits.TheConstants.{MOST_BODIES}
use Rattle.drift.specs.Motions.{whole_points}
use Rattle.drift.specs.declared.body_motion.BodyMotion.{BodyMotion}

-- the points are apart, and a test of a point's packed number says whether it is one of them
pub record AreTaken (has : ℕ → Bool) (sites : List Site) : Type 0 where
  pub apart : AreApart sites
  pub held : (s : Site) → IsInCube s → has (packed s) ≡ list_any (same_coordinates s) sites

-- what a motion keeps: there are at most 65,536 bodies, and their whole points are those that are taken
pub record AreHeld (has : ℕ → Bool) (bodies : List BodyMotion) : Type 0 where
  pub few : length bodies ≤ MOST_BODIES
  pub taken : AreTaken has (whole_points bodies)
