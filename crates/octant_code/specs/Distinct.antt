-- What testing a list of points answers.
use Rattle.std.specs.Prelude.{ℕ, ◌<◌, ◌≤◌, ◌≡◌, List, length, take}
use Rattle.octant_code.specs.Space.{Site}
use Rattle.octant_code.specs.Points.{site_at, AreApart}
use Rattle.octant_code.specs.declared.limits.TheConstants.{MOST_BODIES}
use Rattle.octant_code.specs.declared.points.Distinct.{Distinct}
use Rattle.octant_code.specs.declared.points.Distinct.TheVariants.{Yes, TooMany, Same}

-- the point at `later` stands at the lower position `first` too, and no two positions before `later` have one point:
-- so `later` is the least such position, and `first` the only lower one of its point
pub record AreFirstSame (sites : List Site) (first later : ℕ) : Type 0 where
  pub order : first < later
  pub within : later < length sites
  pub same : site_at sites first ≡ site_at sites later
  pub before : AreApart (take later sites)

-- the answer of a test is right
abbrev pub IsTested : List Site → Distinct → Type 0
IsTested sites Yes = (length sites ≤ MOST_BODIES) × AreApart sites
IsTested sites TooMany = MOST_BODIES < length sites
IsTested sites (Same first later) = (length sites ≤ MOST_BODIES) × AreFirstSame sites first later
