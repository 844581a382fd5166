-- Lists of points.
use Rattle.std.specs.Prelude.{ℕ, ◌<◌, ◌≤◌, ◌≢◌, List, length, slice_index_or}
use Rattle.std.specs.List.{All}
use Rattle.octant_code.specs.Space.{IsInCube, Site, origin}
use Rattle.octant_code.specs.declared.limits.TheConstants.{MOST_BODIES}

-- the site of a number: the list's at that position
abbrev pub site_at : List Site → ℕ → Site
site_at sites n = slice_index_or sites n origin

-- no two positions have one site
abbrev pub AreApart : List Site → Type 0
AreApart sites = (i j : ℕ) → i < j → j < length sites → site_at sites i ≢ site_at sites j

-- what every list of points keeps: there are at most 65,536, no two are one, and each lies in the cube
pub record ArePoints (sites : List Site) : Type 0 where
  pub few : length sites ≤ MOST_BODIES
  pub apart : AreApart sites
  pub in_cube : All IsInCube sites
