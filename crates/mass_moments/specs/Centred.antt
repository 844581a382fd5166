-- The rounded centres that are kept beside the moments of the cells.
use Rattle.std.specs.Prelude.{ℕ, ◌<◌, ◌≡◌, List, length}
use Rattle.octant_code.specs.Space.{Site}
use Rattle.octant_code.specs.Points.{site_at}
use Rattle.bh_model.specs.Moments.{centre_of}
use Rattle.bh_model.specs.declared.moment.Moment.{Moment}
use Rattle.mass_moments.specs.Kept.{moment_at}

-- each moment with mass has its centre, rounded down, at its own number in a second list
pub record AreCentred (moments : List Moment) (centres : List Site) : Type 0 where
  pub one_each : length centres ≡ length moments
  pub each : (c : ℕ) → 0 < (moment_at moments c).mass → site_at centres c ≡ centre_of (moment_at moments c)
