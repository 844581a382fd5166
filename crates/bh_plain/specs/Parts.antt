-- What is known of the bodies of one cube where a plain program divides a list of bodies.
use Rattle.std.specs.Prelude.{ℕ, ◌^◌, ◌<◌, ◌≡◌, All, List, length, slice_index, sum_by}
use Rattle.octant_code.specs.Points.{ArePoints, site_at}
use Rattle.octant_code.specs.Space.{Site, key_of}
use Rattle.bh_model.specs.Bodies.{IsIn, NoneTwice}

-- the bodies are different ones of a list of points with masses, they lie in the cube of the key of the level, and they are light
pub record IsPart (sites : List Site) (masses : List ℕ) (level key : ℕ) (bodies : List ℕ) : Type 0 where
  pub rule : ArePoints sites
  pub once : NoneTwice bodies
  pub within : All (λ n. n < length sites) bodies
  pub weighed : All (λ n. n < length masses) bodies
  pub under : (n : ℕ) → IsIn bodies n → key_of (site_at sites n) level ≡ key
  pub light : sum_by (λ n. slice_index masses n) bodies < 2 ^ 40
