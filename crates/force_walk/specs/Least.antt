-- The least squared distances at which cubes are far.
use Rattle.std.specs.Prelude.{ℕ, ◌*◌, ◌^◌, ◌<◌, ◌≤◌, ◌≡◌, not, nat_lt, List, slice_index}
use Rattle.octant_code.specs.declared.limits.TheConstants.{LEVELS}
use Rattle.bh_model.specs.Pulls.{PullLaw}

-- the least squared distance at which a cube of side 2 ^ down is far, where squared distances are below 2 ^ 44
pub record IsLeast (law : PullLaw) (down least : ℕ) : Type 0 where
  pub positive : 1 ≤ least
  pub tells : (d2 : ℕ) → d2 < 2 ^ 44
      → nat_lt d2 least ≡ not (nat_lt (2 ^ down * 2 ^ down * (law.theta_den * law.theta_den)) (law.theta_num * law.theta_num * d2))

-- a list has the least squared distance for each side
abbrev pub AreLeast : PullLaw → List ℕ → Type 0
AreLeast law list = (down : ℕ) → down ≤ LEVELS → IsLeast law down (slice_index list down)
