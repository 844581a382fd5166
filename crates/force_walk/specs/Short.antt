-- Terms and sums of terms in words of 64 bits.
use Rattle.std.specs.Prelude.{ℕ, ◌+◌, ◌*◌, ◌^◌, ◌<◌, ◌≤◌}
use Rattle.bh_model.specs.declared.pull.Pull.{Pull}
use Rattle.bh_model.specs.Pulls.{IsSmall, add_pull}
use Rattle.force_walk.specs.declared.short_pull.ShortPull.{ShortPull}

-- the pull that a short one is
abbrev pub pull_of : ShortPull → Pull
pull_of p = record { ax = p.ax; ay = p.ay; az = p.az; met = p.met }

-- the rate of a scale and a divisor, in parts of 2^-32, is so much or less than two parts more
pub record IsRate (scale divisor rate : ℕ) : Type 0 where
  pub positive : 0 < divisor
  pub low : rate * divisor ≤ scale * 2 ^ 32
  pub high : scale * 2 ^ 32 < rate * divisor + 2 * divisor

-- the sum of a walk, of which some terms come short and the others wide
abbrev pub sum_of : ShortPull → Pull → Pull
sum_of short wide = add_pull wide (pull_of short)

-- a sum of at most so many terms, none of which is greater than its word holds
pub record IsSumOf (terms : ℕ) (short : ShortPull) (wide : Pull) : Type 0 where
  pub short_small : IsSmall (terms * 2 ^ 31) terms (pull_of short)
  pub wide_small : IsSmall (terms * 2 ^ 80) terms wide
  pub few : wide.met + short.met ≤ terms
