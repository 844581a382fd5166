-- The order in which the bodies of a list are inserted.
use Rattle.std.specs.Prelude.{ℕ, ◌%◌, ◌<◌, ◌≡◌, ◌≢◌, List, length, slice_index}
use Rattle.octant_code.specs.declared.limits.TheConstants.{MOST_BODIES}

-- the body of a rank
abbrev pub body_of_rank : ℕ → ℕ
body_of_rank rank = rank % MOST_BODIES

-- a number stands among the first of a list
abbrev pub IsAmong : List ℕ → ℕ → ℕ → Type 0
IsAmong bodies first n = (k : ℕ) × (k < first) × (slice_index bodies k ≡ n)

-- The list has each number below a count once.
pub record HasEachOnce (count : ℕ) (bodies : List ℕ) : Type 0 where
  pub many : length bodies ≡ count
  pub below : (k : ℕ) → k < count → slice_index bodies k < count
  pub once : (i j : ℕ) → i < j → j < count → slice_index bodies i ≢ slice_index bodies j
  pub all : (n : ℕ) → n < count → IsAmong bodies count n
