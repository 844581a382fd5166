-- What shares between them hold.
use Rattle.std.specs.Prelude.{ℕ, ◌≡◌, ◌<◌, ◌≤◌, List, eqb, filter, length}
use Rattle.tree_passes.specs.Counting.{sum_of, times}

-- how often a number stands in the lists, all taken together
abbrev pub times_in_all : ℕ → List (List ℕ) → ℕ
times_in_all n shares = sum_of (times n) shares

-- the members of a list that a worker owns
abbrev pub owned : (ℕ → ℕ) → List ℕ → ℕ → List ℕ
owned own all w = filter (λ n. eqb (own n) w) all

-- There are 1 to 64 shares, and between them they hold each number below the count once, and no other.
pub record AreShares (count : ℕ) (shares : List (List ℕ)) : Type 0 where
  pub some : 1 ≤ length shares
  pub few : length shares ≤ 64
  pub once : (n : ℕ) → n < count → times_in_all n shares ≡ 1
  pub no_other : (n : ℕ) → count ≤ n → times_in_all n shares ≡ 0
