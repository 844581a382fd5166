-- The end of the way down to a point, and the cells that part two bodies.
use Rattle.std.specs.Prelude.{ℕ, ◌+◌, ◌<◌, ◌≤◌, ◌≡◌, ◌≢◌, ◌⊎◌, List, length, Option, None, Some}
use Rattle.octant_code.specs.Space.{Site, key_of}
use Rattle.octant_code.specs.Points.{site_at}
use Rattle.octant_code.specs.declared.limits.TheConstants.{LEVELS}
use Rattle.tree_rule.specs.Locks.{AreUnlocked}
use Rattle.tree_rule.specs.Words.{at_of, body_word, child_place, key_place}
use Rattle.octree.specs.Stored.{word_count}

-- the word names the body, or nothing
abbrev pub NamesNoCell : ℕ → Option ℕ → Type 0
NamesNoCell w None = w ≡ 0
NamesNoCell w (Some n) = w ≡ body_word n

-- The words of one more cell, which has a key and names nothing yet, behind those of a list.
pub record IsCellAdded (before after : List ℕ) (cell key : ℕ) : Type 0 where
  pub len : length after ≡ word_count (cell + 1)
  pub kept : (i : ℕ) → i < word_count cell → at_of after i ≡ at_of before i
  pub keyed : at_of after (key_place cell) ≡ key
  pub empty : (k : ℕ) → k < 8 → at_of after (child_place cell k) ≡ 0
  pub unlocked : AreUnlocked after (cell + 1)

-- the body is `x` or `n`
abbrev pub IsOneOf : ℕ → ℕ → ℕ → Type 0
IsOneOf x n m = (m ≡ x) ⊎ (m ≡ n)

-- the cell was taken between two counts
abbrev pub IsTaken : ℕ → ℕ → ℕ → Type 0
IsTaken from to c = (from ≤ c) × (c < to)

-- Two bodies of a list lie in the cube of a key, which is of one of the levels that cells have.
pub record ArePair (sites : List Site) (x n key level : ℕ) : Type 0 where
  pub shallow : level < LEVELS
  pub x_in : x < length sites
  pub n_in : n < length sites
  pub differ : x ≢ n
  pub x_under : key ≡ key_of (site_at sites x) level
  pub n_under : key ≡ key_of (site_at sites n) level
