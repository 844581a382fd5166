-- Words in which no lock is held.
use Rattle.std.specs.Prelude.{ℕ, ◌<◌, ◌≡◌, List}
use Rattle.tree_rule.specs.Words.{at_of, lock_place}
use Rattle.tree_rule.specs.declared.words.TheConstants.{POOL_PLACE, ROOT_LOCK}

-- The root's lock, the pool word and the locks of the cells below a number are 0.
pub record AreUnlocked (words : List ℕ) (cells : ℕ) : Type 0 where
  pub second : at_of words ROOT_LOCK ≡ 0
  pub third : at_of words POOL_PLACE ≡ 0
  pub locks : (c : ℕ) → c < cells → at_of words (lock_place c) ≡ 0
