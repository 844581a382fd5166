-- Sums of the first pulls of some in a row.
use Rattle.std.proofs.Common.{◌≡◌, ◌<◌, ◌+◌, ◌*◌, ℕ, zero, suc, sym, ap, ◌∙◌, arith, add-one}
use Rattle.bh_model.specs.Pulls.{IsSmall, add_pull, no_pull}
use Rattle.bh_model.specs.declared.pull.Pull.{Pull}
use Rattle.bh_model.proofs.PullBounds.{small_add, small_none}
use Rattle.bh_model.proofs.Totals.{sum_upto}

-- the sum of the first k pulls
abbrev pub pull_upto : (ℕ → Pull) → ℕ → Pull
pull_upto f zero = no_pull
pull_upto f (suc k) = add_pull (pull_upto f k) (f k)

-- one more pull is added
pub pull_step : (f : ℕ → Pull) (k : ℕ) (sum more : Pull) → sum ≡ pull_upto f k → more ≡ f k → add_pull sum more ≡ pull_upto f (k + 1)
pull_step f k sum more before one = ap (λ y. add_pull y more) before ∙ ap (λ y. add_pull (pull_upto f k) y) one ∙ ap (pull_upto f) (sym (add-one k))

-- sums of small pulls
pub upto_small : (f : ℕ → Pull) (b c : ℕ → ℕ) (n : ℕ) → ((k : ℕ) → k < n → IsSmall (b k) (c k) (f k)) → IsSmall (sum_upto b n) (sum_upto c n) (pull_upto f n)
unfolding sum_upto
upto_small f b c zero h = small_none 0 0
upto_small f b c (suc n) h = small_add _ _ _ _ _ _ (upto_small f b c n (λ k l. h k (omega arith))) (h n (omega arith))

-- a constant times a sum
pub sum_scaled : (g : ℕ) (f : ℕ → ℕ) (n : ℕ) → sum_upto (λ k. g * f k) n ≡ g * sum_upto f n
unfolding sum_upto
sum_scaled g f zero = omega arith
sum_scaled g f (suc n) = omega (arith, sum_scaled g f n)
