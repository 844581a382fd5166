-- Square roots, and quotients towards zero.
use Rattle.std.specs.Prelude.{ℕ, zero, suc, ◌+◌, ◌*◌, ◌/◌, ℤ, pos, negsuc, neg_ℤ, nat_le, if◌then◌else◌}

-- the greatest number up to k whose square is at most n
unfoldable pub root_below : ℕ → ℕ → ℕ
root_below n zero = 0
root_below n (suc k) = if nat_le (suc k * suc k) n then suc k else root_below n k

-- the square root of a number, rounded down: the greatest number whose square is at most it
unfoldable pub root : ℕ → ℕ
root n = root_below n n

-- the quotient of a number by one that is not negative, rounded towards zero; `negsuc n` is the number -(n + 1)
abbrev pub quotient : ℤ → ℕ → ℤ
quotient (pos n) d = pos (n / d)
quotient (negsuc n) d = neg_ℤ (pos ((n + 1) / d))
