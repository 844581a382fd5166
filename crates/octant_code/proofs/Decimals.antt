-- How a decimal is read digit by digit.
use Rattle.std.proofs.Common.{◌≡◌, ◌<◌, ◌≤◌, ◌+◌, ◌*◌, ◌^◌, ℕ, true, List, take, length, get_or, arith, add-one, refl}
use Rattle.std.specs.Char.{digit_value, is_ascii_digit}
use Rattle.std.specs.List.{list_all}
use Rattle.std.specs.Str.Parse.{digits_value}
use Rattle.std.proofs.lemmas.List.{take_more}
use Rattle.std.proofs.lemmas.List.Folds.{list_all_more}
use Rattle.std.proofs.Math.Nat.{pow-suc, pow-le-pow_right}
use Rattle.std.proofs.lemmas.Int.Digits.{digits_value_push}

-- one more digit
pub value_more : (xs : List ℕ) (i : ℕ) → i < length xs
    → digits_value 10 (take (i + 1) xs) ≡ digits_value 10 (take i xs) * 10 + digit_value (get_or xs i 0)
value_more xs i within = rw (take_more xs i 0 within, digits_value_push 10 (take i xs) (get_or xs i 0)) refl

-- the bytes up to one more digit are digits
pub digits_more : (xs : List ℕ) (i : ℕ) → i < length xs → list_all is_ascii_digit (take i xs) ≡ true → true ≡ is_ascii_digit (get_or xs i 0)
    → list_all is_ascii_digit (take (i + 1) xs) ≡ true
digits_more xs i within all digit = rw (list_all_more is_ascii_digit xs i 0 within, all, ← digit) refl

-- up to 19 digits fit 64 bits
pub ten_fits : (i : ℕ) → i < 19 → 10 ^ (i + 1) < 2 ^ 64
ten_fits i h = let grows : 10 ^ (i + 1) ≤ 10 ^ 19 = pow-le-pow_right (omega arith) (let h : i + 1 ≤ 19 = omega arith in h) in omega (arith, grows)

-- one more digit makes the bound ten times as large
pub ten_more : (i value digit : ℕ) → value < 10 ^ i → digit ≤ 9 → value * 10 + digit < 10 ^ (i + 1)
ten_more i value digit h d = let e : 10 ^ (i + 1) ≡ 10 ^ i * 10 = pow-suc' i in omega (arith, e)
  where
    pow-suc' : (i : ℕ) → 10 ^ (i + 1) ≡ 10 ^ i * 10
    pow-suc' i = rw add-one (pow-suc 10 i)
