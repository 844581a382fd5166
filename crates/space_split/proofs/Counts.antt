-- Counting the octants of codes one by one.
use Rattle.std.proofs.Common.{ℕ, ◌+◌, ◌-◌, ◌*◌, ◌/◌, ◌%◌, ◌^◌, ◌<◌, ◌≤◌, ◌≡◌, ◌≢◌, zero, suc}
use Rattle.std.proofs.Common.{refl, sym, ◌∙◌, ap, inl, inr, arith, List, cond, eqb, get_or, length, set, take}
use Rattle.std.proofs.Common.{get_or-set_same, get_or-set_other}
use Rattle.std.proofs.lemmas.Bool.{eq-eqb, ne_eqb}
use Rattle.std.proofs.lemmas.List.{length-take}
use Rattle.std.proofs.lemmas.List.Filters.{length-filter_more}
use Rattle.std.proofs.Math.Nat.{pow-suc}
use Rattle.std.proofs.lemmas.Nat.{pow-add}
use Rattle.bh_model.proofs.Equal.{same_or_not}
use Rattle.space_split.specs.Ranges.{octant_count, octant_of_code}
use Rattle.space_split.proofs.Divisions.{part_few}

-- three bits are one digit
pub three_bits : (n : ℕ) → 2 ^ (3 * n) ≡ 8 ^ n
three_bits zero = refl
three_bits (suc n) =
    let e : 3 * suc n ≡ 3 * n + 3 = omega arith in
    ap (λ y. 2 ^ y) e ∙ pow-add 2 (3 * n) 3 ∙ omega (arith, three_bits n, pow-suc 8 n)

-- the octant that is read off a code
pub octant_read : (code level : ℕ) → code / 2 ^ (3 * (20 - level)) % 8 ≡ octant_of_code code level
octant_read code level = ap (λ y. code / y % 8) (three_bits (20 - level))

-- a count of the first codes is small
pub count_fits : (codes : List ℕ) (i level k : ℕ) → length codes ≤ 65536 → octant_count (take i codes) level k ≤ 65536
count_fits codes i level k few = omega (arith, part_few (take i codes) level k, length-take i codes)

-- one code more
pub count_more : (codes counts : List ℕ) (i j level : ℕ) → length counts ≡ 8 → i < length codes → j ≡ octant_of_code (get_or codes i 0) level → j < 8
    → ((k : ℕ) → k < 8 → get_or counts k 0 ≡ octant_count (take i codes) level k)
    → (k : ℕ) → k < 8 → get_or (set counts j (get_or counts j 0 + 1)) k 0 ≡ octant_count (take (i + 1) codes) level k
count_more codes counts i j level eight within own small before k l =
    let more = length-filter_more (λ c. eqb (octant_of_code c level) k) codes i 0 within in
    elim (same_or_not k j) [
      | inl e ↦
          let here : j < length counts = omega arith in
          let same : octant_of_code (get_or codes i 0) level ≡ k = sym own ∙ sym e in
          let one : cond {A = ℕ} (eqb (octant_of_code (get_or codes i 0) level) k) 1 0 ≡ 1 = rw (eq-eqb _ k same) refl in
          ap (λ y. get_or (set counts j (get_or counts j 0 + 1)) y 0) e ∙ get_or-set_same counts j (get_or counts j 0 + 1) 0 here
          ∙ omega (arith, before j small, more, one, ap (octant_count (take i codes) level) e)
      | inr d ↦
          let other : octant_of_code (get_or codes i 0) level ≢ k = λ e. d (sym e ∙ sym own) in
          let none : cond {A = ℕ} (eqb (octant_of_code (get_or codes i 0) level) k) 1 0 ≡ 0 = rw (ne_eqb _ k other) refl in
          get_or-set_other counts j k (get_or counts j 0 + 1) 0 d ∙ omega (arith, before k l, more, none)
    ]
