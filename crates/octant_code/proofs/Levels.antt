-- The level of a key, found by taking one digit after another off.
use Rattle.std.proofs.Common.{ℕ, ◌+◌, ◌*◌, ◌/◌, ◌^◌, ◌<◌, ◌≤◌, ◌≡◌, suc, sym, ◌∙◌, ap, inl, inr, arith, add-one, subst}
use Rattle.std.proofs.Math.Nat.{div-div-eq-div-mul, le-div_iff_mul-le, pow-suc}
use Rattle.std.proofs.lemmas.Bool.{cases_lt}
use Rattle.std.proofs.lemmas.Nat.{le-div}
use Rattle.octant_code.specs.Prefixes.{IsKeyOfLevel}
use Rattle.octant_code.specs.Space.{IsKey}
use Rattle.octant_code.proofs.Keys.{pow8-mono}

power_next : (level : ℕ) → 8 ^ (level + 1) ≡ 8 ^ level * 8
power_next level = ap (λ y. 8 ^ y) (add-one level) ∙ pow-suc 8 level

-- one digit less
off_next : (key level : ℕ) → key / 8 ^ level / 8 ≡ key / 8 ^ (level + 1)
off_next key level = div-div-eq-div-mul key (8 ^ level) 8 ∙ ap (λ y. key / y) (sym (power_next level))

positive : (n : ℕ) → 0 < 8 ^ n
positive n = omega (arith, pow8-mono 0 n (omega arith))

-- a key of which less than 8 is left is below the keys of the next level
pub below_next : (key rest level : ℕ) → rest ≡ key / 8 ^ level → rest < 8 → key < 8 ^ (level + 1)
below_next key rest level e small = elim (cases_lt key (8 ^ (level + 1))) [
  | inl l ↦ l
  | inr g ↦
      let one : 1 ≤ key / 8 ^ (level + 1) = le-div 1 key (8 ^ (level + 1)) (positive (level + 1)) (omega arith) in
      absurd (omega (arith, one, off_next key level, e))
]

-- and otherwise it is one of its keys or of a deeper one
pub next_level : (key rest level : ℕ) → rest ≡ key / 8 ^ level → 8 ≤ rest → (rest / 8 ≡ key / 8 ^ (level + 1)) × (8 ^ (level + 1) ≤ key)
next_level key rest level e more =
    let off : rest / 8 ≡ key / 8 ^ (level + 1) = ap (λ y. y / 8) e ∙ off_next key level in
    let some : 1 ≤ key / 8 ^ (level + 1) = omega (arith, off) in
    let whole : 1 * 8 ^ (level + 1) ≤ key = (le-div_iff_mul-le {k = 8 ^ (level + 1)} {x = 1} {y = key} (positive (level + 1))).0 some in
    (off, omega arith)

-- a key between the least of a level and the least of the next is of the level
pub level_is : (key level : ℕ) → IsKey key → 8 ^ level ≤ key → key < 8 ^ (level + 1) → IsKeyOfLevel level key
level_is key level h low high = elim (cases_lt level h.0) [
  | inl l ↦ absurd (omega (arith, pow8-mono (level + 1) h.0 (omega arith), h.2))
  | inr g ↦ elim (cases_lt h.0 level) [
    | inl l ↦ absurd (omega (arith, pow8-mono (suc h.0) level (omega arith), pow-suc 8 h.0, h.3))
    | inr l ↦ let same : h.0 ≡ level = omega arith in subst (λ (y : ℕ). IsKeyOfLevel y key) same (h.2, h.3)
  ]
]
