-- The key of a point has its coordinates' bits in turn.
use Rattle.std.proofs.Common.{ℕ, ◌+◌, ◌-◌, ◌*◌, ◌/◌, ◌%◌, ◌^◌, ◌<◌, ◌≡◌, zero, suc, refl, sym, ap, ◌∙◌, arith}
use Rattle.std.proofs.Common.{◌≢◌, inl, inr, List, get_or, length, set, get_or-set_same, get_or-set_other}
use Rattle.bh_model.proofs.Equal.{same_or_not}
use Rattle.std.proofs.Math.Nat.{div-div-eq-div-mul, pow-suc, pow-zero}
use Rattle.octant_code.specs.Space.{IsInCube, Site, key_of}
use Rattle.octant_code.proofs.Keys.{key-suc, key-zero, octant-bits}
use Rattle.space_split.specs.Spreads.{octants_by, spread_of}

-- the spread bits of a number, by those of its half
spread_next : (bits v : ℕ) → spread_of (suc bits) v ≡ v % 2 + 8 * spread_of bits (v / 2)
unfolding spread_of
spread_next bits v = refl

pub spread_none : spread_of 7 0 ≡ 0
unfolding spread_of
spread_none = refl

no_bits : (v : ℕ) → spread_of 0 v ≡ 0
unfolding spread_of
no_bits v = refl

-- spread bits are few
pub spread_small : (bits v : ℕ) → 7 * spread_of bits v < 8 ^ bits
spread_small zero v = omega (arith, pow-zero 8, no_bits v)
spread_small (suc bits) v = omega (arith, pow-suc 8 bits, spread_next bits v, spread_small bits (v / 2))

-- the spread bits of a number of seven bits, by those of its half
spread_more : (v : ℕ) → v < 128 → spread_of 7 v ≡ 8 * spread_of 7 (v / 2) + v % 2
unfolding spread_of
spread_more v fits = omega arith

-- one number more of the table
pub table_more : (table : List ℕ) (k n : ℕ) → length table ≡ 128 → 0 < k → k < 128 → n ≡ 8 * get_or table (k / 2) 0 + k % 2
    → ((j : ℕ) → j < k → get_or table j 0 ≡ spread_of 7 j) → (j : ℕ) → j < k + 1 → get_or (set table k n) j 0 ≡ spread_of 7 j
table_more table k n long some fits is before j l = elim (same_or_not j k) [
  | inl e ↦
      ap (λ y. get_or (set table k n) y 0) e ∙ get_or-set_same table k n 0 (omega arith)
      ∙ omega (arith, is, before (k / 2) (omega arith), spread_more k fits, ap (spread_of 7) e)
  | inr d ↦ get_or-set_other table k j n 0 d ∙ before j (let m : j ≢ k = d in omega arith)
]

-- the bits of a number in two groups, of which the lower one has seven
spread_groups : (bits v : ℕ)
    → spread_of (suc (suc (suc (suc (suc (suc (suc bits))))))) v ≡ spread_of 7 (v % 128) + 2097152 * spread_of bits (v / 128)
unfolding spread_of
spread_groups bits v =
    let last : v / 2 / 2 / 2 / 2 / 2 / 2 / 2 ≡ v / 128 = omega arith in
    let s = ap (spread_of bits) last in
    omega (arith, s)

-- a key by the spread bits of the coordinates without some of the lowest
key_spread : (s : Site) (level below : ℕ) → level + below ≡ 21
    → key_of s level ≡ 8 ^ level + 4 * spread_of level (s.x / 2 ^ below) + 2 * spread_of level (s.y / 2 ^ below) + spread_of level (s.z / 2 ^ below)
key_spread s zero below e =
    omega (arith, key-zero s, pow-zero 8, no_bits (s.x / 2 ^ below), no_bits (s.y / 2 ^ below), no_bits (s.z / 2 ^ below))
key_spread s (suc level) below e =
    let here : 20 - level ≡ below = omega arith in
    let bits = octant-bits s level ∙ ap (λ l. 4 * (s.x / 2 ^ l % 2) + 2 * (s.y / 2 ^ l % 2) + s.z / 2 ^ l % 2) here in
    let next : (v : ℕ) → spread_of (suc level) (v / 2 ^ below) ≡ v / 2 ^ below % 2 + 8 * spread_of level (v / 2 ^ suc below) =
    λ v. spread_next level (v / 2 ^ below)
    ∙ ap (λ w. v / 2 ^ below % 2 + 8 * spread_of level w) (div-div-eq-div-mul v (2 ^ below) 2 ∙ ap (λ n. v / n) (sym (pow-suc 2 below))) in
    omega (arith, key-suc s level, pow-suc 8 level, bits, next s.x, next s.y, next s.z, key_spread s level (suc below) (omega arith))

-- the bits of a coordinate in three groups
three_groups : (v : ℕ) → v < 2 ^ 21
    → spread_of 21 v ≡ (spread_of 7 (v / 16384 % 128) * 2097152 + spread_of 7 (v / 128 % 128)) * 2097152 + spread_of 7 (v % 128)
three_groups v fits =
    let top : v / 128 / 128 ≡ v / 16384 % 128 = omega arith in
    let s = ap (spread_of 7) top in
    omega (arith, spread_groups 14 v, spread_groups 7 (v / 128), s)

-- three coordinates in groups, and their bits in turn
turns : (k x y z a b c d e f g h i : ℕ) → k ≡ 9223372036854775808 + 4 * x + 2 * y + z → x ≡ (a * 2097152 + b) * 2097152 + c
    → y ≡ (d * 2097152 + e) * 2097152 + f → z ≡ (g * 2097152 + h) * 2097152 + i
    → k ≡ ((2097152 + (4 * a + 2 * d + g)) * 2097152 + (4 * b + 2 * e + h)) * 2097152 + (4 * c + 2 * f + i)
turns k x y z a b c d e f g h i p q r t = omega arith

-- a code by the octants of seven levels at a time
pub code_groups : (s : Site) → IsInCube s
    → key_of s 21
    ≡ ((2097152 + octants_by (s.x / 16384) (s.y / 16384) (s.z / 16384)) * 2097152 + octants_by (s.x / 128) (s.y / 128) (s.z / 128)) * 2097152
    + octants_by s.x s.y s.z
code_groups s inside =
    let whole : (v : ℕ) → spread_of 21 (v / 2 ^ 0) ≡ spread_of 21 v = λ v. ap (spread_of 21) (omega arith) in
    turns (key_of s 21) (spread_of 21 s.x) (spread_of 21 s.y) (spread_of 21 s.z) _ _ _ _ _ _ _ _ _
    (omega (arith, key_spread s 21 0 refl, whole s.x, whole s.y, whole s.z)) (three_groups s.x inside.x_fits) (three_groups s.y inside.y_fits)
    (three_groups s.z inside.z_fits)
