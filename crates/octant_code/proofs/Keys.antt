-- How large keys are, and that they tell their level and their parent.
use Rattle.std.proofs.Common.{ℕ, ◌+◌, ◌*◌, ◌/◌, ◌^◌, ◌<◌, ◌≤◌, ◌≡◌, ◌↔◌, IsTrue, zero, suc, refl, sym, ap, ◌∙◌, arith, inl, inr, eqb, eq-eqb}
use borrow.Author.Tests.{eqb-true}
use Rattle.std.proofs.lemmas.Bool.{cases_lt}
use Rattle.std.proofs.Math.Nat.{pow-zero, pow-suc, pow-le-pow_right, div-div-eq-div-mul}
use Rattle.octant_code.specs.Space.{Site, octant_of, bit_at, key_of, IsUnder}

-- what an octant is made of
pub octant-bits : (s : Site) (level : ℕ) → octant_of s level ≡ 4 * bit_at s.x level + 2 * bit_at s.y level + bit_at s.z level
unfolding octant_of
octant-bits s level = refl

-- there are eight octants
pub octant-small : (s : Site) (level : ℕ) → octant_of s level < 8
octant-small s level = omega (arith, octant-bits s level)

-- the whole cube's key
pub key-zero : (s : Site) → key_of s 0 ≡ 1
unfolding key_of
key-zero s = refl

-- a child's key
pub key-suc : (s : Site) (level : ℕ) → key_of s (suc level) ≡ 8 * key_of s level + octant_of s level
unfolding key_of
key-suc s level = refl

-- the least key of a level
pub key-low : (s : Site) (level : ℕ) → 8 ^ level ≤ key_of s level
key-low s zero = omega (arith, key-zero s, pow-zero 8)
key-low s (suc level) = omega (arith, key-suc s level, pow-suc 8 level, key-low s level)

-- one past the greatest key of a level
pub key-high : (s : Site) (level : ℕ) → key_of s level < 2 * 8 ^ level
key-high s zero = omega (arith, key-zero s, pow-zero 8)
key-high s (suc level) = omega (arith, key-suc s level, pow-suc 8 level, key-high s level, octant-small s level)

-- powers of 8 grow
pub pow8-mono : (i j : ℕ) → i ≤ j → 8 ^ i ≤ 8 ^ j
pow8-mono i j h = pow-le-pow_right (omega arith) h

-- no key is 0
pub key-positive : (s : Site) (level : ℕ) → 1 ≤ key_of s level
key-positive s level = omega (arith, key-low s level, pow8-mono 0 level (omega arith), pow-zero 8)

-- a key is below those of deeper levels
pub key-deeper : (s t : Site) (i j : ℕ) → i < j → key_of s i < key_of t j
key-deeper s t i j h = omega (arith, key-high s i, key-low t j, pow8-mono (suc i) j (omega arith), pow-suc 8 i)

-- equal keys are of one level
pub same_level : (s t : Site) (i j : ℕ) → key_of s i ≡ key_of t j → i ≡ j
same_level s t i j e =
    elim (cases_lt i j) [
      | inl h ↦ absurd (omega (arith, key-deeper s t i j h))
      | inr g ↦ elim (cases_lt j i) [ inl h ↦ absurd (omega (arith, key-deeper t s j i h)) | inr h ↦ omega arith ]
    ]

-- the children of two cells with one key have one parent
pub same_parent : (a b k m : ℕ) → k < 8 → m < 8 → 8 * a + k ≡ 8 * b + m → a ≡ b
same_parent a b k m p q e = omega arith

-- and they are the same child
pub same_child : (a b k m : ℕ) → k < 8 → m < 8 → 8 * a + k ≡ 8 * b + m → k ≡ m
same_child a b k m p q e = omega arith

-- the keys of one more level fit 64 bits
pub key-next-fits : (s : Site) (level : ℕ) → level < 21 → 8 * key_of s level + 7 < 2 ^ 64
key-next-fits s level h = omega (arith, key-high s level, pow8-mono level 20 (omega arith))

-- a search through all levels found no key, but maybe that of the last
pub last-level : (s : Site) (here key i : ℕ) → here ≡ key_of s i → i ≡ 21 → ((k : ℕ) → k < i → key ≡ key_of s k → ⊥) → IsTrue (eqb here key) ↔ IsUnder key s
last-level s here key i h e below = (
  λ t. (i, omega arith, sym (eqb-true here key t) ∙ h),
  λ u. elim (cases_lt u.0 i) [
    | inl l ↦ absurd (below u.0 l u.2)
    | inr g ↦ (let same : u.0 ≡ i = omega arith in eq-eqb here key (h ∙ sym (ap (key_of s) same) ∙ sym u.2))
  ],
)

-- a key, divided by 8 for each level between, is the key of the level above
pub key-above : (s : Site) (level below : ℕ) → key_of s (level + below) / 8 ^ below ≡ key_of s level
key-above s level zero =
    let e : level + 0 ≡ level = omega arith in
    omega (arith, pow-zero 8, ap (key_of s) e)
key-above s level (suc below) =
    let next : level + suc below ≡ suc (level + below) = omega arith in
    let deeper : key_of s (level + suc below) ≡ 8 * key_of s (level + below) + octant_of s (level + below) = ap (key_of s) next ∙ key-suc s (level + below) in
    let power : 8 * 8 ^ below ≡ 8 ^ suc below = omega (arith, pow-suc 8 below) in
    let parent : key_of s (level + suc below) / 8 ≡ key_of s (level + below) = omega (arith, deeper, octant-small s (level + below)) in
    let split : key_of s (level + suc below) / 8 / 8 ^ below ≡ key_of s (level + suc below) / 8 ^ suc below =
    div-div-eq-div-mul (key_of s (level + suc below)) 8 (8 ^ below) ∙ ap (λ p. key_of s (level + suc below) / p) power in
    sym split ∙ ap (λ k. k / 8 ^ below) parent ∙ key-above s level below

-- a key that is in the range of a level is of that level
pub level_of_key : (s : Site) (key level l : ℕ) → 8 ^ level ≤ key → key < 2 * 8 ^ level → key ≡ key_of s l → l ≡ level
level_of_key s key level l low high e =
    elim (cases_lt l level) [
      | inl h ↦ absurd (omega (arith, key-high s l, pow8-mono (suc l) level (omega arith), pow-suc 8 l))
      | inr g ↦ elim (cases_lt level l)
          [ inl h ↦ absurd (omega (arith, key-low s l, pow8-mono (suc level) l (omega arith), pow-suc 8 level)) | inr h ↦ omega arith ]
    ]
