-- The sites of the cube that have one key at the deepest level are one.
use Rattle.std.proofs.Common.{ℕ, ◌+◌, ◌-◌, ◌*◌, ◌/◌, ◌^◌, ◌<◌, ◌≤◌, ◌≡◌, zero, suc, sym, ◌∙◌, ap, arith}
use Rattle.std.proofs.Math.Nat.{div-div-eq-div-mul, pow-suc}
use Rattle.octant_code.specs.Space.{Site, IsInCube, octant_of, bit_at, key_of, packed}
use Rattle.octant_code.proofs.Keys.{key-suc, octant-bits, octant-small, same_parent, same_child}

-- what is left of a coordinate above a level, with the level's bit
high_bits : (v level : ℕ) → level < 21 → v / 2 ^ (20 - level) ≡ 2 * (v / 2 ^ (21 - level)) + bit_at v level
high_bits v level h =
    let e : 21 - level ≡ suc (20 - level) = omega arith in
    let d : v / 2 ^ (20 - level) / 2 ≡ v / 2 ^ (21 - level) = div-div-eq-div-mul v (2 ^ (20 - level)) 2
    ∙ ap (λ y. v / y) (sym (pow-suc 2 (20 - level)) ∙ ap (λ y. 2 ^ y) (sym e)) in
    omega (arith, d)

-- the coordinates above a level are equal
pub record AgreeAbove (s t : Site) (level : ℕ) : Type 0 where
  pub x_same : s.x / 2 ^ (21 - level) ≡ t.x / 2 ^ (21 - level)
  pub y_same : s.y / 2 ^ (21 - level) ≡ t.y / 2 ^ (21 - level)
  pub z_same : s.z / 2 ^ (21 - level) ≡ t.z / 2 ^ (21 - level)

-- above the highest bit nothing is left
small_div : (v : ℕ) → v < 2 ^ 21 → v / 2 ^ (21 - 0) ≡ 0
small_div v h = omega arith

-- one more bit agrees
next : (v w level : ℕ) → level < 21 → v / 2 ^ (21 - level) ≡ w / 2 ^ (21 - level) → bit_at v level ≡ bit_at w level
    → v / 2 ^ (21 - suc level) ≡ w / 2 ^ (21 - suc level)
next v w level h e b =
    let same : 21 - suc level ≡ 20 - level = omega arith in
    ap (λ y. v / 2 ^ y) same ∙ high_bits v level h ∙ (ap (λ y. 2 * y + bit_at v level) e ∙ ap (λ y. 2 * (w / 2 ^ (21 - level)) + y) b)
    ∙ sym (high_bits w level h) ∙ ap (λ y. w / 2 ^ y) (sym same)

-- sites of one key at a level agree above it
pub agree : (s t : Site) → IsInCube s → IsInCube t → (level : ℕ) → level ≤ 21 → key_of s level ≡ key_of t level → AgreeAbove s t level
agree s t p q zero l e = record {
  x_same = small_div s.x p.x_fits ∙ sym (small_div t.x q.x_fits);
  y_same = small_div s.y p.y_fits ∙ sym (small_div t.y q.y_fits);
  z_same = small_div s.z p.z_fits ∙ sym (small_div t.z q.z_fits);
}
agree s t p q (suc level) l e =
    let both : 8 * key_of s level + octant_of s level ≡ 8 * key_of t level + octant_of t level = sym (key-suc s level) ∙ e ∙ key-suc t level in
    let up = agree s t p q level (omega arith)
    (same_parent (key_of s level) (key_of t level) (octant_of s level) (octant_of t level) (octant-small s level) (octant-small t level) both) in
    let same : octant_of s level ≡ octant_of t level = same_child (key_of s level) (key_of t level) (octant_of s level) (octant_of t level)
    (octant-small s level) (octant-small t level) both in
    let bits : 4 * bit_at s.x level + 2 * bit_at s.y level + bit_at s.z level ≡ 4 * bit_at t.x level + 2 * bit_at t.y level + bit_at t.z level = sym
    (octant-bits s level) ∙ same ∙ octant-bits t level in
    record {
      x_same = next s.x t.x level (omega arith) up.x_same (omega (arith, bits));
      y_same = next s.y t.y level (omega arith) up.y_same (omega (arith, bits));
      z_same = next s.z t.z level (omega arith) up.z_same (omega (arith, bits));
    }

-- the site of three coordinates
abbrev pub made : ℕ → ℕ → ℕ → Site
made a b c = record { x = a; y = b; z = c }

-- a site is its coordinates
pub site_parts : (a b c d e f : ℕ) → a ≡ d → b ≡ e → c ≡ f → made a b c ≡ made d e f
site_parts a b c d e f p q r = ap (λ u. made u b c) p ∙ ap (λ u. made d u c) q ∙ ap (λ u. made d e u) r

-- sites of one key at the deepest level are one
pub same_site : (s t : Site) → IsInCube s → IsInCube t → key_of s 21 ≡ key_of t 21 → s ≡ t
same_site s t p q e =
    let a = agree s t p q 21 (omega arith) e in
    let x : s.x ≡ t.x = omega (arith, a.x_same) in
    let y : s.y ≡ t.y = omega (arith, a.y_same) in
    let z : s.z ≡ t.z = omega (arith, a.z_same) in
    site_parts s.x s.y s.z t.x t.y t.z x y z

-- the higher and the lower part of a number in which two stand side by side
parts : (a b c d : ℕ) → b < 2 ^ 21 → d < 2 ^ 21 → a * 2 ^ 21 + b ≡ c * 2 ^ 21 + d → (a ≡ c) × (b ≡ d)
parts a b c d p q e = (omega arith, omega arith)

-- sites of one packed number are one
pub packed_once : (s t : Site) → IsInCube s → IsInCube t → packed s ≡ packed t → s ≡ t
unfolding packed
packed_once s t p q e =
    let low = parts (s.x * 2 ^ 21 + s.y) s.z (t.x * 2 ^ 21 + t.y) t.z p.z_fits q.z_fits e in
    let high = parts s.x s.y t.x t.y p.y_fits q.y_fits low.0 in
    site_parts s.x s.y s.z t.x t.y t.z high.0 high.1 low.1
