-- Terms of pulls: the coordinates by their signs, how large they are, and a term from its parts.
use Rattle.std.proofs.Common.{◌≡◌, ℕ, zero, suc, ◌+◌, ◌-◌, ◌*◌, ◌/◌, ◌^◌, ◌<◌, ◌≤◌, inl, inr, refl, ap, ◌∙◌, sym, subst, add-one, arith, pos, ℤ, ◌*ℤ◌, ◌-ℤ◌}
use Rattle.std.proofs.Common.{neg_ℤ}
use Rattle.std.specs.Int.{w128, abs_diff}
use mir.Val.{to_z, of_z}
use lib.Signed.{mag}
use Rattle.std.proofs.lemmas.Int.{ints}
use Rattle.std.proofs.Math.Nat.{zero-div, mul-zero, div-le_of_le-mul, mul-le-mul_left}
use Rattle.std.proofs.lemmas.Nat.{mul-le, mul-lt}
use Rattle.std.proofs.lemmas.Bool.{cases_lt}
use Rattle.octant_code.specs.Numbers.{quotient, root}
use Rattle.octant_code.specs.Space.{Site, squared_distance}
use Rattle.octant_code.proofs.Roots.{root-positive}
use Rattle.octant_code.proofs.Distances.{gaps_within}
use Rattle.bh_model.specs.Pulls.{PullLaw, component, term, IsWithin, IsSmall}
use Rattle.bh_model.specs.declared.pull.Pull.{Pull}

-- a pull of three components and a number of terms
abbrev pub pull_of : ℤ → ℤ → ℤ → ℕ → Pull
pull_of ax ay az met = record { ax = ax; ay = ay; az = az; met = met }

-- pulls of equal components and equally many terms are equal
pub same_pull : (x x' y y' z z' : ℤ) (n n' : ℕ) → x ≡ x' → y ≡ y' → z ≡ z' → n ≡ n' → pull_of x y z n ≡ pull_of x' y' z' n'
same_pull x x' y y' z z' n n' a b c d = cc

-- the quotient of a number that is not positive is not positive
quotient-neg : (a d : ℕ) → quotient (neg_ℤ (pos a)) d ≡ neg_ℤ (pos (a / d))
quotient-neg zero d = rw zero-div
quotient-neg (suc a) d = rw add-one

mul-neg : (a b : ℕ) → pos a *ℤ neg_ℤ (pos b) ≡ neg_ℤ (pos (a * b))
mul-neg a zero = rw mul-zero
mul-neg a (suc b) = refl

-- one coordinate of a term where the mass is on the upper side
pub component-up : (scale from to divisor : ℕ) → from ≤ to → component scale from to divisor ≡ pos (scale * (to - from) / divisor)
unfolding component
component-up scale from to divisor h =
    let e : pos to -ℤ pos from ≡ pos (to - from) = omega (arith, ints) in
    ap (λ z. quotient (pos scale *ℤ z) divisor) e

-- and where it is on the lower side
pub component-down : (scale from to divisor : ℕ) → to ≤ from → component scale from to divisor ≡ neg_ℤ (pos (scale * (from - to) / divisor))
unfolding component
component-down scale from to divisor h =
    let e : pos to -ℤ pos from ≡ neg_ℤ (pos (from - to)) = omega (arith, ints) in
    ap (λ z. quotient (pos scale *ℤ z) divisor) e
    ∙ ap (λ z. quotient z divisor) (mul-neg scale (from - to))
    ∙ quotient-neg (scale * (from - to)) divisor

-- no part of the scale is larger than it
part_le : (scale gap divisor : ℕ) → gap ≤ divisor → 0 < divisor → scale * gap / divisor ≤ scale
part_le scale gap divisor h p = div-le_of_le-mul divisor (omega (arith, mul-le-mul_left scale h))

component-within : (scale from to divisor : ℕ) → abs_diff from to ≤ divisor → 0 < divisor → IsWithin scale (component scale from to divisor)
component-within scale from to divisor near p =
    elim (cases_lt from to) [
      | inl lt ↦
          let e = component-up scale from to divisor (omega arith) in
          let l = part_le scale (to - from) divisor (omega arith) p in
          record { low = omega (arith, ints, e, l); high = omega (arith, ints, e, l) }
      | inr ge ↦
          let e = component-down scale from to divisor ge in
          let l = part_le scale (from - to) divisor (omega arith) p in
          record { low = omega (arith, ints, e, l); high = omega (arith, ints, e, l) }
    ]

-- what a positive number is times its root: positive, and no less than the number
pub divisor-positive : (r2 : ℕ) → 0 < r2 → 0 < r2 * root r2
divisor-positive r2 h = omega (arith, mul-le 1 1 r2 (root r2) (omega arith) (omega (arith, root-positive r2 h)))

divisor-above : (r2 : ℕ) → 0 < r2 → r2 ≤ r2 * root r2
divisor-above r2 h = omega (arith, mul-le r2 1 r2 (root r2) (omega arith) (omega (arith, root-positive r2 h)))

-- each coordinate of a term lies between minus g * mass and g * mass
pub term-small : (law : PullLaw) (mass : ℕ) (from to : Site) → 0 < squared_distance from to + law.eps2 → IsSmall (law.g * mass) 1 (term law mass from to)
unfolding term
term-small law mass from to apart =
    let r2 : ℕ = squared_distance from to + law.eps2 in
    let positive = divisor-positive r2 apart in
    let above = divisor-above r2 apart in
    let gaps = gaps_within from to in
    record {
      x = component-within (law.g * mass) from.x to.x (r2 * root r2) (omega (arith, gaps.x)) positive;
      y = component-within (law.g * mass) from.y to.y (r2 * root r2) (omega (arith, gaps.y)) positive;
      z = component-within (law.g * mass) from.z to.z (r2 * root r2) (omega (arith, gaps.z)) positive;
      met = omega arith;
    }

-- the pull of one term with three coordinates
abbrev pub one_pull : ℤ → ℤ → ℤ → Pull
one_pull x y z = record { ax = x; ay = y; az = z; met = 1 }

-- a term from its three coordinates
pub term-from : (law : PullLaw) (mass : ℕ) (from to : Site) (scale r2 r : ℕ) (x y z : ℤ) → scale ≡ law.g * mass → r2 ≡ squared_distance from to + law.eps2
    → r ≡ root r2
    → x ≡ component scale from.x to.x (r2 * r) → y ≡ component scale from.y to.y (r2 * r) → z ≡ component scale from.z to.z (r2 * r)
    → one_pull x y z ≡ term law mass from to
unfolding term
term-from law mass from to scale r2 r x y z g e f p q s =
    let root_is : r ≡ root (squared_distance from to + law.eps2) = f ∙ ap root e in
    let divisors : r2 * r ≡ (squared_distance from to + law.eps2) * root (squared_distance from to + law.eps2) = ap (λ k. k * r) e
    ∙ ap (λ k. (squared_distance from to + law.eps2) * k) root_is in
    let whole : ℕ → ℕ → ℤ = λ a b. component scale a b (r2 * r) in
    ap (λ k. one_pull k y z) p ∙ ap (λ k. one_pull (whole from.x to.x) k z) q ∙ ap (λ k. one_pull (whole from.x to.x) (whole from.y to.y) k) s
    ∙ ap (λ d. one_pull (component scale from.x to.x d) (component scale from.y to.y d) (component scale from.z to.z d)) divisors
    ∙ ap (λ k. one_pull (component k from.x to.x ((squared_distance from to + law.eps2) * root (squared_distance from to + law.eps2)))
    (component k from.y to.y ((squared_distance from to + law.eps2) * root (squared_distance from to + law.eps2)))
    (component k from.z to.z ((squared_distance from to + law.eps2) * root (squared_distance from to + law.eps2)))) g

-- ---- in words of 128 bits

-- a number of 128 bits with its sign is kept
pub stays : (z : ℤ) → mag z < 2 ^ 127 → to_z w128 (of_z w128 z) ≡ z
stays z h = omega (arith, ints)

pub cast_up : (x : ℕ) → x < 2 ^ 127 → to_z w128 x ≡ pos x
cast_up x h = omega (arith, ints)

-- the dividend fits
dividend_fits : (scale gap : ℕ) → scale < 2 ^ 80 → gap < 2 ^ 32 → scale * gap < 2 ^ 112
dividend_fits scale gap s g = omega (arith, mul-lt scale gap (2 ^ 80) (2 ^ 32) s g)

pub dividend_exact : (scale from to : ℕ) → scale < 2 ^ 80 → from < 2 ^ 32 → to < 2 ^ 32
    → to_z w128 (of_z w128 (pos scale *ℤ (pos to -ℤ pos from))) ≡ pos scale *ℤ (pos to -ℤ pos from)
dividend_exact scale from to s f t =
    elim (cases_lt from to) [
      | inl lt ↦
          let e : pos to -ℤ pos from ≡ pos (to - from) = omega (arith, ints) in
          let fits = dividend_fits scale (to - from) s (omega arith) in
          let here : to_z w128 (of_z w128 (pos (scale * (to - from)))) ≡ pos (scale * (to - from)) = omega (arith, ints) in
          let whole : ℤ → Type 0 = λ z. to_z w128 (of_z w128 (pos scale *ℤ z)) ≡ pos scale *ℤ z in
          subst whole (sym e) here
      | inr ge ↦
          let e : pos to -ℤ pos from ≡ neg_ℤ (pos (from - to)) = omega (arith, ints) in
          let fits = dividend_fits scale (from - to) s (omega arith) in
          let here : to_z w128 (of_z w128 (neg_ℤ (pos (scale * (from - to))))) ≡ neg_ℤ (pos (scale * (from - to))) = omega (arith, ints) in
          let whole : ℤ → Type 0 = λ z. to_z w128 (of_z w128 z) ≡ z in
          subst (λ z. whole (pos scale *ℤ z)) (sym e) (subst whole (sym (mul-neg scale (from - to))) here)
    ]
