use Rattle.std.proofs.Common.{◌≡◌, ◌-◌, ◌*◌, ◌<◌, ◌^◌, ◌∙◌, ℕ, ℤ, suc, zero, pos, neg_ℤ, ◌-ℤ◌, ◌*ℤ◌, ap, arith, inl, inr, refl, sym, subst}
use Rattle.std.proofs.Math.IntN.{pos-*ℤ-pos}
use Rattle.std.proofs.lemmas.Bool.{cases_lt}
use Rattle.std.proofs.lemmas.Int.{ints}
use Rattle.std.proofs.lemmas.Nat.{mul-lt}
use Rattle.std.specs.Int.{abs_diff, w64}
use mir.Val.{of_z, to_z}
use Rattle.octant_code.specs.Space.{squared_gap}
use Rattle.octant_code.proofs.space.squared_gap.Goals as goal

-- a square has no sign
neg_square : (a : ℕ) → neg_ℤ (pos a) *ℤ neg_ℤ (pos a) ≡ pos (a * a)
neg_square zero = refl
neg_square (suc a) = refl

-- and it is kept in its word
kept : (g : ℤ) (d : ℕ) → g *ℤ g ≡ pos (d * d) → d < 2 ^ 21 → of_z w64 (to_z w64 (of_z w64 (g *ℤ g))) ≡ d * d
kept g d e small =
    let fits : d * d < 2 ^ 42 = mul-lt d d (2 ^ 21) (2 ^ 21) small small in
    let here : of_z w64 (to_z w64 (of_z w64 (pos (d * d)))) ≡ d * d = omega (arith, ints) in ap (λ z. of_z w64 (to_z w64 (of_z w64 z))) e ∙ here

-- the gap as the code has it
coded : (x y : ℤ) (a b : ℕ) → x ≡ pos b → y ≡ pos a → a < 2 ^ 21 → b < 2 ^ 21
    → of_z w64 (to_z w64 (of_z w64 (to_z w64 (of_z w64 (to_z w64 (of_z w64 x) -ℤ to_z w64 (of_z w64 y))) *ℤ to_z w64 (of_z w64
    (to_z w64 (of_z w64 x) -ℤ to_z w64 (of_z w64 y))))))
    ≡ abs_diff a b * abs_diff a b
coded x y a b e f p q =
    let g : ℤ = to_z w64 (of_z w64 (to_z w64 (of_z w64 x) -ℤ to_z w64 (of_z w64 y))) in
    elim (cases_lt b a) [
      | inl down ↦
          let size : a - b ≡ abs_diff a b = omega arith in
          let gap : g ≡ neg_ℤ (pos (a - b)) = omega (arith, ints, e, f) in
          kept g (a - b) (ap (λ z. z *ℤ z) gap ∙ neg_square (a - b)) (omega arith) ∙ ap (λ d. d * d) size
      | inr up ↦
          let size : b - a ≡ abs_diff a b = omega arith in
          let gap : g ≡ pos (b - a) = omega (arith, ints, e, f) in
          kept g (b - a) (ap (λ z. z *ℤ z) gap ∙ pos-*ℤ-pos (b - a) (b - a)) (omega arith) ∙ ap (λ d. d * d) size
    ]

pub returns-clause-value : goal.returns-clause-value
unfolding squared_gap
returns-clause-value c =
    c.cast_unsigned.ensures
    ∙ coded c.from.result c.from-2.result c.args.from c.args.to c.from.ensures c.from-2.ensures c.requires.from_fits c.requires.to_fits

pub returns-clause-small : goal.returns-clause-small
returns-clause-small c =
    let d : ℕ = abs_diff c.args.from c.args.to in
    let small : d < 2 ^ 21 = omega (arith, c.requires.from_fits, c.requires.to_fits) in
    let fits : d * d < 2 ^ 42 = mul-lt d d (2 ^ 21) (2 ^ 21) small small in
    subst (λ n. n < 2 ^ 42)
    (sym (c.cast_unsigned.ensures
    ∙ coded c.from.result c.from-2.result c.args.from c.args.to c.from.ensures c.from-2.ensures c.requires.from_fits c.requires.to_fits)) fits
