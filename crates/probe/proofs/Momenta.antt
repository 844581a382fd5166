-- The sums of pushes, and their line.
use Rattle.std.proofs.Common.{◌≡◌, ◌∙◌, ap, ◌-◌, ◌^◌, ℕ, ℤ, pos, to_z, of_z, List, [], ◌∷◌, ◌++◌, append_assoc, refl, arith}
use Rattle.std.specs.Prelude.{codes}
use mir.Syntax.{w128}
use Rattle.std.proofs.lemmas.Int.{ints}
use Rattle.bh_model.specs.Pulls.{IsWithin}
use Rattle.probe.specs.Figures.{FrameFigures}
use Rattle.probe.specs.States.{AreSums, line_of, named, next_count, next_push, state_after}
use Rattle.probe.specs.declared.kind.Kind.TheVariants as kind

-- a sum within its bounds fits 128 bits
kept : (z : ℤ) → IsWithin (2 ^ 126) z → to_z w128 (of_z w128 z) ≡ z
kept z within =
    let low = within.low in
    let high = within.high in
    omega (arith, ints)

kept_push : (z : ℤ) → IsWithin (2 ^ 120 - 1) z → to_z w128 (of_z w128 z) ≡ z
kept_push z within =
    let low = within.low in
    let high = within.high in
    omega (arith, ints)

-- a sum goes on by a push, both as 128 bits
pub summed : (sum push new : ℤ) → IsWithin (2 ^ 126) sum → IsWithin (2 ^ 120 - 1) push → IsWithin (2 ^ 126) new
    → new ≡ next_push (to_z w128 (of_z w128 sum)) (to_z w128 (of_z w128 push)) → to_z w128 (of_z w128 new) ≡ next_push sum push
summed sum push new s p n e = kept new n ∙ e ∙ ap (λ z. next_push z (to_z w128 (of_z w128 push))) (kept sum s) ∙ ap (next_push sum) (kept_push push p)

-- the state of Momentum after a frame, part by part
pub momentum_after : (f : FrameFigures) (k k' : ℕ) (x y z x' y' z' : ℤ) → pos k' ≡ next_count (pos k) 1 → x' ≡ next_push x f.push_x
    → y' ≡ next_push y f.push_y → z' ≡ next_push z f.push_z
    → pos k' ∷ x' ∷ y' ∷ z' ∷ [] ≡ state_after kind.Momentum f (pos k ∷ x ∷ y ∷ z ∷ [])
unfolding state_after
momentum_after f k k' x y z x' y' z' count along_x along_y along_z = rw (count, along_x, along_y, along_z) refl

-- a part put behind parts
puts_more : (start before parts part : List ℕ) → before ≡ start ++ parts → before ++ part ≡ start ++ (parts ++ part)
puts_more start before parts part e = ap (λ xs. xs ++ part) e ∙ append_assoc start parts part

-- a word and a sum, of 128 bits
named_sum : (word : List ℕ) (z : ℤ) → IsWithin (2 ^ 126) z → named word (to_z w128 (of_z w128 z)) ≡ named word z
named_sum word z within = ap (named word) (kept z within)

-- the line of Momentum, put part by part
pub momentum_line : (start p q r : List ℕ) (k : ℕ) (x y z : ℤ) → AreSums x y z
    → p ≡ start ++ named (codes "momentum frames") (pos k) → q ≡ p ++ named (codes " push") (to_z w128 (of_z w128 x))
    → r ≡ q ++ named [] (to_z w128 (of_z w128 y))
    → r ++ named [] (to_z w128 (of_z w128 z)) ≡ start ++ line_of kind.Momentum (pos k ∷ x ∷ y ∷ z ∷ [])
unfolding line_of
momentum_line start p q r k x y z sums first second third =
    let two = puts_more start p (named (codes "momentum frames") (pos k)) (named (codes " push") x) first in
    let three = puts_more start q _ (named [] y) (second ∙ ap (λ xs. p ++ xs) (named_sum (codes " push") x sums.along_x) ∙ two) in
    ap (λ xs. r ++ xs) (named_sum [] z sums.along_z) ∙ puts_more start r _ (named [] z) (third ∙ ap (λ xs. q ++ xs) (named_sum [] y sums.along_y) ∙ three)
