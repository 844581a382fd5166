-- How many cells are opened on the way to the bodies that begin in a range of cost: at most as many as the tree is high for each of them, and as many again.
use Rattle.std.proofs.Common.{◌≡◌, ◌≤◌, ◌<◌, ◌+◌, ◌-◌, ◌*◌, ◌&&◌, inl, inr, ℕ, zero, suc, cond, List, [], ◌∷◌, length, ltb, max, min, true, false, refl, ap}
use Rattle.std.proofs.Common.{◌∙◌, arith, sum_by, length-append}
use Rattle.std.specs.Prelude.{if◌then◌else◌}
use Rattle.std.proofs.Math.Nat.{mul-le-mul_left, mul-le-mul_right}
use Rattle.std.proofs.lemmas.Bool.{cases_Bool, cases_lt, ltb-true}
use Rattle.std.proofs.lemmas.Bool.Decides.{nat_tests}
use Rattle.bh_model.proofs.Folds.{height_falls, nth}
use Rattle.bh_model.proofs.Lists.{joined}
use Rattle.bh_model.proofs.Totals.{each_of_eight, sum_upto, sum_upto-le, sum_upto-more, sum_upto-times, total-cell, total-order}
use Rattle.bh_model.specs.Moments.{total}
use Rattle.bh_model.specs.Trees.{Tree, Empty, Body, Cell, cell_of, height, order}
use Rattle.costzones.specs.Ranges.{between, meets, opened_from}
use Rattle.costzones.proofs.Ranges.{between-cell, between-in, child_between}

-- ---- the cells of each kind of tree

-- where a child of a cell begins
abbrev pub child_start : (ℕ → ℕ) → ℕ → (ℕ → Tree) → ℕ → ℕ
child_start cost p child k = p + sum_upto (λ j. total cost (child j)) k

-- it ends where its cell ends, or before
pub child_ends : (cost : ℕ → ℕ) (p : ℕ) (child : ℕ → Tree) (k : ℕ) → k < 8 → child_start cost p child k + total cost (child k) ≤ p + total cost (cell_of child)
child_ends cost p child k l =
    omega
    (arith, total-cell cost child, sum_upto-le (λ j. total cost (child j)) (k + 1) 8 (omega arith), sum_upto-more (λ j. total cost (child j)) k)

-- how many cells of a child are opened
abbrev pub child_opened : (ℕ → ℕ) → ℕ → ℕ → ℕ → (ℕ → Tree) → ℕ → ℕ
child_opened cost low high p child k = opened_from cost low high (child_start cost p child k) (child k)

-- the cells of a cell, by whether its span meets the range
opened-split : (cost : ℕ → ℕ) (low high p : ℕ) (child : ℕ → Tree)
    → opened_from cost low high p (cell_of child)
    ≡ (if meets low high p (p + total cost (cell_of child)) then 1 + sum_upto (child_opened cost low high p child) 8 else 0)
unfolding opened_from sum_upto
opened-split cost low high p child =
    let T : ℕ → ℕ = λ k. total cost (child k) in
    let end : p + total cost (cell_of child) ≡ p + T 0 + T 1 + T 2 + T 3 + T 4 + T 5 + T 6 + T 7 = omega (arith, total-cell cost child) in
    let from : (k q : ℕ) → q ≡ child_start cost p child k → opened_from cost low high q (child k) ≡ child_opened cost low high p child k =
    λ k q e. ap (λ y. opened_from cost low high y (child k)) e in
    rw end
    (ap (λ n. if meets low high p (p + T 0 + T 1 + T 2 + T 3 + T 4 + T 5 + T 6 + T 7) then n else 0)
    (omega (
      arith,
      from 0 p (omega arith),
      from 1 (p + T 0) (omega arith),
      from 2 (p + T 0 + T 1) (omega arith),
      from 3 (p + T 0 + T 1 + T 2) (omega arith),
      from 4 (p + T 0 + T 1 + T 2 + T 3) (omega arith),
      from 5 (p + T 0 + T 1 + T 2 + T 3 + T 4) (omega arith),
      from 6 (p + T 0 + T 1 + T 2 + T 3 + T 4 + T 5) (omega arith),
      from 7 (p + T 0 + T 1 + T 2 + T 3 + T 4 + T 5 + T 6) (omega arith),
    )))

-- a cell that is opened
pub opened-cell : (cost : ℕ → ℕ) (low high p : ℕ) (child : ℕ → Tree) → meets low high p (p + total cost (cell_of child)) ≡ true
    → opened_from cost low high p (cell_of child) ≡ 1 + sum_upto (child_opened cost low high p child) 8
opened-cell cost low high p child test =
    opened-split cost low high p child ∙ ap (λ b. if b then 1 + sum_upto (child_opened cost low high p child) 8 else 0) test

-- and one that isn't
opened-apart : (cost : ℕ → ℕ) (low high p : ℕ) (child : ℕ → Tree) → meets low high p (p + total cost (cell_of child)) ≡ false
    → opened_from cost low high p (cell_of child) ≡ 0
opened-apart cost low high p child test =
    opened-split cost low high p child ∙ ap (λ b. if b then 1 + sum_upto (child_opened cost low high p child) 8 else 0) test

pub opened-empty : (cost : ℕ → ℕ) (low high p : ℕ) → opened_from cost low high p Empty ≡ 0
unfolding opened_from
opened-empty cost low high p = refl

pub opened-body : (cost : ℕ → ℕ) (low high p n : ℕ) → opened_from cost low high p (Body n) ≡ 0
unfolding opened_from
opened-body cost low high p n = refl

-- no cell is opened where the tree's span doesn't meet the range
pub opened-none : (cost : ℕ → ℕ) (low high p : ℕ) (tree : Tree) → meets low high p (p + total cost tree) ≡ false → opened_from cost low high p tree ≡ 0
opened-none cost low high p Empty apart = opened-empty cost low high p
opened-none cost low high p (Body n) apart = opened-body cost low high p n
opened-none cost low high p (Cell a b c d e f g h) apart = opened-apart cost low high p (nth a b c d e f g h) apart

-- ---- what trees weigh

-- 1 where a range begins inside a span of cost, and 0 where it doesn't
abbrev begins_in : ℕ → ℕ → ℕ → ℕ
begins_in low p cost = cond (ltb p low && ltb low (p + cost)) 1 0

-- a tree weighs as much as it has bodies that begin in the range, and 1 more where the range begins inside it
abbrev weight : (ℕ → ℕ) → ℕ → ℕ → ℕ → Tree → ℕ
weight cost low high p tree = length (between cost low high p (order tree)) + begins_in low p (total cost tree)

-- a range begins in at most one of two spans in a row
begins-two : (low p a b : ℕ) → begins_in low p a + begins_in low (p + a) b ≤ begins_in low p (a + b)
begins-two low p a b = grind (arith, nat_tests)

abbrev child_weight : (ℕ → ℕ) → ℕ → ℕ → ℕ → (ℕ → Tree) → ℕ → ℕ
child_weight cost low high p child k = weight cost low high (child_start cost p child k) (child k)

weights-le : (cost : ℕ → ℕ) (low high p : ℕ) (child : ℕ → Tree) (k : ℕ)
    → sum_upto (child_weight cost low high p child) k ≤ length (joined (child_between cost low high p child) k) + begins_in low p
    (sum_upto (λ j. total cost (child j)) k)
unfolding sum_upto
weights-le cost low high p child zero = omega arith
weights-le cost low high p child (suc k) =
    omega (
      arith,
      weights-le cost low high p child k,
      begins-two low p (sum_upto (λ j. total cost (child j)) k) (total cost (child k)),
      length-append (joined (child_between cost low high p child) k) (child_between cost low high p child k),
    )

-- the children of a cell weigh no more than the cell
weights_cell : (cost : ℕ → ℕ) (low high p : ℕ) (child : ℕ → Tree) → sum_upto (child_weight cost low high p child) 8 ≤ weight cost low high p (cell_of child)
weights_cell cost low high p child =
    omega (arith, weights-le cost low high p child 8, ap length (between-cell cost low high p child), ap (begins_in low p) (total-cell cost child))

-- bodies the first of which begins in the range have one of it
first_inside : (cost : ℕ → ℕ) (low high p : ℕ) (xs : List ℕ) → 0 < sum_by cost xs → low ≤ p → p < high → 1 ≤ length (between cost low high p xs)
first_inside cost low high p [] some a b = absurd (omega arith)
first_inside cost low high p (n ∷ xs) some a b = rw (between-in cost low high p n xs a b) (omega arith)

-- a tree whose span meets the range weighs something
weighs : (cost : ℕ → ℕ) (low high p : ℕ) (tree : Tree) → meets low high p (p + total cost tree) ≡ true → 1 ≤ weight cost low high p tree
weighs cost low high p tree test =
    let met : max low p < min high (p + total cost tree) = ltb-true (max low p) (min high (p + total cost tree)) test in
    elim (cases_lt p low) [
      | inl less ↦ (let begins : begins_in low p (total cost tree) ≡ 1 = grind (arith, nat_tests) in omega arith)
      | inr from ↦ (let some = first_inside cost low high p (order tree) (omega (arith, total-order cost tree)) from (omega arith) in omega arith)
    ]

-- ---- the bound

-- at most as many cells are opened as the tree is high, for each part of its weight
opened-le_weight : (cost : ℕ → ℕ) (low high : ℕ) (tree : Tree) (p : ℕ) → opened_from cost low high p tree ≤ height tree * weight cost low high p tree
opened-le_weight cost low high Empty p = omega (arith, opened-empty cost low high p)
opened-le_weight cost low high (Body n) p = omega (arith, opened-body cost low high p n)
opened-le_weight cost low high (Cell a b c d e f g h) p =
    let kid : ℕ → Tree = nth a b c d e f g h in
    let all : ℕ = weight cost low high p (cell_of kid) in
    let below : ℕ = height (cell_of kid) - 1 in
    let each : (k : ℕ) → k < 8 → (q : ℕ) → opened_from cost low high q (kid k) ≤ height (kid k) * weight cost low high q (kid k) =
    each_of_eight (λ k. (q : ℕ) → opened_from cost low high q (kid k) ≤ height (kid k) * weight cost low high q (kid k)) (opened-le_weight cost low high a)
    (opened-le_weight cost low high b)
    (opened-le_weight cost low high c) (opened-le_weight cost low high d) (opened-le_weight cost low high e) (opened-le_weight cost low high f)
    (opened-le_weight cost low high g) (opened-le_weight cost low high h) in
    elim (cases_Bool (meets low high p (p + total cost (cell_of kid)))) [
      | inl test ↦
          let parts : sum_upto (child_opened cost low high p kid) 8 ≤ below * sum_upto (child_weight cost low high p kid) 8 =
          sum_upto-times (child_opened cost low high p kid) (child_weight cost low high p kid) below 8
          (λ k l. (let fall : height (kid k) ≤ below = omega (arith, height_falls kid k l) in
          omega (arith, each k l (child_start cost p kid k), mul-le-mul_right (child_weight cost low high p kid k) fall))) in
          let less : below * sum_upto (child_weight cost low high p kid) 8 ≤ below * all = mul-le-mul_left below (weights_cell cost low high p kid) in
          let tall : height (cell_of kid) ≡ suc below = omega (arith, height_falls kid 0 (omega arith)) in
          omega (arith, opened-cell cost low high p kid test, parts, less, weighs cost low high p (cell_of kid) test, ap (λ y. y * all) tall)
      | inr apart ↦ omega (arith, opened-none cost low high p (cell_of kid) apart)
    ]

-- a tree of the whole cube: for each body that begins in the range, and once more
pub opened_few : (cost : ℕ → ℕ) (low high : ℕ) (tree : Tree) → height tree ≤ 21
    → opened_from cost low high 0 tree ≤ 21 * (length (between cost low high 0 (order tree)) + 1)
opened_few cost low high tree tall =
    let weighs_few : weight cost low high 0 tree ≤ length (between cost low high 0 (order tree)) + 1 = grind (arith, nat_tests) in
    let low_tree = mul-le-mul_right (weight cost low high 0 tree) tall in
    omega (arith, opened-le_weight cost low high tree 0, low_tree)
