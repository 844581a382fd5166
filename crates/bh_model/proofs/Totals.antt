-- Totals of trees: over the children of a cell, and over the bodies in tree order.
use Rattle.std.proofs.Common.{◌≡◌, ◌≤◌, ◌<◌, ◌+◌, ◌*◌, ℕ, List, [], ◌∷◌, zero, suc, inl, inr, add-one, refl, ap, ◌∙◌, subst, arith, sum_by}
use Rattle.std.proofs.lemmas.Bool.{cases_lt}
use Rattle.std.proofs.Math.Nat.{mul-le-mul_left}
use Rattle.std.proofs.lemmas.List.Sums.{sum_by-append, sum_by-cons}
use Rattle.bh_model.specs.Bodies.{IsIn}
use Rattle.bh_model.specs.Trees.{Tree, Empty, Body, Cell, cell_of, order}
use Rattle.bh_model.specs.Moments.{total}

-- a fact of each of eight numbers
pub each_of_eight : (P : ℕ → Type 0) → P 0 → P 1 → P 2 → P 3 → P 4 → P 5 → P 6 → P 7 → (k : ℕ) → k < 8 → P k
each_of_eight P a b c d e f g h zero p = a
each_of_eight P a b c d e f g h (suc zero) p = b
each_of_eight P a b c d e f g h (suc (suc zero)) p = c
each_of_eight P a b c d e f g h (suc (suc (suc zero))) p = d
each_of_eight P a b c d e f g h (suc (suc (suc (suc zero)))) p = e
each_of_eight P a b c d e f g h (suc (suc (suc (suc (suc zero))))) p = f
each_of_eight P a b c d e f g h (suc (suc (suc (suc (suc (suc zero)))))) p = g
each_of_eight P a b c d e f g h (suc (suc (suc (suc (suc (suc (suc zero))))))) p = h
each_of_eight P a b c d e f g h (suc (suc (suc (suc (suc (suc (suc (suc k)))))))) p = absurd (omega arith)

-- and those of all eight
pub all_eight : (P : ℕ → Type 0) → ((k : ℕ) → k < 8 → P k) → P 0 × P 1 × P 2 × P 3 × P 4 × P 5 × P 6 × P 7
all_eight P each = (
  each 0 (omega arith),
  each 1 (omega arith),
  each 2 (omega arith),
  each 3 (omega arith),
  each 4 (omega arith),
  each 5 (omega arith),
  each 6 (omega arith),
  each 7 (omega arith),
)

-- the sum of the first k values of a function
unfoldable pub sum_upto : (ℕ → ℕ) → ℕ → ℕ
sum_upto f zero = 0
sum_upto f (suc k) = sum_upto f k + f k

pub sum_upto-none : (f : ℕ → ℕ) → sum_upto f 0 ≡ 0
unfolding sum_upto
sum_upto-none f = refl

pub sum_upto-more : (f : ℕ → ℕ) (k : ℕ) → sum_upto f (k + 1) ≡ sum_upto f k + f k
unfolding sum_upto
sum_upto-more f k = rw add-one

-- a sum of fewer values is no greater
pub sum_upto-le : (f : ℕ → ℕ) (k n : ℕ) → k ≤ n → sum_upto f k ≤ sum_upto f n
unfolding sum_upto
sum_upto-le f zero n h = omega arith
sum_upto-le f (suc k) zero h = absurd (omega arith)
sum_upto-le f (suc k) (suc n) h =
    elim (cases_lt (suc k) (suc n)) [
      | inl lt ↦ (let r = sum_upto-le f (suc k) n (omega arith) in omega arith)
      | inr ge ↦ (let e : k ≡ n = omega arith in let P : ℕ → Type 0 = λ m. sum_upto f k + f k ≤ sum_upto f m + f m in subst P e (omega arith))
    ]

-- a value of a sum is at most the sum
pub sum_upto-term : (f : ℕ → ℕ) (k n : ℕ) → k < n → f k ≤ sum_upto f n
sum_upto-term f k n h = omega (arith, sum_upto-more f k, sum_upto-le f (k + 1) n (omega arith))

-- sums of equal values
pub sum_upto-same : (f g : ℕ → ℕ) (n : ℕ) → ((k : ℕ) → k < n → f k ≡ g k) → sum_upto f n ≡ sum_upto g n
unfolding sum_upto
sum_upto-same f g zero same = refl
sum_upto-same f g (suc n) same = omega (arith, sum_upto-same f g n (λ k h. same k (omega arith)), same n (omega arith))

-- a sum of values none of which is more than so many times another
pub sum_upto-times : (f g : ℕ → ℕ) (most n : ℕ) → ((k : ℕ) → k < n → f k ≤ most * g k) → sum_upto f n ≤ most * sum_upto g n
unfolding sum_upto
sum_upto-times f g most zero each = omega arith
sum_upto-times f g most (suc n) each = omega (arith, sum_upto-times f g most n (λ k l. each k (omega arith)), each n (omega arith))

-- the total of each kind of tree
pub total-empty : (quantity : ℕ → ℕ) → total quantity Empty ≡ 0
unfolding total
total-empty quantity = refl

pub total-body : (quantity : ℕ → ℕ) (n : ℕ) → total quantity (Body n) ≡ quantity n
unfolding total
total-body quantity n = refl

pub total-cell : (quantity : ℕ → ℕ) (child : ℕ → Tree) → total quantity (cell_of child) ≡ sum_upto (λ k. total quantity (child k)) 8
unfolding total sum_upto
total-cell quantity child = omega arith

-- the total of a tree by what it is
pub total_none : (quantity : ℕ → ℕ) (t : Tree) → t ≡ Empty → total quantity t ≡ 0
total_none quantity t e = ap (total quantity) e ∙ total-empty quantity

pub total_one : (quantity : ℕ → ℕ) (t : Tree) (n : ℕ) → t ≡ Body n → total quantity t ≡ quantity n
total_one quantity t n e = ap (total quantity) e ∙ total-body quantity n

pub ruleset total_steps = (total_none, total_one)

-- a child has no more than its cell
pub child_total : (quantity : ℕ → ℕ) (child : ℕ → Tree) (k : ℕ) → k < 8 → total quantity (child k) ≤ total quantity (cell_of child)
child_total quantity child k h = omega (arith, total-cell quantity child, sum_upto-term (λ j. total quantity (child j)) k 8 h)

-- the total of a tree is the sum over its bodies in tree order
pub total-order : (quantity : ℕ → ℕ) (tree : Tree) → total quantity tree ≡ sum_by quantity (order tree)
unfolding total order
total-order quantity Empty = refl
total-order quantity (Body n) = omega arith
total-order quantity (Cell a b c d e f g h) =
    simp (sum_by-append {X = ℕ}) (omega (
      arith,
      total-order quantity a,
      total-order quantity b,
      total-order quantity c,
      total-order quantity d,
      total-order quantity e,
      total-order quantity f,
      total-order quantity g,
      total-order quantity h,
    ))

-- a sum of products is no more than the greatest factor times the sum
pub sum_products : (mass place : ℕ → ℕ) (most : ℕ) (bodies : List ℕ) → ((n : ℕ) → IsIn bodies n → place n ≤ most)
    → sum_by (λ n. mass n * place n) bodies ≤ most * sum_by mass bodies
sum_products mass place most [] h = omega arith
sum_products mass place most (x ∷ xs) h =
    omega (
      arith,
      sum_by-cons (λ n. mass n * place n) x xs,
      ap (λ y. most * y) (sum_by-cons mass x xs),
      mul-le-mul_left (mass x) (h x (inl refl)),
      sum_products mass place most xs (λ n i. h n (inr i)),
    )

-- so a total of products is no more than the greatest factor times the total
pub total_products : (mass place : ℕ → ℕ) (most : ℕ) (tree : Tree) → ((n : ℕ) → IsIn (order tree) n → place n ≤ most)
    → total (λ n. mass n * place n) tree ≤ most * total mass tree
total_products mass place most tree h =
    omega (arith, total-order (λ n. mass n * place n) tree, ap (λ y. most * y) (total-order mass tree), sum_products mass place most (order tree) h)
