-- How the bodies of a whole tree are gathered, and that a tree whose span lies in the range gives all its bodies and opens all its cells that have any.
use Rattle.std.proofs.Common.{◌≡◌, ◌≤◌, ◌<◌, ◌+◌, inl, inr, ℕ, List, [], ◌∷◌, length, ltb, true, false, refl, sym, ap, ◌∙◌, arith, sum_by}
use Rattle.std.proofs.lemmas.Bool.{cases_lt}
use Rattle.std.proofs.lemmas.Bool.Decides.{nat_tests}
use Rattle.std.proofs.lemmas.List.{nil_from_length}
use Rattle.std.proofs.lemmas.List.Sums.{sum_by-cons}
use Rattle.bh_model.proofs.Folds.{nth}
pub use Rattle.bh_model.proofs.Folds.{order_steps}
pub use Rattle.octree.proofs.Laws.{child_height}
use Rattle.bh_model.proofs.Orders.{child_in_order}
use Rattle.bh_model.proofs.Totals.{each_of_eight, sum_upto, sum_upto-le, sum_upto-more, sum_upto-none, sum_upto-same, total-order}
use Rattle.bh_model.specs.Bodies.{IsIn}
use Rattle.bh_model.specs.Moments.{total}
use Rattle.bh_model.specs.Trees.{Tree, Empty, Body, Cell, cell_of, order}
use Rattle.octree.specs.Spot.{Spot, child_under, tree_under}
use Rattle.octree.specs.Subtree.{IsCellAt}
use Rattle.costzones.specs.Ranges.{between, busy, meets, opened_from}
use Rattle.costzones.proofs.Openings.{child_ends, child_opened, child_start, opened-body, opened-cell, opened-empty, opened-none}
use Rattle.costzones.proofs.Ranges.{between-in, between-nil, costs_more}

-- ---- cells with bodies, child by child

-- how many cells of the first k children have bodies
unfoldable pub busies : (ℕ → Tree) → ℕ → ℕ
busies f k = sum_upto (λ j. busy (f j)) k

pub busies_start : (f : ℕ → Tree) → busies f 0 ≡ 0
unfolding busies
busies_start f = sum_upto-none (λ j. busy (f j))

pub busy_none : (t : Tree) → t ≡ Empty → busy t ≡ 0
unfolding busy
busy_none t e = ap busy e

pub busy_one : (t : Tree) (n : ℕ) → t ≡ Body n → busy t ≡ 0
unfolding busy
busy_one t n e = ap busy e

pub busies_next : (f : ℕ → Tree) (child : Tree) (k : ℕ) → child ≡ f k → busies f (k + 1) ≡ busies f k + busy child
unfolding busies
busies_next f child k c = omega (arith, sum_upto-more (λ j. busy (f j)) k, ap busy c)

-- a list with a member has some length
has_length : (xs : List ℕ) (n : ℕ) → IsIn xs n → 0 < length xs
has_length [] n i = absurd i
has_length (x ∷ xs) n i = omega arith

busy-cell : (f : ℕ → Tree) → 0 < length (order (cell_of f)) → busy (cell_of f) ≡ 1 + busies f 8
unfolding busy busies sum_upto
busy-cell f some = let t : ltb 0 (length (order (cell_of f))) ≡ true = grind (arith, nat_tests) in rw t (omega arith)

busy-bare : (f : ℕ → Tree) → length (order (cell_of f)) ≤ 0 → busy (cell_of f) ≡ 0
unfolding busy
busy-bare f none = let t : ltb 0 (length (order (cell_of f))) ≡ false = grind (arith, nat_tests) in rw t refl

pub busies_all : {s cell : Spot} (k : ℕ) → IsCellAt s cell → k ≡ 8 → busy (tree_under s) ≡ 1 + busies (child_under cell) k
busies_all {s} {cell} k at all =
    let some : 0 < length (order (cell_of (child_under cell))) =
    omega (arith, has_length (order (tree_under s)) at.some.body at.some.inside, ap (λ t. length (order t)) at.tree) in
    ap busy at.tree ∙ busy-cell (child_under cell) some ∙ ap (λ j. 1 + busies (child_under cell) j) (sym all)

pub busies_few : (f : ℕ → Tree) (k : ℕ) → k < 8 → busies f (k + 1) ≤ busies f 8
unfolding busies
busies_few f k l = sum_upto-le (λ j. busy (f j)) (k + 1) 8 (omega arith)

pub ruleset gather_steps = (child_height, order_steps, busies_start, busy_none, busy_one, busies_next, busies_few)

-- ---- a tree whose span lies in the range

-- all its bodies begin in the range
between-all : (cost : ℕ → ℕ) (low high p : ℕ) (xs : List ℕ) → ((n : ℕ) → IsIn xs n → 1 ≤ cost n) → low ≤ p → p + sum_by cost xs ≤ high
    → between cost low high p xs ≡ xs
between-all cost low high p [] one from to = between-nil cost low high p
between-all cost low high p (n ∷ xs) one from to =
    let s = sum_by-cons cost n xs in
    between-in cost low high p n xs from (omega (arith, one n (inl refl)))
    ∙ ap (λ zs. n ∷ zs) (between-all cost low high (p + cost n) xs (λ m i. one m (inr i)) (omega arith) (omega arith))

-- and all its cells that have bodies are opened
opened-all : (cost : ℕ → ℕ) (low high : ℕ) (tree : Tree) (p : ℕ) → ((n : ℕ) → IsIn (order tree) n → 1 ≤ cost n) → low ≤ p → p + total cost tree ≤ high
    → opened_from cost low high p tree ≡ busy tree
unfolding busies
opened-all cost low high Empty p one from to = opened-empty cost low high p ∙ sym (busy_none Empty refl)
opened-all cost low high (Body n) p one from to = opened-body cost low high p n ∙ sym (busy_one (Body n) n refl)
opened-all cost low high (Cell a b c d e f g h) p one from to =
    let kid : ℕ → Tree = nth a b c d e f g h in
    let all : ℕ → Tree → Type 0 = λ q t. ((n : ℕ) → IsIn (order t) n → 1 ≤ cost n) → low ≤ q → q + total cost t ≤ high
    → opened_from cost low high q t ≡ busy t in
    let each : (k : ℕ) → k < 8 → (q : ℕ) → all q (kid k) =
    each_of_eight (λ k. (q : ℕ) → all q (kid k)) (opened-all cost low high a) (opened-all cost low high b) (opened-all cost low high c)
    (opened-all cost low high d) (opened-all cost low high e) (opened-all cost low high f) (opened-all cost low high g)
    (opened-all cost low high h) in
    let orders = total-order cost (cell_of kid) in
    elim (cases_lt 0 (length (order (cell_of kid)))) [
      | inl some ↦
          let more = costs_more cost (order (cell_of kid)) one in
          let met : meets low high p (p + total cost (cell_of kid)) ≡ true = grind (arith, nat_tests) in
          opened-cell cost low high p kid met
          ∙ ap (λ n. 1 + n)
          (sum_upto-same (child_opened cost low high p kid) (λ k. busy (kid k)) 8
          (λ k l. each k l (child_start cost p kid k) (λ n i. one n (child_in_order kid k n l i)) (omega arith) (omega (arith, child_ends cost p kid k l))))
          ∙ sym (busy-cell kid some)
      | inr none ↦
          let nothing = ap (sum_by cost) (nil_from_length (order (cell_of kid)) (omega arith)) in
          let apart : meets low high p (p + total cost (cell_of kid)) ≡ false = grind (arith, nat_tests) in
          opened-none cost low high p (cell_of kid) apart ∙ sym (busy-bare kid none)
    ]

-- so nothing need be compared below it
pub record IsWhole (cost : ℕ → ℕ) (low high p : ℕ) (tree : Tree) : Type 0 where
  pub items_are : between cost low high p (order tree) ≡ order tree
  pub steps_are : opened_from cost low high p tree ≡ busy tree

pub whole_inside : (cost : ℕ → ℕ) (low high p after : ℕ) (tree : Tree) → ((n : ℕ) → IsIn (order tree) n → 1 ≤ cost n) → low ≤ p → after ≡ p + total cost tree
    → after ≤ high → IsWhole cost low high p tree
whole_inside cost low high p after tree one from after_is to = record {
  items_are = between-all cost low high p (order tree) one from (omega (arith, total-order cost tree));
  steps_are = opened-all cost low high tree p one from (omega arith);
}
