-- The bodies, cells and steps of a part's cell, child by child.
use Rattle.std.proofs.Common.{ℕ, ◌+◌, ◌<◌, ◌≤◌, ◌≡◌, zero, suc, refl, sym, ◌∙◌, ap, arith, add-one, List, ◌++◌, length}
use Rattle.std.proofs.lemmas.List.{length-append}
use Rattle.bh_model.specs.Trees.{cell_count, cell_of, order}
use Rattle.bh_model.proofs.Folds.{counts, counts_all, counts_next, length_joined}
use Rattle.bh_model.proofs.Lists.{joined}
use Rattle.bh_model.proofs.Totals.{sum_upto, sum_upto-le, sum_upto-more}
use Rattle.bh_model.proofs.Trees.{order-cell}
use Rattle.octree.specs.Spot.{Spot, child_under, tree_under}
use Rattle.octree.specs.Subtree.{IsCellAt, IsChildOf}
use Rattle.tree_passes.specs.Counting.{times}
use Rattle.tree_passes.proofs.Laws.{times-append}
use Rattle.shared_tree.specs.Copying.{bodies_under}

-- the bodies of a child
abbrev pub kid_order : Spot → ℕ → List ℕ
kid_order s k = order (child_under s k)

-- the bodies of the children before child k
abbrev pub bodies_before : Spot → ℕ → List ℕ
bodies_before s k = joined (kid_order s) k

-- one list more
pub joined-more : (g : ℕ → List ℕ) (k : ℕ) → joined g (k + 1) ≡ joined g k ++ g k
joined-more g k = rw add-one

times_joined : (x : ℕ) (g : ℕ → List ℕ) (n : ℕ) → times x (joined g n) ≡ sum_upto (λ j. times x (g j)) n
unfolding sum_upto
times_joined x g zero = refl
times_joined x g (suc n) = let a = times-append x (joined g n) (g n) in let r = times_joined x g n in omega arith

-- those before a list, and the list, are among all
times_among : (x : ℕ) (g : ℕ → List ℕ) (k n : ℕ) → k < n → times x (joined g k) + times x (g k) ≤ times x (joined g n)
times_among x g k n l =
    omega (arith, times_joined x g k, times_joined x g n, sum_upto-more (λ j. times x (g j)) k, sum_upto-le (λ j. times x (g j)) (k + 1) n (omega arith))

length_among : (g : ℕ → List ℕ) (k n : ℕ) → k < n → length (joined g k) + length (g k) ≤ length (joined g n)
length_among g k n l =
    omega (arith, length_joined g k, length_joined g n, sum_upto-more (λ j. length (g j)) k, sum_upto-le (λ j. length (g j)) (k + 1) n (omega arith))

-- the facts of a part whose top is a cell
module _ (s cell : Spot) (at : IsCellAt s cell) where
  kids_are : tree_under s ≡ cell_of (child_under s)
  kids_are = at.tree ∙ ap (λ (z : Spot). cell_of (child_under z)) at.same

  -- the bodies are those of the eight children
  pub bodies_all : bodies_under s ≡ bodies_before s 8
  bodies_all = ap order kids_are ∙ order-cell (child_under s)

  kid_tree : (child : Spot) (k : ℕ) → IsChildOf cell k child → tree_under child ≡ child_under s k
  kid_tree child k is = is.tree ∙ ap (λ (z : Spot). child_under z k) at.same

  pub kid_is : (child : Spot) (k : ℕ) → IsChildOf cell k child → bodies_under child ≡ kid_order s k
  kid_is child k is = ap order (kid_tree child k is)

  -- the cells are the top one and those of the eight children
  pub cells_all : cell_count (tree_under s) ≡ 1 + counts (child_under s) 8
  cells_all = counts_all (child_under s) (tree_under s) kids_are

  pub cells_more : (child : Spot) (k : ℕ) → IsChildOf cell k child → counts (child_under s) (k + 1) ≡ counts (child_under s) k + cell_count (tree_under child)
  cells_more child k is = counts_next (child_under s) (tree_under child) k (kid_tree child k is)

  -- the bodies before a child, and the child's, are among all
  pub kid_among : (child : Spot) (k x : ℕ) → IsChildOf cell k child → k < 8
      → times x (bodies_before s k) + times x (bodies_under child) ≤ times x (bodies_under s)
  kid_among child k x is small =
      omega (arith, times_among x (kid_order s) k 8 small, ap (times x) bodies_all, ap (times x) (kid_is child k is))

  pub kid_length : (child : Spot) (k : ℕ) → IsChildOf cell k child → k < 8
      → length (bodies_before s k) + length (bodies_under child) ≤ length (bodies_under s)
  kid_length child k is small =
      omega (arith, length_among (kid_order s) k 8 small, ap length bodies_all, ap length (kid_is child k is))

  -- the bodies before the next child are those before it and its own
  pub before_next : (child : Spot) (k : ℕ) → IsChildOf cell k child → bodies_before s (k + 1) ≡ bodies_before s k ++ bodies_under child
  before_next child k is = joined-more (kid_order s) k ∙ ap (λ (l : List ℕ). bodies_before s k ++ l) (sym (kid_is child k is))

  -- so many bodies stand before the next child
  pub count_next : (child : Spot) (k : ℕ) → IsChildOf cell k child
      → length (bodies_before s (k + 1)) ≡ length (bodies_before s k) + length (bodies_under child)
  count_next child k is = ap length (before_next child k is) ∙ length-append (bodies_before s k) (bodies_under child)

  pub count_all : (k : ℕ) → 8 ≤ k → k ≤ 8 → length (bodies_before s k) ≡ length (bodies_under s)
  count_all k end last =
      let eight : k ≡ 8 = omega arith in
      ap (λ (j : ℕ). length (bodies_before s j)) eight ∙ ap length (sym bodies_all)
