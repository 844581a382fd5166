use Rattle.std.proofs.Common.{ℕ, ◌≡◌, ◌+◌, ◌<◌, ◌≤◌, ap, arith}
use Rattle.bh_model.proofs.Folds.{counts, counts_all, counts_few, counts_next}
use Rattle.bh_model.specs.Trees.{cell_count}
use Rattle.octree.proofs.Subtrees.{child_height}
use Rattle.octree.specs.Spot.{Spot, child_under, tree_under}
use Rattle.octree.specs.Subtree.{IsCellAt, IsChildOf}
use Rattle.octree.proofs.extent.+extent.Goals as goal

-- the cells counted so far and those of a child are no more than the cell has
few_so_far : (cell child : Spot) (k cells : ℕ) → IsCellAt cell cell → IsChildOf cell k child → k < 8 → cells ≡ 1 + counts (child_under cell) k
    → cells + cell_count (tree_under child) ≤ cell_count (tree_under cell)
few_so_far cell child k cells at is small e =
    let f = child_under cell in
    omega (arith, e, counts_all f (tree_under cell) at.tree, counts_next f (tree_under child) k is.tree, counts_few f k small)

pub extent_of_cell-overflow_add-level : goal.extent_of_cell-overflow_add-level
extent_of_cell-overflow_add-level t c = omega (
  arith,
  child_height _ _ c.child.result c.loop-k.k c.requires.cell c.child.ensures
      c.loop-k-test.true,
)

pub extent_of_cell-extent_of-child-requires : goal.extent_of_cell-extent_of-child-requires
extent_of_cell-extent_of-child-requires t c =
    let less = child_height _ _ c.child.result c.loop-k.k c.requires.cell c.child.ensures c.loop-k-test.true in
    let few = few_so_far _ c.child.result c.loop-k.k _ c.requires.cell c.child.ensures c.loop-k-test.true c.loop-k.invariant.cells in
    (omega (arith, less), (omega (arith, few), omega (arith, less)))

pub extent_of_cell-overflow_add-cells : goal.extent_of_cell-overflow_add-cells
extent_of_cell-overflow_add-cells t c = omega (
  arith,
  few_so_far _ c.child.result c.loop-k.k _ c.requires.cell c.child.ensures c.loop-k-test.true c.loop-k.invariant.cells,
  c.extent_of-child.ensures.cells,
)

pub extent_of_cell-returns-clause-cells : goal.extent_of_cell-returns-clause-cells
extent_of_cell-returns-clause-cells t c =
    let f = child_under c.args.cell in
    let last : c.loop-k.k ≡ 8 = omega arith in
    omega (arith, counts_all f (tree_under c.args.cell) c.requires.cell.tree, c.loop-k.invariant.cells, ap (counts f) last)
