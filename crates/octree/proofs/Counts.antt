-- Counting the cells of a word, child by child.
use Rattle.std.proofs.Common.{ℕ, ◌<◌, ◌≤◌, ◌≡◌, zero, suc, refl, sym, ◌∙◌, ap, arith, List, [], length}
use Rattle.bh_model.proofs.Lists.{joined}
use Rattle.bh_model.proofs.Folds.{count_none, count_one, counts, counts_all, lengths_upto}
use Rattle.bh_model.specs.Bodies.{NoneTwice}
use Rattle.bh_model.specs.Trees.{Empty, Tree, cell_count}
use Rattle.tree_rule.specs.Sound.{HereAs}
use Rattle.tree_rule.specs.Words.{at_of, cells_from, child_place, tree_from}
use Rattle.tree_rule.proofs.Laws.{ACell, NoBody, OneBody, WordIs, cells-body, cells-cell, cells-empty, cells_once, few_below, tree-body}
use Rattle.tree_rule.proofs.Laws.{tree-cell, tree-empty, word_is}
use Rattle.octree.proofs.Insertions.{base_positive}
use Rattle.octree.proofs.Subtrees.{cells_of_octree}
use Rattle.octree.specs.Stored.{IsStored, Stored, cells_of, tree_of}

-- read to no depth every word is empty
tree-zero : (at : ℕ → ℕ) (w : ℕ) → tree_from at 0 w ≡ Empty
unfolding tree_from
tree-zero at w = refl

-- read to no depth no cell is read
cells_at_end : (at : ℕ → ℕ) (below w : ℕ) → below ≡ 0 → cells_from at below w ≡ []
unfolding cells_from
cells_at_end at zero w e = refl
cells_at_end at (suc below) w e = absurd (omega arith)

-- no cell of an octree is read twice
pub cells_are_once : (o : Stored) → IsStored o → NoneTwice (cells_of o)
cells_are_once o h =
    let at : ℕ → ℕ = at_of o.words in
    cells_once at (at 0) o.base (base_positive o h) h.sound 22 o.base (at 0) (HereAs o.base (at 0) refl refl) (word_is (at 0))

-- the cells of an octree are no more than are used
pub cells_few : (o : Stored) → IsStored o → length (cells_of o) ≤ o.used
cells_few o h = few_below o.used (cells_of o) (cells_are_once o h) (λ c i. h.cells_used c ((cells_of_octree o h c).0 i))

-- lists as long as the children have cells, joined
joined_counts : (g : ℕ → List ℕ) (f : ℕ → Tree) (n : ℕ) → ((k : ℕ) → k < n → length (g k) ≡ cell_count (f k)) → length (joined g n) ≡ counts f n
unfolding counts
joined_counts g f n same = lengths_upto g (λ k. cell_count (f k)) n same

-- a word has as many cells as its tree
count_of_tree : (at : ℕ → ℕ) (below w : ℕ) → WordIs w → length (cells_from at below w) ≡ cell_count (tree_from at below w)
count_of_tree at zero w is = ap length (cells_at_end at 0 w refl) ∙ sym (count_none _ (tree-zero at w))
count_of_tree at (suc below) w (NoBody e) =
    ap length (cells-empty at (suc below) w e) ∙ sym (count_none _ (ap (tree_from at (suc below)) e ∙ tree-empty at below))
count_of_tree at (suc below) w (OneBody n e) =
    ap length (cells-body at (suc below) w n e) ∙ sym (count_one _ n (ap (tree_from at (suc below)) e ∙ tree-body at below n))
count_of_tree at (suc below) w (ACell c e) =
    let kid : ℕ → ℕ = λ k. at (child_place c k) in
    let f : ℕ → Tree = λ k. tree_from at below (kid k) in
    omega (
      arith,
      ap length (cells-cell at below w c e),
      joined_counts (λ k. cells_from at below (kid k)) f 8 (λ k l. count_of_tree at below (kid k) (word_is (kid k))),
      counts_all f _ (ap (tree_from at (suc below)) e ∙ tree-cell at below c),
    )

-- an octree has as many cells as its tree
pub cells_of_tree : (o : Stored) → length (cells_of o) ≡ cell_count (tree_of o)
cells_of_tree o = count_of_tree (at_of o.words) 22 (at_of o.words 0) (word_is (at_of o.words 0))
