use Rattle.std.proofs.Common.{List, ℕ, ◌≡◌, arith, length, subst, vec_len}
use Rattle.octree.proofs.Growing.{cell_put}
use Rattle.octree.specs.Chain.{IsCellAdded}
use Rattle.octree.proofs.assemble.put_cell.Goals as goal

pub returns : goal.returns
returns c =
    let was : vec_len c.args.words.now ≡ length c.args.words.now.items = c.args.words.now.ok.0 in
    cell_put _ _ _ c.add_cell.new.words.items _ _ _ _ c.requires.growing c.requires.place c.requires.shared
    (omega (arith, c.cells_of_words-cell.ensures, was))
    (subst (λ (words : List ℕ). IsCellAdded words c.add_cell.new.words.items c.cells_of_words-cell.result c.args.key) c.in_ok-reserve.ensures.items
    c.add_cell.ensures.added)
    c.word_of_cell.ensures
