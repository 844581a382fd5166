use Rattle.std.proofs.Common.{List, ℕ, ◌≡◌, ◌∙◌, ap, subst, sym, vec_len}
use Rattle.octree.specs.Stored.{AreOctreeWords, IsStored, Stored, all_words, full_tree}
use Rattle.octree.proofs.WholeWords.{all_are, filled, full_again}
use Rattle.octree.proofs.octree.Octree.into_words.Goals.{In-Ok}
use Rattle.octree.proofs.octree.Octree.into_words.Goals as goal

-- the octree keeps its rule
rule : (c : In-Ok) → IsStored c.args.self
rule c = subst IsStored c.self.view_is c.self.invariant.0

-- the words that are given are those of all cells
words_are : (c : In-Ok) → c.resize.new.self.items ≡ all_words c.args.self
words_are c =
    let words = c.self.inside.words in
    subst (λ (o : Stored). c.resize.new.self.items ≡ all_words o) c.self.view_is
    (filled _ c.resize.new.self.items c.words_of_cells.result (vec_len words) c.self.invariant.0 c.words_of_cells.ensures words.ok.0 c.in-Ok.ensures.items)

pub returns-clause-of_words : goal.returns-clause-of_words
returns-clause-of_words c = subst AreOctreeWords (sym (words_are c)) (all_are c.args.self (rule c) c.requires)

pub returns-clause-tree : goal.returns-clause-tree
returns-clause-tree c = ap full_tree (words_are c) ∙ full_again c.args.self (rule c) c.requires
