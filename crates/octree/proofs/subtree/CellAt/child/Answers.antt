use Rattle.std.proofs.Common.{◌∙◌, ap, subst, arith, refl}
use Rattle.tree_rule.specs.Words.{at_of, cell_word}
use Rattle.octree.specs.Spot.{Spot}
use Rattle.octree.specs.Subtree.{IsChildOf}
use Rattle.octree.proofs.Subtrees.{cell_fits, child_is_child, child_spot, spot_at}
use Rattle.octree.proofs.subtree.CellAt.child.Goals as goal

pub word_at-requires : goal.word_at-requires
word_at-requires c =
    let f = c.self.inside in
    omega (arith, cell_fits f.octree.now (cell_word f.number.0) f.number.0 refl c.self.invariant, c.place_of_child.ensures)

pub invariant_of-result : goal.invariant_of-result
invariant_of-result c =
    let f = c.self.inside in
    rw (c.word_at.ensures, c.place_of_child.ensures) (child_spot f.octree.now (cell_word f.number.0) f.number.0 refl c.self.invariant c.args.k c.requires)

pub returns : goal.returns
returns c =
    let f = c.self.inside in
    subst (λ (s : Spot). IsChildOf s c.args.k (spot_at f.octree.now c.word_at.result)) c.self.view_is
    (child_is_child f.octree.now f.number.0 c.args.k c.word_at.result (c.word_at.ensures ∙ ap (at_of f.octree.now.words) c.place_of_child.ensures))
