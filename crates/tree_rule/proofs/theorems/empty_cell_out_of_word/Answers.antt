use Rattle.std.proofs.Common.{ℕ, subst, slice_set}
use Rattle.octant_code.specs.Points.{site_at}
use Rattle.bh_model.specs.Bodies.{IsIn}
use Rattle.tree_rule.specs.Words.{IsReached, at_of, body_word}
use Rattle.tree_rule.proofs.Cut.{emptied}
use Rattle.tree_rule.proofs.Names.{word_of_cell}
use Rattle.tree_rule.proofs.Published.{changed_at, cells_kept}
use Rattle.tree_rule.proofs.theorems.empty_cell_out_of_word.Goals as goal

pub returns : goal.returns
returns c =
    let site = site_at c.args.points.now in
    let at = at_of c.args.words.now in
    let after = at_of (slice_set c.args.words.now c.args.place 0) in
    let named = word_of_cell (at c.args.place) c.args.c c.requires.named in
    cells_kept site at after c.args.root c.args.base c.args.cells.now c.args.kept.now c.args.bodies.now c.args.witnesses.now c.args.place c.args.c named
    c.requires.kept
    (emptied site at after c.args.root c.args.base (IsIn c.args.cells.now) (IsIn c.args.bodies.now) (IsIn c.args.witnesses.now) c.args.key c.args.place
    c.requires.stands c.requires.published (λ n q. c.requires.empty n (subst (λ (w : ℕ). IsReached at w (body_word n)) named q))
    (changed_at c.args.words.now c.args.place 0 c.requires.inside))
