use Rattle.std.proofs.Common.{ℕ, refl, subst, sym, slice_set}
use Rattle.octant_code.specs.Points.{site_at}
use Rattle.bh_model.specs.Bodies.{IsIn}
use Rattle.tree_rule.specs.Words.{IsReached, at_of, body_word}
use Rattle.tree_rule.proofs.Cut.{contracted}
use Rattle.tree_rule.proofs.Names.{word_of_cell}
use Rattle.tree_rule.proofs.Published.{changed_at, cells_kept}
use Rattle.tree_rule.proofs.theorems.last_body_for_cell.Goals as goal

pub returns : goal.returns
returns c =
    let site = site_at c.args.points.now in
    let at = at_of c.args.words.now in
    let w = body_word c.args.x in
    let after = at_of (slice_set c.args.words.now c.args.place w) in
    let named = word_of_cell (at c.args.place) c.args.c c.requires.named in
    cells_kept site at after c.args.root c.args.base c.args.cells.now c.args.kept.now c.args.bodies.now c.args.witnesses.now c.args.place c.args.c named
    c.requires.kept
    (contracted site at after c.args.root c.args.base (IsIn c.args.cells.now) (IsIn c.args.bodies.now)
    (IsIn c.args.witnesses.now) c.args.key c.args.place c.args.x
    c.requires.stands c.requires.published (subst (λ (v : ℕ). IsReached at v (body_word c.args.x)) (sym named) ((c.requires.last c.args.x).1 refl))
    (λ n q. (c.requires.last n).0 (subst (λ (v : ℕ). IsReached at v (body_word n)) named q)) (changed_at c.args.words.now c.args.place w c.requires.inside))
