use Rattle.std.proofs.Common.{ℕ, ◌≢◌, slice_set}
use Rattle.octant_code.specs.Points.{site_at}
use Rattle.bh_model.specs.Bodies.{IsIn}
use Rattle.tree_rule.specs.Words.{at_of}
use Rattle.tree_rule.proofs.Cut.{taken_out}
use Rattle.tree_rule.proofs.Names.{word_of_body}
use Rattle.tree_rule.proofs.Published.{changed_at, lists_changed}
use Rattle.tree_rule.proofs.theorems.body_out_of_word.Goals as goal

pub returns : goal.returns
returns c =
    let site = site_at c.args.points.now in
    let at = at_of c.args.words.now in
    let after = at_of (slice_set c.args.words.now c.args.place 0) in
    lists_changed site after (after c.args.root) c.args.base (IsIn c.args.cells.now) (λ (m : ℕ). IsIn c.args.bodies.now m × (m ≢ c.args.n))
    (IsIn c.args.witnesses.now)
    c.args.cells.now c.args.others.now c.args.witnesses.now (λ d. ((λ p. p), (λ p. p))) (λ m. ((c.requires.others m).1, (c.requires.others m).0)) (λ m p. p)
    (taken_out site at after c.args.root c.args.base (IsIn c.args.cells.now) (IsIn c.args.bodies.now)
    (IsIn c.args.witnesses.now) c.args.key c.args.place c.args.n
    c.requires.stands c.requires.published (word_of_body (at c.args.place) c.args.n c.requires.named)
    (changed_at c.args.words.now c.args.place 0 c.requires.inside))
