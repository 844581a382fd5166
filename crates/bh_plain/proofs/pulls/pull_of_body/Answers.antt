use Rattle.std.proofs.Common.{◌∙◌, sym}
use Rattle.octant_code.specs.Points.{site_at}
use Rattle.bh_model.specs.Moments.{matter_by}
use Rattle.bh_plain.proofs.ListPulls.{apart_same, term_same}
use Rattle.bh_model.proofs.PullBounds.{points_apart, pull-other, pull-own}
use Rattle.bh_plain.proofs.pulls.pull_of_body.Goals as goal

pub returns-then-j-n : goal.returns-then-j-n
returns-then-j-n c = c.none.ensures ∙ sym (pull-own c.args.law.now (matter_by c.args.masses.now c.args.points.now) c.args.n 0 0 c.args.j c.if-j-n.true)

pub plain_term-requires-clause-apart : goal.plain_term-requires-clause-apart
plain_term-requires-clause-apart c =
    apart_same c.at-from.result c.at-to.result (site_at c.args.points.now c.args.n) (site_at c.args.points.now c.args.j) _ c.at-from.ensures.value
    c.at-to.ensures.value
    ((points_apart c.args.masses.now c.args.points.now c.args.n c.len-count.ensures.rule c.requires.own).apart c.args.j c.requires.within c.if-j-n.false)

pub returns : goal.returns
returns c =
    c.plain_term.ensures
    ∙ term_same c.args.law.now _ _ c.at-from.result c.at-to.result _ _ c.from-mass.ensures c.at-from.ensures.value c.at-to.ensures.value
    ∙ sym (pull-other c.args.law.now (matter_by c.args.masses.now c.args.points.now) c.args.n 0 0 c.args.j c.if-j-n.false)
