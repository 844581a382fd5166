use Rattle.std.proofs.Common.{◌^◌, arith, sym, subst}
use Rattle.bh_model.specs.Pulls.{IsSmall}
use Rattle.bh_model.specs.declared.pull.Pull.{Pull}
use Rattle.bh_model.proofs.PullBounds.{small_more}
use Rattle.force_walk.proofs.Walks.{term_fits}
use Rattle.force_walk.proofs.walk.add_wide.Goals.{After-plain_term}
use Rattle.force_walk.proofs.walk.add_wide.Goals as goal

-- the term is small
one : (c : After-plain_term) → IsSmall (2 ^ 80) 1 c.plain_term.result
one c =
    subst (λ (p : Pull). IsSmall (2 ^ 80) 1 p) (sym c.plain_term.ensures)
    (term_fits c.args.law.now c.args.node.now.mass c.args.from c.args.node.now.at c.requires.rule c.requires.light c.requires.apart)

pub plus-requires-clause-other_small : goal.plus-requires-clause-other_small
plus-requires-clause-other_small c = small_more _ _ _ _ _ (omega arith) (omega arith) (one c)

pub plus-requires-clause-few : goal.plus-requires-clause-few
plus-requires-clause-few c = omega (arith, c.requires.small.met, (one c).met)
