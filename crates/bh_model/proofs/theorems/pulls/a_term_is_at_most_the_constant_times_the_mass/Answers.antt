use Rattle.bh_model.proofs.Terms.{term-small}
use Rattle.bh_model.proofs.theorems.pulls.a_term_is_at_most_the_constant_times_the_mass.Goals as goal

pub returns : goal.returns
returns c = term-small c.args.law.now c.args.mass c.args.from c.args.to c.requires.apart
