use Rattle.std.proofs.Common.{arith}
use Rattle.std.proofs.lemmas.Int.{ints}
use Rattle.bh_model.proofs.Terms.{same_pull}
use Rattle.bh_model.proofs.pull.Pull.plus.Goals as goal

pub returns : goal.returns
returns c = same_pull _ _ _ _ _ _ _ _ (omega (arith, ints)) (omega (arith, ints)) (omega (arith, ints)) (omega arith)
