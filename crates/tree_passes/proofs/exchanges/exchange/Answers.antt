use Rattle.std.proofs.Common.{rules}
use Rattle.tree_passes.specs.Opening.{opening_of}
use Rattle.tree_passes.proofs.FreeSteps.{exchanges}
use Rattle.tree_passes.proofs.exchanges.exchange.Goals as goal

pub compare_exchange-requires : goal.compare_exchange-requires
compare_exchange-requires g c = (
  search rules,
  search rules,
  rw c.requires.free (exchanges (opening_of c.args.table.now.key) _ _ _ _ _ _ _ g.B.Batch.cells g.B.Batch.bodies c.requires.ready.1 c.requires.ready.2),
)

pub returns-clause-hit : goal.returns-clause-hit
returns-clause-hit g c = λ e. (c.compare_exchange.ensures.2.1 c.requires.ready.0 c.requires.ready.1).0 e

pub returns-clause-miss : goal.returns-clause-miss
returns-clause-miss g c = λ n key p. (c.compare_exchange.ensures.2.1 key p).1 n
