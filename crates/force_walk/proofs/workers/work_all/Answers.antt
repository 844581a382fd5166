-- What each worker did stands in its list.
use Rattle.std.proofs.Common.{◌∙◌, arith}
use Rattle.force_walk.proofs.workers.work_all.Goals as goal

pub returns : goal.returns
returns g c = (
  c.for_each_mut.auto.s ∙ c.requires.room.0,
  (λ i d e l. let k = (c.for_each_mut.ensures i e (omega (arith, l, c.requires.room.0))).1 in grind arith),
)
