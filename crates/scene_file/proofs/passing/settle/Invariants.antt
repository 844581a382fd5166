use Rattle.std.proofs.Common.{drop, nat_eq}
use Rattle.std.specs.HashMap as hash
use Rattle.scene_file.proofs.Finding.{AreFound}
use Rattle.scene_file.proofs.passing.settle.Given as goal

abbrev pub invariant-loop-step : goal.invariant-loop-step
invariant-loop-step l = AreFound (λ q. hash.get nat_eq l.numbers q) l.present (drop l.step-index l.moves)
