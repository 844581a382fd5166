use Rattle.std.proofs.Common.{◌≡◌, drop}
use Rattle.shared_tree.specs.Seen.{IsOf}
use Rattle.local_build.proofs.steps.count_each.Given as goal

abbrev pub invariant-loop-i : goal.invariant-loop-i
invariant-loop-i g l = IsOf l.counted.pass l.tree × (l.counted.pass.todo ≡ drop l.i l.share)
