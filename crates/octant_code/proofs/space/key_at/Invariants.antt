use Rattle.std.proofs.Common.{◌≡◌}
use Rattle.octant_code.specs.Space.{key_of}
use Rattle.octant_code.proofs.space.key_at.Given as goal

abbrev pub invariant-loop-i : goal.invariant-loop-i
invariant-loop-i l = l.key ≡ key_of l.p l.i
