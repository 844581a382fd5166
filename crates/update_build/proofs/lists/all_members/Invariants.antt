use Rattle.std.proofs.Common.{◌≡◌, take}
use Rattle.tree_passes.specs.Counting.{all_of}
use Rattle.update_build.proofs.lists.all_members.Given as goal

abbrev pub invariant-loop-i : goal.invariant-loop-i
invariant-loop-i l = l.all.items ≡ all_of (λ v. v.items) (take l.i l.lists)
