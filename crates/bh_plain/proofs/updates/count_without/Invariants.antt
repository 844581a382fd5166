use Rattle.std.proofs.Common.{◌≡◌, length, take}
use Rattle.bh_model.specs.Bodies.{without}
use Rattle.bh_plain.proofs.updates.count_without.Given as goal

abbrev pub invariant-loop-key : goal.invariant-loop-key
invariant-loop-key l = l.count ≡ length (without (take l.key-index l.keys) l.others)
