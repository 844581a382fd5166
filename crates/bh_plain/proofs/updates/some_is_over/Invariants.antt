use Rattle.std.proofs.Common.{◌≡◌, false, take}
use Rattle.std.specs.List.{list_any}
use Rattle.bh_model.specs.Movers.{is_under}
use Rattle.bh_plain.proofs.updates.some_is_over.Given as goal

abbrev pub invariant-loop-key : goal.invariant-loop-key
invariant-loop-key l = list_any (λ key. is_under key l.p) (take l.key-index l.keys) ≡ false
