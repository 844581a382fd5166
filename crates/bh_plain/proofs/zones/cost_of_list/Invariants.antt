use Rattle.std.proofs.Common.{◌≡◌, ◌≤◌, ◌*◌, ◌-◌, ◌^◌, take, get_or, sum_by}
use Rattle.bh_plain.proofs.zones.cost_of_list.Given as goal

abbrev pub invariant-loop-n : goal.invariant-loop-n
invariant-loop-n l = record { value : l.whole ≡ sum_by (λ m. get_or l.costs m 0) (take l.n-index l.bodies); fits : l.whole ≤ (2 ^ 32 - 1) * l.n-index }
