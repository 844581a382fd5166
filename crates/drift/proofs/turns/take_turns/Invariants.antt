use Rattle.std.proofs.Common.{◌≤◌, ◌+◌, length, nat_eq}
use Rattle.std.specs.HashSet.{contains, spare}
use Rattle.std.specs.Vec.{vec_capacity}
use Rattle.drift.proofs.Turning.{IsOnTheWay}
use Rattle.drift.proofs.turns.take_turns.Given as goal

abbrev pub invariant-loop-n : goal.invariant-loop-n
invariant-loop-n l = record {
  way : IsOnTheWay l.pulls l.initial.bodies l.bodies l.moves.items (contains nat_eq l.taken) l.n;
  room : length l.initial.bodies ≤ spare l.taken + l.n;
  moves_room : length l.initial.bodies ≤ vec_capacity l.moves;
  few_moves : length l.moves.items ≤ l.n;
}
