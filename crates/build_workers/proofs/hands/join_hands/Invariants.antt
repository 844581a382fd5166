use Rattle.std.proofs.Common.{◌≡◌, length}
use Rattle.std.specs.Vec.Iter.{into_iter_items, into_iter_len}
use Rattle.shared_tree.specs.Seen.{IsOf}
use Rattle.build_workers.specs.Hands.{joined_with, AreSpent}
use Rattle.build_workers.proofs.hands.join_hands.Given as goal

abbrev pub invariant-loop-hand : goal.invariant-loop-hand
invariant-loop-hand g l =
    let state = g.T.SharedPasses.state in
    let t = g.T.SharedPasses.tree l.tree in
    (into_iter_len l.hand-iterator ≡ length (into_iter_items l.hand-iterator)) × IsOf (state l.pass) t × AreSpent state t (into_iter_items l.hand-iterator)
    × (joined_with state (state l.pass) (into_iter_items l.hand-iterator)
    ≡ joined_with state (state l.initial.pass) (into_iter_items l.initial.hand-iterator))
