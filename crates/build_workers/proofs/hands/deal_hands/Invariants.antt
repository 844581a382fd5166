use Rattle.std.proofs.Common.{◌≡◌, ℕ, drop, map, take}
use Rattle.tree_passes.specs.Counting.{sum_of, times}
use Rattle.build_workers.specs.Hands.{AreDealt, AreNumbered, ArePrepared, AreReady}
use Rattle.build_workers.proofs.hands.deal_hands.Given as goal

abbrev pub invariant-loop-w : goal.invariant-loop-w
invariant-loop-w g l =
    let state = g.T.SharedPasses.state in
    AreReady state (g.T.SharedPasses.tree l.tree) l.hands.items × AreDealt (take l.w (map (λ s. s.items) l.shares)) l.hands.items
    × (state l.pass ≡ record (state l.initial.pass) { todo = (state l.pass).todo })
    × ((x : ℕ) → times x (state l.pass).todo ≡ sum_of (λ s. times x s.items) (drop l.w l.shares)) × AreNumbered l.w l.hands.items
    × ArePrepared (g.W.Work.prepared l.work (g.T.SharedPasses.tree l.tree)) l.hands.items
