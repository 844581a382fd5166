use Rattle.std.proofs.Common.{◌≡◌, ℕ, ◌+◌, map, take}
use Rattle.octree.specs.Ranks.{body_of_rank}
use Rattle.tree_passes.specs.Counting.{times}
use Rattle.shared_tree.specs.Seen.{IsOf}
use Rattle.build_workers.proofs.work.InsertEachWork.work.Given as goal

abbrev pub invariant-loop-i : goal.invariant-loop-i
invariant-loop-i g l =
    let p = g.T.SharedPasses.state l.pass in
    let put = take l.i (map body_of_rank l.ranks) in
    IsOf p (g.T.SharedPasses.tree l.tree) × ((x : ℕ) → times x p.todo + times x put ≡ times x l.share) × ((x : ℕ) → times x p.done ≡ times x put)
    × (p.changes ≡ l.i)
