use Rattle.std.proofs.Common.{arith}
use Rattle.octant_code.specs.Points.{site_at}
use Rattle.build_times.proofs.Filled.{filled_more, filled_none}
use Rattle.octree.proofs.Laws.{under_whole}
use Rattle.build_times.proofs.one_thread.insert_all.Goals as goal

pub loop-n-init : goal.loop-n-init
loop-n-init c =
    let e = c.in_ok-tree.ensures in
    filled_none c.args.points.now c.in_ok-tree.tree e.empty e.base e.used (omega (arith, e.held, c.len-count.ensures.value))

pub insert-requires-clause-room : goal.insert-requires-clause-room
insert-requires-clause-room c =
    let h = c.loop-n.invariant in
    omega (arith, h.used, h.held, c.len-count.ensures.value, c.loop-n-test.true)

pub insert-requires-clause-under : goal.insert-requires-clause-under
insert-requires-clause-under c = under_whole (site_at c.args.points.now c.loop-n.n) c.loop-n.tree.base c.loop-n.invariant.base

pub insert-requires-clause-canonical : goal.insert-requires-clause-canonical
insert-requires-clause-canonical c = c.loop-n.invariant.canonical

pub insert-requires-clause-fresh : goal.insert-requires-clause-fresh
insert-requires-clause-fresh c = λ b. let l = c.loop-n.invariant.below c.loop-n.n b in absurd (omega arith)

pub loop-n-preserved : goal.loop-n-preserved
loop-n-preserved c = filled_more _ c.loop-n.tree c.insert.new.self c.loop-n.n c.loop-n.invariant c.insert.ensures.canonical c.insert.ensures.inserted
