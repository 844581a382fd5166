use Rattle.std.proofs.Common.{arith, ap, length}
use Rattle.octree.proofs.Laws.{child_height}
use Rattle.shared_tree.proofs.MergeParts.{count_all, count_next}
use Rattle.shared_tree.proofs.PartTrees.{no_bodies, one_body}
use Rattle.shared_tree.proofs.merge.+count_bodies.Goals as goal

pub count_bodies-requires : goal.count_bodies-requires
count_bodies-requires t c = omega (arith, child_height _ _ _ _ c.in-Cell.ensures c.child.ensures c.loop-k-test.true)

pub loop-k-init : goal.loop-k-init
loop-k-init t c = omega arith

pub loop-k-preserved : goal.loop-k-preserved
loop-k-preserved t c =
    let i = c.loop-k.invariant in
    omega (arith, c.saturating_add-count.ensures, c.count_bodies.ensures, i, count_next _ _ c.in-Cell.ensures _ _ c.child.ensures)

pub returns-in-Nothing : goal.returns-in-Nothing
returns-in-Nothing t c = omega (arith, ap length (no_bodies _ c.in-Nothing.ensures))

pub returns-in-Body : goal.returns-in-Body
returns-in-Body t c = omega (arith, ap length (one_body _ _ c.in-Body.ensures))

pub returns-after-loop-k : goal.returns-after-loop-k
returns-after-loop-k t c = let i = c.loop-k.invariant in omega (arith, i, count_all _ _ c.in-Cell.ensures c.loop-k.k (omega arith) (omega arith))
