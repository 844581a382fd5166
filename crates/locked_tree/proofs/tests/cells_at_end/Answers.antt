use Rattle.std.proofs.Common.{◌<◌, [], arith}
use Rattle.std.specs.Arc.{arc_value}
use Rattle.octree.proofs.Laws.{empty_canonical}
use Rattle.locked_tree.proofs.tests.cells_at_end.Goals as goal

pub open-requires-clause-canonical : goal.open-requires-clause-canonical
open-requires-clause-canonical g c = empty_canonical (arc_value c.in_ok-points.points) c.in_ok-bare.field-0 c.in_ok-bare.ensures.empty

pub open-requires-clause-todo_fresh : goal.open-requires-clause-todo_fresh
open-requires-clause-todo_fresh g c = λ x i r.
    let none : x < 0 = (empty_canonical [] c.in_ok-bare.field-0 c.in_ok-bare.ensures.empty).bodies_in x r in
    absurd (omega arith)
