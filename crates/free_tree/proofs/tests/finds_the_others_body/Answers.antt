use Rattle.std.specs.Arc.{arc_value}
use Rattle.octree.proofs.Laws.{empty_canonical}
use Rattle.free_tree.proofs.tests.finds_the_others_body.Goals as goal

pub open-requires-clause-canonical : goal.open-requires-clause-canonical
open-requires-clause-canonical g c = empty_canonical (arc_value c.in_ok-points.points) c.in_ok-start.start c.in_ok-start.ensures.empty
