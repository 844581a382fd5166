use Rattle.std.proofs.Common.{◌≡◌, ℕ, List, length, sym, subst, ap, ◌∙◌}
use Rattle.std.specs.Arc.{arc_value}
use Rattle.bh_model.specs.Bodies.{IsIn, NoneTwice, numbers}
use Rattle.bh_model.proofs.Lists.{in_numbers, numbers_once}
use Rattle.octree.proofs.Laws.{empty_canonical}
use Rattle.shared_tree.specs.Seen.{PassState}
use Rattle.local_build.proofs.steps.opened.Goals.{After-deref-2}
use Rattle.local_build.proofs.steps.opened.Goals as goal

-- the list of all numbers
listed : (c : After-deref-2) → c.deref-2.result.now ≡ numbers (length (arc_value c.args.points.now))
listed c = c.deref-2.ensures.value ∙ c.in_ok-todo.ensures ∙ ap numbers (c.len.ensures.value ∙ ap length c.deref.ensures)

pub open-requires-clause-canonical : goal.open-requires-clause-canonical
open-requires-clause-canonical c = empty_canonical (arc_value c.args.points.now) c.in_ok-start.start c.in_ok-start.ensures.empty

pub open-requires-clause-todo_once : goal.open-requires-clause-todo_once
open-requires-clause-todo_once c =
    subst NoneTwice (sym (listed (goal.at.open-requires-clause-todo_once c).After-deref-2)) (numbers_once (length (arc_value c.args.points.now)))

pub open-requires-clause-todo_in : goal.open-requires-clause-todo_in
open-requires-clause-todo_in c = λ x i.
    (in_numbers (length (arc_value c.args.points.now)) x).0
    (subst (λ (z : List ℕ). IsIn z x) (listed (goal.at.open-requires-clause-todo_in c).After-deref-2) i)
