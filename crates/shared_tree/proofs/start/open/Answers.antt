use Rattle.std.proofs.Common.{◌≡◌, ℕ, List, sym, subst, arith}
use Rattle.std.specs.Arc.{arc_value}
use Rattle.octant_code.specs.Space.{Site}
use Rattle.octant_code.specs.Points.{ArePoints}
use Rattle.tree_rule.proofs.Laws.{few_below}
use Rattle.tree_passes.specs.Ends.{CanOpen}
use Rattle.shared_tree.proofs.Starts.{can_open, can_pool}
use Rattle.shared_tree.proofs.start.open.Goals.{In_ok-bodies}
use Rattle.shared_tree.proofs.start.open.Goals as goal

-- the bodies that are to be put in, as they are listed
listed : (c : In_ok-bodies) → c.in_ok-bodies.bodies.items ≡ c.args.todo.now
listed c = c.in_ok-bodies.ensures.items_if_clones_equal (λ x y e. e)

pub begin-requires-clause-opens : goal.begin-requires-clause-opens
begin-requires-clause-opens c =
    let at = goal.at.begin-requires-clause-opens c in
    let r = c.requires in
    let d = c.args.deal in
    let words = c.write_start.new.zeros.items in
    subst (λ (z : List Site × List ℕ). CanOpen z.0 words z.1 d.region.items) (λ i. (sym c.in_ok-shared.ensures.cases i, sym (listed at.In_ok-bodies) i))
    (can_open (arc_value c.args.points.now) c.args.start words c.args.todo.now d.region.items d.cells d.pool d.quota
    (subst ArePoints c.deref.ensures c.len-rule.ensures.rule) r.base r.canonical c.in_ok-write_start.ensures.written r.todo_once r.todo_in r.todo_fresh r.deal)

pub begin-requires-clause-pool : goal.begin-requires-clause-pool
begin-requires-clause-pool c = can_pool c.args.start _ _ _ _ _ c.in_ok-write_start.ensures.written c.requires.deal

pub begin-requires-clause-few : goal.begin-requires-clause-few
begin-requires-clause-few c =
    let d = c.requires.deal in
    let few = few_below c.args.deal.pool c.args.deal.region.items d.once d.given in
    omega (arith, few, d.sum, d.few)
