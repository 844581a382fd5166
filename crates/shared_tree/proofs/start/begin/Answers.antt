use Rattle.std.proofs.Common.{◌≡◌, ◌≤◌, ◌+◌, ℕ, List, length, ap, sym, subst, refl, ◌∙◌, arith}
use Rattle.std.specs.Arc.{arc_value}
use Rattle.octant_code.specs.Space.{Site}
use Rattle.octant_code.specs.declared.limits.TheConstants.{MOST_BODIES}
use Rattle.tree_rule.proofs.Laws.{few_below}
use Rattle.cell_pool.specs.Free.{Free}
use Rattle.tree_passes.specs.declared.view.View.{View}
use Rattle.tree_passes.specs.Opening.{Opening, fresh_view, opening_of}
use Rattle.shared_tree.specs.Seen.{IsAtRest, IsCounted, IsInside}
use Rattle.shared_tree.proofs.Starts.{opened_inside, rest_begun}
use Rattle.shared_tree.proofs.start.begin.Goals.{In_ok-table}
use Rattle.shared_tree.proofs.start.begin.Goals as goal

-- what the tree is opened with
abbrev opened : (c : In_ok-table) → Opening
opened c = record { sites = arc_value c.args.points; words = c.args.words.now.items; todo = c.args.todo.now.items }

-- what the table was opened with
opened_is : (c : In_ok-table) → opening_of c.in_ok-table.table.shared.key ≡ opened c
opened_is c =
    c.in_ok-table.ensures.opening
    ∙ ap (λ (z : List Site). record { sites = z; words = c.args.words.now.items; todo = c.args.todo.now.items }) c.deref.ensures

-- the view of the first pass
view : (c : In_ok-table) → c.in_ok-table.seat.me.0 ≡ fresh_view (opened c) c.args.deal.region.items c.args.deal.quota c.args.todo.now.items
view c =
    ap (λ z. z.0) c.in_ok-table.ensures.pass.1
    ∙ ap (λ (o : Opening). fresh_view o c.args.deal.region.items c.args.deal.quota c.args.todo.now.items) (opened_is c)

pub invariant_of-tree : goal.invariant_of-tree
invariant_of-tree c =
    let e = c.in_ok-table.ensures in
    let inside = opened_inside (arc_value c.args.points) c.args.words.now.items c.args.todo.now.items c.args.deal.region.items c.requires.opens in (
      e.counts.1,
      sym (ap (λ (o : Opening). o.sites) e.opening ∙ c.deref.ensures),
      omega (arith, c.word_count.ensures, c.in_ok-room.ensures.capacity),
      subst IsInside (sym (opened_is (goal.at.invariant_of-tree c).In_ok-table)) inside,
    )

pub reserve-requires : goal.reserve-requires
reserve-requires c = omega (arith, c.requires.few, c.of-region.ensures.room)

pub invariant_of-pass : goal.invariant_of-pass
invariant_of-pass c =
    let e = c.in_ok-table.ensures in
    let todo = c.args.todo.now.items in
    let r = c.requires.opens in
    let d = (goal.at.invariant_of-pass c).In_ok-table in
    let few : length todo ≤ MOST_BODIES = omega (arith, few_below (length (arc_value c.args.points)) todo r.todo_once r.todo_in, r.points.few) in
    let words : c.in_ok-table.seat.table_id.words ≡ length c.args.words.now.items = ap (λ z. z.words) e.pass.0 ∙ e.counts.0 in
    let count = length c.args.deal.region.items + c.args.deal.quota in
    let cells : c.reserve.new.self.cells ≡ c.args.deal.region.items = ap (λ (z : Free). z.cells) c.in_ok-reserve.ensures.room ∙ c.of-region.ensures.cells in
    let room : c.reserve.new.self.room ≡ count =
    ap (λ (z : Free). z.room) c.in_ok-reserve.ensures.room ∙ ap (λ (z : ℕ). z + c.args.deal.quota) c.of-region.ensures.room in (
      ap (λ z. z.1) e.pass.1,
      subst (λ (z : View). IsCounted z 0 0) (sym (view d)) (record { todo_few = few; bodies = refl; publications = refl }),
      subst (λ (z : View × ℕ × List ℕ × ℕ). IsAtRest z.0 z.1 z.2 z.3) (λ i. (sym (view d) i, sym words i, sym cells i, sym room i))
          (rest_begun (arc_value c.args.points) c.args.words.now.items todo c.args.deal.region.items c.args.deal.quota r c.requires.enough),
    )
