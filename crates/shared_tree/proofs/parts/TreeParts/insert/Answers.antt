use Rattle.std.proofs.Common.{ℕ, ◌≤◌, List, ap, length, subst, sym, take, ◌∙◌}
use Rattle.tree_rule.specs.declared.words.TheConstants.{CELLS_OF_ONE}
use Rattle.tree_passes.specs.Counting.{times}
use Rattle.shared_tree.specs.Inserting.{IsPutIn}
use Rattle.shared_tree.specs.Seen.{IsAtRest, PartsOfPass}
use Rattle.shared_tree.proofs.Counted.{counted_put}
use Rattle.shared_tree.proofs.Resting.{put_stocked, rest_put}
use Rattle.shared_tree.proofs.parts.TreeParts.insert.Goals as goal

pub insert-used-requires-clause-stock : goal.insert-used-requires-clause-stock
insert-used-requires-clause-stock g c =
    let f = c.pass.inside in
    subst (λ (z : List ℕ). CELLS_OF_ONE ≤ length z) (sym c.rest.ensures)
    (put_stocked f.seat.me.0 f.seat.table_id.words f.region.cells f.region.room c.args.n
    (subst (λ (p : PartsOfPass). 1 ≤ times c.args.n p.view.todo) (sym c.pass.view_is) c.requires.todo)
    (subst (λ (p : PartsOfPass). 1 ≤ p.view.quota → CELLS_OF_ONE ≤ length p.cells) (sym c.pass.view_is) c.requires.stock) c.pass.invariant.2)

pub invariant_of-pass : goal.invariant_of-pass
invariant_of-pass g c =
    let e = c.insert-used.ensures in
    let i = c.pass.invariant in
    let f = c.pass.inside in
    let w = c.insert-used.new.pass.me.0 in
    let used = c.insert-used.result in
    let cells = f.region.cells in
    let todo = subst (λ (p : PartsOfPass). 1 ≤ times c.args.n p.view.todo) (sym c.pass.view_is) c.requires.todo in
    let done : IsPutIn f.seat.me.0 w c.args.n (take used cells) = subst (λ (z : List ℕ). IsPutIn f.seat.me.0 w c.args.n (take used z)) c.rest.ensures e.done in
    let few : used ≤ length cells = subst (λ (z : List ℕ). used ≤ length z) c.rest.ensures e.few in (
      e.pass.1 ∙ i.0,
      counted_put f.seat.me.0 w c.args.n f.published f.changes _ _ e.done.todo e.done.done e.done.changes todo i.1
          c.saturating_add-pass-inside.ensures c.saturating_add-pass-inside-2.ensures,
      subst (λ (z : ℕ × List ℕ × ℕ). IsAtRest w z.0 z.1 z.2)
          (λ k. (sym (ap (λ z. z.words) e.pass.0) k, sym c.spend.ensures.cells k, sym c.spend.ensures.room k))
          (rest_put f.seat.me.0 w f.seat.table_id.words cells f.region.room used c.args.n todo done e.no_lock.1 few i.2),
    )
