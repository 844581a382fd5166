use Rattle.std.proofs.Common.{arith, ◌≡◌, ap, length, ◌∙◌}
use Rattle.octant_code.specs.Points.{site_at}
use Rattle.bh_model.specs.Movers.{remaining}
use Rattle.bh_model.specs.Trees.{cell_keys_from, octree}
use Rattle.bh_plain.proofs.ListUpdates.{counts_by_parts, few_keys, left_is, remaining_within, without_same}
use Rattle.bh_plain.proofs.updates.plain_update_counts.Goals as goal

pub cell_keys-requires-3 : goal.cell_keys-requires-3
cell_keys-requires-3 c = record {
  within = remaining_within (site_at c.args.old.now) (site_at c.args.new.now) c.args.bodies.now c.deref.result.now (length c.args.new.now)
      (c.deref.ensures.value ∙ c.in_ok-kept.ensures) c.requires.new_within;
}

pub overflow_sub-result : goal.overflow_sub-result
overflow_sub-result c =
    omega (arith, c.len.ensures, left_is (site_at c.args.old.now) (site_at c.args.new.now) c.args.bodies.now c.in_ok-kept.kept.items c.in_ok-kept.ensures)

pub count_without-requires : goal.count_without-requires
count_without-requires c =
    few_keys (site_at c.args.old.now) c.args.bodies.now c.deref-2.result.now (c.deref-2.ensures.value ∙ c.in_ok-before.ensures) c.requires.few

pub count_without-requires-2 : goal.count_without-requires-2
count_without-requires-2 c =
    few_keys (site_at c.args.new.now) c.args.bodies.now c.deref-4.result.now (c.deref-4.ensures.value ∙ c.in_ok-after.ensures) c.requires.few

pub returns : goal.returns
returns c =
    let old = site_at c.args.old.now in
    let new = site_at c.args.new.now in
    let left = left_is old new c.args.bodies.now c.in_ok-kept.kept.items c.in_ok-kept.ensures in
    let kept = c.deref.ensures.value ∙ c.in_ok-kept.ensures in
    let stay : c.in_ok-stay.stay.items ≡ cell_keys_from (octree new (remaining old new c.args.bodies.now)) 1 = c.in_ok-stay.ensures
    ∙ ap (λ y. cell_keys_from (octree new y) 1) kept in
    counts_by_parts old new c.args.bodies.now _ _ _ (omega (arith, c.len.ensures, left))
    (without_same c.deref-2.result.now c.deref-3.result.now _ _ _ c.count_without.ensures (c.deref-2.ensures.value ∙ c.in_ok-before.ensures)
    (c.deref-3.ensures.value ∙ stay))
    (without_same c.deref-4.result.now c.deref-5.result.now _ _ _ c.count_without-2.ensures (c.deref-4.ensures.value ∙ c.in_ok-after.ensures)
    (c.deref-5.ensures.value ∙ stay))
