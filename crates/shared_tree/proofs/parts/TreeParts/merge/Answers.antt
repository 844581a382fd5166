use Rattle.std.proofs.Common.{ℕ, ◌≡◌, ◌+◌, ◌<◌, ◌≤◌, ◌*◌, List, ap, drop, length, subst, sym, take, ◌∙◌}
use Rattle.octant_code.specs.Points.{site_at}
use Rattle.octant_code.specs.Space.{Site}
use Rattle.bh_model.specs.Blocks.{blocks}
use Rattle.bh_model.specs.Bodies.{IsIn}
use Rattle.bh_model.specs.Trees.{order}
use Rattle.octree.specs.Stored.{tree_of}
use Rattle.tree_rule.specs.declared.words.TheConstants.{CELLS_OF_ONE}
use Rattle.tree_passes.specs.Counting.{times}
use Rattle.tree_passes.specs.Opening.{all_bodies}
use Rattle.shared_tree.specs.Merging.{AreBlocks, HasAllBodies, IsMerged, others_among}
use Rattle.shared_tree.specs.Seen.{IsAtRest, IsInside, PartsOfPass, SharedTree, seen_of, state_of}
use Rattle.shared_tree.proofs.MergeRests.{alone_all, counted_merged, merged_seen, part_stocked, rest_merged}
use Rattle.shared_tree.proofs.MergeRivals.{blocks_among}
use Rattle.shared_tree.proofs.MergeRoots.{whole_once}
use Rattle.shared_tree.proofs.parts.TreeParts.merge.Given.{Over}
use Rattle.shared_tree.proofs.parts.TreeParts.merge.Goals.{After-merge_part-merged}
use Rattle.shared_tree.proofs.parts.TreeParts.merge.Goals as goal

-- the part was merged with the first cells of the region
merged : (g : Over) (c : After-merge_part-merged g) → IsMerged c.pass.inside.seat.me.0 c.merge_part-merged.new.pass.me.0 (order (tree_of c.args.part.now))
    (take c.merge_part-merged.result.used c.pass.inside.region.cells)
merged g c =
    subst (λ (z : List ℕ). IsMerged c.pass.inside.seat.me.0 c.merge_part-merged.new.pass.me.0 (order (tree_of c.args.part.now))
    (take c.merge_part-merged.result.used z)) c.rest.ensures c.merge_part-merged.ensures.merged

pub merge_part-merged-requires-clause-stock : goal.merge_part-merged-requires-clause-stock
merge_part-merged-requires-clause-stock g c =
    let f = c.pass.inside in
    let t = c.canonical_tree.ensures in
    let bodies = order (tree_of c.args.part.now) in
    subst (λ (z : List ℕ). CELLS_OF_ONE * length bodies ≤ length z) (sym c.rest.ensures)
    (part_stocked f.seat.me.0 f.seat.table_id.words f.region.cells bodies f.region.room (whole_once _ _ t.rule c.requires.base t.tree)
    (λ x i. subst (λ (p : PartsOfPass). 1 ≤ times x p.view.todo) (sym c.pass.view_is) (c.requires.todo x ((c.whole-whole.ensures.bodies x).0 i)))
    (subst (λ (p : PartsOfPass). 1 ≤ p.view.quota → CELLS_OF_ONE * length bodies ≤ length p.cells) (sym c.pass.view_is) c.requires.stock)
    c.pass.invariant.2)

pub invariant_of-pass : goal.invariant_of-pass
invariant_of-pass g c =
    let e = c.merge_part-merged.ensures in
    let i = c.pass.invariant in
    let f = c.pass.inside in
    let w = c.merge_part-merged.new.pass.me.0 in
    let used = c.merge_part-merged.result.used in
    let bodies = order (tree_of c.args.part.now) in
    let cells = f.region.cells in
    let m = merged g (goal.at.invariant_of-pass g c).After-merge_part-merged in
    let within : used ≤ length cells = subst (λ (z : List ℕ). used ≤ length z) c.rest.ensures e.within in (
      e.pass.1 ∙ i.0,
      counted_merged f.seat.me.0 w bodies _ f.published f.changes _ _ _ _ m e.changes i.1
          c.merge_part-merged.ensures.bodies
          c.saturating_add-pass-inside.ensures c.saturating_add-pass-inside-2.ensures,
      subst (λ (z : ℕ × List ℕ × ℕ). IsAtRest w z.0 z.1 z.2)
          (λ k. (sym (ap (λ z. z.words) e.pass.0) k, sym c.spend.ensures.cells k, sym c.spend.ensures.room k))
          (rest_merged f.seat.me.0 w f.seat.table_id.words cells bodies f.region.room used m e.no_lock within e.few i.2),
    )

pub returns-clause-merged : goal.returns-clause-merged
returns-clause-merged g c =
    let w = c.merge_part-merged.new.pass.me.0 in
    let used = c.merge_part-merged.result.used in
    let bodies = order (tree_of c.args.part.now) in
    subst (λ (p : PartsOfPass). (u : ℕ) × (u ≤ CELLS_OF_ONE * length bodies) × (c.spend.new.self.cells ≡ drop u p.cells)
    × IsMerged p.view w bodies (take u p.cells)) c.pass.view_is
    (used, c.merge_part-merged.ensures.few, c.spend.ensures.cells, merged g (goal.at.returns-clause-merged g c).After-merge_part-merged)

pub returns-clause-stays : goal.returns-clause-stays
returns-clause-stays g c =
    let f = c.pass.inside in
    let u = c.merge_part-merged.new.pass in
    let w = u.me.0 in
    subst (λ (p : PartsOfPass). state_of u.table_id w
    ≡ record (seen_of p) { todo = w.todo; done = w.done; changes = w.changes; loads = w.loads; last = w.last }) c.pass.view_is
    (merged_seen f.seat.table_id u.table_id f.seat.me.0 w _ _ c.merge_part-merged.ensures.pass.0
    (merged g (goal.at.returns-clause-stays g c).After-merge_part-merged))

pub returns-clause-todo : goal.returns-clause-todo
returns-clause-todo g c = λ x.
    (merged g (goal.at.returns-clause-todo g c).After-merge_part-merged).todo x ∙ ap (λ (p : PartsOfPass). times x p.view.todo) c.pass.view_is

pub returns-clause-done : goal.returns-clause-done
returns-clause-done g c = λ x.
    (merged g (goal.at.returns-clause-done g c).After-merge_part-merged).done x
    ∙ ap (λ (p : PartsOfPass). times x (order (tree_of c.args.part.now)) + times x p.view.done) c.pass.view_is

-- the opening's bodies are those that the pass knows
own : (g : Over) (c : After-merge_part-merged g) → c.pass.inside.seat.me.0.bodies ≡ all_bodies c.args.self.now.opening
own g c = ap (λ (p : PartsOfPass). p.view.bodies) c.pass.view_is ∙ c.requires.tree.bodies

pub returns-clause-blocks : goal.returns-clause-blocks
returns-clause-blocks g c =
    let v = c.pass.inside.seat.me.0 in
    let o = c.args.self.now.opening in
    let mine = order (tree_of c.args.part.now) in
    let same = own g (goal.at.returns-clause-blocks g c).After-merge_part-merged in
    let inside : IsInside o = subst (λ (t : SharedTree). IsInside t.opening) c.self.view_is c.self.invariant.3 in
    let within : (n : ℕ) → IsIn v.bodies n → n < length o.sites = λ n i. inside n (subst (λ (z : List ℕ). IsIn z n) same i) in
    let count = c.merge_part-merged.result.changes in
    let sites : c.deref-2.result.now ≡ o.sites = c.deref-2.ensures ∙ c.self.invariant.1 ∙ ap (λ (t : SharedTree). t.opening.sites) c.self.view_is in
    subst (λ (z : List ℕ). count ≤ blocks (site_at o.sites) mine (others_among z mine)) same
    (blocks_among v o.sites mine count within (subst (λ (z : List Site). AreBlocks v z 1 0 mine count) sites c.merge_part-merged.ensures.blocks))

pub returns-clause-once : goal.returns-clause-once
returns-clause-once g c = λ h.
    let o = c.args.self.now.opening in
    c.merge_part-merged.ensures.alone
    (alone_all c.pass.inside.seat.table_id c.pass.inside.seat.me.0 o (own g (goal.at.returns-clause-once g c).After-merge_part-merged)
    (subst (λ (p : PartsOfPass). HasAllBodies (seen_of p) o) (sym c.pass.view_is) h))
