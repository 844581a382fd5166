use Rattle.std.proofs.Common.{List, ℕ, arith, length, map, subst, sym}
use Rattle.std.proofs.lemmas.List.{length-map}
use Rattle.octant_code.specs.Points.{site_at}
use Rattle.octree.proofs.Builds.{IsBuilt, IsNext, built_more, built_none, built_roomier, built_tree, next_body, under_whole}
use Rattle.octree.specs.Ranks.{HasEachOnce, body_of_rank}
use Rattle.octree.proofs.octree.Octree.of_points.Goals.{After-body_of}
use Rattle.octree.proofs.octree.Octree.of_points.Goals as goal

-- the octree with room for the next body, and that body
more : (c : After-body_of) → IsBuilt c.args.points.now (map body_of_rank c.deref-rank-items.result.now) c.reserve.new.self c.loop-rank.rank-index
more c = built_roomier _ _ c.loop-rank.tree c.reserve.new.self c.loop-rank.rank-index c.loop-rank.invariant c.reserve.ensures.stays

next : (c : After-body_of)
    → IsNext c.args.points.now (map body_of_rank c.deref-rank-items.result.now) c.reserve.new.self c.loop-rank.rank-index c.body_of.result
next c = next_body c.args.points.now body_of_rank c.deref-rank-items.result.now _ _ c.body_of.result (more c) c.loop-rank-test.true c.body_of.ensures

pub loop-rank-init : goal.loop-rank-init
loop-rank-init c = built_none c.args.points.now _ c.in_ok-tree.tree
    (subst (λ (ranks : List ℕ). HasEachOnce (length c.args.points.now) (map body_of_rank ranks)) (sym c.deref-rank-items.ensures.value) c.in_ok-ranks.ensures)
    c.in_ok-tree.ensures.empty c.in_ok-tree.ensures.base c.in_ok-tree.ensures.used

pub reserve-requires : goal.reserve-requires
reserve-requires c =
    let done = c.loop-rank.invariant in
    omega (arith, done.used, done.each.many, length-map c.deref-rank-items.result.now body_of_rank, c.len-count.ensures.rule.few)

pub insert-requires-clause-n_in : goal.insert-requires-clause-n_in
insert-requires-clause-n_in c = (next c).inside

pub insert-requires-clause-under : goal.insert-requires-clause-under
insert-requires-clause-under c = under_whole (site_at c.args.points.now c.body_of.result) c.reserve.new.self.base (more c).base

pub insert-requires-clause-canonical : goal.insert-requires-clause-canonical
insert-requires-clause-canonical c = (more c).canonical

pub insert-requires-clause-fresh : goal.insert-requires-clause-fresh
insert-requires-clause-fresh c = (next c).fresh

pub loop-rank-preserved : goal.loop-rank-preserved
loop-rank-preserved c =
    let d = (goal.at.loop-rank-preserved c).After-body_of in
    built_more _ _ c.reserve.new.self c.insert.new.self _ (more d) c.body_of.result (next d).is c.insert.ensures.canonical c.insert.ensures.inserted

pub returns : goal.returns
returns c =
    let done = c.loop-rank.invariant in
    let ranks = c.deref-rank-items.result.now in
    record {
      base = done.base;
      canonical = done.canonical;
      tree = built_tree c.args.points.now (map body_of_rank ranks) c.loop-rank.tree c.loop-rank.rank-index c.canonical_tree.ensures.rule done
          (omega (arith, length-map ranks body_of_rank)) c.canonical_tree.ensures.tree;
    }
