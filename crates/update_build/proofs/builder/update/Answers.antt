use Rattle.std.proofs.Common.{◌<◌, ◌∙◌, ℕ, List, All, Vec, Global, length, map, sym, subst, ap, arith}
use Rattle.std.specs.Arc.{arc_value}
use Rattle.octant_code.specs.Points.{ArePoints}
use Rattle.octant_code.specs.Space.{Site}
use Rattle.tree_passes.specs.Counting.{all_of, times}
use Rattle.tree_passes.proofs.Laws.{sum_of-map, times-all_of}
use Rattle.build_workers.proofs.Laws.{shares_within}
use Rattle.local_build.specs.Insertion.{AreSharesOf}
use Rattle.update_build.specs.Staying.{StaysOf, movers_in}
use Rattle.update_build.specs.Updating.{IsTreeOfItsBodies}
use Rattle.update_build.proofs.Updating.{IsTaken, counted, few_leave, freed_cells, movers_new, movers_shared, numbers_kept, taken_cells, updated}
use Rattle.update_build.proofs.builder.update.Given.{Over}
use Rattle.update_build.proofs.builder.update.Goals.{After-deref-3, After-len-3}
use Rattle.update_build.proofs.builder.update.Goals as goal

-- what was taken out of the octree before
taken : (g : Over) (c : After-deref-3 g)
    → IsTaken (arc_value c.args.old_points.now) (arc_value c.args.new_points.now) c.args.old c.in_ok-stay.stay (map (λ s. s.items) c.args.shares.now)
    (map (λ s. s.items) c.in_ok-stay.movers.items) c.deref-2.result.now
taken g c =
    let olds = c.deref-olds.ensures in
    let news = c.deref-news.ensures in
    let shares = map (λ (s : Vec ℕ Global). s.items) c.args.shares.now in
    let lists = c.in_ok-stay.movers.items in
    record {
      many = c.requires.many;
      old_points = subst ArePoints olds c.len.ensures.rule;
      new_points = subst ArePoints news c.len-2.ensures.rule;
      is_old = c.requires.old;
      are = c.requires.shares;
      stays = subst (λ (s : List Site). StaysOf (arc_value c.args.old_points.now) s c.args.old c.in_ok-stay.stay) news
          (subst (λ (s : List Site). StaysOf s c.deref-news.result.now c.args.old c.in_ok-stay.stay) olds c.in_ok-stay.ensures.stays);
      lists_are = c.in_ok-stay.ensures.movers ∙ ap (λ s. map (movers_in s c.deref-news.result.now) shares) olds
          ∙ ap (λ s. map (movers_in (arc_value c.args.old_points.now) s) shares) news;
      bodies_are = λ n. ap (times n) (c.deref-2.ensures.value ∙ c.in_ok-bodies.ensures ∙ ap (all_of (λ l. l.items)) c.deref.ensures.value)
          ∙ times-all_of n (λ l. l.items) lists ∙ sym (sum_of-map (times n) (λ l. l.items) lists);
    }

-- the octree of what stays is that of its bodies
stays_law : (g : Over) (c : After-deref-3 g) → IsTreeOfItsBodies (arc_value c.args.new_points.now) c.in_ok-stay.stay
stays_law g c = subst (λ (s : List Site). IsTreeOfItsBodies s c.in_ok-stay.stay) c.deref-news.ensures c.count_cells-kept.ensures.tree

-- and so is the octree at the end
ends_law : (g : Over) (c : After-len-3 g) → IsTreeOfItsBodies (arc_value c.args.new_points.now) c.in_ok-octree.octree
ends_law g c = subst (λ (s : List Site). IsTreeOfItsBodies s c.in_ok-octree.octree) c.deref-news.ensures c.count_cells-after.ensures.tree

pub take_out-requires-clause-there : goal.take_out-requires-clause-there
take_out-requires-clause-there g c = λ κ within.
    subst (λ (s : List Site). All (λ v. All (λ n. n < length s) v.items) c.args.shares.now)
    (sym c.deref-news.ensures)
    (shares_within (λ (v : Vec ℕ Global). v.items) (length (arc_value c.args.new_points.now)) c.args.shares.now c.requires.shares)

pub take_out-requires-clause-all : goal.take_out-requires-clause-all
take_out-requires-clause-all g c = λ κ within n less.
    let count = ap length c.deref-news.ensures in
    let one = c.requires.shares.once n (omega arith) in
    omega arith

pub insert_shares-requires-clause-bodies : goal.insert_shares-requires-clause-bodies
insert_shares-requires-clause-bodies g c = λ κ within. movers_new (taken g (goal.at.insert_shares-requires-clause-bodies g c).After-deref-3)

pub insert_shares-requires-clause-shares : goal.insert_shares-requires-clause-shares
insert_shares-requires-clause-shares g c = λ κ within.
    subst (λ (l : List (Vec ℕ Global)). AreSharesOf c.deref-2.result.now (map (λ s. s.items) l)) (sym c.deref-3.ensures.value)
    (movers_shared (taken g (goal.at.insert_shares-requires-clause-shares g c).After-deref-3))

pub overflow_cast-counts : goal.overflow_cast-counts
overflow_cast-counts g c =
    let t = taken g (goal.at.overflow_cast-counts g c).After-deref-3 in
    let few = few_leave t in
    let rule = t.new_points.few in
    let size = c.in_ok-bodies.bodies.ok.0 in
    let value = ap length c.deref-2.ensures.value in
    omega arith

pub overflow_sub-counts : goal.overflow_sub-counts
overflow_sub-counts g c =
    let d = (goal.at.overflow_sub-counts g c).After-deref-3 in
    let freed = freed_cells (taken g d) (stays_law g d) in
    omega (arith, freed, c.cells-before.ensures.tree, c.count_cells-kept.ensures.count)

pub overflow_sub-counts-2 : goal.overflow_sub-counts-2
overflow_sub-counts-2 g c =
    let d = (goal.at.overflow_sub-counts-2 g c).After-deref-3 in
    let more = taken_cells (taken g d) c.in_ok-octree.octree c.in_ok-octree.ensures.tree (stays_law g d)
    (ends_law g (goal.at.overflow_sub-counts-2 g c).After-len-3) in
    omega (arith, more, c.count_cells-after.ensures.count, c.count_cells-kept.ensures.count)

pub returns-clause-tree : goal.returns-clause-tree
returns-clause-tree g c =
    updated (taken g (goal.at.returns-clause-tree g c).After-deref-3) c.in_ok-octree.octree c.in_ok-octree.ensures.tree
    (ends_law g (goal.at.returns-clause-tree g c).After-len-3)

pub returns-clause-kept : goal.returns-clause-kept
returns-clause-kept g c =
    let d = (goal.at.returns-clause-kept g c).After-deref-3 in
    numbers_kept (taken g d) c.in_ok-octree.octree c.in_ok-octree.ensures.tree c.count_cells-kept.ensures.rule (stays_law g d)

pub returns-clause-counts : goal.returns-clause-counts
returns-clause-counts g c =
    let d = (goal.at.returns-clause-counts g c).After-deref-3 in
    let size = c.in_ok-bodies.bodies.ok.0 in
    let value = ap length c.deref-2.ensures.value in
    counted (taken g d) c.in_ok-octree.octree c.in_ok-octree.ensures.tree (stays_law g d) (ends_law g (goal.at.returns-clause-counts g c).After-len-3)
    c.len-3.result c.cells-before.result c.count_cells-kept.result c.count_cells-after.result (omega arith) c.cells-before.ensures.tree
    c.count_cells-kept.ensures.count c.count_cells-after.ensures.count
