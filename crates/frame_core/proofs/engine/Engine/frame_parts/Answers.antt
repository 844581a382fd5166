use mir.Syntax.{w128}
use mir.Val.{of_z, to_z}
use Rattle.std.proofs.Common.{◌≡◌, ◌<◌, ◌≤◌, ◌^◌, ℕ, List, length, map, ap, subst, ◌∙◌, arith, sym}
use Rattle.bh_model.specs.Bodies.{IsIn}
use Rattle.bh_model.specs.Plans.{HasWorkers, TreePlan}
use Rattle.bh_model.specs.Trees.{Tree, cell_count, depth, order}
use Rattle.bh_model.proofs.Totals.{total-order}
use Rattle.bh_model.specs.Moments.{total}
use Rattle.bh_model.specs.Zones.{cost_of, zones}
use Rattle.build_workers.specs.Shares.{AreShares}
use Rattle.force_walk.specs.Walks.{pulls}
use Rattle.mass_moments.specs.Kept.{cost_at, matter_of}
use Rattle.octree.specs.Stored.{tree_of}
use Rattle.frame_core.specs.Frames.{frame_figures, tree_of_bodies}
use Rattle.frame_core.proofs.Frames.{figures, met_is, pulls_count, pulls_on, push_is, same_figures}
use Rattle.frame_core.proofs.Moved.{among_costs}
use Rattle.frame_core.proofs.Pushes.{read_again}
use Rattle.frame_core.proofs.Stages.{octree_of_stage}
use Rattle.frame_core.proofs.Zones.{body_within, greatest_is, tree_is, zones_cover, zones_fit, zones_inside, zones_of}
use Rattle.frame_core.proofs.ZoneShares.{zones_are_shares}
use Rattle.frame_core.proofs.engine.Engine.frame_parts.Goals as goal

-- the cost of a whole tree is that of its bodies
whole_is : (cost : ℕ → ℕ) (seen tree : Tree) (found : ℕ) → seen ≡ tree → found ≡ total cost seen → found ≡ cost_of cost (order tree)
whole_is cost seen tree found e is = is ∙ ap (total cost) e ∙ total-order cost tree

pub zones-requires-clause-costs_of_bodies : goal.zones-requires-clause-costs_of_bodies
zones-requires-clause-costs_of_bodies g c n b =
    let i = c.self.inside in
    let octree = octree_of_stage i c.args.self.now c.in-Some.kept c.octree-tree.result.now c.self.view_is c.self.invariant c.requires c.in-Some.is
    c.octree-tree.ensures in
    omega (arith, body_within i.bodies c.octree-tree.result.now n octree b, c.self.invariant.one_cost_each, ap length c.as_slice-costs.ensures.value)

pub pulls-requires-clause-octree : goal.pulls-requires-clause-octree
pulls-requires-clause-octree g c = λ κs within.
    octree_of_stage c.self.inside c.args.self.now c.in-Some.kept c.octree-tree.result.now c.self.view_is c.self.invariant c.requires c.in-Some.is
    c.octree-tree.ensures

pub pulls-requires-clause-inside : goal.pulls-requires-clause-inside
pulls-requires-clause-inside g c = λ κs within.
    let i = c.self.inside in
    let cost = cost_at c.as_slice-costs.result.now in
    let octree = octree_of_stage i c.args.self.now c.in-Some.kept c.octree-tree.result.now c.self.view_is c.self.invariant c.requires c.in-Some.is
    c.octree-tree.ensures in
    let cut = zones_of (λ z. z.items) c.as_slice-cut.result.now c.in_ok-zones.zones.items cost c.plan.inside.workers i.bodies c.octree-tree.result.now octree
    c.as_slice-cut.ensures.value c.in_ok-zones.ensures in
    zones_inside (λ z. z.items) c.as_slice-cut.result.now cost c.plan.inside.workers i.bodies c.len-count.ensures.rule cut

pub pulls-requires-clause-covered : goal.pulls-requires-clause-covered
pulls-requires-clause-covered g c = λ κs within.
    let i = c.self.inside in
    let costs = c.as_slice-costs.result.now in
    let octree = octree_of_stage i c.args.self.now c.in-Some.kept c.octree-tree.result.now c.self.view_is c.self.invariant c.requires c.in-Some.is
    c.octree-tree.ensures in
    let cut = zones_of (λ z. z.items) c.as_slice-cut.result.now c.in_ok-zones.zones.items (cost_at costs) c.plan.inside.workers i.bodies
    c.octree-tree.result.now octree c.as_slice-cut.ensures.value c.in_ok-zones.ensures in
    zones_cover (λ z. z.items) c.as_slice-cut.result.now (cost_at costs) c.plan.inside.workers i.bodies c.len-count.ensures.rule cut c.plan.invariant.0
    (λ n l.
    let P : List ℕ → Type 0 = λ y. 1 ≤ cost_at y n in
    let within : n < length i.costs.items = omega (arith, c.self.invariant.one_cost_each) in
    subst P (sym c.as_slice-costs.ensures.value) (c.self.invariant.cost n 0 within).positive)

pub sum_up-sums-requires-clause-one_each : goal.sum_up-sums-requires-clause-one_each
sum_up-sums-requires-clause-one_each g c =
    ap length c.deref.ensures.value
    ∙ pulls_count c.plan.inside.law c.self.inside.bodies (tree_of c.octree-tree.result.now) c.in_ok-pulls.pulls.items c.in_ok-pulls.ensures.value

pub cost_of-requires-clause-costs_of_bodies : goal.cost_of-requires-clause-costs_of_bodies
cost_of-requires-clause-costs_of_bodies g c n b =
    let i = c.self.inside in
    let octree = octree_of_stage i c.args.self.now c.in-Some.kept c.octree-tree.result.now c.self.view_is c.self.invariant c.requires c.in-Some.is
    c.octree-tree.ensures in
    let inside = subst (λ (t : Tree). IsIn (order t) n) c.whole.ensures.tree b in
    omega (arith, body_within i.bodies c.octree-tree.result.now n octree inside, c.self.invariant.one_cost_each, ap length c.as_slice-costs.ensures.value)

pub cost_of-requires-clause-moments : goal.cost_of-requires-clause-moments
cost_of-requires-clause-moments g c = rw c.whole.ensures.octree (record {
  within = c.in_ok-moments.ensures.moments.within;
  cost_is = λ d r. ap (λ m. m.cost) (c.in_ok-moments.ensures.moments.each d r);
})

pub greatest_cost-requires-clause-inside : goal.greatest_cost-requires-clause-inside
greatest_cost-requires-clause-inside g c w d l k e m =
    let i = c.self.inside in
    let cost = cost_at c.as_slice-costs.result.now in
    let octree = octree_of_stage i c.args.self.now c.in-Some.kept c.octree-tree.result.now c.self.view_is c.self.invariant c.requires c.in-Some.is
    c.octree-tree.ensures in
    let cut = zones_of (λ z. z.items) c.as_slice-cut.result.now c.in_ok-zones.zones.items cost c.plan.inside.workers i.bodies c.octree-tree.result.now octree
    c.as_slice-cut.ensures.value c.in_ok-zones.ensures in
    let less = zones_inside (λ z. z.items) c.as_slice-cut.result.now cost c.plan.inside.workers i.bodies c.len-count.ensures.rule cut w d l k e m in
    omega (arith, less, c.self.invariant.one_cost_each, ap length c.as_slice-costs.ensures.value)

pub greatest_cost-requires-clause-fits : goal.greatest_cost-requires-clause-fits
greatest_cost-requires-clause-fits g c =
    let i = c.self.inside in
    let cost = cost_at c.as_slice-costs.result.now in
    let octree = octree_of_stage i c.args.self.now c.in-Some.kept c.octree-tree.result.now c.self.view_is c.self.invariant c.requires c.in-Some.is
    c.octree-tree.ensures in
    let cut = zones_of (λ z. z.items) c.as_slice-cut.result.now c.in_ok-zones.zones.items cost c.plan.inside.workers i.bodies c.octree-tree.result.now octree
    c.as_slice-cut.ensures.value c.in_ok-zones.ensures in
    let whole : cost_of cost (order (tree_of c.octree-tree.result.now)) ≡ cost_of cost (order (tree_of_bodies i.bodies)) = ap (λ t. cost_of cost (order t))
    (tree_is i.bodies c.octree-tree.result.now octree) in
    zones_fit (λ z. z.items) c.as_slice-cut.result.now cost c.plan.inside.workers (tree_of_bodies i.bodies) (2 ^ 64) cut
    (omega (arith, whole, whole_is cost _ _ c.cost_of.result c.whole.ensures.tree c.cost_of.ensures, c.cost_of.type_inv))

pub returns : goal.returns
returns g c =
    let i = c.self.inside in
    let bodies = i.bodies in
    let costs = c.as_slice-costs.result.now in
    let law = c.plan.inside.law in
    let workers = c.plan.inside.workers in
    let same : costs ≡ i.costs.items = c.as_slice-costs.ensures.value in
    let octree = octree_of_stage i c.args.self.now c.in-Some.kept c.octree-tree.result.now c.self.view_is c.self.invariant c.requires c.in-Some.is
    c.octree-tree.ensures in
    let tree = tree_is bodies c.octree-tree.result.now octree in
    let cut = zones_of (λ z. z.items) c.as_slice-cut.result.now c.in_ok-zones.zones.items (cost_at costs) workers bodies c.octree-tree.result.now octree
    c.as_slice-cut.ensures.value c.in_ok-zones.ensures in
    let found = c.in_ok-pulls.pulls.items in
    let all : found ≡ pulls law (matter_of bodies) (length bodies) (tree_of_bodies bodies) = pulls_on law bodies (tree_of c.octree-tree.result.now) found tree
    c.in_ok-pulls.ensures.value in
    let lists : map (λ z. z.items) c.in_ok-zones.zones.items ≡ zones (cost_at i.costs.items) i.plan.workers (tree_of_bodies bodies) =
    c.in_ok-zones.ensures ∙ ap (zones (cost_at costs) workers) tree ∙ ap (λ cs. zones (cost_at cs) workers (tree_of_bodies bodies)) same
    ∙ ap (λ (p : TreePlan). zones (cost_at i.costs.items) p.workers (tree_of_bodies bodies)) c.plan.view_is in
    let read : c.deref.result.now ≡ pulls law (matter_of bodies) (length bodies) (tree_of_bodies bodies) = c.deref.ensures.value ∙ all in
    let sums = c.sum_up-sums.ensures in
    let F : TreePlan → Type 0 = λ p.
    figures i.step c.len-count.result c.extent-size.result.cells c.cost_of.result c.greatest_cost.result c.sum_up-sums.result.met
    (to_z w128 (of_z w128 c.sum_up-sums.result.push_x))
    (to_z w128 (of_z w128 c.sum_up-sums.result.push_y)) (to_z w128 (of_z w128 c.sum_up-sums.result.push_z)) ≡ frame_figures p (cost_at costs) i.step bodies in
    let told = subst F c.plan.view_is
    (same_figures i.step _ _ _ _ _ _ _ _ _ _ _ _ _ _ _ _ c.len-count.ensures.value (c.extent-size.ensures.tree ∙ ap cell_count tree)
    (whole_is (cost_at costs) _ _ c.cost_of.result c.whole.ensures.tree c.cost_of.ensures ∙ ap (λ t. cost_of (cost_at costs) (order t)) tree)
    (c.greatest_cost.ensures ∙ greatest_is (λ z. z.items) c.as_slice-cut.result.now (cost_at costs) workers (tree_of_bodies bodies) cut)
    (sums.met ∙ met_is law bodies c.deref.result.now read)
    (read_again c.sum_up-sums.result.push_x sums.small_x ∙ sums.push_x ∙ push_is (λ p. p.ax) law bodies c.deref.result.now read)
    (read_again c.sum_up-sums.result.push_y sums.small_y ∙ sums.push_y ∙ push_is (λ p. p.ay) law bodies c.deref.result.now read)
    (read_again c.sum_up-sums.result.push_z sums.small_z ∙ sums.push_z ∙ push_is (λ p. p.az) law bodies c.deref.result.now read)) in
    rw (← c.self.view_is) (record {
      figures = told ∙ ap (λ cs. frame_figures i.plan (cost_at cs) i.step bodies) same;
      depth = c.extent-size.ensures.depth ∙ ap depth tree;
      zones = lists;
      pulls = all ∙ ap (λ (p : TreePlan). pulls p.law (matter_of bodies) (length bodies) (tree_of_bodies bodies)) c.plan.view_is;
      shares = subst (AreShares (length bodies)) (sym lists)
          (zones_are_shares (cost_at i.costs.items) i.plan.workers bodies c.len-count.ensures.rule
          (subst (λ (p : TreePlan). HasWorkers p.workers) c.plan.view_is c.plan.invariant)
          (λ n l. (c.self.invariant.cost n 0 (omega (arith, c.self.invariant.one_cost_each))).positive));
      costs = among_costs (length bodies) found c.len-count.ensures.rule.few
          (pulls_count law bodies (tree_of c.octree-tree.result.now) found c.in_ok-pulls.ensures.value) c.in_ok-pulls.ensures.small;
    })
