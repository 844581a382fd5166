use Rattle.std.proofs.Common.{◌≡◌, ◌<◌, ◌∙◌, ℕ, List, ap, arith, drop, length, subst, sym}
use Rattle.std.proofs.lemmas.List.{length-map, take_at}
use Rattle.bh_model.specs.Bodies.{IsIn}
use Rattle.bh_model.specs.Trees.{Tree, order}
use Rattle.octree.proofs.Laws.{body_known}
use Rattle.octree.specs.Spot.{tree_below}
use Rattle.octree.specs.Stored.{IsOctreeOf, Stored, tree_of}
use Rattle.scene_file.specs.Bodies.{sites_of}
use Rattle.scene_file.specs.declared.bodies.Body.{Body as BodyOf}
use Rattle.bh_model.specs.Moments.{FitsWords, moment}
use Rattle.mass_moments.proofs.Bounds.{octree_fits}
use Rattle.bh_model.specs.Zones.{cost_at}
use Rattle.mass_moments.specs.Kept.{AreMoments, matter_of}
use Rattle.mass_moments.proofs.sums.moments.Goals as goal

-- each body of the tree is one of the scene's
bodies_within : (bodies : List BodyOf) (o : Stored) (n : ℕ) → IsOctreeOf (sites_of bodies) o → IsIn (order (tree_of o)) n → n < length bodies
bodies_within bodies o n rule i = omega (arith, body_known (sites_of bodies) o n rule i, length-map bodies (λ (b : BodyOf). b.at))

pub fill-requires-clause-bodies_in : goal.fill-requires-clause-bodies_in
fill-requires-clause-bodies_in g c = λ n i.
    bodies_within c.args.bodies.now c.args.tree.now n c.requires.octree (subst (λ (t : Tree). IsIn (order t) n) c.whole.ensures.tree i)

pub returns-clause-costs_of_bodies : goal.returns-clause-costs_of_bodies
returns-clause-costs_of_bodies g c = λ n i. omega (arith, bodies_within c.args.bodies.now c.args.tree.now n c.requires.octree i, c.requires.one_cost_each)

pub fill-requires-clause-fits : goal.fill-requires-clause-fits
fill-requires-clause-fits g c =
    let bodies = c.args.bodies.now in
    let costs = c.args.costs.now in
    subst FitsWords (sym (ap (moment (matter_of bodies) (cost_at costs)) (c.whole.ensures.tree ∙ c.requires.octree.tree)))
    (octree_fits bodies costs (length (sites_of bodies)) c.len-rule.ensures.rule (length-map bodies (λ (b : BodyOf). b.at)) c.requires.one_cost_each
    c.requires.costs)

pub returns-clause-moments : goal.returns-clause-moments
returns-clause-moments g c =
    let o = c.args.tree.now in
    let m = matter_of c.args.bodies.now in
    let cost = cost_at c.args.costs.now in
    let filled = c.fill.new.list in
    let long : c.in-Ok.list.len ≡ length filled = omega
    (arith, c.in-Ok.list.ok.0, c.fill.auto.list, c.deref_mut.ensures.len, ap length c.deref_mut.ensures.value) in
    let used : length filled ≡ o.used = omega (arith, c.in-Ok.ensures.len, long, c.held.ensures.value, c.held.ensures.rule.used_held) in
    subst (AreMoments o m cost) (sym (c.with_centres.ensures ∙ take_at filled (drop (length filled) c.in-Ok.list.items) c.in-Ok.list.len (sym long))) record {
      within = λ d h. omega (arith, c.held.ensures.rule.cells_used d h, used);
      each = λ d h. c.fill.ensures.filled.own d (c.whole.ensures.cells d h) ∙ ap (λ (x : Stored). moment m cost (tree_below x d)) c.whole.ensures.octree;
    }
