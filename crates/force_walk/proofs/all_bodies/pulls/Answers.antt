use Rattle.std.proofs.Common.{◌≡◌, ◌∙◌, Global, List, Vec, ℕ, All, ap, arith, get_or, length, map, slice_index, subst, sym}
use Rattle.std.proofs.lemmas.List.{length-map}
use Rattle.bh_model.specs.declared.pull.Pull.{Pull}
use Rattle.mass_moments.specs.Kept.{matter_of}
use Rattle.octree.specs.Stored.{tree_of}
use Rattle.force_walk.specs.Flat.{IsLaid, walked}
use Rattle.force_walk.specs.Placed.{ByPlace, walk_of}
use Rattle.force_walk.specs.Walks.{IsPullAmong}
use Rattle.force_walk.specs.declared.node.WalkNode.{WalkNode}
use Rattle.force_walk.proofs.Cubes.{cube_few, cube_laid}
use Rattle.force_walk.proofs.Scenes.{IsScene, scene_cube, scene_small, scene_walk}
use Rattle.force_walk.proofs.Placements.{all_placed, all_small}
use Rattle.force_walk.proofs.all_bodies.pulls.Goals.{After-len-count, After-as_slice}
use Rattle.force_walk.proofs.all_bodies.pulls.Goals as goal

-- the bodies with their octree
scene : (g : _) (c : After-len-count g) → IsScene c.args.bodies.now c.args.tree.now
scene g c = record { rule = c.len-count.ensures.rule; octree = c.requires.octree }

pub work_zones-requires-clause-table : goal.work_zones-requires-clause-table
work_zones-requires-clause-table g c = λ κs within.
    let cube = scene_cube c.args.bodies.now c.args.tree.now (scene g (goal.at.work_zones-requires-clause-table g c).After-len-count) in
    record {
      rule = c.least_distances-least.ensures.rule;
      laid = subst (λ (l : List WalkNode). All IsLaid l) (sym c.in_ok-table.ensures.nodes)
          (cube_laid c.args.law.now c.least_distances-least.result c.least_distances-least.ensures.least cube);
      few = omega (arith, cube_few c.least_distances-least.result cube, ap length c.in_ok-table.ensures.nodes);
      places = c.in_ok-table.ensures.long;
    }

-- each worker's list has the walks of its zone
listed : (g : _) (c : After-as_slice g)
    → ByPlace (λ (z : Vec ℕ Global) (l : Vec Pull Global). l.items ≡ map (walk_of c.args.law.now (matter_of c.args.bodies.now) c.in_ok-table.table) z.items)
    c.args.zones.now c.as_slice.result.now
listed g c =
    subst (ByPlace (λ (z : Vec ℕ Global) (l : Vec Pull Global). l.items ≡ map
    (walk_of c.args.law.now (matter_of c.args.bodies.now) c.in_ok-table.table) z.items)
    c.args.zones.now) (sym c.as_slice.ensures.value) c.in_ok-lists.ensures

pub place_all-requires-clause-inside : goal.place_all-requires-clause-inside
place_all-requires-clause-inside g c = λ j d l k e m. omega (arith, c.requires.inside j d l k e m, c.len-count.ensures.value)

pub place_all-requires-clause-alike : goal.place_all-requires-clause-alike
place_all-requires-clause-alike g c =
    let told = listed g (goal.at.place_all-requires-clause-alike g c).After-as_slice in (
      told.0,
      (λ i d e l.
          ap length (told.1 i d e l)
          ∙ length-map (get_or c.args.zones.now i d).items (walk_of c.args.law.now (matter_of c.args.bodies.now) c.in_ok-table.table)),
    )

pub returns-clause-value : goal.returns-clause-value
returns-clause-value g c =
    let here = scene g (goal.at.returns-clause-value g c).After-len-count in
    let told = listed g (goal.at.returns-clause-value g c).After-as_slice in
    let walk = walk_of c.args.law.now (matter_of c.args.bodies.now) c.in_ok-table.table in
    all_placed c.args.law.now (matter_of c.args.bodies.now) (length c.args.bodies.now) (tree_of c.args.tree.now) walk c.in_ok-all.all.items
    (c.in_ok-all.ensures.long ∙ c.len-count.ensures.value) (λ n l. c.in_ok-all.ensures.placed walk n told (c.requires.covered n l))
    (λ n l. ap (λ nodes. walked c.args.law.now ((matter_of c.args.bodies.now).site n) (slice_index c.in_ok-table.table.places.items n) 0 nodes 0)
    c.in_ok-table.ensures.nodes
    ∙ scene_walk c.args.law.now c.args.bodies.now c.args.tree.now c.least_distances-least.result c.in_ok-table.table.places.items n here
    c.least_distances-least.ensures.least c.in_ok-table.ensures.places l)

pub returns-clause-small : goal.returns-clause-small
returns-clause-small g c =
    let here = scene g (goal.at.returns-clause-small g c).After-len-count in
    all_small (IsPullAmong (length c.args.bodies.now)) c.args.law.now (matter_of c.args.bodies.now) (length c.args.bodies.now) (tree_of c.args.tree.now)
    c.in_ok-all.all.items (returns-clause-value g c)
    (λ n l. scene_small c.args.law.now c.args.bodies.now c.args.tree.now n c.least_distances-least.ensures.rule here l)
