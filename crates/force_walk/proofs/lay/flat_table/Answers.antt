use Rattle.std.proofs.Common.{List, ℕ, ◌++◌, ◌≤◌, ◌≡◌, ◌∙◌, All, ap, arith, length, subst, sym}
use Rattle.bh_model.specs.Trees.{Tree}
use Rattle.mass_moments.specs.Kept.{matter_of}
use Rattle.octree.specs.Spot.{tree_under}
use Rattle.force_walk.specs.Cubes.{IsTreeOfCube}
use Rattle.force_walk.specs.Flat.{owners}
use Rattle.force_walk.proofs.Cubes.{cube_few}
use Rattle.force_walk.proofs.Flats.{owners_long}
use Rattle.force_walk.proofs.Layings.{owners_known}
use Rattle.force_walk.proofs.Scenes.{scene_cube}
use Rattle.force_walk.proofs.lay.flat_table.Goals.{After-len-2, After-whole}
use Rattle.force_walk.proofs.lay.flat_table.Goals as goal

-- the tree is that of the whole cube
cube : (g : _) (c : After-whole g) → IsTreeOfCube (matter_of c.args.bodies.now) (length c.args.bodies.now) 21 (tree_under c.whole.result)
cube g c =
    subst (λ (t : Tree). IsTreeOfCube (matter_of c.args.bodies.now) (length c.args.bodies.now) 21 t) (sym c.whole.ensures.tree)
    (scene_cube c.args.bodies.now c.args.tree.now (record { rule = c.len.ensures.rule; octree = c.requires.octree }))

pub lay-requires-clause-cube : goal.lay-requires-clause-cube
lay-requires-clause-cube g c = cube g (goal.at.lay-requires-clause-cube g c).After-whole

-- the owners are those of the octree
owned : (g : _) (c : After-len-2 g) → c.as_slice-2.result.now ≡ owners (tree_under c.whole.result)
owned g c =
    c.as_slice-2.ensures.value ∙ c.in_ok-lay.ensures.owners_are
    ∙ ap (λ l. l ++ owners (tree_under c.whole.result)) c.in_ok-with_capacity-2.ensures.items

pub places_of-requires-clause-few : goal.places_of-requires-clause-few
places_of-requires-clause-few g c =
    omega (
      arith,
      ap length (owned g c),
      owners_long (matter_of c.args.bodies.now) c.args.least.now 21 (tree_under c.whole.result),
      cube_few c.args.least.now (cube g (goal.at.places_of-requires-clause-few g c).After-whole),
    )

pub places_of-requires-clause-known : goal.places_of-requires-clause-known
places_of-requires-clause-known g c =
    subst (λ (l : List ℕ). All (λ o. o ≤ c.len-2.result) l) (sym (owned g c))
    (subst (λ (n : ℕ). All (λ o. o ≤ n) (owners (tree_under c.whole.result))) (sym c.len-2.ensures.value)
    (owners_known (length c.args.bodies.now) 21 (tree_under c.whole.result) (cube g (goal.at.places_of-requires-clause-known g c).After-whole).stands))
