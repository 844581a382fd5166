-- What the flat table of the canonical octree of a scene's bodies is good for.
use Rattle.std.proofs.Common.{ℕ, suc, ◌+◌, ◌-◌, ◌*◌, ◌^◌, ◌<◌, ◌≡◌, List, [], length, sym, ap, ◌∙◌, subst, arith, inl, inr, append-nil, slice_index, sum_by}
use Rattle.std.proofs.lemmas.Bool.{cases_lt}
use Rattle.std.proofs.lemmas.List.{length-map}
use Rattle.octant_code.specs.Points.{ArePoints, site_at}
use Rattle.octant_code.specs.Space.{Site, origin}
use Rattle.octant_code.proofs.Distances.{squared_distance-positive}
use Rattle.octant_code.proofs.Keys.{key-zero}
use Rattle.bh_model.specs.Bodies.{IsIn, numbers}
use Rattle.bh_model.specs.Moments.{Matter, mass_of, total}
use Rattle.bh_model.specs.Pulls.{IsPullLaw, PullLaw, add_pull, pull}
use Rattle.bh_model.specs.Trees.{Tree, order}
use Rattle.bh_model.proofs.AllBodies.{sum_numbers, sum_places}
use Rattle.bh_model.proofs.PullBounds.{StandsApart, pull_among, pull_fits, small_more}
use Rattle.bh_model.proofs.Cells.{placed_of_points, under_root}
use Rattle.bh_model.proofs.Lists.{in_numbers, numbers_once}
use Rattle.bh_model.proofs.Orders.{order_members}
use Rattle.bh_model.proofs.Standing.{count_numbers, numbers_within, stands_of_all, total_of_all}
use Rattle.bh_model.specs.Standing.{Stands}
use Rattle.mass_moments.specs.Kept.{matter_of}
use Rattle.octree.specs.Stored.{IsOctreeOf, Stored, tree_of}
use Rattle.scene_file.specs.Bodies.{AreBodies, nobody, sites_of, total_mass}
use Rattle.scene_file.specs.declared.bodies.Body.{Body}
use Rattle.force_walk.specs.Cubes.{IsTreeOfCube}
use Rattle.force_walk.specs.Flat.{AreFound, flat, owners, walked}
use Rattle.force_walk.specs.Least.{AreLeast}
use Rattle.force_walk.specs.Walks.{IsPullAmong}
use Rattle.force_walk.specs.declared.node.WalkNode.{WalkNode}
use Rattle.force_walk.proofs.Flats.{walked_flat}
use Rattle.force_walk.proofs.Places.{Lies, Sees, has_node, lies_of_list}
use Rattle.force_walk.proofs.Walks.{add_to_none, walked_end}

-- the bodies of a scene with points in the cube, and the words of their canonical octree
pub record IsScene (bodies : List Body) (o : Stored) : Type 0 where
  pub rule : AreBodies bodies
  pub octree : IsOctreeOf (sites_of bodies) o

abbrev sites_long : (bodies : List Body) → length (sites_of bodies) ≡ length bodies
sites_long bodies = length-map bodies (λ (b : Body). b.at)

points_of : (bodies : List Body) (o : Stored) → IsScene bodies o → ArePoints (sites_of bodies)
points_of bodies o scene =
    let long = sites_long bodies in record { few = omega (arith, scene.rule.few); apart = scene.rule.apart; in_cube = scene.rule.in_cube }

-- each cell has a cube to divide and two bodies
scene_stands : (bodies : List Body) (o : Stored) → IsScene bodies o → Stands (length bodies) 21 (tree_of o)
scene_stands bodies o scene =
    subst (λ (n : ℕ). Stands n 21 (tree_of o)) (sites_long bodies)
    (subst (λ (t : Tree). Stands (length (sites_of bodies)) 21 t) (sym scene.octree.tree) (stands_of_all (sites_of bodies) (points_of bodies o scene)))

scene_total : (bodies : List Body) (o : Stored) (q : ℕ → ℕ) → IsScene bodies o → total q (tree_of o) ≡ sum_by q (numbers (length bodies))
scene_total bodies o q scene =
    ap (total q) scene.octree.tree ∙ total_of_all q (sites_of bodies) (points_of bodies o scene) ∙ ap (λ n. sum_by q (numbers n)) (sites_long bodies)

scene_count : (bodies : List Body) (o : Stored) → IsScene bodies o → total (λ n. 1) (tree_of o) ≡ length bodies
scene_count bodies o scene = scene_total bodies o (λ n. 1) scene ∙ count_numbers (length bodies)

-- the mass of all places
places_mass : (bodies : List Body) → sum_by (matter_of bodies).mass (numbers (length bodies)) ≡ total_mass bodies
places_mass bodies = sum_numbers (matter_of bodies).mass (length bodies) ∙ sum_places (λ (b : Body). b.mass) nobody bodies

scene_mass : (bodies : List Body) (o : Stored) → IsScene bodies o → mass_of (matter_of bodies) (tree_of o) ≡ total_mass bodies
scene_mass bodies o scene = scene_total bodies o (matter_of bodies).mass scene ∙ places_mass bodies

-- the other bodies stand apart from each
pub bodies_apart : (bodies : List Body) (n : ℕ) → AreBodies bodies → n < length bodies → StandsApart (matter_of bodies) (length bodies) n
bodies_apart bodies n rule within =
    let long = sites_long bodies in
    let site : ℕ → Site = site_at (sites_of bodies) in
    record {
      apart = λ j small other. squared_distance-positive (site n) (site j) (λ (same : site n ≡ site j).
          elim (cases_lt j n) [
            | inl before ↦ rule.apart j n before (omega arith) (sym same)
            | inr behind ↦ rule.apart n j (elim (cases_lt n j) [ inl l ↦ l | inr g ↦ absurd (other (omega arith)) ]) (omega arith) same
          ]);
    }

-- the tree is that of the whole cube
pub scene_cube : (bodies : List Body) (o : Stored) → IsScene bodies o → IsTreeOfCube (matter_of bodies) (length bodies) 21 (tree_of o)
scene_cube bodies o scene = record {
  stands = scene_stands bodies o scene;
  shallow = omega arith;
  heavy = λ n l. scene.rule.massive n nobody l;
  light = omega (arith, scene_mass bodies o scene, scene.rule.total);
  few = omega (arith, scene_count bodies o scene, scene.rule.few);
}

-- each body's point lies in the cube that has the body's place in the tree
scene_lies : (bodies : List Body) (o : Stored) → IsScene bodies o → Lies (matter_of bodies).site 0 1 (tree_of o)
scene_lies bodies o scene =
    subst (Lies (matter_of bodies).site 0 1) (sym scene.octree.tree)
    (lies_of_list (site_at (sites_of bodies)) 21 0 1 (numbers (length (sites_of bodies))) (under_root (site_at (sites_of bodies)) _))

-- each body has a node in the table
scene_owner : (bodies : List Body) (o : Stored) (n : ℕ) → IsScene bodies o → n < length bodies → IsIn (owners (tree_of o)) (suc n)
scene_owner bodies o n scene within =
    let sites : List Site = sites_of bodies in
    let placed = placed_of_points sites (numbers (length sites)) (points_of bodies o scene) (numbers_within (length sites)) in
    has_node (tree_of o) n
    (subst (λ (t : Tree). IsIn (order t) n) (sym scene.octree.tree)
    ((order_members (site_at sites) (numbers (length sites)) n (numbers_once (length sites)) placed).1
    ((in_numbers (length sites) n).1 (omega (arith, sites_long bodies)))))

-- a body's walk over the table is its pull
pub scene_walk : (law : PullLaw) (bodies : List Body) (o : Stored) (least places : List ℕ) (n : ℕ) → IsScene bodies o → AreLeast law least
    → AreFound (owners (tree_of o)) places → n < length bodies
    → walked law ((matter_of bodies).site n) (slice_index places n) 0 (flat (matter_of bodies) least 21 (tree_of o)) 0
    ≡ pull law (matter_of bodies) n (tree_of o)
scene_walk law bodies o least places n scene is found within =
    let m : Matter = matter_of bodies in
    let nodes : List WalkNode = flat m least 21 (tree_of o) in
    let place : ℕ = slice_index places n in
    let sees : Sees m.site (tree_of o) n place 0 0 1 = record {
      inside = λ _. record { offset = place; is = omega arith; own = found n (scene_owner bodies o n scene within) };
      outside = λ other. absurd (other (key-zero (m.site n)));
    } in
    ap (λ l. walked law (m.site n) place 0 l 0) (sym (append-nil nodes))
    ∙ walked_flat law m least (length bodies) n place is (bodies_apart bodies n scene.rule within) (λ k l. scene.rule.massive k nobody l)
    (λ k l. scene.rule.in_cube k origin (omega (arith, sites_long bodies))) within 21 1 0 (tree_of o) [] (omega arith) (scene_stands bodies o scene)
    (scene_lies bodies o scene) sees
    ∙ ap (add_pull (pull law m n (tree_of o))) (walked_end law (m.site n) place (0 + length (owners (tree_of o))))
    ∙ add_to_none (pull law m n (tree_of o))

-- a pull of a scene is small
pub scene_small : (law : PullLaw) (bodies : List Body) (o : Stored) (n : ℕ) → IsPullLaw law → IsScene bodies o → n < length bodies
    → IsPullAmong (length bodies) (pull law (matter_of bodies) n (tree_of o))
scene_small law bodies o n rule scene within =
    let m : Matter = matter_of bodies in
    let sites : List Site = sites_of bodies in
    let long : length sites ≡ length bodies = sites_long bodies in
    let mass : sum_by m.mass (numbers (length sites)) ≡ total_mass bodies = ap (λ k. sum_by m.mass (numbers k)) long ∙ places_mass bodies in
    let apart : StandsApart m (length sites) n = subst (λ (k : ℕ). StandsApart m k n) (sym long) (bodies_apart bodies n scene.rule within) in
    let among = pull_among law m sites n (points_of bodies o scene) apart (omega arith) in
    let fits = pull_fits law.g (total_mass bodies) rule.g_fits scene.rule.total in
    let here = small_more _ _ (2 ^ 80 - 1) (length bodies - 1) _ (omega (arith, ap (λ w. law.g * w) mass)) (omega arith) among in
    subst (λ (t : Tree). IsPullAmong (length bodies) (pull law m n t)) (sym scene.octree.tree) here
