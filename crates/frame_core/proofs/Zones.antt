-- The zones of the bodies' octree: which bodies they have, and what they cost.
use Rattle.std.proofs.Common.{◌≡◌, ◌<◌, ◌≤◌, ℕ, zero, suc, List, [], ◌∷◌, length, map, get_or, refl, sym, ◌∙◌, ap, subst, arith, All, Contains}
use Rattle.std.specs.List.{Any}
use Rattle.std.proofs.lemmas.List.{get_or-map, length-map}
use Rattle.octant_code.specs.Points.{ArePoints, site_at}
use Rattle.bh_model.proofs.Cells.{ArePlaced, placed_of_points}
use Rattle.bh_model.proofs.Lists.{in_numbers, numbers_once}
use Rattle.bh_model.proofs.Orders.{numbers_in_order, order_has_none_twice, order_members}
use Rattle.bh_model.proofs.ZoneCuts.{one_zone, zone_from-cost, zone_from-member}
use Rattle.bh_model.specs.Bodies.{IsIn, numbers}
use Rattle.bh_model.specs.Trees.{Tree, greatest, octree, order}
use Rattle.bh_model.specs.Zones.{IsInOneZone, cost_of, greatest_cost, zone, zones}
use Rattle.octree.specs.Stored.{IsOctreeOf, Stored, tree_of}
use Rattle.scene_file.specs.Bodies.{AreBodies, sites_of}
use Rattle.scene_file.specs.declared.bodies.Body.{Body}
use Rattle.frame_core.specs.Frames.{tree_of_bodies}
use Rattle.frame_core.proofs.Rows.{contains_member, in_at, length-values, value_at_place}
use Rattle.bh_model.proofs.Standing.{length_numbers, number_at_place}

-- ---- the bodies of the octree

-- there is a point for each body
pub sites_count : (bodies : List Body) → length (sites_of bodies) ≡ length bodies
sites_count bodies = length-map bodies (λ (b : Body). b.at)

-- the canonical octree of the points is the tree of the bodies
pub tree_is : (bodies : List Body) (o : Stored) → IsOctreeOf (sites_of bodies) o → tree_of o ≡ tree_of_bodies bodies
tree_is bodies o h = h.tree ∙ ap (λ k. octree (site_at (sites_of bodies)) (numbers k)) (sites_count bodies)

-- it has the scene's bodies alone
pub body_within : (bodies : List Body) (o : Stored) (n : ℕ) → IsOctreeOf (sites_of bodies) o → IsIn (order (tree_of o)) n → n < length bodies
body_within bodies o n h i =
    omega (
      arith,
      numbers_in_order (site_at (sites_of bodies)) (length (sites_of bodies)) n (subst (λ (t : Tree). IsIn (order t) n) h.tree i),
      sites_count bodies,
    )

-- all bodies are placed in the cube
placed : (bodies : List Body) → AreBodies bodies → ArePlaced (site_at (sites_of bodies)) (numbers (length bodies))
placed bodies rule =
    let points : ArePoints (sites_of bodies) = record { few = omega (arith, sites_count bodies, rule.few); apart = rule.apart; in_cube = rule.in_cube } in
    let P : ℕ → Type 0 = λ y. y < length (sites_of bodies) in
    placed_of_points (sites_of bodies) (numbers (length bodies)) points
    (λ k d l. subst P (sym (number_at_place (length bodies) k d (omega (arith, length_numbers (length bodies), l))))
    (omega (arith, length_numbers (length bodies), l, sites_count bodies)))

-- each body is in the order of the tree
pub in_tree : (bodies : List Body) (n : ℕ) → AreBodies bodies → n < length bodies → IsIn (order (tree_of_bodies bodies)) n
in_tree bodies n rule l =
    (order_members (site_at (sites_of bodies)) (numbers (length bodies)) n (numbers_once (length bodies)) (placed bodies rule)).1
    ((in_numbers (length bodies) n).1 l)

-- and nothing else
pub from_tree : (bodies : List Body) (n : ℕ) → AreBodies bodies → IsIn (order (tree_of_bodies bodies)) n → n < length bodies
from_tree bodies n rule i =
    (in_numbers (length bodies) n).0
    ((order_members (site_at (sites_of bodies)) (numbers (length bodies)) n (numbers_once (length bodies)) (placed bodies rule)).0 i)

-- ---- zones in a list of lists

-- there is a zone for each worker
pub zones_count : {X : Type 0} (its : X → List ℕ) (zs : List X) (cost : ℕ → ℕ) (workers : ℕ) (tree : Tree) → map its zs ≡ zones cost workers tree
    → length zs ≡ workers
zones_count its zs cost workers tree e = sym (length-map zs its) ∙ ap length e ∙ length-values (λ w. zone cost workers w tree) workers

-- which stands at its number
pub zone_is : {X : Type 0} (its : X → List ℕ) (zs : List X) (cost : ℕ → ℕ) (workers : ℕ) (tree : Tree) (w : ℕ) (d : X) → map its zs ≡ zones cost workers tree
    → w < length zs
    → its (get_or zs w d) ≡ zone cost workers w tree
zone_is its zs cost workers tree w d e l =
    sym (get_or-map its zs w d [] l) ∙ ap (λ y. get_or y w []) e
    ∙ value_at_place (λ w. zone cost workers w tree) workers w [] (omega (arith, zones_count its zs cost workers tree e))

-- zones have bodies alone
pub zones_inside : {X : Type 0} (its : X → List ℕ) (zs : List X) (cost : ℕ → ℕ) (workers : ℕ) (bodies : List Body) → AreBodies bodies
    → map its zs ≡ zones cost workers (tree_of_bodies bodies) → All (λ z. All (λ n. n < length bodies) (its z)) zs
zones_inside its zs cost workers bodies rule e w d l k c m =
    let tree : Tree = tree_of_bodies bodies in
    let n : ℕ = get_or (its (get_or zs w d)) k c in
    let there : IsIn (zone cost workers w tree) n = subst (λ (y : List ℕ). IsIn y n) (zone_is its zs cost workers tree w d e l)
    (in_at (its (get_or zs w d)) k c m) in
    from_tree bodies n rule (zone_from-member cost workers (cost_of cost (order tree)) 0 (order tree) w n there)

-- what stands at a place of a list
some_at : {X : Type 0} (xs : List X) (k : ℕ) → k < length xs → (x : X) × (get_or xs k x ≡ x)
some_at [] k l = absurd (omega arith)
some_at (x ∷ xs) zero l = (x, refl)
some_at (x ∷ xs) (suc k) l = some_at xs k (omega arith)

-- and each body is in one
pub zones_cover : {X : Type 0} (its : X → List ℕ) (zs : List X) (cost : ℕ → ℕ) (workers : ℕ) (bodies : List Body) → AreBodies bodies
    → map its zs ≡ zones cost workers (tree_of_bodies bodies) → 1 ≤ workers → ((n : ℕ) → n < length bodies → 1 ≤ cost n)
    → (n : ℕ) → n < length bodies → Any (λ z. Contains (its z) n) zs
zones_cover its zs cost workers bodies rule e some positive n l =
    let tree : Tree = tree_of_bodies bodies in
    let o : IsInOneZone cost workers tree n =
    one_zone cost workers tree n (order_has_none_twice (site_at (sites_of bodies)) (numbers (length bodies))) (in_tree bodies n rule l) (positive n l) some in
    let within : o.own < length zs = omega (arith, zones_count its zs cost workers tree e, o.is_worker) in
    let x = some_at zs o.own within in
    let is : its x.0 ≡ zone cost workers o.own tree = ap its (sym x.1) ∙ zone_is its zs cost workers tree o.own x.0 e within in
    (o.own, x.0, within, x.1, contains_member (its x.0) n (subst (λ (y : List ℕ). IsIn y n) (sym is) o.inside))

-- ---- costs of zones

-- no zone costs more than all bodies
pub zones_fit : {X : Type 0} (its : X → List ℕ) (zs : List X) (cost : ℕ → ℕ) (workers : ℕ) (tree : Tree) (bound : ℕ) → map its zs ≡ zones cost workers tree
    → cost_of cost (order tree) < bound → All (λ z. cost_of cost (its z) < bound) zs
zones_fit its zs cost workers tree bound e small w d l =
    let less : cost_of cost (zone cost workers w tree) ≤ cost_of cost (order tree) = zone_from-cost cost workers (cost_of cost (order tree)) 0 (order tree) w in
    let P : List ℕ → Type 0 = λ y. cost_of cost y < bound in
    subst P (sym (zone_is its zs cost workers tree w d e l)) (omega (arith, less, small))

-- two maps in turn
map_twice : {X Y Z : Type 0} (f : X → Y) (g : Y → Z) (xs : List X) → map (λ x. g (f x)) xs ≡ map g (map f xs)
map_twice f g [] = refl
map_twice f g (x ∷ xs) = ap (λ y. g (f x) ∷ y) (map_twice f g xs)

-- the greatest cost of the lists is that of the zones
pub greatest_is : {X : Type 0} (its : X → List ℕ) (zs : List X) (cost : ℕ → ℕ) (workers : ℕ) (tree : Tree) → map its zs ≡ zones cost workers tree
    → greatest (map (λ z. cost_of cost (its z)) zs) ≡ greatest_cost cost workers tree
greatest_is its zs cost workers tree e =
    ap greatest (map_twice its (cost_of cost) zs ∙ ap (map (cost_of cost)) e ∙ sym (map_twice (λ w. zone cost workers w tree) (cost_of cost) (numbers workers)))

-- zones of the octree are those of the bodies' tree, in whatever list they stand
pub zones_of : {X : Type 0} (its : X → List ℕ) (zs cut : List X) (cost : ℕ → ℕ) (workers : ℕ) (bodies : List Body) (o : Stored)
    → IsOctreeOf (sites_of bodies) o → zs ≡ cut
    → map its cut ≡ zones cost workers (tree_of o) → map its zs ≡ zones cost workers (tree_of_bodies bodies)
zones_of its zs cut cost workers bodies o h same e = ap (map its) same ∙ e ∙ ap (zones cost workers) (tree_is bodies o h)
