-- The moments of trees of a scene's bodies have their bounds.
use Rattle.std.proofs.Common.{ℕ, ◌<◌, ◌^◌, ◌≤◌, ◌≡◌, ap, ◌∙◌, arith, subst, sym, inl, inr, List, length, All}
use Rattle.std.proofs.lemmas.Bool.{cases_lt}
use Rattle.std.proofs.lemmas.List.{get_or-map, get_or_past}
use Rattle.std.proofs.lemmas.List.Elements.{All-get_or}
use Rattle.bh_model.proofs.AllBodies.{octree_total_le, sum_numbers, sum_places, sum_upto-most}
use Rattle.bh_model.proofs.Lists.{numbers_once}
use Rattle.bh_model.proofs.Moments.{gathered_same}
use Rattle.bh_model.proofs.Totals.{sum_upto, total-body, total_products}
use Rattle.bh_model.specs.Bodies.{numbers}
use Rattle.bh_model.specs.Moments.{FitsWords, moment, moment_of_body, total}
use Rattle.bh_model.specs.Trees.{Tree, Body, octree}
use Rattle.octant_code.specs.Points.{site_at}
use Rattle.octant_code.specs.Space.{IsInCube, Site, origin}
use Rattle.scene_file.specs.Bodies.{AreBodies, body_at, nobody, sites_of}
use Rattle.scene_file.specs.declared.bodies.Body.{Body as BodyOf}
use Rattle.mass_moments.specs.Filling.{AreProductsInCube}
use Rattle.bh_model.specs.Zones.{IsCost, cost_at}
use Rattle.mass_moments.specs.Kept.{matter_of}

-- the moment of a body of a list
pub moment_listed : (bodies : List BodyOf) (costs : List ℕ) (n : ℕ) (body : BodyOf) → n < length bodies → body ≡ body_at bodies n
    → moment_of_body body.mass body.at (cost_at costs n) ≡ moment (matter_of bodies) (cost_at costs) (Body n)
moment_listed bodies costs n body within is =
    ap (λ (b : BodyOf). moment_of_body b.mass b.at (cost_at costs n)) is
    ∙ ap (λ (s : Site). moment_of_body (body_at bodies n).mass s (cost_at costs n)) (sym (get_or-map (λ (b : BodyOf). b.at) bodies n nobody nobody.at within))
    ∙ gathered_same (λ q. q n) (λ q. total q (Body n)) (matter_of bodies) (cost_at costs) (λ q. sym (total-body q n))

-- each number's point lies in the cube
site_in_cube : (sites : List Site) (n : ℕ) → All IsInCube sites → IsInCube (site_at sites n)
site_in_cube sites n each = elim (cases_lt n (length sites)) [
  | inl within ↦ All-get_or IsInCube sites n origin within each
  | inr past ↦ subst IsInCube (sym (get_or_past sites n origin past)) record { x_fits = omega arith; y_fits = omega arith; z_fits = omega arith }
]

-- so the products of a tree's moment are those of bodies in the cube
pub products_in_cube : (bodies : List BodyOf) (cost : ℕ → ℕ) (t : Tree) → AreBodies bodies → AreProductsInCube (moment (matter_of bodies) cost t)
products_in_cube bodies cost t rule =
    let at : (n : ℕ) → IsInCube (site_at (sites_of bodies) n) = λ n. site_in_cube (sites_of bodies) n rule.in_cube in
    let mass : ℕ → ℕ = λ n. (body_at bodies n).mass in
    record {
      x = total_products mass (λ n. (site_at (sites_of bodies) n).x) 2097151 t (λ n i. omega (arith, (at n).x_fits));
      y = total_products mass (λ n. (site_at (sites_of bodies) n).y) 2097151 t (λ n i. omega (arith, (at n).y_fits));
      z = total_products mass (λ n. (site_at (sites_of bodies) n).z) 2097151 t (λ n i. omega (arith, (at n).z_fits));
    }

-- a total over the octree of the numbers below a number
total_numbers : (q : ℕ → ℕ) (site : ℕ → Site) (n : ℕ) → total q (octree site (numbers n)) ≤ sum_upto q n
total_numbers q site n = omega (arith, octree_total_le q site (numbers n) (numbers_once n), sum_numbers q n)

-- and the sums over the octree of all bodies, with a cost for each, fit the words
pub octree_fits : (bodies : List BodyOf) (costs : List ℕ) (n : ℕ) → AreBodies bodies → n ≡ length bodies → length costs ≡ length bodies → All IsCost costs
    → FitsWords (moment (matter_of bodies) (cost_at costs) (octree (site_at (sites_of bodies)) (numbers n)))
octree_fits bodies costs n rule e same each =
    let site : ℕ → Site = site_at (sites_of bodies) in
    let mass : ℕ → ℕ = λ k. (body_at bodies k).mass in
    let light : total mass (octree site (numbers n)) < 2 ^ 40 =
    omega (arith, total_numbers mass site n, ap (sum_upto mass) e ∙ sum_places (λ (b : BodyOf). b.mass) nobody bodies, rule.total) in
    let inside = products_in_cube bodies (cost_at costs) (octree site (numbers n)) rule in
    let one : (k : ℕ) → k < n → 1 ≤ 1 = λ k l. omega arith in
    let cost : (k : ℕ) → k < n → cost_at costs k ≤ 65536 = λ k l. (All-get_or IsCost costs k 0 (omega arith) each).small in
    record {
      mass = omega (arith, light);
      px = omega (arith, inside.x, light);
      py = omega (arith, inside.y, light);
      pz = omega (arith, inside.z, light);
      bodies = omega (arith, total_numbers (λ k. 1) site n, sum_upto-most (λ k. 1) 1 n one, rule.few);
      cost = omega (arith, total_numbers (cost_at costs) site n, sum_upto-most (cost_at costs) 65536 n cost, rule.few);
    }
