-- The centre of mass of bodies in the cube lies in the cube.
use Rattle.std.proofs.Common.{ℕ, ◌-◌, ◌*◌, ◌/◌, ◌^◌, ◌<◌, ◌≤◌, arith}
use Rattle.std.proofs.lemmas.Nat.{div-add-mod', mul-le}
use Rattle.octant_code.specs.Space.{IsInCube, Site, squared_distance}
use Rattle.octant_code.proofs.Distances.{squared_distance-small}
use Rattle.bh_model.specs.Moments.{Matter, centre, mass_of, total}
use Rattle.bh_model.specs.Standing.{Stands}
use Rattle.bh_model.specs.Trees.{Body, Cell, Empty, Tree}
use Rattle.force_walk.proofs.Quotients.{factor-out}

-- the masses times a coordinate come to less than the mass times the side
products_within : (mass x : ℕ → ℕ) (most : ℕ) → ((n : ℕ) → n < most → x n < 2 ^ 21) → (down : ℕ) (t : Tree) → Stands most down t
    → total (λ n. mass n * x n) t ≤ total mass t * (2 ^ 21 - 1)
unfolding total Stands
products_within mass x most inside down Empty stands = omega arith
products_within mass x most inside down (Body n) stands =
    mul-le (mass n) (x n) (mass n) (2 ^ 21 - 1) (omega arith) (omega (arith, inside n stands))
products_within mass x most inside down (Cell a b c d e f g h) stands =
    omega (
      arith,
      products_within mass x most inside (down - 1) a stands.2,
      products_within mass x most inside (down - 1) b stands.3,
      products_within mass x most inside (down - 1) c stands.4,
      products_within mass x most inside (down - 1) d stands.5,
      products_within mass x most inside (down - 1) e stands.6,
      products_within mass x most inside (down - 1) f stands.7,
      products_within mass x most inside (down - 1) g stands.8,
      products_within mass x most inside (down - 1) h stands.9,
    )

-- and so their quotient is less than the side
quotient_within : (p mass : ℕ) → 0 < mass → p ≤ mass * (2 ^ 21 - 1) → p / mass < 2 ^ 21
quotient_within p mass some h = factor-out (p / mass) (2 ^ 21) mass (omega (arith, div-add-mod' p mass))

-- a point of the cube is nearer to the centre than any distance
pub centre_near : (m : Matter) (most : ℕ) → ((n : ℕ) → n < most → IsInCube (m.site n)) → (down : ℕ) (t : Tree) (from : Site) → Stands most down t
    → 0 < mass_of m t → IsInCube from → squared_distance from (centre m t) < 2 ^ 44
centre_near m most inside down t from stands some here =
    squared_distance-small from (centre m t) here
    (record {
      x_fits = quotient_within _ _ some (products_within m.mass (λ n. (m.site n).x) most (λ n l. (inside n l).x_fits) down t stands);
      y_fits = quotient_within _ _ some (products_within m.mass (λ n. (m.site n).y) most (λ n l. (inside n l).y_fits) down t stands);
      z_fits = quotient_within _ _ some (products_within m.mass (λ n. (m.site n).z) most (λ n l. (inside n l).z_fits) down t stands);
    })
