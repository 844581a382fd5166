-- How large squared distances are, and when they are 0.
use Rattle.std.proofs.Common.{ℕ, ◌+◌, ◌*◌, ◌-◌, ◌^◌, ◌<◌, ◌≤◌, ◌≡◌, ◌≢◌, refl, arith, inl, inr}
use Rattle.std.specs.Int.{abs_diff}
use Rattle.std.proofs.lemmas.Bool.{cases_lt}
use Rattle.std.proofs.lemmas.Nat.{mul-le}
use Rattle.octant_code.specs.Space.{Site, IsInCube, squared_gap, squared_distance}
use Rattle.octant_code.proofs.InCube.{site_parts}
use Rattle.octant_code.proofs.Roots.{square_ge}

-- what a squared distance is made of
pub squared_distance-parts : (s t : Site)
    → squared_distance s t ≡ abs_diff s.x t.x * abs_diff s.x t.x + abs_diff s.y t.y * abs_diff s.y t.y + abs_diff s.z t.z * abs_diff s.z t.z
unfolding squared_distance squared_gap
squared_distance-parts s t = refl

square_small : (d : ℕ) → d < 2 ^ 21 → d * d < 2 ^ 42
square_small d h =
    let m : d * d ≤ (2 ^ 21 - 1) * (2 ^ 21 - 1) = mul-le d d (2 ^ 21 - 1) (2 ^ 21 - 1) (omega arith) (omega arith) in
    omega arith

-- the squares of three differences of coordinates
pub squares_small : (a b c : ℕ) → a < 2 ^ 21 → b < 2 ^ 21 → c < 2 ^ 21 → a * a + b * b + c * c < 2 ^ 44
squares_small a b c p q r = omega (arith, square_small a p, square_small b q, square_small c r)

-- points of the cube are less than 2 ^ 22 apart
pub squared_distance-small : (s t : Site) → IsInCube s → IsInCube t → squared_distance s t < 2 ^ 44
squared_distance-small s t p q =
    omega (
      arith,
      squared_distance-parts s t,
      squares_small (abs_diff s.x t.x) (abs_diff s.y t.y) (abs_diff s.z t.z) (omega (arith, p.x_fits, q.x_fits)) (omega (arith, p.y_fits, q.y_fits))
          (omega (arith, p.z_fits, q.z_fits)),
    )

-- each difference of coordinates is at most the squared distance
pub record GapsWithin (s t : Site) (d2 : ℕ) : Type 0 where
  pub x : abs_diff s.x t.x ≤ d2
  pub y : abs_diff s.y t.y ≤ d2
  pub z : abs_diff s.z t.z ≤ d2

pub gaps_within : (s t : Site) → GapsWithin s t (squared_distance s t)
gaps_within s t =
    let e = squared_distance-parts s t in
    record {
      x = omega (arith, e, square_ge (abs_diff s.x t.x));
      y = omega (arith, e, square_ge (abs_diff s.y t.y));
      z = omega (arith, e, square_ge (abs_diff s.z t.z));
    }

-- points that differ are apart
pub squared_distance-positive : (s t : Site) → s ≢ t → 0 < squared_distance s t
squared_distance-positive s t differ =
    elim (cases_lt 0 (squared_distance s t)) [
      | inl p ↦ p
      | inr z ↦ (let g = gaps_within s t in
          absurd (differ (site_parts s.x s.y s.z t.x t.y t.z (omega (arith, g.x)) (omega (arith, g.y)) (omega (arith, g.z)))))
    ]
