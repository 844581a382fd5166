-- The masses of a scene's bodies, as a list by the bodies' numbers.
use Rattle.std.proofs.Common.{ℕ, ◌^◌, ◌<◌, ◌≤◌, ◌≡◌, ◌∙◌, List, get_or, length, map, sum_by, slice_index, ap, sym, subst, arith}
use Rattle.std.proofs.lemmas.List.Elements.{All-get_or}
use Rattle.std.proofs.lemmas.List.Sums.{sum_by-le}
use Rattle.std.proofs.Math.Nat.{mul-le-mul_right}
use Rattle.bh_model.specs.Zones.{IsCost}
use Rattle.std.proofs.lemmas.List.{get_or-map, length-map}
use Rattle.std.specs.List.{All}
use Rattle.octant_code.specs.Space.{Site}
use Rattle.bh_model.proofs.AllBodies.{sum_numbers, sum_places}
use Rattle.bh_model.proofs.Lists.{numbers_once}
use Rattle.bh_model.proofs.Standing.{numbers_within}
use Rattle.bh_model.proofs.Totals.{sum_upto, sum_upto-same}
use Rattle.bh_model.specs.Bodies.{NoneTwice, numbers}
use Rattle.scene_file.specs.Bodies.{AreBodies, body_at, nobody, sites_of}
use Rattle.scene_file.specs.declared.bodies.Body.{Body}

-- no number stands twice
pub all_once : (all : List ℕ) (count : ℕ) → all ≡ numbers count → NoneTwice all
all_once all count e = subst NoneTwice (sym e) (numbers_once count)

-- all are below a number that is the count
pub all_within : (all : List ℕ) (count most : ℕ) → all ≡ numbers count → count ≡ most → All (λ n. n < most) all
all_within all count most e f =
    let P : ℕ → Type 0 = λ m. All (λ n. n < m) (numbers count) in
    let Q : List ℕ → Type 0 = λ xs. All (λ n. n < most) xs in
    subst Q (sym e) (subst P f (numbers_within count))

-- the masses of all bodies are below 2 ^ 40 together
pub masses_light : (bodies : List Body) (masses all : List ℕ) (count : ℕ) → AreBodies bodies → count ≡ length bodies
    → masses ≡ map (λ (b : Body). b.mass) bodies → all ≡ numbers count
    → sum_by (λ j. slice_index masses j) all < 2 ^ 40
masses_light bodies masses all count rule long are e =
    let each : sum_upto (λ j. slice_index masses j) count ≡ sum_upto (λ j. (body_at bodies j).mass) count =
    sum_upto-same (λ j. slice_index masses j) (λ j. (body_at bodies j).mass) count
    (λ k h. ap (λ (xs : List ℕ). slice_index xs k) are ∙ get_or-map (λ (b : Body). b.mass) bodies k nobody 0 (omega arith)) in
    let whole = sum_places (λ (b : Body). b.mass) nobody bodies in
    let listed : sum_by (λ j. slice_index masses j) all ≡ sum_by (λ j. slice_index masses j) (numbers count) = ap
    (λ (xs : List ℕ). sum_by (λ j. slice_index masses j) xs) e in
    let same : sum_upto (λ j. (body_at bodies j).mass) count ≡ sum_upto (λ j. (body_at bodies j).mass) (length bodies) = ap
    (λ n. sum_upto (λ j. (body_at bodies j).mass) n) long in
    omega (arith, listed, sum_numbers (λ j. slice_index masses j) count, each, same, whole, rule.total)

-- there are as many masses and points as bodies
pub masses_count : (bodies : List Body) (masses : List ℕ) → masses ≡ map (λ (b : Body). b.mass) bodies → length masses ≡ length bodies
masses_count bodies masses are = ap length are ∙ length-map bodies (λ (b : Body). b.mass)

pub points_count : (bodies : List Body) (points : List Site) → points ≡ sites_of bodies → length points ≡ length bodies
points_count bodies points are = ap length are ∙ length-map bodies (λ (b : Body). b.at)

-- the costs of at most 65,536 bodies are below 2 ^ 64 together
pub costs_cheap : (costs all : List ℕ) → All IsCost costs → All (λ n. n < length costs) all → length all ≤ 65536
    → sum_by (λ n. slice_index costs n) all < 2 ^ 64
costs_cheap costs all each within few =
    let most = sum_by-le (λ n. slice_index costs n) 65536 all
    (λ k d l. (All-get_or IsCost costs (get_or all k d) 0 (within k d l) each).small) in
    omega (arith, most, mul-le-mul_right 65536 few)
