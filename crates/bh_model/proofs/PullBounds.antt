-- How large pulls are: sums of terms, and the pull of a tree by its mass and the number of its bodies.
use Rattle.std.proofs.Common.{◌≡◌, ◌≢◌, ◌≤◌, ◌<◌, ◌+◌, ◌-◌, ◌*◌, ◌^◌, inl, inr, ℕ, ℤ, pos, ◌+ℤ◌, zero, suc, ltb, ◌&&◌, eqb, not, true, false, Bool, refl, ap}
use Rattle.std.proofs.Common.{◌∙◌, arith, List, length, slice_index, sum_by, sym}
use Rattle.std.proofs.Math.Nat.{mul-zero}
use Rattle.std.proofs.lemmas.Bool.{cases_Bool, cases_lt, false≢true}
use Rattle.std.proofs.lemmas.Bool.Decides.{eqb_tells, nat_tests}
use Rattle.std.proofs.lemmas.Int.{ints}
use Rattle.std.proofs.lemmas.Nat.{mul-le}
use borrow.Author.Tests.{ltb-true}
use Rattle.octant_code.proofs.Distances.{squared_distance-positive}
use Rattle.octant_code.specs.Points.{site_at, ArePoints}
use Rattle.octant_code.specs.Space.{Site, key_of, squared_distance}
use Rattle.bh_model.specs.Bodies.{numbers}
use Rattle.bh_model.specs.Trees.{Tree, Empty, Body, Cell, octree}
use Rattle.bh_model.specs.Moments.{Matter, centre, mass_of, matter_by, total}
use Rattle.bh_model.specs.Pulls.{IsSmall, IsWithin, PullLaw, add_pull, is_far, is_whole, no_pull, pull, pull_from, sum_of_eight, term}
use Rattle.bh_model.specs.declared.pull.Pull.{Pull}
use Rattle.bh_model.proofs.Standing.{count_numbers, count_own, is_other, is_own, stands_of_all, total_of_all, total_own_other}
use Rattle.bh_model.specs.Standing.{Stands}
use Rattle.bh_model.proofs.Terms.{term-small}

-- ---- sums of pulls

within_add : (a b : ℕ) (x y : ℤ) → IsWithin a x → IsWithin b y → IsWithin (a + b) (x +ℤ y)
within_add a b x y p q = record { low = omega (arith, ints); high = omega (arith, ints) }

within_more : (a b : ℕ) (x : ℤ) → a ≤ b → IsWithin a x → IsWithin b x
within_more a b x h p = record { low = omega (arith, ints); high = omega (arith, ints) }

within_zero : (b : ℕ) → IsWithin b (pos 0)
within_zero b = record { low = omega (arith, ints); high = omega (arith, ints) }

-- no pull is small
pub small_none : (b c : ℕ) → IsSmall b c no_pull
small_none b c = record { x = within_zero b; y = within_zero b; z = within_zero b; met = omega arith }

-- the bounds of pulls add up
pub small_add : (b c b' c' : ℕ) (p q : Pull) → IsSmall b c p → IsSmall b' c' q → IsSmall (b + b') (c + c') (add_pull p q)
small_add b c b' c' p q h k = record {
  x = within_add b b' p.ax q.ax h.x k.x;
  y = within_add b b' p.ay q.ay h.y k.y;
  z = within_add b b' p.az q.az h.z k.z;
  met = omega (arith, h.met, k.met);
}

-- a pull within bounds is within greater ones
pub small_more : (b c b' c' : ℕ) (p : Pull) → b ≤ b' → c ≤ c' → IsSmall b c p → IsSmall b' c' p
small_more b c b' c' p i j h = record {
  x = within_more b b' p.ax i h.x;
  y = within_more b b' p.ay i h.y;
  z = within_more b b' p.az i h.z;
  met = omega (arith, h.met);
}

-- ---- the pull of each kind of tree

pub pull-empty : (law : PullLaw) (m : Matter) (n down key : ℕ) → pull_from law m n down key Empty ≡ no_pull
unfolding pull_from
pull-empty law m n down key = refl

pub pull-own : (law : PullLaw) (m : Matter) (n down key j : ℕ) → j ≡ n → pull_from law m n down key (Body j) ≡ no_pull
unfolding pull_from
pull-own law m n down key j h = let test : eqb j n ≡ true = grind (arith, nat_tests) in rw test

pub pull-other : (law : PullLaw) (m : Matter) (n down key j : ℕ) → j ≢ n → pull_from law m n down key (Body j) ≡ term law (m.mass j) (m.site n) (m.site j)
unfolding pull_from
pull-other law m n down key j h = let test : eqb j n ≡ false = grind (arith, nat_tests) in rw test

pub pull-whole : (law : PullLaw) (m : Matter) (n down key : ℕ) (a b c d e f g h : Tree)
    → is_whole law down key (m.site n) (centre m (Cell a b c d e f g h)) ≡ true
    → pull_from law m n down key (Cell a b c d e f g h) ≡ term law (mass_of m (Cell a b c d e f g h)) (m.site n) (centre m (Cell a b c d e f g h))
unfolding pull_from
pull-whole law m n down key a b c d e f g h test = rw test

pub pull-opened : (law : PullLaw) (m : Matter) (n down key : ℕ) (a b c d e f g h : Tree)
    → is_whole law down key (m.site n) (centre m (Cell a b c d e f g h)) ≡ false
    → pull_from law m n down key (Cell a b c d e f g h)
    ≡ sum_of_eight (pull_from law m n (down - 1) (8 * key + 0) a) (pull_from law m n (down - 1) (8 * key + 1) b) (pull_from law m n (down - 1) (8 * key + 2) c)
    (pull_from law m n (down - 1) (8 * key + 3) d) (pull_from law m n (down - 1) (8 * key + 4) e) (pull_from law m n (down - 1) (8 * key + 5) f)
    (pull_from law m n (down - 1) (8 * key + 6) g) (pull_from law m n (down - 1) (8 * key + 7) h)
unfolding pull_from
pull-opened law m n down key a b c d e f g h test = rw test

-- ---- how large the pull of a tree is

and_right : (a b : Bool) → (a && b) ≡ true → b ≡ true
and_right true b h = h
and_right false b h = absurd (false≢true h)

less_right : (a t d : ℕ) → ltb a (t * d) ≡ true → 0 < d
less_right a t zero h = absurd (omega (arith, ltb-true a 0 (rw mul-zero at h)))
less_right a t (suc d) h = omega arith

-- the centre of a cell that is taken whole is apart from the body
pub whole_apart : (law : PullLaw) (down key : ℕ) (from to : Site) → is_whole law down key from to ≡ true → 0 < squared_distance from to
unfolding is_whole
whole_apart law down key from to h =
    less_right _ (law.theta_num * law.theta_num) _ (and_right (not (eqb (key_of from (21 - down)) key)) (is_far law down from to) h)

-- the other bodies stand apart from a body
pub record StandsApart (m : Matter) (most n : ℕ) : Type 0 where
  pub apart : (j : ℕ) → j < most → j ≢ n → 0 < squared_distance (m.site n) (m.site j)

-- the pull of a tree is within g times its mass, and has at most as many terms as it has other bodies
pub pull_small : (law : PullLaw) (m : Matter) (most n : ℕ) → StandsApart m most n → (down key : ℕ) (tree : Tree) → Stands most down tree
    → total (is_own n) tree ≤ 1
    → IsSmall (law.g * mass_of m tree) (total (is_other n) tree) (pull_from law m n down key tree)
unfolding pull_from total Stands
pull_small law m most n apart down key Empty stands once = small_none _ _
pull_small law m most n apart down key (Body j) stands once =
    elim (eqb_tells j n) [
      | inl same ↦ rw same.0 (small_none _ _)
      | inr other ↦ rw other.0 (term-small law (m.mass j) (m.site n) (m.site j) (omega (arith, apart.apart j stands other.1)))
    ]
pull_small law m most n apart down key (Cell a b c d e f g h) stands once =
    let tree : Tree = Cell a b c d e f g h in
    let s0 = pull_small law m most n apart (down - 1) (8 * key + 0) a stands.2 (omega arith) in
    let s1 = pull_small law m most n apart (down - 1) (8 * key + 1) b stands.3 (omega arith) in
    let s2 = pull_small law m most n apart (down - 1) (8 * key + 2) c stands.4 (omega arith) in
    let s3 = pull_small law m most n apart (down - 1) (8 * key + 3) d stands.5 (omega arith) in
    let s4 = pull_small law m most n apart (down - 1) (8 * key + 4) e stands.6 (omega arith) in
    let s5 = pull_small law m most n apart (down - 1) (8 * key + 5) f stands.7 (omega arith) in
    let s6 = pull_small law m most n apart (down - 1) (8 * key + 6) g stands.8 (omega arith) in
    let s7 = pull_small law m most n apart (down - 1) (8 * key + 7) h stands.9 (omega arith) in
    elim (cases_Bool (is_whole law down key (m.site n) (centre m tree))) [
      | inl taken ↦
          rw (pull-whole law m n down key a b c d e f g h taken)
          (small_more _ _ _ _ _ (omega arith) (omega (arith, total_own_other n tree, stands.1))
          (term-small law (mass_of m tree) (m.site n) (centre m tree) (omega (arith, whole_apart law down key (m.site n) (centre m tree) taken))))
      | inr opened ↦
          let a0 = small_add _ _ _ _ _ _ (small_none 0 0) s0 in
          let a1 = small_add _ _ _ _ _ _ a0 s1 in
          let a2 = small_add _ _ _ _ _ _ a1 s2 in
          let a3 = small_add _ _ _ _ _ _ a2 s3 in
          let a4 = small_add _ _ _ _ _ _ a3 s4 in
          let a5 = small_add _ _ _ _ _ _ a4 s5 in
          let a6 = small_add _ _ _ _ _ _ a5 s6 in
          let a7 = small_add _ _ _ _ _ _ a6 s7 in
          rw (pull-opened law m n down key a b c d e f g h opened) (small_more _ _ _ _ _ (omega arith) (omega arith) a7)
    ]

-- the pull on one of the bodies of a whole scene is within g times their mass, and has a term at most for each other body
pub pull_among : (law : PullLaw) (m : Matter) (sites : List Site) (n : ℕ) → ArePoints sites → StandsApart m (length sites) n → n < length sites
    → IsSmall (law.g * sum_by m.mass (numbers (length sites))) (length sites - 1) (pull law m n (octree (site_at sites) (numbers (length sites))))
pull_among law m sites n rule apart within =
    let tree : Tree = octree (site_at sites) (numbers (length sites)) in
    let own = total_of_all (is_own n) sites rule ∙ count_own n (length sites) within in
    let all = total_of_all (λ k. 1) sites rule ∙ count_numbers (length sites) in
    let mass = total_of_all m.mass sites rule in
    small_more _ _ _ _ _ (omega (arith, ap (λ w. law.g * w) mass)) (omega (arith, total_own_other n tree))
    (pull_small law m (length sites) n apart 21 1 tree (stands_of_all sites rule) (omega arith))

-- a constant of at most 2 ^ 40 times a mass below 2 ^ 40 is below 2 ^ 80
pub pull_fits : (g mass : ℕ) → g ≤ 2 ^ 40 → mass < 2 ^ 40 → g * mass ≤ 2 ^ 80 - 1
pull_fits g mass h k = let m : g * mass ≤ 2 ^ 40 * (2 ^ 40 - 1) = mul-le g mass (2 ^ 40) (2 ^ 40 - 1) h (omega arith) in omega arith

-- points of a list stand apart
pub points_apart : (masses : List ℕ) (sites : List Site) (n : ℕ) → ArePoints sites → n < length sites → StandsApart (matter_by masses sites) (length sites) n
points_apart masses sites n rule within = record {
  apart = λ j small differ. squared_distance-positive (site_at sites n) (site_at sites j) (λ same. elim (cases_lt n j) [
    | inl less ↦ rule.apart n j less small same
    | inr more ↦ rule.apart j n (omega arith) within (sym same)
  ]);
}

-- the pull on one of all points is below 2 ^ 80 along each axis
pub pull_below : (law : PullLaw) (masses : List ℕ) (sites : List Site) (n : ℕ) → ArePoints sites → n < length sites → law.g ≤ 2 ^ 40
    → sum_by (λ k. slice_index masses k) (numbers (length sites)) < 2 ^ 40
    → IsSmall (2 ^ 80 - 1) (length sites - 1) (pull law (matter_by masses sites) n (octree (site_at sites) (numbers (length sites))))
pull_below law masses sites n rule within constant light =
    small_more _ _ _ _ _ (pull_fits law.g (sum_by (λ k. slice_index masses k) (numbers (length sites))) constant light) (omega arith)
    (pull_among law (matter_by masses sites) sites n rule (points_apart masses sites n rule within) within)
