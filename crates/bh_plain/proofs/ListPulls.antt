-- What the plain program's steps say of a pull, and how large it is.
use Rattle.std.proofs.Common.{◌≡◌, ◌≢◌, ◌≤◌, ◌<◌, ◌+◌, ◌-◌, ◌*◌, ◌/◌, ◌^◌, ◌⊎◌, ℕ, zero, suc, Bool, true, false, eqb, ltb, ◌%◌, List, [], ◌∷◌, length, get_or}
use Rattle.std.proofs.Common.{refl, sym, ap, ◌∙◌, subst, inl, add-one, arith, sum_by}
use Rattle.std.specs.List.{slice_index}
use Rattle.std.proofs.Math.Nat.{div-zero, mul-le-mul_left}
use Rattle.std.proofs.lemmas.Bool.{eq-eqb, ne_eqb}
use Rattle.std.proofs.lemmas.Nat.{div_below}
use Rattle.std.proofs.lemmas.Nat.{one_shl}
use Rattle.octant_code.specs.Points.{site_at}
use Rattle.octant_code.specs.Space.{Site, IsInCube, key_of, squared_distance}
use Rattle.octant_code.proofs.Keys.{key-next-fits}
use Rattle.bh_model.specs.Bodies.{IsIn, numbers}
use Rattle.bh_model.specs.Moments.{FitsWords, Matter, centre, mass_of, matter_by, moment, total}
use Rattle.bh_plain.specs.Parts.{IsPart}
use Rattle.bh_model.specs.Pulls.{IsSmall, PullLaw, is_far, is_whole, no_pull, pull_from, term}
use Rattle.bh_model.specs.Trees.{Tree, Body, cell_of, in_octant, octree_from, order}
use Rattle.bh_model.specs.declared.pull.Pull.{Pull}
use Rattle.bh_model.proofs.AllBodies.{sum_of_some}
use Rattle.bh_model.proofs.Cells.{in_octant-once, in_octant-under, member_of_all, placed_of_points}
use Rattle.bh_model.proofs.Lists.{in_numbers, numbers_once}
use Rattle.bh_model.proofs.Orders.{from_list}
use Rattle.bh_plain.proofs.ListMoments.{bodies_in_cube, part_fits, sum_ones, total_within}
use Rattle.bh_model.proofs.PullSums.{pull_upto, sum_scaled, upto_small}
use Rattle.bh_model.proofs.PullBounds.{points_apart, pull_fits, pull_small, pull-opened, pull-whole, small_more}
use Rattle.bh_model.proofs.Splits.{empty_tree, octant_trees, octants_within, one_tree, split_tree}
use Rattle.bh_model.proofs.Standing.{count_numbers, count_own, is_own, stands_of_list, sum_octants, total_own_other}
use Rattle.bh_model.proofs.Totals.{sum_upto-le, sum_upto-term, total_products}

-- ---- the pull of each kind of list

-- the pulls of the octants of a list at a level
abbrev pub octant_pulls : PullLaw → Matter → ℕ → ℕ → ℕ → List ℕ → ℕ → Pull
octant_pulls law m n level key bodies k = pull_from law m n (21 - (level + 1)) (8 * key + k) (octant_trees m.site level bodies k)

-- the pull of no body, and of more than one at the deepest level
pub pull_of_empty : (law : PullLaw) (m : Matter) (n level key : ℕ) (bodies : List ℕ) → length bodies ≢ 1 → (length bodies ≡ 0) ⊎ (level ≡ 21)
    → pull_from law m n (21 - level) key (octree_from m.site (21 - level) level bodies) ≡ no_pull
unfolding pull_from
pull_of_empty law m n level key bodies many h = ap (pull_from law m n (21 - level) key) (empty_tree m.site level bodies many h)

-- the pull of one body
pub pull_of_single : (law : PullLaw) (m : Matter) (n level key : ℕ) (bodies : List ℕ) → length bodies ≡ 1
    → pull_from law m n (21 - level) key (octree_from m.site (21 - level) level bodies) ≡ pull_from law m n 0 0 (Body (get_or bodies 0 0))
unfolding pull_from
pull_of_single law m n level key bodies l = ap (pull_from law m n (21 - level) key) (one_tree m.site (21 - level) level bodies l)

-- the octree of two bodies or more, whose pull is the term of its centre or the sum of the octants' pulls
abbrev pub part_tree : Matter → ℕ → List ℕ → Tree
part_tree m level bodies = octree_from m.site (21 - level) level bodies

pub pull_of_whole : (law : PullLaw) (m : Matter) (n level key : ℕ) (bodies : List ℕ) → level < 21 → length bodies ≢ 0 → length bodies ≢ 1
    → is_whole law (21 - level) key (m.site n) (centre m (part_tree m level bodies)) ≡ true
    → pull_from law m n (21 - level) key (part_tree m level bodies) ≡ term law (mass_of m (part_tree m level bodies)) (m.site n)
    (centre m (part_tree m level bodies))
pull_of_whole law m n level key bodies l some many test =
    let child : ℕ → Tree = octant_trees m.site level bodies in
    let e : part_tree m level bodies ≡ cell_of child = split_tree m.site level bodies l some many in
    let P : Tree → Type 0 = λ y. is_whole law (21 - level) key (m.site n) (centre m y) ≡ true in
    ap (pull_from law m n (21 - level) key) e
    ∙ pull-whole law m n (21 - level) key (child 0) (child 1) (child 2) (child 3) (child 4) (child 5) (child 6) (child 7) (subst P e test)
    ∙ ap (λ y. term law (mass_of m y) (m.site n) (centre m y)) (sym e)

pub pull_of_split : (law : PullLaw) (m : Matter) (n level key : ℕ) (bodies : List ℕ) → level < 21 → length bodies ≢ 0 → length bodies ≢ 1
    → is_whole law (21 - level) key (m.site n) (centre m (part_tree m level bodies)) ≡ false
    → pull_from law m n (21 - level) key (part_tree m level bodies) ≡ pull_upto (octant_pulls law m n level key bodies) 8
pull_of_split law m n level key bodies l some many test =
    let child : ℕ → Tree = octant_trees m.site level bodies in
    let e : part_tree m level bodies ≡ cell_of child = split_tree m.site level bodies l some many in
    let P : Tree → Type 0 = λ y. is_whole law (21 - level) key (m.site n) (centre m y) ≡ false in
    let down : 21 - level - 1 ≡ 21 - (level + 1) = omega arith in
    ap (pull_from law m n (21 - level) key) e
    ∙ pull-opened law m n (21 - level) key (child 0) (child 1) (child 2) (child 3) (child 4) (child 5) (child 6) (child 7) (subst P e test)
    ∙ ap (λ d. pull_upto (λ k. pull_from law m n d (8 * key + k) (child k)) 8) down

-- the test of a cell, by the key of the point
pub whole_inside : (law : PullLaw) (level key : ℕ) (from to : Site) → level ≤ 21 → key_of from level ≡ key → false ≡ is_whole law (21 - level) key from to
unfolding is_whole
whole_inside law level key from to l e =
    let same : key_of from (21 - (21 - level)) ≡ key = ap (key_of from) (omega arith) ∙ e in
    let test : eqb (key_of from (21 - (21 - level))) key ≡ true = eq-eqb _ _ same in
    rw test refl

pub whole_outside : (law : PullLaw) (level key : ℕ) (from to : Site) → level ≤ 21 → key_of from level ≢ key
    → is_far law (21 - level) from to ≡ is_whole law (21 - level) key from to
unfolding is_whole
whole_outside law level key from to l differ =
    let deep : level ≡ 21 - (21 - level) = omega arith in
    let other : key_of from (21 - (21 - level)) ≢ key = λ (e : key_of from (21 - (21 - level)) ≡ key). differ (ap (key_of from) deep ∙ e) in
    let test : eqb (key_of from (21 - (21 - level))) key ≡ false = ne_eqb _ _ other in
    rw test refl

-- whether a cell is far, by the program's numbers
pub far_coded : (law : PullLaw) (down num den d2 : ℕ) (from to : Site) → down ≤ 21 → num ≡ law.theta_num → den ≡ law.theta_den → d2 ≡ squared_distance from to
    → ltb ((1 * 2 ^ down) % 2 ^ 128 * ((1 * 2 ^ down) % 2 ^ 128) * (den * den)) (num * num * d2) ≡ is_far law down from to
far_coded law down num den d2 from to shallow num_is den_is d2_is =
    ap (λ y. ltb (y * y * (den * den)) (num * num * d2)) (one_shl down 128 (omega arith))
    ∙ ap (λ y. ltb (2 ^ down * 2 ^ down * (y * y)) (num * num * d2)) den_is
    ∙ ap (λ y. ltb (2 ^ down * 2 ^ down * (law.theta_den * law.theta_den)) (y * y * d2)) num_is
    ∙ ap (λ y. ltb (2 ^ down * 2 ^ down * (law.theta_den * law.theta_den)) (law.theta_num * law.theta_num * y)) d2_is

-- what the test of a cell told
pub whole_told : (law : PullLaw) (level key : ℕ) (a b c d : Site) (r v : Bool) → a ≡ c → b ≡ d → r ≡ is_whole law (21 - level) key a b → r ≡ v
    → is_whole law (21 - level) key c d ≡ v
whole_told law level key a b c d r v p q told value =
    ap (λ y. is_whole law (21 - level) key y d) (sym p) ∙ ap (λ y. is_whole law (21 - level) key a y) (sym q) ∙ sym told ∙ value

-- equal terms
pub term_same : (law : PullLaw) (mass mass' : ℕ) (a b c d : Site) → mass ≡ mass' → a ≡ c → b ≡ d → term law mass a b ≡ term law mass' c d
term_same law mass mass' a b c d m p q = ap (λ y. term law y a b) m ∙ ap (λ y. term law mass' y b) p ∙ ap (λ y. term law mass' c y) q

-- points that are apart, by other names
pub apart_same : (a b c d : Site) (eps2 : ℕ) → a ≡ c → b ≡ d → 0 < squared_distance c d → 0 < squared_distance a b + eps2
apart_same a b c d eps2 p q h =
    let e : squared_distance a b ≡ squared_distance c d = ap (λ y. squared_distance y b) p ∙ ap (λ y. squared_distance c y) q in
    omega (arith, e, h)

-- the key of a part with a body lets a child have a key
first_in : (bodies : List ℕ) → length bodies ≢ 0 → IsIn bodies (get_or bodies 0 0)
first_in [] some = absurd (some refl)
first_in (x ∷ xs) some = inl refl

pub part_key : (sites : List Site) (masses : List ℕ) (level key : ℕ) (bodies : List ℕ) → level < 21 → length bodies ≢ 0 → IsPart sites masses level key bodies
    → 8 * key + 7 < 2 ^ 64
part_key sites masses level key bodies l some p =
    omega (arith, p.under (get_or bodies 0 0) (first_in bodies some), key-next-fits (site_at sites (get_or bodies 0 0)) level l)

-- ---- how large the pulls of the octants are

-- the part of an octant
pub part_child : (sites : List Site) (masses : List ℕ) (level key k : ℕ) (bodies part : List ℕ) → k < 8 → part ≡ in_octant (site_at sites) level k bodies
    → IsPart sites masses level key bodies → IsPart sites masses (level + 1) (8 * key + k) part
part_child sites masses level key k bodies part small e p =
    let P : List ℕ → Type 0 = λ y. IsPart sites masses (level + 1) (8 * key + k) y in
    let mass : ℕ → ℕ = λ n. slice_index masses n in
    let own : List ℕ = in_octant (site_at sites) level k bodies in
    let deeper : suc level ≡ level + 1 = sym (add-one level) in
    let whole : IsPart sites masses (level + 1) (8 * key + k) own = record {
      rule = p.rule;
      once = in_octant-once (site_at sites) level k bodies p.once;
      within = octants_within sites level k bodies own (length sites) refl p.within;
      weighed = octants_within sites level k bodies own (length masses) refl p.weighed;
      under = λ n i. subst (λ y. key_of (site_at sites n) y ≡ 8 * key + k) deeper (in_octant-under (site_at sites) level key k bodies p.under n i);
      light =
          omega (
            arith,
            p.light,
            sum_octants mass (site_at sites) level bodies,
            sum_upto-term (λ j. sum_by mass (in_octant (site_at sites) level j bodies)) k
                8 small,
          );
    } in
    subst P (sym e) whole

-- the bodies of a part are no more than the points, and one of them is a body once at most
part_few : (sites : List Site) (masses : List ℕ) (level key : ℕ) (bodies : List ℕ) (q : ℕ → ℕ) → IsPart sites masses level key bodies
    → sum_by q bodies ≤ sum_by q (numbers (length sites))
part_few sites masses level key bodies q p =
    sum_of_some q bodies (numbers (length sites)) p.once (numbers_once (length sites))
    (λ n i. (in_numbers (length sites) n).1 (member_of_all (λ m. m < length sites) bodies n p.within i))

-- the pull of a part is within g times its mass
part_small : (law : PullLaw) (sites : List Site) (masses : List ℕ) (n level key : ℕ) (bodies : List ℕ) → n < length sites → level ≤ 21
    → IsPart sites masses level key bodies
    → IsSmall (law.g * sum_by (λ j. slice_index masses j) bodies) (sum_by (λ j. 1) bodies)
    (pull_from law (matter_by masses sites) n (21 - level) key (octree_from (site_at sites) (21 - level) level bodies))
part_small law sites masses n level key bodies own l p =
    let m : Matter = matter_by masses sites in
    let site : ℕ → Site = site_at sites in
    let tree : Tree = octree_from site (21 - level) level bodies in
    let within : (j : ℕ) → IsIn bodies j → j < length sites = λ j i. member_of_all (λ a. a < length sites) bodies j p.within i in
    let stands = stands_of_list (length sites) site (21 - level) level key bodies (omega arith) p.once (placed_of_points sites bodies p.rule p.within) p.under
    within in
    let once : total (is_own n) tree ≤ 1 =
    omega (
      arith,
      total_within (is_own n) site (21 - level) level bodies,
      part_few sites masses level key bodies (is_own n) p,
      count_own n (length sites)
          own,
    ) in
    small_more _ _ _ _ _ (mul-le-mul_left law.g (total_within m.mass site (21 - level) level bodies))
    (omega (arith, total_own_other n tree, total_within (λ j. 1) site (21 - level) level bodies))
    (pull_small law m (length sites) n (points_apart masses sites n p.rule own) (21 - level) key tree stands once)

-- the sums of the octants' pulls, and each of them, are small
octant_small : (law : PullLaw) (sites : List Site) (masses : List ℕ) (n level key : ℕ) (bodies : List ℕ) → n < length sites → level < 21
    → IsPart sites masses level key bodies
    → (k : ℕ) → k < 8
    → IsSmall (law.g * sum_by (λ j. slice_index masses j) (in_octant (site_at sites) level k bodies))
    (sum_by (λ j. 1) (in_octant (site_at sites) level k bodies))
    (octant_pulls law (matter_by masses sites) n level key bodies k)
octant_small law sites masses n level key bodies own l p k small =
    part_small law sites masses n (level + 1) (8 * key + k) (in_octant (site_at sites) level k bodies) own (omega arith)
    (part_child sites masses level key k bodies (in_octant (site_at sites) level k bodies) small refl p)

pub front_small : (law : PullLaw) (sites : List Site) (masses : List ℕ) (n level key : ℕ) (bodies : List ℕ) → n < length sites → level < 21 → law.g ≤ 2 ^ 40
    → IsPart sites masses level key bodies → (k : ℕ) → k ≤ 8
    → IsSmall (2 ^ 80) 65536 (pull_upto (octant_pulls law (matter_by masses sites) n level key bodies) k)
front_small law sites masses n level key bodies own l constant p k small =
    let mass : ℕ → ℕ = λ j. slice_index masses j in
    let site : ℕ → Site = site_at sites in
    let part : ℕ → List ℕ = λ j. in_octant site level j bodies in
    let b : ℕ → ℕ = λ j. law.g * sum_by mass (part j) in
    let c : ℕ → ℕ = λ j. sum_by (λ a. 1) (part j) in
    let fits = pull_fits law.g (sum_by mass bodies) constant p.light in
    let scaled = sum_scaled law.g (λ j. sum_by mass (part j)) 8 in
    let sums = ap (λ y. law.g * y) (sum_octants mass site level bodies) in
    let count = sum_octants (λ a. 1) site level bodies in
    let few = part_few sites masses level key bodies (λ a. 1) p in
    let points = count_numbers (length sites) in
    small_more _ _ _ _ _ (omega (arith, fits, scaled, sums, sum_upto-le b k 8 small)) (omega (arith, count, few, points, p.rule.few, sum_upto-le c k 8 small))
    (upto_small (octant_pulls law (matter_by masses sites) n level key bodies) b c k
    (λ j i. octant_small law sites masses n level key bodies own l p j (omega arith)))

pub one_small : (law : PullLaw) (sites : List Site) (masses : List ℕ) (n level key : ℕ) (bodies : List ℕ) → n < length sites → level < 21 → law.g ≤ 2 ^ 40
    → IsPart sites masses level key bodies → (k : ℕ) → k < 8 → IsSmall (2 ^ 80) 65536 (octant_pulls law (matter_by masses sites) n level key bodies k)
one_small law sites masses n level key bodies own l constant p k small =
    let site : ℕ → Site = site_at sites in
    let child : IsPart sites masses (level + 1) (8 * key + k) (in_octant site level k bodies) = part_child sites masses level key k bodies
    (in_octant site level k bodies) small refl p in
    let fits = pull_fits law.g (sum_by (λ j. slice_index masses j) (in_octant site level k bodies)) constant child.light in
    let few = part_few sites masses (level + 1) (8 * key + k) (in_octant site level k bodies) (λ a. 1) child in
    small_more _ _ _ _ _ (omega (arith, fits)) (omega (arith, few, count_numbers (length sites), p.rule.few))
    (octant_small law sites masses n level key bodies own l p k small)

-- ---- the moment and the centre of a part

part_length : (sites : List Site) (masses : List ℕ) (level key : ℕ) (bodies : List ℕ) → IsPart sites masses level key bodies → length bodies ≤ 65536
part_length sites masses level key bodies p =
    omega (arith, sum_ones bodies, part_few sites masses level key bodies (λ a. 1) p, count_numbers (length sites), p.rule.few)

pub part_moment : (sites : List Site) (masses : List ℕ) (level key : ℕ) (bodies : List ℕ) → IsPart sites masses level key bodies
    → FitsWords (moment (matter_by masses sites) (λ n. slice_index masses n) (octree_from (site_at sites) (21 - level) level bodies))
part_moment sites masses level key bodies p =
    part_fits (matter_by masses sites) (λ n. slice_index masses n) (21 - level) level bodies (bodies_in_cube sites bodies p.rule p.within) p.light
    (part_length sites masses level key bodies p) (omega (arith, p.light))

-- a quotient of a sum of products is in the cube
quotient_small : (a mass : ℕ) → a ≤ (2 ^ 21 - 1) * mass → a / mass < 2 ^ 21
quotient_small a zero h = omega (arith, div-zero a)
quotient_small a (suc mass) h = div_below a (suc mass) (2 ^ 21) (omega arith) (omega arith)

-- the centre of a part is in the cube
pub centre_inside : (sites : List Site) (masses : List ℕ) (level key : ℕ) (bodies : List ℕ) → IsPart sites masses level key bodies
    → IsInCube (centre (matter_by masses sites) (octree_from (site_at sites) (21 - level) level bodies))
centre_inside sites masses level key bodies p =
    let m : Matter = matter_by masses sites in
    let tree : Tree = octree_from (site_at sites) (21 - level) level bodies in
    let cube : (n : ℕ) → IsIn (order tree) n
    → IsInCube (site_at sites n) = λ n i. bodies_in_cube sites bodies p.rule p.within n (from_list (site_at sites) (21 - level) level bodies n i) in
    record {
      x_fits = quotient_small _ _ (total_products m.mass (λ n. (m.site n).x) (2 ^ 21 - 1) tree (λ n i. omega (arith, (cube n i).x_fits)));
      y_fits = quotient_small _ _ (total_products m.mass (λ n. (m.site n).y) (2 ^ 21 - 1) tree (λ n i. omega (arith, (cube n i).y_fits)));
      z_fits = quotient_small _ _ (total_products m.mass (λ n. (m.site n).z) (2 ^ 21 - 1) tree (λ n i. omega (arith, (cube n i).z_fits)));
    }

-- a pull of the bodies of a list is small enough to be added
pub widened : (p : Pull) → IsSmall (2 ^ 80) 65536 p → IsSmall (2 ^ 120) (2 ^ 32) p
widened p h = small_more _ _ _ _ _ (omega arith) (omega arith) h
