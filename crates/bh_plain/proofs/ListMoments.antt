-- What the plain program's steps say of a moment.
use Rattle.std.proofs.Common.{◌≡◌, ◌≢◌, ◌≤◌, ◌<◌, ◌+◌, ◌-◌, ◌*◌, ◌^◌, ◌⊎◌, ℕ, zero, suc, List, [], ◌∷◌, All, length, get_or, refl, sym, ap, ◌∙◌}
use Rattle.std.proofs.Common.{arith, sum_by}
use Rattle.std.proofs.lemmas.List.Sums.{sum_by-cons}
use Rattle.octant_code.specs.Points.{ArePoints, site_at}
use Rattle.octant_code.specs.Space.{Site, origin, IsInCube}
use Rattle.bh_model.specs.Bodies.{IsIn}
use Rattle.bh_model.specs.Moments.{FitsWords, Matter, add_moment, moment, moment_of_body, no_moment, total}
use Rattle.bh_model.specs.Trees.{Tree, in_octant, octree, octree_from}
use Rattle.bh_model.specs.declared.moment.Moment.{Moment}
use Rattle.bh_model.proofs.Cells.{member_of_all}
use Rattle.bh_model.proofs.Moments.{moment_upto, upto_all, upto_more}
use Rattle.bh_model.proofs.Splits.{empty_tree, octant_trees, one_tree, split_tree}
use Rattle.bh_model.proofs.Standing.{sum_octants}
use Rattle.bh_model.proofs.Totals.{sum_products, sum_upto-times, total-body, total-cell, total-empty}
use Rattle.bh_model.proofs.Trees.{octree-none, octree-one, octree-deep, octree-many}

-- ---- the moment of each kind of list

-- the moment of the first k octants of a list at a level
abbrev pub octants_upto : Matter → (ℕ → ℕ) → ℕ → List ℕ → ℕ → Moment
octants_upto m cost level bodies k = moment_upto m cost (octant_trees m.site level bodies) k

-- one octant more
pub octants_more : (m : Matter) (cost : ℕ → ℕ) (level : ℕ) (bodies : List ℕ) (k : ℕ) (sum more : Moment) → sum ≡ octants_upto m cost level bodies k
    → more ≡ moment m cost (octant_trees m.site level bodies k) → add_moment sum more ≡ octants_upto m cost level bodies (k + 1)
octants_more m cost level bodies k sum more before one =
    ap (λ y. add_moment y more) before ∙ ap (add_moment (octants_upto m cost level bodies k)) one ∙ upto_more m cost (octant_trees m.site level bodies) k

-- the moment of no body, and of more than one at the deepest level
pub moment_of_empty : (m : Matter) (cost : ℕ → ℕ) (level : ℕ) (bodies : List ℕ) → length bodies ≢ 1 → (length bodies ≡ 0) ⊎ (level ≡ 21)
    → moment m cost (octree_from m.site (21 - level) level bodies) ≡ no_moment
unfolding total
moment_of_empty m cost level bodies many h = ap (moment m cost) (empty_tree m.site level bodies many h)

-- the moment of one body
pub moment_of_single : (m : Matter) (cost : ℕ → ℕ) (below level : ℕ) (bodies : List ℕ) → length bodies ≡ 1
    → moment m cost (octree_from m.site below level bodies) ≡ moment_of_body (m.mass (get_or bodies 0 0)) (m.site (get_or bodies 0 0))
    (cost (get_or bodies 0 0))
unfolding total
moment_of_single m cost below level bodies l = ap (moment m cost) (one_tree m.site below level bodies l)

-- the moment of two bodies or more is the sum of the octants' moments
pub moment_of_split : (m : Matter) (cost : ℕ → ℕ) (level : ℕ) (bodies : List ℕ) → level < 21 → length bodies ≢ 0 → length bodies ≢ 1
    → moment m cost (octree_from m.site (21 - level) level bodies) ≡ octants_upto m cost level bodies 8
moment_of_split m cost level bodies l some many =
    ap (moment m cost) (split_tree m.site level bodies l some many) ∙ sym (upto_all m cost (octant_trees m.site level bodies))

-- ---- how large a moment is

-- the total over an octree is no more than the sum over the list
pub total_within : (q : ℕ → ℕ) (site : ℕ → Site) (below level : ℕ) (bodies : List ℕ) → total q (octree_from site below level bodies) ≤ sum_by q bodies
total_within q site below level [] = omega (arith, ap (total q) (octree-none site below level), total-empty q)
total_within q site below level (n ∷ []) = omega (arith, ap (total q) (octree-one site below level n), total-body q n, sum_by-cons q n [])
total_within q site zero level (n ∷ m ∷ rest) = omega (arith, ap (total q) (octree-deep site level n m rest), total-empty q)
total_within q site (suc below) level (n ∷ m ∷ rest) =
    let bodies : List ℕ = n ∷ m ∷ rest in
    let child : ℕ → Tree = λ k. octree_from site below (suc level) (in_octant site level k bodies) in
    omega (
      arith,
      ap (total q) (octree-many site below level n m rest),
      total-cell q child,
      sum_upto-times (λ k. total q (child k)) (λ k. sum_by q (in_octant site level k bodies)) 1 8
          (λ k small. omega (arith, total_within q site below (suc level) (in_octant site level k bodies))),
      sum_octants q site level bodies,
    )

-- as many ones as a list is long
pub sum_ones : (bodies : List ℕ) → sum_by (λ n. 1) bodies ≡ length bodies
sum_ones [] = refl
sum_ones (x ∷ xs) = omega (arith, sum_by-cons (λ n. 1) x xs, sum_ones xs)

-- the moment of a list of few bodies fits its words
pub part_fits : (m : Matter) (cost : ℕ → ℕ) (below level : ℕ) (bodies : List ℕ) → ((n : ℕ) → IsIn bodies n → IsInCube (m.site n))
    → sum_by m.mass bodies < 2 ^ 40
    → length bodies ≤ 65536 → sum_by cost bodies < 2 ^ 64 → FitsWords (moment m cost (octree_from m.site below level bodies))
part_fits m cost below level bodies cube light few cheap =
    let site = m.site in
    record {
      mass = omega (arith, total_within m.mass site below level bodies);
      px = omega (
        arith,
        total_within (λ n. m.mass n * (m.site n).x) site below level bodies,
        sum_products m.mass (λ n. (m.site n).x) (2 ^ 21) bodies
            (λ n i. omega (arith, (cube n i).x_fits)),
      );
      py = omega (
        arith,
        total_within (λ n. m.mass n * (m.site n).y) site below level bodies,
        sum_products m.mass (λ n. (m.site n).y) (2 ^ 21) bodies
            (λ n i. omega (arith, (cube n i).y_fits)),
      );
      pz = omega (
        arith,
        total_within (λ n. m.mass n * (m.site n).z) site below level bodies,
        sum_products m.mass (λ n. (m.site n).z) (2 ^ 21) bodies
            (λ n i. omega (arith, (cube n i).z_fits)),
      );
      bodies = omega (arith, total_within (λ n. 1) site below level bodies, sum_ones bodies);
      cost = omega (arith, total_within cost site below level bodies);
    }

pub moment_fits : (m : Matter) (cost : ℕ → ℕ) (bodies : List ℕ) → ((n : ℕ) → IsIn bodies n → IsInCube (m.site n)) → sum_by m.mass bodies < 2 ^ 40
    → length bodies ≤ 65536 → sum_by cost bodies < 2 ^ 64 → FitsWords (moment m cost (octree m.site bodies))
moment_fits m cost bodies cube light few cheap = part_fits m cost 21 0 bodies cube light few cheap

-- bodies of a list of points have sites of the cube
pub bodies_in_cube : (sites : List Site) (bodies : List ℕ) → ArePoints sites → All (λ n. n < length sites) bodies → (n : ℕ) → IsIn bodies n
    → IsInCube (site_at sites n)
bodies_in_cube sites bodies rule within n i = rule.in_cube n origin (member_of_all (λ m. m < length sites) bodies n within i)
