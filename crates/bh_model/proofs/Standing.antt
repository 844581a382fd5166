-- How the cells of the canonical octree of all points stand, and the totals of its parts.
use Rattle.std.proofs.Common.{ℕ, ◌+◌, ◌-◌, ◌*◌, ◌<◌, ◌≤◌, ◌≡◌, zero, suc, refl, sym, ◌∙◌, ap, subst, inl, inr, arith, List, [], ◌∷◌, length, get_or, Bool}
use Rattle.std.proofs.Common.{true, false, cond, eqb, ltb, All, sum_by}
use Rattle.std.specs.List.{filter}
use Rattle.std.proofs.lemmas.Bool.Decides.{nat_tests}
use Rattle.std.proofs.lemmas.Bool.{cases_lt, lt-ltb}
use Rattle.std.proofs.lemmas.List.{get_or_append_left, get_or_push, length_push}
use Rattle.std.proofs.lemmas.List.Sums.{sum_by-cons, sum_by_push}
use borrow.Author.Tests.{ltb-true}
use Rattle.octant_code.specs.Points.{site_at, ArePoints}
use Rattle.octant_code.specs.Space.{Site, octant_of, key_of}
use Rattle.octant_code.proofs.Keys.{octant-small}
use Rattle.octant_code.proofs.InCube.{same_site}
use Rattle.bh_model.specs.Bodies.{IsIn, NoneTwice, numbers}
use Rattle.bh_model.specs.Trees.{Tree, Empty, Body, Cell, cell_of, in_octant, octree_from, octree}
use Rattle.bh_model.specs.Moments.{total}
use Rattle.bh_model.specs.Standing.{Stands}
use Rattle.bh_model.proofs.Lists.{filter-none, filter-all, in_numbers, numbers_once}
use Rattle.bh_model.proofs.Trees.{octree-none, octree-one, octree-many}
use Rattle.bh_model.proofs.Totals.{all_eight, sum_upto, sum_upto-same, total-empty, total-body, total-cell}
use Rattle.bh_model.proofs.Cells.{ArePlaced, LieUnder, placed_of_points, in_octant-member, in_octant-once, in_octant-placed, in_octant-under, under_root}

-- ---- sums over the parts of a list

-- the sum over a list whose head a test keeps or drops
sum_kept : (q : ℕ → ℕ) (b : Bool) (x : ℕ) (xs : List ℕ) → sum_by q (cond b (x ∷ xs) xs) ≡ cond b (q x) 0 + sum_by q xs
sum_kept q true x xs = sum_by-cons q x xs
sum_kept q false x xs = omega arith

-- a number below the next of another is below that or equal to it
next_or_equal : (a k v : ℕ) → cond (ltb a (suc k)) v 0 ≡ cond (ltb a k) v 0 + cond (eqb a k) v 0
next_or_equal a k v = grind (arith, nat_tests)

-- the members with a value below the next of a number are those below it and those equal to it
sum_next : (q f : ℕ → ℕ) (k : ℕ) (xs : List ℕ)
    → sum_by q (filter (λ n. ltb (f n) (suc k)) xs) ≡ sum_by q (filter (λ n. ltb (f n) k) xs) + sum_by q (filter (λ n. eqb (f n) k) xs)
sum_next q f k [] = refl
sum_next q f k (x ∷ xs) =
    let low : List ℕ = filter (λ n. ltb (f n) k) xs in
    let same : List ℕ = filter (λ n. eqb (f n) k) xs in
    let all : List ℕ = filter (λ n. ltb (f n) (suc k)) xs in
    let rest : sum_by q all ≡ sum_by q low + sum_by q same = sum_next q f k xs in
    omega (arith, rest, sum_kept q (ltb (f x) (suc k)) x all, sum_kept q (ltb (f x) k) x low, sum_kept q (eqb (f x) k) x same, next_or_equal (f x) k (q x))

-- a list is parted by a value of its members
sum_parts : (q f : ℕ → ℕ) (xs : List ℕ) (k : ℕ) → sum_upto (λ j. sum_by q (filter (λ n. eqb (f n) j) xs)) k ≡ sum_by q (filter (λ n. ltb (f n) k) xs)
unfolding sum_upto
sum_parts q f xs zero = sym (ap (sum_by q) (filter-none (λ n. ltb (f n) 0) xs (λ n i e. absurd (omega (arith, ltb-true (f n) 0 e)))))
sum_parts q f xs (suc k) = omega (arith, sum_parts q f xs k, sum_next q f k xs)

-- the sums over the octants are the sum over the list
pub sum_octants : (q : ℕ → ℕ) (site : ℕ → Site) (level : ℕ) (bodies : List ℕ) → sum_upto (λ k. sum_by q (in_octant site level k bodies)) 8 ≡ sum_by q bodies
sum_octants q site level bodies =
    sum_parts q (λ n. octant_of (site n) level) bodies 8
    ∙ ap (sum_by q) (filter-all (λ n. ltb (octant_of (site n) level) 8) bodies (λ n. lt-ltb (octant_of (site n) level) 8 (octant-small (site n) level)))

-- ---- totals over a canonical octree

-- no two bodies of a list with points of their own lie under one key of the deepest level
deepest_alone : (site : ℕ → Site) (level key a b : ℕ) (rest : List ℕ) → level + 0 ≡ 21 → NoneTwice (a ∷ b ∷ rest) → ArePlaced site (a ∷ b ∷ rest)
    → LieUnder site level key (a ∷ b ∷ rest) → ⊥
deepest_alone site level key a b rest sum once placed under =
    let last : level ≡ 21 = omega arith in
    let same : key_of (site a) 21 ≡ key_of (site b) 21 = subst (λ (y : ℕ). key_of (site a) y ≡ key_of (site b) y) last
    (under a (inl refl) ∙ sym (under b (inr (inl refl)))) in
    once.0 (inl (placed.apart a b (inl refl) (inr (inl refl))
    (same_site (site a) (site b) (placed.in_cube a (inl refl)) (placed.in_cube b (inr (inl refl))) same)))

-- the total over the octree of the bodies of a cube is the sum over the bodies
pub total_of_list : (q : ℕ → ℕ) (site : ℕ → Site) (below level key : ℕ) (bodies : List ℕ) → level + below ≡ 21 → NoneTwice bodies → ArePlaced site bodies
    → LieUnder site level key bodies
    → total q (octree_from site below level bodies) ≡ sum_by q bodies
total_of_list q site below level key [] sum once placed under = ap (total q) (octree-none site below level) ∙ total-empty q
total_of_list q site below level key (n ∷ []) sum once placed under =
    ap (total q) (octree-one site below level n) ∙ total-body q n ∙ omega (arith, sum_by-cons q n [])
total_of_list q site zero level key (n ∷ m ∷ rest) sum once placed under = absurd (deepest_alone site level key n m rest sum once placed under)
total_of_list q site (suc below) level key (n ∷ m ∷ rest) sum once placed under =
    let bodies : List ℕ = n ∷ m ∷ rest in
    let child : ℕ → Tree = λ k. octree_from site below (suc level) (in_octant site level k bodies) in
    ap (total q) (octree-many site below level n m rest) ∙ total-cell q child
    ∙ sum_upto-same (λ k. total q (child k)) (λ k. sum_by q (in_octant site level k bodies)) 8
    (λ k small. total_of_list q site below (suc level) (8 * key + k) (in_octant site level k bodies) (omega arith) (in_octant-once site level k bodies once)
    (in_octant-placed site level k bodies placed) (in_octant-under site level key k bodies under))
    ∙ sum_octants q site level bodies

-- how many numbers there are, and which stands where
pub length_numbers : (n : ℕ) → length (numbers n) ≡ n
unfolding numbers
length_numbers zero = refl
length_numbers (suc n) = omega (arith, length_push (numbers n) n, length_numbers n)

pub number_at_place : (n i d : ℕ) → i < n → get_or (numbers n) i d ≡ i
unfolding numbers
number_at_place zero i d h = absurd (omega arith)
number_at_place (suc n) i d h =
    let long = length_numbers n in
    elim (cases_lt i n) [
      | inl before ↦ get_or_append_left (numbers n) (n ∷ []) d i (omega arith) ∙ number_at_place n i d before
      | inr last ↦ let same : n ≡ i = omega arith in get_or_push (numbers n) n d i (long ∙ same) ∙ same
    ]

-- the numbers below one are so
pub numbers_within : (n : ℕ) → All (λ k. k < n) (numbers n)
numbers_within n k d h =
    let long = length_numbers n in
    let small : k < n = omega arith in
    let P : ℕ → Type 0 = λ j. j < n in
    subst P (sym (number_at_place n k d small)) small

-- the numbers of a list of points are bodies with points of their own
numbers_placed : (sites : List Site) → ArePoints sites → ArePlaced (site_at sites) (numbers (length sites))
numbers_placed sites rule = placed_of_points sites (numbers (length sites)) rule (numbers_within (length sites))

-- the total over the octree of all points is the sum over their numbers
pub total_of_all : (q : ℕ → ℕ) (sites : List Site) → ArePoints sites
    → total q (octree (site_at sites) (numbers (length sites))) ≡ sum_by q (numbers (length sites))
total_of_all q sites rule =
    total_of_list q (site_at sites) 21 0 1 (numbers (length sites)) refl (numbers_once (length sites)) (numbers_placed sites rule)
    (under_root (site_at sites) (numbers (length sites)))

-- ---- sums over numbers

-- how many numbers there are
pub count_numbers : (n : ℕ) → sum_by (λ k. 1) (numbers n) ≡ n
unfolding numbers
count_numbers zero = refl
count_numbers (suc n) = omega (arith, sum_by_push (λ k. 1) (numbers n) n, count_numbers n)

-- a body counts once, and each other body not at all
abbrev pub is_own : ℕ → ℕ → ℕ
is_own n k = cond (eqb k n) 1 0

-- each other body counts once
abbrev pub is_other : ℕ → ℕ → ℕ
is_other n k = cond (eqb k n) 0 1

own_or_other : (n k : ℕ) → is_own n k + is_other n k ≡ 1
own_or_other n k = grind (arith, nat_tests)

-- how often a number stands among those below another
abbrev once_below : ℕ → ℕ → ℕ
once_below n k = cond (ltb n k) 1 0

own_next : (n k : ℕ) → once_below n (suc k) ≡ once_below n k + is_own n k
own_next n k = grind (arith, nat_tests)

own_none : (n : ℕ) → 0 ≡ once_below n 0
own_none n = grind (arith, nat_tests)

own_yet : (n k : ℕ) → n < k → once_below n k ≡ 1
own_yet n k h = grind (arith, nat_tests)

-- the numbers below one count each of them once
count_own_below : (n k : ℕ) → sum_by (is_own n) (numbers k) ≡ once_below n k
unfolding numbers
count_own_below n zero = own_none n
count_own_below n (suc k) = omega (arith, sum_by_push (is_own n) (numbers k) k, count_own_below n k, own_next n k)

pub count_own : (n k : ℕ) → n < k → sum_by (is_own n) (numbers k) ≡ 1
count_own n k h = count_own_below n k ∙ own_yet n k h

-- two counts of a tree, added
total_adds : (p q : ℕ → ℕ) (s : ℕ → ℕ) → ((n : ℕ) → p n + q n ≡ s n) → (tree : Tree) → total p tree + total q tree ≡ total s tree
unfolding total
total_adds p q s h Empty = omega arith
total_adds p q s h (Body n) = h n
total_adds p q s h (Cell a b c d e f g i) =
    omega (
      arith,
      total_adds p q s h a,
      total_adds p q s h b,
      total_adds p q s h c,
      total_adds p q s h d,
      total_adds p q s h e,
      total_adds p q s h f,
      total_adds p q s h g,
      total_adds p q s h i,
    )

-- each body of a tree is the one or another
pub total_own_other : (n : ℕ) (tree : Tree) → total (is_own n) tree + total (is_other n) tree ≡ total (λ k. 1) tree
total_own_other n tree = total_adds (is_own n) (is_other n) (λ k. 1) (own_or_other n) tree

-- ---- how the cells of a canonical octree stand

stands_none : (most down : ℕ) → Stands most down Empty
unfolding Stands
stands_none most down = tt

stands_one : (most down n : ℕ) → n < most → Stands most down (Body n)
unfolding Stands
stands_one most down n h = h

stands_cell : (most below : ℕ) (child : ℕ → Tree) → 2 ≤ total (λ n. 1) (cell_of child) → ((k : ℕ) → k < 8 → Stands most below (child k))
    → Stands most (suc below) (cell_of child)
unfolding Stands
stands_cell most below child two each =
    let one : below ≡ suc below - 1 = omega arith in
    let P : ℕ → Type 0 = λ down. (1 ≤ suc below) × (2 ≤ total (λ n. 1) (cell_of child)) × Stands most down (child 0) × Stands most down (child 1)
    × Stands most down (child 2)
    × Stands most down (child 3) × Stands most down (child 4) × Stands most down (child 5) × Stands most down (child 6) × Stands most down (child 7) in
    let e = all_eight (λ k. Stands most below (child k)) each in
    subst P one (omega arith, two, e.0, e.1, e.2, e.3, e.4, e.5, e.6, e.7)

-- the octree of the bodies of a cube stands
pub stands_of_list : (most : ℕ) (site : ℕ → Site) (below level key : ℕ) (bodies : List ℕ) → level + below ≡ 21 → NoneTwice bodies → ArePlaced site bodies
    → LieUnder site level key bodies
    → ((n : ℕ) → IsIn bodies n → n < most) → Stands most below (octree_from site below level bodies)
stands_of_list most site below level key [] sum once placed under within =
    subst (Stands most below) (sym (octree-none site below level)) (stands_none most below)
stands_of_list most site below level key (n ∷ []) sum once placed under within =
    subst (Stands most below) (sym (octree-one site below level n)) (stands_one most below n (within n (inl refl)))
stands_of_list most site zero level key (n ∷ m ∷ rest) sum once placed under within = absurd (deepest_alone site level key n m rest sum once placed under)
stands_of_list most site (suc below) level key (n ∷ m ∷ rest) sum once placed under within =
    let bodies : List ℕ = n ∷ m ∷ rest in
    let child : ℕ → Tree = λ k. octree_from site below (suc level) (in_octant site level k bodies) in
    let split = octree-many site below level n m rest in
    let count : total (λ n. 1) (octree_from site (suc below) level bodies) ≡ sum_by (λ n. 1) bodies = total_of_list (λ n. 1) site (suc below) level key bodies
    sum once placed under in
    let two : 2 ≤ total (λ n. 1) (cell_of child) = omega
    (arith, ap (total (λ n. 1)) split, count, sum_by-cons (λ n. 1) n (m ∷ rest), sum_by-cons (λ n. 1) m rest) in
    subst (Stands most (suc below)) (sym split)
    (stands_cell most below child two
    (λ k small. stands_of_list most site below (suc level) (8 * key + k) (in_octant site level k bodies) (omega arith) (in_octant-once site level k bodies once)
    (in_octant-placed site level k bodies placed) (in_octant-under site level key k bodies under)
    (λ a i. within a (in_octant-member site level k bodies a i).0)))

-- the octree of all points stands
pub stands_of_all : (sites : List Site) → ArePoints sites → Stands (length sites) 21 (octree (site_at sites) (numbers (length sites)))
stands_of_all sites rule =
    stands_of_list (length sites) (site_at sites) 21 0 1 (numbers (length sites)) refl (numbers_once (length sites)) (numbers_placed sites rule)
    (under_root (site_at sites) (numbers (length sites))) (λ n i. (in_numbers (length sites) n).0 i)
