-- The order of the canonical octree has exactly the bodies of the list, each once.
use Rattle.std.proofs.Common.{ℕ, ◌+◌, ◌*◌, ◌<◌, ◌≡◌, ◌↔◌, zero, suc, refl, sym, ◌∙◌, ap, subst, inl, inr, arith, List, [], ◌∷◌}
use Rattle.octant_code.specs.Space.{Site, octant_of, key_of}
use Rattle.octant_code.proofs.Keys.{octant-small}
use Rattle.octant_code.proofs.InCube.{same_site}
use Rattle.bh_model.specs.Bodies.{IsIn, NoneTwice, numbers}
use Rattle.bh_model.specs.Trees.{Body, Tree, cell_of, in_octant, octree_from, octree, order}
use Rattle.bh_model.proofs.Lists.{joined, in_joined, in_numbers, joined_in, none_twice_joined}
use Rattle.bh_model.proofs.Trees.{octree-none, octree-one, octree-deep, octree-many, order-empty, order-body, order-cell}
use Rattle.bh_model.proofs.Cells.{ArePlaced, LieUnder, in_octant-member, in_octant-keeps, in_octant-once, in_octant-placed, in_octant-under, under_root}

-- the order of the octree of no body
order_of_none : (site : ℕ → Site) (below level : ℕ) → order (octree_from site below level []) ≡ []
order_of_none site below level = ap order (octree-none site below level) ∙ order-empty

-- the order of the octree of one body
order_of_one : (site : ℕ → Site) (below level n : ℕ) → order (octree_from site below level (n ∷ [])) ≡ n ∷ []
order_of_one site below level n = ap order (octree-one site below level n) ∙ order-body n

-- the order of the octree of two bodies or more at the deepest level
order_of_deep : (site : ℕ → Site) (level n m : ℕ) (rest : List ℕ) → order (octree_from site zero level (n ∷ m ∷ rest)) ≡ []
order_of_deep site level n m rest = ap order (octree-deep site level n m rest) ∙ order-empty

-- the order of the octree of two bodies or more above it
order_of_many : (site : ℕ → Site) (below level n m : ℕ) (rest : List ℕ) → order (octree_from site (suc below) level (n ∷ m ∷ rest))
    ≡ joined (λ k. order (octree_from site below (suc level) (in_octant site level k (n ∷ m ∷ rest)))) 8
order_of_many site below level n m rest =
    ap order (octree-many site below level n m rest) ∙ order-cell (λ k. octree_from site below (suc level) (in_octant site level k (n ∷ m ∷ rest)))

-- a body in the order is one of the list
pub from_list : (site : ℕ → Site) (below level : ℕ) (bodies : List ℕ) (n : ℕ) → IsIn (order (octree_from site below level bodies)) n → IsIn bodies n
from_list site below level [] n i = subst (λ (y : List ℕ). IsIn y n) (order_of_none site below level) i
from_list site below level (a ∷ []) n i = subst (λ (y : List ℕ). IsIn y n) (order_of_one site below level a) i
from_list site zero level (a ∷ b ∷ rest) n i = absurd (subst (λ (y : List ℕ). IsIn y n) (order_of_deep site level a b rest) i)
from_list site (suc below) level (a ∷ b ∷ rest) n i =
    let bodies : List ℕ = a ∷ b ∷ rest in
    let kids : ℕ → List ℕ = λ k. order (octree_from site below (suc level) (in_octant site level k bodies)) in
    let p = in_joined kids 8 n (subst (λ (y : List ℕ). IsIn y n) (order_of_many site below level a b rest) i) in
    (in_octant-member site level p.part bodies n (from_list site below (suc level) (in_octant site level p.part bodies) n p.inside)).0

-- a body of the list is in the order
in_order : (site : ℕ → Site) (below level key : ℕ) (bodies : List ℕ) (n : ℕ) → level + below ≡ 21 → NoneTwice bodies → ArePlaced site bodies
    → LieUnder site level key bodies
    → IsIn bodies n → IsIn (order (octree_from site below level bodies)) n
in_order site below level key [] n sum once placed under i = absurd i
in_order site below level key (a ∷ []) n sum once placed under i = subst (λ (y : List ℕ). IsIn y n) (sym (order_of_one site below level a)) i
in_order site zero level key (a ∷ b ∷ rest) n sum once placed under i =
    let last : level ≡ 21 = omega arith in
    let same : key_of (site a) 21 ≡ key_of (site b) 21 = subst (λ (y : ℕ). key_of (site a) y ≡ key_of (site b) y) last
    (under a (inl refl) ∙ sym (under b (inr (inl refl)))) in
    absurd (once.0 (inl (placed.apart a b (inl refl) (inr (inl refl))
    (same_site (site a) (site b) (placed.in_cube a (inl refl)) (placed.in_cube b (inr (inl refl))) same))))
in_order site (suc below) level key (a ∷ b ∷ rest) n sum once placed under i =
    let bodies : List ℕ = a ∷ b ∷ rest in
    let kids : ℕ → List ℕ = λ k. order (octree_from site below (suc level) (in_octant site level k bodies)) in
    let k : ℕ = octant_of (site n) level in
    subst (λ (y : List ℕ). IsIn y n) (sym (order_of_many site below level a b rest))
    (joined_in kids 8 k n (octant-small (site n) level)
    (in_order site below (suc level) (8 * key + k) (in_octant site level k bodies) n (omega arith) (in_octant-once site level k bodies once)
    (in_octant-placed site level k bodies placed) (in_octant-under site level key k bodies under) (in_octant-keeps site level bodies n k i refl)))

-- no body stands twice in the order
order_once : (site : ℕ → Site) (below level : ℕ) (bodies : List ℕ) → NoneTwice (order (octree_from site below level bodies))
order_once site below level [] = subst NoneTwice (sym (order_of_none site below level)) tt
order_once site below level (a ∷ []) = subst NoneTwice (sym (order_of_one site below level a)) ((λ i. i), tt)
order_once site zero level (a ∷ b ∷ rest) = subst NoneTwice (sym (order_of_deep site level a b rest)) tt
order_once site (suc below) level (a ∷ b ∷ rest) =
    let bodies : List ℕ = a ∷ b ∷ rest in
    let kids : ℕ → List ℕ = λ k. order (octree_from site below (suc level) (in_octant site level k bodies)) in
    let octant : (k n : ℕ) → IsIn (kids k) n → octant_of (site n) level ≡ k =
    λ k n i. (in_octant-member site level k bodies n (from_list site below (suc level) (in_octant site level k bodies) n i)).1 in
    subst NoneTwice (sym (order_of_many site below level a b rest))
    (none_twice_joined kids 8 (λ k l. order_once site below (suc level) (in_octant site level k bodies))
    (λ i j n p q u v. sym (octant i n u) ∙ octant j n v))

-- the order of the canonical octree has the bodies of the list
pub order_members : (site : ℕ → Site) (bodies : List ℕ) (n : ℕ) → NoneTwice bodies → ArePlaced site bodies → IsIn (order (octree site bodies)) n ↔ IsIn bodies n
order_members site bodies n once placed = (from_list site 21 0 bodies n, in_order site 21 0 1 bodies n refl once placed (under_root site bodies))

-- and none of them twice
pub order_has_none_twice : (site : ℕ → Site) (bodies : List ℕ) → NoneTwice (order (octree site bodies))
order_has_none_twice site bodies = order_once site 21 0 bodies

-- the bodies of a child of a cell are the cell's
pub child_in_order : (f : ℕ → Tree) (k n : ℕ) → k < 8 → IsIn (order (f k)) n → IsIn (order (cell_of f)) n
child_in_order f k n small i = subst (λ (y : List ℕ). IsIn y n) (sym (order-cell f)) (joined_in (λ j. order (f j)) 8 k n small i)

-- the body of a tree of one body
pub body_in_order : (t : Tree) (n : ℕ) → t ≡ Body n → IsIn (order t) n
body_in_order t n e = subst (λ (y : List ℕ). IsIn y n) (sym (ap order e ∙ order-body n)) (inl refl)

-- the bodies of the canonical octree of the numbers below a number are below it
pub numbers_in_order : (site : ℕ → Site) (count n : ℕ) → IsIn (order (octree site (numbers count))) n → n < count
numbers_in_order site count n i = (in_numbers count n).0 (from_list site 21 0 (numbers count) n i)
