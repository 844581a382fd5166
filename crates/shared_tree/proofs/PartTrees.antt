-- Subtrees that are canonical octrees of their bodies: the bodies of each child are those of its octant.
use Rattle.std.proofs.Common.{ℕ, ◌+◌, ◌-◌, ◌*◌, ◌<◌, ◌≤◌, ◌≡◌, ◌≢◌, zero, suc, refl, sym, ◌∙◌, ap, subst, inl, inr, arith, Bool, true, eqb}
use Rattle.std.proofs.Common.{List, [], ◌∷◌, ◌++◌, append-nil, length, eq-eqb}
use Rattle.std.specs.List.{filter}
use Rattle.std.proofs.lemmas.Bool.{cases_lt, eqb-true}
use Rattle.std.proofs.lemmas.List.Elements.{filter-append}
use Rattle.octant_code.specs.declared.limits.TheConstants.{LEVELS}
use Rattle.octant_code.specs.Space.{Site, octant_of}
use Rattle.octant_code.specs.Points.{site_at}
use Rattle.bh_model.specs.Bodies.{IsIn, NoneTwice}
use Rattle.bh_model.specs.Trees.{Body, Cell, Empty, Tree, cell_of, height, in_octant, octree_from, order}
use Rattle.bh_model.proofs.Cells.{in_octant-member, in_octant-once}
use Rattle.bh_model.proofs.Folds.{height-body, height-empty}
use Rattle.bh_model.proofs.Lists.{filter-none, joined}
use Rattle.bh_model.proofs.Orders.{from_list}
use Rattle.bh_model.proofs.Splits.{empty_tree, octant_trees, one_tree, split_tree}
use Rattle.bh_model.proofs.Totals.{each_of_eight}
use Rattle.bh_model.proofs.Trees.{order-body, order-cell, order-empty}
use Rattle.octree.proofs.Laws.{octant_under}
use Rattle.octree.specs.Spot.{Spot, child_under}
use Rattle.octree.specs.Subtree.{IsBodyAt, IsCellAt, IsChildOf, IsNothingAt}
use Rattle.shared_tree.specs.Copying.{bodies_under, IsPartAt}

-- a test that all members pass keeps the list
all_pass : (p : ℕ → Bool) (xs : List ℕ) → ((n : ℕ) → IsIn xs n → p n ≡ true) → filter p xs ≡ xs
all_pass p [] passes = refl
all_pass p (x ∷ xs) passes = rw (passes x (inl refl)) (ap (λ y. x ∷ y) (all_pass p xs (λ n i. passes n (inr i))))

-- a test that no member of the joined lists passes
none_pass : (p : ℕ → Bool) (g : ℕ → List ℕ) (m : ℕ) → ((j n : ℕ) → j < m → IsIn (g j) n → p n ≡ true → ⊥) → filter p (joined g m) ≡ []
none_pass p g zero fails = refl
none_pass p g (suc m) fails =
    filter-append p (joined g m) (g m)
    ∙ ap (λ y. y ++ filter p (g m)) (none_pass p g m (λ j n l i e. fails j n (omega arith) i e))
    ∙ filter-none p (g m) (λ n i e. fails m n (omega arith) i e)

-- of joined lists a test keeps one whose members alone pass
one_passes : (p : ℕ → Bool) (g : ℕ → List ℕ) (k m : ℕ) → k < m → ((n : ℕ) → IsIn (g k) n → p n ≡ true)
    → ((j n : ℕ) → j < m → j ≢ k → IsIn (g j) n → p n ≡ true → ⊥) → filter p (joined g m) ≡ g k
one_passes p g k zero l passes fails = absurd (omega arith)
one_passes p g k (suc m) l passes fails = filter-append p (joined g m) (g m) ∙ elim (cases_lt k m) [
  | inl before ↦
      ap (λ y. y ++ filter p (g m)) (one_passes p g k m before passes (λ j n i a b e. fails j n (omega arith) a b e))
      ∙ ap (λ y. g k ++ y) (filter-none p (g m) (λ n i e. fails m n (omega arith) (λ s. omega arith) i e))
      ∙ append-nil (g k)
  | inr here ↦
      let last : k ≡ m = omega arith in
      ap (λ y. y ++ filter p (g m)) (none_pass p g m (λ j n i a e. fails j n (omega arith) (λ s. omega arith) a e))
      ∙ all_pass p (g m) (subst (λ z. (n : ℕ) → IsIn (g z) n → p n ≡ true) last passes) ∙ ap g (sym last)
]

-- a child of a cell
kid : Tree → ℕ → Tree
kid Empty k = Empty
kid (Body n) k = Empty
kid (Cell a b c d e f g h) zero = a
kid (Cell a b c d e f g h) (suc zero) = b
kid (Cell a b c d e f g h) (suc (suc zero)) = c
kid (Cell a b c d e f g h) (suc (suc (suc zero))) = d
kid (Cell a b c d e f g h) (suc (suc (suc (suc zero)))) = e
kid (Cell a b c d e f g h) (suc (suc (suc (suc (suc zero))))) = f
kid (Cell a b c d e f g h) (suc (suc (suc (suc (suc (suc zero)))))) = g
kid (Cell a b c d e f g h) (suc (suc (suc (suc (suc (suc (suc k))))))) = h

-- the children of equal cells are equal
kids_same : (f g : ℕ → Tree) → cell_of f ≡ cell_of g → (k : ℕ) → k < 8 → f k ≡ g k
unfolding kid
kids_same f g e k small =
    each_of_eight (λ j. f j ≡ g j) (ap (λ t. kid t 0) e) (ap (λ t. kid t 1) e) (ap (λ t. kid t 2) e) (ap (λ t. kid t 3) e) (ap (λ t. kid t 4) e)
    (ap (λ t. kid t 5) e) (ap (λ t. kid t 6) e) (ap (λ t. kid t 7) e) k small

-- a cell has some height
cell_high : (f : ℕ → Tree) → 1 ≤ height (cell_of f)
unfolding height
cell_high f = omega arith

-- no cell is empty or one body
no_cell : (f : ℕ → Tree) (t : Tree) → t ≡ cell_of f → height t ≡ 0 → ⊥
no_cell f t e h = let a = cell_high f in let b = ap height e in omega arith

-- What a cell that is a part has: two bodies or more, levels below it, and in each child the octree of the bodies of an octant.
pub record IsSplit (sites : List Site) (bodies : List ℕ) (cell : Spot) (level : ℕ) : Type 0 where
  pub low : level < LEVELS
  pub some : length bodies ≢ 0
  pub many : length bodies ≢ 1
  pub kids : (k : ℕ) → k < 8 → child_under cell k ≡ octant_trees (site_at sites) level bodies k

pub part_split : (sites : List Site) (s cell : Spot) (key level : ℕ) → IsPartAt sites s key level → IsCellAt s cell
    → IsSplit sites (bodies_under s) cell level
part_split sites s cell key level part at =
    let site : ℕ → Site = site_at sites in
    let bodies : List ℕ = bodies_under s in
    let tree : octree_from site (LEVELS - level) level bodies ≡ cell_of (child_under cell) = sym part.tree ∙ at.tree in
    let low : level ≤ LEVELS = part.low in
    let many : length bodies ≢ 1 = λ e. no_cell (child_under cell) _ tree (ap height (one_tree site (LEVELS - level) level bodies e) ∙ height-body _) in
    let some : length bodies ≢ 0 = λ e. no_cell (child_under cell) _ tree (ap height (empty_tree site level bodies many (inl e)) ∙ height-empty) in
    let deep : level ≢ LEVELS = λ e. no_cell (child_under cell) _ tree (ap height (empty_tree site level bodies many (inr e)) ∙ height-empty) in
    let above : level < LEVELS = omega arith in
    record {
      low = above;
      some = some;
      many = many;
      kids = kids_same (child_under cell) (octant_trees site level bodies) (sym tree ∙ split_tree site level bodies above some many);
    }

-- the bodies of a child are those of its octant
kid_bodies : (sites : List Site) (s cell child : Spot) (key level k : ℕ) → IsPartAt sites s key level → IsCellAt s cell → IsChildOf cell k child → k < 8
    → bodies_under child ≡ in_octant (site_at sites) level k (bodies_under s)
kid_bodies sites s cell child key level k part at is small =
    let site : ℕ → Site = site_at sites in
    let bodies : List ℕ = bodies_under s in
    let split = part_split sites s cell key level part at in
    let orders : ℕ → List ℕ = λ j. order (child_under cell j) in
    let octant : (j n : ℕ) → j < 8 → IsIn (orders j) n → octant_of (site n) level ≡ j = λ j n l i.
    (in_octant-member site level j bodies n (from_list site (LEVELS - (level + 1)) (level + 1) (in_octant site level j bodies) n
    (subst (λ (t : Tree). IsIn (order t) n) (split.kids j l) i))).1 in
    ap order is.tree
    ∙ sym (one_passes (λ n. eqb (octant_of (site n) level) k) orders k 8 small
    (λ n i. eq-eqb (octant_of (site n) level) k (octant k n small i))
    (λ j n l apart i e. apart (sym (octant j n l i) ∙ eqb-true (octant_of (site n) level) k e)))
    ∙ ap (λ (l : List ℕ). in_octant site level k l) (sym (ap order at.tree ∙ order-cell (child_under cell)))

-- a child of a part's cell is a part, with the bodies of its octant
pub child_part : (sites : List Site) (s cell child : Spot) (key level k : ℕ) → IsPartAt sites s key level → IsCellAt s cell → IsChildOf cell k child → k < 8
    → IsPartAt sites child (8 * key + k) (level + 1) × (bodies_under child ≡ in_octant (site_at sites) level k (bodies_under s))
child_part sites s cell child key level k part at is small =
    let site : ℕ → Site = site_at sites in
    let bodies : List ℕ = bodies_under s in
    let split = part_split sites s cell key level part at in
    let same : bodies_under child ≡ in_octant site level k bodies = kid_bodies sites s cell child key level k part at is small in
    let member : (n : ℕ) → IsIn (bodies_under child) n → IsIn bodies n × (octant_of (site n) level ≡ k) =
    λ n i. in_octant-member site level k bodies n (subst (λ (l : List ℕ). IsIn l n) same i) in (
      record {
        low = (let l : level < LEVELS = split.low in omega arith);
        tree = is.tree ∙ split.kids k small ∙ ap (octree_from site (LEVELS - (level + 1)) (level + 1)) (sym same);
        once = subst NoneTwice (sym same) (in_octant-once site level k bodies part.once);
        bodies_in = λ n i. part.bodies_in n (member n i).0;
        under = λ n i. octant_under (site n) key level k (part.under n (member n i).0) (sym (member n i).1);
      },
      same,
    )

-- an empty part has no body
pub no_bodies : (s : Spot) → IsNothingAt s → bodies_under s ≡ []
no_bodies s at = ap order at.tree ∙ order-empty

-- a part of one body has that one
pub one_body : (s : Spot) (n : ℕ) → IsBodyAt s n → bodies_under s ≡ n ∷ []
one_body s n at = ap order at.tree ∙ order-body n

-- a cell that is the top of a part is the top of itself
pub cell_itself : (s cell : Spot) → IsCellAt s cell → IsCellAt cell cell
cell_itself s cell at = subst (λ (z : Spot). IsCellAt z cell) (sym at.same) at
