-- What the canonical octree, the order, the depth and the text are, case by case.
use Rattle.std.proofs.Common.{ℕ, ◌+◌, ◌*◌, ◌<◌, ◌≡◌, zero, suc, max, refl, sym, subst, arith, List, [], ◌∷◌, ◌++◌, decimal}
use Rattle.octant_code.specs.Space.{Site}
use Rattle.bh_model.specs.Trees.{Tree, Empty, Body, cell_of, in_octant, octree_from, order, text, cell_keys_from, body_levels_from, greatest}
use Rattle.bh_model.proofs.Lists.{HasTwo, joined}

-- the octree of no body
pub octree-none : (site : ℕ → Site) (below level : ℕ) → octree_from site below level [] ≡ Empty
unfolding octree_from
octree-none site below level = refl

-- the octree of one body
pub octree-one : (site : ℕ → Site) (below level n : ℕ) → octree_from site below level (n ∷ []) ≡ Body n
unfolding octree_from
octree-one site below level n = refl

-- the octree of two bodies or more where no level is left
pub octree-deep : (site : ℕ → Site) (level n m : ℕ) (rest : List ℕ) → octree_from site zero level (n ∷ m ∷ rest) ≡ Empty
unfolding octree_from
octree-deep site level n m rest = refl

-- the octree of two bodies or more is the cell of the octrees of the octants
pub octree-many : (site : ℕ → Site) (below level n m : ℕ) (rest : List ℕ)
    → octree_from site (suc below) level (n ∷ m ∷ rest) ≡ cell_of (λ k. octree_from site below (suc level) (in_octant site level k (n ∷ m ∷ rest)))
unfolding octree_from
octree-many site below level n m rest = refl

-- the same for a list that has two places
pub octree-two : (site : ℕ → Site) (below level : ℕ) (bodies : List ℕ) → HasTwo bodies
    → octree_from site (suc below) level bodies ≡ cell_of (λ k. octree_from site below (suc level) (in_octant site level k bodies))
octree-two site below level bodies two =
    let P : List ℕ → Type 0 = λ bs. octree_from site (suc below) level bs ≡ cell_of (λ k. octree_from site below (suc level) (in_octant site level k bs)) in
    subst P (sym two.is) (octree-many site below level two.first two.second two.rest)

-- equal children make equal cells
pub cell_of-same : (f g : ℕ → Tree) → ((k : ℕ) → k < 8 → f k ≡ g k) → cell_of f ≡ cell_of g
cell_of-same f g h =
    rw (
      h 0 (omega arith),
      h 1 (omega arith),
      h 2 (omega arith),
      h 3 (omega arith),
      h 4 (omega arith),
      h 5 (omega arith),
      h 6 (omega arith),
      h 7
          (omega arith),
    ) refl

-- the order of an empty tree
pub order-empty : order Empty ≡ []
unfolding order
order-empty = refl

-- the order of a body
pub order-body : (n : ℕ) → order (Body n) ≡ n ∷ []
unfolding order
order-body n = refl

-- the order of a cell is the children's orders one after another
pub order-cell : (f : ℕ → Tree) → order (cell_of f) ≡ joined (λ k. order (f k)) 8
unfolding order
order-cell f = refl

-- an empty tree names no body
pub levels-empty : (level : ℕ) → body_levels_from Empty level ≡ []
unfolding body_levels_from
levels-empty level = refl

-- a body is named at the level of its word
pub levels-body : (n level : ℕ) → body_levels_from (Body n) level ≡ level ∷ []
unfolding body_levels_from
levels-body n level = refl

-- the bodies of a cell are named one level below it
pub levels-cell : (f : ℕ → Tree) (level : ℕ) → body_levels_from (cell_of f) level ≡ joined (λ k. body_levels_from (f k) (suc level)) 8
unfolding body_levels_from
levels-cell f level = refl

-- the greatest of two lists in turn is the greater of both
pub greatest-append : (xs ys : List ℕ) → greatest (xs ++ ys) ≡ max (greatest xs) (greatest ys)
greatest-append [] ys = omega arith
greatest-append (x ∷ xs) ys = omega (arith, greatest-append xs ys)

-- the text of an empty tree
pub text-empty : text Empty ≡ 46 ∷ []
unfolding text
text-empty = refl

-- the text of a body
pub text-body : (n : ℕ) → text (Body n) ≡ 98 ∷ decimal n
unfolding text
text-body n = refl

-- the text of a cell is the children's texts between brackets
pub text-cell : (f : ℕ → Tree) → text (cell_of f) ≡ (40 ∷ joined (λ k. text (f k)) 8) ++ (41 ∷ [])
unfolding text
text-cell f = refl

-- an empty tree has no cell
pub keys-empty : (key : ℕ) → cell_keys_from Empty key ≡ []
unfolding cell_keys_from
keys-empty key = refl

-- a body has no cell
pub keys-body : (n key : ℕ) → cell_keys_from (Body n) key ≡ []
unfolding cell_keys_from
keys-body n key = refl

-- the cells of a cell are itself and the children's
pub keys-cell : (f : ℕ → Tree) (key : ℕ) → cell_keys_from (cell_of f) key ≡ key ∷ joined (λ k. cell_keys_from (f k) (8 * key + k)) 8
unfolding cell_keys_from
keys-cell f key = refl
