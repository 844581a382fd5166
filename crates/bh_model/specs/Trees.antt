-- Octrees of bodies, the canonical octree of a list of bodies, and the order, the depth and the text of a tree.
use Rattle.std.specs.Prelude.{ℕ, ◌+◌, ◌*◌, zero, suc, max, eqb, List, [], ◌∷◌, ◌++◌, filter, length, decimal}
use Rattle.octant_code.specs.declared.limits.TheConstants.{LEVELS}
use Rattle.octant_code.specs.Space.{Site, octant_of}
use Rattle.bh_model.specs.Bodies.{IsIn}

-- an octree: empty, one body, or a cell of eight octrees
pub data Tree : Type 0 where
  Empty : Tree
  Body : ℕ → Tree
  Cell : Tree → Tree → Tree → Tree → Tree → Tree → Tree → Tree → Tree

-- the cell of eight children
abbrev pub cell_of : (ℕ → Tree) → Tree
cell_of child = Cell (child 0) (child 1) (child 2) (child 3) (child 4) (child 5) (child 6) (child 7)

-- the bodies whose point has an octant at a level
abbrev pub in_octant : (ℕ → Site) → ℕ → ℕ → List ℕ → List ℕ
in_octant site level k bodies = filter (λ n. eqb (octant_of (site n) level) k) bodies

-- the canonical octree of a list of bodies of one cube of a level, with as many levels below it: divide until each cube holds at most one body
unfoldable pub octree_from : (ℕ → Site) → ℕ → ℕ → List ℕ → Tree
octree_from site below level [] = Empty
octree_from site below level (n ∷ []) = Body n
octree_from site zero level (n ∷ m ∷ rest) = Empty
octree_from site (suc below) level (n ∷ m ∷ rest) =
    cell_of (λ k. octree_from site below (suc level) (in_octant site level k (n ∷ m ∷ rest)))

-- the canonical octree of a list of bodies
abbrev pub octree : (ℕ → Site) → List ℕ → Tree
octree site bodies = octree_from site LEVELS 0 bodies

-- the keys of the cells of a tree whose cube has a key: child k of the cell with key c has the key 8c + k
unfoldable pub cell_keys_from : Tree → ℕ → List ℕ
cell_keys_from Empty key = []
cell_keys_from (Body n) key = []
cell_keys_from (Cell a b c d e f g h) key =
    key ∷ (cell_keys_from a (8 * key + 0) ++ cell_keys_from b (8 * key + 1) ++ cell_keys_from c (8 * key + 2) ++ cell_keys_from d (8 * key + 3)
    ++ cell_keys_from e (8 * key + 4) ++ cell_keys_from f (8 * key + 5) ++ cell_keys_from g (8 * key + 6) ++ cell_keys_from h (8 * key + 7))

-- the tree of the whole cube has a cell at the key
abbrev pub HasCellAt : Tree → ℕ → Type 0
HasCellAt tree key = IsIn (cell_keys_from tree 1) key

-- how many cells a tree has
abbrev pub cell_count : Tree → ℕ
cell_count tree = length (cell_keys_from tree 1)

-- the bodies of a tree in tree order
unfoldable pub order : Tree → List ℕ
order Empty = []
order (Body n) = n ∷ []
order (Cell a b c d e f g h) = order a ++ order b ++ order c ++ order d ++ order e ++ order f ++ order g ++ order h

-- the levels of the words of a tree that name a body, one for each, where the tree's own word is of a level
unfoldable pub body_levels_from : Tree → ℕ → List ℕ
body_levels_from Empty level = []
body_levels_from (Body n) level = level ∷ []
body_levels_from (Cell a b c d e f g h) level =
    body_levels_from a (suc level) ++ body_levels_from b (suc level) ++ body_levels_from c (suc level) ++ body_levels_from d (suc level)
    ++ body_levels_from e (suc level) ++ body_levels_from f (suc level) ++ body_levels_from g (suc level) ++ body_levels_from h (suc level)

-- the greatest number of a list, 0 for none
abbrev pub greatest : List ℕ → ℕ
greatest [] = 0
greatest (n ∷ rest) = max n (greatest rest)

-- how many cells stand one inside the other in a tree
unfoldable pub height : Tree → ℕ
height Empty = 0
height (Body n) = 0
height (Cell a b c d e f g h) =
    1 + max (height a) (max (height b) (max (height c) (max (height d) (max (height e) (max (height f) (max (height g) (height h)))))))

-- the depth of a tree: the greatest level of a word that names a body, counted from the tree's own word
abbrev pub depth : Tree → ℕ
depth tree = greatest (body_levels_from tree 0)

-- the text of a tree: `.` for none, `b` and the number for a body, and the children between brackets for a cell
unfoldable pub text : Tree → List ℕ
text Empty = 46 ∷ []
text (Body n) = 98 ∷ decimal n
text (Cell a b c d e f g h) = (40 ∷ (text a ++ text b ++ text c ++ text d ++ text e ++ text f ++ text g ++ text h)) ++ (41 ∷ [])
