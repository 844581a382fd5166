-- The words of an octree: where they stand, what each names, and the tree that they stand for.
-- Word 0 is the root's, its lock and the pool word follow, and then each cell's words: its eight children's, its key and its lock.
use Rattle.std.specs.Prelude.{ℕ, ◌+◌, ◌-◌, ◌*◌, ◌/◌, ◌%◌, ◌<◌, ◌≡◌, zero, suc, cond, eqb, List, [], ◌∷◌, ◌++◌, slice_index}
use Rattle.bh_model.specs.Trees.{Tree, Empty, Body, cell_of}
use Rattle.tree_rule.specs.declared.words.TheConstants.{CELL_WORDS, FIRST_PLACE, KEY_PLACE, LOCK_PLACE}

-- the word at a place of a list
abbrev pub at_of : List ℕ → ℕ → ℕ
at_of words i = slice_index words i

-- the place of the word of a cell's child
abbrev pub child_place : ℕ → ℕ → ℕ
child_place c k = FIRST_PLACE + CELL_WORDS * c + k

-- the place of a cell's key
abbrev pub key_place : ℕ → ℕ
key_place c = KEY_PLACE + CELL_WORDS * c

-- the place of a cell's lock
abbrev pub lock_place : ℕ → ℕ
lock_place c = LOCK_PLACE + CELL_WORDS * c

-- the word that names a body
abbrev pub body_word : ℕ → ℕ
body_word n = 2 * n + 1

-- the word that names a cell
abbrev pub cell_word : ℕ → ℕ
cell_word c = 2 * c + 2

-- What a word may name: nothing, a body, or a cell.
pub data Named : Type 0 where
  NoName : Named
  BodyName : ℕ → Named
  CellName : ℕ → Named

-- the number of the cell that a word names
abbrev pub cell_number : ℕ → ℕ
cell_number w = w / 2 - 1

-- what a word names: 0 nothing, an odd word a body, and an even one a cell
unfoldable pub named_by : ℕ → Named
named_by w = cond (eqb w 0) NoName (cond (eqb (w % 2) 1) (BodyName (w / 2)) (CellName (cell_number w)))

-- the word of what is named
unfoldable pub word_of : Named → ℕ
word_of NoName = 0
word_of (BodyName n) = body_word n
word_of (CellName c) = cell_word c

-- the word names nothing
abbrev pub NamesNothing : ℕ → Type 0
NamesNothing w = named_by w ≡ NoName

-- the word names the body
abbrev pub NamesBody : ℕ → ℕ → Type 0
NamesBody w n = named_by w ≡ BodyName n

-- the word names the cell
abbrev pub NamesCell : ℕ → ℕ → Type 0
NamesCell w c = named_by w ≡ CellName c

-- the tree of what is named, where each cell has one
unfoldable pub tree_of_named : (ℕ → Tree) → Named → Tree
tree_of_named tree NoName = Empty
tree_of_named tree (BodyName n) = Body n
tree_of_named tree (CellName c) = tree c

-- the tree that a word stands for, read to a depth
unfoldable pub tree_from : (ℕ → ℕ) → ℕ → ℕ → Tree
tree_from at zero w = Empty
tree_from at (suc below) w = tree_of_named (λ c. cell_of (λ k. tree_from at below (at (child_place c k)))) (named_by w)

-- the cells of what is named, where others are read below each
unfoldable pub cells_of_named : (ℕ → List ℕ) → Named → List ℕ
cells_of_named others NoName = []
cells_of_named others (BodyName n) = []
cells_of_named others (CellName c) = c ∷ others c

-- the cells that are read below a word, to a depth
unfoldable pub cells_from : (ℕ → ℕ) → ℕ → ℕ → List ℕ
cells_from at zero w = []
cells_from at (suc below) w =
    cells_of_named (λ c. cells_from at below (at (child_place c 0)) ++ cells_from at below (at (child_place c 1)) ++ cells_from at below (at (child_place c 2))
    ++ cells_from at below (at (child_place c 3)) ++ cells_from at below (at (child_place c 4)) ++ cells_from at below (at (child_place c 5))
    ++ cells_from at below (at (child_place c 6)) ++ cells_from at below (at (child_place c 7))) (named_by w)

-- A word that is read on the way down from the top word.
pub data IsReached (at : ℕ → ℕ) (top : ℕ) : ℕ → Type 0 where
  Here : (w : ℕ) → w ≡ top → IsReached at top w
  Below : (c k w : ℕ) → IsReached at top (cell_word c) → k < 8 → w ≡ at (child_place c k) → IsReached at top w

-- a cell that is read on the way down from the root word
abbrev pub HasCell : List ℕ → ℕ → Type 0
HasCell words c = IsReached (at_of words) (at_of words 0) (cell_word c)

-- a body that is read on the way down from the root word
abbrev pub HasBody : List ℕ → ℕ → Type 0
HasBody words n = IsReached (at_of words) (at_of words 0) (body_word n)
