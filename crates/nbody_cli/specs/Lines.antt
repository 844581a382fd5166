-- The lines of texts.
use Rattle.std.specs.Prelude.{ℕ, ℤ, List, [], ◌∷◌, ◌++◌, codes, decimal}
use Rattle.std.specs.Fmt.{signed_decimal}
use Rattle.std.specs.List.{flat_map}
use Rattle.bh_model.specs.Trees.{Tree, text}

-- what stands in a line behind its first word: words, numbers, lists of numbers, and whole numbers with a sign
pub data LineItem : Type 0 where
  Word : List ℕ → LineItem
  Number : ℕ → LineItem
  Numbers : List ℕ → LineItem
  Signed : ℤ → LineItem

-- a line: a tree, or a first word and what stands behind it
pub data TextLine : Type 0 where
  TreeLine : Tree → TextLine
  Words : List ℕ → List LineItem → TextLine

-- a number in decimal, after a space
abbrev pub number_text : ℕ → List ℕ
number_text n = 32 ∷ decimal n

-- the text of an item
abbrev pub item_text : LineItem → List ℕ
item_text (Word word) = 32 ∷ word
item_text (Number n) = number_text n
item_text (Numbers list) = flat_map number_text list
item_text (Signed z) = 32 ∷ signed_decimal z

-- the text of items
abbrev pub items_text : List LineItem → List ℕ
items_text items = flat_map item_text items

abbrev pub newline : List ℕ
newline = 10 ∷ []

-- the text of a line up to its newline
abbrev pub line_start : TextLine → List ℕ
line_start (TreeLine tree) = codes "tree " ++ text tree
line_start (Words word items) = word ++ items_text items

-- the text of a line
abbrev pub line_text : TextLine → List ℕ
line_text line = line_start line ++ newline

-- the text of lines
abbrev pub lines_text : List TextLine → List ℕ
lines_text lines = flat_map line_text lines
