-- What the test of a table of words tries, part by part.
use Rattle.std.specs.Prelude.{ℕ, ◌+◌, ◌*◌, ◌<◌, ◌≡◌, ◌≢◌, ◌⊎◌, List}
use Rattle.octant_code.specs.Space.{Site, IsUnder}
use Rattle.bh_model.specs.Bodies.{IsIn, HasMoreUnder}
use Rattle.tree_rule.specs.Words.{child_place, key_place, body_word, cell_word}
use Rattle.tree_rule.specs.Standing.{IsPublished, IsCellKey}

-- Some published word is `w`.
pub record IsNamedSomewhere (at : ℕ → ℕ) (cells : List ℕ) (w : ℕ) : Type 0 where
  pub key : ℕ
  pub place : ℕ
  pub published : IsPublished at 0 1 cells key place
  pub named : at place ≡ w

-- Some child word of the cell is `w`.
pub record IsChildWord (at : ℕ → ℕ) (c w : ℕ) : Type 0 where
  pub child : ℕ
  pub small : child < 8
  pub named : at (child_place c child) ≡ w

-- the word names a body of the list, which lies under the key
abbrev pub NamesBodyUnder : (ℕ → Site) → List ℕ → ℕ → ℕ → Type 0
NamesBodyUnder site bodies key w = (n : ℕ) × (w ≡ body_word n) × IsIn bodies n × IsUnder key (site n)

-- the word names a cell of the list, which has the key
abbrev pub NamesCellOf : (ℕ → ℕ) → List ℕ → ℕ → ℕ → Type 0
NamesCellOf at cells key w = (c : ℕ) × (w ≡ cell_word c) × IsIn cells c × (at (key_place c) ≡ key)

-- the word of the cube of a key names nothing, or a body of the list that lies in the cube, or a cell of the list that has the key
abbrev pub NamesRightly : (ℕ → Site) → (ℕ → ℕ) → List ℕ → List ℕ → ℕ → ℕ → Type 0
NamesRightly site at cells bodies key w = (w ≡ 0) ⊎ (NamesBodyUnder site bodies key w ⊎ NamesCellOf at cells key w)

-- no other cell of the list has the cell's key
abbrev pub HasOwnKey : (ℕ → ℕ) → List ℕ → ℕ → Type 0
HasOwnKey at cells c = (d : ℕ) → IsIn cells d → at (key_place c) ≡ at (key_place d) → c ≡ d

-- each child word of the cell names rightly
abbrev pub ChildrenNameRightly : (ℕ → Site) → (ℕ → ℕ) → List ℕ → List ℕ → ℕ → Type 0
ChildrenNameRightly site at cells bodies c = (k : ℕ) → k < 8 → NamesRightly site at cells bodies (8 * at (key_place c) + k) (at (child_place c k))

-- The cell has the key of a cube of its own that holds more bodies than a leaf, some published word names it, and its child words name rightly.
pub record IsRightCell (site : ℕ → Site) (at : ℕ → ℕ) (cells bodies : List ℕ) (c : ℕ) : Type 0 where
  pub level : IsCellKey (at (key_place c))
  pub own_key : HasOwnKey at cells c
  pub more_under : HasMoreUnder site bodies (at (key_place c))
  pub named : IsNamedSomewhere at cells (cell_word c)
  pub children : ChildrenNameRightly site at cells bodies c

-- A body of the list other than `one` lies under the key.
pub record HasOtherUnder (site : ℕ → Site) (bodies : List ℕ) (key one : ℕ) : Type 0 where
  pub other : ℕ
  pub other_in : IsIn bodies other
  pub differ : one ≢ other
  pub other_under : IsUnder key (site other)
