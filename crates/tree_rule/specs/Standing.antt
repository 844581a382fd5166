-- What it is for words to stand for a list of bodies, as one says it aloud: which words are published, and that each cell and each body is
-- named by exactly one of them. It is said from a root word on, with the key of its cube. The whole tree's stands at place 0 and has key 1. A
-- part, which a word is to publish, is said of the words as they are once that word is written, and has that word as its root.
use Rattle.std.specs.Prelude.{ℕ, ◌*◌, ◌^◌, ◌<◌, ◌≤◌, ◌≡◌, List, ◌++◌}
use Rattle.octant_code.specs.declared.limits.TheConstants.{LEVELS}
use Rattle.octant_code.specs.Space.{Site, IsUnder}
use Rattle.octant_code.specs.Points.{site_at}
use Rattle.bh_model.specs.Bodies.{IsIn, NoneTwice, HasMoreUnder}
use Rattle.tree_rule.specs.Words.{NamesBody, NamesCell, at_of, key_place}
use Rattle.tree_rule.specs.Flat.{IsPlaceOf}

-- the word at a place is published, and the key is that of its cube: it is the root word, or a child word of a cell of the list
abbrev pub IsPublished : (ℕ → ℕ) → ℕ → ℕ → List ℕ → ℕ → ℕ → Type 0
IsPublished at root base cells key place = IsPlaceOf at root base (IsIn cells) key place

-- Exactly one published word names it: there is one, and every other that names it stands at the same place.
pub record IsNamedOnce (at : ℕ → ℕ) (root base : ℕ) (cells : List ℕ) (NamesIt : ℕ → Type 0) : Type 0 where
  pub key : ℕ
  pub place : ℕ
  pub published : IsPublished at root base cells key place
  pub named : NamesIt (at place)
  pub no_other : (other_key other : ℕ) → IsPublished at root base cells other_key other → NamesIt (at other) → other ≡ place

-- a key is that of a cube of one of the levels that cells have, 0 to 20
abbrev pub IsCellKey : ℕ → Type 0
IsCellKey key = (level : ℕ) × (level < LEVELS) × (8 ^ level ≤ key) × (key < 2 * 8 ^ level)

-- The published words name exactly the cells and the bodies of two lists, each in its cube. The list `others` has the cell numbers that are
-- told elsewhere: private ones, those of regions, and those that are not given out.
pub record NamesExactly (site : ℕ → Site) (at : ℕ → ℕ) (root base : ℕ) (cells others bodies : List ℕ) : Type 0 where
  -- no two cells have one key, and each has that of a cube of level 0 to 20
  pub keys_differ : (c d : ℕ) → IsIn cells c → IsIn cells d → at (key_place c) ≡ at (key_place d) → c ≡ d
  pub levels : (c : ℕ) → IsIn cells c → IsCellKey (at (key_place c))
  -- a published word that names a cell names one of the list, whose key is the word's
  pub names_cell : (key place c : ℕ) → IsPublished at root base cells key place → NamesCell (at place) c → IsIn cells c × (at (key_place c) ≡ key)
  -- each cell and each body is named by exactly one published word
  pub cell_once : (c : ℕ) → IsIn cells c → IsNamedOnce at root base cells (λ w. NamesCell w c)
  pub body_once : (n : ℕ) → IsIn bodies n → IsNamedOnce at root base cells (λ w. NamesBody w n)
  -- a published word that names a body names one of the list, whose point lies under the word's key
  pub names_body : (key place n : ℕ) → IsPublished at root base cells key place → NamesBody (at place) n → IsIn bodies n × IsUnder key (site n)
  -- under the key of each cell lie more bodies of the list than a leaf holds
  pub more_under : (c : ℕ) → IsIn cells c → HasMoreUnder site bodies (at (key_place c))
  -- no cell number stands twice among the published cells and the others
  pub none_twice : NoneTwice (cells ++ others)

-- the published words of a list name exactly the cells and the bodies of two lists
abbrev pub WordsNameExactly : List Site → List ℕ → ℕ → ℕ → List ℕ → List ℕ → List ℕ → Type 0
WordsNameExactly sites words root base cells others bodies = NamesExactly (site_at sites) (at_of words) root base cells others bodies
