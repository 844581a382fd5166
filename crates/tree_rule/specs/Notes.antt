-- What a pass may note of the published words, and what stays true of it while others publish.
use Rattle.std.specs.Prelude.{ℕ, ◌≡◌, ◌⊎◌}
use Rattle.tree_rule.specs.Words.{body_word, cell_word, key_place}
use Rattle.tree_rule.specs.Flat.{IsPlaceOf}

-- the cell is published and has the key
abbrev pub IsPublishedAs : (ℕ → ℕ) → (ℕ → Type 0) → ℕ → ℕ → Type 0
IsPublishedAs at IsCell c key = IsCell c × (at (key_place c) ≡ key)

-- the word names the body, or a cell
abbrev pub NamesItOrCell : ℕ → ℕ → Type 0
NamesItOrCell w n = (w ≡ body_word n) ⊎ ((c : ℕ) × (w ≡ cell_word c))

-- The word at a place is published. It named a body, and names it still or names a cell.
pub record HasNamed (at : ℕ → ℕ) (root base : ℕ) (IsCell : ℕ → Type 0) (place n : ℕ) : Type 0 where
  pub key : ℕ
  pub published : IsPlaceOf at root base IsCell key place
  pub remains : NamesItOrCell (at place) n

-- The words are later ones: published cells stay published with their keys, and of the published words each stays, was empty, or names a cell now.
pub record AreLater (at at' : ℕ → ℕ) (root base : ℕ) (IsCell IsLaterCell : ℕ → Type 0) : Type 0 where
  pub cells_stay : (c : ℕ) → IsCell c → IsLaterCell c
  pub keys_stay : (c : ℕ) → IsCell c → at' (key_place c) ≡ at (key_place c)
  pub words_go_on : (key place : ℕ) → IsPlaceOf at root base IsCell key place
      → (at' place ≡ at place) ⊎ ((at place ≡ 0) ⊎ ((c : ℕ) × (at' place ≡ cell_word c)))
