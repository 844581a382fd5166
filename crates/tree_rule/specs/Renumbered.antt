-- Words in which cells stand under other numbers.
use Rattle.std.specs.Prelude.{ℕ, ◌<◌, ◌≡◌}
use Rattle.tree_rule.specs.Words.{Named, NoName, BodyName, CellName, child_place, key_place, named_by, word_of}

-- what is named, a cell by its other number
unfoldable pub renamed : (ℕ → ℕ) → Named → Named
renamed number NoName = NoName
renamed number (BodyName n) = BodyName n
renamed number (CellName c) = CellName (number c)

-- the word, which names a cell by its other number
abbrev pub renumbered : (ℕ → ℕ) → ℕ → ℕ
renumbered number w = word_of (renamed number (named_by w))

-- Each cell of a set stands under another number, no two under one, with the same key and with child words that name the other numbers.
pub record AreRenumbered (at at' : ℕ → ℕ) (IsCell : ℕ → Type 0) (number : ℕ → ℕ) : Type 0 where
  pub once : (c d : ℕ) → IsCell c → IsCell d → number c ≡ number d → c ≡ d
  pub keys : (c : ℕ) → IsCell c → at' (key_place (number c)) ≡ at (key_place c)
  pub children : (c k : ℕ) → IsCell c → k < 8 → at' (child_place (number c) k) ≡ renumbered number (at (child_place c k))

-- the other number of a cell of a set
abbrev pub IsNumberOf : (ℕ → ℕ) → (ℕ → Type 0) → ℕ → Type 0
IsNumberOf number IsCell d = (c : ℕ) × IsCell c × (d ≡ number c)
