-- What a search answers by.
use Rattle.std.specs.Prelude.{ℕ, ◌≡◌, ◌≢◌, ◌⊎◌, List}
use Rattle.octant_code.specs.Space.{Site}
use Rattle.octant_code.specs.Points.{site_at}
use Rattle.tree_rule.specs.Words.{body_word}

-- the value of a word is empty, or names a body at another point
abbrev pub NamesNoneAt : List Site → Site → ℕ → Type 0
NamesNoneAt sites point value = (value ≡ 0) ⊎ ((y : ℕ) × (value ≡ body_word y) × (site_at sites y ≢ point))
