-- What a word names, as it is read.
use Rattle.std.specs.Prelude.{ℕ, ◌≡◌}
use Rattle.tree_rule.specs.Words.{body_word, cell_word}
use Rattle.tree_rule.specs.declared.words.Named.{Named}
use Rattle.tree_rule.specs.declared.words.Named.TheVariants.{Nothing, Body, Cell}

-- the word says what is named
abbrev pub NamesAs : ℕ → Named → Type 0
NamesAs w Nothing = w ≡ 0
NamesAs w (Body n) = w ≡ body_word n
NamesAs w (Cell c) = w ≡ cell_word c
