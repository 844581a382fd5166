-- What a word says.
use Rattle.std.specs.Prelude.{ℕ, ◌≡◌}
use Rattle.tree_rule.specs.Words.{body_word, cell_word}
use Rattle.octree.specs.declared.node.Node.{Node}
use Rattle.octree.specs.declared.node.Node.TheVariants.{Empty, Body, Cell}

-- the node that a word names
abbrev pub IsNodeOf : ℕ → Node → Type 0
IsNodeOf w Empty = w ≡ 0
IsNodeOf w (Body n) = w ≡ body_word n
IsNodeOf w (Cell c) = w ≡ cell_word c.0
