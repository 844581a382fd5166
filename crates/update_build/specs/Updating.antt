-- What an octree has in common with the one that it was made from.
use Rattle.std.specs.Prelude.{ℕ, ◌≡◌, ◌↔◌, List, Some}
use Rattle.octant_code.specs.Points.{site_at}
use Rattle.octant_code.specs.Space.{Site}
use Rattle.bh_model.specs.Bodies.{IsIn, NoneTwice}
use Rattle.bh_model.specs.Trees.{HasCellAt, Tree, octree}
use Rattle.octree.specs.Numbers.{IsNumberOf}
use Rattle.octree.specs.Stored.{Stored, tree_of}
use Rattle.tree_rule.specs.Words.{HasBody}
use Rattle.octree.specs.declared.node.CellNo.{CellNo}

-- each cell of a tree has the same number in two octrees
abbrev pub KeepsNumbers : Tree → Stored → Stored → Type 0
KeepsNumbers tree old new = (key : ℕ) → HasCellAt tree key → (cell : CellNo) × IsNumberOf old key (Some cell) × IsNumberOf new key (Some cell)

-- the tree of an octree is the canonical one of any list of its bodies
abbrev pub IsTreeOfItsBodies : List Site → Stored → Type 0
IsTreeOfItsBodies sites o = (bodies : List ℕ) → NoneTwice bodies → ((n : ℕ) → HasBody o.words n ↔ IsIn bodies n) → tree_of o ≡ octree (site_at sites) bodies
