use Rattle.std.proofs.Common.{subst}
use Rattle.tree_rule.specs.Words.{cell_word}
use Rattle.octree.specs.Spot.{Spot}
use Rattle.octree.specs.Subtree.{IsTopOf}
use Rattle.octree.specs.declared.subtree.Top.TheVariants.{Nothing, Body, Cell}
use Rattle.octree.proofs.Subtrees.{spot_at, spot_small, top_body, top_cell, top_none}
use Rattle.octree.proofs.subtree.Subtree.top.Goals as goal

pub named_by-requires : goal.named_by-requires
named_by-requires c = spot_small _ c.self.invariant

pub returns-in-Nothing : goal.returns-in-Nothing
returns-in-Nothing c =
    subst (λ (s : Spot). IsTopOf s Nothing) c.self.view_is (top_none _ c.in-Nothing.ensures)

pub returns-in-Body : goal.returns-in-Body
returns-in-Body c =
    subst (λ (s : Spot). IsTopOf s (Body c.in-Body.n)) c.self.view_is
    (top_body _ c.in-Body.n c.self.invariant c.in-Body.ensures)

pub returns-in-Cell : goal.returns-in-Cell
returns-in-Cell c =
    subst (λ (s : Spot). IsTopOf s (Cell (spot_at c.self.inside.octree.now (cell_word c.in-Cell.c)))) c.self.view_is
    (top_cell _ c.in-Cell.c c.self.invariant c.in-Cell.ensures)
