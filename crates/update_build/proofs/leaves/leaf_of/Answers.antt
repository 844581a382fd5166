use Rattle.std.proofs.Common.{ℕ, ◌≡◌, ◌<◌, ◌^◌, arith, sym, ◌∙◌, ap, subst}
use Rattle.std.proofs.lemmas.List.{get_or_read}
use Rattle.octant_code.specs.Points.{site_at}
use Rattle.octant_code.specs.Space.{key_of, octant_of}
use Rattle.tree_rule.specs.Words.{at_of, cell_word}
use Rattle.update_build.proofs.Contracting.{names_no_cell}
use Rattle.update_build.proofs.WaysDown.{way_down, way_end, way_first, way_shallow, way_small}
use Rattle.update_build.proofs.leaves.leaf_of.Goals.{After-index, In-Cell}
use Rattle.update_build.proofs.leaves.leaf_of.Goals as goal

-- the word at the place
read : (c : After-index) → c.index.result.now ≡ at_of c.args.words.now.items c.down.place
read c = get_or_read c.args.words.now.items c.down.place c.index.result.now c.down.invariant.inside c.index.ensures 0

-- names the cell, whose level has cells
here : (c : In-Cell) → at_of c.args.words.now.items c.down.place ≡ cell_word c.in-Cell.cell
here c = sym (get_or_read c.args.words.now.items c.down.place c.index.result.now c.down.invariant.inside c.index.ensures 0) ∙ c.in-Cell.ensures

shallow : (c : In-Cell) → c.down.level < 21
shallow c =
    way_shallow c.args.points.now c.args.words.now.items c.requires.words c.args.n c.down.place c.down.level c.down.invariant c.in-Cell.cell (here c)

pub down-init : goal.down-init
down-init c = way_first c.args.points.now c.args.words.now.items c.requires.words c.args.n

pub named_by-requires : goal.named_by-requires
named_by-requires c =
    subst (λ (w : ℕ). w < 2 ^ 33) (sym (read (goal.at.named_by-requires c).After-index))
    (way_small c.args.points.now c.args.words.now.items c.requires.words c.len-rule.ensures.rule (key_of (site_at c.args.points.now c.args.n) c.down.level)
    c.down.place c.down.invariant.there)

pub returns-in_default : goal.returns-in_default
returns-in_default c = record {
  leaf = way_end c.args.points.now c.args.words.now.items c.requires.words c.args.n c.down.place c.down.level c.down.invariant
      ((c.requires.words.bodies c.args.n).1 c.requires.there)
      (λ d e. names_no_cell c.index.result.now c.named_by.result c.named_by.ensures c.in_default.not-Cell d
      (read (goal.at.returns-in_default c).After-index ∙ e));
  shallow = c.down.invariant.shallow;
  inside = c.down.invariant.inside;
}

pub octant-requires : goal.octant-requires
octant-requires c = shallow (goal.at.octant-requires c).In-Cell

pub down-smaller : goal.down-smaller
down-smaller c = omega (arith, shallow (goal.at.down-smaller c).In-Cell)

pub down-preserved : goal.down-preserved
down-preserved c =
    way_down c.args.points.now c.args.words.now.items c.requires.words c.args.n c.down.place c.down.level c.down.invariant c.in-Cell.cell c.octant.result
    c.place_of_child-place.result (here (goal.at.down-preserved c).In-Cell)
    (c.octant.ensures.value ∙ ap (λ s. octant_of s c.down.level) c.at-p.ensures.value) c.place_of_child-place.ensures
