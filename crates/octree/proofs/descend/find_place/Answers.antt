use Rattle.std.proofs.Common.{arith, ◌≡◌, ◌+◌, ◌<◌, ◌^◌, ℕ, ap, sym, subst, ◌∙◌}
use Rattle.std.proofs.lemmas.List.{get_or_read}
use Rattle.octant_code.specs.Space.{key_of, octant_of}
use Rattle.octant_code.specs.Points.{site_at}
use Rattle.octree.proofs.Descents.{StepsDown, place_read, stepped}
use Rattle.tree_rule.specs.Flat.{IsPlaceOf}
use Rattle.tree_rule.specs.Words.{HasCell, at_of, child_place}
use Rattle.octree.proofs.descend.find_place.Goals.{In-Cell}
use Rattle.octree.proofs.descend.find_place.Goals as goal

pub named_by-requires : goal.named_by-requires
named_by-requires c =
    let words = c.args.words.now.items in
    let read = get_or_read words c.down.place c.index.result.now c.down.invariant.inside c.index.ensures 0 in
    subst (λ (w : ℕ). w < 2 ^ 33) (sym read) (c.requires.small _ (place_read words (key_of (site_at c.args.points.now c.args.n) c.args.from) _ c.down.place
    c.down.invariant.there))

-- the word names a cell, which leads one level down
step : (c : In-Cell) → StepsDown c.args.words.now.items (key_of (site_at c.args.points.now c.args.n) c.args.from) (site_at c.args.points.now c.args.n)
    c.down.place c.down.level
    c.in-Cell.cell
step c =
    stepped c.args.points.now c.args.words.now.items c.args.n c.args.from c.down.place c.down.level c.index.result.now c.in-Cell.cell c.requires.stands
    c.down.invariant c.index.ensures
    c.in-Cell.ensures

pub octant-requires : goal.octant-requires
octant-requires c = omega (arith, (step c).shallow)

pub down-smaller : goal.down-smaller
down-smaller c = omega (arith, (step (goal.at.down-smaller c).In-Cell).shallow)

pub down-preserved : goal.down-preserved
down-preserved c =
    let s = step (goal.at.down-preserved c).In-Cell in
    let site = site_at c.args.points.now c.args.n in
    let words = c.args.words.now.items in
    let octant : octant_of site c.down.level ≡ c.octant.result = sym (c.octant.ensures.value ∙ ap (λ t. octant_of t c.down.level) c.at-p.ensures.value) in
    let place : child_place c.in-Cell.cell (octant_of site c.down.level) ≡ c.place_of_child-place.result = ap (child_place c.in-Cell.cell) octant
    ∙ sym c.place_of_child-place.ensures in
    record {
      there = subst (λ (y : ℕ). IsPlaceOf (at_of words) 0 (key_of site c.args.from) (HasCell words) (key_of site (c.down.level + 1)) y) place s.there;
      shallow = omega (arith, s.shallow);
      below = omega (arith, c.down.invariant.below);
      inside = omega (arith, c.requires.room c.in-Cell.cell s.has_cell, c.octant.ensures.small, c.place_of_child-place.ensures);
    }
