use Rattle.std.proofs.Common.{◌≡◌, ◌∙◌, ap, arith, length, map, subst, sum_by, sym}
use Rattle.std.specs.List.Sorted.{IsPermutation}
use Rattle.rayon.proofs.ListFacts.{IfOk-then}
use Rattle.octant_code.specs.Points.{site_at}
use Rattle.bh_model.specs.Bodies.{numbers}
use Rattle.bh_model.specs.Pieces.{cubes_from}
use Rattle.space_split.specs.Ranges.{AreCodes, octant_of_code, pair_of}
use Rattle.space_split.specs.declared.codes.Coded.{Coded}
use Rattle.space_split.specs.declared.cube.Cube.{Cube}
use Rattle.space_split.proofs.Coded.{as_many, code_of, counts_are_all, pieces_of_codes}
use Rattle.space_split.proofs.Sorting.{codes_are, codes_moved}
use Rattle.space_split.proofs.split.pieces.Given.{Over}
use Rattle.space_split.proofs.split.pieces.Goals.{In_ok-codes}
use Rattle.space_split.proofs.split.pieces.Goals as goal

-- the codes are those of the bodies
own : (g : Over) (c : In_ok-codes g) → c.in_ok-codes.codes.items ≡ map (λ (b : Coded). b.code) c.in_ok-bodies.bodies.items
own g c = c.in_ok-codes.ensures ∙ ap (map (λ (b : Coded). b.code)) c.deref.ensures.value

-- and those of all points in another order
moved : (g : Over) (c : In_ok-codes g)
    → IsPermutation (map (λ n. code_of (site_at c.args.points.now n)) (numbers (length c.args.points.now))) c.in_ok-codes.codes.items
moved g c =
    subst (IsPermutation (map (λ n. code_of (site_at c.args.points.now n)) (numbers (length c.args.points.now)))) (sym (own g c))
    (codes_moved c.args.points.now c.in_ok-bodies.bodies.items c.in_ok-bodies.ensures)

pub undivided_cubes-requires-clause-few : goal.undivided_cubes-requires-clause-few
undivided_cubes-requires-clause-few g c κs h =
    let codes = (goal.at.undivided_cubes-requires-clause-few g c).In_ok-codes in
    let many : length c.deref-2.result.now ≡ length c.args.points.now =
    ap length c.deref-2.ensures.value ∙ as_many (site_at c.args.points.now) (length c.args.points.now) c.in_ok-codes.codes.items (moved g codes) in
    omega (arith, many, c.len-count.ensures.rule.few)

pub undivided_cubes-requires-clause-rule : goal.undivided_cubes-requires-clause-rule
undivided_cubes-requires-clause-rule g c κs h =
    let codes = (goal.at.undivided_cubes-requires-clause-rule g c).In_ok-codes in
    subst AreCodes (sym (c.deref-2.ensures.value ∙ own g codes)) (codes_are c.args.points.now c.in_ok-bodies.bodies.items c.in_ok-bodies.ensures)

pub deal-requires-clause-whole : goal.deal-requires-clause-whole
deal-requires-clause-whole g c =
    let codes = (goal.at.deal-requires-clause-whole g c).In_ok-codes in
    ap (sum_by (λ (q : Cube). q.count)) c.deref-3.ensures.value
    ∙ counts_are_all c.piece_limit.result c.deref-2.result.now c.in_ok-cubes.cubes.items c.in_ok-cubes.ensures.cubes ∙ ap length c.deref-2.ensures.value
    ∙ as_many (site_at c.args.points.now) (length c.args.points.now) c.in_ok-codes.codes.items (moved g codes) ∙ sym c.len-count.ensures.value

pub returns : goal.returns
returns g c =
    let codes = (goal.at.returns g c).In_ok-codes in
    IfOk-then c.deal.result _ _ c.deal.ensures (λ v h.
    h
    ∙ pieces_of_codes (site_at c.args.points.now) (length c.args.points.now) c.len-count.result c.piece_limit.result c.args.workers c.in_ok-codes.codes.items
    (map pair_of c.deref-3.result.now) (moved g codes) c.len-count.ensures.value c.piece_limit.ensures
    (ap (map pair_of) c.deref-3.ensures.value ∙ c.in_ok-cubes.ensures.cubes
    ∙ ap (cubes_from octant_of_code c.piece_limit.result 21 0 1) c.deref-2.ensures.value))
