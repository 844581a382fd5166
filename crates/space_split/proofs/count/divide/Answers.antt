use Rattle.std.proofs.Common.{ℕ, ◌≡◌, ◌<◌, [], arith, get_or, List, subst, sym}
use Rattle.space_split.specs.Ranges.{codes_of, octant_count}
use Rattle.space_split.specs.declared.cube.Cube.{Cube}
use Rattle.space_split.proofs.Pushes.{at_place}
use Rattle.space_split.proofs.count.divide.Goals as goal

pub index-requires : goal.index-requires
index-requires g c =
    let counted = at_place (λ (cube : Cube) counts. c.args.most < cube.count → (k : ℕ) → k < 8
    → get_or counts k 0 ≡ octant_count (codes_of c.args.codes.now cube) c.args.level k)
    c.args.cubes.now c.in_ok-counts.counts.items c.loop-i.i (record { key = 0; start = 0; count = 0 }) [] c.in_ok-counts.ensures c.loop-i-test.true in
    omega (arith, counted.0, c.in_ok-counts.counts.ok.0)

pub push_division-requires-clause-counted : goal.push_division-requires-clause-counted
push_division-requires-clause-counted g c =
    let R : Cube → List ℕ → Type 0 = λ cube counts. c.args.most < cube.count → (k : ℕ) → k < 8
    → get_or counts k 0 ≡ octant_count (codes_of c.args.codes.now cube) c.args.level k in
    let counted = at_place R c.args.cubes.now c.in_ok-counts.counts.items c.loop-i.i (record { key = 0; start = 0; count = 0 }) c.index.result.now
    c.in_ok-counts.ensures c.loop-i-test.true in
    subst (R (get_or c.args.cubes.now c.loop-i.i (record { key = 0; start = 0; count = 0 }))) (sym c.index.ensures) counted.1
