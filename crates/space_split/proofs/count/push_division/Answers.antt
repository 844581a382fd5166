use Rattle.std.proofs.Common.{arith, ℕ, List, ◌≡◌, ◌+◌, ◌*◌, ◌∙◌, ap, append-nil, get_or, sym}
use Rattle.bh_model.proofs.Pieces.{earlier_more, earlier_none}
use Rattle.space_split.specs.Ranges.{codes_of, earlier_count, octant_count, octant_of_code}
use Rattle.space_split.proofs.Divisions.{codes_count, part_few}
use Rattle.space_split.proofs.Pushes.{cube_parts, key_fits, made_cube, passed, pushed}
use Rattle.space_split.proofs.count.push_division.Goals as goal
use Rattle.space_split.proofs.count.push_division.Goals.{then-count-gt0+in_ok-push-2, else-count-gt0}

pub loop-k-init : goal.loop-k-init
loop-k-init c = (
  omega (arith, earlier_none (λ n. octant_of_code n c.args.level) (codes_of c.args.codes.now c.args.cube)),
  sym (append-nil c.args.next.now.items),
)

pub overflow_mul-key : goal.overflow_mul-key
overflow_mul-key c = omega (arith, key_fits c.args.cube.key c.args.level c.requires.deep c.requires.cube.key_small)

pub overflow_add-key : goal.overflow_add-key
overflow_add-key c = omega (arith, key_fits c.args.cube.key c.args.level c.requires.deep c.requires.cube.key_small, c.from.ensures)

pub overflow_add-start : goal.overflow_add-start
overflow_add-start c =
    omega (
      arith,
      c.loop-k.invariant.0,
      c.requires.counted c.if-cube-most.false c.loop-k.k c.loop-k-test.true,
      part_few (codes_of c.args.codes.now c.args.cube) c.args.level c.loop-k.k,
      codes_count c.args.codes.now c.args.most c.args.level c.args.cube c.requires.cube,
      c.requires.cube.inside,
      c.requires.few,
    )

pub loop-k-preserved : goal.loop-k-preserved
loop-k-preserved c =
    let slice : List ℕ = codes_of c.args.codes.now c.args.cube in
    let n : ℕ = get_or c.args.counts.now c.loop-k.k 0 in
    let count : n ≡ octant_count slice c.args.level c.loop-k.k = c.requires.counted c.if-cube-most.false c.loop-k.k c.loop-k-test.true in
    let start : c.loop-k.start + n ≡ c.args.cube.start + earlier_count slice c.args.level (c.loop-k.k + 1) =
    omega (arith, c.loop-k.invariant.0, count, earlier_more (λ n. octant_of_code n c.args.level) c.loop-k.k slice) in (
      start,
      elim c.if-count-gt0.branch [
        | then-count-gt0+in_ok-push-2 w ↦
            pushed c.args.codes.now c.args.level c.args.cube (made_cube
            (8 * c.args.cube.key + w.from.result) c.loop-k.start n) c.loop-k.k c.args.next.now.items
            c.loop-k.next.items c.if-count-gt0.next.items
            (cube_parts _ _ _ _ _ _ (ap (λ y. 8 * c.args.cube.key + y) w.from.ensures) c.loop-k.invariant.0 count)
            (omega (arith, w.if-count-gt0.true, count)) c.loop-k.invariant.1
            (ap (λ v. v.items) w.next-is ∙ w.in_ok-push-2.ensures.items)
        | else-count-gt0 w ↦
            ap (λ v. v.items) w.next-is
            ∙ passed c.args.codes.now c.args.level c.args.cube c.loop-k.k c.args.next.now.items c.loop-k.next.items (omega
            (arith, w.if-count-gt0.false, count))
            c.loop-k.invariant.1
      ],
    )
