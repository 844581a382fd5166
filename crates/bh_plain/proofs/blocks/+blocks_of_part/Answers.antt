use Rattle.std.proofs.Common.{arith, ◌≡◌, ◌+◌, ◌-◌, ◌∙◌, ap, sym, length}
use Rattle.std.proofs.lemmas.Bool.{eqb-true}
use Rattle.octant_code.specs.Points.{site_at}
use Rattle.bh_model.specs.Trees.{in_octant}
use Rattle.bh_model.proofs.Blocks.{octant_blocks}
use Rattle.bh_model.proofs.Splits.{list_has_some, octants_within}
use Rattle.bh_model.proofs.Totals.{sum_upto, sum_upto-none, sum_upto-more}
use Rattle.bh_plain.proofs.ListBlocks.{octant_part, blocks_of_alone, blocks_of_deep, blocks_of_none, blocks_of_split, split_few}
use Rattle.bh_plain.proofs.blocks.+blocks_of_part.Goals as goal

pub returns-then-is_empty : goal.returns-then-is_empty
returns-then-is_empty t c =
    blocks_of_none (site_at c.args.points.now) (21 - c.args.level) c.args.level c.args.bodies.now c.args.others.now
    (eqb-true (length c.args.bodies.now) 0 (sym c.is_empty.ensures ∙ c.if-is_empty.true))

pub returns-then-is_empty-2 : goal.returns-then-is_empty-2
returns-then-is_empty-2 t c =
    blocks_of_alone (site_at c.args.points.now) (21 - c.args.level) c.args.level c.args.bodies.now c.args.others.now
    (list_has_some (length c.args.bodies.now) c.is_empty.result c.is_empty.ensures c.if-is_empty.false)
    (eqb-true (length c.args.others.now) 0 (sym c.is_empty-2.ensures ∙ c.if-is_empty-2.true))

pub returns-then-level-eq-LEVELS : goal.returns-then-level-eq-LEVELS
returns-then-level-eq-LEVELS t c =
    blocks_of_deep (site_at c.args.points.now) c.args.level c.args.bodies.now c.args.others.now
    (list_has_some (length c.args.bodies.now) c.is_empty.result c.is_empty.ensures c.if-is_empty.false)
    (list_has_some (length c.args.others.now) c.is_empty-2.result c.is_empty-2.ensures c.if-is_empty-2.false) (omega arith)

pub loop-k-init : goal.loop-k-init
loop-k-init t c = sym (sum_upto-none _)

pub blocks_of_part-requires : goal.blocks_of_part-requires
blocks_of_part-requires t c =
    let site = site_at c.args.points.now in
    let part : c.deref.result.now ≡ in_octant site c.args.level c.loop-k.k c.args.bodies.now = c.deref.ensures.value ∙ c.in_ok-part.ensures in
    let rest : c.deref-in-loop-k.result.now ≡ in_octant site c.args.level c.loop-k.k c.args.others.now = c.deref-in-loop-k.ensures.value
    ∙ c.in_ok-rest.ensures in (
      omega arith,
      (
        octants_within c.args.points.now c.args.level c.loop-k.k c.args.bodies.now c.deref.result.now (length c.args.points.now) part c.requires.within,
        (
          octants_within c.args.points.now c.args.level c.loop-k.k c.args.others.now c.deref-in-loop-k.result.now (length c.args.points.now) rest
              c.requires.others_within,
          omega arith,
        ),
      ),
    )

pub overflow_add-sum : goal.overflow_add-sum
overflow_add-sum t c =
    let few = split_few (site_at c.args.points.now) c.args.level c.loop-k.k c.args.bodies.now c.args.others.now
    (list_has_some (length c.args.bodies.now) c.is_empty.result c.is_empty.ensures c.if-is_empty.false)
    (list_has_some (length c.args.others.now) c.is_empty-2.result c.is_empty-2.ensures c.if-is_empty-2.false) (omega arith) (omega arith) in
    let one = octant_part (site_at c.args.points.now) c.args.level c.loop-k.k c.args.bodies.now c.args.others.now c.deref.result.now
    c.deref-in-loop-k.result.now c.in_ok-sum.field-0 (c.deref.ensures.value ∙ c.in_ok-part.ensures)
    (c.deref-in-loop-k.ensures.value ∙ c.in_ok-rest.ensures) c.in_ok-sum.ensures in
    omega (arith, few, one, c.loop-k.invariant)

pub loop-k-preserved : goal.loop-k-preserved
loop-k-preserved t c =
    let one = octant_part (site_at c.args.points.now) c.args.level c.loop-k.k c.args.bodies.now c.args.others.now c.deref.result.now
    c.deref-in-loop-k.result.now c.in_ok-sum.field-0 (c.deref.ensures.value ∙ c.in_ok-part.ensures)
    (c.deref-in-loop-k.ensures.value ∙ c.in_ok-rest.ensures) c.in_ok-sum.ensures in
    omega (
      arith,
      one,
      c.loop-k.invariant,
      sum_upto-more (octant_blocks (site_at c.args.points.now) (21 - (c.args.level + 1)) c.args.level c.args.bodies.now c.args.others.now) c.loop-k.k,
    )

pub returns : goal.returns
returns t c =
    let all : c.loop-k.k ≡ 8 = omega arith in
    c.loop-k.invariant
    ∙ ap (λ y. sum_upto (octant_blocks (site_at c.args.points.now) (21 - (c.args.level + 1)) c.args.level c.args.bodies.now c.args.others.now) y) all
    ∙ blocks_of_split (site_at c.args.points.now) c.args.level c.args.bodies.now c.args.others.now
    (list_has_some (length c.args.bodies.now) c.is_empty.result c.is_empty.ensures c.if-is_empty.false)
    (list_has_some (length c.args.others.now) c.is_empty-2.result c.is_empty-2.ensures c.if-is_empty-2.false) (omega arith)
