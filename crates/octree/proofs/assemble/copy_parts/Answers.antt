use Rattle.std.proofs.Common.{ℕ, List, arith, get_or, length, subst, sym, refl}
use Rattle.octree.proofs.Assembling.{filled_more, filled_none, item_at, next_free, part_source}
use Rattle.octree.specs.Growing.{AreFilled, IsCopied, IsFreePlace, cells_in}
use Rattle.octree.proofs.assemble.copy_parts.Goals as goal

pub loop-i-init : goal.loop-i-init
loop-i-init c =
    subst (λ (l : List ℕ). AreFilled c.args.points.now c.args.parts.now l c.args.places.now (cells_in c.args.words.now.items) 0)
    (sym c.in_ok-reserve.ensures.items)
    (filled_none c.args.points.now c.args.parts.now c.requires.parts.order c.args.words.now.items c.args.places.now (length c.args.parts.now) refl
    c.requires.placed)

pub copy_below-requires-clause-source : goal.copy_below-requires-clause-source
copy_below-requires-clause-source c =
    let o = c.index-parts-i.result in
    part_source c.args.points.now c.args.parts.now c.requires.parts c.loop-i.i o c.base.result c.word_at.result
    (item_at c.args.parts.now c.loop-i.i o c.loop-i-test.true c.index-parts-i.is) c.base.ensures.value c.word_at.ensures

pub copy_below-requires-clause-place : goal.copy_below-requires-clause-place
copy_below-requires-clause-place c =
    let o = c.index-parts-i.result in
    subst (λ (y : ℕ). IsFreePlace c.loop-i.words.items y (get_or c.args.places.now c.loop-i.i 0)) (sym c.base.ensures.value)
    (next_free c.args.points.now c.args.parts.now c.requires.parts.order c.loop-i.words.items c.args.places.now (cells_in c.args.words.now.items) c.loop-i.i
    (get_or c.args.places.now c.loop-i.i 0) o (item_at c.args.parts.now c.loop-i.i o c.loop-i-test.true c.index-parts-i.is) refl c.loop-i.invariant)

pub loop-i-preserved : goal.loop-i-preserved
loop-i-preserved c =
    let o = c.index-parts-i.result in
    let place : ℕ = get_or c.args.places.now c.loop-i.i 0 in
    let copied : IsCopied c.args.points.now c.args.parts.now o o.base c.word_at.result c.loop-i.words.items c.copy_below.new.words.items place =
    subst (λ (y : ℕ). IsCopied c.args.points.now c.args.parts.now o y c.word_at.result c.loop-i.words.items c.copy_below.new.words.items place)
    c.base.ensures.value c.in_ok-copy_below.ensures in
    filled_more c.args.points.now c.args.parts.now c.requires.parts.order c.loop-i.words.items c.copy_below.new.words.items c.args.places.now
    (cells_in c.args.words.now.items) c.loop-i.i place o (item_at c.args.parts.now c.loop-i.i o c.loop-i-test.true c.index-parts-i.is) refl c.loop-i.invariant
    (subst (λ (y : ℕ). IsCopied c.args.points.now c.args.parts.now o o.base y c.loop-i.words.items c.copy_below.new.words.items place) c.word_at.ensures copied)

pub returns : goal.returns
returns c =
    subst (λ (y : ℕ). AreFilled c.args.points.now c.args.parts.now c.loop-i.words.items c.args.places.now (cells_in c.args.words.now.items) y)
    (omega (arith, c.loop-i-test.false, c.loop-i.auto.i-end)) c.loop-i.invariant
