use Rattle.std.proofs.Common.{ℕ, ◌+◌, List, arith, subst, sym}
use Rattle.octree.proofs.Assembling.{item_at, placed_more, placed_none, upper_shared}
use Rattle.octree.specs.Growing.{ArePlaced, IsWayMade}
use Rattle.octant_code.specs.Points.{site_at}
use Rattle.octant_code.specs.Prefixes.{IsProperPrefix}
use Rattle.octree.specs.ByKeys.{IsInSome}
use Rattle.tree_rule.specs.Flat.{IsShared}
use Rattle.octree.proofs.assemble.make_places.Goals as goal

pub loop-part-init : goal.loop-part-init
loop-part-init c = subst (λ (l : List ℕ). ArePlaced c.args.points.now c.args.parts.now c.args.words.now.items l 0) (sym c.in_ok-places.ensures.items)
    (placed_none c.args.points.now c.args.parts.now c.args.words.now.items c.requires.growing c.requires.bare c.requires.none)

pub place_below-requires-clause-shared : goal.place_below-requires-clause-shared
place_below-requires-clause-shared c =
    let o = c.part-item.result in
    let rule = c.held-rule.ensures.rule in
    subst (λ (y : ℕ). (upper : ℕ) → IsProperPrefix upper y → IsShared (site_at c.args.points.now) (IsInSome c.args.parts.now) upper) (sym c.base.ensures.value)
    (λ upper p. upper_shared c.args.points.now c.args.parts.now c.requires.parts c.loop-part.part-index o upper
    (item_at c.args.parts.now c.loop-part.part-index o c.loop-part-test.true c.part-item.is)
    (o.level, rule.shallow, rule.base_low, rule.base_high) p)

pub loop-part-preserved : goal.loop-part-preserved
loop-part-preserved c =
    let o = c.part-item.result in
    subst (λ (l : List ℕ). ArePlaced c.args.points.now c.args.parts.now c.place_below.new.words.items l (c.loop-part.part-index + 1))
    (sym c.in_ok-push.ensures.items)
    (placed_more c.args.points.now c.args.parts.now c.loop-part.words.items c.place_below.new.words.items c.loop-part.places.items c.loop-part.part-index
    c.in_ok-place.place o (item_at c.args.parts.now c.loop-part.part-index o c.loop-part-test.true c.part-item.is) c.loop-part.invariant
    (subst (λ (y : ℕ). IsWayMade c.args.points.now c.args.parts.now c.loop-part.words.items c.place_below.new.words.items y c.in_ok-place.place)
    c.base.ensures.value
    c.in_ok-place.ensures))

pub returns : goal.returns
returns c =
    subst (λ (y : ℕ). ArePlaced c.args.points.now c.args.parts.now c.loop-part.words.items c.loop-part.places.items y)
    (omega (arith, c.loop-part-test.false, c.loop-part.auto.part-index-end))
    c.loop-part.invariant
