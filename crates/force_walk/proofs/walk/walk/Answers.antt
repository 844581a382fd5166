use Rattle.std.proofs.Common.{◌≡◌, ◌^◌, ◌∙◌, ◌<◌, ap, arith, false, sym, subst}
use Rattle.octant_code.specs.Space.{squared_distance}
use Rattle.bh_model.specs.Pulls.{IsSmall, add_pull}
use Rattle.bh_model.specs.declared.pull.Pull.{Pull}
use Rattle.bh_model.proofs.PullBounds.{small_more}
use Rattle.force_walk.specs.Flat.{IsLaid, is_opened}
use Rattle.force_walk.specs.Short.{pull_of}
use Rattle.force_walk.proofs.Openings.{taken_far}
use Rattle.force_walk.proofs.Walks.{short_added, term_fits, way_ends, way_opens, way_starts, way_takes, wide_added}
use Rattle.force_walk.proofs.walk.walk.Goals.{After-is_opened}
use Rattle.force_walk.proofs.walk.walk.Goals as goal

pub loop-at-init : goal.loop-at-init
loop-at-init c =
    way_starts c.args.law.now c.args.from c.args.place c.args.nodes.now c.none-short.result c.none-wide.result c.none-short.ensures c.none-wide.ensures

laid : (c : After-is_opened) → IsLaid c.index-nodes-at.result
laid c = subst IsLaid (sym c.index-nodes-at.is) (c.requires.laid c.loop-at.at c.index-nodes-at.result c.loop-at-test.true)

-- the test is that of the definition
test : (c : After-is_opened)
    → is_opened (squared_distance c.args.from c.index-nodes-at.result.at) c.args.place c.loop-at.at c.index-nodes-at.result ≡ c.is_opened.result
test c = ap (λ d. is_opened d c.args.place c.loop-at.at c.index-nodes-at.result) (sym c.squared_distance-d2.ensures.value) ∙ sym c.is_opened.ensures

-- a node that is taken is apart
apart : (c : After-is_opened) → c.is_opened.result ≡ false → 0 < squared_distance c.args.from c.index-nodes-at.result.at
apart c taken =
    omega (arith, (laid c).near, taken_far _ c.args.place c.loop-at.at c.index-nodes-at.result (test c ∙ taken))

pub loop-at-preserved-then-is_opened : goal.loop-at-preserved-then-is_opened
loop-at-preserved-then-is_opened c =
    way_opens c.args.law.now c.args.from c.args.place c.args.nodes.now c.loop-at.at c.loop-at.short c.loop-at.wide c.index-nodes-at.result
    c.loop-at.invariant c.loop-at-test.true c.index-nodes-at.is
    (test (goal.at.loop-at-preserved-then-is_opened c).After-is_opened ∙ c.if-is_opened.true)

pub add_wide-requires-clause-light : goal.add_wide-requires-clause-light
add_wide-requires-clause-light c = (laid (goal.at.add_wide-requires-clause-light c).After-is_opened).light

pub add_wide-requires-clause-apart : goal.add_wide-requires-clause-apart
add_wide-requires-clause-apart c = apart (goal.at.add_wide-requires-clause-apart c).After-is_opened c.if-is_opened.false

pub plus-short-requires-clause-small : goal.plus-short-requires-clause-small
plus-short-requires-clause-small c =
    let way = c.loop-at.invariant in
    small_more _ _ _ _ _ (omega (arith, way.behind)) (omega (arith, way.behind)) way.small.short_small

pub add_wide-requires-clause-small : goal.add_wide-requires-clause-small
add_wide-requires-clause-small c =
    let way = c.loop-at.invariant in
    small_more _ _ _ _ _ (omega (arith, way.behind)) (omega (arith, way.behind)) way.small.wide_small

pub loop-at-preserved-in-Some : goal.loop-at-preserved-in-Some
loop-at-preserved-in-Some c =
    let b = (goal.at.loop-at-preserved-in-Some c).After-is_opened in
    way_takes c.args.law.now c.args.from c.args.place c.args.nodes.now c.loop-at.at c.loop-at.short c.plus-short.result c.loop-at.wide c.loop-at.wide
    c.index-nodes-at.result c.loop-at.invariant c.loop-at-test.true c.index-nodes-at.is (laid b).long (test b ∙ c.if-is_opened.false)
    (short_added c.loop-at.invariant.terms c.loop-at.short c.plus-short.result c.loop-at.wide _ c.loop-at.invariant.small
    (c.plus-short.ensures ∙ ap (add_pull (pull_of c.loop-at.short)) c.in-Some.ensures.value)
    (subst (λ (p : Pull). IsSmall (2 ^ 31) 1 p) c.in-Some.ensures.value c.in-Some.ensures.small))

pub loop-at-preserved : goal.loop-at-preserved
loop-at-preserved c =
    let b = (goal.at.loop-at-preserved c).After-is_opened in
    way_takes c.args.law.now c.args.from c.args.place c.args.nodes.now c.loop-at.at c.loop-at.short c.loop-at.short c.loop-at.wide c.add_wide.new.sum
    c.index-nodes-at.result c.loop-at.invariant c.loop-at-test.true c.index-nodes-at.is (laid b).long (test b ∙ c.if-is_opened.false)
    (wide_added c.loop-at.invariant.terms c.loop-at.short c.loop-at.wide c.add_wide.new.sum _ c.loop-at.invariant.small c.add_wide.ensures
    (term_fits c.args.law.now c.index-nodes-at.result.mass c.args.from c.index-nodes-at.result.at c.requires.rule (laid b).light
    (apart b c.if-is_opened.false)))

pub plus-requires-clause-small : goal.plus-requires-clause-small
plus-requires-clause-small c =
    let way = c.loop-at.invariant in
    small_more _ _ _ _ _ (omega (arith, way.within)) (omega (arith, way.within)) way.small.wide_small

pub plus-requires-clause-other_small : goal.plus-requires-clause-other_small
plus-requires-clause-other_small c =
    let way = c.loop-at.invariant in
    subst (λ (p : Pull). IsSmall (2 ^ 120) (2 ^ 32) p) (sym c.pull.ensures)
    (small_more _ _ _ _ _ (omega (arith, way.within)) (omega (arith, way.within)) way.small.short_small)

pub returns : goal.returns
returns c =
    c.plus.ensures ∙ ap (add_pull c.loop-at.wide) c.pull.ensures
    ∙ way_ends c.args.law.now c.args.from c.args.place c.args.nodes.now c.loop-at.at c.loop-at.short c.loop-at.wide c.loop-at.invariant c.loop-at-test.false
