use Rattle.std.proofs.Common.{arith, get_or, subst, sym}
use Rattle.std.proofs.lemmas.List.{get_or_default}
use Rattle.octant_code.specs.Points.{site_at}
use Rattle.octant_code.specs.Space.{IsUnder}
use Rattle.space_split.proofs.Building.{IsGrown, grown_all, grown_more, grown_none, grown_roomier, not_there}
use Rattle.space_split.proofs.shares.build_part.Goals.{In_ok-reserve}
use Rattle.space_split.proofs.shares.build_part.Goals as goal

-- the octree with room for the next body
more : (c : In_ok-reserve) → IsGrown c.args.points.now c.args.key c.args.bodies.now c.reserve.new.self c.loop-coded.coded-index
more c =
    grown_roomier c.args.points.now c.args.key c.args.bodies.now c.loop-coded.tree c.reserve.new.self c.loop-coded.coded-index c.loop-coded.invariant
    c.reserve.ensures.stays

pub loop-coded-init : goal.loop-coded-init
loop-coded-init c =
    grown_none c.args.points.now c.args.key c.args.bodies.now c.in_ok-tree.tree c.in_ok-tree.ensures.empty c.in_ok-tree.ensures.base
    c.in_ok-tree.ensures.used

pub reserve-requires : goal.reserve-requires
reserve-requires c = omega (arith, c.loop-coded.invariant.used, c.loop-coded-test.true, c.requires.few)

pub insert-requires-clause-under : goal.insert-requires-clause-under
insert-requires-clause-under c =
    let room = (goal.at.insert-requires-clause-under c).In_ok-reserve in
    subst (λ key. IsUnder key (site_at c.args.points.now (get_or c.args.bodies.now c.loop-coded.coded-index (record { code = 0; body = 0 })).body))
    (sym (more room).base) (c.requires.under c.loop-coded.coded-index (record { code = 0; body = 0 }) c.loop-coded-test.true)

pub insert-requires-clause-fresh : goal.insert-requires-clause-fresh
insert-requires-clause-fresh c =
    let room = (goal.at.insert-requires-clause-fresh c).In_ok-reserve in
    not_there c.args.points.now c.args.key c.args.bodies.now c.reserve.new.self c.loop-coded.coded-index
    (get_or c.args.bodies.now c.loop-coded.coded-index (record { code = 0; body = 0 })) c.loop-coded-test.true
    (get_or_default c.args.bodies.now c.loop-coded.coded-index _ _ c.loop-coded-test.true) c.requires.once (more room)

pub loop-coded-preserved : goal.loop-coded-preserved
loop-coded-preserved c =
    let room = (goal.at.loop-coded-preserved c).In_ok-reserve in
    grown_more c.args.points.now c.args.key c.args.bodies.now c.reserve.new.self c.insert.new.self c.loop-coded.coded-index
    (get_or c.args.bodies.now c.loop-coded.coded-index (record { code = 0; body = 0 })) c.loop-coded-test.true
    (get_or_default c.args.bodies.now c.loop-coded.coded-index _ _ c.loop-coded-test.true) (more room) c.insert.ensures.canonical
    c.insert.ensures.inserted

pub returns : goal.returns
returns c = grown_all c.args.points.now c.args.key c.args.bodies.now c.loop-coded.tree c.loop-coded.coded-index (omega arith) c.loop-coded.invariant
