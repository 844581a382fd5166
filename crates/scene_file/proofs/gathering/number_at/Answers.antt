use Rattle.std.proofs.Common.{sym, zero-add, arith}
use Rattle.scene_file.proofs.BodyLists.{first_from, none_at}
use Rattle.scene_file.proofs.Finding.{found_here, other_here}
use Rattle.scene_file.proofs.gathering.number_at.Goals as goal

pub loop-i-preserved : goal.loop-i-preserved
loop-i-preserved c =
    other_here c.args.bodies.now c.loop-i.i c.index-bodies-i.result c.args.at c.eq.result c.loop-i-test.true c.index-bodies-i.is c.eq.ensures c.if-eq.false
    c.loop-i.invariant

pub returns-then-eq : goal.returns-then-eq
returns-then-eq c =
    let here = found_here c.args.bodies.now c.loop-i.i c.index-bodies-i.result c.args.at c.eq.result c.loop-i-test.true c.index-bodies-i.is c.eq.ensures
    c.if-eq.true in
    sym (rw zero-add at (first_from c.args.bodies.now c.args.at 0 c.loop-i.i c.loop-i-test.true here c.loop-i.invariant))

pub returns : goal.returns
returns c =
    let past = c.loop-i-test.false in
    sym (none_at c.args.bodies.now c.args.at 0 (λ k less. c.loop-i.invariant k (omega arith)))
