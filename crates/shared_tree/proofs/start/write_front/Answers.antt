use Rattle.std.proofs.Common.{refl, arith}
use Rattle.shared_tree.proofs.Starts.{all_written, written_more}
use Rattle.shared_tree.proofs.start.write_front.Goals as goal

pub loop-i-init : goal.loop-i-init
loop-i-init c = record { long = refl; low = λ k l. absurd (omega arith); rest = λ k l. c.requires.zeros k }

pub loop-i-preserved : goal.loop-i-preserved
loop-i-preserved c =
    written_more c.args.front.now c.args.zeros.now.items c.loop-i.zeros.items c.loop-i.i _ c.loop-i.invariant (omega (arith, c.requires.long)) refl

pub returns-clause-written : goal.returns-clause-written
returns-clause-written c =
    all_written c.args.front.now c.args.zeros.now.items c.loop-i.zeros.items c.loop-i.i c.loop-i.invariant (omega arith)
