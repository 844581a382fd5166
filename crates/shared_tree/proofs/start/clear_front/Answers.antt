use Rattle.std.proofs.Common.{arith}
use Rattle.shared_tree.proofs.Starts.{all_cleared, cleared_more}
use Rattle.shared_tree.proofs.start.clear_front.Goals as goal

pub loop-i-init : goal.loop-i-init
loop-i-init c = record { long = c.requires.long; low = λ k l. absurd (omega arith); rest = c.requires.rest }

pub loop-i-preserved : goal.loop-i-preserved
loop-i-preserved c = cleared_more c.loop-i.words.items c.args.count c.loop-i.i c.loop-i.invariant (omega arith)

pub returns : goal.returns
returns c = all_cleared c.loop-i.words.items c.args.count c.loop-i.i c.loop-i.invariant (omega arith)
