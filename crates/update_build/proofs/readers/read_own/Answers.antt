use Rattle.std.proofs.Common.{List, subst}
use Rattle.update_build.specs.declared.edits.Edit.{Edit}
use Rattle.update_build.specs.Dealing.{IsOfWorker, LeaveDealt}
use Rattle.update_build.proofs.readers.read_own.Goals as goal

pub returns-clause-dealt : goal.returns-clause-dealt
returns-clause-dealt c =
    subst (λ (z : List Edit). LeaveDealt c.args.points.now c.args.words.now.items (IsOfWorker c.args.workers c.args.worker) c.args.depth 1 z
    c.read_dealt.new.edits.items) c.new-edits.ensures.items c.in_ok-read_dealt.ensures.dealt
