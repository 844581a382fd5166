use Rattle.std.proofs.Common.{◌∙◌, arith, length-set}
use Rattle.update_build.proofs.Sweeping.{copied_more}
use Rattle.update_build.proofs.workers.copy_words.Goals as goal

pub loop-i-preserved : goal.loop-i-preserved
loop-i-preserved c =
    let at = c.loop-i in
    let long = c.args.closed.now.words.ok.0 in (
      length-set at.words.items at.i c.word.result ∙ at.invariant.0,
      copied_more _ at.words.items at.i c.word.result (omega (arith, at.invariant.0, c.loop-i-test.true, c.args.words.now.ok.0))
          (omega (arith, long, c.requires.long, c.loop-i-test.true, c.args.words.now.ok.0)) c.word.ensures at.invariant.1,
    )
