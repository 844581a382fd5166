use Rattle.std.proofs.Common.{◌++◌, arith}
use Rattle.bh_outside.proofs.Takings.{took_more}
use Rattle.bh_outside.proofs.Texts.{next_piece, front_of_piece}
use Rattle.bh_outside.proofs.text.TextBuffer.put_over.Goals as goal

pub loop-self-preserved : goal.loop-self-preserved
loop-self-preserved g c =
    let inv = c.loop-self.invariant in (
      record {
        done = inv.0.done ++ c.keep.new.self;
        joins = next_piece _ inv.0.done c.loop-self.self c.loop-self.rest.now c.keep.new.self c.finish.new.self _ inv.0.joins c.keep.ensures
            c.in-Ok.ensures.empty;
        took = took_more _ _ _ _ _ inv.0.took c.in-Ok.ensures.text;
      },
      omega (arith, inv.1, c.in-Ok.ensures.cause.later),
    )

pub returns-in-Err-clause-text : goal.returns-in-Err-clause-text
returns-in-Err-clause-text g c =
    let inv = c.loop-self.invariant in
    let w = c.in-Err.ensures.text in
    record {
      done = inv.0.done ++ w.0;
      rest = _;
      splits = front_of_piece _ inv.0.done c.loop-self.self c.loop-self.rest.now c.keep.new.self w.0 w.1 _ inv.0.joins c.keep.ensures w.2;
      took = took_more _ _ _ _ _ inv.0.took w.3;
    }
