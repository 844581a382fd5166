use Rattle.std.proofs.Common.{arith, subst}
use Rattle.std.proofs.lemmas.List.Folds.{flat_map-map}
use Rattle.bh_outside.specs.Text.{PutsAll, PutsFront}
use Rattle.nbody_cli.proofs.Rows.{row_all, row_failed, row_more}
use Rattle.nbody_cli.specs.Lines.{line_text}
use Rattle.nbody_cli.specs.Seen.{line_of}
use Rattle.nbody_cli.specs.declared.lines.Line.{Line}
use Rattle.nbody_cli.proofs.lines.put_lines.Goals as goal

pub loop-line-preserved : goal.loop-line-preserved
loop-line-preserved g c =
    let P : Line → Type 0 = λ x. PutsAll (g.K.Sink.written c.loop-line.sink) (g.K.Sink.written c.put_line.new.sink) c.loop-line.buffer c.put_line.new.buffer
    (line_text (line_of x)) in (
      row_more (λ x. line_text (line_of x)) c.args.lines.now c.loop-line.line-index c.line-item.result _ _ _ _ _ _ c.loop-line-test.true
          c.loop-line.invariant.0 (subst P c.line-item.is c.in-Ok.ensures.text),
      omega (arith, c.loop-line.invariant.1, c.in-Ok.ensures.cause.later),
    )

pub returns-in-Err-clause-text : goal.returns-in-Err-clause-text
returns-in-Err-clause-text g c =
    let P : Line → Type 0 = λ x. PutsFront (g.K.Sink.written c.loop-line.sink) (g.K.Sink.written c.put_line.new.sink) c.loop-line.buffer
    (line_text (line_of x)) in
    rw (flat_map-map line_text line_of c.args.lines.now)
    (row_failed (λ x. line_text (line_of x)) c.args.lines.now c.loop-line.line-index c.line-item.result _ _ _ _ _ c.loop-line-test.true
    c.loop-line.invariant.0 (subst P c.line-item.is c.in-Err.ensures.text))

pub returns-clause-text : goal.returns-clause-text
returns-clause-text g c = row_all line_text line_of c.args.lines.now c.loop-line.line-index _ _ _ _ c.loop-line-test.false c.loop-line.invariant.0
