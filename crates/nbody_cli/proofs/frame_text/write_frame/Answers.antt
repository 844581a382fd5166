use Rattle.std.proofs.Common.{ℕ, List, subst}
use Rattle.bh_outside.specs.Text.{PutsAll, PutsFront}
use Rattle.bh_outside.proofs.Texts.{puts_broken, puts_finish}
use Rattle.nbody_cli.specs.Lines.{lines_text}
use Rattle.nbody_cli.specs.Frames.{frame_lines}
use Rattle.nbody_cli.proofs.frame_text.write_frame.Goals as goal

pub returns-in_err-put_frame-clause-text : goal.returns-in_err-put_frame-clause-text
returns-in_err-put_frame-clause-text g c =
    let a = g.K.Sink.written c.args.sink.now in
    let b = g.K.Sink.written c.put_frame.new.sink in
    let t = lines_text (frame_lines c.args.engine.now) in
    puts_broken a b t c.from_residual.result c.from_residual.ensures.0
    (subst (λ (y : List ℕ). PutsFront a b y t) c.new-buffer.ensures c.in_err-put_frame.ensures.text)

pub returns-clause-text : goal.returns-clause-text
returns-clause-text g c =
    let a = g.K.Sink.written c.args.sink.now in
    let b = g.K.Sink.written c.put_frame.new.sink in
    let t = lines_text (frame_lines c.args.engine.now) in
    puts_finish a b (g.K.Sink.written c.finish.new.sink) c.put_frame.new.buffer t c.finish.result
    (subst (λ (y : List ℕ). PutsAll a b y c.put_frame.new.buffer t) c.new-buffer.ensures c.in_ok-put_frame.ensures.text) c.finish.ensures.text
