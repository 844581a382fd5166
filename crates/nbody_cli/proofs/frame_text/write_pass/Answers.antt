use Rattle.std.proofs.Common.{ℕ, List, subst}
use Rattle.bh_outside.specs.Text.{PutsAll, PutsFront}
use Rattle.bh_outside.proofs.Texts.{puts_broken, puts_finish}
use Rattle.nbody_cli.specs.Lines.{lines_text}
use Rattle.nbody_cli.specs.Frames.{pass_lines}
use Rattle.nbody_cli.proofs.frame_text.write_pass.Goals as goal

pub returns-in_err-put_pass-clause-text : goal.returns-in_err-put_pass-clause-text
returns-in_err-put_pass-clause-text g c =
    let a = g.K.Sink.written c.args.sink.now in
    let b = g.K.Sink.written c.put_pass.new.sink in
    let t = lines_text (pass_lines c.args.engine.now) in
    puts_broken a b t c.from_residual.result c.from_residual.ensures.0
    (subst (λ (y : List ℕ). PutsFront a b y t) c.new-buffer.ensures c.in_err-put_pass.ensures.text)

pub returns-clause-text : goal.returns-clause-text
returns-clause-text g c =
    let a = g.K.Sink.written c.args.sink.now in
    let b = g.K.Sink.written c.put_pass.new.sink in
    let t = lines_text (pass_lines c.args.engine.now) in
    puts_finish a b (g.K.Sink.written c.finish.new.sink) c.put_pass.new.buffer t c.finish.result
    (subst (λ (y : List ℕ). PutsAll a b y c.put_pass.new.buffer t) c.new-buffer.ensures c.in_ok-put_pass.ensures.text) c.finish.ensures.text
