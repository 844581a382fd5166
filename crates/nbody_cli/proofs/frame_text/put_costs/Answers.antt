use Rattle.std.proofs.Common.{[], ◌∷◌, subst}
use Rattle.bh_outside.specs.Text.{Puts}
use Rattle.nbody_cli.proofs.Rows.{list_stop, list_then}
use Rattle.nbody_cli.specs.Frames.{cost_line, told_lines}
use Rattle.nbody_cli.specs.Lines.{line_text, lines_text}
use Rattle.probe.specs.Figures.{FrameFigures}
use Rattle.nbody_cli.proofs.frame_text.put_costs.Goals as goal

pub returns-in_err-put_told-clause-text : goal.returns-in_err-put_told-clause-text
returns-in_err-put_told-clause-text g c =
    list_stop line_text (told_lines c.args.told) (cost_line c.args.frame.now ∷ []) _ _ _ _ _ c.from_residual.ensures.0 c.in_err-put_told.ensures.text

pub returns-clause-text : goal.returns-clause-text
returns-clause-text g c =
    let P : FrameFigures → Type 0 = λ f. Puts (g.K.Sink.written c.put_told.new.sink) (g.K.Sink.written c.put_lines.new.sink) c.put_told.new.buffer
    c.put_lines.new.buffer (lines_text (cost_line f ∷ [])) c.put_lines.result in
    list_then line_text (told_lines c.args.told) (cost_line c.args.frame.now ∷ []) _ _ _ _ _ _ _ c.in_ok-put_told.ensures.text
    (subst P c.frame.view_is c.put_lines.ensures.text)
