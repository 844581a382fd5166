use Rattle.std.proofs.Common.{[], ◌∷◌, List, ℕ, subst}
use Rattle.bh_outside.specs.Text.{PutsAll, PutsFront}
use Rattle.nbody_cli.proofs.Rows.{one_last, one_stop, one_then}
use Rattle.nbody_cli.specs.Frames.{cells_line, met_line, push_line, trial_line}
use Rattle.nbody_cli.specs.Lines.{TextLine, line_text}
use Rattle.probe.specs.Figures.{FrameFigures}
use Rattle.nbody_cli.proofs.frame_text.put_summary.Goals as goal

-- the lines behind the first one, and those behind the second
abbrev figure_lines : ℕ → FrameFigures → List TextLine
figure_lines deep f = cells_line f.cells deep ∷ met_line f ∷ push_line f ∷ []

abbrev last_lines : FrameFigures → List TextLine
last_lines f = met_line f ∷ push_line f ∷ []

pub returns-in_err-put_made-clause-text : goal.returns-in_err-put_made-clause-text
returns-in_err-put_made-clause-text g c =
    let o = c.args.options.now in
    one_stop line_text (trial_line o.made o.steps) (figure_lines c.args.depth c.args.frame.now) _ _ _ _ _ c.from_residual.ensures.0
    c.in_err-put_made.ensures.text

pub returns-in_err-put_cells-clause-text : goal.returns-in_err-put_cells-clause-text
returns-in_err-put_cells-clause-text g c =
    let o = c.args.options.now in
    let f = c.args.frame.now in
    let P : FrameFigures → Type 0 = λ h. PutsFront (g.K.Sink.written c.put_made.new.sink) (g.K.Sink.written c.put_cells.new.sink) c.put_made.new.buffer
    (line_text (cells_line h.cells c.args.depth)) in
    one_then line_text (trial_line o.made o.steps) (figure_lines c.args.depth f) _ _ _ _ _ _ _ c.in_ok-put_made.ensures.text
    (one_stop line_text (cells_line f.cells c.args.depth) (last_lines f) _ _ _ _ _ c.from_residual-in_err-put_cells.ensures.0
    (subst P c.frame.view_is c.in_err-put_cells.ensures.text))

pub returns-in_err-put_met-clause-text : goal.returns-in_err-put_met-clause-text
returns-in_err-put_met-clause-text g c =
    let o = c.args.options.now in
    let f = c.args.frame.now in
    let P : FrameFigures → Type 0 = λ h. PutsAll (g.K.Sink.written c.put_made.new.sink) (g.K.Sink.written c.put_cells.new.sink) c.put_made.new.buffer
    c.put_cells.new.buffer (line_text (cells_line h.cells c.args.depth)) in
    one_then line_text (trial_line o.made o.steps) (figure_lines c.args.depth f) _ _ _ _ _ _ _ c.in_ok-put_made.ensures.text
    (one_then line_text (cells_line f.cells c.args.depth) (last_lines f) _ _ _ _ _ _ _ (subst P c.frame.view_is c.in_ok-put_cells.ensures.text)
    (one_stop line_text (met_line f) (push_line f ∷ []) _ _ _ _ _ c.from_residual-in_err-put_met.ensures.0 c.in_err-put_met.ensures.text))

pub returns-clause-text : goal.returns-clause-text
returns-clause-text g c =
    let o = c.args.options.now in
    let f = c.args.frame.now in
    let P : FrameFigures → Type 0 = λ h. PutsAll (g.K.Sink.written c.put_made.new.sink) (g.K.Sink.written c.put_cells.new.sink) c.put_made.new.buffer
    c.put_cells.new.buffer (line_text (cells_line h.cells c.args.depth)) in
    one_then line_text (trial_line o.made o.steps) (figure_lines c.args.depth f) _ _ _ _ _ _ _ c.in_ok-put_made.ensures.text
    (one_then line_text (cells_line f.cells c.args.depth) (last_lines f) _ _ _ _ _ _ _ (subst P c.frame.view_is c.in_ok-put_cells.ensures.text)
    (one_then line_text (met_line f) (push_line f ∷ []) _ _ _ _ _ _ _ c.in_ok-put_met.ensures.text
    (one_last line_text (push_line f) _ _ _ _ _ c.put_push.ensures.text)))
