use Rattle.std.proofs.Common.{◌≡◌, ◌∙◌, ℕ, List, ap, subst}
use Rattle.bh_model.specs.Trees.{depth}
use Rattle.bh_outside.specs.Text.{PutsAll, PutsFront}
use Rattle.bh_outside.proofs.Texts.{puts_broken, puts_finish}
use Rattle.frame_core.specs.Engines.{EngineState, frame_of}
use Rattle.frame_core.specs.Frames.{tree_of_bodies}
use Rattle.nbody_cli.specs.Lines.{lines_text}
use Rattle.nbody_cli.specs.Frames.{summary_lines, trial_lines}
use Rattle.nbody_options.specs.declared.options.Made.{Made}
use Rattle.probe.specs.Figures.{FrameFigures}
use Rattle.nbody_cli.proofs.frame_text.write_trial.Goals as goal

-- the lines by an engine's depth and figures
summary_is : (made : Made) (steps deep : ℕ) (f : FrameFigures) (e : EngineState) → deep ≡ depth (tree_of_bodies e.bodies) → f ≡ frame_of e
    → lines_text (summary_lines made steps deep f) ≡ lines_text (trial_lines made steps e)
summary_is made steps deep f e levels figures =
    ap (λ d. lines_text (summary_lines made steps d f)) levels
    ∙ ap (λ (h : FrameFigures). lines_text (summary_lines made steps (depth (tree_of_bodies e.bodies)) h)) figures

pub returns-in_err-put_summary-clause-text : goal.returns-in_err-put_summary-clause-text
returns-in_err-put_summary-clause-text g c =
    let a = g.K.Sink.written c.args.sink.now in
    let b = g.K.Sink.written c.put_summary.new.sink in
    let o = c.args.options.now in
    let e = c.args.engine.now in
    let t = lines_text (trial_lines o.made o.steps e) in
    let same = summary_is o.made o.steps c.depth.result c.args.frame.now e c.depth.ensures c.requires.figures in
    let put = subst (λ (x : List ℕ). PutsFront a b c.new-buffer.result x) same c.in_err-put_summary.ensures.text in
    puts_broken a b t c.from_residual.result c.from_residual.ensures.0 (subst (λ (y : List ℕ). PutsFront a b y t) c.new-buffer.ensures put)

pub returns-clause-text : goal.returns-clause-text
returns-clause-text g c =
    let a = g.K.Sink.written c.args.sink.now in
    let b = g.K.Sink.written c.put_summary.new.sink in
    let o = c.args.options.now in
    let e = c.args.engine.now in
    let t = lines_text (trial_lines o.made o.steps e) in
    let same = summary_is o.made o.steps c.depth.result c.args.frame.now e c.depth.ensures c.requires.figures in
    let put = subst (λ (x : List ℕ). PutsAll a b c.new-buffer.result c.put_summary.new.buffer x) same c.in_ok-put_summary.ensures.text in
    puts_finish a b (g.K.Sink.written c.finish.new.sink) c.put_summary.new.buffer t c.finish.result
    (subst (λ (y : List ℕ). PutsAll a b y c.put_summary.new.buffer t) c.new-buffer.ensures put) c.finish.ensures.text
