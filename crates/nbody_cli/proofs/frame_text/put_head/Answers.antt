use Rattle.std.proofs.Common.{[], ◌∷◌, ◌++◌, subst}
use Rattle.bh_outside.specs.Text.{PutsAll, PutsFront}
use Rattle.octree.specs.Stored.{tree_of}
use Rattle.nbody_cli.proofs.Rows.{list_stop, list_then}
use Rattle.nbody_cli.specs.Frames.{cost_line, size_lines, told_lines}
use Rattle.nbody_cli.specs.Lines.{line_text, lines_text}
use Rattle.probe.specs.Figures.{FrameFigures}
use Rattle.nbody_cli.proofs.frame_text.put_head.Goals as goal

pub returns-in_err-put_size-clause-text : goal.returns-in_err-put_size-clause-text
returns-in_err-put_size-clause-text g c =
    let P : FrameFigures → Type 0 = λ f. PutsFront (g.K.Sink.written c.args.sink.now) (g.K.Sink.written c.put_size.new.sink) c.args.buffer.now
    (lines_text (size_lines f.step (tree_of c.args.tree.now))) in
    list_stop line_text (size_lines c.args.frame.now.step (tree_of c.args.tree.now)) (told_lines c.args.told ++ (cost_line c.args.frame.now ∷ [])) _ _ _ _ _
    c.from_residual.ensures.0 (subst P c.frame.view_is c.in_err-put_size.ensures.text)

pub returns-clause-text : goal.returns-clause-text
returns-clause-text g c =
    let P : FrameFigures → Type 0 = λ f. PutsAll (g.K.Sink.written c.args.sink.now) (g.K.Sink.written c.put_size.new.sink) c.args.buffer.now
    c.put_size.new.buffer (lines_text (size_lines f.step (tree_of c.args.tree.now))) in
    list_then line_text (size_lines c.args.frame.now.step (tree_of c.args.tree.now)) (told_lines c.args.told ++ (cost_line c.args.frame.now ∷ [])) _ _ _ _ _ _ _
    (subst P c.frame.view_is c.in_ok-put_size.ensures.text) c.put_costs.ensures.text
