use Rattle.std.proofs.Common.{subst}
use Rattle.bh_model.specs.Trees.{Tree}
use Rattle.bh_outside.specs.Text.{Puts, PutsAll, PutsFront}
use Rattle.frame_core.specs.Frames.{tree_of_bodies}
use Rattle.nbody_cli.proofs.Rows.{one_stop, one_then}
use Rattle.nbody_cli.specs.Frames.{builder_lines, told_lines}
use Rattle.nbody_cli.specs.Lines.{TreeLine, line_text, lines_text}
use Rattle.nbody_cli.specs.declared.frame_text.Told.{Told}
use Rattle.nbody_cli.proofs.frame_text.put_tree.Goals as goal

pub returns-in_err-put_line-clause-text : goal.returns-in_err-put_line-clause-text
returns-in_err-put_line-clause-text g c =
    let e = c.args.engine.now in
    let P : Tree → Type 0 = λ t. PutsFront (g.K.Sink.written c.args.sink.now) (g.K.Sink.written c.put_line.new.sink) c.args.buffer.now
    (line_text (TreeLine t)) in
    one_stop line_text (TreeLine (tree_of_bodies e.bodies)) (builder_lines e) _ _ _ _ _ c.from_residual.ensures.0
    (subst P c.octree.ensures.tree c.in_err-put_line.ensures.text)

pub returns-clause-text : goal.returns-clause-text
returns-clause-text g c =
    let e = c.args.engine.now in
    let P : Tree → Type 0 = λ t. PutsAll (g.K.Sink.written c.args.sink.now) (g.K.Sink.written c.put_line.new.sink) c.args.buffer.now c.put_line.new.buffer
    (line_text (TreeLine t)) in
    let Q : Told → Type 0 = λ t. Puts (g.K.Sink.written c.put_line.new.sink) (g.K.Sink.written c.put_told.new.sink) c.put_line.new.buffer
    c.put_told.new.buffer (lines_text (told_lines t)) c.put_told.result in
    one_then line_text (TreeLine (tree_of_bodies e.bodies)) (builder_lines e) _ _ _ _ _ _ _ (subst P c.octree.ensures.tree c.in_ok-put_line.ensures.text)
    (subst Q c.told_of.ensures c.put_told.ensures.text)
