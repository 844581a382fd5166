use Rattle.std.proofs.Common.{◌≡◌, ◌++◌, ◌∙◌, List, ap, subst, sym}
use Rattle.bh_model.specs.Trees.{Tree, cell_count, depth}
use Rattle.bh_outside.specs.Text.{PutsAll, PutsFront}
use Rattle.frame_core.specs.Engines.{frame_of}
use Rattle.frame_core.specs.Frames.{tree_of_bodies}
use Rattle.nbody_cli.proofs.Rows.{list_stop, list_then}
use Rattle.nbody_cli.specs.Frames.{body_lines, head_lines, told_of, zone_lines}
use Rattle.nbody_cli.specs.Lines.{TextLine, line_text, lines_text}
use Rattle.octree.specs.Stored.{tree_of}
use Rattle.probe.specs.Figures.{FrameFigures}
use Rattle.nbody_cli.specs.declared.frame_text.Told.{Told}
use Rattle.nbody_cli.proofs.frame_text.put_frame.Goals as goal

-- the head by an equal tree, what is told, and equal figures
head_is : (t t' : Tree) (p p' : Told) (f f' : FrameFigures) → t ≡ t' → p ≡ p' → f ≡ f' → head_lines t p f ≡ head_lines t' p' f'
head_is t t' p p' f f' trees told figures =
    ap (λ (u : Tree). head_lines u p f) trees ∙ ap (λ (q : Told). head_lines t' q f) told ∙ ap (λ (g : FrameFigures). head_lines t' p' g) figures

pub put_head-requires-clause-cells : goal.put_head-requires-clause-cells
put_head-requires-clause-cells g c =
    ap (λ (f : FrameFigures). f.cells) c.frame.view_is ∙ ap (λ (f : FrameFigures). f.cells) c.requires.figures ∙ sym (ap cell_count c.octree-tree.ensures.tree)

pub put_head-requires-clause-levels : goal.put_head-requires-clause-levels
put_head-requires-clause-levels g c = c.depth.ensures ∙ sym (ap depth c.octree-tree.ensures.tree)

pub returns-in_err-put_head-clause-text : goal.returns-in_err-put_head-clause-text
returns-in_err-put_head-clause-text g c =
    let e = c.args.engine.now in
    let same = head_is (tree_of c.octree-tree.result.now) (tree_of_bodies e.bodies) _ (told_of e) c.args.frame.now (frame_of e)
    c.octree-tree.ensures.tree c.told_of.ensures c.requires.figures in
    let P : List TextLine
    → Type 0 = λ lines. PutsFront (g.K.Sink.written c.args.sink.now) (g.K.Sink.written c.put_head.new.sink) c.args.buffer.now (lines_text lines) in
    list_stop line_text (head_lines (tree_of_bodies e.bodies) (told_of e) (frame_of e)) (zone_lines e ++ body_lines e) _ _ _ _ _ c.from_residual.ensures.0
    (subst P same c.in_err-put_head.ensures.text)

pub returns-clause-text : goal.returns-clause-text
returns-clause-text g c =
    let e = c.args.engine.now in
    let same = head_is (tree_of c.octree-tree.result.now) (tree_of_bodies e.bodies) _ (told_of e) c.args.frame.now (frame_of e)
    c.octree-tree.ensures.tree c.told_of.ensures c.requires.figures in
    let P : List TextLine
    → Type 0 = λ lines. PutsAll (g.K.Sink.written c.args.sink.now) (g.K.Sink.written c.put_head.new.sink) c.args.buffer.now c.put_head.new.buffer
    (lines_text lines) in
    list_then line_text (head_lines (tree_of_bodies e.bodies) (told_of e) (frame_of e)) (zone_lines e ++ body_lines e) _ _ _ _ _ _ _
    (subst P same c.in_ok-put_head.ensures.text) c.put_rows.ensures.text
