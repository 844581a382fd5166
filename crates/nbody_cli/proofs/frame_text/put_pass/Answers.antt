use Rattle.std.proofs.Common.{◌≡◌, ◌∙◌, List, ℕ, ap, subst, sym}
use Rattle.bh_model.specs.Trees.{Tree, cell_count, depth}
use Rattle.bh_outside.specs.Text.{Puts, PutsAll, PutsFront}
use Rattle.frame_core.specs.Frames.{tree_of_bodies}
use Rattle.octree.specs.Stored.{tree_of}
use Rattle.nbody_cli.proofs.Rows.{list_stop, list_then}
use Rattle.nbody_cli.specs.Frames.{builder_lines, size_lines, told_lines}
use Rattle.nbody_cli.specs.Lines.{TextLine, line_text, lines_text}
use Rattle.nbody_cli.specs.declared.frame_text.Told.{Told}
use Rattle.nbody_cli.proofs.frame_text.put_pass.Goals as goal

-- the first lines by equal numbers and trees
size_is : (n n' : ℕ) (t t' : Tree) → n ≡ n' → t ≡ t' → size_lines n t ≡ size_lines n' t'
size_is n n' t t' numbers trees = ap (λ k. size_lines k t) numbers ∙ ap (λ (u : Tree). size_lines n' u) trees

pub put_size-requires-clause-cells : goal.put_size-requires-clause-cells
put_size-requires-clause-cells g c = c.extent.ensures.cells ∙ sym (ap cell_count c.octree-tree.ensures.tree)

pub put_size-requires-clause-levels : goal.put_size-requires-clause-levels
put_size-requires-clause-levels g c = c.extent.ensures.depth ∙ sym (ap depth c.octree-tree.ensures.tree)

pub returns-in_err-put_size-clause-text : goal.returns-in_err-put_size-clause-text
returns-in_err-put_size-clause-text g c =
    let e = c.args.engine.now in
    let same = size_is c.step.result e.step (tree_of c.octree-tree.result.now) (tree_of_bodies e.bodies) c.step.ensures c.octree-tree.ensures.tree in
    let P : List TextLine
    → Type 0 = λ lines. PutsFront (g.K.Sink.written c.args.sink.now) (g.K.Sink.written c.put_size.new.sink) c.args.buffer.now (lines_text lines) in
    list_stop line_text (size_lines e.step (tree_of_bodies e.bodies)) (builder_lines e) _ _ _ _ _ c.from_residual.ensures.0
    (subst P same c.in_err-put_size.ensures.text)

pub returns-clause-text : goal.returns-clause-text
returns-clause-text g c =
    let e = c.args.engine.now in
    let same = size_is c.step.result e.step (tree_of c.octree-tree.result.now) (tree_of_bodies e.bodies) c.step.ensures c.octree-tree.ensures.tree in
    let P : List TextLine
    → Type 0 = λ lines. PutsAll (g.K.Sink.written c.args.sink.now) (g.K.Sink.written c.put_size.new.sink) c.args.buffer.now c.put_size.new.buffer
    (lines_text lines) in
    let Q : Told → Type 0 = λ t. Puts (g.K.Sink.written c.put_size.new.sink) (g.K.Sink.written c.put_told.new.sink) c.put_size.new.buffer
    c.put_told.new.buffer (lines_text (told_lines t)) c.put_told.result in
    list_then line_text (size_lines e.step (tree_of_bodies e.bodies)) (builder_lines e) _ _ _ _ _ _ _ (subst P same c.in_ok-put_size.ensures.text)
    (subst Q c.told_of.ensures c.put_told.ensures.text)
