use Rattle.std.proofs.Common.{[], ◌∷◌, List, Option, ℕ, codes, subst}
use Rattle.std.specs.Prelude.{IsErr, Result}
use Rattle.bh_model.specs.Trees.{Tree, cell_count, depth}
use Rattle.bh_outside.specs.Text.{Puts, PutsAll, PutsFront}
use Rattle.octree.specs.Stored.{tree_of}
use Rattle.nbody_cli.proofs.Rows.{one_last, one_stop, one_then}
use Rattle.nbody_cli.specs.Frames.{cells_line, size_lines}
use Rattle.nbody_cli.specs.Lines.{TextLine, TreeLine, Words, Number, line_text, lines_text}
use Rattle.nbody_cli.proofs.frame_text.put_size.Goals as goal

abbrev step_line : ℕ → TextLine
step_line step = Words (codes "frame") (Number step ∷ [])

abbrev last_line : Tree → TextLine
last_line t = cells_line (cell_count t) (depth t)

-- the exits and the end of the first lines, by what was put of each
after_step : {T E : Type 0} (n : ℕ) (t : Tree) (a b : Option (List ℕ)) (u v : List ℕ) (r : Result T E) → IsErr r
    → PutsFront a b u (line_text (step_line n)) → Puts a b u v (lines_text (size_lines n t)) r
after_step n t a b u v r stopped step = one_stop line_text (step_line n) (TreeLine t ∷ last_line t ∷ []) a b u v r stopped step

after_tree : {T E : Type 0} (n : ℕ) (t : Tree) (a b c : Option (List ℕ)) (u v w : List ℕ) (r : Result T E) → IsErr r
    → PutsAll a b u v (line_text (step_line n))
    → PutsFront b c v (line_text (TreeLine t)) → Puts a c u w (lines_text (size_lines n t)) r
after_tree n t a b c u v w r stopped step tree =
    let later : List TextLine = last_line t ∷ [] in
    one_then line_text (step_line n) (TreeLine t ∷ later) a b c u v w r step (one_stop line_text (TreeLine t) later b c v w r stopped tree)

after_all : {T E : Type 0} (n : ℕ) (t : Tree) (a b c d : Option (List ℕ)) (u v w x : List ℕ) (r : Result T E) → PutsAll a b u v (line_text (step_line n))
    → PutsAll b c v w (line_text (TreeLine t)) → Puts c d w x (line_text (last_line t)) r → Puts a d u x (lines_text (size_lines n t)) r
after_all n t a b c d u v w x r step tree size =
    let last : List TextLine = last_line t ∷ [] in
    one_then line_text (step_line n) (TreeLine t ∷ last) a b d u v x r step
    (one_then line_text (TreeLine t) last b c d v w x r tree (one_last line_text (last_line t) c d w x r size))

pub returns-in_err-put_line-clause-text : goal.returns-in_err-put_line-clause-text
returns-in_err-put_line-clause-text g c =
    after_step c.args.step (tree_of c.args.tree.now) _ _ _ _ _ c.from_residual.ensures.0 c.in_err-put_line.ensures.text

pub returns-in_err-put_line-2-clause-text : goal.returns-in_err-put_line-2-clause-text
returns-in_err-put_line-2-clause-text g c =
    after_tree c.args.step (tree_of c.args.tree.now) _ _ _ _ _ _ _ c.from_residual-in_err-put_line-2.ensures.0 c.in_ok-put_line.ensures.text
    c.in_err-put_line-2.ensures.text

pub returns-clause-text : goal.returns-clause-text
returns-clause-text g c =
    let t = tree_of c.args.tree.now in
    let P : ℕ → ℕ
    → Type 0 = λ cells deep. Puts (g.K.Sink.written c.put_line-2.new.sink) (g.K.Sink.written c.put_cells.new.sink) c.put_line-2.new.buffer
    c.put_cells.new.buffer (line_text (cells_line cells deep)) c.put_cells.result in
    after_all c.args.step t _ _ _ _ _ _ _ _ _ c.in_ok-put_line.ensures.text c.in_ok-put_line-2.ensures.text
    (subst (P (cell_count t)) c.requires.levels (subst (λ cells. P cells c.args.size.depth) c.requires.cells c.put_cells.ensures.text))
