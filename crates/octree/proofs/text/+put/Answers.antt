use Rattle.std.proofs.Common.{arith, rules}
use Rattle.octree.proofs.Subtrees.{child_height}
use Rattle.octree.proofs.Texts.{text_none, text_one, texts_end, texts_fail, texts_front, texts_next, texts_start}
use Rattle.octree.specs.Spot.{child_under}
use Rattle.octree.proofs.text.+put.Goals as goal

pub put_tree-returns-in-Nothing-clause-text : goal.put_tree-returns-in-Nothing-clause-text
put_tree-returns-in-Nothing-clause-text g t c = rw (text_none _ c.in-Nothing.ensures.tree) c.put_byte.ensures.text

pub put_tree-returns-in-Body-clause-text : goal.put_tree-returns-in-Body-clause-text
put_tree-returns-in-Body-clause-text g t c = rw (text_one _ c.in-Body.n c.in-Body.ensures.tree) c.put_body.ensures.text

pub put_cell-returns-in-Err-clause-text : goal.put_cell-returns-in-Err-clause-text
put_cell-returns-in-Err-clause-text g t c = texts_front (child_under c.args.cell) _ 0 _ _ c.args.buffer.now c.requires.cell.tree (omega arith)
    (rw (texts_start (child_under c.args.cell)) c.in-Err.ensures.text)

pub put_cell-loop-k-init : goal.put_cell-loop-k-init
put_cell-loop-k-init g t c = record {
  put = rw (texts_start (child_under c.args.cell)) c.in-Ok.ensures.text;
  faults = omega (arith, c.in-Ok.ensures.cause.later);
}

pub put_cell-returns-in-Err-put_tree-clause-text : goal.put_cell-returns-in-Err-put_tree-clause-text
put_cell-returns-in-Err-put_tree-clause-text g t c =
    texts_fail _ _ _ c.loop-k.k _ _ _ c.args.buffer.now c.loop-k.buffer c.requires.cell.tree c.loop-k-test.true c.child.ensures.tree c.loop-k.invariant.put
    c.in-Err-put_tree.ensures.text

pub put_cell-loop-k-preserved : goal.put_cell-loop-k-preserved
put_cell-loop-k-preserved g t c = record {
  put = texts_next _ _ c.loop-k.k _ _ _ c.args.buffer.now c.loop-k.buffer _ c.child.ensures.tree c.loop-k.invariant.put c.in-Ok-put_tree.ensures.text;
  faults = omega (arith, c.loop-k.invariant.faults, c.in-Ok-put_tree.ensures.cause.later);
}

pub put_cell-returns-clause-text : goal.put_cell-returns-clause-text
put_cell-returns-clause-text g t c =
    texts_end _ _ c.loop-k.k _ _ _ c.args.buffer.now c.loop-k.buffer _ c.put_byte-2.result c.requires.cell.tree (omega arith) c.loop-k.invariant.put
    c.put_byte-2.ensures.text

pub put_cell-put_tree-requires : goal.put_cell-put_tree-requires
put_cell-put_tree-requires g t c κs within = (
  omega
      (arith, child_height c.args.cell c.args.cell c.child.result c.loop-k.k c.requires.cell c.child.ensures c.loop-k-test.true),
  search rules,
)
