use Rattle.std.proofs.Common.{◌++◌, codes}
use Rattle.bh_model.specs.Trees.{text}
use Rattle.bh_outside.proofs.Texts.{puts_failed, puts_stop, puts_then}
use Rattle.octree.specs.Stored.{tree_of}
use Rattle.nbody_cli.proofs.lines.put_tree.Goals as goal

pub returns-in_err-put-clause-text : goal.returns-in_err-put-clause-text
returns-in_err-put-clause-text g c =
    let tree = text (tree_of c.args.tree.now) in
    puts_stop _ _ _ _ (codes "tree " ++ tree) _ c.from_residual.ensures.0 (puts_failed _ _ _ (codes "tree ") tree c.in_err-put.ensures.text)

pub returns-clause-text : goal.returns-clause-text
returns-clause-text g c = puts_then _ _ _ _ _ _ (codes "tree ") (text (tree_of c.args.tree.now)) _ c.in_ok-put.ensures.text c.put_text.ensures.text
