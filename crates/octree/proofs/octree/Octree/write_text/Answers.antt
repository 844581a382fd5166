use Rattle.std.proofs.Common.{List, ℕ, subst}
use Rattle.bh_outside.specs.Text.{PutsAll}
use Rattle.bh_outside.proofs.Texts.{puts_finish}
use Rattle.bh_model.specs.Trees.{text}
use Rattle.octree.specs.Stored.{tree_of}
use Rattle.octree.proofs.octree.Octree.write_text.Goals as goal

pub returns-in-Ok-clause-text : goal.returns-in-Ok-clause-text
returns-in-Ok-clause-text g c =
    let words = text (tree_of c.args.self.now) in
    let P : List ℕ → Type 0 = λ y. PutsAll (g.K.Sink.written c.args.out.now) (g.K.Sink.written c.put_text.new.sink) y c.put_text.new.buffer words in
    puts_finish _ _ _ c.put_text.new.buffer words c.finish.result (subst P c.new-buffer.ensures c.in-Ok.ensures.text) c.finish.ensures.text
