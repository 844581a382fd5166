use Rattle.std.proofs.Common.{◌*◌, ℕ, List, ap, ◌∙◌, arith}
use Rattle.tree_rule.specs.declared.words.TheConstants.{CELL_WORDS}
use Rattle.tree_rule.specs.Words.{at_of}
use Rattle.octree.specs.Stored.{spare_of}
use Rattle.shared_tree.proofs.Starts.{longer_same, start_words_are, zeros_resized}
use Rattle.shared_tree.proofs.start.write_start.Goals as goal

pub write_front-requires-clause-zeros : goal.write_front-requires-clause-zeros
write_front-requires-clause-zeros c = zeros_resized c.args.zeros.now.items _ _ _ c.requires.zeros c.in_ok-resize.ensures.items

pub returns-clause-written : goal.returns-clause-written
returns-clause-written c =
    let e = c.into_words-words.ensures in
    let words = c.into_words-words.result in
    start_words_are c.args.start words.items c.write_front.new.zeros.items c.args.cells e.rule e.of_words
    (λ i. ap (λ (z : List ℕ). at_of z i) e.words ∙ longer_same c.args.start.words (CELL_WORDS * spare_of c.args.start) i) e.spare e.count c.requires.held
    c.requires.few (omega (arith, c.place_of_child.ensures, c.write_front.ensures.long, c.in_ok-resize.ensures.len, c.resize.new.self.ok.0))
    (λ i. c.write_front.ensures.written i ∙ ap (λ (z : List ℕ). at_of z i) c.deref.ensures.value)
