use Rattle.std.proofs.Common.{◌∙◌, ap}
use Rattle.update_build.specs.Contracting.{IsBelowBy, IsDoneIn, applied}
use Rattle.update_build.proofs.Sharing.{dealt_done, dealt_whole}
use Rattle.update_build.proofs.contraction.contract.Given.{Over}
use Rattle.update_build.proofs.contraction.contract.Goals.{After-apply}
use Rattle.update_build.proofs.contraction.contract.Goals as goal

-- what all workers read is done
done : (g : Over) (c : After-apply g) → IsDoneIn c.args.points.now c.args.words.now.items c.apply.new.words.items (IsBelowBy c.if-workers-eq1.depth 1)
done g c =
    dealt_done c.args.points.now c.args.words.now.items c.apply.new.words.items c.if-workers-eq1.depth c.args.workers c.in_ok-edits.edits.items
    c.requires.some c.requires.thinned (c.apply.ensures ∙ ap (applied c.args.words.now.items) c.deref.ensures.value) c.in_ok-edits.ensures.dealt

pub read_word-requires-clause-thinned : goal.read_word-requires-clause-thinned
read_word-requires-clause-thinned g c = (done g (goal.at.read_word-requires-clause-thinned g c).After-apply).thinned

pub returns : goal.returns
returns g c =
    dealt_whole c.args.points.now c.args.words.now.items c.apply.new.words.items c.apply-2.new.words.items c.if-workers-eq1.depth
    c.in_ok-read_word.field-0 c.new-upper.result.items c.read_word.new.edits.items (done g (goal.at.returns g c).After-apply) c.new-upper.ensures.items
    (c.apply-2.ensures ∙ ap (applied c.apply.new.words.items) c.deref-2.ensures.value) c.in_ok-read_word.ensures.left
