use Rattle.std.proofs.Common.{◌+◌, ◌∙◌, subst, sym, take}
use Rattle.update_build.specs.Sweeping.{HasEmptied}
use Rattle.update_build.proofs.Sweeping.{among_places, emptied_more, still_todo}
use Rattle.update_build.proofs.workers.empty_words.Goals as goal

pub empty_word-requires-clause-inside : goal.empty_word-requires-clause-inside
empty_word-requires-clause-inside c = c.requires.can.inside _ (among_places c.args.places.now c.loop-i.i 0 c.loop-i-test.true)

pub empty_word-requires-clause-todo : goal.empty_word-requires-clause-todo
empty_word-requires-clause-todo c =
    still_todo c.args.places.now c.loop-i.i 0 c.args.pass.now.me.0 c.loop-i.pass.me.0 c.loop-i-test.true c.loop-i.invariant.2 c.requires.can.todo

pub loop-i-preserved : goal.loop-i-preserved
loop-i-preserved c =
    let at = c.loop-i in
    let todo = still_todo c.args.places.now at.i 0 c.args.pass.now.me.0 at.pass.me.0 c.loop-i-test.true at.invariant.2 c.requires.can.todo in (
      c.empty_word.ensures.table.0 ∙ at.invariant.0,
      c.empty_word.ensures.table.1 ∙ at.invariant.1,
      subst (HasEmptied (take (at.i + 1) c.args.places.now) c.args.pass.now.me.0) (sym c.empty_word.ensures.removed)
          (emptied_more c.args.places.now at.i 0 c.args.pass.now.me.0 at.pass.me.0 c.loop-i-test.true at.invariant.2 todo),
    )
