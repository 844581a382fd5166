use Rattle.std.proofs.Common.{◌-◌, ◌∙◌, ap, arith, subst, sym, List, [], ◌++◌}
use Rattle.std.proofs.lemmas.Result.{IfOk-at_ok}
use Rattle.update_build.specs.declared.edits.Edit.{Edit}
use Rattle.update_build.specs.Dealing.{IsOfFirst, LeaveDealt}
use Rattle.update_build.proofs.Sharing.{dealt_first, dealt_next}
use Rattle.update_build.proofs.readers.+reading.Goals as goal

pub returns-then-worker-eq0-clause-dealt : goal.returns-then-worker-eq0-clause-dealt
returns-then-worker-eq0-clause-dealt g t c =
    dealt_first c.args.points.now c.args.words.now.items c.args.depth c.args.workers c.args.count c.in_ok-first.first.items
    (omega (arith, c.if-worker-eq0.true, c.requires.some))
    c.in_ok-first.ensures.dealt

pub returns-clause-dealt : goal.returns-clause-dealt
returns-clause-dealt g t c =
    subst (λ (z : List Edit). LeaveDealt c.args.points.now c.args.words.now.items (IsOfFirst c.args.workers c.args.count) c.args.depth 1 [] z)
    (sym {A = List Edit} (c.in_ok-extend_from_slice.ensures.items ∙ ap (λ (z : List Edit). c.in_ok-edits.edits.items ++ z) c.deref.ensures.value))
    (dealt_next c.args.points.now c.args.words.now.items c.args.depth c.args.workers (c.args.count - 1) c.args.count c.in_ok-edits.edits.items
    c.in_ok-own.own.items (omega (arith, c.requires.some)) (IfOk-at_ok _ c.in_ok-edits.was c.join-own.ensures.second).1
    (IfOk-at_ok _ c.in_ok-own.was c.join-own.ensures.first).1)
