use Rattle.nbody_cli.proofs.Stages.{way_begin, way_end, way_next, way_pass, way_refused, way_stop}
use Rattle.nbody_cli.proofs.Turns.{counts_read}
use Rattle.nbody_cli.proofs.frames.run_locked.Goals as goal

pub loop-number-init : goal.loop-number-init
loop-number-init g c = way_begin c.requires.builder c.requires.opened c.keep_probes.ensures

pub returns-in-Err : goal.returns-in-Err
returns-in-Err g c = way_refused c.loop-number-test.true c.frame_count-number-end.ensures.value c.loop-number.invariant c.in-Err.ensures.kept

pub show_and_move_on-requires-clause-moves : goal.show_and_move_on-requires-clause-moves
show_and_move_on-requires-clause-moves g c κs outlives = way_pass c.requires.accepted c.loop-number.invariant c.in-Ok.ensures.made

pub returns-in_default : goal.returns-in_default
returns-in_default g c =
    way_stop _ _ c.loop-number-test.true c.frame_count-number-end.ensures.value c.loop-number.invariant c.in-Ok.ensures.made
    (counts_read c.published-published.type_inv c.published-published.ensures c.changes-changes.type_inv c.changes-changes.ensures)
    c.in-Ok.ensures.counts c.show_and_move_on.ensures.shows c.in_default.not-Done

pub loop-number-preserved : goal.loop-number-preserved
loop-number-preserved g c =
    way_next c.loop-number-test.true c.frame_count-number-end.ensures.value c.loop-number.invariant c.in-Ok.ensures.made
    (counts_read c.published-published.type_inv c.published-published.ensures c.changes-changes.type_inv c.changes-changes.ensures)
    c.in-Ok.ensures.counts c.show_and_move_on.ensures.shows c.in-Done.is (c.show_and_move_on.ensures.made c.in-Done.is)
    (c.show_and_move_on.ensures.left c.in-Done.is)

pub show_and_move_on-requires-clause-kept : goal.show_and_move_on-requires-clause-kept
show_and_move_on-requires-clause-kept g c κs outlives = c.loop-number.invariant.kept

pub returns : goal.returns
returns g c =
    way_end _ _ c.finish_probes.result c.loop-number-test.false c.frame_count-number-end.ensures.value c.loop-number.invariant
    (counts_read c.published-published-2.type_inv c.published-published-2.ensures c.changes-changes-2.type_inv c.changes-changes-2.ensures)
    (rw c.deref.ensures.value at c.finish_probes.ensures)
