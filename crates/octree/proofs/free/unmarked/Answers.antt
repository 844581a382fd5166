use Rattle.std.proofs.Common.{◌≡◌, ◌∙◌, sym, true, false}
use Rattle.octree.proofs.FreeCells.{unmarked_more, unmarked_skip}
use Rattle.octree.proofs.free.unmarked.Goals.{then-not-marks-c+in_ok-push, else-not-marks-c}
use Rattle.octree.proofs.free.unmarked.Goals as goal

pub loop-c-preserved : goal.loop-c-preserved
loop-c-preserved c =
    let marks = c.args.marks.now in
    elim c.if-not-marks-c.branch [
      | then-not-marks-c+in_ok-push w ↦ rw w.list-is (unmarked_more marks c.loop-c.c c.loop-c.list.items _ c.loop-c.invariant
          (λ m. let x : true ≡ false = sym m ∙ w.if-not-marks-c.true in cc) w.in_ok-push.ensures.items)
      | else-not-marks-c w ↦ rw w.list-is (unmarked_skip marks c.loop-c.c c.loop-c.list.items c.loop-c.invariant w.if-not-marks-c.false)
    ]
