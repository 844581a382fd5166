use Rattle.std.proofs.Common.{ℕ, ◌≡◌, ◌↔◌, ◌∙◌, Bool, List, ap, arith, false, inl, inr, length, replicate, subst, sym}
use Rattle.std.proofs.lemmas.List.{take_at}
use Rattle.std.proofs.lemmas.Result.{IfOk-weaker}
use Rattle.octree.specs.Free.{AreUnmarked, IsMarked}
use Rattle.octree.specs.Spot.{IsReachable}
use Rattle.octree.proofs.FreeCells.{free_are, none_marked}
use Rattle.octree.proofs.octree.Octree.free_cells.Goals.{After-unmarked}
use Rattle.octree.proofs.octree.Octree.free_cells.Goals as goal

-- those that can be reached are marked
marked : (c : After-unmarked) (d : ℕ) → IsMarked c.deref.result.now d ↔ IsReachable c.args.self.now d
marked c d =
    let start : c.deref_mut.result.now ≡ replicate c.held-held.result false =
    c.deref_mut.ensures.value ∙ c.in_ok-marks.ensures.items_if_clones_equal (λ y e. e) in
    let long : c.in_ok-marks.marks.len ≡ length c.mark_cells.new.marks =
    omega (arith, c.in_ok-marks.marks.ok.0, c.mark_cells.auto.marks, ap length c.deref_mut.ensures.value) in
    let now : c.deref.result.now ≡ c.mark_cells.new.marks =
    c.deref.ensures.value ∙ take_at c.mark_cells.new.marks _ c.in_ok-marks.marks.len (sym long) in (
      λ m. elim ((c.mark_cells.ensures d).0 (subst (λ (marks : List Bool). IsMarked marks d) now m)) [
        | inl b ↦ absurd (none_marked c.held-held.result d (subst (λ (marks : List Bool). IsMarked marks d) start b))
        | inr u ↦ c.whole.ensures.reached d u
      ],
      λ r. subst (λ (marks : List Bool). IsMarked marks d) (sym now) ((c.mark_cells.ensures d).1 (inr (c.whole.ensures.cells d r))),
    )

pub returns : goal.returns
returns c =
    let d = (goal.at.returns c).After-unmarked in
    IfOk-weaker c.unmarked.result _ _
    (λ v h. free_are c.args.self.now c.deref.result.now v.items c.held-held.ensures.rule (marked d)
    (subst (λ (n : ℕ). AreUnmarked c.deref.result.now n v.items) c.held-held.ensures.value h)) c.unmarked.ensures
