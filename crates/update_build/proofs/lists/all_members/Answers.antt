use Rattle.std.proofs.Common.{◌++◌, ◌∙◌, List, ℕ, ap, sym, take}
use Rattle.tree_passes.specs.Counting.{all_of}
use Rattle.update_build.proofs.Leaving.{all_taken}
use Rattle.update_build.proofs.lists.all_members.Goals as goal

pub loop-i-preserved : goal.loop-i-preserved
loop-i-preserved c =
    let at = c.loop-i in
    c.in_ok-extend_from_slice.ensures.items ∙ ap (λ (z : List ℕ). z ++ c.as_slice-list.result.now) at.invariant
    ∙ ap (λ (z : List ℕ). all_of (λ v. v.items) (take at.i c.args.lists.now) ++ z) c.as_slice-list.ensures.value
    ∙ sym (all_taken (λ v. v.items) c.args.lists.now at.i c.index-lists-i.result c.loop-i-test.true c.index-lists-i.is)
