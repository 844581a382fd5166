use Rattle.std.proofs.Common.{◌+◌, List, [], ◌∷◌, ◌++◌, ℕ, ap, append_assoc, ◌∙◌}
use Rattle.tree_passes.specs.Counting.{numbers_from}
use Rattle.shared_tree.proofs.Starts.{numbers_more}
use Rattle.shared_tree.proofs.start.push_numbers.Goals as goal

pub loop-i-preserved : goal.loop-i-preserved
loop-i-preserved c =
    let before = c.args.list.now.items in
    let i = c.loop-i.i in
    c.in_ok-push.ensures.items ∙ ap (λ (z : List ℕ). z ++ (c.args.first + i) ∷ []) c.loop-i.invariant
    ∙ append_assoc before (numbers_from c.args.first i) ((c.args.first + i) ∷ []) ∙ ap (λ (z : List ℕ). before ++ z) (numbers_more c.args.first i)
