use Rattle.std.proofs.Common.{◌∙◌, rules}
use Rattle.std.proofs.lemmas.List.Sorted.{IsPermutation-trans}
use Rattle.space_split.proofs.order.part.Goals as goal

pub loop-i-preserved : goal.loop-i-preserved
loop-i-preserved c =
    let before = c.loop-i.invariant in
    let swapped = c.swap.ensures in
    (IsPermutation-trans _ _ _ before.0 swapped.permutation, swapped.len ∙ before.1, search rules)
