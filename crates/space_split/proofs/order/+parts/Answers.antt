use Rattle.std.proofs.lemmas.List.Sorted.{IsPermutation-append, IsPermutation-trans}
use Rattle.space_split.proofs.order.+parts.Goals as goal

pub order_ranks-returns-then-ranks-ge-LEAST : goal.order_ranks-returns-then-ranks-ge-LEAST
order_ranks-returns-then-ranks-ge-LEAST g t c =
    IsPermutation-trans _ _ _ c.part-count.ensures.permutation
    (rw c.split_at_mut-low.ensures.value (IsPermutation-append _ _ _ _ c.order_both.ensures.low c.order_both.ensures.high))
