use Rattle.std.proofs.Common.{◌≡◌, ℕ, ap, arith, length, map, sym, ◌∙◌}
use Rattle.std.proofs.lemmas.List.{take_all}
use Rattle.std.proofs.lemmas.List.Sorted.{IsPermutation-map}
use Rattle.octree.specs.Ranks.{body_of_rank}
use Rattle.tree_passes.specs.Counting.{times}
use Rattle.build_workers.proofs.Ordering.{times_moved}
use Rattle.build_workers.proofs.order.rank_share.Goals as goal

pub returns : goal.returns
returns c = λ x.
    let ranks = c.loop-i.ranks in
    let share = c.args.share.now in
    let i = c.loop-i.i in
    let many : length ranks ≡ length share = c.loop-i.invariant.0 in
    let filled : map body_of_rank ranks ≡ share =
    sym (ap (map body_of_rank) (take_all i ranks (omega arith))) ∙ c.loop-i.invariant.1 ∙ take_all i share (omega arith) in
    let sorted = IsPermutation-map body_of_rank ranks c.sort_unstable.new.self c.sort_unstable.ensures.permutation in
    let turned = IsPermutation-map body_of_rank c.sort_unstable.new.self c.rotate_left.new.self c.rotate_left.ensures.permutation in
    times_moved x (map body_of_rank c.sort_unstable.new.self) (map body_of_rank c.rotate_left.new.self) turned
    ∙ times_moved x (map body_of_rank ranks) (map body_of_rank c.sort_unstable.new.self) sorted ∙ ap (times x) filled
