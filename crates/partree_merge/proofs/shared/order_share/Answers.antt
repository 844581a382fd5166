use Rattle.std.proofs.Common.{◌≡◌, ◌≤◌, ◌∙◌, ap, arith, length, map, sym}
use Rattle.std.proofs.lemmas.List.{length-map, take_all}
use Rattle.octree.specs.Ranks.{body_of_rank}
use Rattle.tree_passes.specs.Counting.{times}
use Rattle.tree_passes.proofs.Laws.{length-same}
use Rattle.partree_merge.proofs.shared.order_share.Goals as goal

pub returns : goal.returns
returns c =
    let ranks = c.rank_share.new.ranks in
    let long = length-same (map body_of_rank ranks) c.args.share.now c.rank_share.ensures in
    let all : length ranks ≤ c.loop-i.i =
    omega (arith, long, length-map ranks body_of_rank, c.loop-i-test.false, c.loop-i.auto.sequence, c.requires.sequence) in
    let whole : c.loop-i.sequence ≡ map body_of_rank ranks =
    sym (take_all c.loop-i.i c.loop-i.sequence (omega (arith, c.loop-i-test.false, c.loop-i.auto.sequence))) ∙ c.loop-i.invariant.1
    ∙ ap (map body_of_rank) (take_all c.loop-i.i ranks all) in
    record { same = λ x. ap (times x) whole ∙ c.rank_share.ensures x }
