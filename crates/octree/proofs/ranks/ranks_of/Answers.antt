use Rattle.std.proofs.Common.{List, ◌+◌, ◌≡◌, ◌∙◌, ap, arith, map, subst, sym, ℕ}
use Rattle.std.proofs.lemmas.List.{map_push}
use Rattle.std.proofs.lemmas.List.Sorted.{IsPermutation-map}
use Rattle.octree.proofs.EachOnce.{IsRow, each_once, row_more, row_none}
use Rattle.octree.specs.Ranks.{body_of_rank}
use Rattle.octree.proofs.ranks.ranks_of.Goals as goal

pub loop-n-init : goal.loop-n-init
loop-n-init c = subst (λ (y : List ℕ). IsRow (map body_of_rank y) 0) (sym c.in_ok-ranks.ensures.items) row_none

pub loop-n-preserved : goal.loop-n-preserved
loop-n-preserved c =
    let before = c.loop-n.ranks.items in
    subst (λ (y : List ℕ). IsRow y (c.loop-n.n + 1)) (sym (ap (map body_of_rank) c.in-Ok.ensures.items ∙ map_push body_of_rank before c.rank_of.result))
    (row_more (map body_of_rank before) c.loop-n.n (body_of_rank c.rank_of.result) c.loop-n.invariant c.rank_of.ensures)

pub returns : goal.returns
returns c =
    let all : c.loop-n.n ≡ c.len-count.result = omega arith in
    let before = map body_of_rank c.loop-n.ranks.items in
    each_once _ before (map body_of_rank c.sort_unstable.new.self.items) (subst (IsRow before) (all ∙ c.len-count.ensures.value) c.loop-n.invariant)
    (IsPermutation-map body_of_rank c.loop-n.ranks.items c.sort_unstable.new.self.items c.sort_unstable.ensures.permutation)
