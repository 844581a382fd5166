use Rattle.std.proofs.Common.{arith, ◌≡◌, ◌<◌, ◌∙◌, All, IsPermutation, ap, length, map, rules, subst, sym}
use Rattle.std.proofs.lemmas.List.Sorted.{IsNonDecreasingBy-from_sort, IsPermutation-trans, answers_always}
use Rattle.std.proofs.lemmas.List.{length-map, with_items_is}
use Rattle.octant_code.specs.Points.{site_at}
use Rattle.octant_code.specs.Space.{key_of}
use Rattle.octree.specs.Ranks.{body_of_rank}
use Rattle.bh_model.specs.Bodies.{numbers}
use Rattle.bh_model.proofs.Standing.{length_numbers}
use Rattle.space_split.specs.Sorted.{coded_of}
use Rattle.space_split.specs.declared.codes.Coded.{Coded}
use Rattle.space_split.proofs.Ranked.{coded_moved, coded_there, ranks_known}
use Rattle.space_split.proofs.Sorting.{sorted_of}
use Rattle.space_split.proofs.codes.sorted_bodies.Given.{Over}
use Rattle.space_split.proofs.codes.sorted_bodies.Goals.{After-deref-3}
use Rattle.space_split.proofs.codes.sorted_bodies.Goals as goal

-- the codes are those of the points
own : (g : Over) (c : After-deref-3 g)
    → c.in_ok-codes.codes.items ≡ map (λ n. key_of (site_at c.args.points.now n) 21) (numbers (length c.args.points.now))
own g c = c.in_ok-codes.ensures

-- as many as the points
many : (g : Over) (c : After-deref-3 g) → length c.in_ok-codes.codes.items ≡ length c.args.points.now
many g c = ap length (own g c) ∙ length-map (numbers (length c.args.points.now)) (λ n. key_of (site_at c.args.points.now n) 21)
    ∙ length_numbers (length c.args.points.now)

-- the ranks are those of all bodies
told : (g : Over) (c : After-deref-3 g) → map body_of_rank c.in_ok-ranks.ranks.items ≡ numbers (length c.args.points.now)
told g c = c.in_ok-ranks.ensures ∙ ap numbers (ap length c.deref.ensures.value ∙ many g c)

-- the ranks that are read are these in another order
moved : (g : Over) (c : After-deref-3 g) → IsPermutation c.in_ok-ranks.ranks.items c.deref-3.result.now
moved g c =
    let back = with_items_is c.in_ok-ranks.ranks c.order_ranks.new.ranks (c.order_ranks.auto.ranks ∙ c.as_mut_slice.ensures.len) in
    rw (c.deref-3.ensures.value ∙ back) (rw (sym c.as_mut_slice.ensures.value) c.order_ranks.ensures)

known : (g : Over) (c : After-deref-3 g) → All (λ r. body_of_rank r < length c.args.points.now) c.deref-3.result.now
known g c = ranks_known (length c.args.points.now) c.in_ok-ranks.ranks.items c.deref-3.result.now (told g c) (moved g c)

pub ranks_of-requires : goal.ranks_of-requires
ranks_of-requires g c =
    let n = length c.args.points.now in
    let many : length c.in_ok-codes.codes.items ≡ n =
    ap length c.in_ok-codes.ensures ∙ length-map (numbers n) (λ k. key_of (site_at c.args.points.now k) 21) ∙ length_numbers n in
    omega (arith, many, ap length c.deref.ensures.value, c.len-few.ensures.rule.few)

pub coded_bodies-requires : goal.coded_bodies-requires
coded_bodies-requires g c =
    subst (λ n. All (λ r. body_of_rank r < n) c.deref-3.result.now) (sym (ap length c.deref-2.ensures.value ∙ many g c)) (known g c)

pub returns : goal.returns
returns g c =
    let site = site_at c.args.points.now in
    let n = length c.args.points.now in
    let at = (goal.at.returns g c).After-deref-3 in
    let sorted = c.sort_unstable_by_key.new.self.items in
    let ranks = c.deref-3.result.now in
    let there : c.in_ok-bodies.bodies.items ≡ map (λ r. coded_of site (body_of_rank r)) ranks =
    c.in_ok-bodies.ensures
    ∙ coded_there n c.in_ok-ranks.ranks.items ranks (told g at) (moved g at) site c.deref-2.result.now ranks (c.deref-2.ensures.value ∙ own g at)
    (known g at) in
    let first : IsPermutation (map (coded_of site) (numbers n)) c.in_ok-bodies.bodies.items =
    subst (IsPermutation (map (coded_of site) (numbers n))) (sym there)
    (coded_moved n c.in_ok-ranks.ranks.items ranks (told g at) (moved g at) site) in
    sorted_of c.args.points.now sorted
    (IsPermutation-trans (map (coded_of site) (numbers n)) c.in_ok-bodies.bodies.items sorted first c.sort_unstable_by_key.ensures.permutation)
    (IsNonDecreasingBy-from_sort (λ (b : Coded). b.code) sorted
    (c.sort_unstable_by_key.ensures.sorted (λ (b : Coded). b.code) (answers_always _ _ _ (λ f a r g h. search rules))))
