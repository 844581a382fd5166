-- What a merge of a share's own octree leaves, told of the share.
use Rattle.std.proofs.Common.{ℕ, ◌≡◌, ◌≤◌, inl, inr, sym, subst, arith, List, length}
use Rattle.std.proofs.lemmas.Bool.{cases_lt}
use Rattle.octant_code.specs.Space.{Site}
use Rattle.bh_model.specs.Bodies.{NoneTwice}
use Rattle.bh_model.specs.Blocks.{blocks}
use Rattle.bh_model.specs.Trees.{octree, order, Tree}
use Rattle.bh_model.proofs.Orders.{order_has_none_twice}
use Rattle.tree_passes.specs.Counting.{times}
use Rattle.tree_passes.proofs.Laws.{in_times, length-same, once_times, times_in}
use Rattle.shared_tree.specs.Merging.{others_among}
use Rattle.partree_merge.proofs.Alike.{blocks_alike, others_alike, AreAlike}

-- lists without repeats that have the same members have each as often
pub alike_times : (xs ys : List ℕ) → NoneTwice xs → NoneTwice ys → AreAlike xs ys → (x : ℕ) → times x xs ≡ times x ys
alike_times xs ys once once_too same x =
    let a = once_times xs once x in
    let b = once_times ys once_too x in
    let there : 1 ≤ times x xs → 1 ≤ times x ys = λ l. in_times x ys ((same x).0 (times_in x xs l)) in
    let back : 1 ≤ times x ys → 1 ≤ times x xs = λ l. in_times x xs ((same x).1 (times_in x ys l)) in
    elim (cases_lt 0 (times x xs)) [
      | inl l ↦ let t = there (omega arith) in omega arith
      | inr l ↦ elim (cases_lt 0 (times x ys)) [ inl m ↦ let t = back (omega arith) in absurd (omega arith) | inr m ↦ omega arith ]
    ]

-- The order of a share's octree has the bodies of the share.
pub record IsOrderOf (share ordered : List ℕ) : Type 0 where
  pub alike : AreAlike ordered share
  pub times_same : (x : ℕ) → times x ordered ≡ times x share
  pub length_same : length ordered ≡ length share

pub order_of_share : (site : ℕ → Site) (share : List ℕ) (t : Tree) → NoneTwice share → t ≡ octree site share → AreAlike (order t) share
    → IsOrderOf share (order t)
order_of_share site share t once is alike =
    let none_twice : NoneTwice (order t) = subst (λ (z : Tree). NoneTwice (order z)) (sym is) (order_has_none_twice site share) in
    let same = alike_times (order t) share none_twice once alike in
    record { alike = alike; times_same = same; length_same = length-same (order t) share same }

-- its blocks are those of the share
pub blocks_of_order : (site : ℕ → Site) (bodies share ordered : List ℕ) → IsOrderOf share ordered
    → blocks site ordered (others_among bodies ordered) ≡ blocks site share (others_among bodies share)
blocks_of_order site bodies share ordered is =
    blocks_alike site 21 0 ordered share (others_among bodies ordered) (others_among bodies share) is.alike
    (others_alike bodies bodies ordered share (λ n. ((λ i. i), (λ i. i))) is.alike)
