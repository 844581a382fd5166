-- A worker that has merged its share is done with it.
use Rattle.std.proofs.Common.{ℕ, ◌≡◌, ◌+◌, ◌≤◌, ◌∙◌, ap, inl, inr, arith, List, length}
use Rattle.std.proofs.lemmas.Bool.{cases_lt}
use Rattle.octant_code.specs.Space.{Site}
use Rattle.octant_code.specs.Points.{site_at}
use Rattle.bh_model.specs.Blocks.{blocks, others_than}
use Rattle.bh_model.specs.Bodies.{numbers}
use Rattle.bh_model.proofs.Lists.{in_numbers}
use Rattle.tree_passes.specs.Counting.{times}
use Rattle.tree_passes.specs.Opening.{all_bodies}
use Rattle.tree_passes.proofs.Laws.{none_in}
use Rattle.shared_tree.specs.Merging.{others_among}
use Rattle.shared_tree.specs.Seen.{PassState, SharedTree}
use Rattle.build_workers.specs.Working.{IsDone, IsReady}
use Rattle.partree_merge.specs.Merging.{CanMerge, MayPublish}
use Rattle.partree_merge.proofs.Alike.{blocks_alike, others_alike, AreAlike}

-- the other bodies of the opening are all other numbers
others_same : (sites : List Site) (t : SharedTree) (share : List ℕ) → CanMerge sites t share
    → blocks (site_at sites) share (others_among (all_bodies t.opening) share) ≡ blocks (site_at sites) share (others_than (length sites) share)
others_same sites t share can =
    let same : AreAlike share share = λ n. ((λ i. i), (λ i. i)) in
    let all : AreAlike (all_bodies t.opening) (numbers (length sites)) = λ n.
    ((λ i. (in_numbers (length sites) n).1 ((can.bodies n).0 i)), (λ i. (can.bodies n).1 ((in_numbers (length sites) n).0 i))) in
    blocks_alike (site_at sites) 21 0 share share (others_among (all_bodies t.opening) share) (others_than (length sites) share) same
    (others_alike (all_bodies t.opening) (numbers (length sites)) share share all same)

pub merged_done : (sites : List Site) (t : SharedTree) (share : List ℕ) (p q : PassState) → CanMerge sites t share → IsReady t p share
    → q ≡ record p { todo = q.todo; done = q.done; changes = q.changes; loads = q.loads; last = q.last }
    → ((x : ℕ) → times x q.todo + times x share ≡ times x p.todo) → ((x : ℕ) → times x q.done ≡ times x share + times x p.done)
    → q.changes ≤ p.changes + blocks (site_at sites) share (others_among (all_bodies t.opening) share)
    → (1 ≤ length share → p.changes + 1 ≤ q.changes) → IsDone t (MayPublish sites) q share
merged_done sites t share p q can ready e todo done most some =
    let same = others_same sites t share can in
    let began = ready.changes in
    record {
      tree = record {
        table = ap (λ (z : PassState). z.table_id) e ∙ ready.tree.table;
        points = ap (λ (z : PassState). z.points) e ∙ ready.tree.points;
        bodies = ap (λ (z : PassState). z.bodies) e ∙ ready.tree.bodies;
      };
      todo = none_in q.todo (λ x. let a = todo x in let b = ap (times x) ready.todo in omega arith);
      done = λ x. let a = done x in let b : times x p.done ≡ 0 = ap (times x) ready.done in omega arith;
      changes = (
        elim (cases_lt 0 (length share)) [ inl l ↦ let s = some (omega arith) in omega arith | inr l ↦ omega arith ],
        omega (arith, most, same, began),
      );
    }
