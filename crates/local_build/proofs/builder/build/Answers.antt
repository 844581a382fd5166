use Rattle.std.proofs.Common.{◌≡◌, ◌∙◌, ℕ, List, length, map, sym, subst, ap}
use Rattle.std.specs.Arc.{arc_value}
use Rattle.octant_code.specs.Space.{Site}
use Rattle.bh_model.specs.Bodies.{numbers}
use Rattle.bh_model.proofs.Standing.{length_numbers}
use Rattle.octree.specs.Stored.{IsCanonical}
use Rattle.octree.proofs.Laws.{empty_canonical}
use Rattle.shared_tree.specs.Seen.{risen}
use Rattle.local_build.specs.Insertion.{AreNew, AreSharesOf, IsWithBodies}
use Rattle.local_build.proofs.Inserting.{all_new, all_shares, only_those}
use Rattle.local_build.proofs.Laws.{octree_of_all, IsTreeOfAny}
use Rattle.local_build.proofs.builder.build.Given.{Over}
use Rattle.local_build.proofs.builder.build.Goals.{After-deref-2}
use Rattle.local_build.proofs.builder.build.Goals as goal

-- the list of all numbers
listed : (g : Over) (c : After-deref-2 g) → c.deref-2.result.now ≡ numbers (length (arc_value c.args.points.now))
listed g c = c.deref-2.ensures.value ∙ c.in_ok-bodies.ensures ∙ ap numbers (c.len.ensures.value ∙ ap length c.deref.ensures)

pub insert_shares-requires-clause-canonical : goal.insert_shares-requires-clause-canonical
insert_shares-requires-clause-canonical g c = λ κ within. empty_canonical (arc_value c.args.points.now) c.in_ok-start.start c.in_ok-start.ensures.empty

pub insert_shares-requires-clause-bodies : goal.insert_shares-requires-clause-bodies
insert_shares-requires-clause-bodies g c = λ κ within.
    let sites = arc_value c.args.points.now in
    subst (AreNew sites c.in_ok-start.start) (sym (listed g (goal.at.insert_shares-requires-clause-bodies g c).After-deref-2))
    (all_new sites c.in_ok-start.start c.in_ok-start.ensures.empty)

pub insert_shares-requires-clause-shares : goal.insert_shares-requires-clause-shares
insert_shares-requires-clause-shares g c = λ κ within.
    let shares = map (λ s. s.items) c.args.shares.now in
    subst (λ (l : List ℕ). AreSharesOf l shares) (sym (listed g (goal.at.insert_shares-requires-clause-shares g c).After-deref-2))
    (all_shares (length (arc_value c.args.points.now)) shares c.requires)

pub canonical_tree-requires : goal.canonical_tree-requires
canonical_tree-requires g c = record {
  canonical = subst (λ (s : List Site). IsCanonical s c.in_ok-octree.octree) (sym c.deref-3.ensures) c.in_ok-octree.ensures.tree.canonical;
}

pub returns-clause-tree : goal.returns-clause-tree
returns-clause-tree g c =
    let sites = arc_value c.args.points.now in
    let t = c.in_ok-octree.octree in
    let bodies = listed g (goal.at.returns-clause-tree g c).After-deref-2 in
    let ended : IsWithBodies sites c.in_ok-start.start (numbers (length sites)) t =
    subst (λ (l : List ℕ). IsWithBodies sites c.in_ok-start.start l t) bodies c.in_ok-octree.ensures.tree in
    octree_of_all sites t ended.base ended.canonical (only_those sites c.in_ok-start.start t c.in_ok-start.ensures.empty ended) c.canonical_tree.ensures.rule
    c.whole-whole.ensures.bodies (subst (λ (s : List Site). IsTreeOfAny s t) c.deref-3.ensures c.canonical_tree.ensures.tree)

pub returns-clause-published : goal.returns-clause-published
returns-clause-published g c =
    c.in_ok-octree.ensures.published
    ∙ ap (risen c.args.yard.now.published) (ap length (listed g (goal.at.returns-clause-published g c).After-deref-2)
    ∙ length_numbers (length (arc_value c.args.points.now)))

pub returns-clause-changes : goal.returns-clause-changes
returns-clause-changes g c =
    c.in_ok-octree.ensures.changes
    ∙ ap (risen c.args.yard.now.changes) (ap length (listed g (goal.at.returns-clause-changes g c).After-deref-2)
    ∙ length_numbers (length (arc_value c.args.points.now)))
