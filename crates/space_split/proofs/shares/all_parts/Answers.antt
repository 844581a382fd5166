use Rattle.std.proofs.Common.{◌≡◌, ◌∷◌, ◌++◌, ◌∙◌, List, ap, append_assoc, arith, length, refl, subst, sym}
use Rattle.std.specs.Vec.Iter.{into_iter_items}
use Rattle.octree.specs.Stored.{Stored}
use Rattle.space_split.specs.Parts.{AreJoined}
use Rattle.space_split.proofs.Joining.{joined_end}
use Rattle.space_split.proofs.shares.all_parts.Goals as goal

pub loop-parts-preserved : goal.loop-parts-preserved
loop-parts-preserved c =
    let at = c.loop-parts in
    let steps = c.in-Some.ensures.steps.0 in
    let parts : List Stored = c.in_ok-parts.parts.items in (
      (let gone = c.in-Some.ensures.steps.1 in let short = ap length steps in let was = at.invariant.0 in omega arith),
      λ rest j. subst (AreJoined (λ v. v.items) (into_iter_items c.into_iter-parts-iterator.result))
          (sym (ap (λ y. y ++ rest) c.in_ok-append.ensures.items ∙ append_assoc at.all.items parts rest))
          (at.invariant.1 (parts ++ rest)
          (subst (λ y. AreJoined (λ v. v.items) y (parts ++ rest))
          (sym (steps ∙ ap (λ r. r ∷ into_iter_items c.next.new.self) c.in_ok-parts.was)) (rest, j, refl))),
    )

pub returns : goal.returns
returns c =
    let at = c.loop-parts in
    let none = c.in-None.ensures.steps.0 in
    let begun : into_iter_items c.into_iter-parts-iterator.result ≡ c.args.built.items = search in
    subst (λ y. AreJoined (λ w. w.items) y at.all.items) begun
    (joined_end (λ w. w.items) (into_iter_items at.parts-iterator) (into_iter_items c.into_iter-parts-iterator.result) at.all.items
    (omega (arith, none, at.invariant.0)) at.invariant.1)
