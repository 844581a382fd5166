use Rattle.std.proofs.Common.{◌≡◌, ◌∙◌, ◌+◌, ◌-◌, ◌∷◌, ◌++◌, ℕ, List, [], suc, ap, arith, get_or, set, subst, sym, take}
use Rattle.std.proofs.lemmas.List.{length-set, length-take-le, take_more}
use Rattle.force_walk.specs.Flat.{AreFound}
use Rattle.force_walk.proofs.Layings.{found_body, found_cell}
use Rattle.force_walk.proofs.lay.places_of.Goals.{then-owner-gt0, else-owner-gt0}
use Rattle.force_walk.proofs.lay.places_of.Goals as goal

pub loop-at-preserved : goal.loop-at-preserved
loop-at-preserved c =
    let at : ℕ = c.loop-at.at in
    let places : List ℕ = c.loop-at.places.items in
    let front : List ℕ = take at c.args.owners.now in
    let owner : ℕ = get_or c.args.owners.now at 0 in
    let next : take (at + 1) c.args.owners.now ≡ front ++ owner ∷ [] = take_more c.args.owners.now at 0 c.loop-at-test.true in
    elim c.if-owner-gt0.branch [
      | then-owner-gt0 w ↦
          let up : owner ≡ suc (owner - 1) = omega (arith, w.if-owner-gt0.true) in
          let known = c.requires.known at 0 c.loop-at-test.true in
          let long = length-take-le at c.args.owners.now c.loop-at.auto.at-end in
          rw w.places-is record {
            long = length-set places (owner - 1) at ∙ c.loop-at.invariant.long;
            found = subst (λ (l : List ℕ). AreFound l (set places (owner - 1) at)) (sym (next ∙ ap (λ o. front ++ o ∷ []) up))
                (found_body front places (owner - 1) at (omega (arith, known, up, c.loop-at.invariant.long)) (sym long) c.loop-at.invariant.found);
          }
      | else-owner-gt0 w ↦
          let none : owner ≡ 0 = omega (arith, w.if-owner-gt0.false) in
          rw w.places-is record {
            long = c.loop-at.invariant.long;
            found = subst (λ (l : List ℕ). AreFound l places) (sym (next ∙ ap (λ o. front ++ o ∷ []) none))
                (found_cell front places c.loop-at.invariant.found);
          }
    ]
