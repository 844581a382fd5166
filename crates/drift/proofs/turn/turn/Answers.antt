use Rattle.std.proofs.Common.{◌≡◌, ◌∙◌, ◌++◌, ◌∷◌, Bool, true, false, not, ap, nat_eq, refl, subst, sym}
use Rattle.std.specs.HashSet.{contains}
use Rattle.octant_code.proofs.InCube.{packed_once}
use Rattle.octant_code.specs.Space.{Site}
use Rattle.drift.specs.Motions.{whole}
use Rattle.drift.specs.Taken.{AreTaken}
use Rattle.drift.proofs.Turning.{exchanged, no_change, same_way}
use Rattle.drift.proofs.turn.turn.Goals as goal
use Rattle.drift.proofs.turn.turn.Goals.{Then-from-packed}

-- the whole point stays, since its packed number does
same : (c : Then-from-packed) → whole c.args.body.now.exact ≡ whole c.target-next.result.exact
same c = sym c.whole.ensures.value ∙ packed_once c.whole.result c.whole-to.result c.whole.ensures.inside c.whole-to.ensures.inside
    (sym c.packed-from.ensures ∙ c.if-from-packed.true ∙ c.packed.ensures) ∙ c.whole-to.ensures.value

pub returns-then-from-packed-clause-turned : goal.returns-then-from-packed-clause-turned
returns-then-from-packed-clause-turned c = λ before rest taken. c.target-next.ensures
    ∙ same_way _ before rest c.args.pull.now c.args.body.now taken (same c ∙ ap (λ m. whole m.exact) c.target-next.ensures)

pub returns-then-from-packed-clause-changed : goal.returns-then-from-packed-clause-changed
returns-then-from-packed-clause-changed c = no_change c.args.body.now c.target-next.result (same c)

pub returns-then-from-packed-clause-taken : goal.returns-then-from-packed-clause-taken
returns-then-from-packed-clause-taken c = λ before rest taken.
    subst (λ (s : Site). AreTaken (contains nat_eq c.args.taken.now) (before ++ s ∷ rest)) (same c) taken

-- the point was free
free : (b : Bool) → true ≡ not b → b ≡ false
free true e = cc
free false e = refl

pub returns-then-take-clause-taken : goal.returns-then-take-clause-taken
returns-then-take-clause-taken c = exchanged (contains nat_eq c.args.taken.now) (contains nat_eq c.take.new.taken) c.args.body.now c.target-next.result
    c.whole.result c.whole-to.result c.packed-from.result c.packed-else-from-packed.result c.whole.ensures.value c.whole-to.ensures.value c.whole.ensures.inside
    c.whole-to.ensures.inside c.packed-from.ensures c.packed-else-from-packed.ensures
    (λ e. c.if-from-packed.false (e ∙ c.packed-else-from-packed.ensures ∙ sym c.packed.ensures)) (free _ c.if-take.ensures.free) c.if-take.ensures.points
