use Rattle.std.proofs.Common.{◌++◌, ◌∷◌, [], List, ℕ, ◌∙◌, ap, add-one}
use Rattle.bh_model.specs.Bodies.{numbers}
use Rattle.library_rows.proofs.plain.numbers_below.Goals as goal

pub loop-n-init : goal.loop-n-init
unfolding numbers
loop-n-init c = c.new-list.ensures.items

pub loop-n-preserved : goal.loop-n-preserved
unfolding numbers
loop-n-preserved c = rw add-one (c.in_ok-push.ensures.items ∙ ap (λ (xs : List ℕ). xs ++ (c.loop-n.n ∷ [])) c.loop-n.invariant)
