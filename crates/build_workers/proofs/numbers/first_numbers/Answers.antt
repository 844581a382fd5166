use Rattle.std.proofs.Common.{◌∙◌, ℕ, List, [], ◌∷◌, ◌++◌, ap, sym}
use Rattle.bh_model.proofs.Lists.{numbers_more}
use Rattle.bh_model.specs.Bodies.{numbers}
use Rattle.build_workers.proofs.numbers.first_numbers.Goals as goal

pub loop-n-init : goal.loop-n-init
unfolding numbers
loop-n-init c = c.in_ok-list.ensures.items

pub loop-n-preserved : goal.loop-n-preserved
loop-n-preserved c =
    c.in_ok-push.ensures.items ∙ ap (λ (z : List ℕ). z ++ (c.loop-n.n ∷ [])) c.loop-n.invariant ∙ sym (numbers_more c.loop-n.n)
