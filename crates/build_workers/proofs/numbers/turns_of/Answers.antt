use Rattle.std.proofs.Common.{◌%◌, ◌++◌, ℕ, List, [], ◌∷◌, ap, ◌∙◌}
use Rattle.bh_model.specs.Bodies.{numbers}
use Rattle.build_workers.proofs.Laws.{owned_more, owned_no_more}
use Rattle.build_workers.proofs.numbers.turns_of.Goals.{then-n-workers+in_ok-push, else-n-workers}
use Rattle.build_workers.proofs.numbers.turns_of.Goals as goal

pub loop-n-init : goal.loop-n-init
unfolding numbers
loop-n-init c = c.new-share.ensures.items

pub loop-n-preserved : goal.loop-n-preserved
loop-n-preserved c =
    let own : ℕ → ℕ = λ n. n % c.args.workers in
    let n = c.loop-n.n in
    elim c.if-n-workers.branch [
      | then-n-workers+in_ok-push t ↦ ap (λ v. v.items) t.share-is ∙ t.in_ok-push.ensures.items ∙ ap (λ (z : List ℕ). z ++ (n ∷ [])) c.loop-n.invariant
          ∙ owned_more own n c.args.w t.if-n-workers.true
      | else-n-workers t ↦ ap (λ v. v.items) t.share-is ∙ c.loop-n.invariant ∙ owned_no_more own n c.args.w t.if-n-workers.false
    ]
