use Rattle.std.proofs.Common.{◌≡◌, ◌++◌, sym, get_or, ℕ, List, [], ◌∷◌, ap, ◌∙◌}
use Rattle.std.specs.Prelude.{min}
use Rattle.bh_model.specs.Bodies.{numbers}
use Rattle.build_workers.proofs.Laws.{owned_more, owned_no_more}
use Rattle.build_workers.proofs.numbers.numbers_of.Goals.{then-min-w+in_ok-push, else-min-w}
use Rattle.build_workers.proofs.numbers.numbers_of.Goals as goal

pub loop-n-init : goal.loop-n-init
unfolding numbers
loop-n-init c = c.new-share.ensures.items

pub loop-n-preserved : goal.loop-n-preserved
loop-n-preserved c =
    let own : ℕ → ℕ = λ n. min (get_or c.args.owners.now n 0) c.args.last in
    let n = c.loop-n.n in
    let least : c.min.result ≡ own n = c.min.ensures in
    elim c.if-min-w.branch [
      | then-min-w+in_ok-push t ↦ ap (λ v. v.items) t.share-is ∙ t.in_ok-push.ensures.items ∙ ap (λ (z : List ℕ). z ++ (n ∷ [])) c.loop-n.invariant
          ∙ owned_more own n c.args.w (sym (least) ∙ t.if-min-w.true)
      | else-min-w t ↦ ap (λ v. v.items) t.share-is ∙ c.loop-n.invariant ∙ owned_no_more own n c.args.w (λ e. t.if-min-w.false (least ∙ e))
    ]
