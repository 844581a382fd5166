use Rattle.std.proofs.Common.{◌+◌, ◌∙◌, All, List, ℕ, ap, arith, length, subst, sym}
use Rattle.std.proofs.lemmas.List.{length_push}
use Rattle.std.proofs.lemmas.List.Elements.{All-push}
use Rattle.bh_model.specs.Zones.{IsCost}
use Rattle.library_rows.proofs.plain.unequal_costs.Goals as goal

pub loop-n-preserved : goal.loop-n-preserved
loop-n-preserved c = (
  ap length c.in_ok-push.ensures.items ∙ length_push c.loop-n.costs.items _ ∙ ap (λ n. n + 1) c.loop-n.invariant.0,
  subst (λ (xs : List ℕ). All IsCost xs) (sym c.in_ok-push.ensures.items)
      (All-push IsCost c.loop-n.costs.items _ c.loop-n.invariant.1 (record { positive = omega arith; small = omega arith })),
)
