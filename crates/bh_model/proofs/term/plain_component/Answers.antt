use Rattle.std.proofs.Common.{◌≡◌, pos, ◌-ℤ◌, ◌*ℤ◌, to_z, of_z, arith, ap, ◌∙◌}
use Rattle.std.specs.Int.{w128}
use Rattle.std.proofs.lemmas.Int.{ints}
use Rattle.octant_code.specs.Numbers.{quotient}
use Rattle.bh_model.specs.Pulls.{component}
use Rattle.bh_model.proofs.Terms.{cast_up, stays, dividend_exact}
use Rattle.bh_model.proofs.term.plain_component.Goals as goal

pub returns : goal.returns
unfolding component
returns c =
    let way : to_z w128 (of_z w128 (to_z w128 (of_z w128 c.from.result) -ℤ to_z w128 (of_z w128 c.from-2.result))) ≡ pos c.args.to -ℤ pos c.args.from = omega
    (arith, ints) in
    stays c.trunc_div.result c.trunc_div.type_inv ∙ c.trunc_div.ensures
    ∙ ap (λ z. quotient (to_z w128 (of_z w128 (z *ℤ to_z w128 (of_z w128 (to_z w128 (of_z w128 c.from.result) -ℤ to_z w128 (of_z w128 c.from-2.result))))))
    c.args.divisor) (cast_up c.args.scale (omega arith))
    ∙ ap (λ z. quotient (to_z w128 (of_z w128 (pos c.args.scale *ℤ z))) c.args.divisor) way
    ∙ ap (λ z. quotient z c.args.divisor) (dividend_exact c.args.scale c.args.from c.args.to (omega arith) (omega arith) (omega arith))
