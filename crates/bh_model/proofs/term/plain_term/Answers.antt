use Rattle.std.proofs.Common.{◌≡◌, ◌+◌, ◌*◌, to_z, of_z, ap, ◌∙◌, sym}
use Rattle.std.specs.Int.{w128}
use Rattle.octant_code.specs.Numbers.{root}
use Rattle.octant_code.specs.Space.{Site, squared_distance}
use Rattle.bh_model.specs.Pulls.{PullLaw, term}
use Rattle.bh_model.proofs.Terms.{one_pull, stays, term-from}
use Rattle.bh_model.proofs.term.plain_term.Goals as goal

pub returns : goal.returns
returns c =
    let law : PullLaw = record { theta_num = c.law.inside.theta_num; theta_den = c.law.inside.theta_den; eps2 = c.law.inside.eps2; g = c.law.inside.g } in
    let from : Site = record { x = c.from-5.inside.x; y = c.from-5.inside.y; z = c.from-5.inside.z } in
    let to : Site = record { x = c.to.inside.x; y = c.to.inside.y; z = c.to.inside.z } in
    let start : squared_distance c.args.from c.args.to ≡ squared_distance from to =
    ap (λ s. squared_distance s c.args.to) (sym c.from-5.view_is) ∙ ap (λ s. squared_distance from s) (sym c.to.view_is) in
    ap (λ x. one_pull x (to_z w128 (of_z w128 c.plain_component-2.result)) (to_z w128 (of_z w128 c.plain_component-3.result)))
    (stays c.plain_component.result c.plain_component.type_inv)
    ∙ ap (λ y. one_pull c.plain_component.result y (to_z w128 (of_z w128 c.plain_component-3.result)))
    (stays c.plain_component-2.result c.plain_component-2.type_inv)
    ∙ ap (λ z. one_pull c.plain_component.result c.plain_component-2.result z) (stays c.plain_component-3.result c.plain_component-3.type_inv)
    ∙ term-from law c.args.mass from to (c.from-3.result * c.from-4.result) c.from.result c.from-2.result
    c.plain_component.result c.plain_component-2.result c.plain_component-3.result
    (ap (λ k. k * c.from-4.result) c.from-3.ensures ∙ ap (λ k. c.law.inside.g * k) c.from-4.ensures)
    (c.from.ensures ∙ ap (λ k. k + c.law.inside.eps2) (c.squared_distance.ensures.value ∙ start))
    (c.from-2.ensures ∙ c.short_isqrt.ensures.value ∙ ap root (sym c.from.ensures))
    c.plain_component.ensures c.plain_component-2.ensures c.plain_component-3.ensures
    ∙ ap (λ l. term l c.args.mass from to) c.law.view_is
    ∙ ap (λ s. term c.args.law.now c.args.mass s to) c.from-5.view_is
    ∙ ap (λ s. term c.args.law.now c.args.mass c.args.from s) c.to.view_is
