use Rattle.std.proofs.Common.{◌≡◌, ◌+◌, ◌∙◌, ap, arith}
use Rattle.octant_code.specs.Space.{Site, squared_distance, squared_gap}
use Rattle.octant_code.proofs.space.squared_distance.Goals as goal

pub returns-clause-value : goal.returns-clause-value
unfolding squared_distance
returns-clause-value c =
    let s : Site = record { x = c.p.inside.x; y = c.p.inside.y; z = c.p.inside.z } in
    let t : Site = record { x = c.q.inside.x; y = c.q.inside.y; z = c.q.inside.z } in
    let parts : c.squared_gap.result + c.squared_gap-2.result + c.squared_gap-3.result
    ≡ squared_gap s.x t.x + squared_gap s.y t.y + squared_gap s.z t.z =
    omega (arith, c.squared_gap.ensures.value, c.squared_gap-2.ensures.value, c.squared_gap-3.ensures.value) in
    parts ∙ ap (λ u. squared_distance u t) c.p.view_is ∙ ap (λ u. squared_distance c.args.p u) c.q.view_is
