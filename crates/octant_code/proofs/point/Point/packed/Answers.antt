use Rattle.std.proofs.Common.{ap, ◌≡◌, ◌∙◌, ◌^◌, refl}
use Rattle.octant_code.specs.Space.{Site, packed}
use Rattle.octant_code.proofs.point.Point.packed.Goals as goal

pub returns : goal.returns
unfolding packed
returns c =
    let side : c.from-side.result ≡ 2 ^ 21 = c.from-side.ensures in
    let x : c.from.result ≡ c.args.self.x = c.from.ensures ∙ ap (λ (s : Site). s.x) c.self.view_is in
    let y : c.from-2.result ≡ c.args.self.y = c.from-2.ensures ∙ ap (λ (s : Site). s.y) c.self.view_is in
    let z : c.from-3.result ≡ c.args.self.z = c.from-3.ensures ∙ ap (λ (s : Site). s.z) c.self.view_is in
    rw (x, y, z, side) refl
