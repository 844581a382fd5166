use Rattle.std.proofs.Common.{arith, ap}
use Rattle.octant_code.specs.Space.{Site, key_of}
use Rattle.space_split.proofs.Spread.{code_groups}
use Rattle.space_split.proofs.interleave.code_of.Goals as goal

pub returns : goal.returns
returns c =
    let s : Site = record { x = c.p.inside.x; y = c.p.inside.y; z = c.p.inside.z } in
    omega (
      arith,
      code_groups s c.p.invariant,
      ap (λ (t : Site). key_of t 21) c.p.view_is,
      c.octants-top.ensures.value,
      c.octants-middle.ensures.value,
      c.octants-bottom.ensures.value,
    )
