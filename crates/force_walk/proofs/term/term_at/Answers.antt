use Rattle.std.proofs.Common.{◌^◌, ◌<◌, arith, subst, sym}
use Rattle.octant_code.proofs.Distances.{squared_distance-small}
use Rattle.force_walk.proofs.Quotients.{seen_distance}
use Rattle.force_walk.proofs.term.term_at.Goals as goal

pub short_term-requires-clause-near : goal.short_term-requires-clause-near
short_term-requires-clause-near c =
    let is = seen_distance c.args.d2 _ _ _ _ c.from.view_is c.to.view_is c.requires.distance in
    subst (λ d. d < 2 ^ 44) (sym is) (squared_distance-small _ _ c.from.invariant c.to.invariant)

pub plain_term-requires-clause-apart : goal.plain_term-requires-clause-apart
plain_term-requires-clause-apart c = omega (arith, c.requires.apart, c.requires.distance)
