use Rattle.std.proofs.Common.{◌<◌, ◌≤◌, ◌∷◌, [], ap, subst, sym, arith, drop, length, length-append, length-drop}
use Rattle.cell_pool.specs.Free.{Free}
use Rattle.cell_pool.proofs.Regions.{taken}
use Rattle.cell_pool.proofs.region.Region.take.Goals as goal

pub invariant_of-self : goal.invariant_of-self
invariant_of-self c =
    let f = c.self.inside in
    let was = c.self.invariant in
    let new = c.pop.new.self.items in
    let some : 0 < length (drop f.spent f.list.items) = subst (λ (y : Free). 0 < length y.cells) (sym c.self.view_is) c.requires in
    let low : f.spent ≤ length new =
    omega (arith, some, length-drop f.spent f.list.items, ap length c.in-Some.ensures.items, length-append new (c.in-Some.number ∷ [])) in
    (taken f.list.items new c.in-Some.number f.spent f.room c.in-Some.ensures.items low was.0, low, omega (arith, was.2, c.in-Some.ensures.capacity))
