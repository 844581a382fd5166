use Rattle.std.proofs.Common.{◌≡◌, ◌<◌, ◌++◌, ◌∷◌, [], ap, subst, sym, arith, drop, length, length-append}
use Rattle.bh_model.specs.Bodies.{IsIn}
use Rattle.cell_pool.specs.Free.{Free, IsRegion}
use Rattle.cell_pool.proofs.Regions.{given}
use Rattle.cell_pool.proofs.region.Region.give.Goals as goal

pub invariant_of-self : goal.invariant_of-self
invariant_of-self c =
    let f = c.self.inside in
    let was = c.self.invariant in
    let absent : IsIn (drop f.spent f.list.items) c.args.c.0 → ⊥ = subst (λ (y : Free). IsIn y.cells c.args.c.0 → ⊥) (sym c.self.view_is) c.requires.absent in
    let place : length (drop f.spent f.list.items) < f.room = subst (λ (y : Free). length y.cells < y.room) (sym c.self.view_is) c.requires.room in
    let items : c.push.new.self.items ≡ f.list.items ++ c.args.c.0 ∷ [] = c.in-Ok.ensures.items in (
      subst (λ xs. IsRegion record { cells = drop f.spent xs; room = f.room }) (sym items)
          (given f.list.items c.args.c.0 f.spent f.room was.1 was.0 absent place),
      omega (arith, was.1, ap length items, length-append f.list.items (c.args.c.0 ∷ [])),
      omega (arith, was.2, c.in-Ok.ensures.capacity),
    )
