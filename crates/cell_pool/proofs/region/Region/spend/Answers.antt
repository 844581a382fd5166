use Rattle.std.proofs.Common.{◌≤◌, subst, sym, arith, drop, length, length-drop}
use Rattle.cell_pool.specs.Free.{Free}
use Rattle.cell_pool.proofs.Regions.{spent_more}
use Rattle.cell_pool.proofs.region.Region.spend.Goals as goal

pub invariant_of-self : goal.invariant_of-self
invariant_of-self c =
    let f = c.self.inside in
    let was = c.self.invariant in
    let few : c.args.n ≤ length (drop f.spent f.list.items) = subst (λ (y : Free). c.args.n ≤ length y.cells) (sym c.self.view_is) c.requires in (
      spent_more f.list.items f.spent c.args.n f.room few was.0,
      omega (arith, was.1, few, length-drop f.spent f.list.items),
      omega
          (arith, was.2, was.0.fits, few),
    )
