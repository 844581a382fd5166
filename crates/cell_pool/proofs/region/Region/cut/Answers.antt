use Rattle.std.proofs.Common.{◌≡◌, ◌-◌, ◌+◌, ◌≤◌, ℕ, subst, sym, ap, ◌∙◌, arith, drop, take, length, length-drop}
use Rattle.std.proofs.lemmas.List.{length-take-le}
use Rattle.cell_pool.specs.Free.{Free, IsRegion}
use Rattle.cell_pool.proofs.Regions.{cut_cells, cut_front}
use Rattle.cell_pool.proofs.region.Region.cut.Goals as goal

pub invariant_of-self : goal.invariant_of-self
invariant_of-self c =
    let f = c.self.inside in
    let was = c.self.invariant in
    let few : c.args.n ≤ length (drop f.spent f.list.items) = subst (λ (y : Free). c.args.n ≤ length y.cells) (sym c.self.view_is) c.requires.cells in
    let count : c.len.result ≡ length f.list.items = omega (arith, c.len.ensures, f.list.ok.0) in
    let enough : f.spent + c.args.n ≤ length f.list.items = omega (arith, was.1, few, length-drop f.spent f.list.items) in
    let room : length (drop f.spent f.list.items) + c.args.more ≤ f.room =
    subst (λ (y : Free). length y.cells + c.args.more ≤ y.room) (sym c.self.view_is) c.requires.room in
    let k : ℕ = c.len.result - c.args.n in (
      subst (λ xs. IsRegion record { cells = drop f.spent xs; room = f.room - (c.args.n + c.args.more) }) (sym c.truncate.ensures.items)
          (cut_front f.list.items f.spent k f.room _ (omega (arith, count, enough)) (omega (arith, count)) (omega (arith, count, enough, few, room)) was.0),
      omega (arith, ap length c.truncate.ensures.items, length-take-le k f.list.items (omega (arith, count)), count, enough),
      omega (arith, was.2, room, c.truncate.ensures.capacity),
    )

pub returns-clause-cells : goal.returns-clause-cells
returns-clause-cells c =
    let f = c.self.inside in
    let few : c.args.n ≤ length (drop f.spent f.list.items) = subst (λ (y : Free). c.args.n ≤ length y.cells) (sym c.self.view_is) c.requires.cells in
    let count : c.len.result ≡ length f.list.items = omega (arith, c.len.ensures, f.list.ok.0) in
    let enough : f.spent + c.args.n ≤ length f.list.items = omega (arith, c.self.invariant.1, few, length-drop f.spent f.list.items) in
    ap (drop f.spent) (c.truncate.ensures.items ∙ ap (λ (k : ℕ). take (k - c.args.n) f.list.items) count)
    ∙ cut_cells f.list.items f.spent c.args.n enough
    ∙ ap (λ (y : Free). take (length y.cells - c.args.n) y.cells) c.self.view_is
