use Rattle.std.proofs.Common.{◌≡◌, ◌-◌, ◌+◌, ◌≤◌, vec_capacity, ℕ, subst, sym, arith, drop, length, length-drop, ap, Vec, Global}
use Rattle.std.proofs.lemmas.List.{length-take-le}
use Rattle.cell_pool.specs.Free.{Free, IsRegion}
use Rattle.cell_pool.proofs.Regions.{cut_back, cut_front}
use Rattle.cell_pool.proofs.region.Region.split_off.Goals.{in-Ok, in-Err}
use Rattle.cell_pool.proofs.region.Region.split_off.Goals as goal

pub invariant_of-result : goal.invariant_of-result
invariant_of-result c =
    let f = c.self.inside in
    let was = c.self.invariant in
    let tail = c.in-Ok.list in
    let k : ℕ = c.len.result - c.args.n in
    let few : c.args.n ≤ length (drop f.spent f.list.items) = subst (λ (y : Free). c.args.n ≤ length y.cells) (sym c.self.view_is) c.requires in
    let count : c.len.result ≡ length f.list.items = omega (arith, c.len.ensures, f.list.ok.0) in
    let enough : f.spent + c.args.n ≤ length f.list.items = omega (arith, was.1, few, length-drop f.spent f.list.items) in
    let own : length tail.items ≡ c.args.n =
    omega (arith, ap length c.in-Ok.ensures.tail, length-drop (c.len.result - c.args.n) f.list.items, count, enough) in (
      subst (λ xs. IsRegion record { cells = xs; room = c.args.n }) (sym c.in-Ok.ensures.tail)
          (cut_back f.list.items f.spent (c.len.result - c.args.n) c.args.n f.room (omega (arith, count, enough)) (omega (arith, count))
          (omega (arith, count)) was.0),
      omega arith,
      omega (arith, own, tail.ok),
    )

pub invariant_of-self : goal.invariant_of-self
invariant_of-self c =
    let f = c.self.inside in
    let was = c.self.invariant in
    let new = c.split_off.new.self in
    let few : c.args.n ≤ length (drop f.spent f.list.items) = subst (λ (y : Free). c.args.n ≤ length y.cells) (sym c.self.view_is) c.requires in
    let count : c.len.result ≡ length f.list.items = omega (arith, c.len.ensures, f.list.ok.0) in
    let enough : f.spent + c.args.n ≤ length f.list.items = omega (arith, was.1, few, length-drop f.spent f.list.items) in
    let room : f.spent + f.room ≤ vec_capacity new = omega (arith, was.2, c.split_off.ensures.capacity) in
    elim c.match-split_off.branch [
      | in-Ok w ↦ (
        subst (λ xs. IsRegion record { cells = drop f.spent xs; room = f.room }) (sym w.in-Ok.ensures.items)
            (cut_front f.list.items f.spent (c.len.result - c.args.n) f.room f.room (omega (arith, count, enough)) (omega (arith, count))
            (omega (arith, count, was.0.fits)) was.0),
        omega (arith, ap length w.in-Ok.ensures.items, length-take-le (c.len.result - c.args.n) f.list.items (omega (arith, count)), count, enough),
        room,
      )
      | in-Err w ↦
          let same : new.items ≡ f.list.items = ap (λ (v : Vec ℕ Global). v.items) w.in-Err.ensures.err in
          (subst (λ xs. IsRegion record { cells = drop f.spent xs; room = f.room }) (sym same) was.0, omega (arith, was.1, ap length same), room)
    ]
