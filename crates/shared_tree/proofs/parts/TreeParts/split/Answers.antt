use Rattle.std.proofs.Common.{◌≡◌, ◌+◌, ◌-◌, ◌*◌, ◌≤◌, ℕ, List, length, ap, sym, subst, ◌∙◌, arith}
use Rattle.tree_rule.specs.declared.words.TheConstants.{CELLS_OF_ONE}
use Rattle.tree_passes.specs.Counting.{times}
use Rattle.shared_tree.specs.Seen.{IsAtRest, IsSplit, PartsOfPass}
use Rattle.shared_tree.proofs.Rests.{counted_given, counted_kept, part_few, is_split, rest_given, rest_kept, times-ends}
use Rattle.shared_tree.proofs.parts.TreeParts.split.Goals.{After-min-front, After-split_pass-seat, Start}
use Rattle.shared_tree.proofs.parts.TreeParts.split.Goals as goal

-- the bodies of the part are the pass's
among : (v p : PartsOfPass) (part : List ℕ) → v ≡ p → ((x : ℕ) → times x part ≤ times x p.view.todo) → (x : ℕ) → times x part ≤ times x v.view.todo
among v p part e h x = subst (λ (p : PartsOfPass). times x part ≤ times x p.view.todo) (sym e) (h x)

pub overflow_mul-wanted : goal.overflow_mul-wanted
overflow_mul-wanted c = omega (arith, part_few c.args.pass.now.view c.args.part.now c.requires.part, c.todo_rule.ensures.few)

-- there is room for the cells that it is to have
room : (c : After-min-front) → CELLS_OF_ONE * length c.args.part.now ≤ c.pass.inside.region.room
room c =
    let n = part_few c.pass.inside.seat.me.0 c.args.part.now (among _ _ c.args.part.now c.pass.view_is c.requires.part) in
    let s = c.pass.invariant.2.stocked in
    omega arith

-- so the region has those that it does not draw
there : (c : After-min-front) → CELLS_OF_ONE * length c.args.part.now - c.min-drawn.result ≤ length c.pass.inside.region.cells
there c = omega (arith, room c, c.min-drawn.ensures, c.room.ensures, c.len.ensures.value, c.len.ensures.rule.fits)

-- and what it draws has room, and is drawn from the quota
free : (c : After-min-front) → (length c.pass.inside.region.cells + c.min-drawn.result ≤ c.pass.inside.region.room)
    × (c.min-drawn.result ≤ c.pass.inside.seat.me.0.quota) × (c.min-drawn.result ≤ CELLS_OF_ONE * length c.args.part.now)
free c =
    let d = c.pass.invariant.2.drawable in
    let few = c.len.ensures.rule.fits in (
      omega (arith, few, c.min-drawn.ensures, c.room.ensures, c.len.ensures.value),
      omega (arith, d, few, c.min-drawn.ensures, c.room.ensures, c.len.ensures.value),
      omega (arith, c.min-drawn.ensures),
    )

pub split_ends-requires-clause-cells : goal.split_ends-requires-clause-cells
split_ends-requires-clause-cells c =
    omega (arith, there (goal.at.split_ends-requires-clause-cells c).After-min-front, c.min-front.ensures)

pub split_pass-seat-requires-clause-cells : goal.split_pass-seat-requires-clause-cells
split_pass-seat-requires-clause-cells c = λ x.
    let before = (goal.at.split_pass-seat-requires-clause-cells c).After-min-front in
    let cells = c.pass.inside.region.cells in
    let count = CELLS_OF_ONE * length c.args.part.now - c.min-drawn.result in
    let front = c.min-front.result in
    let s = times-ends front (count - front) cells (omega (arith, there before, c.min-front.ensures)) x in
    omega (arith, s, ap (times x) c.rest.ensures, ap (times x) c.in_ok-region.ensures.split.parted, c.pass.invariant.2.ready.held x)

abbrev old : After-split_pass-seat → PartsOfPass
old c = record { table_id = c.pass.inside.seat.table_id; view = c.pass.inside.seat.me.0; cells = c.pass.inside.region.cells }

abbrev kept : After-split_pass-seat → PartsOfPass
kept c = record { table_id = c.split_pass-seat.new.pass.table_id; view = c.split_pass-seat.new.pass.me.0; cells = c.split_ends.new.self.cells }

abbrev new : After-split_pass-seat → PartsOfPass
new c = record { table_id = c.split_pass-seat.result.table_id; view = c.split_pass-seat.result.me.0; cells = c.in_ok-region.region.cells }

-- the pass was split
split : (c : After-split_pass-seat) → CELLS_OF_ONE * length c.args.part.now - c.min-drawn.result ≤ length c.pass.inside.region.cells
    → IsSplit (old c) (kept c) (new c) c.args.part.now (CELLS_OF_ONE * length c.args.part.now - c.min-drawn.result) c.min-drawn.result
split c few =
    let p = c.in_ok-region.ensures.split in
    let e = c.split_pass-seat.ensures in
    is_split (old c) (kept c) (new c) c.args.part.now c.rest.result.now c.min-front.result _ c.min-drawn.result e.old.0 e.new.0 c.min-front.ensures
    few c.rest.ensures p.parted p.stays e.old.2 (ap (λ z. z.0) e.new.1)

pub invariant_of-result : goal.invariant_of-result
invariant_of-result c =
    let at = goal.at.invariant_of-result c in
    let f = c.pass.inside in
    let e = c.split_pass-seat.ensures.new in
    let part = c.args.part.now in
    let mine = among _ _ part c.pass.view_is c.requires.part in
    let s = split at.After-split_pass-seat (there at.After-min-front) in
    let room = free at.After-min-front in
    let whole : CELLS_OF_ONE * length part ≡ c.in_ok-region.region.room =
    omega (arith, c.in_ok-region.ensures.split.room, room.2, c.min-front.ensures) in (
      ap (λ z. z.1) e.1,
      counted_given f.seat.me.0 c.split_pass-seat.result.me.0 c.rest.result.now part c.min-drawn.result f.published f.changes c.pass.invariant.1 mine
          (ap (λ z. z.0) e.1),
      subst (λ (z : ℕ × ℕ). IsAtRest c.split_pass-seat.result.me.0 z.0 c.in_ok-region.region.cells z.1)
          (λ i. (sym (ap (λ z. z.words) e.0) i, whole i))
          (rest_given (old at.After-split_pass-seat) (kept at.After-split_pass-seat) (new at.After-split_pass-seat) part _ c.min-drawn.result
          f.seat.table_id.words f.region.room s (there at.After-min-front) mine (omega (arith, room.2)) c.pass.invariant.2),
    )

pub invariant_of-pass-2 : goal.invariant_of-pass-2
invariant_of-pass-2 c =
    let at = goal.at.invariant_of-pass-2 c in
    let f = c.pass.inside in
    let e = c.split_pass-seat.ensures.old in
    let part = c.args.part.now in
    let mine = among _ _ part c.pass.view_is c.requires.part in
    let s = split at.After-split_pass-seat (there at.After-min-front) in
    let room = free at.After-min-front in
    let left : f.region.room - CELLS_OF_ONE * length part ≡ c.split_ends.new.self.room =
    omega (arith, c.in_ok-region.ensures.split.room_left, room.2, c.min-front.ensures) in (
      e.1 ∙ c.pass.invariant.0,
      counted_kept f.seat.me.0 c.split_pass-seat.new.pass.me.0 c.rest.result.now part c.min-drawn.result f.published f.changes c.pass.invariant.1 mine e.2,
      subst (λ (z : ℕ × ℕ). IsAtRest c.split_pass-seat.new.pass.me.0 z.0 c.split_ends.new.self.cells z.1)
          (λ i. (sym (ap (λ z. z.words) e.0) i, left i))
          (rest_kept (old at.After-split_pass-seat) (kept at.After-split_pass-seat) (new at.After-split_pass-seat) part _ c.min-drawn.result
          f.seat.table_id.words f.region.room s (there at.After-min-front) mine (omega (arith, room.2)) room.0 c.pass.invariant.2),
    )

pub returns-clause-split : goal.returns-clause-split
returns-clause-split c =
    let at = goal.at.returns-clause-split c in
    let d = at.After-split_pass-seat in
    let part = c.args.part.now in
    let s = split d (there at.After-min-front) in
    let few = (free at.After-min-front).2 in
    let cells : CELLS_OF_ONE * length part - c.min-drawn.result ≡ length c.in_ok-region.region.cells = omega (arith, s.count) in
    let drawn : c.min-drawn.result ≡ CELLS_OF_ONE * length part - length c.in_ok-region.region.cells = omega (arith, s.count, few) in
    subst (λ (p : PartsOfPass). IsSplit p (kept d) (new d) part (length (new d).cells) (CELLS_OF_ONE * length part - length (new d).cells))
    c.pass.view_is
    (subst (λ (z : ℕ × ℕ). IsSplit (old d) (kept d) (new d) part z.0 z.1) (λ i. (cells i, drawn i)) s)
