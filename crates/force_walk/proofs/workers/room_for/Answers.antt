-- There are as many rooms as zones were gone through, each as long as its zone.
use Rattle.std.proofs.Common.{ℕ, ◌≡◌, ◌∙◌, Global, Vec, ap, arith, length, map}
use Rattle.std.proofs.lemmas.List.{take_all}
use Rattle.bh_model.specs.declared.pull.Pull.{Pull}
use Rattle.force_walk.proofs.Placements.{by_place, rooms_more}
use Rattle.force_walk.proofs.workers.room_for.Goals as goal

pub loop-w-preserved : goal.loop-w-preserved
loop-w-preserved c =
    let zone : Vec ℕ Global = c.index-zones-w.result in
    let list : Vec Pull Global = c.in_ok-list.list in
    let long : length list.items ≡ length zone.items = grind (arith, c.in_ok-list.ensures.len, list.ok.0, ap length c.as_slice-zone.ensures.value) in
    rooms_more (λ (p : Vec Pull Global). length p.items) (λ (z : Vec ℕ Global). length z.items) c.loop-w.lists.items _ c.args.zones.now c.loop-w.w list zone
    c.loop-w-test.true c.index-zones-w.is long c.in_ok-push.ensures.items c.loop-w.invariant

pub returns : goal.returns
returns c =
    by_place (λ (p : Vec Pull Global). length p.items) (λ (z : Vec ℕ Global). length z.items) c.loop-w.lists.items c.args.zones.now
    (c.loop-w.invariant ∙ ap (map (λ (z : Vec ℕ Global). length z.items)) (take_all c.loop-w.w c.args.zones.now c.loop-w-test.false))
