use Rattle.std.proofs.Common.{◌≡◌, ◌<◌, ◌^◌, ◌≤◌, ◌-◌, length, ap, sym, arith}
use Rattle.bh_model.specs.Pulls.{no_pull}
use Rattle.scene_file.specs.Bodies.{body_at, total_mass}
use Rattle.frame_core.specs.Pushes.{pull_at}
use Rattle.frame_core.proofs.Pushes.{met-more, met-none, part_room, push_small, small_x, small_y, small_z, sum_more, sum_room, upto-none}
use Rattle.frame_core.proofs.sums.sum_up.Goals as goal

pub loop-n-init : goal.loop-n-init
loop-n-init c = record {
  met = sym (met-none c.args.pulls.now);
  met_small = omega arith;
  x = sym (upto-none _);
  y = sym (upto-none _);
  z = sym (upto-none _);
}

pub with_push-requires-clause-room : goal.with_push-requires-clause-room
with_push-requires-clause-room c =
    let bodies = c.args.bodies.now in
    let pulls = c.args.pulls.now in
    sum_room bodies pulls (λ p. p.ax) c.loop-n.n c.loop-n.sums.push_x c.len-n-end.ensures.rule.total (omega arith)
    (small_x bodies pulls c.requires.one_each c.requires.small) c.loop-n.invariant.x

pub with_push-requires-in-loop-n-clause-room : goal.with_push-requires-in-loop-n-clause-room
with_push-requires-in-loop-n-clause-room c =
    let bodies = c.args.bodies.now in
    let pulls = c.args.pulls.now in
    sum_room bodies pulls (λ p. p.ay) c.loop-n.n c.loop-n.sums.push_y c.len-n-end.ensures.rule.total (omega arith)
    (small_y bodies pulls c.requires.one_each c.requires.small) c.loop-n.invariant.y

pub with_push-requires-in-loop-n-clause-small : goal.with_push-requires-in-loop-n-clause-small
with_push-requires-in-loop-n-clause-small c =
    let each = small_y c.args.bodies.now c.args.pulls.now c.requires.one_each c.requires.small in
    part_room (pull_at c.args.pulls.now c.loop-n.n).ay (each c.loop-n.n (omega arith))

pub with_push-requires-in-loop-n-2-clause-room : goal.with_push-requires-in-loop-n-2-clause-room
with_push-requires-in-loop-n-2-clause-room c =
    let bodies = c.args.bodies.now in
    let pulls = c.args.pulls.now in
    sum_room bodies pulls (λ p. p.az) c.loop-n.n c.loop-n.sums.push_z c.len-n-end.ensures.rule.total (omega arith)
    (small_z bodies pulls c.requires.one_each c.requires.small) c.loop-n.invariant.z

pub with_push-requires-in-loop-n-2-clause-small : goal.with_push-requires-in-loop-n-2-clause-small
with_push-requires-in-loop-n-2-clause-small c =
    let each = small_z c.args.bodies.now c.args.pulls.now c.requires.one_each c.requires.small in
    part_room (pull_at c.args.pulls.now c.loop-n.n).az (each c.loop-n.n (omega arith))

pub loop-n-preserved : goal.loop-n-preserved
loop-n-preserved c =
    let bodies = c.args.bodies.now in
    let pulls = c.args.pulls.now in
    let n = c.loop-n.n in
    let less : n < length bodies = omega (arith, c.len-n-end.ensures.value) in
    let mass : c.get-mass.result.mass ≡ (body_at bodies n).mass = ap (λ b. b.mass) c.get-mass.ensures.value in
    let few : total_mass bodies < 2 ^ 40 = c.len-n-end.ensures.rule.total in
    let met : (pull_at pulls n).met ≤ length bodies - 1 = (c.requires.small n no_pull (omega arith)).met in
    let most : length bodies ≤ 65536 = c.len-n-end.ensures.rule.few in
    record {
      met = omega (arith, c.loop-n.invariant.met, c.from.ensures, met-more pulls n);
      met_small = omega (arith, c.loop-n.invariant.met_small, c.from.ensures, met, most);
      x =
          sum_more bodies pulls (λ p. p.ax) n c.get-mass.result.mass c.loop-n.sums.push_x c.with_push.result few less
          (small_x bodies pulls c.requires.one_each c.requires.small)
          c.loop-n.invariant.x mass c.with_push.ensures;
      y =
          sum_more bodies pulls (λ p. p.ay) n c.get-mass.result.mass c.loop-n.sums.push_y c.with_push-in-loop-n.result few less
          (small_y bodies pulls c.requires.one_each c.requires.small)
          c.loop-n.invariant.y mass c.with_push-in-loop-n.ensures;
      z =
          sum_more bodies pulls (λ p. p.az) n c.get-mass.result.mass c.loop-n.sums.push_z c.with_push-in-loop-n-2.result few less
          (small_z bodies pulls c.requires.one_each c.requires.small)
          c.loop-n.invariant.z mass c.with_push-in-loop-n-2.ensures;
    }

pub returns-clause-small_x : goal.returns-clause-small_x
returns-clause-small_x c =
    let bodies = c.args.bodies.now in
    let pulls = c.args.pulls.now in
    push_small bodies pulls (λ p. p.ax) c.loop-n.n c.loop-n.sums.push_x c.len-n-end.ensures.rule.total (omega arith)
    (small_x bodies pulls c.requires.one_each c.requires.small) c.loop-n.invariant.x

pub returns-clause-small_y : goal.returns-clause-small_y
returns-clause-small_y c =
    let bodies = c.args.bodies.now in
    let pulls = c.args.pulls.now in
    push_small bodies pulls (λ p. p.ay) c.loop-n.n c.loop-n.sums.push_y c.len-n-end.ensures.rule.total (omega arith)
    (small_y bodies pulls c.requires.one_each c.requires.small) c.loop-n.invariant.y

pub returns-clause-small_z : goal.returns-clause-small_z
returns-clause-small_z c =
    let bodies = c.args.bodies.now in
    let pulls = c.args.pulls.now in
    push_small bodies pulls (λ p. p.az) c.loop-n.n c.loop-n.sums.push_z c.len-n-end.ensures.rule.total (omega arith)
    (small_z bodies pulls c.requires.one_each c.requires.small) c.loop-n.invariant.z
