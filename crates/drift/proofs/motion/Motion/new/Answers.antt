use Rattle.std.proofs.Common.{◌≡◌, ◌∙◌, ap, arith, nat_eq, sym, take}
use Rattle.std.specs.HashSet.{contains}
use Rattle.std.specs.List.{list_any}
use Rattle.std.proofs.lemmas.List.{take_all}
use Rattle.octant_code.specs.Space.{packed}
use Rattle.scene_file.specs.declared.bodies.Body.{Body}
use Rattle.drift.specs.Motions.{first_motion, started, whole_points}
use Rattle.drift.proofs.Beginnings.{all_begun, first_more, first_points, taken_more}
use Rattle.drift.proofs.motion.Motion.new.Goals as goal
use Rattle.drift.proofs.motion.Motion.new.Goals.{After-loop-n}

pub loop-n-init : goal.loop-n-init
loop-n-init c = record {
  list = c.in_ok-list.ensures.items;
  held = λ s inside. ap (λ keys. list_any (nat_eq (packed s)) keys) c.in_ok-taken.ensures.empty;
}

pub loop-n-preserved : goal.loop-n-preserved
loop-n-preserved c = record {
  list = first_more c.args.bodies.now c.loop-n.n c.loop-n.list.items c.push.new.self.items c.started.result (omega (arith, c.len-count.ensures.value))
      c.loop-n.invariant.list c.in_ok-push.ensures.items (c.started.ensures ∙ ap started c.get-body.ensures.value);
  held = taken_more (contains nat_eq c.loop-n.taken) (contains nat_eq c.insert.new.self) c.args.bodies.now c.loop-n.n c.packed.result
      (omega (arith, c.len-count.ensures.value)) (rw (sym c.get-body.ensures.value) c.get-body.ensures.inside)
      (c.packed.ensures ∙ ap (λ (b : Body). packed b.at) c.get-body.ensures.value) c.loop-n.invariant.held c.in_ok-insert.ensures.updates.0;
}

-- all bodies are begun
whole_list : (c : After-loop-n) → take c.loop-n.n c.args.bodies.now ≡ c.args.bodies.now
whole_list c = take_all c.loop-n.n c.args.bodies.now (omega (arith, c.len-count.ensures.value))

list : (c : After-loop-n) → c.loop-n.list.items ≡ first_motion c.args.bodies.now
list c = c.loop-n.invariant.list ∙ ap first_motion (whole_list c)

pub invariant_of-result : goal.invariant_of-result
invariant_of-result c = rw (list c) (all_begun c.args.bodies.now (contains nat_eq c.loop-n.taken) c.len-count.ensures.rule
    (rw (whole_list c) at c.loop-n.invariant.held))

pub returns-clause-bodies : goal.returns-clause-bodies
returns-clause-bodies c = list c

pub returns-clause-points : goal.returns-clause-points
returns-clause-points c = ap whole_points (list c) ∙ first_points c.args.bodies.now
