use Rattle.std.proofs.Common.{◌≡◌, [], sym, subst, arith}
use Rattle.octant_code.specs.Points.{ArePoints}
use Rattle.tree_passes.specs.Looks.{Looked}
use Rattle.tree_passes.specs.Turns.{IsStill}
use Rattle.tree_passes.proofs.Laws.{found_learnt, ready_still, still_counted, still_looked}
use Rattle.shared_tree.specs.Copying.{bodies_under}
use Rattle.shared_tree.specs.Merging.{IsPartIn}
use Rattle.shared_tree.proofs.PartPuts.{leads_part, part_on, part_small}
use Rattle.shared_tree.proofs.Puts.{looked_free}
use Rattle.shared_tree.proofs.merge.visit_part.Given.{Over}
use Rattle.shared_tree.proofs.merge.visit_part.Goals.{After-look}
use Rattle.shared_tree.proofs.merge.visit_part.Goals as goal

pub look-requires-clause-rule : goal.look-requires-clause-rule
look-requires-clause-rule g c = subst ArePoints (sym c.requires.at.points) c.requires.at.rule

-- what the load told
looked : (g : Over) (c : After-look g) → Looked c.args.pass.now.me.0 c.args.spot.word c.args.key c.look.result c.look.new.pass.me.0
looked g c = c.look.ensures.looked _ c.requires.at.known

still : (g : Over) (c : After-look g) → IsStill c.args.pass.now.me.0 c.look.new.pass.me.0
still g c = still_looked _ _ _ _ _ (looked g c)

free : (g : Over) (c : After-look g) → (c.look.new.pass.me.0.locks ≡ []) × (c.look.new.pass.me.0.under ≡ [])
free g c = looked_free c.args.pass.now.me.0 _ _ _ c.look.new.pass.me.0 (looked g c) (c.requires.at.no_lock, c.requires.at.none_under)

at : (g : Over) (c : After-look g)
    → IsPartIn c.look.new.pass.me.0 c.args.table.now.table_id.words c.args.points.now c.args.part.now c.args.key c.args.spot
at g c = part_on _ _ _ _ _ _ _ (still g c) (free g c) c.requires.at

pub named_by-requires : goal.named_by-requires
named_by-requires g c =
    part_small _ _ _ _ _ _ _ _ (still_counted c.args.pass.now.me.0 c.args.key c.look.result) (looked g (goal.at.named_by-requires g c).After-look).tells
    c.requires.at

pub put_part_alone-requires-clause-at : goal.put_part_alone-requires-clause-at
put_part_alone-requires-clause-at g c = at g (goal.at.put_part_alone-requires-clause-at g c).After-look

pub put_part_alone-requires-clause-ready : goal.put_part_alone-requires-clause-ready
put_part_alone-requires-clause-ready g c = ready_still _ _ _ _ (still g (goal.at.put_part_alone-requires-clause-ready g c).After-look) c.requires.ready

pub returns-in-Nothing-clause-turn : goal.returns-in-Nothing-clause-turn
returns-in-Nothing-clause-turn g c =
    leads_part c.args.pass.now.me.0 c.look.new.pass.me.0 c.put_part_alone.new.pass.me.0 (bodies_under c.args.part.now) c.args.spare.now c.args.key
    c.put_part_alone.result (still g (goal.at.returns-in-Nothing-clause-turn g c).After-look) c.put_part_alone.ensures.turn

pub put_part_over-requires-clause-at : goal.put_part_over-requires-clause-at
put_part_over-requires-clause-at g c = at g (goal.at.put_part_over-requires-clause-at g c).After-look

pub put_part_over-requires-clause-there : goal.put_part_over-requires-clause-there
put_part_over-requires-clause-there g c =
    (found_learnt _ _ _ _ _ (looked g (goal.at.put_part_over-requires-clause-there g c).After-look) (λ z. omega (arith, z, c.in-Body.ensures))).body
    c.in-Body.x c.in-Body.ensures

pub put_part_over-requires-clause-ready : goal.put_part_over-requires-clause-ready
put_part_over-requires-clause-ready g c = ready_still _ _ _ _ (still g (goal.at.put_part_over-requires-clause-ready g c).After-look) c.requires.ready

pub returns-in-Body-clause-turn : goal.returns-in-Body-clause-turn
returns-in-Body-clause-turn g c =
    leads_part c.args.pass.now.me.0 c.look.new.pass.me.0 c.put_part_over.new.pass.me.0 (bodies_under c.args.part.now) c.args.spare.now c.args.key
    c.put_part_over.result (still g (goal.at.returns-in-Body-clause-turn g c).After-look) c.put_part_over.ensures.turn

pub returns-in-Cell-clause-no_lock : goal.returns-in-Cell-clause-no_lock
returns-in-Cell-clause-no_lock g c = free g (goal.at.returns-in-Cell-clause-no_lock g c).After-look

pub returns-in-Cell-clause-turn : goal.returns-in-Cell-clause-turn
returns-in-Cell-clause-turn g c =
    let d = (goal.at.returns-in-Cell-clause-turn g c).After-look in
    record {
      still = still g d;
      below = (found_learnt _ _ _ _ _ (looked g d) (λ z. omega (arith, z, c.in-Cell.ensures))).cell c.in-Cell.cell c.in-Cell.ensures;
    }
