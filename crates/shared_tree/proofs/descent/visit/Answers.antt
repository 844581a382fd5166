use Rattle.std.proofs.Common.{arith, ◌≡◌, ◌<◌, ◌∙◌, ap, sym, subst, List, [], length}
use Rattle.octant_code.specs.Space.{Site, key_of}
use Rattle.octant_code.specs.Points.{site_at, ArePoints}
use Rattle.tree_passes.specs.Looks.{Looked}
use Rattle.tree_passes.specs.Turns.{IsStill}
use Rattle.tree_passes.proofs.Laws.{found_learnt, looked_own, ready_still, still_counted, still_looked}
use Rattle.shared_tree.specs.Inserting.{IsAt}
use Rattle.shared_tree.proofs.Puts.{at_on, leads_still, looked_free, word_at}
use Rattle.shared_tree.proofs.descent.visit.Given.{Over}
use Rattle.shared_tree.proofs.descent.visit.Goals.{After-load}
use Rattle.shared_tree.proofs.descent.visit.Goals as goal

-- what the load told
looked : (g : Over) (c : After-load g) → Looked c.args.pass.now.me.0 c.args.spot.word
    (key_of (site_at c.args.points.now c.args.n) c.args.spot.level) c.load.result c.load.new.pass.me.0
looked g c =
    let at = c.requires.at in
    looked_own _ _ _ _ _ c.args.n _ (subst ArePoints (sym at.points) at.rule) (subst (λ (z : List Site). c.args.n < length z) (sym at.points) at.n_in) at.todo
    (ap (λ (z : List Site). site_at z c.args.n) at.points ∙ sym c.at.ensures.value) (c.load.ensures.sought _ at.known)

still : (g : Over) (c : After-load g) → IsStill c.args.pass.now.me.0 c.load.new.pass.me.0
still g c = still_looked _ _ _ _ _ (looked g c)

free : (g : Over) (c : After-load g) → (c.load.new.pass.me.0.locks ≡ []) × (c.load.new.pass.me.0.under ≡ [])
free g c = looked_free c.args.pass.now.me.0 _ _ _ c.load.new.pass.me.0 (looked g c) (c.requires.at.no_lock, c.requires.at.none_under)

at : (g : Over) (c : After-load g) → IsAt c.load.new.pass.me.0 c.args.table.now.table_id.words c.args.points.now c.args.n c.args.spot
at g c = at_on _ _ _ _ _ _ (still g c) (free g c) c.requires.at

pub named_by-requires : goal.named_by-requires
named_by-requires g c =
    word_at _ _ _ _ _ _ _ _ (still_counted c.args.pass.now.me.0 (key_of (site_at c.args.points.now c.args.n) c.args.spot.level) c.load.result)
    (looked g (goal.at.named_by-requires g c).After-load).tells c.requires.at

pub put_alone-requires-clause-at : goal.put_alone-requires-clause-at
put_alone-requires-clause-at g c = at g (goal.at.put_alone-requires-clause-at g c).After-load

pub put_alone-requires-clause-ready : goal.put_alone-requires-clause-ready
put_alone-requires-clause-ready g c = ready_still _ _ _ _ (still g (goal.at.put_alone-requires-clause-ready g c).After-load) c.requires.ready

pub returns-in-Nothing-clause-turn : goal.returns-in-Nothing-clause-turn
returns-in-Nothing-clause-turn g c =
    leads_still c.args.pass.now.me.0 c.load.new.pass.me.0 c.put_alone.new.pass.me.0 c.args.n c.args.spare.now
    (key_of (site_at c.args.points.now c.args.n) c.args.spot.level) c.put_alone.result
    (still g (goal.at.returns-in-Nothing-clause-turn g c).After-load) c.put_alone.ensures.turn

pub put_over-requires-clause-at : goal.put_over-requires-clause-at
put_over-requires-clause-at g c = at g (goal.at.put_over-requires-clause-at g c).After-load

pub put_over-requires-clause-there : goal.put_over-requires-clause-there
put_over-requires-clause-there g c =
    (found_learnt _ _ _ _ _ (looked g (goal.at.put_over-requires-clause-there g c).After-load) (λ z. omega (arith, z, c.in-Body.ensures))).body
    c.in-Body.x c.in-Body.ensures

pub put_over-requires-clause-ready : goal.put_over-requires-clause-ready
put_over-requires-clause-ready g c = ready_still _ _ _ _ (still g (goal.at.put_over-requires-clause-ready g c).After-load) c.requires.ready

pub returns-in-Body-clause-turn : goal.returns-in-Body-clause-turn
returns-in-Body-clause-turn g c =
    leads_still c.args.pass.now.me.0 c.load.new.pass.me.0 c.put_over.new.pass.me.0 c.args.n c.args.spare.now
    (key_of (site_at c.args.points.now c.args.n) c.args.spot.level) c.put_over.result
    (still g (goal.at.returns-in-Body-clause-turn g c).After-load) c.put_over.ensures.turn

pub returns-in-Cell-clause-no_lock : goal.returns-in-Cell-clause-no_lock
returns-in-Cell-clause-no_lock g c = free g (goal.at.returns-in-Cell-clause-no_lock g c).After-load

pub returns-in-Cell-clause-turn : goal.returns-in-Cell-clause-turn
returns-in-Cell-clause-turn g c =
    let d = (goal.at.returns-in-Cell-clause-turn g c).After-load in
    record {
      still = still g d;
      below = (found_learnt _ _ _ _ _ (looked g d) (λ z. omega (arith, z, c.in-Cell.ensures))).cell c.in-Cell.cell c.in-Cell.ensures;
    }
