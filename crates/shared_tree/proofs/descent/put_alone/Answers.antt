use Rattle.std.proofs.Common.{◌≡◌, ◌≢◌, [], arith}
use mathlib.Core.Logic.{dite}
use native.Mathlib.Decide.{ℕ_discrete}
use Rattle.octant_code.specs.Space.{key_of}
use Rattle.octant_code.specs.Points.{site_at}
use Rattle.tree_passes.proofs.Laws.{ready_alone, ready_still}
use Rattle.shared_tree.specs.Publishing.{HasFoundOther}
use Rattle.shared_tree.proofs.Puts.{at_on, inserted_put, leads_still, other_below, other_found, other_small, other_still, put_with}
use Rattle.shared_tree.proofs.descent.put_alone.Given.{Over}
use Rattle.shared_tree.proofs.descent.put_alone.Goals.{After-publish-found}
use Rattle.shared_tree.proofs.descent.put_alone.Goals as goal

pub publish-found-requires-clause-ready : goal.publish-found-requires-clause-ready
publish-found-requires-clause-ready g c =
    let at = c.requires.at in (
      key_of (site_at c.args.points.now c.args.n) c.args.spot.level,
      at.known,
      ready_alone c.args.pass.now.me.0 c.args.points.now c.args.n c.args.spot.level _ at.points at.low at.todo c.word_of_body.ensures,
    )

-- another word was found
other : (g : Over) (c : After-publish-found g) → c.publish-found.result ≢ 0
    → HasFoundOther c.args.pass.now.me.0 c.args.spot.word (key_of (site_at c.args.points.now c.args.n) c.args.spot.level) c.publish-found.result
    c.publish-found.new.pass.me.0
other g c full = c.publish-found.ensures.miss full _ c.requires.at.known

pub named_by-requires : goal.named_by-requires
named_by-requires g c = dite (ℕ_discrete c.publish-found.result 0) (λ (e : c.publish-found.result ≡ 0). omega arith)
    (λ (n : c.publish-found.result ≢ 0). other_small _ _ _ _ _ (other g (goal.at.named_by-requires g c).After-publish-found n) _ _ _ _ c.requires.at)

pub returns-in-Nothing-clause-turn : goal.returns-in-Nothing-clause-turn
returns-in-Nothing-clause-turn g c =
    (omega arith, put_with _ _ c.args.n [] (omega arith) (inserted_put _ _ c.args.n [] (λ x. omega arith) (c.publish-found.ensures.hit c.in-Nothing.ensures)))

pub put_over-requires-clause-at : goal.put_over-requires-clause-at
put_over-requires-clause-at g c =
    at_on _ _ _ _ _ _ (other_still _ _ _ _ _ (other g (goal.at.put_over-requires-clause-at g c).After-publish-found (λ e. omega (arith, e, c.in-Body.ensures))))
    c.publish-found.ensures.no_lock c.requires.at

pub put_over-requires-clause-there : goal.put_over-requires-clause-there
put_over-requires-clause-there g c =
    let full : c.publish-found.result ≢ 0 = λ e. omega (arith, e, c.in-Body.ensures) in
    (other_found _ _ _ _ _ (other g (goal.at.put_over-requires-clause-there g c).After-publish-found full) full).body c.in-Body.x c.in-Body.ensures

pub put_over-requires-clause-ready : goal.put_over-requires-clause-ready
put_over-requires-clause-ready g c =
    ready_still _ _ _ _ (other_still _ _ _ _ _ (other g (goal.at.put_over-requires-clause-ready g c).After-publish-found
    (λ e. omega (arith, e, c.in-Body.ensures))))
    c.requires.ready

pub returns-in-Body-clause-turn : goal.returns-in-Body-clause-turn
returns-in-Body-clause-turn g c =
    leads_still c.args.pass.now.me.0 c.publish-found.new.pass.me.0 c.put_over.new.pass.me.0 c.args.n c.args.spare.now
    (key_of (site_at c.args.points.now c.args.n) c.args.spot.level) c.put_over.result
    (other_still _ _ _ _ _ (other g (goal.at.returns-in-Body-clause-turn g c).After-publish-found (λ e. omega (arith, e, c.in-Body.ensures))))
    c.put_over.ensures.turn

pub returns-in-Cell-clause-turn : goal.returns-in-Cell-clause-turn
returns-in-Cell-clause-turn g c =
    other_below _ _ _ _ _ (other g (goal.at.returns-in-Cell-clause-turn g c).After-publish-found (λ e. omega (arith, e, c.in-Cell.ensures)))
    c.in-Cell.cell c.in-Cell.ensures
