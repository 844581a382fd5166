use Rattle.std.proofs.Common.{◌≡◌, ◌∷◌, suc, length, sym, ap, subst, ◌∙◌, arith}
use Rattle.std.specs.Vec.Iter.{into_iter_items}
use Rattle.shared_tree.specs.Seen.{PassState}
use Rattle.build_workers.specs.Hands.{joined_with, AreSpent}
use Rattle.build_workers.proofs.Dealing.{joined_first}
use Rattle.build_workers.proofs.hands.join_hands.Goals as goal

pub loop-hand-preserved : goal.loop-hand-preserved
loop-hand-preserved g c =
    let at = c.loop-hand in
    let state = g.T.SharedPasses.state in
    let h = c.in-Some.hand in
    let i = at.invariant in
    let steps : into_iter_items at.hand-iterator ≡ h ∷ into_iter_items c.next.new.self = c.in-Some.ensures.steps.0 in
    let spent = subst (λ l. AreSpent state (g.T.SharedPasses.tree c.args.tree.now) l) steps i.2 in
    let e = c.join.ensures in (
      (let gone = c.in-Some.ensures.steps.1 in let short = ap length steps in let was = i.0 in omega arith),
      record {
        table = ap (λ (p : PassState). p.table_id) e ∙ i.1.table;
        points = ap (λ (p : PassState). p.points) e ∙ i.1.points;
        bodies = ap (λ (p : PassState). p.bodies) e ∙ i.1.bodies;
      },
      (λ k d l. spent (suc k) d (omega arith)),
      joined_first state (state at.pass) (state c.join.new.into) h (into_iter_items c.next.new.self) e
          ∙ ap (λ l. joined_with state (state at.pass) l) (sym steps) ∙ i.3,
    )
