use Rattle.std.proofs.Common.{length, map, subst, ap, ◌∙◌, take, drop, ◌++◌, arith}
use Rattle.tree_passes.specs.Counting.{times}
use Rattle.tree_passes.proofs.Laws.{sum_of-map}
use Rattle.build_workers.specs.Hands.{EachIsDone}
use Rattle.build_workers.proofs.Taken.{all_done, put_shares, AreAllDone}
use Rattle.build_workers.proofs.workers.work_shares.Given.{Over}
use Rattle.build_workers.proofs.workers.work_shares.Goals.{After-work_all}
use Rattle.build_workers.proofs.workers.work_shares.Goals as goal

-- all workers are done
done : (g : Over) (c : After-work_all g)
    → AreAllDone g.T.SharedPasses.state (g.T.SharedPasses.tree c.args.tree.now) (g.W.Work.publishes c.args.work.now)
    (map (λ s. s.items) c.args.shares.now)
    (take c.in_ok-hands.hands.len (c.work_all.new.hands ++ drop (length c.work_all.new.hands) c.in_ok-hands.hands.items))
done g c =
    let state = g.T.SharedPasses.state in
    let t = g.T.SharedPasses.tree c.args.tree.now in
    let may = g.W.Work.publishes c.args.work.now in
    let size = c.in_ok-hands.hands.ok.0 in
    let value = c.as_mut_slice.ensures.value in
    all_done state t may (map (λ s. s.items) c.args.shares.now) c.in_ok-hands.hands.items c.work_all.new.hands c.in_ok-hands.hands.len (omega arith)
    (c.work_all.ensures.count ∙ ap length value) c.in_ok-hands.ensures.shares
    (subst (λ l. EachIsDone state t may l c.work_all.new.hands) value c.work_all.ensures.done)

pub deal_hands-requires-clause-parted : goal.deal_hands-requires-clause-parted
deal_hands-requires-clause-parted g c = λ κ within x. c.requires.parted x ∙ sum_of-map (times x) (λ s. s.items) c.args.shares.now

pub join_hands-requires-clause-spent : goal.join_hands-requires-clause-spent
join_hands-requires-clause-spent g c = λ κ within. (done g (goal.at.join_hands-requires-clause-spent g c).After-work_all).spent

pub returns : goal.returns
returns g c =
    let state = g.T.SharedPasses.state in
    put_shares state (g.T.SharedPasses.tree c.args.tree.now) (g.W.Work.publishes c.args.work.now) (map (λ s. s.items) c.args.shares.now) _
    (state c.args.pass.now) (state c.deal_hands.new.pass) (state c.join_hands.new.pass) (done g (goal.at.returns g c).After-work_all) c.requires.tree
    c.requires.nothing_done.0 c.requires.nothing_done.1 c.in_ok-hands.ensures.pass c.join_hands.ensures
