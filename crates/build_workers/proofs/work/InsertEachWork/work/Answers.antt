use Rattle.std.proofs.Common.{◌≡◌, ℕ, ◌+◌, ◌<◌, ◌≤◌, List, get_or, length, map, take, ap, sym, ◌∙◌, arith}
use Rattle.std.proofs.lemmas.List.{get_or-map, length-map, take_all}
use Rattle.octree.specs.Ranks.{body_of_rank}
use Rattle.tree_passes.specs.Counting.{same, times, without}
use Rattle.tree_passes.proofs.Laws.{length-same, none_in, times-without}
use Rattle.shared_tree.specs.Seen.{PassState}
use Rattle.build_workers.proofs.Ordering.{next_todo, put_more}
use Rattle.build_workers.proofs.work.InsertEachWork.work.Given.{Over}
use Rattle.build_workers.proofs.work.InsertEachWork.work.Goals.{After-body_of}
use Rattle.build_workers.proofs.work.InsertEachWork.work.Goals as goal

-- the bodies in the order in which they are put in
abbrev order : (g : Over) (c : After-body_of g) → List ℕ
order g c = map body_of_rank c.rank_share.new.ranks

inside : (g : Over) (c : After-body_of g) → c.loop-i.i < length (order g c)
inside g c = let long = length-map c.rank_share.new.ranks body_of_rank in omega (arith, c.loop-i-test.true, long)

-- the next of them
is_next : (g : Over) (c : After-body_of g) → c.body_of.result ≡ get_or (order g c) c.loop-i.i 0
is_next g c = c.body_of.ensures ∙ sym (get_or-map body_of_rank c.rank_share.new.ranks c.loop-i.i 0 0 c.loop-i-test.true)

next : (g : Over) (c : After-body_of g) → 1 ≤ times c.body_of.result (g.T.SharedPasses.state c.loop-i.pass).todo
next g c =
    next_todo (order g c) (g.T.SharedPasses.state c.loop-i.pass).todo c.args.share.now c.loop-i.i c.body_of.result (inside g c) (is_next g c)
    c.rank_share.ensures c.loop-i.invariant.1

pub insert-requires-clause-todo : goal.insert-requires-clause-todo
insert-requires-clause-todo g c = next g (goal.at.insert-requires-clause-todo g c).After-body_of

pub loop-i-preserved : goal.loop-i-preserved
loop-i-preserved g c =
    let i = c.loop-i.invariant in
    let state = g.T.SharedPasses.state in
    let e = c.insert.ensures in
    let n = c.body_of.result in
    let todo = (state c.loop-i.pass).todo in
    let at = (goal.at.loop-i-preserved g c).After-body_of in
    let more = λ (x : ℕ). put_more x (order g at) c.loop-i.i n 0 (inside g at) (is_next g at) in (
      record {
        table = ap (λ (p : PassState). p.table_id) e ∙ i.0.table;
        points = ap (λ (p : PassState). p.points) e ∙ i.0.points;
        bodies = ap (λ (p : PassState). p.bodies) e ∙ i.0.bodies;
      },
      (λ x.
          let t : times x (state c.insert.new.pass).todo ≡ times x (without n todo) = ap (λ (p : PassState). times x p.todo) e in
          let w = times-without n x todo (next g at) in
          let m = more x in
          let l = i.1 x in
          omega (arith, t, w, m, l)),
      (λ x.
          let d : times x (state c.insert.new.pass).done ≡ same n x + times x (state c.loop-i.pass).done = ap (λ (p : PassState). times x p.done) e in
          let m = more x in
          let b = i.2 x in
          omega (arith, d, m, b)),
      ap (λ (p : PassState). p.changes) e ∙ ap (λ (z : ℕ). z + 1) i.3,
    )

pub returns : goal.returns
returns g c =
    let i = c.loop-i.invariant in
    let state = g.T.SharedPasses.state in
    let p = state c.loop-i.pass in
    let ranks = c.rank_share.new.ranks in
    let put = map body_of_rank ranks in
    let long : length put ≡ length ranks = length-map ranks body_of_rank in
    let same_long : length put ≡ length c.args.share.now = length-same put c.args.share.now c.rank_share.ensures in
    let all : take c.loop-i.i put ≡ put = take_all c.loop-i.i put (omega (arith, long, c.loop-i-test.false)) in
    let count : c.loop-i.i ≡ length c.args.share.now = omega (arith, long, same_long, c.loop-i-test.false) in
    record {
      done = record {
        tree = i.0;
        todo = none_in p.todo (λ x. let l = i.1 x in let e = c.rank_share.ensures x in let a = ap (times x) all in omega (arith, l, e, a));
        done = λ x. i.2 x ∙ ap (times x) all ∙ c.rank_share.ensures x;
        changes = i.3 ∙ count;
      };
    }
