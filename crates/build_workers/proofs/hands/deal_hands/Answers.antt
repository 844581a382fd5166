use Rattle.std.proofs.Common.{◌≡◌, ◌≤◌, ◌++◌, ℕ, List, [], ◌∷◌, length, map, refl, sym, subst, ◌∙◌, ap, arith}
use Rattle.std.proofs.lemmas.List.{drop_all, map-append}
use Rattle.std.proofs.lemmas.List.Elements.{All-push}
use Rattle.bh_model.specs.Bodies.{numbers}
use Rattle.tree_passes.specs.Counting.{sum_of, times, without_all}
use Rattle.tree_passes.proofs.Laws.{none_in, times-without_all}
use Rattle.shared_tree.specs.Seen.{PassState}
use Rattle.build_workers.specs.Hands.{ArePrepared, AreReady}
use Rattle.build_workers.specs.Working.{IsReady}
use Rattle.bh_model.proofs.Lists.{numbers_more}
use Rattle.build_workers.proofs.Dealing.{dealt_more, left_less, todo_alone}
use Rattle.build_workers.proofs.hands.deal_hands.Goals as goal

pub loop-w-init : goal.loop-w-init
unfolding numbers
loop-w-init g c =
    let none = c.in_ok-hands.ensures.items in (
      subst (λ l. AreReady g.T.SharedPasses.state (g.T.SharedPasses.tree c.args.tree.now) l) (sym none) (λ k d l. absurd (omega arith)),
      ap (map (λ h. h.share.now)) none,
      refl,
      c.requires.parted,
      ap (map (λ h. h.worker)) none,
      subst (λ l. ArePrepared (g.W.Work.prepared c.args.work.now (g.T.SharedPasses.tree c.args.tree.now)) l) (sym none) (λ k d l. absurd (omega arith)),
    )

pub loop-w-preserved : goal.loop-w-preserved
loop-w-preserved g c =
    let i = c.loop-w.invariant in
    let state = g.T.SharedPasses.state in
    let t = g.T.SharedPasses.tree c.args.tree.now in
    let shares = c.args.shares.now in
    let w = c.loop-w.w in
    let s = c.index-shares-w.result in
    let is = c.index-shares-w.is in
    let part = c.as_slice-share.result.now in
    let part_is : part ≡ s.items = c.as_slice-share.ensures.value in
    let kept = c.in_ok-part.ensures.kept in
    let more = c.in_ok-push.ensures.items in
    let todo = (state c.loop-w.pass).todo in
    let left = left_less (λ z. z.items) shares w s todo c.loop-w-test.true is i.3 in
    let among : (x : ℕ) → times x part ≤ times x todo = λ x. let l = left x in let p = ap (times x) part_is in omega arith in
    let new = c.in_ok-part.ensures.new in
    let before = i.2 in (
      subst (λ l. AreReady state t l) (sym more) (All-push (λ h. IsReady t (state h.pass) h.share.now) c.loop-w.hands.items _ i.0 (record {
        tree = record {
          table = ap (λ (p : PassState). p.table_id) new ∙ ap (λ (p : PassState). p.table_id) before ∙ c.requires.tree.table;
          points = ap (λ (p : PassState). p.points) new ∙ ap (λ (p : PassState). p.points) before ∙ c.requires.tree.points;
          bodies = ap (λ (p : PassState). p.bodies) new ∙ ap (λ (p : PassState). p.bodies) before ∙ c.requires.tree.bodies;
        };
        todo = ap (λ (p : PassState). p.todo) new;
        done = ap (λ (p : PassState). p.done) new;
        changes = ap (λ (p : PassState). p.changes) new;
      })),
      dealt_more (λ z. z.items) shares w s c.loop-w.hands.items _ _ c.loop-w-test.true is part_is more i.1,
      todo_alone (state c.args.pass.now) (state c.loop-w.pass) (state c.split.new.pass) (without_all part todo) i.2 kept,
      (λ x.
          let l = left x in
          let p = ap (times x) part_is in
          let r = times-without_all part todo among x in
          let k = ap (λ (z : PassState). times x z.todo) kept in
          omega arith),
      ap (map (λ h. h.worker)) more ∙ map-append (λ h. h.worker) c.loop-w.hands.items (_ ∷ [])
          ∙ ap (λ (z : List ℕ). z ++ (w ∷ [])) i.4 ∙ sym (numbers_more w),
      subst (λ l. ArePrepared (g.W.Work.prepared c.args.work.now t) l) (sym more)
          (All-push (λ h. g.W.Work.prepared c.args.work.now t h.share.now h.own) c.loop-w.hands.items _ i.5 c.in_ok-own.ensures),
    )

pub returns-clause-workers : goal.returns-clause-workers
returns-clause-workers g c =
    let all : c.loop-w.w ≡ length c.args.shares.now = omega arith in
    c.loop-w.invariant.4 ∙ ap numbers all

pub returns-clause-pass : goal.returns-clause-pass
returns-clause-pass g c =
    let i = c.loop-w.invariant in
    let state = g.T.SharedPasses.state in
    let end = drop_all c.loop-w.w c.args.shares.now (omega arith) in
    let none : (state c.loop-w.pass).todo ≡ [] = none_in (state c.loop-w.pass).todo (λ x. i.3 x ∙ ap (sum_of (λ s. times x s.items)) end) in
    i.2 ∙ ap (λ (t : List ℕ). record (state c.args.pass.now) { todo = t }) none

pub returns-clause-prepared : goal.returns-clause-prepared
returns-clause-prepared g c = c.loop-w.invariant.5
