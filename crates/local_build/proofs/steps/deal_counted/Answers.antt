use Rattle.std.proofs.Common.{◌≡◌, ◌≤◌, ◌<◌, ◌+◌, ℕ, List, [], All, Vec, Global, drop, get_or, length, sym, subst, ◌∙◌, ap, arith}
use Rattle.std.proofs.lemmas.List.{drop_more}
use Rattle.std.proofs.lemmas.List.Elements.{All-push}
use Rattle.tree_passes.specs.Counting.{sum_of, times}
use Rattle.tree_passes.proofs.Laws.{times-without_all}
use Rattle.shared_tree.specs.Seen.{IsOf, PassState}
use Rattle.local_build.proofs.steps.deal_counted.Goals as goal

-- what the todo list has is what the shares from one on have: that share's, and the rest's
left_less : (shares : List (Vec ℕ Global)) (w : ℕ) (s : Vec ℕ Global) (todo : List ℕ) → w < length shares → s ≡ get_or shares w s
    → ((x : ℕ) → times x todo ≡ sum_of (λ z. times x z.items) (drop w shares)) → (x : ℕ)
    → times x todo ≡ times x s.items + sum_of (λ z. times x z.items) (drop (w + 1) shares)
left_less shares w s todo less is left x =
    left x ∙ ap (sum_of (λ z. times x z.items)) (drop_more shares w s less)
    ∙ ap (λ z. times x z.items + sum_of (λ y. times x y.items) (drop (w + 1) shares)) (sym is)

pub loop-share-init : goal.loop-share-init
loop-share-init c =
    let none = c.in_ok-passes.ensures.items in (
      subst (λ l. All (λ k. IsOf k.pass c.args.tree.now × (k.pass.todo ≡ k.share.now)) l) (sym none) (λ k d l. absurd (omega arith)),
      c.requires.tree,
      c.requires.todo,
    )

pub split-requires-clause-tree : goal.split-requires-clause-tree
split-requires-clause-tree c = c.loop-share.invariant.1

pub split-requires-clause-part : goal.split-requires-clause-part
split-requires-clause-part c x =
    let left = left_less c.args.shares.now c.loop-share.share-index c.share-item.result c.loop-share.pass.todo c.loop-share-test.true
    c.share-item.is c.loop-share.invariant.2 x in
    let part = ap (times x) c.deref.ensures.value in
    omega arith

pub loop-share-preserved : goal.loop-share-preserved
loop-share-preserved c =
    let i = c.loop-share.invariant in
    let t = c.args.tree.now in
    let left = left_less c.args.shares.now c.loop-share.share-index c.share-item.result c.loop-share.pass.todo c.loop-share-test.true
    c.share-item.is i.2 in
    let part : c.deref.result.now ≡ c.share-item.result.items = c.deref.ensures.value in
    let among : (x : ℕ) → times x c.deref.result.now ≤ times x c.loop-share.pass.todo = λ x. let l = left x in let p = ap (times x) part in omega arith in
    let new = c.in_ok-own.ensures.new in
    let kept = c.in_ok-own.ensures.kept in
    let more = c.in_ok-push.ensures.items in (
      subst (λ l. All (λ k. IsOf k.pass t × (k.pass.todo ≡ k.share.now)) l) (sym more)
          (All-push (λ k. IsOf k.pass t × (k.pass.todo ≡ k.share.now)) c.loop-share.passes.items _ i.0 (
            record {
              table = ap (λ (p : PassState). p.table_id) new ∙ i.1.table;
              points = ap (λ (p : PassState). p.points) new ∙ i.1.points;
              bodies = ap (λ (p : PassState). p.bodies) new ∙ i.1.bodies;
            },
            ap (λ (p : PassState). p.todo) new ∙ part ∙ sym c.as_slice.ensures.value,
          )),
      record {
        table = ap (λ (p : PassState). p.table_id) kept ∙ i.1.table;
        points = ap (λ (p : PassState). p.points) kept ∙ i.1.points;
        bodies = ap (λ (p : PassState). p.bodies) kept ∙ i.1.bodies;
      },
      (λ x.
          let l = left x in
          let p = ap (times x) part in
          let r = times-without_all c.deref.result.now c.loop-share.pass.todo among x in
          let k = ap (λ (z : PassState). times x z.todo) kept in
          omega arith),
    )

pub returns : goal.returns
returns c = c.loop-share.invariant.0
