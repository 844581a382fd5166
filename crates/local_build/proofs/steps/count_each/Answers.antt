use Rattle.std.proofs.Common.{◌≡◌, ◌≤◌, ◌+◌, ℕ, Bool, List, ◌∷◌, cond, drop, get_or, length, refl, sym, ◌∙◌, ap, arith, eq-eqb}
use Rattle.std.proofs.lemmas.List.{drop_more}
use Rattle.tree_passes.specs.Counting.{same, times, without}
use Rattle.shared_tree.specs.Seen.{PassState}
use Rattle.local_build.proofs.steps.count_each.Goals as goal

-- what is left without its first
without_first : (n : ℕ) (l : List ℕ) → without n (n ∷ l) ≡ l
without_first n l = ap (λ (b : Bool). cond b l (n ∷ without n l)) (eq-eqb n n refl)

-- the first is there
first_there : (n : ℕ) (l : List ℕ) → 1 ≤ times n (n ∷ l)
first_there n l = let one : same n n ≡ 1 = ap (λ (b : Bool). cond b 1 0) (eq-eqb n n refl) in omega arith

pub loop-i-init : goal.loop-i-init
loop-i-init g c = (c.requires.tree, c.requires.todo)

pub insert-requires-clause-tree : goal.insert-requires-clause-tree
insert-requires-clause-tree g c = c.loop-i.invariant.0

pub insert-requires-clause-todo : goal.insert-requires-clause-todo
insert-requires-clause-todo g c =
    let share = c.args.counted.now.share.now in
    let n = get_or share c.loop-i.i 0 in
    let todo = ap (times n) (c.loop-i.invariant.1 ∙ drop_more share c.loop-i.i 0 c.loop-i-test.true) in
    let there = first_there n (drop (c.loop-i.i + 1) share) in
    omega arith

pub finds-found-requires : goal.finds-found-requires
finds-found-requires g c =
    record {
      tree = record {
        table = ap (λ (p : PassState). p.table_id) c.insert.ensures.pass ∙ c.loop-i.invariant.0.table;
        points = ap (λ (p : PassState). p.points) c.insert.ensures.pass ∙ c.loop-i.invariant.0.points;
        bodies = ap (λ (p : PassState). p.bodies) c.insert.ensures.pass ∙ c.loop-i.invariant.0.bodies;
      };
    }

pub loop-i-preserved : goal.loop-i-preserved
loop-i-preserved g c =
    let share = c.args.counted.now.share.now in
    let n = get_or share c.loop-i.i 0 in (
      c.finds-found.ensures.tree,
      c.finds-found.ensures.todo ∙ ap (λ (p : PassState). p.todo) c.insert.ensures.pass
          ∙ ap (without n) (c.loop-i.invariant.1 ∙ drop_more share c.loop-i.i 0 c.loop-i-test.true) ∙ without_first n (drop (c.loop-i.i + 1) share),
    )
