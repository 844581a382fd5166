use Rattle.std.proofs.Common.{ℕ, ◌∙◌, List, ap, arith, subst, sym}
use Rattle.tree_passes.specs.Counting.{all_of, times}
use Rattle.update_build.specs.declared.sweep.SweepView.{SweepView}
use Rattle.update_build.specs.Sweeping.{CanEmpty, HasEmptied, given_places, kept_places}
use Rattle.update_build.proofs.Sweeping.{can_front, can_given, can_last, emptied_both}
use Rattle.update_build.proofs.workers.+sweeping.Goals as goal

pub empty_lists-split_sweep-own-requires-clause-places : goal.empty_lists-split_sweep-own-requires-clause-places
empty_lists-split_sweep-own-requires-clause-places g t c = λ i.
    let can = can_last (λ v. v.items) c.args.table.now.table_id.words c.args.lists.now c.in-Some.front.now c.in-Some.last.now c.args.pass.now.me.0
    c.in-Some.ensures.cases.0 c.requires.can in
    let d = ap (times i) c.deref-2.ensures.value in
    omega (arith, can.todo i)

pub empty_lists-empty_both-requires-clause-own : goal.empty_lists-empty_both-requires-clause-own
empty_lists-empty_both-requires-clause-own g t c = λ κs within.
    let v = c.args.pass.now.me.0 in
    let own = ap (λ m. m.0) c.split_sweep-own.ensures.new.1 ∙ ap (λ (z : List ℕ). given_places z v) c.deref-2.ensures.value in (
      c.split_sweep-own.ensures.new.0 ∙ c.requires.table.0,
      subst (λ (z : List ℕ × SweepView). CanEmpty c.args.table.now.table_id.words z.0 z.1) (λ i. (sym c.deref-3.ensures.value i, sym own i))
          (can_given (λ v. v.items) c.args.table.now.table_id.words c.args.lists.now c.in-Some.front.now c.in-Some.last.now v c.in-Some.ensures.cases.0
          c.requires.can),
    )

pub empty_lists-empty_both-requires-clause-pass : goal.empty_lists-empty_both-requires-clause-pass
empty_lists-empty_both-requires-clause-pass g t c = λ κs within.
    let v = c.args.pass.now.me.0 in
    let mid = c.split_sweep-own.ensures.old.2 ∙ ap (λ (z : List ℕ). kept_places z v) c.deref-2.ensures.value in (
      c.split_sweep-own.ensures.old.0 ∙ c.requires.table.0,
      c.requires.table.1,
      subst (CanEmpty c.args.table.now.table_id.words (all_of (λ l. l.items) c.in-Some.front.now)) (sym mid)
          (can_front (λ v. v.items) c.args.table.now.table_id.words c.args.lists.now c.in-Some.front.now c.in-Some.last.now v c.in-Some.ensures.cases.0
          c.requires.can),
    )

pub empty_lists-returns-clause-emptied : goal.empty_lists-returns-clause-emptied
empty_lists-returns-clause-emptied g t c =
    let v = c.args.pass.now.me.0 in
    let own = ap (λ m. m.0) c.split_sweep-own.ensures.new.1 ∙ ap (λ (z : List ℕ). given_places z v) c.deref-2.ensures.value in
    let mid = c.split_sweep-own.ensures.old.2 ∙ ap (λ (z : List ℕ). kept_places z v) c.deref-2.ensures.value in
    subst (HasEmptied (all_of (λ l. l.items) c.args.lists.now) v) (sym c.join_sweeps.ensures.2)
    (emptied_both (λ v. v.items) c.args.table.now.table_id.words c.args.lists.now c.in-Some.front.now c.in-Some.last.now v c.in-Some.ensures.cases.0
    c.requires.can c.empty_both.new.own.me.0 c.empty_both.new.pass.me.0
    (subst (λ (z : List ℕ × SweepView). HasEmptied z.0 z.1 c.empty_both.new.own.me.0) (λ i. (c.deref-3.ensures.value i, own i)) c.empty_both.ensures.own.2)
    (subst (λ (z : SweepView). HasEmptied (all_of (λ l. l.items) c.in-Some.front.now) z c.empty_both.new.pass.me.0) mid c.empty_both.ensures.pass.2))
