use Rattle.std.proofs.Common.{ℕ, List, [], ap, sym, subst}
use Rattle.atomic_table.specs.Table.{opening}
use Rattle.tree_passes.specs.Opening.{Opening, fresh_view}
use Rattle.tree_passes.specs.Locks.{Locked}
use Rattle.tree_passes.proofs.BeginsEnds.{locked_begins}
use Rattle.tree_passes.proofs.ends.open_locked.Goals as goal

pub of_words-requires : goal.of_words-requires
of_words-requires c =
    let points = sym c.of.ensures in
    let words = sym (ap (λ v. v.items) c.of-2.ensures) in
    let todo = sym (ap (λ v. v.items) c.of-3.ensures) in
    let held = sym (ap (λ v. v.items) c.of-4.ensures) in
    let here = sym c.deref.ensures.value in
    subst (λ (z : Opening × List ℕ × List ℕ). Locked z.0 (opening z.1 [] (fresh_view z.0 z.2 c.args.quota z.0.todo)))
    (λ i. (record { sites = points i; words = words i; todo = todo i }, here i, held i))
    (locked_begins c.args.points.now c.args.words.now.items c.args.todo.now.items c.args.held.now.items c.args.pool c.args.quota
    c.requires.octree c.requires.pool)
