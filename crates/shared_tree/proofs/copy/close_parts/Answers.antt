use Rattle.std.proofs.Common.{◌≡◌, ◌-◌, ◌/◌, ℕ, List, ◌++◌, length, take, drop, sym, ap, subst, ◌∙◌, arith}
use Rattle.std.specs.Slots.{slots_items}
use Rattle.octree.specs.Stored.{AreOctreeWords, Stored, full_tree, word_count}
use Rattle.tree_passes.specs.Counting.{times}
use Rattle.tree_passes.specs.Opening.{opening_of}
use Rattle.tree_passes.proofs.Laws.{times-append}
use Rattle.shared_tree.specs.Ends.{AreCopied, IsTreeAtEnd}
use Rattle.shared_tree.specs.Seen.{PartsOfPass, SharedTree}
use Rattle.shared_tree.proofs.Copies.{AreBack, are_back, given_within, tree_at_end, used_reach, written_back}
use Rattle.shared_tree.proofs.copy.close_parts.Goals.{After-close-closed, After-free}
use Rattle.shared_tree.proofs.copy.close_parts.Goals as goal

pub close-closed-requires-clause-all : goal.close-closed-requires-clause-all
close-closed-requires-clause-all c = λ x.
    let v = c.pass.inside.seat.me.0 in
    ap (λ (t : SharedTree). times x t.opening.todo) c.tree.view_is ∙ c.requires.all x
    ∙ sym (ap (λ (p : PartsOfPass). times x (p.view.todo ++ p.view.done)) c.pass.view_is) ∙ times-append x v.todo v.done

-- the closed table has the words of so many cells
long : (c : After-close-closed) → length (slots_items c.close-closed.result.words) ≡ word_count ((c.word_count.result - 3) / 10)
long c =
    let e = c.close-closed.ensures in
    omega (arith, e.closed.long, e.counts.0, c.close-closed.result.words.ok.0, c.word_count.ensures)

pub used_cells-used-requires-clause-given : goal.used_cells-used-requires-clause-given
used_cells-used-requires-clause-given c =
    let e = c.close-closed.ensures in
    let w = given_within (slots_items c.close-closed.result.words) c.tree.inside.table.shared.key.writing _ e.unlocked e.given
    (long (goal.at.used_cells-used-requires-clause-given c).After-close-closed) in
    omega (arith, w, c.close-closed.result.words.ok.0)

-- the words with what was copied into them
written : (c : After-free) → take c.resized-words.result.len (c.copy_cells.new.out ++ drop (length c.copy_cells.new.out) c.resized-words.result.items)
    ≡ c.copy_cells.new.out
written c =
    let words = c.resized-words.result in
    written_back c.copy_cells.new.out words.items words.len
    (let e = ap length c.deref_mut.ensures.value in omega (arith, words.ok.0, c.copy_cells.ensures.long, e))

back : (c : After-free) → AreBack (opening_of c.tree.inside.table.shared.key) c.pass.inside.seat.me.0.done c.pass.inside.seat.me.0.seen c.copy_cells.new.out
back c =
    let e = c.close-closed.ensures in
    let f = c.tree.inside in
    let v = c.pass.inside.seat.me.0 in
    let ws = slots_items c.close-closed.result.words in
    let u = c.used_cells-used.ensures in
    let used = c.used_cells-used.result in
    let cells = (c.word_count.result - 3) / 10 in
    let count : length ws ≡ word_count cells = omega (arith, e.closed.long, e.counts.0, c.close-closed.result.words.ok.0, c.word_count.ensures) in
    are_back (opening_of f.table.shared.key) v.done v.seen ws c.resized-words.result.items c.copy_cells.new.out used e.closed
    (used_reach (opening_of f.table.shared.key) v.done v.seen ws f.table.shared.key.writing cells used e.closed e.unlocked e.given count u.given u.none)
    (subst (λ (z : List ℕ). AreCopied ws z c.copy_cells.new.out used) c.deref_mut.ensures.value c.copy_cells.ensures)
    (omega (arith, c.resized-words.ensures, c.place_of_child.ensures)) (omega (arith, count, u.within))

pub of_words-requires : goal.of_words-requires
of_words-requires c =
    let at = (goal.at.of_words-requires c).After-free in
    subst AreOctreeWords (sym (written at)) (back at).octree

pub returns : goal.returns
returns c =
    let at = (goal.at.returns c).After-free in
    let v = c.pass.inside.seat.me.0 in
    subst (λ (z : SharedTree × PartsOfPass × Stored). IsTreeAtEnd z.0.opening z.1.view.done z.1.view.seen z.2)
    (λ i. (c.tree.view_is i, c.pass.view_is i, sym (c.of_words.ensures.tree ∙ ap (λ (z : List ℕ). full_tree z) (written at)) i))
    (tree_at_end (opening_of c.tree.inside.table.shared.key) v.done v.seen c.copy_cells.new.out (back at))
