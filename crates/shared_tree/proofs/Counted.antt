-- What passes have counted, after an insertion and after a search.
use Rattle.std.proofs.Common.{◌≡◌, ℕ, ◌+◌, ◌≤◌, Option, None, Some, IfNone, IfSome, List, ◌∷◌, length, sym, ap, subst, ◌∙◌, arith}
use Rattle.octant_code.specs.Space.{Site}
use Rattle.tree_passes.specs.declared.view.View.{View}
use Rattle.tree_passes.specs.Counting.{times, without}
use Rattle.tree_passes.specs.Turns.{HasFound, HasNone, IsStill}
use Rattle.tree_passes.proofs.Laws.{length-without}
use Rattle.shared_tree.specs.Seen.{IsCounted, risen}

-- one body more, and one publication
pub counted_put : (v w : View) (n published changes p q : ℕ) → w.todo ≡ without n v.todo → w.done ≡ n ∷ v.done → w.changes ≡ v.changes + 1
    → 1 ≤ times n v.todo → IsCounted v published changes → p ≡ risen published 1 → q ≡ risen changes 1 → IsCounted w p q
counted_put v w n published changes p q todo done more there h is_p is_q = record {
  todo_few =
      let l = length-without n v.todo there in
      let e : length w.todo ≡ length (without n v.todo) = ap length todo in
      let f = h.todo_few in
      omega arith;
  bodies =
      let e : length w.done ≡ length v.done + 1 = ap length done ∙ (omega arith) in
      let b = h.bodies in
      omega arith;
  publications = let b = h.publications in omega arith;
}

counted_still : (v w : View) (published changes : ℕ) → IsStill v w → IsCounted v published changes → IsCounted w published changes
counted_still v w published changes s h = record {
  todo_few = let e = ap length s.todo in let f = h.todo_few in omega arith;
  bodies = h.bodies ∙ ap (λ (l : List ℕ). risen 0 (length l)) (sym s.done);
  publications = h.publications ∙ ap (risen 0) (sym s.changes);
}

-- a search counts nothing
pub counted_sought : (v w : View) (published changes : ℕ) (point : Site) (result : Option ℕ) → IfSome result (HasFound v w point)
    → IfNone result (HasNone v w point) → IsCounted v published changes → IsCounted w published changes
counted_sought v w published changes point None found missed h = counted_still v w published changes missed.still h
counted_sought v w published changes point (Some b) found missed h =
    let plain = counted_still v found.plain published changes found.still h in
    subst (λ (z : View). IsCounted z published changes) (sym found.view)
    (record { todo_few = plain.todo_few; bodies = plain.bodies; publications = plain.publications })
