-- What a merge leaves of a pass, between its calls.
use Rattle.std.proofs.Common.{◌≡◌, ℕ, ◌+◌, ◌-◌, ◌*◌, ◌<◌, ◌≤◌, List, [], ◌++◌, length, take, drop, sym, subst, ◌∙◌, ap, inl, inr, arith, length-drop}
use Rattle.std.proofs.lemmas.Bool.{cases_lt}
use Rattle.std.proofs.lemmas.List.{length-append}
use Rattle.atomic_table.specs.Seated.{TableId}
use Rattle.octant_code.specs.Points.{ArePoints}
use Rattle.octant_code.specs.Space.{Site}
use Rattle.bh_model.specs.Bodies.{IsIn, NoneTwice}
use Rattle.bh_model.specs.Trees.{order}
use Rattle.tree_rule.specs.declared.words.TheConstants.{CELLS_OF_ONE}
use Rattle.tree_rule.specs.Words.{at_of, tree_from}
use Rattle.tree_rule.proofs.Laws.{tree-empty}
use Rattle.tree_passes.specs.declared.view.View.{View}
use Rattle.tree_passes.specs.Counting.{times}
use Rattle.tree_passes.specs.Opening.{Opening, all_bodies, start_bodies}
use Rattle.tree_passes.proofs.Laws.{in_times, length-same, once_times, times-append, times_in}
use Rattle.shared_tree.specs.Merging.{HasAllBodies, IsAlone, IsMerged}
use Rattle.shared_tree.specs.Seen.{IsAtRest, IsCounted, risen, state_of}
use Rattle.shared_tree.proofs.Merges.{ready_merged}
use Rattle.shared_tree.proofs.Rests.{part_few}

-- each number of a list without repeats, all of which stand in another, stands there as often
pub among_todo : (bodies todo : List ℕ) → NoneTwice bodies → ((x : ℕ) → IsIn bodies x → 1 ≤ times x todo) → (x : ℕ) → times x bodies ≤ times x todo
among_todo bodies todo once all x = elim (cases_lt 0 (times x bodies)) [
  | inl l ↦ let one = once_times bodies once x in let put = all x (times_in x bodies (omega arith)) in omega arith
  | inr l ↦ omega arith
]

-- a pass has room for 21 cells for each body of a part
pub part_room : (v : View) (words : ℕ) (cells bodies : List ℕ) (room : ℕ) → NoneTwice bodies → ((x : ℕ) → IsIn bodies x → 1 ≤ times x v.todo)
    → IsAtRest v words cells room → CELLS_OF_ONE * length bodies ≤ room
part_room v words cells bodies room once all r =
    let few = part_few v bodies (among_todo bodies v.todo once all) in let s = r.stocked in omega arith

-- and where it has none to draw, it has them
pub part_stocked : (v : View) (words : ℕ) (cells bodies : List ℕ) (room : ℕ) → NoneTwice bodies → ((x : ℕ) → IsIn bodies x → 1 ≤ times x v.todo)
    → (1 ≤ v.quota → CELLS_OF_ONE * length bodies ≤ length cells) → IsAtRest v words cells room → CELLS_OF_ONE * length bodies ≤ length cells
part_stocked v words cells bodies room once all drawn r = elim (cases_lt 0 v.quota) [
  | inl some ↦ drawn some
  | inr none ↦ let p = part_room v words cells bodies room once all r in let a = r.drawable in omega arith
]

-- how many are left to put in, and how many were put in
todo_length : (v w : View) (bodies cells : List ℕ) → IsMerged v w bodies cells → length w.todo + length bodies ≡ length v.todo
todo_length v w bodies cells m =
    sym (length-append w.todo bodies) ∙ length-same (w.todo ++ bodies) v.todo (λ x. times-append x w.todo bodies ∙ m.todo x)

done_length : (v w : View) (bodies cells : List ℕ) → IsMerged v w bodies cells → length w.done ≡ length bodies + length v.done
done_length v w bodies cells m =
    length-same w.done (bodies ++ v.done) (λ x. m.done x ∙ sym (times-append x bodies v.done)) ∙ length-append bodies v.done

-- A merge leaves the pass at rest, with the cells that are left.
pub rest_merged : (v w : View) (words : ℕ) (cells bodies : List ℕ) (room used : ℕ) → IsMerged v w bodies (take used cells)
    → (w.locks ≡ []) × (w.under ≡ []) → used ≤ length cells → used ≤ CELLS_OF_ONE * length bodies → IsAtRest v words cells room
    → IsAtRest w words (drop used cells) (room - used)
rest_merged v w words cells bodies room used m free within few r = record {
  some = r.some;
  few = r.few;
  rule = subst ArePoints (sym m.points) r.rule;
  no_lock = free.0;
  none_under = free.1;
  todo_in = λ x p. subst (λ (z : List Site). x < length z) (sym m.points) (r.todo_in x (let a = m.todo x in omega arith));
  ready = ready_merged v w words used bodies cells m r.ready;
  stocked = let a = todo_length v w bodies (take used cells) m in let s = r.stocked in omega arith;
  drawable = let l = length-drop used cells in let q = m.quota in let a = r.drawable in omega arith;
}

-- and counts its bodies and its publications
pub counted_merged : (v w : View) (bodies cells : List ℕ) (published changes p q n more : ℕ) → IsMerged v w bodies cells
    → w.changes ≡ v.changes + more → IsCounted v published changes → n ≡ risen 0 (length bodies) → p ≡ risen published n → q ≡ risen changes more
    → IsCounted w p q
counted_merged v w bodies cells published changes p q n more m count h is_n is_p is_q = record {
  todo_few = let l = todo_length v w bodies cells m in let f = h.todo_few in omega arith;
  bodies = let l = done_length v w bodies cells m in let b = h.bodies in omega arith;
  publications = let b = h.publications in omega arith;
}

-- of a merge only these parts of a pass are seen
pub merged_seen : (t u : TableId) (v w : View) (bodies cells : List ℕ) → u ≡ t → IsMerged v w bodies cells
    → state_of u w ≡ record (state_of t v) { todo = w.todo; done = w.done; changes = w.changes; loads = w.loads; last = w.last }
merged_seen t u v w bodies cells e m = λ i. record {
  table_id = e i;
  points = m.points i;
  bodies = m.opening i;
  todo = w.todo;
  done = w.done;
  seen = m.seen i;
  changes = w.changes;
  loads = w.loads;
  last = w.last;
}

-- a pass that has all bodies of an opening to put in is alone
pub alone_all : (t : TableId) (v : View) (o : Opening) → v.bodies ≡ all_bodies o → HasAllBodies (state_of t v) o → IsAlone v
unfolding order
alone_all t v o same h x i =
    let none : start_bodies o ≡ [] = ap (λ (z : ℕ). order (tree_from (at_of o.words) 22 z)) h.empty ∙ ap order (tree-empty (at_of o.words) 21) in
    let mine : IsIn o.todo x = subst (λ (z : List ℕ). IsIn (z ++ o.todo) x) none (subst (λ (z : List ℕ). IsIn z x) same i) in
    let left = ap (times x) h.none in
    omega (arith, in_times x o.todo mine, h.all x, times-append x v.todo v.done, left)
