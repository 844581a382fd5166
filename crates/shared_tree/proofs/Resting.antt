-- What a pass is between its calls, after an insertion and after a search.
use Rattle.std.proofs.Common.{◌≡◌, ℕ, zero, suc, ◌+◌, ◌-◌, ◌*◌, ◌<◌, ◌≤◌, Option, None, Some, IfNone, IfSome, List, [], ◌∷◌, length, take, drop}
use Rattle.std.proofs.Common.{sym, ap, ◌∙◌, subst}
use Rattle.std.proofs.Common.{inl, inr, arith}
use Rattle.std.proofs.lemmas.Bool.{cases_lt}
use Rattle.std.proofs.lemmas.List.{length-drop, length-take-le}
use Rattle.octant_code.specs.Space.{Site}
use Rattle.octant_code.specs.Points.{ArePoints}
use Rattle.tree_rule.specs.declared.words.TheConstants.{CELLS_OF_ONE}
use Rattle.tree_passes.specs.declared.view.View.{View}
use Rattle.tree_passes.specs.Counting.{times, without}
use Rattle.tree_passes.specs.Turns.{HasFound, HasNone, IsStill}
use Rattle.tree_passes.proofs.Laws.{length-without, ready_still, times-without}
use Rattle.shared_tree.specs.Inserting.{IsPutIn}
use Rattle.shared_tree.specs.Seen.{IsAtRest}

times_parts : (x n : ℕ) (l : List ℕ) → times x (take n l) + times x (drop n l) ≡ times x l
times_parts x zero l = omega arith
times_parts x (suc n) [] = omega arith
times_parts x (suc n) (y ∷ ys) = let r = times_parts x n ys in omega arith

-- An insertion leaves the pass at rest.
pub rest_put : (v w : View) (words : ℕ) (cells : List ℕ) (room used n : ℕ) → 1 ≤ times n v.todo → IsPutIn v w n (take used cells) → w.under ≡ []
    → used ≤ length cells → IsAtRest v words cells room → IsAtRest w words (drop used cells) (room - used)
rest_put v w words cells room used n h i none_under within r =
    let parts : (c : ℕ) → times c (take used cells) + times c (drop used cells) ≡ times c cells = λ c. times_parts c used cells in
    record {
      some = r.some;
      few = r.few;
      rule = subst ArePoints (sym i.points) r.rule;
      no_lock = i.locks ∙ r.no_lock;
      none_under = none_under;
      todo_in = λ x p.
          let a = times-without n x v.todo h in
          let e : times x w.todo ≡ times x (without n v.todo) = ap (times x) i.todo in
          subst (λ (z : List Site). x < length z) (sym i.points) (r.todo_in x (omega arith));
      ready = record {
        long = i.long ∙ r.ready.long;
        held = λ c. let a = i.held c in let b = r.ready.held c in let t = parts c in omega arith;
        once = λ c. let b = r.ready.once c in let t = parts c in omega arith;
        inside = λ c p. r.ready.inside c (let t = parts c in omega arith);
      };
      stocked =
          let l = length-without n v.todo h in
          let e : length w.todo ≡ length (without n v.todo) = ap length i.todo in
          let s = r.stocked in
          let t = i.taken in
          let k = length-take-le used cells within in
          omega arith;
      drawable = let d = length-drop used cells in let q = i.quota in let a = r.drawable in omega arith;
    }

-- and there are cells for it
pub put_stocked : (v : View) (words : ℕ) (cells : List ℕ) (room n : ℕ) → 1 ≤ times n v.todo → (1 ≤ v.quota → CELLS_OF_ONE ≤ length cells)
    → IsAtRest v words cells room → CELLS_OF_ONE ≤ length cells
put_stocked v words cells room n h drawn r = elim (cases_lt 0 v.quota) [
  | inl some ↦ drawn some
  | inr none ↦ let l = length-without n v.todo h in let s = r.stocked in let a = r.drawable in omega arith
]

-- and so does a load
pub rest_still : (v w : View) (words : ℕ) (cells : List ℕ) (room : ℕ) → IsStill v w → w.under ≡ [] → IsAtRest v words cells room
    → IsAtRest w words cells room
rest_still v w words cells room s none_under r = record {
  some = r.some;
  few = r.few;
  rule = subst ArePoints (sym s.points) r.rule;
  no_lock = s.locks ∙ r.no_lock;
  none_under = none_under;
  todo_in = λ x p. subst (λ (z : List Site). x < length z) (sym s.points) (r.todo_in x (let e = ap (times x) s.todo in omega arith));
  ready = ready_still v w words cells s r.ready;
  stocked = subst (λ (z : List ℕ). CELLS_OF_ONE * length z ≤ room) (sym s.todo) r.stocked;
  drawable = let q = s.quota in let a = r.drawable in omega arith;
}

-- and so does a search that found a body
rest_found : (v w : View) (words : ℕ) (cells : List ℕ) (room : ℕ) (point : Site) (b : ℕ) → HasFound v w point b → w.under ≡ []
    → IsAtRest v words cells room → IsAtRest w words cells room
rest_found v w words cells room point b f none_under r =
    let plain = rest_still v f.plain words cells room f.still (sym (ap (λ (z : View). z.under) f.view) ∙ none_under) r in
    subst (λ (z : View). IsAtRest z words cells room) (sym f.view) (record {
      some = plain.some;
      few = plain.few;
      rule = plain.rule;
      no_lock = plain.no_lock;
      none_under = plain.none_under;
      todo_in = plain.todo_in;
      ready = record { long = plain.ready.long; held = plain.ready.held; once = plain.ready.once; inside = plain.ready.inside };
      stocked = plain.stocked;
      drawable = plain.drawable;
    })

-- whatever it answers
pub rest_sought : (v w : View) (words : ℕ) (cells : List ℕ) (room : ℕ) (point : Site) (result : Option ℕ) → w.under ≡ []
    → IfSome result (HasFound v w point) → IfNone result (HasNone v w point) → IsAtRest v words cells room → IsAtRest w words cells room
rest_sought v w words cells room point None e some none r = rest_still v w words cells room none.still e r
rest_sought v w words cells room point (Some b) e some none r = rest_found v w words cells room point b some e r
