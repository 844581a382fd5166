-- Cells that a pass draws.
use Rattle.std.proofs.Common.{◌≡◌, ℕ, ◌-◌, ◌<◌, ◌≤◌, List, [], ◌∷◌, ◌++◌, length, sym, ap, ◌∙◌, subst, arith}
use Rattle.std.proofs.lemmas.List.{length-append}
use mathlib.Core.Logic.{dite}
use native.Mathlib.Decide.{ℕ_discrete}
use Rattle.bh_model.specs.Bodies.{IsIn}
use Rattle.tree_rule.specs.Words.{lock_place}
use Rattle.tree_passes.specs.declared.view.View.{View}
use Rattle.tree_passes.specs.Counting.{times}
use Rattle.tree_passes.specs.Making.{IsReady}
use Rattle.tree_passes.specs.Plays.{IsDrawn}
use Rattle.tree_passes.proofs.Laws.{in_times, same-eq, same-ne, times-append}
use Rattle.shared_tree.specs.Seen.{HasDrawn}

-- one cell more
pub drawn_more : (v w u : View) (before cells : List ℕ) (c : ℕ) → HasDrawn v w before cells → 1 ≤ w.quota → IsDrawn w c u
    → HasDrawn v u before (cells ++ c ∷ [])
drawn_more v w u before cells c h some d = record {
  view = d.view ∙ ap (λ (z : View). record z { held = c ∷ w.held; quota = w.quota - 1; memory = d.memory }) h.view
      ∙ (λ i. record v {
        held = sym (ap (λ (z : View). z.held) d.view) i;
        quota = sym (ap (λ (z : View). z.quota) d.view) i;
        memory = sym (ap (λ (z : View). z.memory) d.view) i;
      });
  held = λ x.
      let a = h.held x in
      let b = times-append x cells (c ∷ []) in
      let e = ap (λ (z : View). times x z.held) d.view in
      omega arith;
  quota = let a = h.quota in let b = length-append cells (c ∷ []) in let e = ap (λ (z : View). z.quota) d.view in omega arith;
}

-- a cell that is drawn is none of the pass's
pub drawn_absent : (v w : View) (words : ℕ) (cells : List ℕ) (c : ℕ) → IsReady v words cells → IsDrawn v c w → IsIn cells c → ⊥
drawn_absent v w words cells c r d i = let p = in_times c cells i in let h = r.held c in let f = d.fresh in omega arith

-- and it is ready beside the others
pub ready_drawn : (v w : View) (words : ℕ) (cells : List ℕ) (c : ℕ) → IsReady v words cells → IsDrawn v c w → IsReady w words (cells ++ c ∷ [])
ready_drawn v w words cells c r d = record {
  long = ap (λ (z : View). length z.memory) d.view ∙ d.long ∙ r.long;
  held = λ x.
      let b = times-append x cells (c ∷ []) in
      let e = ap (λ (z : View). times x z.held) d.view in
      let h = r.held x in
      omega arith;
  once = λ x.
      let b = times-append x cells (c ∷ []) in
      dite (ℕ_discrete c x)
      (λ e.
      let none : times c cells ≡ 0 = let h = r.held c in let f = d.fresh in omega arith in
      let z = subst (λ (y : ℕ). times y cells ≡ 0) e none in
      let o = same-eq c x e in
      omega arith)
      (λ n. let o = same-ne c x n in let a = r.once x in omega arith);
  inside = λ x p.
      dite (ℕ_discrete c x) (λ e. subst (λ (y : ℕ). lock_place y < words) e (subst (λ (z : ℕ). lock_place c < z) r.long d.inside))
      (λ n. r.inside x (let b = times-append x cells (c ∷ []) in let o = same-ne c x n in omega arith));
}
