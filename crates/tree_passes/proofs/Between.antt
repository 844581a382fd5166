-- Between any two steps the words name cells and bodies exactly, and give the canonical octree.
use Rattle.std.proofs.Common.{◌≡◌, ◌≢◌, ℕ, zero, suc, ◌+◌, ◌≤◌, ◌↔◌, List, [], ◌∷◌, ◌++◌, refl, sym, ◌∙◌, subst, inl, inr, arith}
use Rattle.std.proofs.lemmas.List.{append-nil}
use mathlib.Core.Logic.{dite}
use native.Mathlib.Decide.{ℕ_discrete}
use Rattle.atomic_table.specs.Table.{State}
use Rattle.octant_code.specs.Points.{site_at}
use Rattle.bh_model.specs.Bodies.{IsIn, NoneTwice}
use Rattle.tree_rule.specs.Words.{at_of, HasBody, HasCell}
use Rattle.tree_rule.specs.Flat.{StandsFor}
use Rattle.tree_rule.specs.Sound.{HereAs}
use Rattle.tree_rule.proofs.Laws.{cells_complete, cells_once, exact_of_stands, flat_gives_canonical, order_has_none_twice, order_members, place_kept}
use Rattle.tree_rule.proofs.Laws.{sound_of_stands, stands_same, word_is}
use Rattle.tree_rule.specs.declared.words.TheConstants.{POOL_PLACE}
use Rattle.tree_passes.specs.declared.view.View.{View}
use Rattle.tree_passes.specs.declared.view.Writing.{Writing}
use Rattle.tree_passes.specs.declared.view.Writing.TheVariants.{ByExchange, UnderLocks}
use Rattle.tree_passes.specs.Rules.{RuleOf}
use Rattle.tree_passes.specs.Counting.{all_of, numbers_from, sum_of, times}
use Rattle.tree_passes.specs.Opening.{Opening, start_bodies, start_cells}
use Rattle.tree_passes.specs.Passes.{IsBody, IsCell}
use Rattle.tree_passes.specs.Rule.{Free, Kept}
use Rattle.tree_passes.specs.Locks.{Locked}
use Rattle.tree_passes.specs.Between.{bodies_now, cells_elsewhere, cells_held, cells_left, cells_now, HoldsBetween}
use Rattle.tree_passes.proofs.Counts.{in_times, once_times, same-eq, same-ne, sum_of-add, sum_of_none, sum_of_one, times-append, times_in, times_once}
use Rattle.tree_passes.proofs.Looking.{tells}

-- how often a number stands in the lists of all members
times_all : {A : Type 0} (x : ℕ) (f : A → List ℕ) (l : List A) → times x (all_of f l) ≡ sum_of (λ a. times x (f a)) l
times_all x f [] = refl
times_all x f (a ∷ as') = let t = times-append x (f a) (all_of f as') in let r = times_all x f as' in omega arith

-- numbers from one on stand once, and none below it
times_from : (x n count : ℕ) → (times x (numbers_from n count) ≤ 1) × (1 ≤ times x (numbers_from n count) → n ≤ x)
times_from x n zero = (omega arith, λ h. absurd (omega arith))
times_from x n (suc count) =
    let r = times_from x (n + 1) count in
    let below : times n (numbers_from (n + 1) count) ≡ 0 = dite (ℕ_discrete (times n (numbers_from (n + 1) count)) 0) (λ z. z)
    (λ z. absurd (let t = (times_from n (n + 1) count).1 (omega arith) in omega arith)) in
    dite (ℕ_discrete n x)
    (λ (e : n ≡ x).
    let none_more : times x (numbers_from (n + 1) count) ≡ 0 = subst (λ (z : ℕ). times z (numbers_from (n + 1) count) ≡ 0) e below in
    let one = same-eq n x e in (omega arith, λ h. omega arith))
    (λ (e : n ≢ x). let no = same-ne n x e in (omega (arith, r.0), λ h. let t = r.1 (omega arith) in omega arith))

-- a count of members in two lists
in_both : (x : ℕ) (xs ys : List ℕ) → IsIn (xs ++ ys) x ↔ (1 ≤ times x xs + times x ys)
in_both x xs ys = (
  (λ p. let a = in_times x (xs ++ ys) p in let b = times-append x xs ys in omega arith),
  (λ h. times_in x (xs ++ ys) (let b = times-append x xs ys in omega arith)),
)

module _ (o : Opening) (s : State (Unit {0}) View) (h : Kept o s) where
  start_cell : (c : ℕ) → HasCell o.words c ↔ IsIn (start_cells o) c
  start_cell = cells_complete (site_at o.sites) (at_of o.words) (at_of o.words 0) 1 (HasCell o.words) (HasBody o.words) (omega arith) h.opened.stand

  start_body : (x : ℕ) → HasBody o.words x ↔ IsIn (start_bodies o) x
  start_body = order_members (site_at o.sites) (at_of o.words) (at_of o.words 0) 1 (HasCell o.words) (HasBody o.words) h.opened.stand

  published_are : (c : ℕ) → times c (all_of (λ (v : View). v.published) s.views) ≡ h.cells c
  published_are c = times_all c (λ (v : View). v.published) s.views ∙ sym (h.parted.cells_are c)

  done_are : (x : ℕ) → times x (all_of (λ (v : View). v.done) s.views) ≡ h.bodies x
  done_are x = times_all x (λ (v : View). v.done) s.views ∙ sym (h.parted.bodies_are x)

  cell_now : (c : ℕ) → IsCell o h.cells c ↔ IsIn (cells_now o s.views) c
  cell_now c =
      let both = in_both c (start_cells o) (all_of (λ (v : View). v.published) s.views) in
      let e = published_are c in (
        (λ p. both.1 (elim p [ inl q ↦ (let t = in_times c (start_cells o) ((start_cell c).0 q) in omega arith) | inr q ↦ omega arith ])),
        (λ p. let t = both.0 p in
            dite (ℕ_discrete (times c (start_cells o)) 0) (λ z. inr (omega arith)) (λ z. inl ((start_cell c).1 (times_in c (start_cells o) (omega arith))))),
      )

  body_now : (x : ℕ) → IsBody o h.bodies x ↔ IsIn (bodies_now o s.views) x
  body_now x =
      let both = in_both x (start_bodies o) (all_of (λ (v : View). v.done) s.views) in
      let e = done_are x in (
        (λ p. both.1 (elim p [ inl q ↦ (let t = in_times x (start_bodies o) ((start_body x).0 q) in omega arith) | inr q ↦ omega arith ])),
        (λ p. let t = both.0 p in
            dite (ℕ_discrete (times x (start_bodies o)) 0) (λ z. inr (omega arith)) (λ z. inl ((start_body x).1 (times_in x (start_bodies o) (omega arith))))),
      )

  stands_now : StandsFor (site_at o.sites) (at_of s.words) (at_of s.words 0) 1 (IsIn (cells_now o s.views)) (IsIn (bodies_now o s.views))
  stands_now = stands_same (site_at o.sites) (at_of s.words) (at_of s.words 0) 1 (IsCell o h.cells) (IsIn (cells_now o s.views)) (IsBody o h.bodies)
      (IsIn (bodies_now o s.views)) cell_now body_now h.stand

  -- no body stands twice among the published ones
  bodies_once : NoneTwice (bodies_now o s.views)
  bodies_once = times_once (bodies_now o s.views) (λ x.
      let t = times-append x (start_bodies o) (all_of (λ (v : View). v.done) s.views) in
      let e = done_are x in
      let d = h.parted.bodies_are x in
      let r = h.parted.entrusted x in
      let q = sum_of-add (λ (v : View). times x v.todo) (λ (v : View). times x v.done) s.views in
      let a = h.opened.todo_once x in
      let b = once_times (start_bodies o)
      (order_has_none_twice (site_at o.sites) (at_of o.words) (at_of o.words 0) 1 (HasCell o.words) (HasBody o.words) h.opened.stand) x in
      dite (ℕ_discrete (times x (start_bodies o)) 0) (λ z. omega arith)
      (λ z. let fresh : times x o.todo ≡ 0 = dite (ℕ_discrete (times x o.todo) 0) (λ y. y)
      (λ y. absurd (h.opened.todo_fresh x (omega arith) ((start_body x).1 (times_in x (start_bodies o) (omega arith))))) in omega arith))

  -- no cell stands twice among those of the start, of passes, and others that are neither
  cells_apart : (rest : List ℕ) → ((c : ℕ) → times c rest ≤ 1) → ((c : ℕ) → 1 ≤ times c rest → HasCell o.words c → ⊥)
      → ((c : ℕ) → 1 ≤ times c rest → sum_of (λ (v : View). times c v.published + times c v.held) s.views ≡ 0)
      → NoneTwice (cells_now o s.views ++ (cells_held s.views ++ rest))
  cells_apart rest once no_start no_pass = times_once (cells_now o s.views ++ (cells_held s.views ++ rest)) (λ c.
      let a = times-append c (cells_now o s.views) (cells_held s.views ++ rest) in
      let b = times-append c (start_cells o) (all_of (λ (v : View). v.published) s.views) in
      let d = times-append c (cells_held s.views) rest in
      let p = times_all c (λ (v : View). v.published) s.views in
      let q = times_all c (λ (v : View). v.held) s.views in
      let e = sum_of-add (λ (v : View). times c v.published) (λ (v : View). times c v.held) s.views in
      let f = h.parted.cells_once c in
      let g = once c in
      let first = once_times (start_cells o)
      (cells_once (at_of o.words) (at_of o.words 0) 1 (omega arith)
      (sound_of_stands (site_at o.sites) (at_of o.words) (at_of o.words 0) 1 (HasCell o.words) (HasBody o.words) h.opened.stand) 22 1
      (at_of o.words 0) (HereAs 1 (at_of o.words 0) refl refl) (word_is (at_of o.words 0))) c in
      dite (ℕ_discrete (times c rest) 0)
      (λ z. dite (ℕ_discrete (times c (start_cells o)) 0) (λ y. omega arith)
      (λ y. let fresh = h.parted.cells_fresh c ((start_cell c).1 (times_in c (start_cells o) (omega arith))) in omega arith))
      (λ z. let none_has = no_pass c (omega arith) in
      let none_there : times c (start_cells o) ≡ 0 = dite (ℕ_discrete (times c (start_cells o)) 0) (λ y. y)
      (λ y. absurd (no_start c (omega arith) ((start_cell c).1 (times_in c (start_cells o) (omega arith))))) in
      omega arith))

  between : (others : List ℕ) → NoneTwice (cells_now o s.views ++ others) → HoldsBetween o others s
  between others once = record {
    exact = exact_of_stands (site_at o.sites) (at_of s.words) 0 1 (cells_now o s.views) others (bodies_now o s.views) stands_now once;
    canonical = flat_gives_canonical (site_at o.sites) (at_of s.words) (IsIn (cells_now o s.views)) (bodies_now o s.views) stands_now bodies_once;
    entrusted = entrusted_all;
    passes = λ id v at.
        let k = h.knows id v at in
        record {
          once = λ x.
              let t = sum_of_one (λ (u : View). times x (u.todo ++ u.done)) s.views id v at in
              let e = times_all x (λ (u : View). u.todo ++ u.done) s.views in
              let f = entrusted_all x in
              let a = h.opened.todo_once x in
              omega arith;
          seen = λ x p. (body_now x).0 (k.seen x (in_times x v.seen p));
          private = λ c j p l. k.memory c j (in_times c v.held p) l;
          told = λ key place p. tells o s h id v at place key
              (place_kept (at_of s.words) (at_of s.words) 0 1 (IsIn (cells_now o s.views)) (IsCell o h.cells) key place (λ c q. (cell_now c).1 q)
              (λ c q. refl) p);
        };
  }
    where
      sums : (x : ℕ) (views : List View) → sum_of (λ (u : View). times x (u.todo ++ u.done)) views ≡ sum_of
          (λ (u : View). times x u.todo + times x u.done) views
      sums x [] = refl
      sums x (u ∷ us) = let a = times-append x u.todo u.done in let r = sums x us in omega arith

      entrusted_all : (x : ℕ) → times x (all_of (λ (v : View). v.todo ++ v.done) s.views) ≡ times x o.todo
      entrusted_all x = times_all x (λ (v : View). v.todo ++ v.done) s.views ∙ sums x s.views ∙ h.parted.entrusted x

-- in a tree without locks the other cells are those that passes hold
free_between : (o : Opening) (s : State (Unit {0}) View) → Free o s → HoldsBetween o (cells_held s.views ++ []) s
free_between o s f = between o s f.kept (cells_held s.views ++ []) (cells_apart o s f.kept [] (λ c. omega arith) (λ c p q. omega arith)
    (λ c p. absurd (omega arith)))

-- in a tree with locks they are those, and those that the pool has not given out
locked_between : (o : Opening) (s : State (Unit {0}) View) → Locked o s → HoldsBetween o (cells_held s.views ++ cells_left s.words s.views) s
locked_between o s f =
    let from : ℕ = at_of s.words POOL_PLACE in
    let count : ℕ = sum_of (λ (v : View). v.quota) s.views in
    between o s f.kept (cells_held s.views ++ cells_left s.words s.views)
    (cells_apart o s f.kept (cells_left s.words s.views) (λ c. (times_from c (at_of s.words POOL_PLACE) (sum_of (λ (v : View). v.quota) s.views)).0)
    (λ c p q. let t = (times_from c (at_of s.words POOL_PLACE) (sum_of (λ (v : View). v.quota) s.views)).1 p in let g = f.given c q in omega arith)
    (λ c p. let t = (times_from c (at_of s.words POOL_PLACE) (sum_of (λ (v : View). v.quota) s.views)).1 p in
    sum_of_none (λ (v : View). times c v.published + times c v.held) s.views
    (λ j v e. dite (ℕ_discrete (times c v.published + times c v.held) 0) (λ z. z)
    (λ z. absurd (let g = (f.holds j v e).given c (omega arith) in omega arith)))))

-- the same for both
pub between_of : (k : Writing) (o : Opening) (s : State (Unit {0}) View) → RuleOf k o s → HoldsBetween o (cells_elsewhere k s) s
between_of ByExchange o s f = subst (λ (z : List ℕ). HoldsBetween o z s) (append-nil (cells_held s.views)) (free_between o s f)
between_of UnderLocks o s f = locked_between o s f
