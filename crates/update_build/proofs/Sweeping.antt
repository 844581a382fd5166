-- The rule of a sweep is kept by each step.
use Rattle.std.proofs.Common.{◌≡◌, ℕ, zero, suc, ◌+◌, ◌<◌, ◌≤◌, List, [], ◌∷◌, ◌++◌, length, set, sym, refl, ap, ◌∙◌, arith, inl, inr, length-set}
use Rattle.std.proofs.Common.{get_or-set_other, get_or-set_same}
use Rattle.std.proofs.lemmas.Bool.{cases_lt}
use Rattle.std.proofs.lemmas.List.{get_or_past}
use mathlib.Core.Option.{none, some, some-injective, some-ne-none}
use mathlib.Core.Logic.{dite}
use native.Mathlib.Decide.{ℕ_discrete}
use lib.ListN.{get_elem?}
use Rattle.atomic_table.specs.Table.{Allows, Final, Joins, Seen, Splits, State, keeps, opening, step}
use Rattle.tree_rule.specs.Words.{at_of}
use Rattle.std.proofs.Common.{get_or, take}
use Rattle.std.proofs.lemmas.List.{take_more, take_more_set}
use Rattle.tree_passes.specs.Counting.{all_of}
use Rattle.update_build.proofs.Leaving.{all_of_more}
use Rattle.tree_passes.proofs.Laws.{same-eq, same-ne, times-append, times-without, times-without_all, times_take}
use Rattle.tree_passes.specs.Counting.{sum_of, times}
use Rattle.update_build.specs.declared.sweep.SweepView.{SweepView}
use Rattle.update_build.specs.Sweeping.{AreSwept, CanEmpty, HasEmptied, Mine, SweepOpening, Sweeps, given_places, kept_places, nothing_left}
use Rattle.update_build.specs.Sweeping.{removed_one, together, with_removed}

-- ---- sums over views

module _ {A : Type 0} (f : A → ℕ) where
  sum-set : (l : List A) (i : ℕ) (v w : A) → get_elem? l i ≡ some v → sum_of f (set l i w) + f v ≡ sum_of f l + f w
  sum-set [] i v w e = absurd (some-ne-none v (sym e))
  sum-set (x ∷ xs) zero v w e = let is : f x ≡ f v = ap f (some-injective x v e) in omega arith
  sum-set (x ∷ xs) (suc i) v w e = let r = sum-set xs i v w e in omega arith

  sum-append : (l m : List A) → sum_of f (l ++ m) ≡ sum_of f l + sum_of f m
  sum-append [] m = omega arith
  sum-append (x ∷ xs) m = let r = sum-append xs m in omega arith

  sum-one : (l : List A) (i : ℕ) (v : A) → get_elem? l i ≡ some v → f v ≤ sum_of f l
  sum-one [] i v e = absurd (some-ne-none v (sym e))
  sum-one (x ∷ xs) zero v e = let is : f x ≡ f v = ap f (some-injective x v e) in omega arith
  sum-one (x ∷ xs) (suc i) v e = let r = sum-one xs i v e in omega arith

sum-add : {A : Type 0} (f g : A → ℕ) (l : List A) → sum_of (λ a. f a + g a) l ≡ sum_of f l + sum_of g l
sum-add f g [] = refl
sum-add f g (x ∷ xs) = let r = sum-add f g xs in omega arith

-- how often a place stands in a list of a view
abbrev gone : ℕ → SweepView → ℕ
gone i v = times i v.removed

abbrev has : ℕ → SweepView → ℕ
has i v = times i v.todo + times i v.removed

-- a word that was emptied
emptied_word : (words : List ℕ) (i : ℕ) → at_of (set words i 0) i ≡ 0
emptied_word words i = elim (cases_lt i (length words)) [
  | inl l ↦ get_or-set_same words i 0 0 l
  | inr g ↦ get_or_past (set words i 0) i 0 (omega (arith, length-set words i 0))
]

-- ---- a word is emptied

module _ (o : SweepOpening) (s : State (Unit {0}) SweepView) (h : Sweeps o s) (id : ℕ) (v : SweepView) (at : get_elem? s.views id ≡ some v) (i : ℕ)
    (mine : 1 ≤ times i v.todo) where
  after_views : List SweepView
  after_views = set s.views id (with_removed i v)

  swept_on : Sweeps o record { words = set s.words i 0; homes = s.homes; views = set s.views id (with_removed i v) }
  swept_on = record {
    long = length-set s.words i 0 ∙ h.long;
    parted = λ j.
        let a = sum-set (has j) s.views id v (with_removed i v) at in
        let b = times-without i j v.todo mine in
        let c = h.parted j in
        omega arith;
    emptied = λ j some_gone. dite (ℕ_discrete j i)
        (λ e. ap (at_of (set s.words i 0)) e ∙ emptied_word s.words i)
        (λ ne.
        let a = sum-set (gone j) s.views id v (with_removed i v) at in
        let b : times j (i ∷ v.removed) ≡ times j v.removed = omega (arith, same-ne i j (λ e. ne (sym e))) in
        get_or-set_other s.words i j 0 0 ne ∙ h.emptied j (omega arith));
    others = λ j none_gone.
        let a = sum-set (gone j) s.views id v (with_removed i v) at in
        dite (ℕ_discrete j i)
        (λ e. let b = same-eq i j (sym e) in absurd (omega arith))
        (λ ne. let b = same-ne i j (λ e. ne (sym e)) in get_or-set_other s.words i j 0 0 ne ∙ h.others j (omega arith));
  }

pub removes : (o : SweepOpening) (slots id : ℕ) (me : Mine) (i : ℕ) → 1 ≤ times i me.0.todo
    → Allows (Sweeps o) slots id me i (λ n. 0) (λ n. removed_one (step slots i 0 0 none) me 0)
removes o slots id me i mine s h homes at small =
    (with_removed i me.0, keeps, tt, swept_on o s h id me.0 at i mine, (refl, refl))

-- ---- passes are split and taken in

pub splits : (o : SweepOpening) (id : ℕ) (v : SweepView) (places : List ℕ) → ((i : ℕ) → times i places ≤ times i v.todo)
    → Splits (Sweeps o) id v (kept_places places v) (given_places places v)
splits o id v places among s h at = record {
  long = h.long;
  parted = λ i.
      let a = sum-set (has i) s.views id v (kept_places places v) at in
      let b = sum-append (has i) (set s.views id (kept_places places v)) (given_places places v ∷ []) in
      let c = times-without_all places v.todo among i in
      let d = h.parted i in
      omega arith;
  emptied = λ i some_gone.
      let a = sum-set (gone i) s.views id v (kept_places places v) at in
      let b = sum-append (gone i) (set s.views id (kept_places places v)) (given_places places v ∷ []) in
      h.emptied i (omega arith);
  others = λ i none_gone.
      let a = sum-set (gone i) s.views id v (kept_places places v) at in
      let b = sum-append (gone i) (set s.views id (kept_places places v)) (given_places places v ∷ []) in
      h.others i (omega arith);
}

pub joins : (o : SweepOpening) (id : ℕ) (v : SweepView) (other : ℕ) (w : SweepView) → Joins (Sweeps o) id v other w (together v w) nothing_left
joins o id v other w s h at apart there = record {
  long = h.long;
  parted = λ i.
      let a = sum-set (has i) s.views id v (together v w) at in
      let b = sum-set (has i) (set s.views id (together v w)) other w nothing_left there in
      let c = times-append i v.todo w.todo in
      let d = times-append i v.removed w.removed in
      let e = h.parted i in
      omega arith;
  emptied = λ i some_gone.
      let a = sum-set (gone i) s.views id v (together v w) at in
      let b = sum-set (gone i) (set s.views id (together v w)) other w nothing_left there in
      let d = times-append i v.removed w.removed in
      h.emptied i (omega arith);
  others = λ i none_gone.
      let a = sum-set (gone i) s.views id v (together v w) at in
      let b = sum-set (gone i) (set s.views id (together v w)) other w nothing_left there in
      let d = times-append i v.removed w.removed in
      h.others i (omega arith);
}

-- ---- the beginning and the end

pub begins : (words places : List ℕ)
    → Sweeps (record { words = words; places = places }) (opening words [] (record { todo = places; removed = [] }))
begins words places = record {
  long = refl;
  parted = λ i. omega arith;
  emptied = λ i some_gone. absurd (omega arith);
  others = λ i none_gone. refl;
}

pub ends : (o : SweepOpening) (id : ℕ) (v : SweepView) (words : List ℕ) (slots : List (Unit {0})) → Final (Seen (Sweeps o) id v) words slots
    → ((i : ℕ) → times i o.places ≡ times i v.todo + times i v.removed) → AreSwept o.words words v.removed
ends o id v words slots (s, (h, at), same, homes, values) all =
    let gone_is : (i : ℕ) → sum_of (gone i) s.views ≡ times i v.removed = λ i.
    (let a = sum-add (λ (u : SweepView). times i u.todo) (gone i) s.views in
    let b = sum-one (λ (u : SweepView). times i u.todo) s.views id v at in
    let c = sum-one (gone i) s.views id v at in
    let d = h.parted i in
    let e = all i in
    omega arith) in
    record {
      long = sym (ap length same) ∙ h.long;
      emptied = λ i some_gone. sym (ap (λ (z : List ℕ). at_of z i) same) ∙ h.emptied i (omega (arith, gone_is i));
      others = λ i none_gone. sym (ap (λ (z : List ℕ). at_of z i) same) ∙ h.others i (omega (arith, gone_is i));
    }

-- ---- the words of a list are emptied one by one

module _ (places : List ℕ) (k d : ℕ) (before mid : SweepView) (less : k < length places) (so_far : HasEmptied (take k places) before mid) where
  one_more : (i : ℕ) → times i (take (k + 1) places) ≡ times i (take k places) + times i (get_or places k d ∷ [])
  one_more i = ap (times i) (take_more places k d less) ∙ times-append i (take k places) (get_or places k d ∷ [])

  pub still_todo : ((i : ℕ) → times i places ≤ times i before.todo) → 1 ≤ times (get_or places k d) mid.todo
  still_todo among =
      let i : ℕ = get_or places k d in
      let a = so_far.todo i in
      let b = among i in
      let c = times_take i (k + 1) places in
      let e = one_more i in
      let f = same-eq i i refl in
      omega arith

  pub emptied_more : 1 ≤ times (get_or places k d) mid.todo → HasEmptied (take (k + 1) places) before (with_removed (get_or places k d) mid)
  emptied_more todo = record {
    todo = λ i.
        let a = so_far.todo i in
        let b = times-without (get_or places k d) i mid.todo todo in
        let e = one_more i in
        omega arith;
    removed = λ i.
        let a = so_far.removed i in
        let e = one_more i in
        omega arith;
  }

-- a place of the list is one of the words
pub among_places : (places : List ℕ) (k d : ℕ) → k < length places → 1 ≤ times (get_or places k d) places
among_places places k d less =
    let i : ℕ = get_or places k d in
    let a = times_take i (k + 1) places in
    let e = ap (times i) (take_more places k d less) ∙ times-append i (take k places) (get_or places k d ∷ []) in
    let f = same-eq i i refl in
    omega arith

-- ---- the words are copied back

told_at : (l : List ℕ) (i w : ℕ) → get_elem? l i ≡ some w → at_of l i ≡ w
told_at [] i w e = absurd (some-ne-none w (sym e))
told_at (x ∷ xs) zero w e = some-injective x w e
told_at (x ∷ xs) (suc i) w e = told_at xs i w e

pub copied_more : (from words : List ℕ) (i w : ℕ) → i < length words → i < length from → get_elem? from i ≡ some w → take i words ≡ take i from
    → take (i + 1) (set words i w) ≡ take (i + 1) from
copied_more from words i w less inside told so_far =
    take_more_set words i w less ∙ ap (λ (y : List ℕ). y ++ (w ∷ [])) so_far ∙ ap (λ (y : ℕ). take i from ++ (y ∷ [])) (sym (told_at from i w told))
    ∙ sym (take_more from i 0 inside)

-- ---- lists of lists, of which the last is parted off

pub last_parted : {S : Type 0} (items : S → List ℕ) (lists front : List S) (last : S) → lists ≡ front ++ (last ∷ []) → (i : ℕ)
    → times i (all_of items lists) ≡ times i (all_of items front) + times i (items last)
last_parted items lists front last cut i =
    ap (λ z. times i (all_of items z)) cut ∙ ap (times i) (all_of_more items front last) ∙ times-append i (all_of items front) (items last)

module _ {S : Type 0} (items : S → List ℕ) (words : ℕ) (lists front : List S) (last : S) (v : SweepView) (cut : lists ≡ front ++ (last ∷ []))
    (can : CanEmpty words (all_of items lists) v) where
  -- a pass that may empty lists may empty the last
  pub can_last : CanEmpty words (items last) v
  can_last = record {
    inside = λ i some. can.inside i (omega (arith, some, last_parted items lists front last cut i));
    todo = λ i. omega (arith, can.todo i, last_parted items lists front last cut i);
  }

  pub can_given : CanEmpty words (items last) (given_places (items last) v)
  can_given = record { inside = can_last.inside; todo = λ i. omega arith }

  -- and, once that is split off, the others
  pub can_front : CanEmpty words (all_of items front) (kept_places (items last) v)
  can_front = record {
    inside = λ i some. can.inside i (omega (arith, some, last_parted items lists front last cut i));
    todo = λ i. omega (arith, can.todo i, last_parted items lists front last cut i, times-without_all (items last) v.todo can_last.todo i);
  }

  -- so that both together emptied all
  pub emptied_both : (own mid : SweepView) → HasEmptied (items last) (given_places (items last) v) own
      → HasEmptied (all_of items front) (kept_places (items last) v) mid → HasEmptied (all_of items lists) v (together mid own)
  emptied_both own mid a b = record {
    todo = λ i. omega (
      arith,
      a.todo i,
      b.todo i,
      times-append i mid.todo own.todo,
      last_parted items lists front last cut i,
      times-without_all (items last) v.todo can_last.todo i,
    );
    removed = λ i. omega (arith, a.removed i, b.removed i, times-append i mid.removed own.removed, last_parted items lists front last cut i);
  }
