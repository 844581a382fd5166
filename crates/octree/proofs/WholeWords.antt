-- The words of an octree of the whole cube, made a tree again.
use Rattle.std.proofs.Common.{ℕ, ◌+◌, ◌-◌, ◌*◌, ◌<◌, ◌≤◌, ◌≡◌, ◌⊎◌, inl, inr, sym, ◌∙◌, ap, subst, arith, List, ◌++◌, length, length-append, replicate}
use Rattle.std.proofs.Common.{take, refl}
use Rattle.std.proofs.lemmas.Bool.{cases_lt}
use Rattle.std.proofs.lemmas.List.{get_or-replicate, get_or-append_right, get_or_append_left, length-replicate, length-take-le, take_all, take_at, get_or-take}
use Rattle.bh_model.proofs.MoreThan.{one_of_more}
use Rattle.octant_code.proofs.Keys.{pow8-mono}
use Rattle.octree.proofs.Locks.{unlocked_more}
use Rattle.octree.proofs.Words.{at_longer}
use Rattle.octree.specs.Stored.{AreOctreeWords, IsStored, Stored, all_used, all_words, cell_count_of, full_tree, spare_of}
use Rattle.tree_rule.proofs.Laws.{recall}
use Rattle.tree_rule.specs.Words.{lock_place}
use Rattle.tree_rule.specs.Sound.{IsSound}
use Rattle.tree_rule.specs.Words.{Below, HasCell, Here, IsReached, at_of, body_word, cell_word, child_place}

-- the whole cube is of level 0
pub whole_level : (o : Stored) → IsStored o → o.base ≡ 1 → o.level ≡ 0
whole_level o h one = elim (cases_lt o.level 1) [
  | inl l ↦ omega arith
  | inr l ↦ absurd (omega (arith, h.base_low, pow8-mono 1 o.level l))
]

-- with those of the spare cells there are as many words as for all that are held
pub all_length : (o : Stored) → IsStored o → length (all_words o) ≡ 3 + 10 * o.held
all_length o h = omega (arith, length-append o.words (replicate (10 * spare_of o) 0), length-replicate {A = ℕ} (10 * spare_of o) 0, h.long, h.used_held)

-- and they say the same
pub all_same : (o : Stored) → at_of (all_words o) ≡ at_of o.words
all_same o =
    let n : ℕ = 10 * spare_of o in
    let len : length (all_words o) ≡ length o.words + n = length-append o.words (replicate n 0) ∙ ap (λ y. length o.words + y) (length-replicate {A = ℕ} n 0) in
    at_longer o.words (all_words o) (omega (arith, len)) (λ i l. get_or_append_left o.words (replicate n 0) 0 i l)
    (λ i l m. get_or-append_right o.words (replicate n 0) (length o.words) i 0 refl l ∙ get_or-replicate n (i - length o.words) 0 0 (omega (arith, len)))

-- the words that are filled up to all that are held
pub filled : (o : Stored) (words : List ℕ) (n m : ℕ) → IsStored o → n ≡ 3 + 10 * o.held → m ≡ length o.words → words ≡ take n o.words ++ replicate (n - m) 0
    → words ≡ all_words o
filled o words n m h is_n is_m e =
    let left : n - m ≡ 10 * spare_of o = omega (arith, h.long, h.used_held) in
    e ∙ ap (λ y. y ++ replicate (n - m) 0) (take_all n o.words (omega (arith, h.long, h.used_held))) ∙ ap (λ k. o.words ++ replicate k 0) left

-- they are the words of an octree
pub all_are : (o : Stored) → IsStored o → o.base ≡ 1 → AreOctreeWords (all_words o)
all_are o h one =
    let same : at_of o.words ≡ at_of (all_words o) = sym (all_same o) in
    record {
      cells = o.held;
      few = h.few;
      long = all_length o h;
      unlocked = unlocked_more o.words (all_words o) o.used o.held h.unlocked h.long (all_same o);
      sound = subst (λ (at : ℕ → ℕ). IsSound at (at 0) 1) same (subst (λ (base : ℕ). IsSound (at_of o.words) (at_of o.words 0) base) one h.sound);
      cells_held = λ c r. omega (arith, h.cells_used c (subst (λ (at : ℕ → ℕ). IsReached at (at 0) (cell_word c)) (sym same) r), h.used_held);
      bodies_small = λ n r. h.bodies_small n (subst (λ (at : ℕ → ℕ). IsReached at (at 0) (body_word n)) (sym same) r);
    }

-- in an octree of the whole cube stand 1 and 0 for its base and its level
whole_cube : (P : ℕ → ℕ → Stored) (o : Stored) → IsStored o → o.base ≡ 1 → P 1 0 ≡ P o.base o.level
whole_cube P o h one = ap (λ b. P b 0) (sym one) ∙ ap (P o.base) (sym (whole_level o h one))

-- how many cells there are words of
all_cells : (o : Stored) → IsStored o → cell_count_of (length (all_words o)) ≡ o.held
all_cells o h = omega (arith, all_length o h)

-- the tree of these words is the octree, its spare cells counted as used
pub full_again : (o : Stored) → IsStored o → o.base ≡ 1 → full_tree (all_words o) ≡ all_used o
full_again o h one =
    let P : List ℕ → ℕ → ℕ → ℕ → Stored = λ w b l n. record { words = w; base = b; level = l; used = n; held = n } in
    ap (P (all_words o) 1 0) (all_cells o h) ∙ whole_cube (λ b l. P (all_words o) b l o.held) o h one
