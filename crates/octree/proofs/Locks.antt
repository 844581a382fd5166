-- The words that are not used and those of the locks stay 0 where others are written.
use Rattle.std.proofs.Common.{ℕ, ◌+◌, ◌*◌, ◌<◌, ◌≡◌, ◌≢◌, ◌∙◌, ap, arith, inl, inr, List, length, slice_set}
use Rattle.std.proofs.lemmas.Bool.{cases_lt}
use Rattle.octree.proofs.Words.{at_past, at_set_other}
use Rattle.tree_rule.specs.Locks.{AreUnlocked}
use Rattle.tree_rule.specs.Flat.{ChildPlace, IsPlaceOf, TopPlace}
use Rattle.tree_rule.specs.Words.{lock_place, at_of, child_place}

-- a word elsewhere
pub unlocked_other : (words : List ℕ) (cells i v : ℕ) → AreUnlocked words cells → 1 ≢ i → 2 ≢ i → ((c : ℕ) → lock_place c ≢ i)
    → AreUnlocked (slice_set words i v) cells
unlocked_other words cells i v h a b l = record {
  second = at_set_other words i 1 v a ∙ h.second;
  third = at_set_other words i 2 v b ∙ h.third;
  locks = λ c m. at_set_other words i (lock_place c) v (l c) ∙ h.locks c m;
}

-- a child's word or the key of a cell
pub unlocked_in_cell : (words : List ℕ) (cells cell k i v : ℕ) → AreUnlocked words cells → i ≡ child_place cell k → k < 9
    → AreUnlocked (slice_set words i v) cells
unlocked_in_cell words cells cell k i v h e small = unlocked_other words cells i v h (λ d. omega arith) (λ d. omega arith) (λ other d. omega arith)

-- the word of a cube
pub unlocked_at_place : (words : List ℕ) (cells : ℕ) (at : ℕ → ℕ) (base : ℕ) (IsCell : ℕ → Type 0) (key place v : ℕ) → AreUnlocked words cells
    → IsPlaceOf at 0 base IsCell key place
    → AreUnlocked (slice_set words place v) cells
unlocked_at_place words cells at base IsCell key place v h (TopPlace k e) = unlocked_other words cells place v h (λ d. omega arith) (λ d. omega arith)
    (λ c d. omega arith)
unlocked_at_place words cells at base IsCell key place v h (ChildPlace c j p l k e) = unlocked_in_cell words cells c j place v h e (omega arith)

-- the words of cells past the end
pub unlocked_more : (words longer : List ℕ) (used cells : ℕ) → AreUnlocked words used → length words ≡ 3 + 10 * used → at_of longer ≡ at_of words
    → AreUnlocked longer cells
unlocked_more words longer used cells h len same = record {
  second = ap (λ (at : ℕ → ℕ). at 1) same ∙ h.second;
  third = ap (λ (at : ℕ → ℕ). at 2) same ∙ h.third;
  locks = λ c m. ap (λ (at : ℕ → ℕ). at (lock_place c)) same ∙ elim (cases_lt c used) [
    | inl l ↦ h.locks c l
    | inr g ↦ at_past words (lock_place c) (omega arith)
  ];
}
