-- The words of a list after a write, and those of a list that was made longer or shorter.
use Rattle.std.proofs.Common.{ℕ, ◌<◌, ◌≤◌, ◌≡◌, ◌≢◌, ◌∙◌, ap, sym, inl, inr, List, length, slice_set, get_or-set_same, get_or-set_other}
use Rattle.std.proofs.lemmas.Bool.{cases_lt}
use Rattle.std.proofs.lemmas.List.{length-set, get_or_past}
use mathlib.Core.Path.{fun_ext}
use Rattle.tree_rule.specs.Words.{at_of}

-- the word that was written
pub at_set_same : (words : List ℕ) (i j v : ℕ) → j ≡ i → i < length words → at_of (slice_set words i v) j ≡ v
at_set_same words i j v e l = ap (at_of (slice_set words i v)) e ∙ get_or-set_same words i v 0 l

-- another word stays
pub at_set_other : (words : List ℕ) (i j v : ℕ) → j ≢ i → at_of (slice_set words i v) j ≡ at_of words j
at_set_other words i j v n = get_or-set_other words i j v 0 n

-- there are as many words as before
pub set_length : (words : List ℕ) (i v : ℕ) → length (slice_set words i v) ≡ length words
set_length words i v = length-set words i v

-- past the end all words are 0
pub at_past : (words : List ℕ) (i : ℕ) → length words ≤ i → at_of words i ≡ 0
at_past words i l = get_or_past words i 0 l

-- two lists that agree where both are, and are 0 where only one of them is, are the same words
pub at_longer : (words longer : List ℕ) → length words ≤ length longer
    → ((i : ℕ) → i < length words → at_of longer i ≡ at_of words i)
    → ((i : ℕ) → length words ≤ i → i < length longer → at_of longer i ≡ 0) → at_of longer ≡ at_of words
at_longer words longer more same none = fun_ext (λ i. at_each i)
  where
    at_each : (i : ℕ) → at_of longer i ≡ at_of words i
    at_each i = elim (cases_lt i (length words)) [
      | inl l ↦ same i l
      | inr g ↦ elim (cases_lt i (length longer)) [
        | inl l ↦ none i g l ∙ sym (at_past words i g)
        | inr h ↦ at_past longer i h ∙ sym (at_past words i g)
      ]
    ]
