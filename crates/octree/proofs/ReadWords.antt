-- Words that are read in an octree.
use Rattle.std.proofs.Common.{ℕ, ◌^◌, ◌<◌, ◌≡◌, sym, ◌∙◌, subst, arith, length, slice_index_or}
use Rattle.std.proofs.lemmas.List.{get_or_read}
use Rattle.octree.specs.Stored.{IsStored, Stored}
use Rattle.tree_rule.proofs.Laws.{ACell, NoBody, OneBody, word_is}
use Rattle.tree_rule.specs.Words.{Below, Here, IsReached, at_of, cell_word}

-- a word that is read fits
pub word_small : (o : Stored) (w : ℕ) → IsStored o → IsReached (at_of o.words) (at_of o.words 0) w → w < 2 ^ 33
word_small o w h r = elim (word_is w) [
  | NoBody e ↦ omega arith
  | OneBody n e ↦ omega (arith, h.bodies_small n (subst (λ (y : ℕ). IsReached (at_of o.words) (at_of o.words 0) y) e r))
  | ACell c e ↦ omega (arith, h.cells_used c (subst (λ (y : ℕ). IsReached (at_of o.words) (at_of o.words 0) y) e r), h.used_held, h.few)
]

-- a word that is read fits 33 bits
pub read_small : (before o : Stored) (place x : ℕ) → o ≡ before → IsStored o → place < length o.words
    → IsReached (at_of before.words) (at_of before.words 0) (at_of before.words place)
    → x ≡ slice_index_or o.words place x → x < 2 ^ 33
read_small before o place x v h l r e =
    let e0 : x ≡ at_of o.words place = get_or_read o.words place x l e 0 in
    let r' : IsReached (at_of o.words) (at_of o.words 0) (at_of o.words place) =
    subst (λ (y : Stored). IsReached (at_of y.words) (at_of y.words 0) (at_of y.words place)) (sym v) r in
    word_small o x h (subst (λ (y : ℕ). IsReached (at_of o.words) (at_of o.words 0) y) (sym e0) r')

-- nothing is read below an empty first word
pub reached_blank : (at : ℕ → ℕ) (top w : ℕ) → top ≡ 0 → IsReached at top w → w ≡ 0
reached_blank at top _ e (Here w f) = f ∙ e
reached_blank at top _ e (Below c k w r l f) = absurd (omega (arith, reached_blank at top (cell_word c) e r))
