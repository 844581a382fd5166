-- The word that names a body or a cell, and what a word names.
use Rattle.std.proofs.Common.{ℕ, ◌-◌, ◌/◌, ◌%◌, ◌≡◌, ◌≢◌, refl, sym, ◌∙◌, ap, inl, inr, arith, eqb, true, false}
use Rattle.std.proofs.lemmas.Bool.{cases_Bool, eqb-true, eq-eqb, eqb-false}
use Rattle.bh_model.proofs.Equal.{not-eqb}
use Rattle.tree_rule.specs.Words.{BodyName, CellName, NamesBody, NamesCell, NamesNothing, NoName, body_word, cell_word, named_by, word_of}

-- the word 0 names nothing
pub named-none : named_by 0 ≡ NoName
unfolding named_by
named-none = refl

-- what the word of a body names
pub named-body : (n : ℕ) → named_by (body_word n) ≡ BodyName n
unfolding named_by
named-body n =
    let a : eqb (body_word n) 0 ≡ false = not-eqb (body_word n) 0 (λ e. omega arith) in
    let b : eqb (body_word n % 2) 1 ≡ true = eq-eqb (body_word n % 2) 1 (omega arith) in
    let d : body_word n / 2 ≡ n = omega arith in
    rw (a, b) (ap BodyName d)

-- what the word of a cell names
pub named-cell : (c : ℕ) → named_by (cell_word c) ≡ CellName c
unfolding named_by
named-cell c =
    let a : eqb (cell_word c) 0 ≡ false = not-eqb (cell_word c) 0 (λ e. omega arith) in
    let b : eqb (cell_word c % 2) 1 ≡ false = not-eqb (cell_word c % 2) 1 (λ e. omega arith) in
    let d : cell_word c / 2 - 1 ≡ c = omega arith in
    rw (a, b) (ap CellName d)

-- a word is that of what it names
pub word-named : (w : ℕ) → word_of (named_by w) ≡ w
unfolding named_by word_of
word-named w =
    elim (cases_Bool (eqb w 0)) [
      | inl t ↦ rw t (sym (eqb-true w 0 t))
      | inr f ↦ elim (cases_Bool (eqb (w % 2) 1)) [
        | inl t ↦ let odd : w % 2 ≡ 1 = eqb-true (w % 2) 1 t in let same : body_word (w / 2) ≡ w = omega arith in rw (f, t) same
        | inr u ↦
            let even : w % 2 ≢ 1 = eqb-false (w % 2) 1 u in
            let some : w ≢ 0 = eqb-false w 0 f in
            let same : cell_word (w / 2 - 1) ≡ w = omega arith in
            rw (f, u) same
      ]
    ]

-- a word that names nothing is 0
pub word_of_nothing : (w : ℕ) → NamesNothing w → w ≡ 0
unfolding word_of
word_of_nothing w e = sym (word-named w) ∙ ap word_of e

-- a word that names a body is the body's
pub word_of_body : (w n : ℕ) → NamesBody w n → w ≡ body_word n
unfolding word_of
word_of_body w n e = sym (word-named w) ∙ ap word_of e

-- a word that names a cell is the cell's
pub word_of_cell : (w c : ℕ) → NamesCell w c → w ≡ cell_word c
unfolding word_of
word_of_cell w c e = sym (word-named w) ∙ ap word_of e

-- a body's word names it
pub names_body : (w n : ℕ) → w ≡ body_word n → NamesBody w n
names_body w n e = ap named_by e ∙ named-body n

-- a cell's word names it
pub names_cell : (w c : ℕ) → w ≡ cell_word c → NamesCell w c
names_cell w c e = ap named_by e ∙ named-cell c
