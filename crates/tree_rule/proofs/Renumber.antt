-- Words in which the cells stand under other numbers stand for the same bodies.
use Rattle.std.proofs.Common.{ℕ, ◌+◌, ◌*◌, ◌≡◌, refl, sym, ◌∙◌, ap, subst, arith}
use Rattle.octant_code.specs.Space.{Site, key_of}
use Rattle.tree_rule.proofs.Canonical.{ACell, NoBody, OneBody, WordIs, word_is}
use Rattle.tree_rule.proofs.Names.{named-body, named-cell, named-none}
use Rattle.tree_rule.specs.Flat.{Child, IsShared, IsWordOf, StandsAmid, Top}
use Rattle.tree_rule.specs.Renumbered.{AreRenumbered, IsNumberOf, renamed, renumbered}
use Rattle.tree_rule.specs.Words.{body_word, cell_word, child_place, key_place, word_of}

-- the empty word stays
pub renumbered-none : (number : ℕ → ℕ) → renumbered number 0 ≡ 0
unfolding renamed word_of
renumbered-none number = ap (λ x. word_of (renamed number x)) named-none

-- the word of a body stays
pub renumbered-body : (number : ℕ → ℕ) (n : ℕ) → renumbered number (body_word n) ≡ body_word n
unfolding renamed word_of
renumbered-body number n = ap (λ x. word_of (renamed number x)) (named-body n)

-- the word of a cell becomes that of its other number
pub renumbered-cell : (number : ℕ → ℕ) (c : ℕ) → renumbered number (cell_word c) ≡ cell_word (number c)
unfolding renamed word_of
renumbered-cell number c = ap (λ x. word_of (renamed number x)) (named-cell c)

-- a word that becomes a body's is the body's
was_body : (number : ℕ → ℕ) (n w : ℕ) → renumbered number w ≡ body_word n → WordIs w → w ≡ body_word n
was_body number n w e (NoBody z) = absurd (let f : 0 ≡ body_word n = sym (renumbered-none number) ∙ ap (renumbered number) (sym z) ∙ e in omega arith)
was_body number n w e (OneBody m z) = z ∙ sym (renumbered-body number m) ∙ ap (renumbered number) (sym z) ∙ e
was_body number n w e (ACell c z) =
    absurd (let f : cell_word (number c) ≡ body_word n = sym (renumbered-cell number c) ∙ ap (renumbered number) (sym z) ∙ e in omega arith)

-- the cell that a word named which names a cell now
record WasCell (number : ℕ → ℕ) (d w : ℕ) : Type 0 where
  old : ℕ
  word : w ≡ cell_word old
  new : d ≡ number old

was_cell : (number : ℕ → ℕ) (d w : ℕ) → renumbered number w ≡ cell_word d → WordIs w → WasCell number d w
was_cell number d w e (NoBody z) = absurd (let f : 0 ≡ cell_word d = sym (renumbered-none number) ∙ ap (renumbered number) (sym z) ∙ e in omega arith)
was_cell number d w e (OneBody m z) =
    absurd (let f : body_word m ≡ cell_word d = sym (renumbered-body number m) ∙ ap (renumbered number) (sym z) ∙ e in omega arith)
was_cell number d w e (ACell c z) =
    let f : cell_word (number c) ≡ cell_word d = sym (renumbered-cell number c) ∙ ap (renumbered number) (sym z) ∙ e in
    record { old = c; word = z; new = omega arith }

-- a word of a key before
record Before (at : ℕ → ℕ) (top base : ℕ) (P : ℕ → Type 0) (number : ℕ → ℕ) (key w : ℕ) : Type 0 where
  word : ℕ
  of_key : IsWordOf at top base P key word
  becomes : renumbered number word ≡ w

module _ (site : ℕ → Site) (at at' : ℕ → ℕ) (top top' base : ℕ) (P B V : ℕ → Type 0) (number : ℕ → ℕ) (h : StandsAmid site at top base P B V)
    (r : AreRenumbered at at' P number)
    (tops : top' ≡ renumbered number top) where
  abbrev Cells : ℕ → Type 0
  Cells d = IsNumberOf number P d

  forward : (key w : ℕ) → IsWordOf at top base P key w → IsWordOf at' top' base Cells key (renumbered number w)
  forward key w (Top k e) = Top k (ap (renumbered number) e ∙ sym tops)
  forward key w (Child c j p l k e) =
      Child (number c) j (c, p, refl) l (k ∙ ap (λ y. 8 * y + j) (sym (r.keys c p))) (ap (renumbered number) e ∙ sym (r.children c j p l))

  backward : (key w : ℕ) → IsWordOf at' top' base Cells key w → Before at top base P number key w
  backward key w (Top k e) = record { word = top; of_key = Top k refl; becomes = sym tops ∙ sym e }
  backward key w (Child d j q l k e) =
      let c : ℕ = q.0 in
      record {
        word = at (child_place c j);
        of_key = Child c j q.1 l (k ∙ ap (λ y. 8 * y + j) (ap (λ y. at' (key_place y)) q.2 ∙ r.keys c q.1)) refl;
        becomes = sym (r.children c j q.1 l) ∙ ap (λ y. at' (child_place y j)) (sym q.2) ∙ sym e;
      }

  key_is : (d : ℕ) (q : Cells d) → at' (key_place d) ≡ at (key_place q.0)
  key_is d q = ap (λ y. at' (key_place y)) q.2 ∙ r.keys q.0 q.1

  pub stands_renumbered : StandsAmid site at' top' base (IsNumberOf number P) B V
  stands_renumbered = record {
    keys_differ = λ c d p q e. p.2 ∙ ap number (h.keys_differ p.0 q.0 p.1 q.1 (sym (key_is c p) ∙ e ∙ key_is d q)) ∙ sym q.2;
    cell_named = λ d q.
        subst (λ (y : ℕ). IsWordOf at' top' base Cells y (cell_word d)) (sym (key_is d q))
        (subst (λ (y : ℕ). IsWordOf at' top' base Cells (at (key_place q.0)) y) (renumbered-cell number q.0 ∙ ap cell_word (sym q.2))
        (forward (at (key_place q.0)) (cell_word q.0) (h.cell_named q.0 q.1)));
    names_cell = λ key d x.
        let y = backward key (cell_word d) x in
        let n = was_cell number d y.word y.becomes (word_is y.word) in
        let g = h.names_cell key n.old (subst (λ (z : ℕ). IsWordOf at top base P key z) n.word y.of_key) in
        let q : Cells d = (n.old, g.0, n.new) in
        (q, key_is d q ∙ g.1);
    body_named = λ n b.
        let g = h.body_named n b in
        record {
          level = g.level;
          shallow = g.shallow;
          named = subst (λ (y : ℕ). IsWordOf at' top' base Cells (key_of (site n) g.level) y) (renumbered-body number n)
              (forward (key_of (site n) g.level) (body_word n) g.named);
        };
    names_body = λ key n x.
        let y = backward key (body_word n) x in
        h.names_body key n (subst (λ (z : ℕ). IsWordOf at top base P key z) (was_body number n y.word y.becomes (word_is y.word)) y.of_key);
    shared = λ d q. subst (λ (y : ℕ). IsShared site V y) (sym (key_is d q)) (h.shared q.0 q.1);
  }
