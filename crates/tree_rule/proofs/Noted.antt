-- Notes on published words stay true where words are published.
use Rattle.std.proofs.Common.{ℕ, ◌<◌, ◌≡◌, ◌⊎◌, ◌∙◌, ap, inl, inr, arith}
use Rattle.bh_model.proofs.Equal.{same_or_not}
use Rattle.tree_rule.specs.declared.words.TheConstants.{FIRST_PLACE}
use Rattle.tree_rule.specs.Words.{body_word, cell_word, key_place}
use Rattle.tree_rule.specs.Flat.{ChangedAt, IsPlaceOf}
use Rattle.tree_rule.specs.Notes.{AreLater, HasNamed, IsPublishedAs, NamesItOrCell}
use Rattle.tree_rule.proofs.Canonical.{ACell, NoBody, OneBody, WordIs, word_is}
use Rattle.tree_rule.proofs.Graft.{key_apart, place_kept}

-- a published cell stays published with its key
pub cell_note_stays : (at at' : ℕ → ℕ) (root base : ℕ) (P Q : ℕ → Type 0) → AreLater at at' root base P Q → (c key : ℕ) → IsPublishedAs at P c key
    → IsPublishedAs at' Q c key
cell_note_stays at at' root base P Q later c key h = (later.cells_stay c h.0, later.keys_stay c h.0 ∙ h.1)

-- a word that names a body or a cell goes on to name that body or a cell
names_on : (v w n : ℕ) → NamesItOrCell v n → (w ≡ v) ⊎ ((v ≡ 0) ⊎ ((c : ℕ) × (w ≡ cell_word c))) → NamesItOrCell w n
names_on v w n (inl e) (inl s) = inl (s ∙ e)
names_on v w n (inl e) (inr (inl z)) = absurd (omega arith)
names_on v w n (inr f) (inl s) = inr (f.0, s ∙ f.1)
names_on v w n (inr f) (inr (inl z)) = absurd (omega (arith, f.1))
names_on v w n h (inr (inr g)) = inr g

-- a published word that named a body is published still, and names that body still or a cell
pub body_note_stays : (at at' : ℕ → ℕ) (root base : ℕ) (P Q : ℕ → Type 0) → AreLater at at' root base P Q → (place n : ℕ) → HasNamed at root base P place n
    → HasNamed at' root base Q place n
body_note_stays at at' root base P Q later place n h = record {
  key = h.key;
  published = place_kept at at' root base P Q h.key place later.cells_stay later.keys_stay h.published;
  remains = names_on (at place) (at' place) n h.remains (later.words_go_on h.key place h.published);
}

-- a word that names no cell, and is to name one where it names a body, becomes another
goes_on : (at at' : ℕ → ℕ) (place w other : ℕ) → ((c : ℕ) → at place ≡ cell_word c → ⊥) → ((n : ℕ) → at place ≡ body_word n → (c : ℕ) × (w ≡ cell_word c))
    → ChangedAt at at' place w → WordIs (at place)
    → (at' other ≡ at other) ⊎ ((at other ≡ 0) ⊎ ((c : ℕ) × (at' other ≡ cell_word c)))
goes_on at at' place w other none next changed is = elim (same_or_not other place) [
  | inr d ↦ inl (changed.others other d)
  | inl e ↦ elim is [
    | NoBody z ↦ inr (inl (ap at e ∙ z))
    | OneBody n z ↦ let f = next n z in inr (inr (f.0, ap at' e ∙ changed.now ∙ f.1))
    | ACell c z ↦ absurd (none c z)
  ]
]

-- where one published word is changed that names no cell, and becomes a cell's where it names a body, the words are later ones
pub published_later : (at at' : ℕ → ℕ) (root base : ℕ) (P Q : ℕ → Type 0) (key place w : ℕ) → root < FIRST_PLACE → IsPlaceOf at root base P key place
    → ((c : ℕ) → P c → Q c)
    → ((c : ℕ) → at place ≡ cell_word c → ⊥) → ((n : ℕ) → at place ≡ body_word n → (c : ℕ) × (w ≡ cell_word c)) → ChangedAt at at' place w
    → AreLater at at' root base P Q
published_later at at' root base P Q key place w low there more none next changed = record {
  cells_stay = more;
  keys_stay = λ c p. changed.others (key_place c) (key_apart at root base P key place c low there);
  words_go_on = λ k other p. goes_on at at' place w other none next changed (word_is (at place));
}
