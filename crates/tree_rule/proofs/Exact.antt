-- Words that name cells and bodies exactly are words that stand for the bodies: the facts as said aloud, and those on single words.
use Rattle.std.proofs.Common.{ℕ, ◌*◌, ◌^◌, ◌<◌, ◌≤◌, ◌≡◌, ◌↔◌, sym, ◌∙◌, ap, subst, arith, List, ◌++◌}
use Rattle.octant_code.specs.Space.{Site, key_of}
use Rattle.octant_code.proofs.Keys.{key-low, key-high, level_of_key}
use Rattle.bh_model.proofs.MoreThan.{more_so}
use Rattle.bh_model.specs.Bodies.{IsIn, NoneTwice, HasMoreUnder}
use Rattle.tree_rule.specs.Words.{body_word, cell_word, key_place}
use Rattle.tree_rule.specs.Flat.{IsShared, IsWordOf, StandsFor}
use Rattle.tree_rule.specs.Standing.{IsCellKey, IsPublished, NamesExactly}
use Rattle.tree_rule.proofs.Graft.{place_of_word, word_at_place}
use Rattle.tree_rule.proofs.Names.{names_body, names_cell, word_of_body, word_of_cell}
use Rattle.tree_rule.proofs.Once.{one_place, one_key_of_body}
use Rattle.tree_rule.proofs.Shared.{sharer}

-- the flat facts, for two lists
abbrev pub Stands : (ℕ → Site) → (ℕ → ℕ) → ℕ → ℕ → List ℕ → List ℕ → Type 0
Stands site at root base cells bodies = StandsFor site at (at root) base (IsIn cells) (IsIn bodies)

-- a published word is the word of its key
pub word_published : (at : ℕ → ℕ) (root base : ℕ) (cells : List ℕ) (key place w : ℕ) → IsPublished at root base cells key place → at place ≡ w
    → IsWordOf at (at root) base (IsIn cells) key w
word_published at root base cells key place w p e =
    subst (λ (y : ℕ). IsWordOf at (at root) base (IsIn cells) key y) e (word_at_place at root base (IsIn cells) key place p)

-- bodies of a list that lie under the key of a cell share its cube
pub shared_of_more : (site : ℕ → Site) (bodies : List ℕ) (key : ℕ) → IsCellKey key → HasMoreUnder site bodies key → IsShared site (IsIn bodies) key
shared_of_more site bodies key l t = record {
  level = l.0;
  shallow = l.1;
  sharers = more_so (λ n b. (b.0, b.1.2 ∙ ap (key_of (site n)) (level_of_key (site n) key l.0 b.1.0 l.2 l.3 b.1.2))) t;
}

-- a cube that bodies share is one of a cell's level
pub level_of_shared : {site : ℕ → Site} {IsBody : ℕ → Type 0} {key : ℕ} → IsShared site IsBody key → IsCellKey key
level_of_shared {site = site} shared =
    let f = sharer shared in (
      f.level,
      f.shallow,
      subst (λ (x : ℕ). 8 ^ f.level ≤ x) (sym f.one_under) (key-low (site f.one) f.level),
      subst (λ (x : ℕ). x < 2 * 8 ^ f.level)
          (sym f.one_under) (key-high (site f.one) f.level),
    )

-- bodies that share a cube lie under its key
pub more_of_shared : (site : ℕ → Site) (bodies : List ℕ) (key : ℕ) → IsShared site (IsIn bodies) key → HasMoreUnder site bodies key
more_of_shared site bodies key f = more_so (λ n b. (b.0, (f.level, omega (arith, f.shallow), b.1))) f.sharers

module _ (site : ℕ → Site) (at : ℕ → ℕ) (root base : ℕ) (cells others bodies : List ℕ) where
  abbrev IsWord : ℕ → ℕ → Type 0
  IsWord key w = IsWordOf at (at root) base (IsIn cells) key w

  word_here : (key place w : ℕ) → IsPublished at root base cells key place → at place ≡ w → IsWord key w
  word_here key place w p e = word_published at root base cells key place w p e

  -- words that name cells and bodies exactly stand for the bodies
  pub stands_of_exact : NamesExactly site at root base cells others bodies → Stands site at root base cells bodies
  stands_of_exact h = record {
    keys_differ = h.keys_differ;
    cell_named = λ c p.
        let o = h.cell_once c p in
        let f = h.names_cell o.key o.place c o.published o.named in
        subst (λ (x : ℕ). IsWord x (cell_word c)) (sym f.1) (word_here o.key o.place (cell_word c) o.published (word_of_cell (at o.place) c o.named));
    names_cell = λ key c x.
        let p = place_of_word at root base (IsIn cells) key (cell_word c) x in
        h.names_cell key p.place c p.of_key (names_cell (at p.place) c (sym p.holds));
    body_named = λ n b.
        let o = h.body_once n b in
        let f = h.names_body o.key o.place n o.published o.named in
        record {
          level = f.1.0;
          shallow = f.1.1;
          named = subst (λ (x : ℕ). IsWord x (body_word n)) f.1.2 (word_here o.key o.place (body_word n) o.published (word_of_body (at o.place) n o.named));
        };
    names_body = λ key n x.
        let p = place_of_word at root base (IsIn cells) key (body_word n) x in
        h.names_body key p.place n p.of_key (names_body (at p.place) n (sym p.holds));
    shared = λ c p. shared_of_more site bodies (at (key_place c)) (h.levels c p) (h.more_under c p);
  }

  -- of a word of one key alone there is one place
  one_spot : Stands site at root base cells bodies → (key other place there : ℕ) → IsPublished at root base cells key place
      → IsPublished at root base cells other there → other ≡ key → there ≡ place
  one_spot h key other place there p q e =
      one_place site at root base (IsIn cells) (IsIn bodies) (IsIn bodies) h key there place (subst (λ (z : ℕ). IsPublished at root base cells z there) e q) p

  -- words that stand for bodies, with cells of which none stands twice among them and others, name both exactly
  pub exact_of_stands : Stands site at root base cells bodies → NoneTwice (cells ++ others) → NamesExactly site at root base cells others bodies
  exact_of_stands h distinct = record {
    keys_differ = h.keys_differ;
    levels = λ c p. level_of_shared (h.shared c p);
    names_cell = λ key place c x e. h.names_cell key c (word_here key place (cell_word c) x (word_of_cell (at place) c e));
    cell_once = λ c p.
        let o = place_of_word at root base (IsIn cells) (at (key_place c)) (cell_word c) (h.cell_named c p) in
        record {
          key = at (key_place c);
          place = o.place;
          published = o.of_key;
          named = names_cell (at o.place) c (sym o.holds);
          no_other = λ key other x e.
              one_spot h (at (key_place c)) key o.place other o.of_key x
              (sym (h.names_cell key c (word_here key other (cell_word c) x (word_of_cell (at other) c e))).1);
        };
    body_once = λ n b.
        let f = h.body_named n b in
        let o = place_of_word at root base (IsIn cells) (key_of (site n) f.level) (body_word n) f.named in
        record {
          key = key_of (site n) f.level;
          place = o.place;
          published = o.of_key;
          named = names_body (at o.place) n (sym o.holds);
          no_other = λ key other x e.
              one_spot h (key_of (site n) f.level) key o.place other o.of_key x
              (one_key_of_body site at (at root) base (IsIn cells) (IsIn bodies) (IsIn bodies) h n key (key_of (site n) f.level)
              (word_here key other (body_word n) x (word_of_body (at other) n e)) f.named);
        };
    names_body = λ key place n x e. h.names_body key n (word_here key place (body_word n) x (word_of_body (at place) n e));
    more_under = λ c p. more_of_shared site bodies (at (key_place c)) (h.shared c p);
    none_twice = distinct;
  }

  -- both ways
  pub exact_stands : NamesExactly site at root base cells others bodies ↔ (Stands site at root base cells bodies × NoneTwice (cells ++ others))
  exact_stands = ((λ h. (stands_of_exact h, h.none_twice)), (λ h. exact_of_stands h.0 h.1))
