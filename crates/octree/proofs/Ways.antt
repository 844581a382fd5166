-- The way from the root's word to the word of a key, along which cells are made.
use Rattle.std.proofs.Common.{ℕ, zero, suc, ◌+◌, ◌*◌, ◌/◌, ◌%◌, ◌^◌, ◌<◌, ◌≤◌, ◌≡◌, refl, sym, ◌∙◌, ap, subst, inl, inr, arith, List}
use Rattle.std.proofs.Math.Nat.{pow-suc, pow-zero}
use Rattle.std.proofs.lemmas.Bool.{cases_lt}
use Rattle.octant_code.proofs.Keys.{pow8-mono}
use Rattle.octant_code.proofs.Nested.{off_twice}
use Rattle.octant_code.specs.Prefixes.{IsProperPrefix}
use Rattle.octant_code.specs.Space.{IsKey, Site}
use Rattle.octree.specs.Growing.{IsCellPut, IsCellThere, IsGrowing, IsMade, IsWayMade, cells_in}
use Rattle.octree.specs.Stored.{Stored}
use Rattle.tree_rule.proofs.Laws.{ACell, NoBody, OneBody, key_apart, word_at_place, word_is}
use Rattle.tree_rule.specs.Flat.{ChildPlace, IsPlaceOf, IsWordOf, TopPlace}
use Rattle.tree_rule.specs.Words.{HasBody, at_of, body_word, cell_word, child_place, key_place}

-- ---- keys

-- the key of the whole cube is the only one below 8
root_key : (key level : ℕ) → 8 ^ level ≤ key → key < 2 * 8 ^ level → key < 8 → key ≡ 1
root_key key zero low high small = omega (arith, pow-zero 8)
root_key key (suc level) low high small = absurd (omega (arith, pow-suc 8 level, pow8-mono 0 level (omega arith)))

-- the key above another is a key
pub key_up : (key : ℕ) → IsKey key → 8 ≤ key → IsKey (key / 8)
key_up key (zero, shallow, low, high) some = absurd (omega (arith, pow-zero 8))
key_up key (suc level, shallow, low, high) some =
    (level, omega arith, omega (arith, pow-suc 8 level), omega (arith, pow-suc 8 level))

-- the key above another is a proper prefix of it
pub up_proper : (key : ℕ) → 8 ≤ key → IsProperPrefix (key / 8) key
up_proper key some = let one : 8 ^ 1 ≡ 8 = refl in (omega arith, 0, ap (λ y. key / y) (sym one))

-- and so are its proper prefixes
pub proper_up : (x key : ℕ) → IsProperPrefix x (key / 8) → IsProperPrefix x key
proper_up x key p =
    let one : 8 ^ 1 ≡ 8 = refl in
    let more : 1 + suc p.1 ≡ suc (suc p.1) = omega arith in
    (p.0, suc p.1, p.2 ∙ ap (λ y. key / y / 8 ^ suc p.1) (sym one) ∙ off_twice key 1 (suc p.1) ∙ ap (λ y. key / 8 ^ y) more)

-- ---- words

module _ (sites : List Site) (parts : List Stored) (words : List ℕ) (key place : ℕ) (g : IsGrowing sites parts words)
    (bare : (n : ℕ) → HasBody words n → ⊥) (of_key : IsPlaceOf (at_of words) 0 1 (IsMade words) key place) where
  -- the word at the place is that of the key
  word_there : (w : ℕ) → at_of words place ≡ w → IsWordOf (at_of words) (at_of words 0) 1 (IsMade words) key w
  word_there w e =
      subst (λ (y : ℕ). IsWordOf (at_of words) (at_of words 0) 1 (IsMade words) key y) e (word_at_place (at_of words) 0 1 (IsMade words) key place of_key)

  -- it names no body
  pub no_body_there : (n : ℕ) → at_of words place ≡ body_word n → ⊥
  no_body_there n e = bare n (g.stands.names_body key n (word_there (body_word n) e)).0

  -- and a cell of the key
  cell_is : (c : ℕ) → at_of words place ≡ cell_word c → IsMade words c × (at_of words (key_place c) ≡ key)
  cell_is c e = g.stands.names_cell key c (word_there (cell_word c) e)

  -- it fits
  pub there_small : at_of words place < 2 ^ 33
  there_small = elim (word_is (at_of words place)) [
    | NoBody e ↦ omega arith
    | OneBody n e ↦ absurd (no_body_there n e)
    | ACell c e ↦ omega (arith, e, (cell_is c e).0, g.few)
  ]

  -- the cell is there
  pub there_is : (c : ℕ) → at_of words place ≡ cell_word c → IsCellThere sites parts words words key c
  there_is c e = record {
    grown = g;
    bare = bare;
    more = omega arith;
    kept = λ d l. refl;
    new = λ d l m. absurd (omega (arith, m));
    made = (cell_is c e).0;
    keyed = (cell_is c e).1;
  }

  -- or was put
  pub there_put : (after : List ℕ) (c : ℕ) → IsCellPut sites parts words after key place c → IsCellThere sites parts words after key c
  there_put after c put = record {
    grown = put.grown;
    bare = λ n b. bare n ((put.bodies n).0 b);
    more = omega (arith, put.more);
    kept = λ d l. put.kept (key_place d) (omega (arith, g.long)) (key_apart (at_of words) 0 1 (IsMade words) key place d (omega arith) of_key);
    new = λ d l m.
        let here : d ≡ c = omega (arith, m, put.number, put.more, g.long) in
        ap (λ y. at_of after (key_place y)) here ∙ put.keyed;
    made = omega (arith, put.number, put.more, g.long);
    keyed = put.keyed;
  }

-- the root's word is that of the whole cube
pub way_root : (sites : List Site) (parts : List Stored) (words : List ℕ) (key : ℕ) → IsGrowing sites parts words → ((n : ℕ) → HasBody words n → ⊥)
    → IsKey key → key < 8 → IsWayMade sites parts words words key 0
way_root sites parts words key g bare real small = record {
  grown = g;
  bare = bare;
  more = omega arith;
  kept = λ c l. refl;
  keyed = λ c l m. absurd (omega (arith, m));
  of_key = TopPlace (root_key key real.0 real.2 real.3 small) refl;
}

-- one cell further down
pub way_down : (sites : List Site) (parts : List Stored) (before mid after : List ℕ) (key above cell place : ℕ) → 8 ≤ key
    → IsWayMade sites parts before mid (key / 8) above → IsCellThere sites parts mid after (key / 8) cell → place ≡ child_place cell (key % 8)
    → IsWayMade sites parts before after key place
way_down sites parts before mid after key above cell place some way there e = record {
  grown = there.grown;
  bare = there.bare;
  more = omega (arith, way.more, there.more);
  kept = λ c l. there.kept c (omega (arith, way.more)) ∙ way.kept c l;
  keyed = λ c l m. elim (cases_lt c (cells_in mid)) [
    | inl old ↦
        subst (λ (y : ℕ). IsProperPrefix y key) (sym (there.kept c old)) (proper_up (at_of mid (key_place c)) key (way.keyed c l old))
    | inr new ↦ subst (λ (y : ℕ). IsProperPrefix y key) (sym (there.new c new m)) (up_proper key some)
  ];
  of_key = ChildPlace cell (key % 8) there.made (omega arith) (omega (arith, there.keyed)) e;
}
