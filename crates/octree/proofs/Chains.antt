-- The steps of building the cells that part two bodies.
use Rattle.std.proofs.Common.{ℕ, ◌+◌, ◌*◌, ◌<◌, ◌≡◌, ◌≢◌, ◌⊎◌, sym, ◌∙◌, ap, subst, inl, inr, arith, List, length, slice_set, add-one}
use Rattle.octant_code.specs.Space.{Site, key_of, octant_of}
use Rattle.octant_code.specs.Points.{site_at, ArePoints}
use Rattle.octant_code.proofs.Keys.{key-suc, octant-small}
use Rattle.octant_code.proofs.Apart.{level_shallow}
use Rattle.bh_model.proofs.Equal.{same_or_not}
use Rattle.octree.proofs.Words.{at_past, at_set_other, at_set_same, set_length}
use Rattle.octree.specs.Chain.{ArePair, IsCellAdded, IsOneOf, IsTaken}
use Rattle.octree.specs.Stored.{word_count}
use Rattle.octree.proofs.Locks.{unlocked_in_cell, unlocked_more}
use Rattle.tree_rule.proofs.Laws.{Only, fork_stands, link_stands, pair_shares, stands_same}
use Rattle.tree_rule.specs.Locks.{AreUnlocked}
use Rattle.tree_rule.specs.Flat.{IsShared, StandsFor}
use Rattle.tree_rule.specs.Words.{at_of, body_word, cell_word, child_place, key_place}

-- a body of the cube and of an octant of it is in the octant's cube
pub octant_under : (s : Site) (key level a : ℕ) → key ≡ key_of s level → a ≡ octant_of s level → 8 * key + a ≡ key_of s (level + 1)
octant_under s key level a k o = ap (λ y. 8 * y + a) k ∙ ap (λ y. 8 * key_of s level + y) o ∙ sym (ap (key_of s) (add-one level) ∙ key-suc s level)

-- two bodies of one octant of the cube are in the octant's cube
pub pair_deeper : (sites : List Site) (x n key level a : ℕ) → ArePoints sites → ArePair sites x n key level
    → a ≡ octant_of (site_at sites x) level → a ≡ octant_of (site_at sites n) level → ArePair sites x n (8 * key + a) (level + 1)
pair_deeper sites x n key level a rule pair o r =
    let ux = octant_under (site_at sites x) key level a pair.x_under o in
    let un = octant_under (site_at sites n) key level a pair.n_under r in
    record {
      shallow = omega (arith, level_shallow sites x n (level + 1) rule pair.x_in pair.n_in pair.differ (omega (arith, pair.shallow)) (sym ux ∙ un));
      x_in = pair.x_in;
      n_in = pair.n_in;
      differ = pair.differ;
      x_under = ux;
      n_under = un;
    }

-- the cube of a pair is shared by both
pub pair_cube : (sites : List Site) (x n key level : ℕ) → ArePair sites x n key level → IsShared (site_at sites) (IsOneOf x n) key
pair_cube sites x n key level pair =
    subst (λ (y : ℕ). IsShared (site_at sites) (IsOneOf x n) y) (sym pair.n_under)
    (pair_shares (site_at sites) x n level (omega (arith, pair.shallow)) pair.differ (sym pair.x_under ∙ pair.n_under))

-- the words of one more cell with its key
pub added : (words longer : List ℕ) (cell key p : ℕ) → length words ≡ word_count cell → length longer ≡ word_count (cell + 1) → at_of longer ≡ at_of words
    → p ≡ key_place cell
    → AreUnlocked words cell → IsCellAdded words (slice_set longer p key) cell key
added words longer cell key p len more same is_p unlocked =
    let other : (i : ℕ) → i ≢ p → at_of (slice_set longer p key) i ≡ at_of words i = λ i d. at_set_other longer p i key d ∙ ap (λ (at : ℕ → ℕ). at i) same in
    record {
      len = set_length longer p key ∙ more;
      kept = λ i l. other i (λ e. omega arith);
      keyed = at_set_same longer p (key_place cell) key (sym is_p) (omega arith);
      empty = λ k l. other (child_place cell k) (λ e. omega arith) ∙ at_past words (child_place cell k) (omega arith);
      unlocked = unlocked_in_cell longer (cell + 1) cell 8 p key (unlocked_more words longer cell (cell + 1) unlocked len same) (omega arith) (omega arith);
    }

-- the cell over a chain: `longer` are the words with those of the cell, and `after` those with the chain
pub linked : (sites : List Site) (words longer after : List ℕ) (used to a key level x n q value : ℕ)
    → IsCellAdded words longer used key → q ≡ child_place used a → a < 8 → value ≡ cell_word (used + 1)
    → ((i : ℕ) → i < word_count (used + 1) → at_of after i ≡ at_of (slice_set longer q value) i) → used + 1 < to → ArePair sites x n key level
    → StandsFor (site_at sites) (at_of after) (cell_word (used + 1)) (8 * key + a) (IsTaken (used + 1) to) (IsOneOf x n)
    → StandsFor (site_at sites) (at_of after) (cell_word used) key (IsTaken used to) (IsOneOf x n)
linked sites words longer after used to a key level x n q value cell is_q small is_value kept next pair sub =
    let key_now = kept (key_place used) (omega arith) ∙ at_set_other longer q (key_place used) value (λ e. omega arith) ∙ cell.keyed in
    let kid_now : at_of after (child_place used a) ≡ cell_word (used + 1) =
    kept (child_place used a) (omega arith) ∙ at_set_same longer q (child_place used a) value (sym is_q) (omega (arith, cell.len)) ∙ is_value in
    let others : (j : ℕ) → j < 8 → j ≢ a → at_of after (child_place used j) ≡ 0 = λ j l h.
    kept (child_place used j) (omega arith) ∙ at_set_other longer q (child_place used j) value (λ e. h (omega arith)) ∙ cell.empty j l in
    let part : StandsFor (site_at sites) (at_of after) (at_of after (child_place used a)) (8 * key + a) (IsTaken (used + 1) to) (IsOneOf x n) =
    subst (λ (y : ℕ). StandsFor (site_at sites) (at_of after) y (8 * key + a) (IsTaken (used + 1) to) (IsOneOf x n)) (sym kid_now) sub in
    stands_same (site_at sites) (at_of after) (cell_word used) key (λ c. (c ≡ used) ⊎ IsTaken (used + 1) to c) (IsTaken used to) (IsOneOf x n) (IsOneOf x n)
    (λ c. (
      (λ r. elim r [ inl e ↦ (omega arith, omega arith) | inr t ↦ (omega (arith, t.0), t.1) ]),
      (λ r. elim (same_or_not c used) [ inl e ↦ inl e | inr o ↦ inr (omega (arith, r.0), r.1) ]),
    ))
    (λ m. ((λ r. r), (λ r. r)))
    (link_stands (site_at sites) (at_of after) used key a (IsTaken (used + 1) to) (IsOneOf x n) key_now (pair_cube sites x n key level pair) small part others)

-- the cell in which two bodies lie in different octants
pub forked : (sites : List Site) (words longer : List ℕ) (used a b key level x n q r v w : ℕ)
    → IsCellAdded words longer used key → q ≡ child_place used a → r ≡ child_place used b → v ≡ body_word x → w ≡ body_word n → ArePair sites x n key level
    → a ≡ octant_of (site_at sites x) level → b ≡ octant_of (site_at sites n) level → a ≢ b
    → StandsFor (site_at sites) (at_of (slice_set (slice_set longer q v) r w)) (cell_word used) key (IsTaken used (used + 1)) (IsOneOf x n)
forked sites words longer used a b key level x n q r v w cell is_q is_r is_v is_w pair is_a is_b apart =
    let first : List ℕ = slice_set longer q v in
    let last : List ℕ = slice_set first r w in
    let sa : a < 8 = omega (arith, is_a, octant-small (site_at sites x) level) in
    let sb : b < 8 = omega (arith, is_b, octant-small (site_at sites n) level) in
    let len : length first ≡ word_count (used + 1) = set_length longer q v ∙ cell.len in
    let elsewhere : (i : ℕ) → i ≢ q → i ≢ r → at_of last i ≡ at_of longer i = λ i d e. at_set_other first r i w e ∙ at_set_other longer q i v d in
    let key_now = elsewhere (key_place used) (λ h. omega arith) (λ h. omega arith) ∙ cell.keyed in
    let a_now = at_set_other first r (child_place used a) w (λ h. apart (omega arith))
    ∙ at_set_same longer q (child_place used a) v (sym is_q) (omega (arith, cell.len)) ∙ is_v in
    let b_now = at_set_same first r (child_place used b) w (sym is_r) (omega (arith, len)) ∙ is_w in
    let others : (j : ℕ) → j < 8 → j ≢ a → j ≢ b → at_of last (child_place used j) ≡ 0 = λ j l f g.
    elsewhere (child_place used j) (λ h. f (omega arith)) (λ h. g (omega arith)) ∙ cell.empty j l in
    stands_same (site_at sites) (at_of last) (cell_word used) key (Only used) (IsTaken used (used + 1)) (IsOneOf x n) (IsOneOf x n)
    (λ c. ((λ e. (omega arith, omega arith)), (λ h. omega (arith, h.0, h.1))))
    (λ m. ((λ h. h), (λ h. h)))
    (fork_stands (site_at sites) (at_of last) used key a b x n key_now (pair_cube sites x n key level pair) sa sb apart
    (level + 1, omega (arith, pair.shallow), octant_under (site_at sites x) key level a pair.x_under is_a)
    (level + 1, omega (arith, pair.shallow), octant_under (site_at sites n) key level b pair.n_under is_b) a_now b_now others)
