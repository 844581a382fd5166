-- The rule with no points, and the flat facts at points, say the same where each body's point lies in the cube of its word.
use Rattle.std.proofs.Common.{ℕ, ◌+◌, ◌*◌, ◌^◌, ◌<◌, ◌≤◌, ◌≡◌, refl, sym, ◌∙◌, ap, subst, inl, inr, arith}
use Rattle.std.proofs.lemmas.Bool.{cases_lt}
use Rattle.octant_code.specs.declared.limits.TheConstants.{LEVELS}
use Rattle.octant_code.specs.Space.{Site, key_of, IsUnder}
use Rattle.octant_code.proofs.Keys.{key-low, key-high, pow8-mono, same_level, same_parent, same_child}
use Rattle.tree_rule.proofs.Flat.{below_top, cell_above, one_word}
use Rattle.tree_rule.proofs.Shared.{sharer}
use Rattle.tree_rule.proofs.Walk.{reached_below, under_up}
use Rattle.bh_model.proofs.MoreThan.{more_of_two, more_so, two_of_more}
use Rattle.tree_rule.specs.Flat.{Child, IsShared, IsWordOf, StandsFor, Top}
use Rattle.tree_rule.specs.Sound.{BelowAs, BodiesUnder, HereAs, IsReachedAs, IsSound}
use Rattle.tree_rule.specs.Words.{Below, Here, IsReached, body_word, cell_word, child_place}

-- the key of a word that is read
pub record HasReadKey (at : ℕ → ℕ) (top base w : ℕ) : Type 0 where
  pub key : ℕ
  pub read : IsReachedAs at top base key w

-- a word that is read with a key is read
pub forget : (at : ℕ → ℕ) (top base key w : ℕ) → IsReachedAs at top base key w → IsReached at top w
forget at top base _ _ (HereAs key w k e) = Here w e
forget at top base _ _ (BelowAs c k parent key w r l f e) = Below c k w (forget at top base parent (cell_word c) r) l e

-- a word that is read is read with a key
pub recall : (at : ℕ → ℕ) (top base w : ℕ) → IsReached at top w → HasReadKey at top base w
recall at top base _ (Here w e) = record { key = base; read = HereAs base w refl e }
recall at top base _ (Below c k w r l e) =
    let f = recall at top base (cell_word c) r in
    record { key = 8 * f.key + k; read = BelowAs c k f.key (8 * f.key + k) w f.read l refl e }

-- a key that is read is at least the top word's
pub keys_grow : (at : ℕ → ℕ) (top base key w : ℕ) → IsReachedAs at top base key w → base ≤ key
keys_grow at top base _ _ (HereAs key w k e) = omega arith
keys_grow at top base _ _ (BelowAs c k parent key w r l f e) = omega (arith, keys_grow at top base parent (cell_word c) r)

-- a key has one word
pub one_read : (at : ℕ → ℕ) (top base key v w : ℕ) → 1 ≤ base → IsReachedAs at top base key v → IsReachedAs at top base key w → v ≡ w
one_read at top base _ _ _ pos (HereAs key v k e) (HereAs key' w k' e') = e ∙ sym e'
one_read at top base _ _ _ pos (HereAs key v k e) (BelowAs c j parent key' w r l f e') = absurd (omega (arith, keys_grow at top base parent (cell_word c) r))
one_read at top base _ _ _ pos (BelowAs c j parent key' w r l f e') (HereAs key v k e) = absurd (omega (arith, keys_grow at top base parent (cell_word c) r))
one_read at top base _ _ _ pos (BelowAs c j parent key v r l f e) (BelowAs d i parent' key' w q m g e') =
    let both : 8 * parent + j ≡ 8 * parent' + i = sym f ∙ g in
    let up : parent' ≡ parent = sym (same_parent parent parent' j i l m both) in
    let q' : IsReachedAs at top base parent (cell_word d) = subst (λ (y : ℕ). IsReachedAs at top base y (cell_word d)) up q in
    let cells : cell_word c ≡ cell_word d = one_read at top base parent (cell_word c) (cell_word d) pos r q' in
    let same : c ≡ d = omega arith in
    let nth : j ≡ i = same_child parent parent' j i l m both in
    e ∙ (ap (λ y. at (child_place y j)) same ∙ ap (λ y. at (child_place d y)) nth) ∙ sym e'

-- a cell that is read below the top word
abbrev pub IsCellRead : (ℕ → ℕ) → ℕ → ℕ → Type 0
IsCellRead at top c = IsReached at top (cell_word c)

-- a body that is read below the top word
abbrev pub IsBodyRead : (ℕ → ℕ) → ℕ → ℕ → Type 0
IsBodyRead at top n = IsReached at top (body_word n)

-- a word that is read with a key is the word of that key
word_of_read : (at : ℕ → ℕ) (top base key w : ℕ) → IsSound at top base → IsReachedAs at top base key w → IsWordOf at top base (IsCellRead at top) key w
word_of_read at top base _ _ h (HereAs key w k e) = Top k e
word_of_read at top base _ _ h (BelowAs c k parent key w r l f e) =
    Child c k (forget at top base parent (cell_word c) r) l (f ∙ ap (λ y. 8 * y + k) (sym (h.keys_follow parent c r))) e

-- the word of a key is read with that key
read_of_word : (at : ℕ → ℕ) (top base key w : ℕ) → IsSound at top base → IsWordOf at top base (IsCellRead at top) key w → IsReachedAs at top base key w
read_of_word at top base key w h (Top k e) = HereAs key w k e
read_of_word at top base key w h (Child c k p l f e) =
    let r = recall at top base (cell_word c) p in
    BelowAs c k r.key key w r.read l (f ∙ ap (λ y. 8 * y + k) (h.keys_follow r.key c r.read)) e

-- a word that is read below another has a key below the other's
pub record IsReadBelow (at : ℕ → ℕ) (top base key w : ℕ) : Type 0 where
  pub deeper : ℕ
  pub read : IsReachedAs at top base deeper w
  pub in_cube : (s : Site) → IsUnder deeper s → IsUnder key s

-- what is read below a word that is read lies in its cube
read_below : (at : ℕ → ℕ) (top base key v w : ℕ) → 1 ≤ base → IsReachedAs at top base key v → IsReached at v w → IsReadBelow at top base key w
read_below at top base key v _ pos r (Here w e) = record { deeper = key; read = subst (λ (y : ℕ). IsReachedAs at top base key y) (sym e) r; in_cube = λ s u. u }
read_below at top base key v _ pos r (Below c k w q l e) =
    let f = read_below at top base key v (cell_word c) pos r q in
    record {
      deeper = 8 * f.deeper + k;
      read = BelowAs c k f.deeper (8 * f.deeper + k) w f.read l refl e;
      in_cube = λ s u. f.in_cube s (under_up s f.deeper k (omega (arith, keys_grow at top base f.deeper (cell_word c) f.read)) l u);
    }

-- the level of a key that is below 2 ^ 61 is one of those of cells
level_small : (s : Site) (key level : ℕ) → key < 2 ^ 61 → key ≡ key_of s level → level < LEVELS
level_small s key level h e = elim (cases_lt level 21) [
  | inl l ↦ omega arith
  | inr l ↦ absurd (omega (arith, key-low s level, pow8-mono 21 level l))
]

-- two bodies that are read below a cell lie under its key
shares_of : (site : ℕ → Site) (at : ℕ → ℕ) (top base key c : ℕ) → 1 ≤ base → IsSound at top base → BodiesUnder site at top base
    → IsReachedAs at top base key (cell_word c)
    → IsShared site (IsBodyRead at top) key
shares_of site at top base key c pos h under r =
    let two = two_of_more (h.more_bodies key c r) in
    let a = read_below at top base key (cell_word c) (body_word two.one) pos r two.one_is in
    let b = read_below at top base key (cell_word c) (body_word two.other) pos r two.other_is in
    let ua : IsUnder key (site two.one) = a.in_cube (site two.one) (under a.deeper two.one a.read) in
    let ub : IsUnder key (site two.other) = b.in_cube (site two.other) (under b.deeper two.other b.read) in
    let same : ub.0 ≡ ua.0 = same_level (site two.other) (site two.one) ub.0 ua.0 (sym ub.2 ∙ ua.2) in
    record {
      level = ua.0;
      shallow = level_small (site two.one) key ua.0 (h.shallow key c r) ua.2;
      sharers = more_of_two two.one two.other (forget at top base a.deeper (body_word two.one) a.read, ua.2)
          (forget at top base b.deeper (body_word two.other) b.read, ub.2 ∙ ap (key_of (site two.other)) same) two.differ;
    }

-- the rule, with each body's point in the cube of its word, gives the flat facts
pub stands_of_sound : (site : ℕ → Site) (at : ℕ → ℕ) (top base : ℕ) → 1 ≤ base → IsSound at top base → BodiesUnder site at top base
    → StandsFor site at top base (IsCellRead at top) (IsBodyRead at top)
stands_of_sound site at top base pos h under = record {
  keys_differ = λ c d p q e.
      let f = recall at top base (cell_word c) p in
      let g = recall at top base (cell_word d) q in
      let same : g.key ≡ f.key = sym (h.keys_follow g.key d g.read) ∙ sym e ∙ h.keys_follow f.key c f.read in
      let cells : cell_word c ≡ cell_word d =
      one_read at top base f.key (cell_word c) (cell_word d) pos f.read (subst (λ (y : ℕ). IsReachedAs at top base y (cell_word d)) same g.read) in
      omega arith;
  cell_named = λ c p.
      let f = recall at top base (cell_word c) p in
      subst (λ (y : ℕ). IsWordOf at top base (IsCellRead at top) y (cell_word c)) (sym (h.keys_follow f.key c f.read))
      (word_of_read at top base f.key (cell_word c) h f.read);
  names_cell = λ key c x.
      let r = read_of_word at top base key (cell_word c) h x in
      (forget at top base key (cell_word c) r, h.keys_follow key c r);
  body_named = λ n b.
      let f = recall at top base (body_word n) b in
      let u = under f.key n f.read in
      record {
        level = u.0;
        shallow = u.1;
        named =
            subst (λ (y : ℕ). IsWordOf at top base (IsCellRead at top) y (body_word n)) u.2 (word_of_read at top base f.key (body_word n) h f.read);
      };
  names_body = λ key n x.
      let r = read_of_word at top base key (body_word n) h x in
      (forget at top base key (body_word n) r, under key n r);
  shared = λ c p.
      let f = recall at top base (cell_word c) p in
      subst (λ (y : ℕ). IsShared site (IsBodyRead at top) y) (sym (h.keys_follow f.key c f.read)) (shares_of site at top base f.key c pos h under f.read);
}

-- a word that is read with a key is the word of that key, by the flat facts
named_of_read : (site : ℕ → Site) (at : ℕ → ℕ) (top base : ℕ) (P B : ℕ → Type 0) → StandsFor site at top base P B
    → (key w : ℕ) → IsReachedAs at top base key w → IsWordOf at top base P key w
named_of_read site at top base P B h _ _ (HereAs key w k e) = Top k e
named_of_read site at top base P B h _ _ (BelowAs c k parent key w r l f e) =
    let g = h.names_cell parent c (named_of_read site at top base P B h parent (cell_word c) r) in
    Child c k g.0 l (f ∙ ap (λ y. 8 * y + k) (sym g.1)) e

-- no body is named in two cubes
once : (site : ℕ → Site) (at : ℕ → ℕ) (top base : ℕ) (P B : ℕ → Type 0) → StandsFor site at top base P B
    → (s : Site) (i j w n : ℕ) → i < j → IsWordOf at top base P (key_of s i) (body_word n) → IsWordOf at top base P (key_of s j) w → ⊥
once site at top base P B h s i j w n l x y =
    let t = below_top site at top base P B B h s i (body_word n) x in
    let up = cell_above site at top base P B B h s j w i t.top_level y t.is_base t.above l in
    let odd : body_word n ≡ cell_word up.cell = one_word site at top base P B B h (key_of s i) (body_word n) (cell_word up.cell) x up.named in
    omega arith

-- a body under a cell's key is read below the cell
body_below : (site : ℕ → Site) (at : ℕ → ℕ) (top base : ℕ) (P B : ℕ → Type 0) → StandsFor site at top base P B
    → (key c n level : ℕ) → IsWordOf at top base P key (cell_word c) → B n → key ≡ key_of (site n) level → IsReached at (cell_word c) (body_word n)
body_below site at top base P B h key c n level x b e =
    let f = h.body_named n b in
    let x' : IsWordOf at top base P (key_of (site n) level) (cell_word c) = subst (λ (z : ℕ). IsWordOf at top base P z (cell_word c)) e x in
    elim (cases_lt f.level level) [
      | inl l ↦ absurd (once site at top base P B h (site n) f.level level (cell_word c) n l f.named x')
      | inr l ↦ reached_below site at top base P B B h (site n) f.level (body_word n) level (cell_word c) f.named x' l
    ]

-- the flat facts give the rule, and that each body's point lies in the cube of its word
pub sound_of_stands : (site : ℕ → Site) (at : ℕ → ℕ) (top base : ℕ) (P B : ℕ → Type 0) → StandsFor site at top base P B → IsSound at top base
sound_of_stands site at top base P B h = record {
  keys_follow = λ key c r. (h.names_cell key c (named_of_read site at top base P B h key (cell_word c) r)).1;
  shallow = λ key c r.
      let f = h.names_cell key c (named_of_read site at top base P B h key (cell_word c) r) in
      let t = sharer (h.shared c f.0) in
      omega (arith, f.1, t.one_under, key-high (site t.one) t.level, pow8-mono t.level 20 (omega (arith, t.shallow)));
  bodies_once = λ key key' n r q.
      let x = named_of_read site at top base P B h key (body_word n) r in
      let y = named_of_read site at top base P B h key' (body_word n) q in
      let u = (h.names_body key n x).1 in
      let v = (h.names_body key' n y).1 in
      let x' : IsWordOf at top base P (key_of (site n) u.0) (body_word n) = subst (λ (z : ℕ). IsWordOf at top base P z (body_word n)) u.2 x in
      let y' : IsWordOf at top base P (key_of (site n) v.0) (body_word n) = subst (λ (z : ℕ). IsWordOf at top base P z (body_word n)) v.2 y in
      elim (cases_lt u.0 v.0) [
        | inl l ↦ absurd (once site at top base P B h (site n) u.0 v.0 (body_word n) n l x' y')
        | inr g ↦ elim (cases_lt v.0 u.0) [
          | inl l ↦ absurd (once site at top base P B h (site n) v.0 u.0 (body_word n) n l y' x')
          | inr l ↦ let same : u.0 ≡ v.0 = omega arith in u.2 ∙ ap (key_of (site n)) same ∙ sym v.2
        ]
      ];
  more_bodies = λ key c r.
      let x = named_of_read site at top base P B h key (cell_word c) r in
      let f = h.names_cell key c x in
      let t = h.shared c f.0 in
      more_so (λ n b. body_below site at top base P B h key c n t.level x b.0 (sym f.1 ∙ b.1)) t.sharers;
}

-- the flat facts have each body's point in the cube of its word
pub bodies_of_stands : (site : ℕ → Site) (at : ℕ → ℕ) (top base : ℕ) (P B : ℕ → Type 0) → StandsFor site at top base P B → BodiesUnder site at top base
bodies_of_stands site at top base P B h key n r = (h.names_body key n (named_of_read site at top base P B h key (body_word n) r)).1

-- what is read below a word that is read is read
read_on : (at : ℕ → ℕ) (top base key v : ℕ) → IsReachedAs at top base key v → (deeper w : ℕ) → IsReachedAs at v key deeper w → IsReachedAs at top base deeper w
read_on at top base key v r _ _ (HereAs deeper w k e) =
    subst (λ (y : ℕ). IsReachedAs at top base y w) (sym k) (subst (λ (y : ℕ). IsReachedAs at top base key y) (sym e) r)
read_on at top base key v r _ _ (BelowAs c k parent deeper w q l f e) = BelowAs c k parent deeper w (read_on at top base key v r parent (cell_word c) q) l f e

-- the words below a word that is read keep the rule
pub sound_below : (at : ℕ → ℕ) (top base key v : ℕ) → IsSound at top base → IsReachedAs at top base key v → IsSound at v key
sound_below at top base key v h r = record {
  keys_follow = λ deeper c q. h.keys_follow deeper c (read_on at top base key v r deeper (cell_word c) q);
  shallow = λ deeper c q. h.shallow deeper c (read_on at top base key v r deeper (cell_word c) q);
  bodies_once = λ deeper deeper' n q s. h.bodies_once deeper deeper' n (read_on at top base key v r deeper (body_word n) q)
      (read_on at top base key v r deeper' (body_word n) s);
  more_bodies = λ deeper c q. h.more_bodies deeper c (read_on at top base key v r deeper (cell_word c) q);
}

-- the bodies below a word that is read have their points in the cubes of their words
pub bodies_below : (site : ℕ → Site) (at : ℕ → ℕ) (top base key v : ℕ) → BodiesUnder site at top base → IsReachedAs at top base key v
    → BodiesUnder site at v key
bodies_below site at top base key v h r deeper n q = h deeper n (read_on at top base key v r deeper (body_word n) q)
