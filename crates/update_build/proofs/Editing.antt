-- Edits of words that are read by others at the same time.
use Rattle.std.proofs.Common.{ℕ, ◌+◌, ◌*◌, ◌^◌, ◌<◌, ◌≤◌, ◌≡◌, ◌⊎◌, suc, refl, sym, ◌∙◌, ap, subst, inl, inr, arith, List, [], ◌∷◌, ◌++◌}
use Rattle.std.proofs.Common.{get_or, length, slice_set}
use Rattle.std.proofs.Math.Nat.{pow-suc, pow-zero}
use Rattle.std.proofs.lemmas.Bool.{cases_lt}
use Rattle.std.proofs.lemmas.List.{get_or-set_other, get_or-set_same, set-get_or}
use Rattle.octant_code.proofs.Keys.{same_parent}
use Rattle.octant_code.specs.Space.{Site}
use Rattle.tree_rule.specs.Flat.{IsPlaceOf}
use Rattle.tree_rule.specs.Words.{HasCell, at_of, cell_word, child_place}
use Rattle.update_build.specs.declared.edits.Edit.{Edit}
use Rattle.update_build.specs.Contracting.{AreDone, AreDoneBelow, AreSeen, AreThinned, CellLeft, Further, InChild, IsBelowBy, IsChildKey, IsDoneAt, IsDoneIn}
use Rattle.update_build.specs.Contracting.{IsInCubeOf, IsLeft, IsOutside, ItsOwn, LeaveAt, NoFurther, NoneLeft, OneLeft, TwoLeft, applied}
use Rattle.update_build.proofs.Contracting.{below_grows, cell_small, child_there, done_cell, done_more, done_none, fewer_none, place_inside}
use Rattle.update_build.proofs.Contracting.{place_kept, place_positive, place_stays, shared_on}

-- ---- cubes

pub in_cube_in : (a b x : ℕ) → IsInCubeOf a b → IsInCubeOf b x → IsInCubeOf a x
in_cube_in a b _ f (ItsOwn x e) = subst (λ (y : ℕ). IsInCubeOf a y) (sym e) f
in_cube_in a b _ f (InChild parent k x g l e) = InChild parent k x (in_cube_in a b parent f g) l e

-- of two cubes around one, one lies in the other
pub nested : (a b x : ℕ) → IsInCubeOf a x → IsInCubeOf b x → IsInCubeOf a b ⊎ IsInCubeOf b a
nested a b _ (ItsOwn x e) g = inr (subst (λ (y : ℕ). IsInCubeOf b y) e g)
nested a b _ (InChild p k x f l e) (ItsOwn _ g) = inl (InChild p k b f l (sym g ∙ e))
nested a b _ (InChild p k x f l e) (InChild q j _ g m d) =
    let same : p ≡ q = same_parent p q k j l m (sym e ∙ d) in
    nested a b p f (subst (λ (y : ℕ). IsInCubeOf b y) (sym same) g)

-- a child's cube is in no other child's
one_child : (key j k : ℕ) → 1 ≤ key → j < 8 → k < 8 → IsInCubeOf (8 * key + j) (8 * key + k) → j ≡ k
one_child key j k some p q (ItsOwn _ e) = omega (arith, e)
one_child key j k some p q (InChild up i _ f l e) =
    let same : key ≡ up = same_parent key up k i q l e in
    absurd (omega (arith, some, same, below_grows (8 * key + j) up f))

pub children_apart : (key j k x : ℕ) → 1 ≤ key → j < 8 → k < 8 → IsInCubeOf (8 * key + j) x → IsInCubeOf (8 * key + k) x → j ≡ k
children_apart key j k x some p q f g = elim (nested (8 * key + j) (8 * key + k) x f g) [
  | inl h ↦ one_child key j k some p q h
  | inr h ↦ sym (one_child key k j some q p h)
]

-- ---- what was read

pub seen_below : (before now : List ℕ) (key q : ℕ) → IsInCubeOf key q → AreSeen before now key → AreSeen before now q
seen_below before now key q f seen x place there inside = seen x place there (in_cube_in key q x f inside)

pub seen_then : (sites : List Site) (before a b : List ℕ) (key : ℕ) (Done : ℕ → Type 0) → AreSeen before a key → IsDoneIn sites a b Done
    → ((x : ℕ) → IsInCubeOf key x → IsOutside Done x) → AreSeen before b key
seen_then sites before a b key Done seen done off x place there inside =
    let s = seen x place there inside in
    (place_kept sites a b Done done x place s.0 (off x inside), done.words x place s.0 (off x inside) ∙ s.1)

-- ---- edits

pub applied_more : (words : List ℕ) (edits : List Edit) (e : Edit) → applied words (edits ++ (e ∷ [])) ≡ slice_set (applied words edits) e.place e.word
applied_more words [] e = refl
applied_more words (d ∷ ds) e = applied_more (slice_set words d.place d.word) ds e

pub left_as : (f g : ℕ → ℕ) (c w : ℕ) → ((k : ℕ) → k < 8 → f k ≡ g k) → IsLeft f c w → IsLeft g c w
left_as f g c w same (NoneLeft e z) = NoneLeft e (λ k l. sym (same k l) ∙ z k l)
left_as f g c w same (OneLeft k x l e n z) = OneLeft k x l e (sym (same k l) ∙ n) (λ j m d. sym (same j m) ∙ z j m d)
left_as f g c w same (CellLeft k d l e n) = CellLeft k d l e (sym (same k l) ∙ n)
left_as f g c w same (TwoLeft i k x n l m e p q) = TwoLeft i k x n l m e (sym (same i (omega arith)) ∙ p) (sym (same k m) ∙ q)

-- ---- the reader

-- where nothing is done: no further down
pub leave_deep : (sites : List Site) (before : List ℕ) (depth key place : ℕ) (edits : List Edit) (w : ℕ) → depth ≡ 0
    → IsPlaceOf (at_of before) 0 1 (HasCell before) key place → w ≡ at_of before place → LeaveAt sites before depth key place edits edits w
leave_deep sites before depth key place edits w deep there is now thinned seen below = (
  record {
    thinned = thinned;
    fewer = fewer_none (applied now edits);
    stays = λ d has off. has;
    words = λ q p t off. refl;
    shared = λ q e. below q (NoFurther depth key q deep e);
  },
  (seen key place there (ItsOwn key refl)).1 ∙ sym is,
)

-- or no cell
pub leave_none : (sites : List Site) (before : List ℕ) (depth key place : ℕ) (edits : List Edit) (w : ℕ)
    → IsPlaceOf (at_of before) 0 1 (HasCell before) key place → w ≡ at_of before place → ((c : ℕ) → w ≡ cell_word c → ⊥)
    → LeaveAt sites before depth key place edits edits w
leave_none sites before depth key place edits w there is off now thinned seen below =
    let s = seen key place there (ItsOwn key refl) in (
      done_none sites (applied now edits) key place thinned s.0 (λ c e. off c (is ∙ sym s.1 ∙ e)),
      s.1 ∙ sym is,
    )

-- the children of a cell, so far
abbrev pub AreLeft : List Site → List ℕ → ℕ → ℕ → ℕ → ℕ → List Edit → List Edit → List ℕ → Type 0
AreLeft sites before depth key c count old new children =
    (now : List ℕ) → AreThinned sites (applied now old) → AreSeen before (applied now old) key → AreDoneBelow sites (applied now old) depth key
    → AreDone sites (applied now old) (applied now new) key count
    × ((j : ℕ) → j < count → at_of (applied now new) (child_place c j) ≡ get_or children j 0)

pub none_left : (sites : List Site) (before : List ℕ) (depth key c : ℕ) (edits : List Edit) (children : List ℕ)
    → AreLeft sites before depth key c 0 edits edits children
none_left sites before depth key c edits children now thinned seen below = (
  record {
    thinned = thinned;
    fewer = fewer_none (applied now edits);
    stays = λ d has off. has;
    words = λ q p t off. refl;
    shared = λ q p. let l = p.small in absurd (omega arith);
  },
  (λ j l. absurd (omega arith)),
)

-- the words of the children fit
pub small_more : (children : List ℕ) (k w : ℕ) → k < length children → w < 2 ^ 33 → ((j : ℕ) → j < k → get_or children j 0 < 2 ^ 33)
    → (j : ℕ) → j < k + 1 → get_or (slice_set children k w) j 0 < 2 ^ 33
small_more children k w room fits small j l = elim (cases_lt j k) [
  | inl less ↦ subst (λ (y : ℕ). y < 2 ^ 33) (sym (get_or-set_other children k j w 0 (omega arith))) (small j less)
  | inr last ↦
      let same : j ≡ k = omega arith in
      subst (λ (y : ℕ). get_or (slice_set children k w) y 0 < 2 ^ 33) (sym same)
      (subst (λ (y : ℕ). y < 2 ^ 33) (sym (get_or-set_same children k w 0 room)) fits)
]

module _ (sites : List Site) (before : List ℕ) (depth key place c : ℕ) (h : AreThinned sites before)
    (there : IsPlaceOf (at_of before) 0 1 (HasCell before) key place) (here : at_of before place ≡ cell_word c) where
  some : 1 ≤ key
  some = place_positive sites before key place h there

  pub more_left : (k d : ℕ) (old mid new : List Edit) (children : List ℕ) (w : ℕ) → k < 8 → k < length children → depth ≡ d + 1
      → AreLeft sites before depth key c k old mid children → LeaveAt sites before d (8 * key + k) (child_place c k) mid new w
      → AreLeft sites before depth key c (k + 1) old new (slice_set children k w)
  more_left k d old mid new children w small room deeper all one now thinned seen below =
      let a = all now thinned seen below in
      let s = seen key place there (ItsOwn key refl) in
      let next = one now a.0.thinned
      (seen_then sites before (applied now old) (applied now mid) (8 * key + k) (IsChildKey key k)
      (seen_below before (applied now old) key (8 * key + k) (InChild key k (8 * key + k) (ItsOwn key refl) small refl) seen) a.0
      (λ x inside q p b.
      let other = children_apart key p.octant k x some (omega (arith, p.small)) small (subst (λ (y : ℕ). IsInCubeOf y x) p.is b) inside in
      let l = p.small in absurd (omega (arith, other))))
      (λ q g. shared_on sites (applied now old) (applied now mid) q a.0.fewer (below q (Further depth key q k d small deeper g))) in (
        done_more sites (applied now old) (applied now mid) (applied now new) key k a.0 next.0,
        (λ j l. elim (cases_lt j k) [
          | inl less ↦
              next.0.words (8 * key + j) (child_place c j)
              (child_there sites (applied now old) (applied now mid) key place c k thinned s.0 (s.1 ∙ here) a.0 j (omega arith))
              (λ q e b. absurd (omega (arith, one_child key k j some small (omega arith) (subst (λ (y : ℕ). IsInCubeOf y (8 * key + j)) e b))))
              ∙ a.1 j less ∙ sym (get_or-set_other children k j w 0 (omega arith))
          | inr last ↦
              let same : j ≡ k = omega arith in
              ap (λ y. at_of (applied now new) (child_place c y)) same ∙ next.1 ∙ sym (get_or-set_same children k w 0 room)
              ∙ ap (λ y. get_or (slice_set children k w) y 0) (sym same)
        ]),
      )

  cell_word_set : (old mid : List Edit) (children : List ℕ) (w : ℕ) (now : List ℕ) → AreThinned sites (applied now old)
      → AreSeen before (applied now old) key → AreDone sites (applied now old) (applied now mid) key 8
      → ((j : ℕ) → j < 8 → at_of (applied now mid) (child_place c j) ≡ get_or children j 0) → IsLeft (λ k. get_or children k 0) c w
      → IsDoneAt sites (applied now old) (slice_set (applied now mid) place w) key × (at_of (slice_set (applied now mid) place w) place ≡ w)
  cell_word_set old mid children w now thinned seen done words left =
      let s = seen key place there (ItsOwn key refl) in
      let stays = place_stays sites (applied now old) (applied now mid) key place c 8 thinned s.0 (s.1 ∙ here) done in (
        done_cell sites (applied now old) (applied now mid) key place c w thinned s.0 (s.1 ∙ here) done
            (left_as (λ k. get_or children k 0) (λ k. at_of (applied now mid) (child_place c k)) c w (λ k l. sym (words k l)) left),
        get_or-set_same (applied now mid) place w 0 (place_inside sites (applied now mid) key place done.thinned stays),
      )

  -- the word is put in its place
  pub leave_cell : (old mid : List Edit) (children : List ℕ) (w : ℕ) (e : Edit) → AreLeft sites before depth key c 8 old mid children
      → IsLeft (λ k. get_or children k 0) c w → e.place ≡ place → e.word ≡ w → LeaveAt sites before depth key place old (mid ++ (e ∷ [])) w
  leave_cell old mid children w e all left at_place is now thinned seen below =
      let a = all now thinned seen below in
      let words : applied now (mid ++ (e ∷ [])) ≡ slice_set (applied now mid) place w =
      applied_more now mid e ∙ ap (λ y. slice_set (applied now mid) y e.word) at_place ∙ ap (slice_set (applied now mid) place) is in
      subst (λ (z : List ℕ). IsDoneAt sites (applied now old) z key × (at_of z place ≡ w)) (sym words)
      (cell_word_set old mid children w now thinned seen a.0 a.1 left)

  -- or is there
  pub leave_same : (old mid : List Edit) (children : List ℕ) (w : ℕ) → AreLeft sites before depth key c 8 old mid children
      → IsLeft (λ k. get_or children k 0) c w → w ≡ cell_word c → LeaveAt sites before depth key place old mid w
  leave_same old mid children w all left is now thinned seen below =
      let a = all now thinned seen below in
      let s = seen key place there (ItsOwn key refl) in
      let stays : at_of (applied now mid) place ≡ cell_word c =
      word_stays_now (applied now old) (applied now mid) thinned s.0 (s.1 ∙ here) a.0 in
      let same : slice_set (applied now mid) place w ≡ applied now mid =
      ap (slice_set (applied now mid) place) (is ∙ sym stays) ∙ set-get_or (applied now mid) place 0 in
      subst (λ (z : List ℕ). IsDoneAt sites (applied now old) z key × (at_of z place ≡ w)) same
      (cell_word_set old mid children w now thinned seen a.0 a.1 left)
    where
      word_stays_now : (x y : List ℕ) → AreThinned sites x → IsPlaceOf (at_of x) 0 1 (HasCell x) key place → at_of x place ≡ cell_word c
          → AreDone sites x y key 8 → at_of y place ≡ cell_word c
      word_stays_now x y t p i done =
          done.words key place p (λ q r b. let f = r.is in omega (arith, below_grows q key b, f, some)) ∙ i

-- ---- the whole

-- a key so many levels below another is of so deep a level
pub below_low : (level depth key q : ℕ) → 8 ^ level ≤ key → IsBelowBy depth key q → 8 ^ (level + depth) ≤ q
below_low level _ _ _ low (NoFurther depth key q e f) =
    let same : level ≡ level + depth = omega arith in
    subst (λ (y : ℕ). 8 ^ y ≤ q) same (omega (arith, low, f))
below_low level _ _ _ low (Further depth key q k d small deeper g) =
    let same : suc level + d ≡ level + depth = omega arith in
    subst (λ (y : ℕ). 8 ^ y ≤ q) same (below_low (suc level) d (8 * key + k) q (omega (arith, pow-suc 8 level, low)) g)

-- no cells stand below the last level
pub none_deep : (sites : List Site) (words : List ℕ) (key : ℕ) → AreThinned sites words → 1 ≤ key → AreDoneBelow sites words 21 key
none_deep sites words key h some q deep d has inside =
    absurd (omega (arith, below_low 0 21 key q (omega (arith, some, pow-zero 8)) deep, below_grows q _ inside, cell_small sites words h d has))

-- what the walk from the whole cube on leaves
pub whole_left : (sites : List Site) (words after : List ℕ) (depth w : ℕ) (old edits : List Edit) → AreThinned sites words
    → AreDoneBelow sites words depth 1 → old ≡ [] → after ≡ applied words edits → LeaveAt sites words depth 1 0 old edits w
    → IsDoneAt sites words after 1
whole_left sites words after depth w old edits h below none is left =
    let now : words ≡ applied words old = sym (ap (applied words) none) in
    let done = (left words (subst (AreThinned sites) now h) (subst (λ (z : List ℕ). AreSeen words z 1) now (λ q place there inside. (there, refl)))
    (subst (λ (z : List ℕ). AreDoneBelow sites z depth 1) now below)).0 in
    subst (λ (z : List ℕ). IsDoneAt sites z after 1) (sym now) (subst (λ (z : List ℕ). IsDoneAt sites (applied words old) z 1) (sym is) done)
