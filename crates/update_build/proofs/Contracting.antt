-- Words in which cells are contracted one after another.
use Rattle.std.proofs.Common.{ℕ, ◌+◌, ◌*◌, ◌^◌, ◌<◌, ◌≤◌, ◌≡◌, ◌≢◌, ◌⊎◌, ◌↔◌, zero, suc, refl, sym, ◌∙◌, ap, subst, inl, inr, arith, List, length}
use Rattle.std.proofs.Common.{slice_index_or, slice_set}
use Rattle.std.proofs.lemmas.Bool.{cases_lt}
use Rattle.std.proofs.lemmas.List.{get_or-set_other, get_or-set_same, get_or_read, length-set, set-get_or}
use Rattle.octant_code.proofs.Keys.{key-high, key-positive, key-suc, key-zero, octant-small, pow8-mono, same_level, same_parent}
use Rattle.octant_code.specs.Points.{ArePoints, site_at}
use Rattle.octant_code.specs.Space.{IsUnder, Site, key_of, octant_of}
use Rattle.bh_model.proofs.Equal.{same_or_not}
use Rattle.bh_model.proofs.MoreThan.{more_of_two}
use Rattle.tree_rule.proofs.Laws.{amid_same, body_reached, cell_reached, contracted, emptied, one_key_of_body, one_word, shared_more}
use Rattle.tree_rule.proofs.Laws.{ACell, CellsOutside, NoBody, OneBody, sharer, two_sharers, word_at_place, word_is}
use Rattle.tree_rule.specs.Flat.{ChangedAt, Child, ChildPlace, IsPlaceOf, IsShared, IsWordOf, StandsAmid, Top, TopPlace}
use Rattle.tree_rule.specs.Words.{Below, HasBody, HasCell, Here, IsReached, at_of, body_word, cell_word, child_place, key_place, lock_place}
use Rattle.tree_rule.specs.Naming.{NamesAs}
use Rattle.tree_rule.specs.declared.words.Named.{Named}
use Rattle.tree_rule.specs.declared.words.Named.TheVariants.{Nothing, Body, Cell}
use Rattle.update_build.specs.Contracting.{AreContracted, AreDone, AreShared, AreThinned, CellLeft, HaveFewerCells, InChild, IsChildKey, IsDoneAt, IsDoneIn}
use Rattle.update_build.specs.Contracting.{IsInCubeOf, IsLeft, IsOutside, ItsOwn, NoneLeft, OneLeft, TwoLeft, key_in_words}

-- ---- keys

-- a key is at least that of each cube around its own
pub below_grows : (upper key : ℕ) → IsInCubeOf upper key → upper ≤ key
below_grows upper _ (ItsOwn key e) = omega arith
below_grows upper _ (InChild parent k key h l e) = omega (arith, below_grows upper parent h)

-- a key in a cube is the cube's or lies in a child's cube
pub record IsBelowChild (upper key : ℕ) : Type 0 where
  pub octant : ℕ
  pub small : octant < 8
  pub below : IsInCubeOf (8 * upper + octant) key

below_split : (upper key : ℕ) → IsInCubeOf upper key → (key ≡ upper) ⊎ IsBelowChild upper key
below_split upper _ (ItsOwn key e) = inl e
below_split upper _ (InChild parent k key h l e) = elim (below_split upper parent h) [
  | inl f ↦ inr (record { octant = k; small = l; below = ItsOwn key (e ∙ ap (λ y. 8 * y + k) f) })
  | inr f ↦ inr (record { octant = f.octant; small = f.small; below = InChild parent k key f.below l e })
]

-- what bodies share in a child's cube they share in the cube
shared_up : (site : ℕ → Site) (B : ℕ → Type 0) (key k : ℕ) → 1 ≤ key → k < 8 → IsShared site B (8 * key + k) → IsShared site B key
shared_up site B key k some small f =
    let t = two_sharers f in
    up t.level t.shallow t.one t.other t.one_in t.other_in t.differ t.one_under t.other_under
  where
    up : (level : ℕ) → level < 21 → (x n : ℕ) → B x → B n → x ≢ n → 8 * key + k ≡ key_of (site x) level → 8 * key + k ≡ key_of (site n) level
        → IsShared site B key
    up zero low x n bx bn d e g = absurd (omega (arith, e, key-zero (site x)))
    up (suc level) low x n bx bn d e g = record {
      level = level;
      shallow = omega arith;
      sharers = more_of_two x n
          (bx, same_parent key (key_of (site x) level) k (octant_of (site x) level) small (octant-small (site x) level) (e ∙ key-suc (site x) level))
          (bn, same_parent key (key_of (site n) level) k (octant_of (site n) level) small (octant-small (site n) level) (g ∙ key-suc (site n) level)) d;
    }

-- two bodies of two children's cubes share the cube
two_share : (site : ℕ → Site) (B : ℕ → Type 0) (key i k x n : ℕ) → 1 ≤ key → i < 8 → k < 8 → B x → B n → x ≢ n → IsUnder (8 * key + i) (site x)
    → IsUnder (8 * key + k) (site n) → IsShared site B key
two_share site B key i k x n some p q bx bn d (zero, l, e) v = absurd (omega (arith, e, key-zero (site x)))
two_share site B key i k x n some p q bx bn d u (zero, l, e) = absurd (omega (arith, e, key-zero (site n)))
two_share site B key i k x n some p q bx bn d (suc a, l, e) (suc b, m, f) =
    let one : key ≡ key_of (site x) a =
    same_parent key (key_of (site x) a) i (octant_of (site x) a) p (octant-small (site x) a) (e ∙ key-suc (site x) a) in
    let other : key ≡ key_of (site n) b =
    same_parent key (key_of (site n) b) k (octant_of (site n) b) q (octant-small (site n) b) (f ∙ key-suc (site n) b) in
    let level : b ≡ a = same_level (site n) (site x) b a (sym other ∙ one) in
    record { level = a; shallow = omega arith; sharers = more_of_two x n (bx, one) (bn, other ∙ ap (key_of (site n)) level) d }

-- ---- what is read below a cell

-- it is the cell's own word, or read below a child
record IsReadInChild (at : ℕ → ℕ) (c v : ℕ) : Type 0 where
  octant : ℕ
  small : octant < 8
  read : IsReached at (at (child_place c octant)) v

under_cell : (at : ℕ → ℕ) (c v : ℕ) → IsReached at (cell_word c) v → (v ≡ cell_word c) ⊎ IsReadInChild at c v
under_cell at c _ (Here v e) = inl e
under_cell at c _ (Below d k v s l e) = elim (under_cell at c (cell_word d) s) [
  | inl f ↦ let same : d ≡ c = omega arith in inr (record { octant = k; small = l; read = Here v (e ∙ ap (λ y. at (child_place y k)) same) })
  | inr f ↦ inr (record { octant = f.octant; small = f.small; read = Below d k v f.read l e })
]

-- nothing else is read below a word that names no cell
alone_there : (at : ℕ → ℕ) (w v : ℕ) → ((c : ℕ) → w ≡ cell_word c → ⊥) → IsReached at w v → v ≡ w
alone_there at w _ off (Here v e) = e
alone_there at w _ off (Below c k v s l e) = absurd (off c (sym (alone_there at w (cell_word c) off s)))

-- a word that is read below another has a key of the other's cube
record HasKeyIn (at : ℕ → ℕ) (top base : ℕ) (P : ℕ → Type 0) (key v : ℕ) : Type 0 where
  deeper : ℕ
  word : IsWordOf at top base P deeper v
  below : IsInCubeOf key deeper

key_in : (site : ℕ → Site) (at : ℕ → ℕ) (top base : ℕ) (P B V : ℕ → Type 0) → StandsAmid site at top base P B V → (key w v : ℕ)
    → IsWordOf at top base P key w → IsReached at w v → HasKeyIn at top base P key v
key_in site at top base P B V h key w _ x (Here v e) =
    record { deeper = key; word = subst (λ (y : ℕ). IsWordOf at top base P key y) (sym e) x; below = ItsOwn key refl }
key_in site at top base P B V h key w _ x (Below c k v s l e) =
    let f = key_in site at top base P B V h key w (cell_word c) x s in
    let g = h.names_cell f.deeper c f.word in
    record {
      deeper = 8 * at (key_place c) + k;
      word = Child c k g.0 l refl e;
      below = InChild f.deeper k (8 * at (key_place c) + k) f.below l (ap (λ y. 8 * y + k) g.1);
    }

-- ---- cells that are done

pub fewer_none : (words : List ℕ) → HaveFewerCells words words
fewer_none words = record { len = refl; cells = λ c h. h; bodies = λ n. ((λ b. b), (λ b. b)); others = λ i d e. refl }

pub fewer_then : (a b c : List ℕ) → HaveFewerCells a b → HaveFewerCells b c → HaveFewerCells a c
fewer_then a b c f g = record {
  len = g.len ∙ f.len;
  cells = λ d h. f.cells d (g.cells d h);
  bodies = λ n. ((λ x. (f.bodies n).0 ((g.bodies n).0 x)), (λ x. (g.bodies n).1 ((f.bodies n).1 x)));
  others = λ i d e. g.others i d e ∙ f.others i d e;
}

-- keys stay
pub key_stays : (before after : List ℕ) → HaveFewerCells before after → (d : ℕ) → key_in_words after d ≡ key_in_words before d
key_stays before after f d = f.others (key_place d) (λ e. omega arith) (λ c k l e. omega arith)

-- what was shared is shared still
pub shared_on : (sites : List Site) (before after : List ℕ) (key : ℕ) → HaveFewerCells before after → AreShared sites before key → AreShared sites after key
shared_on sites before after key f s d h below =
    let same : key_in_words after d ≡ key_in_words before d = key_stays before after f d in
    subst (λ (y : ℕ). IsShared (site_at sites) (HasBody after) y) (sym same)
    (shared_more (λ n b. (f.bodies n).1 b) (s d (f.cells d h) (subst (λ (y : ℕ). IsInCubeOf key y) same below)))

-- a place outside stays
pub place_kept : (sites : List Site) (before after : List ℕ) (Done : ℕ → Type 0) → IsDoneIn sites before after Done → (key place : ℕ)
    → IsPlaceOf (at_of before) 0 1 (HasCell before) key place → IsOutside Done key → IsPlaceOf (at_of after) 0 1 (HasCell after) key place
place_kept sites before after Done done key place (TopPlace k e) off = TopPlace k e
place_kept sites before after Done done key place (ChildPlace d j p l k e) off =
    ChildPlace d j (done.stays d p (λ q f b. off q f (InChild (key_in_words before d) j key b l k))) l
    (k ∙ ap (λ y. 8 * y + j) (sym (key_stays before after done.fewer d))) e

-- one after another
pub done_then : (sites : List Site) (a b c : List ℕ) (P Q R : ℕ → Type 0) → IsDoneIn sites a b P → IsDoneIn sites b c Q → ((q : ℕ) → R q → P q ⊎ Q q)
    → ((key : ℕ) → IsOutside R key → IsOutside P key) → ((key : ℕ) → IsOutside R key → IsOutside Q key) → IsDoneIn sites a c R
done_then sites a b c P Q R f g one off_p off_q = record {
  thinned = g.thinned;
  fewer = fewer_then a b c f.fewer g.fewer;
  stays = λ d has off. g.stays d (f.stays d has (off_p (key_in_words a d) off))
      (subst (λ (y : ℕ). IsOutside Q y) (sym (key_stays a b f.fewer d)) (off_q (key_in_words a d) off));
  words = λ key place there off. g.words key place (place_kept sites a b P f key place there (off_p key off)) (off_q key off)
      ∙ f.words key place there (off_p key off);
  shared = λ q r. elim (one q r) [ inl p ↦ shared_on sites b c q g.fewer (f.shared q p) | inr p ↦ g.shared q p ];
}

-- the keys of cells are not 0
cell_positive : (sites : List Site) (words : List ℕ) → AreThinned sites words → (c : ℕ) → HasCell words c → 1 ≤ key_in_words words c
cell_positive sites words h c has =
    let t = sharer (h.stands.shared c has) in omega (arith, t.one_under, key-positive (site_at sites t.one) t.level)

pub place_positive : (sites : List Site) (words : List ℕ) (key place : ℕ) → AreThinned sites words
    → IsPlaceOf (at_of words) 0 1 (HasCell words) key place → 1 ≤ key
place_positive sites words key place h (TopPlace k e) = omega arith
place_positive sites words key place h (ChildPlace c j p l k e) = omega (arith, cell_positive sites words h c p)

-- no cell lies in a cube whose word names no cell
module _ (sites : List Site) (words : List ℕ) (key w : ℕ) (h : AreThinned sites words) (some : 1 ≤ key)
    (word : IsWordOf (at_of words) (at_of words 0) 1 (HasCell words) key w) (off : (c : ℕ) → w ≡ cell_word c → ⊥) where
  pub none_in_cube : (q : ℕ) → IsInCubeOf key q → (d : ℕ) → IsWordOf (at_of words) (at_of words 0) 1 (HasCell words) q (cell_word d) → ⊥
  none_in_cube _ (ItsOwn q e) d x =
      off d (one_word (site_at sites) (at_of words) (at_of words 0) 1 (HasCell words) (HasBody words) _ h.stands key w (cell_word d) word
      (subst (λ (y : ℕ). IsWordOf (at_of words) (at_of words 0) 1 (HasCell words) y (cell_word d)) e x))
  none_in_cube _ (InChild parent k q b l e) d (Top f g) = absurd (omega (arith, below_grows key parent b))
  none_in_cube _ (InChild parent k q b l e) d (Child c j p m f g) =
      let up : key_in_words words c ≡ parent = sym (same_parent parent (key_in_words words c) k j l m (sym e ∙ f)) in
      none_in_cube parent b c
      (subst (λ (y : ℕ). IsWordOf (at_of words) (at_of words 0) 1 (HasCell words) y (cell_word c)) up (h.stands.cell_named c p))

-- a word that names no cell is done
pub done_none : (sites : List Site) (words : List ℕ) (key place : ℕ) → AreThinned sites words → IsPlaceOf (at_of words) 0 1 (HasCell words) key place
    → ((c : ℕ) → at_of words place ≡ cell_word c → ⊥) → IsDoneAt sites words words key
done_none sites words key place h there off = record {
  thinned = h;
  fewer = fewer_none words;
  stays = λ d c b. c;
  words = λ q p t o. refl;
  shared = λ q e d c below.
      absurd (none_in_cube sites words key (at_of words place) h (place_positive sites words key place h there)
      (word_at_place (at_of words) 0 1 (HasCell words) key place there) off (key_in_words words d)
      (subst (λ (y : ℕ). IsInCubeOf y (key_in_words words d)) e below) d (h.stands.cell_named d c));
}

-- one child more
pub done_more : (sites : List Site) (before now next : List ℕ) (key k : ℕ) → AreDone sites before now key k → IsDoneAt sites now next (8 * key + k)
    → AreDone sites before next key (k + 1)
done_more sites before now next key k all one =
    done_then sites before now next (IsChildKey key k) (λ q. q ≡ 8 * key + k) (IsChildKey key (k + 1)) all one
    (λ q p. elim (cases_lt p.octant k) [
      | inl less ↦ inl (record { octant = p.octant; small = less; is = p.is })
      | inr last ↦ let l = p.small in let same : p.octant ≡ k = omega arith in inr (p.is ∙ ap (λ y. 8 * key + y) same)
    ])
    (λ x off q p. off q (record { octant = p.octant; small = omega (arith, p.small); is = p.is }))
    (λ x off q e. off q (record { octant = k; small = omega arith; is = e }))

-- ---- a cell's own word

-- the keys of cells are those of the levels of cells
pub cell_small : (sites : List Site) (words : List ℕ) → AreThinned sites words → (c : ℕ) → HasCell words c → key_in_words words c < 2 * 8 ^ 20
cell_small sites words h c has =
    let t = sharer (h.stands.shared c has) in
    omega (arith, t.one_under, key-high (site_at sites t.one) t.level, pow8-mono t.level 20 (omega (arith, t.shallow)))

module _ (sites : List Site) (words : List ℕ) (key place c : ℕ) (h : AreThinned sites words)
    (there : IsPlaceOf (at_of words) 0 1 (HasCell words) key place) (here : at_of words place ≡ cell_word c) where
  -- the cell has the key
  pub cell_is : HasCell words c × (key_in_words words c ≡ key)
  cell_is = h.stands.names_cell key c (subst (λ (y : ℕ). IsWordOf (at_of words) (at_of words 0) 1 (HasCell words) key y) here
      (word_at_place (at_of words) 0 1 (HasCell words) key place there))

  -- its key is that of a level of cells
  pub key_small : key < 2 * 8 ^ 20
  key_small = omega (arith, cell_is.1, cell_small sites words h c cell_is.0)

  -- the place of a child's word, by its numbers
  pub child_of : (k q p : ℕ) → k < 8 → q ≡ 8 * key + k → p ≡ child_place c k → IsPlaceOf (at_of words) 0 1 (HasCell words) q p
  child_of k q p small e f = ChildPlace c k cell_is.0 small (e ∙ ap (λ y. 8 * y + k) (sym cell_is.1)) f

-- a place of a word is in the list
pub place_inside : (sites : List Site) (words : List ℕ) (key place : ℕ) → AreThinned sites words
    → IsPlaceOf (at_of words) 0 1 (HasCell words) key place → place < length words
place_inside sites words key place h (TopPlace k e) = omega (arith, h.long)
place_inside sites words key place h (ChildPlace c j p l k e) = omega (arith, h.cells_held c p, h.long)

-- a word at a place fits
pub place_small : (sites : List Site) (words : List ℕ) (key place : ℕ) → ArePoints sites → AreThinned sites words
    → IsPlaceOf (at_of words) 0 1 (HasCell words) key place → at_of words place < 2 ^ 33
place_small sites words key place points h there =
    let x = word_at_place (at_of words) 0 1 (HasCell words) key place there in
    elim (word_is (at_of words place)) [
      | NoBody e ↦ omega arith
      | OneBody n e ↦
          let f = h.stands.names_body key n (subst (λ (y : ℕ). IsWordOf (at_of words) (at_of words 0) 1 (HasCell words) key y) e x) in
          omega (arith, e, h.bodies_in n f.0, points.few)
      | ACell c e ↦
          let f = h.stands.names_cell key c (subst (λ (y : ℕ). IsWordOf (at_of words) (at_of words 0) 1 (HasCell words) key y) e x) in
          omega (arith, e, h.cells_held c f.0, h.few)
    ]

-- while the children of a cell are contracted, the cell and its word stay
module _ (sites : List Site) (before now : List ℕ) (key place c count : ℕ) (h : AreThinned sites before)
    (there : IsPlaceOf (at_of before) 0 1 (HasCell before) key place) (here : at_of before place ≡ cell_word c)
    (done : AreDone sites before now key count) where
  own : HasCell before c × (key_in_words before c ≡ key)
  own = cell_is sites before key place c h there here

  some : 1 ≤ key
  some = place_positive sites before key place h there

  pub cell_stays : HasCell now c × (key_in_words now c ≡ key)
  cell_stays = (
    done.stays c own.0 (λ q p b. omega (arith, below_grows q (key_in_words before c) b, p.is, own.1, some)),
    key_stays before now done.fewer c ∙ own.1,
  )

  -- the place of a child's word
  pub child_there : (k : ℕ) → k < 8 → IsPlaceOf (at_of now) 0 1 (HasCell now) (8 * key + k) (child_place c k)
  child_there k small = ChildPlace c k cell_stays.0 small (ap (λ y. 8 * y + k) (sym cell_stays.1)) refl

  apart : IsOutside (IsChildKey key count) key
  apart q p b = omega (arith, below_grows q key b, p.is, some)

  pub place_stays : IsPlaceOf (at_of now) 0 1 (HasCell now) key place
  place_stays = place_kept sites before now (IsChildKey key count) done key place there apart

  pub word_stays : at_of now place ≡ cell_word c
  word_stays = done.words key place there apart ∙ here

-- ---- the word that a cell leaves is put in its place

in_child_in : (upper k key : ℕ) → k < 8 → IsInCubeOf (8 * upper + k) key → IsInCubeOf upper key
in_child_in upper k _ l (ItsOwn key e) = InChild upper k key (ItsOwn upper refl) l e
in_child_in upper k _ l (InChild parent j key b m e) = InChild parent j key (in_child_in upper k parent l b) m e

-- a place of a word is not one of other words
place_apart : (words : List ℕ) (key place i : ℕ) → IsPlaceOf (at_of words) 0 1 (HasCell words) key place → i ≢ 0
    → ((c k : ℕ) → k < 8 → i ≢ child_place c k) → i ≢ place
place_apart words key place i (TopPlace k e) off none = λ f. off (f ∙ e)
place_apart words key place i (ChildPlace c j p l k e) off none = λ f. none c j l (f ∙ e)

-- a place is that of one key
place_key : (words : List ℕ) (key other place : ℕ) → IsPlaceOf (at_of words) 0 1 (HasCell words) key place
    → IsPlaceOf (at_of words) 0 1 (HasCell words) other place → key ≡ other
place_key words key other place (TopPlace k e) (TopPlace l f) = k ∙ sym l
place_key words key other place (TopPlace k e) (ChildPlace d j p l m f) = absurd (omega arith)
place_key words key other place (ChildPlace c i o n k e) (TopPlace l f) = absurd (omega arith)
place_key words key other place (ChildPlace c i o n k e) (ChildPlace d j p l m f) =
    let cell : c ≡ d = omega arith in
    let octant : i ≡ j = omega arith in
    k ∙ ap (λ y. 8 * key_in_words words y + i) cell ∙ ap (λ y. 8 * key_in_words words d + y) octant ∙ sym m

module _ (sites : List Site) (mid after : List ℕ) (key place c w : ℕ) (h : AreThinned sites mid)
    (there : IsPlaceOf (at_of mid) 0 1 (HasCell mid) key place) (here : at_of mid place ≡ cell_word c)
    (all : (j : ℕ) → j < 8 → AreShared sites mid (8 * key + j)) (changed : ChangedAt (at_of mid) (at_of after) place w)
    (len : length after ≡ length mid) where
  abbrev pub V : ℕ → Type 0
  V n = n < length sites

  abbrev pub site : ℕ → Site
  site = site_at sites

  its : HasCell mid c × (key_in_words mid c ≡ key)
  its = cell_is sites mid key place c h there here

  -- a cell in the cube is the one or lies in a child's cube
  in_cube_case : (d : ℕ) → HasCell mid d → IsInCubeOf key (key_in_words mid d) → (d ≡ c) ⊎ IsBelowChild key (key_in_words mid d)
  in_cube_case d has below = elim (below_split key (key_in_words mid d) below) [
    | inl e ↦ inl (h.stands.keys_differ d c has its.0 (e ∙ sym its.1))
    | inr f ↦ inr f
  ]

  -- where what is read below the place is gone
  module _ (cut : StandsAmid site (at_of after) (at_of after 0) 1 (CellsOutside (at_of mid) (at_of mid place) (HasCell mid)) (HasBody mid) V) where
    cells_now : (d : ℕ) → CellsOutside (at_of mid) (at_of mid place) (HasCell mid) d ↔ HasCell after d
    cells_now d = cell_reached site (at_of after) (at_of after 0) 1 (CellsOutside (at_of mid) (at_of mid place) (HasCell mid)) (HasBody mid) cut d

    bodies_now : (n : ℕ) → HasBody mid n ↔ HasBody after n
    bodies_now n = body_reached site (at_of after) (at_of after 0) 1 (CellsOutside (at_of mid) (at_of mid place) (HasCell mid)) (HasBody mid) cut n

    fewer_now : HaveFewerCells mid after
    fewer_now = record {
      len = len;
      cells = λ d has. ((cells_now d).1 has).0;
      bodies = λ n. ((bodies_now n).1, (bodies_now n).0);
      others = λ i off none. changed.others i (place_apart mid key place i there off none);
    }

    thinned_now : AreThinned sites after
    thinned_now = record {
      cells = h.cells;
      few = h.few;
      long = len ∙ h.long;
      unlocked = record {
        second = fewer_now.others 1 (λ e. omega arith) (λ d k l e. omega arith) ∙ h.unlocked.second;
        third = fewer_now.others 2 (λ e. omega arith) (λ d k l e. omega arith) ∙ h.unlocked.third;
        locks = λ d l. fewer_now.others (lock_place d) (λ e. omega arith) (λ x k m e. omega arith) ∙ h.unlocked.locks d l;
      };
      cells_held = λ d has. h.cells_held d ((cells_now d).1 has).0;
      stands = amid_same site (at_of after) (at_of after 0) 1 (CellsOutside (at_of mid) (at_of mid place) (HasCell mid)) (HasCell after) (HasBody mid)
          (HasBody after) V V cells_now bodies_now (λ n v. v) cut;
      bodies_in = λ n b. h.bodies_in n ((bodies_now n).1 b);
    }

    -- a cell that is gone lay in the cube
    gone_in_cube : (d : ℕ) → IsReached (at_of mid) (at_of mid place) (cell_word d) → IsInCubeOf key (key_in_words mid d)
    gone_in_cube d r =
        let f = key_in site (at_of mid) (at_of mid 0) 1 (HasCell mid) (HasBody mid) V h.stands key (at_of mid place) (cell_word d)
        (word_at_place (at_of mid) 0 1 (HasCell mid) key place there) r in
        let g = h.stands.names_cell f.deeper d f.word in
        subst (λ (y : ℕ). IsInCubeOf key y) (sym g.1) f.below

    pub cut_done : IsDoneAt sites mid after key
    cut_done = record {
      thinned = thinned_now;
      fewer = fewer_now;
      stays = λ d has off. (cells_now d).0 (has, λ r. off key refl (gone_in_cube d r));
      words = λ q p t off. changed.others p (λ e. off key refl
          (ItsOwn q (place_key mid q key p t (subst (λ (y : ℕ). IsPlaceOf (at_of mid) 0 1 (HasCell mid) key y) (sym e) there))));
      shared = λ q e d has below.
          let o = (cells_now d).1 has in
          let same : key_in_words after d ≡ key_in_words mid d = key_stays mid after fewer_now d in
          elim (in_cube_case d o.0 (subst (λ (y : ℕ). IsInCubeOf y (key_in_words mid d)) e (subst (λ (y : ℕ). IsInCubeOf q y) same below))) [
            | inl e ↦ absurd (o.1 (Here (cell_word d) (ap cell_word e ∙ sym here)))
            | inr f ↦ shared_on sites mid after (8 * key + f.octant) fewer_now (all f.octant f.small) d has
                (subst (λ (y : ℕ). IsInCubeOf (8 * key + f.octant) y) (sym same) f.below)
          ];
    }

  -- where the cell is left
  pub cell_done : after ≡ mid → IsShared site (HasBody mid) key → IsDoneAt sites mid after key
  cell_done same own = subst (λ (z : List ℕ). IsDoneAt sites mid z key) (sym same) (record {
    thinned = h;
    fewer = fewer_none mid;
    stays = λ d has off. has;
    words = λ q p t off. refl;
    shared = λ q e d has below. elim (in_cube_case d has (subst (λ (y : ℕ). IsInCubeOf y (key_in_words mid d)) e below)) [
      | inl e ↦ subst (λ (y : ℕ). IsShared site (HasBody mid) y) (sym its.1 ∙ ap (key_in_words mid) (sym e)) own
      | inr f ↦ all f.octant f.small d has f.below
    ];
  })

  -- the word of a child
  child_word : (k v : ℕ) → k < 8 → at_of mid (child_place c k) ≡ v → IsWordOf (at_of mid) (at_of mid 0) 1 (HasCell mid) (8 * key + k) v
  child_word k v small e = Child c k its.0 small (ap (λ y. 8 * y + k) (sym its.1)) (sym e)

  some_key : 1 ≤ key
  some_key = place_positive sites mid key place h there

  none_below : ((k : ℕ) → k < 8 → at_of mid (child_place c k) ≡ 0) → (n : ℕ) → IsReached (at_of mid) (at_of mid place) (body_word n) → ⊥
  none_below zeros n r = elim (under_cell (at_of mid) c (body_word n) (subst (λ (y : ℕ). IsReached (at_of mid) y (body_word n)) here r)) [
    | inl e ↦ absurd (omega arith)
    | inr f ↦
        let zero_there = zeros f.octant f.small in
        absurd (omega (
          arith,
          zero_there,
          alone_there (at_of mid) (at_of mid (child_place c f.octant)) (body_word n)
              (λ d e. omega (arith, zero_there, e)) f.read,
        ))
  ]

  one_below : (k x : ℕ) → k < 8 → at_of mid (child_place c k) ≡ body_word x
      → ((j : ℕ) → j < 8 → j ≢ k → at_of mid (child_place c j) ≡ 0) → (n : ℕ) → IsReached (at_of mid) (at_of mid place) (body_word n) → n ≡ x
  one_below k x small named zeros n r =
      elim (under_cell (at_of mid) c (body_word n) (subst (λ (y : ℕ). IsReached (at_of mid) y (body_word n)) here r)) [
        | inl e ↦ absurd (omega arith)
        | inr f ↦ elim (same_or_not f.octant k) [
          | inl e ↦
              let word : at_of mid (child_place c f.octant) ≡ body_word x = ap (λ y. at_of mid (child_place c y)) e ∙ named in
              omega (arith, word, alone_there (at_of mid) (at_of mid (child_place c f.octant)) (body_word n) (λ d g. omega (arith, word, g)) f.read)
          | inr e ↦
              let zero_there = zeros f.octant f.small e in
              absurd (omega (
                arith,
                zero_there,
                alone_there (at_of mid) (at_of mid (child_place c f.octant)) (body_word n)
                    (λ d g. omega (arith, zero_there, g)) f.read,
              ))
        ]
      ]

  pub left_done : (w ≡ cell_word c → after ≡ mid) → IsLeft (λ k. at_of mid (child_place c k)) c w → IsDoneAt sites mid after key
  left_done kept (NoneLeft e zeros) =
      cut_done (emptied site (at_of mid) (at_of after) 0 1 (HasCell mid) (HasBody mid) V key place h.stands there (none_below zeros)
      (subst (λ (y : ℕ). ChangedAt (at_of mid) (at_of after) place y) e changed))
  left_done kept (OneLeft k x small e named zeros) =
      cut_done (contracted site (at_of mid) (at_of after) 0 1 (HasCell mid) (HasBody mid) V key place x h.stands there
      (subst (λ (y : ℕ). IsReached (at_of mid) y (body_word x)) (sym here)
      (Below c k (body_word x) (Here (cell_word c) refl) small (sym named)))
      (one_below k x small named zeros) (subst (λ (y : ℕ). ChangedAt (at_of mid) (at_of after) place y) e changed))
  left_done kept (CellLeft k d small e named) =
      let f = h.stands.names_cell (8 * key + k) d (child_word k (cell_word d) small named) in
      cell_done (kept e) (shared_up site (HasBody mid) key k some_key small
      (subst (λ (y : ℕ). IsShared site (HasBody mid) y) f.1 (all k small d f.0 (ItsOwn (key_in_words mid d) f.1))))
  left_done kept (TwoLeft i k x n less small e named other) =
      let wx = child_word i (body_word x) (omega arith) named in
      let wn = child_word k (body_word n) small other in
      let f = h.stands.names_body (8 * key + i) x wx in
      let g = h.stands.names_body (8 * key + k) n wn in
      let differ : x ≢ n = λ s. omega (
        arith,
        less,
        one_key_of_body site (at_of mid) (at_of mid 0) 1 (HasCell mid) (HasBody mid) V h.stands n
            (8 * key + i) (8 * key + k) (subst (λ (y : ℕ). IsWordOf (at_of mid) (at_of mid 0) 1 (HasCell mid) (8 * key + i) (body_word y)) s wx) wn,
      ) in
      cell_done (kept e) (two_share site (HasBody mid) key i k x n some_key (omega arith) small f.0 g.0 differ f.1 g.1)

-- after the children, the cell itself
pub done_cell : (sites : List Site) (before mid : List ℕ) (key place c w : ℕ) → AreThinned sites before
    → IsPlaceOf (at_of before) 0 1 (HasCell before) key place → at_of before place ≡ cell_word c → AreDone sites before mid key 8
    → IsLeft (λ k. at_of mid (child_place c k)) c w
    → IsDoneAt sites before (slice_set mid place w) key
done_cell sites before mid key place c w h there here done left =
    let after : List ℕ = slice_set mid place w in
    let there' = place_stays sites before mid key place c 8 h there here done in
    let here' : at_of mid place ≡ cell_word c = word_stays sites before mid key place c 8 h there here done in
    let low : place < length mid = place_inside sites mid key place done.thinned there' in
    let changed : ChangedAt (at_of mid) (at_of after) place w = record {
      now = get_or-set_same mid place w 0 low;
      others = λ i d. get_or-set_other mid place i w 0 d;
    } in
    let kept : w ≡ cell_word c → after ≡ mid = λ e. ap (slice_set mid place) (e ∙ sym here') ∙ set-get_or mid place 0 in
    let one : IsDoneAt sites mid after key = left_done sites mid after key place c w done.thinned there' here'
    (λ j l. done.shared (8 * key + j) (record { octant = j; small = l; is = refl })) changed (length-set mid place w) kept left in
    done_then sites before mid after (IsChildKey key 8) (λ q. q ≡ key) (λ q. q ≡ key) done one (λ q e. inr e)
    (λ x off q p b. off key refl (in_child_in key p.octant x p.small (subst (λ (y : ℕ). IsInCubeOf y x) p.is b)))
    (λ x off. off)

-- ---- the whole

-- each cell lies in the whole cube
in_whole : (sites : List Site) (words : List ℕ) → AreThinned sites words → (d : ℕ) → HasCell words d → IsInCubeOf 1 (key_in_words words d)
in_whole sites words h d has =
    let f = key_in (site_at sites) (at_of words) (at_of words 0) 1 (HasCell words) (HasBody words) (λ n. n < length sites) h.stands 1 (at_of words 0)
    (cell_word d) (Top refl refl) has in
    let g = h.stands.names_cell f.deeper d f.word in
    subst (λ (y : ℕ). IsInCubeOf 1 y) (sym g.1) f.below

pub all_done : (sites : List Site) (before after : List ℕ) → IsDoneAt sites before after 1 → AreContracted sites before after
all_done sites before after done =
    let s = done.thinned.stands in
    record {
      thinned = done.thinned;
      fewer = done.fewer;
      stands = record {
        keys_differ = s.keys_differ;
        cell_named = s.cell_named;
        names_cell = s.names_cell;
        body_named = s.body_named;
        names_body = s.names_body;
        shared = λ c has. done.shared 1 refl c has (in_whole sites after done.thinned c has);
      };
    }

-- ---- the loop over the children of a cell

pub data IsLeftSoFar (child : ℕ → ℕ) (k left : ℕ) : Type 0 where
  NoneYet : left ≡ 0 → ((j : ℕ) → j < k → child j ≡ 0) → IsLeftSoFar child k left
  OneYet : (i x : ℕ) → i < k → left ≡ body_word x → child i ≡ body_word x → ((j : ℕ) → j < k → j ≢ i → child j ≡ 0)
      → IsLeftSoFar child k left

pub left_nothing : (child : ℕ → ℕ) (k left : ℕ) → IsLeftSoFar child k left → child k ≡ 0 → IsLeftSoFar child (k + 1) left
left_nothing child k left (NoneYet e zeros) now = NoneYet e (λ j l. elim (cases_lt j k) [
  | inl less ↦ zeros j less
  | inr last ↦ let same : j ≡ k = omega arith in ap child same ∙ now
])
left_nothing child k left (OneYet i x small e named zeros) now = OneYet i x (omega arith) e named (λ j l d. elim (cases_lt j k) [
  | inl less ↦ zeros j less d
  | inr last ↦ let same : j ≡ k = omega arith in ap child same ∙ now
])

pub left_body : (child : ℕ → ℕ) (k left w x : ℕ) → IsLeftSoFar child k left → left ≡ 0 → w ≡ child k → w ≡ body_word x
    → IsLeftSoFar child (k + 1) w
left_body child k left w x (NoneYet e zeros) none now named =
    OneYet k x (omega arith) named (sym now ∙ named) (λ j l d. zeros j (omega (arith, d)))
left_body child k left w x (OneYet i y small e is zeros) none now named = absurd (omega arith)

pub left_two : (child : ℕ → ℕ) (c k left w n result : ℕ) → k < 8 → IsLeftSoFar child k left → left ≢ 0 → w ≡ child k → w ≡ body_word n
    → result ≡ cell_word c → IsLeft child c result
left_two child c k left w n result small (NoneYet e zeros) more now named r = absurd (more e)
left_two child c k left w n result small (OneYet i x l e is zeros) more now named r = TwoLeft i k x n l small r is (sym now ∙ named)

pub left_all : (child : ℕ → ℕ) (c k left : ℕ) → k ≡ 8 → IsLeftSoFar child k left → IsLeft child c left
left_all child c k left all (NoneYet e zeros) = NoneLeft e (λ j l. zeros j (omega arith))
left_all child c k left all (OneYet i x small e named zeros) = OneLeft i x (omega arith) e named (λ j l d. zeros j (omega arith) d)

pub left_small : (child : ℕ → ℕ) (k left : ℕ) → k ≤ 8 → ((j : ℕ) → j < 8 → child j < 2 ^ 33) → IsLeftSoFar child k left → left < 2 ^ 33
left_small child k left l small (NoneYet e z) = omega arith
left_small child k left l small (OneYet i x m e n z) = omega (arith, small i (omega arith), e, n)

-- ---- words that are read

-- a word at a place
pub place_read : (sites : List Site) (words : List ℕ) (key place x : ℕ) → AreThinned sites words → IsPlaceOf (at_of words) 0 1 (HasCell words) key place
    → x ≡ slice_index_or words place x → x ≡ at_of words place
place_read sites words key place x h there read = get_or_read words place x (place_inside sites words key place h there) read 0

-- what is named is no cell, so the word is no cell's
pub names_no_cell : (w : ℕ) (named : Named) → NamesAs w named → ((c : ℕ) → named ≡ Cell c → ⊥) → (c : ℕ) → w ≡ cell_word c → ⊥
names_no_cell w Nothing is off c e = omega arith
names_no_cell w (Body n) is off c e = omega arith
names_no_cell w (Cell d) is off c e = off d refl
