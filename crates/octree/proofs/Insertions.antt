-- What an insertion leaves.
use Rattle.std.proofs.Common.{ℕ, ◌+◌, ◌*◌, ◌<◌, ◌≤◌, ◌≡◌, ◌≢◌, ◌⊎◌, ◌↔◌, refl, sym, ◌∙◌, ap, subst, inl, inr, arith, List, length, slice_set}
use Rattle.octant_code.proofs.Apart.{level_shallow}
use Rattle.octant_code.proofs.Keys.{level_of_key, pow8-mono, same_level}
use Rattle.octant_code.specs.Points.{ArePoints, site_at}
use Rattle.octant_code.specs.Space.{IsUnder, Site, key_of}
use Rattle.octree.proofs.Locks.{unlocked_at_place}
use Rattle.octree.proofs.Words.{at_set_other, at_set_same, set_length}
use Rattle.octree.specs.Chain.{ArePair, IsOneOf, IsTaken}
use Rattle.octree.specs.Stored.{IsCanonical, IsInserted, IsStored, StandsWell, Stored, word_count}
use Rattle.tree_rule.proofs.Laws.{Nothing, Only, bodies_of_stands, body_reached, cell_reached, graft, key_apart, sound_of_stands, stands_body, stands_moved}
use Rattle.tree_rule.proofs.Laws.{stands_of_sound, stands_same, word_at_place}
use Rattle.tree_rule.specs.Flat.{ChildPlace, Either, IsPlaceOf, IsWordOf, StandsFor, TopPlace}
use Rattle.tree_rule.specs.Locks.{AreUnlocked}
use Rattle.tree_rule.specs.Words.{HasBody, HasCell, at_of, body_word, cell_word, child_place, key_place}

-- ---- before

-- what is known of an octree when a body is to be inserted
pub record CanInsert (sites : List Site) (o : Stored) (n : ℕ) : Type 0 where
  pub stored : IsStored o
  pub rule : ArePoints sites
  pub n_in : n < length sites
  pub under : IsUnder o.base (site_at sites n)
  pub canonical : IsCanonical sites o
  pub fresh : HasBody o.words n → ⊥

-- what an insertion may rest on, where `before` is the octree and `o` are its fields
pub can_insert : (sites : List Site) (before o : Stored) (n : ℕ) → o ≡ before → IsStored o → ArePoints sites → n < length sites
    → IsUnder before.base (site_at sites n)
    → IsCanonical sites before → (HasBody before.words n → ⊥) → CanInsert sites o n
can_insert sites before o n e stored rule n_in under canonical fresh = record {
  stored = stored;
  rule = rule;
  n_in = n_in;
  under = subst (λ (y : Stored). IsUnder y.base (site_at sites n)) (sym e) under;
  canonical = subst (λ (y : Stored). IsCanonical sites y) (sym e) canonical;
  fresh = λ b. fresh (subst (λ (y : Stored). HasBody y.words n) e b);
}

-- the key of an octree's cube is not 0
pub base_positive : (o : Stored) → IsStored o → 1 ≤ o.base
base_positive o h = omega (arith, h.base_low, pow8-mono 0 o.level (omega arith))

-- a canonical octree has words that stand for its bodies
pub stands_of : (sites : List Site) (o : Stored) → IsStored o → IsCanonical sites o → StandsWell sites o.words o.base
stands_of sites o h canon = stands_of_sound (site_at sites) (at_of o.words) (at_of o.words 0) o.base (base_positive o h) h.sound canon.under

module _ (sites : List Site) (o : Stored) (n : ℕ) (h : CanInsert sites o n) where
  -- its cube holds the point
  base_now : o.base ≡ key_of (site_at sites n) o.level
  base_now =
      let l : h.under.0 ≡ o.level = level_of_key (site_at sites n) o.base o.level h.under.0 h.stored.base_low h.stored.base_high h.under.2 in
      h.under.2 ∙ ap (key_of (site_at sites n)) l

  -- its words stand for its bodies, below that cube
  pub stands_now : StandsWell sites o.words (key_of (site_at sites n) o.level)
  stands_now = subst (λ (y : ℕ). StandsWell sites o.words y) base_now (stands_of sites o h.stored h.canonical)

-- the place below a root of a key whose cube, of a level, holds the point
abbrev pub IsPlaceIn : List Site → Stored → ℕ → ℕ → ℕ → ℕ → Type 0
IsPlaceIn sites o n base level place = IsPlaceOf (at_of o.words) 0 base (HasCell o.words) (key_of (site_at sites n) level) place

-- the words of an octree with others behind them
pub record IsAppended (o : Stored) (next : List ℕ) (to : ℕ) : Type 0 where
  pub len : length next ≡ word_count to
  pub kept : (i : ℕ) → i < word_count o.used → at_of next i ≡ at_of o.words i
  pub unlocked : AreUnlocked next to
  pub more : o.used ≤ to
  pub few : to ≤ o.used + 21
  pub fits : to ≤ o.held

-- ---- after

-- the octree after an insertion
pub record IsDone (sites : List Site) (n : ℕ) (before after : Stored) : Type 0 where
  pub stored : IsStored after
  pub canonical : IsCanonical sites after
  pub inserted : IsInserted n before after

-- an octree with other words and another count of used cells
abbrev pub with_words : Stored → List ℕ → ℕ → Stored
with_words o words used = record { words = words; base = o.base; level = o.level; used = used; held = o.held }

-- What a word is to publish: cells `Q` that were appended, and bodies `M`, those that the word at the place names and `n`.
record IsPart (sites : List Site) (o : Stored) (next : List ℕ) (Q M : ℕ → Type 0) (n place level to v : ℕ) : Type 0 where
  there : IsPlaceIn sites o n (key_of (site_at sites n) o.level) level place
  inside : place < length o.words
  appended : IsAppended o next to
  stands : StandsFor (site_at sites) (at_of next) v (key_of (site_at sites n) level) Q M
  cells_new : (c : ℕ) → Q c → (o.used ≤ c) × (c < to)
  no_cell : (c : ℕ) → at_of o.words place ≡ cell_word c → ⊥
  body_joins : (m : ℕ) → at_of o.words place ≡ body_word m → M m
  only : (m : ℕ) → M m → HasBody o.words m ⊎ (m ≡ n)
  joins : M n

module _ (sites : List Site) (o : Stored) (next : List ℕ) (Q M : ℕ → Type 0) (n place level to v : ℕ) (h : CanInsert sites o n)
    (part : IsPart sites o next Q M n place level to v) where
  abbrev site : ℕ → Site
  site = site_at sites

  abbrev key : ℕ
  key = key_of (site_at sites n) level

  -- the place is below those of cells that are not used
  place_used : place < word_count o.used
  place_used = omega (arith, part.inside, h.stored.long)

  -- it is the same place among the longer words
  place_moved : (k : ℕ) → IsPlaceOf (at_of o.words) 0 o.base (HasCell o.words) k place → IsPlaceOf (at_of next) 0 o.base (HasCell o.words) k place
  place_moved _ (TopPlace k e) = TopPlace k e
  place_moved _ (ChildPlace c j p l k e) =
      ChildPlace c j p l (k ∙ ap (λ y. 8 * y + j) (sym (part.appended.kept (key_place c) (omega (arith, h.stored.cells_used c p))))) e

  -- it lies below the octree's cube
  below_base : IsPlaceIn sites o n o.base level place
  below_base = subst (λ (y : ℕ). IsPlaceIn sites o n y level place) (sym (base_now sites o n h)) part.there

  -- the words after the insertion
  abbrev after : List ℕ
  after = slice_set next place v

  other : (i : ℕ) → i ≢ place → at_of after i ≡ at_of next i
  other i d = at_set_other next place i v d

  kept : (i : ℕ) → i < word_count o.used → at_of next i ≡ at_of o.words i
  kept = part.appended.kept

  -- the longer words stand for what the words stood for
  longer : StandsFor site (at_of next) (at_of next 0) o.base (HasCell o.words) (HasBody o.words)
  longer =
      subst (λ (y : ℕ). StandsFor site (at_of next) y o.base (HasCell o.words) (HasBody o.words)) (sym (kept 0 (omega arith)))
      (stands_moved site (at_of o.words) (at_of next) (at_of o.words 0) o.base (HasCell o.words) (HasBody o.words)
      (λ c p. kept (key_place c) (omega (arith, h.stored.cells_used c p))) (λ c j p l. kept (child_place c j) (omega (arith, h.stored.cells_used c p)))
      (stands_of sites o h.stored h.canonical))

  abbrev Cells : ℕ → Type 0
  Cells = Either (HasCell o.words) Q

  abbrev Bodies : ℕ → Type 0
  Bodies = Either (HasBody o.words) M

  -- and the words after the insertion for this and the part
  both : StandsFor site (at_of after) (at_of after 0) o.base Cells Bodies
  both =
      let same : at_of next place ≡ at_of o.words place = kept place place_used in
      let inside : place < length next = omega (arith, place_used, part.appended.len, part.appended.more) in
      graft site (at_of next) (at_of after) 0 o.base (HasCell o.words) Q (HasBody o.words) M (HasBody o.words) M key
      place v (record {
        before = longer;
        below = stands_moved site (at_of next) (at_of after) v key Q M
            (λ c p. let new = part.cells_new c p in other (key_place c) (λ e. omega (arith, new.0, place_used)))
            (λ c j p l. let new = part.cells_new c p in other (child_place c j) (λ e. omega (arith, new.0, place_used))) part.stands;
        there = place_moved key below_base;
        no_cell = λ c e. part.no_cell c (sym same ∙ e);
        body_joins = λ m e. part.body_joins m (sym same ∙ e);
        changed = record { now = at_set_same next place place v refl inside; others = other };
      })

  cells_now : (c : ℕ) → Cells c ↔ HasCell after c
  cells_now = cell_reached site (at_of after) (at_of after 0) o.base Cells Bodies both

  bodies_now : (m : ℕ) → Bodies m ↔ HasBody after m
  bodies_now = body_reached site (at_of after) (at_of after 0) o.base Cells Bodies both

  stands_after : StandsWell sites after o.base
  stands_after = stands_same site (at_of after) (at_of after 0) o.base Cells (HasCell after) Bodies
      (HasBody after) cells_now bodies_now both

  -- its bodies are those that the octree had, and the new one
  body_after : (m : ℕ) → HasBody after m → HasBody o.words m ⊎ (m ≡ n)
  body_after m b = elim ((bodies_now m).1 b) [ inl had ↦ inl had | inr joined ↦ part.only m joined ]

  -- the octree after the insertion
  done : IsDone sites n o (with_words o after to)
  done = record {
    stored = record {
      few = h.stored.few;
      long = set_length next place v ∙ part.appended.len;
      used_held = part.appended.fits;
      shallow = h.stored.shallow;
      base_low = h.stored.base_low;
      base_high = h.stored.base_high;
      sound = sound_of_stands site (at_of after) (at_of after 0) o.base (HasCell after) (HasBody after) stands_after;
      unlocked = unlocked_at_place next to (at_of o.words) o.base (HasCell o.words) key place v part.appended.unlocked below_base;
      cells_used = λ c p. elim ((cells_now c).1 p) [
        | inl had ↦ omega (arith, h.stored.cells_used c had, part.appended.more)
        | inr new ↦ (part.cells_new c new).1
      ];
      bodies_small = λ m b. elim (body_after m b) [ inl had ↦ h.stored.bodies_small m had | inr e ↦ omega (arith, e, h.n_in, h.rule.few) ];
    };
    canonical = record {
      under = bodies_of_stands site (at_of after) (at_of after 0) o.base (HasCell after) (HasBody after) stands_after;
      bodies_in = λ m b. elim (body_after m b) [ inl had ↦ h.canonical.bodies_in m had | inr e ↦ omega (arith, e, h.n_in) ];
    };
    inserted = record {
      bodies = λ m. (body_after m, (λ b. (bodies_now m).0 (elim b [ inl had ↦ inl had | inr e ↦ inr (subst M (sym e) part.joins) ])));
      cells_stay = λ c p. (cells_now c).0 (inl p);
      keys_stay = λ c p.
          other (key_place c) (key_apart (at_of o.words) 0 o.base (HasCell o.words) key place c (omega arith) below_base)
          ∙ kept (key_place c) (omega (arith, h.stored.cells_used c p));
      base_stays = refl;
      held_stays = refl;
      used_more = part.appended.more;
      used_few = part.appended.few;
    };
  }

-- where the word is empty, the body takes its place
pub empty_case : (sites : List Site) (o : Stored) (n place level v : ℕ) → CanInsert sites o n
    → IsPlaceIn sites o n (key_of (site_at sites n) o.level) level place
    → place < length o.words → level ≤ 21 → at_of o.words place ≡ 0 → v ≡ body_word n → IsDone sites n o (with_words o (slice_set o.words place v) o.used)
empty_case sites o n place level v h there inside shallow empty is =
    done sites o o.words Nothing (Only n) n place level o.used v h (record {
      there = there;
      inside = inside;
      appended = record {
        len = h.stored.long;
        kept = λ i l. refl;
        unlocked = h.stored.unlocked;
        more = omega arith;
        few = omega arith;
        fits = h.stored.used_held;
      };
      stands = subst (λ (y : ℕ). StandsFor (site_at sites) (at_of o.words) y (key_of (site_at sites n) level) Nothing (Only n)) (sym is)
          (stands_body (site_at sites) (at_of o.words) (key_of (site_at sites n) level) n (Only n) (level, shallow, refl));
      cells_new = λ c p. absurd p;
      no_cell = λ c e. omega (arith, empty);
      body_joins = λ m e. absurd (omega (arith, empty));
      only = λ m e. inr e;
      joins = refl;
    })

-- the body that the word at a place names is one of the octree's, and its point lies in the place's cube
body_there : (sites : List Site) (o : Stored) (n place level x : ℕ) → CanInsert sites o n → IsPlaceIn sites o n (key_of (site_at sites n) o.level) level place
    → at_of o.words place ≡ body_word x → HasBody o.words x × IsUnder (key_of (site_at sites n) level) (site_at sites x)
body_there sites o n place level x h there body =
    let base : ℕ = key_of (site_at sites n) o.level in
    let key : ℕ = key_of (site_at sites n) level in
    (stands_now sites o n h).names_body key x
    (subst (λ (y : ℕ). IsWordOf (at_of o.words) (at_of o.words 0) base (HasCell o.words) key y) body
    (word_at_place (at_of o.words) 0 base (HasCell o.words) key place there))

-- where the word names a body, that is another one of the cube
pub body_case : (sites : List Site) (o : Stored) (n place level key x : ℕ) → CanInsert sites o n
    → IsPlaceIn sites o n (key_of (site_at sites n) o.level) level place
    → at_of o.words place ≡ body_word x → level ≤ 21 → key ≡ key_of (site_at sites n) level → ArePair sites x n key level
body_case sites o n place level key x h there body shallow is_key =
    let f = body_there sites o n place level x h there body in
    let l : f.1.0 ≡ level = same_level (site_at sites x) (site_at sites n) f.1.0 level (sym f.1.2) in
    let x_in : x < length sites = h.canonical.bodies_in x f.0 in
    let differ : x ≢ n = λ e. h.fresh (subst (λ (y : ℕ). HasBody o.words y) e f.0) in
    let together : key_of (site_at sites x) level ≡ key_of (site_at sites n) level = sym (f.1.2 ∙ ap (key_of (site_at sites x)) l) in
    record {
      shallow = omega (arith, level_shallow sites x n level h.rule x_in h.n_in differ shallow together);
      x_in = x_in;
      n_in = h.n_in;
      differ = differ;
      x_under = is_key ∙ sym together;
      n_under = is_key;
    }

-- and the cells that part the two take its place
pub parted_case : (sites : List Site) (o : Stored) (next : List ℕ) (n place level x to v : ℕ) → CanInsert sites o n
    → IsPlaceIn sites o n (key_of (site_at sites n) o.level) level place
    → place < length o.words → at_of o.words place ≡ body_word x → IsAppended o next to
    → StandsFor (site_at sites) (at_of next) (cell_word o.used) (key_of (site_at sites n) level) (IsTaken o.used to) (IsOneOf x n) → v ≡ cell_word o.used
    → IsDone sites n o (with_words o (slice_set next place v) to)
parted_case sites o next n place level x to v h there inside body appended sub is =
    let had = (body_there sites o n place level x h there body).0 in
    done sites o next (IsTaken o.used to) (IsOneOf x n) n place level to v h (record {
      there = there;
      inside = inside;
      appended = appended;
      stands = subst (λ (y : ℕ). StandsFor (site_at sites) (at_of next) y (key_of (site_at sites n) level) (IsTaken o.used to) (IsOneOf x n)) (sym is) sub;
      cells_new = λ c p. p;
      no_cell = λ c e. omega (arith, body);
      body_joins = λ m e. inl (omega (arith, body));
      only = λ m b. elim b [ inl e ↦ inl (subst (λ (y : ℕ). HasBody o.words y) (sym e) had) | inr e ↦ inr e ];
      joins = inr refl;
    })
