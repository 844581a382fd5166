-- Words into which cells and bodies are put.
use Rattle.std.proofs.Common.{ℕ, zero, suc, ◌+◌, ◌*◌, ◌<◌, ◌≤◌, ◌≡◌, ◌≢◌, ◌⊎◌, ◌↔◌, refl, sym, ◌∙◌, ap, subst, inl, inr, arith, List, [], ◌∷◌}
use Rattle.std.proofs.Common.{length, slice_set}
use Rattle.std.proofs.lemmas.Bool.{cases_lt}
use Rattle.octant_code.specs.Points.{site_at}
use Rattle.octant_code.specs.Space.{IsUnder, Site, key_of}
use Rattle.bh_model.specs.Bodies.{IsIn, NoneTwice}
use Rattle.octree.proofs.Locks.{unlocked_at_place}
use Rattle.octree.proofs.Words.{at_set_other, at_set_same, set_length}
use Rattle.octree.specs.ByKeys.{IsInSome}
use Rattle.octree.specs.Chain.{IsCellAdded}
use Rattle.octree.specs.Growing.{IsCellPut, IsFreePlace, IsGrowing, IsMade, cells_in}
use Rattle.octree.specs.Stored.{Stored, word_count}
use Rattle.tree_rule.proofs.Laws.{Nothing, Only, amid_moved, amid_same, body_reached, few_below, graft, lone_stands, place_kept, sharer, stands_body}
use Rattle.tree_rule.specs.Flat.{ChildPlace, Either, IsPlaceOf, IsShared, StandsAmid, TopPlace}
use Rattle.tree_rule.specs.Locks.{AreUnlocked}
use Rattle.tree_rule.specs.Words.{HasBody, at_of, body_word, cell_word, child_place, key_place}

-- ---- how many cells there may be

-- a number that tells a body which shares the cube of a cell and the cube's level
record IsSpotOf (site : ℕ → Site) (at : ℕ → ℕ) (V : ℕ → Type 0) (count x : ℕ) : Type 0 where
  cell : ℕ
  below : cell < count
  one : ℕ
  inside : V one
  level : ℕ
  low : level < 21
  key : at (key_place cell) ≡ key_of (site one) level
  is : x ≡ 21 * one + level

-- such a number for each of the first cells
record HasSpots (site : ℕ → Site) (at : ℕ → ℕ) (V : ℕ → Type 0) (count : ℕ) : Type 0 where
  spots : List ℕ
  many : length spots ≡ count
  once : NoneTwice spots
  each : (x : ℕ) → IsIn spots x → IsSpotOf site at V count x

spots_of : (site : ℕ → Site) (at : ℕ → ℕ) (top base used : ℕ) (B V : ℕ → Type 0) → StandsAmid site at top base (λ c. c < used) B V
    → (count : ℕ) → count ≤ used → HasSpots site at V count
spots_of site at top base used B V h zero l = record { spots = []; many = refl; once = tt; each = λ x i. absurd i }
spots_of site at top base used B V h (suc count) l =
    let rest = spots_of site at top base used B V h count (omega arith) in
    let f = sharer (h.shared count (omega arith)) in
    let x : ℕ = 21 * f.one + f.level in
    record {
      spots = x ∷ rest.spots;
      many = ap suc rest.many;
      once = (
        (λ i.
            let s = rest.each x i in
            let same : s.one ≡ f.one = omega (arith, s.is, s.low, f.shallow) in
            let level : s.level ≡ f.level = omega (arith, s.is, s.low, f.shallow) in
            let keys : at (key_place s.cell) ≡ at (key_place count) =
            s.key ∙ ap (λ n. key_of (site n) s.level) same ∙ ap (key_of (site f.one)) level ∙ sym f.one_under in
            let here : s.cell ≡ count = h.keys_differ s.cell count (omega (arith, s.below)) (omega arith) keys in
            omega (arith, s.below)),
        rest.once,
      );
      each = λ y i. elim i [
        | inl e ↦ record {
          cell = count;
          below = omega arith;
          one = f.one;
          inside = f.one_in;
          level = f.level;
          low = f.shallow;
          key = f.one_under;
          is = e;
        }
        | inr j ↦
            let s = rest.each y j in
            record {
              cell = s.cell;
              below = omega (arith, s.below);
              one = s.one;
              inside = s.inside;
              level = s.level;
              low = s.low;
              key = s.key;
              is = s.is;
            }
      ];
    }

-- no more than one of each level for each body
few_cells : (site : ℕ → Site) (at : ℕ → ℕ) (top base used : ℕ) (B V : ℕ → Type 0) → StandsAmid site at top base (λ c. c < used) B V
    → ((n : ℕ) → V n → n < 65536) → used ≤ 1376256
few_cells site at top base used B V h small =
    let s = spots_of site at top base used B V h used (omega arith) in
    omega (arith, s.many, few_below 1376256 s.spots s.once (λ x i. let t = s.each x i in omega (arith, t.is, t.low, small t.one t.inside)))

-- ---- a word is put

-- words that stand for bodies with all cells that they have are such words
growing_of : (sites : List Site) (parts : List Stored) (words : List ℕ) (P B : ℕ → Type 0) → length words ≡ word_count (cells_in words)
    → ((n : ℕ) → IsInSome parts n → n < 65536) → AreUnlocked words (cells_in words)
    → StandsAmid (site_at sites) (at_of words) (at_of words 0) 1 P B (IsInSome parts) → ((c : ℕ) → P c ↔ IsMade words c)
    → IsGrowing sites parts words × ((n : ℕ) → B n ↔ HasBody words n)
growing_of sites parts words P B long small unlocked h cells =
    let bodies : (n : ℕ) → B n ↔ HasBody words n = body_reached (site_at sites) (at_of words) (at_of words 0) 1 P B h in
    let stands : StandsAmid (site_at sites) (at_of words) (at_of words 0) 1 (IsMade words) (HasBody words) (IsInSome parts) =
    amid_same (site_at sites) (at_of words) (at_of words 0) 1 P (IsMade words) B (HasBody words) (IsInSome parts) (IsInSome parts) cells bodies
    (λ n v. v) h in (
      record {
        long = long;
        few = few_cells (site_at sites) (at_of words) (at_of words 0) 1 (cells_in words) (HasBody words) (IsInSome parts) stands small;
        small = small;
        unlocked = unlocked;
        stands = stands;
      },
      bodies,
    )

-- the place of a key is in the list
pub place_inside : (words : List ℕ) (key place : ℕ) → length words ≡ word_count (cells_in words) → IsPlaceOf (at_of words) 0 1 (IsMade words) key place
    → place < length words
place_inside words key place long (TopPlace k e) = omega arith
place_inside words key place long (ChildPlace c j p l k e) = omega arith

-- a cell with no body is put below an empty word
pub cell_put : (sites : List Site) (parts : List Stored) (before mid : List ℕ) (key place cell word : ℕ) → IsGrowing sites parts before
    → IsFreePlace before key place → IsShared (site_at sites) (IsInSome parts) key → cell ≡ cells_in before → IsCellAdded before mid cell key
    → word ≡ cell_word cell → IsCellPut sites parts before (slice_set mid place word) key place cell
cell_put sites parts before mid key place cell word g free share number added is =
    let site : ℕ → Site = site_at sites in
    let V : ℕ → Type 0 = IsInSome parts in
    let after : List ℕ = slice_set mid place word in
    let low : place < length before = place_inside before key place g.long free.of_key in
    let kept : (i : ℕ) → i < length before → at_of mid i ≡ at_of before i = λ i l. added.kept i (omega (arith, g.long, number)) in
    let same : at_of mid place ≡ 0 = kept place low ∙ free.empty in
    let other : (i : ℕ) → i ≢ place → at_of after i ≡ at_of mid i = λ i d. at_set_other mid place i word d in
    let long : length after ≡ word_count (cell + 1) = set_length mid place word ∙ added.len in
    let keyed : at_of after (key_place cell) ≡ key = other (key_place cell) (λ e. omega (arith, g.long, number)) ∙ added.keyed in
    let blank : (k : ℕ) → k < 8 → at_of after (child_place cell k) ≡ 0 =
    λ k l. other (child_place cell k) (λ e. omega (arith, g.long, number)) ∙ added.empty k l in
    let before_mid : StandsAmid site (at_of mid) (at_of mid 0) 1 (IsMade before) (HasBody before) V =
    subst (λ (y : ℕ). StandsAmid site (at_of mid) y 1 (IsMade before) (HasBody before) V) (sym (kept 0 (omega (arith, g.long))))
    (amid_moved site (at_of before) (at_of mid) (at_of before 0) 1 (IsMade before) (HasBody before) V (λ c p. kept (key_place c) (omega (arith, g.long)))
    (λ c k p l. kept (child_place c k) (omega (arith, g.long))) g.stands) in
    let there : IsPlaceOf (at_of mid) 0 1 (IsMade before) key place =
    place_kept (at_of before) (at_of mid) 0 1 (IsMade before) (IsMade before) key place (λ c p. p) (λ c p. kept (key_place c) (omega (arith, g.long)))
    free.of_key in
    let both = graft site (at_of mid) (at_of after) 0 1 (IsMade before) (Only cell) (HasBody before) Nothing V V key place word (record {
      before = before_mid;
      below = subst (λ (y : ℕ). StandsAmid site (at_of after) y key (Only cell) Nothing V) (sym is)
          (lone_stands site (at_of after) cell key V blank keyed share);
      there = there;
      no_cell = λ c e. omega (arith, same);
      body_joins = λ n e. absurd (omega (arith, same));
      changed = record { now = at_set_same mid place place word refl (omega (arith, low, added.len, g.long, number)); others = other };
    }) in
    let all : StandsAmid site (at_of after) (at_of after 0) 1 (Either (IsMade before) (Only cell)) (Either (HasBody before) Nothing) V =
    amid_same site (at_of after) (at_of after 0) 1 (Either (IsMade before) (Only cell)) (Either (IsMade before) (Only cell)) (Either (HasBody before) Nothing)
    (Either (HasBody before) Nothing) (Either V V) V (λ c. ((λ p. p), (λ p. p))) (λ n. ((λ b. b), (λ b. b))) (λ n v. elim v [ inl x ↦ x | inr x ↦ x ]) both in
    let cells : cells_in after ≡ cell + 1 = omega (arith, long) in
    let done = growing_of sites parts after (Either (IsMade before) (Only cell)) (Either (HasBody before) Nothing) (omega (arith, long)) g.small
    (subst (AreUnlocked after) (sym cells) (unlocked_at_place mid (cell + 1) (at_of mid) 1 (IsMade before) key place word added.unlocked there)) all
    (λ c. (
      (λ p. elim p [ inl x ↦ omega (arith, cells, number) | inr x ↦ omega (arith, cells) ]),
      (λ p. elim (cases_lt c cell) [ inl x ↦ inl (omega (arith, number)) | inr x ↦ inr (omega (arith, cells, p)) ]),
    )) in
    record {
      grown = done.0;
      number = number;
      more = omega (arith, long, g.long, number);
      kept = λ i l d. other i d ∙ kept i l;
      keyed = keyed;
      blank = blank;
      bodies = λ n. ((λ b. elim ((done.1 n).1 b) [ inl x ↦ x | inr x ↦ absurd x ]), (λ b. (done.1 n).0 (inl b)));
    }

-- the word of a body is put in place of an empty one
pub body_put : (sites : List Site) (parts : List Stored) (before : List ℕ) (key place n word : ℕ) → IsGrowing sites parts before
    → IsFreePlace before key place → IsUnder key (site_at sites n) → word ≡ body_word n
    → IsGrowing sites parts (slice_set before place word) × ((m : ℕ) → (HasBody before m ⊎ (m ≡ n)) ↔ HasBody (slice_set before place word) m)
body_put sites parts before key place n word g free under is =
    let site : ℕ → Site = site_at sites in
    let V : ℕ → Type 0 = IsInSome parts in
    let after : List ℕ = slice_set before place word in
    let low : place < length before = place_inside before key place g.long free.of_key in
    let long : length after ≡ length before = set_length before place word in
    let both = graft site (at_of before) (at_of after) 0 1 (IsMade before) Nothing (HasBody before) (Only n) V V key place word (record {
      before = g.stands;
      below = subst (λ (y : ℕ). StandsAmid site (at_of after) y key Nothing (Only n) V) (sym is) (stands_body site (at_of after) key n V under);
      there = free.of_key;
      no_cell = λ c e. omega (arith, free.empty);
      body_joins = λ m e. absurd (omega (arith, free.empty));
      changed = record { now = at_set_same before place place word refl low; others = λ i d. at_set_other before place i word d };
    }) in
    let all : StandsAmid site (at_of after) (at_of after 0) 1 (IsMade before) (Either (HasBody before) (Only n)) V =
    amid_same site (at_of after) (at_of after 0) 1 (Either (IsMade before) Nothing) (IsMade before) (Either (HasBody before) (Only n))
    (Either (HasBody before) (Only n)) (Either V V) V (λ c. ((λ p. elim p [ inl x ↦ x | inr x ↦ absurd x ]), (λ p. inl p))) (λ m. ((λ b. b), (λ b. b)))
    (λ m v. elim v [ inl x ↦ x | inr x ↦ x ]) both in
    let cells : cells_in after ≡ cells_in before = omega (arith, long) in
    growing_of sites parts after (IsMade before) (Either (HasBody before) (Only n)) (omega (arith, long, g.long)) g.small
    (subst (AreUnlocked after) (sym cells)
    (unlocked_at_place before (cells_in before) (at_of before) 1 (IsMade before) key place word g.unlocked free.of_key)) all
    (λ c. ((λ p. omega (arith, cells)), (λ p. omega (arith, cells, p))))
