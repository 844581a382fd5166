-- Words into which the cells of octrees are put, each cell below a word that is read already.
use Rattle.std.specs.Prelude.{ℕ, ◌+◌, ◌<◌, ◌≤◌, ◌≡◌, ◌≢◌, ◌⊎◌, ◌↔◌, List, Some, length, map, slice_get, slice_index}
use Rattle.octant_code.specs.Points.{site_at}
use Rattle.octant_code.specs.Prefixes.{IsPrefix, IsProperPrefix}
use Rattle.octant_code.specs.Space.{Site}
use Rattle.octant_code.specs.declared.limits.TheConstants.{MOST_BODIES}
use Rattle.tree_rule.specs.declared.words.TheConstants.{CELL_WORDS, MOST_CELLS}
use Rattle.tree_rule.specs.Flat.{IsPlaceOf, StandsAmid}
use Rattle.tree_rule.specs.Locks.{AreUnlocked}
use Rattle.tree_rule.specs.Sound.{IsReachedAs}
use Rattle.tree_rule.specs.Words.{HasBody, IsReached, at_of, body_word, child_place, key_place}
use Rattle.octree.specs.ByKeys.{IsInSome}
use Rattle.octree.specs.Stored.{IsCanonical, Stored, cell_count_of, root_word, word_count}

-- how many cells have words in the list
abbrev pub cells_in : List ℕ → ℕ
cells_in words = cell_count_of (length words)

-- a cell has words in the list
abbrev pub IsMade : List ℕ → ℕ → Type 0
IsMade words c = c < cells_in words

-- Words of the whole cube, below each of whose cells lie more bodies of the parts than a leaf holds; each cell can be reached.
pub record IsGrowing (sites : List Site) (parts : List Stored) (words : List ℕ) : Type 0 where
  pub long : length words ≡ word_count (cells_in words)
  pub few : cells_in words ≤ MOST_CELLS
  pub small : (n : ℕ) → IsInSome parts n → n < MOST_BODIES
  pub unlocked : AreUnlocked words (cells_in words)
  pub stands : StandsAmid (site_at sites) (at_of words) (at_of words 0) 1 (IsMade words) (HasBody words) (IsInSome parts)

-- the word of a key stands at a place, and is empty
pub record IsFreePlace (words : List ℕ) (key place : ℕ) : Type 0 where
  pub of_key : IsPlaceOf (at_of words) 0 1 (IsMade words) key place
  pub empty : at_of words place ≡ 0

-- The words after a cell with no body was put below an empty word.
pub record IsCellPut (sites : List Site) (parts : List Stored) (before after : List ℕ) (key place cell : ℕ) : Type 0 where
  pub grown : IsGrowing sites parts after
  pub number : cell ≡ cells_in before
  pub more : length after ≡ length before + CELL_WORDS
  pub kept : (i : ℕ) → i < length before → i ≢ place → at_of after i ≡ at_of before i
  pub keyed : at_of after (key_place cell) ≡ key
  pub blank : (k : ℕ) → k < 8 → at_of after (child_place cell k) ≡ 0
  pub bodies : (n : ℕ) → HasBody after n ↔ HasBody before n

-- A word of a canonical octree, read with its key, whose bodies are those of the parts.
pub record IsSource (sites : List Site) (parts : List Stored) (o : Stored) (key word : ℕ) : Type 0 where
  pub canonical : IsCanonical sites o
  pub witnesses : (n : ℕ) → HasBody o.words n → IsInSome parts n
  pub read : IsReachedAs (at_of o.words) (root_word o) o.base key word

-- The words after what stands below a word of an octree was copied to an empty word: the new cells lie in the cube of its key.
pub record IsCopied (sites : List Site) (parts : List Stored) (o : Stored) (key word : ℕ) (before after : List ℕ) (place : ℕ) : Type 0 where
  pub grown : IsGrowing sites parts after
  pub more : length before ≤ length after
  pub kept : (i : ℕ) → i < length before → i ≢ place → at_of after i ≡ at_of before i
  pub keyed : (c : ℕ) → cells_in before ≤ c → IsMade after c → IsPrefix key (at_of after (key_place c))
  pub bodies : (n : ℕ) → HasBody after n ↔ (HasBody before n ⊎ IsReached (at_of o.words) word (body_word n))

-- The words after the cell of a key whose word stands at a place was made, if it was not there.
pub record IsCellThere (sites : List Site) (parts : List Stored) (before after : List ℕ) (key cell : ℕ) : Type 0 where
  pub grown : IsGrowing sites parts after
  pub bare : (n : ℕ) → HasBody after n → ⊥
  pub more : length before ≤ length after
  pub kept : (c : ℕ) → IsMade before c → at_of after (key_place c) ≡ at_of before (key_place c)
  pub new : (c : ℕ) → cells_in before ≤ c → IsMade after c → at_of after (key_place c) ≡ key
  pub made : IsMade after cell
  pub keyed : at_of after (key_place cell) ≡ key

-- The words after the cells above a key were made: the word of the key stands at a place.
pub record IsWayMade (sites : List Site) (parts : List Stored) (before after : List ℕ) (key place : ℕ) : Type 0 where
  pub grown : IsGrowing sites parts after
  pub bare : (n : ℕ) → HasBody after n → ⊥
  pub more : length before ≤ length after
  pub kept : (c : ℕ) → IsMade before c → at_of after (key_place c) ≡ at_of before (key_place c)
  pub keyed : (c : ℕ) → cells_in before ≤ c → IsMade after c → IsProperPrefix (at_of after (key_place c)) key
  pub of_key : IsPlaceOf (at_of after) 0 1 (IsMade after) key place

-- the base keys of the parts
abbrev pub bases : List Stored → List ℕ
bases parts = map (λ p. p.base) parts

-- a key is above the base key of one of the parts
abbrev pub IsAboveBase : List Stored → ℕ → Type 0
IsAboveBase parts key = (j : ℕ) × (j < length (bases parts)) × IsProperPrefix key (slice_index (bases parts) j)

-- a body of one of the first parts
abbrev pub IsInFirst : List Stored → ℕ → ℕ → Type 0
IsInFirst parts count n = (i : ℕ) × (o : Stored) × (i < count) × (slice_get parts i ≡ Some o) × HasBody o.words n

-- Places for the first parts: the cells above their base keys are made, and no others.
pub record ArePlaced (sites : List Site) (parts : List Stored) (words places : List ℕ) (count : ℕ) : Type 0 where
  pub grown : IsGrowing sites parts words
  pub bare : (n : ℕ) → HasBody words n → ⊥
  pub above : (c : ℕ) → IsMade words c → IsAboveBase parts (at_of words (key_place c))
  pub many : length places ≡ count
  pub of_keys : (j : ℕ) → j < count → IsPlaceOf (at_of words) 0 1 (IsMade words) (slice_index (bases parts) j) (slice_index places j)

-- The first parts are copied to their places. The cells below a number are above base keys, and behind them come those of each part in turn.
pub record AreFilled (sites : List Site) (parts : List Stored) (words places : List ℕ) (tops count : ℕ) : Type 0 where
  pub grown : IsGrowing sites parts words
  pub some : tops ≤ cells_in words
  pub above : (c : ℕ) → c < tops → IsAboveBase parts (at_of words (key_place c))
  pub below : (c : ℕ) → tops ≤ c → IsMade words c → (j : ℕ) × (j < count) × IsPrefix (slice_index (bases parts) j) (at_of words (key_place c))
  pub in_turn : (i j c d : ℕ) → i < j → j < length (bases parts) → IsMade words c → IsMade words d
      → IsPrefix (slice_index (bases parts) i) (at_of words (key_place c)) → IsPrefix (slice_index (bases parts) j) (at_of words (key_place d)) → c < d
  pub of_keys : (j : ℕ) → j < length (bases parts) → IsPlaceOf (at_of words) 0 1 (IsMade words) (slice_index (bases parts) j) (slice_index places j)
  pub free : (j : ℕ) → count ≤ j → j < length (bases parts) → at_of words (slice_index places j) ≡ 0
  pub bodies : (n : ℕ) → HasBody words n ↔ IsInFirst parts count n
