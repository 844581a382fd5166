-- Octrees whose cells are numbered by keys: those above the keys first, and then those below each key in turn.
use Rattle.std.specs.Prelude.{ℕ, ◌<◌, ◌≡◌, ◌≢◌, ◌↔◌, All, Any, List, Some, length, map, slice_get, slice_index}
use Rattle.octant_code.specs.Points.{site_at}
use Rattle.octant_code.specs.Prefixes.{AreInTreeOrder, IsPrefix, IsProperPrefix}
use Rattle.octant_code.specs.Space.{IsUnder, Site}
use Rattle.bh_model.specs.Bodies.{HasMoreThan, leaf_size}
use Rattle.tree_rule.specs.Words.{HasBody, at_of, key_place}
use Rattle.octree.specs.Spot.{IsReachable}
use Rattle.octree.specs.Stored.{IsCanonical, Stored, root_word}

-- the key of a cell
abbrev pub key_of_cell : Stored → ℕ → ℕ
key_of_cell o c = at_of o.words (key_place c)

-- a cell stands above one of the keys: its cube holds that key's, and isn't it
abbrev pub IsAboveSome : Stored → List ℕ → ℕ → Type 0
IsAboveSome o keys c = (i : ℕ) × (i < length keys) × IsProperPrefix (key_of_cell o c) (slice_index keys i)

-- The octree stands by keys that are given in tree order, none a prefix of another: each cell that can be reached and is above one of them has a
-- lower number than each that is above none, and each at or below an earlier key a lower one than each at or below a later key.
pub record StandsByKeys (keys : List ℕ) (o : Stored) : Type 0 where
  pub above_first : (c d : ℕ) → IsReachable o c → IsReachable o d → IsAboveSome o keys c → (IsAboveSome o keys d → ⊥) → c < d
  pub in_turn : (i j c d : ℕ) → i < j → j < length keys → IsReachable o c → IsReachable o d → IsPrefix (slice_index keys i) (key_of_cell o c)
      → IsPrefix (slice_index keys j) (key_of_cell o d) → c < d

-- a body of one of the octrees
abbrev pub IsInSome : List Stored → ℕ → Type 0
IsInSome parts n = (i : ℕ) × (o : Stored) × (i < length parts) × (slice_get parts i ≡ Some o) × HasBody o.words n

-- Octrees that may be put together at the sites of a list: each is canonical and has a body, their base keys stand in tree order, none in
-- another's cube, and above each base key more bodies lie under each key than a leaf holds.
pub record AreParts (sites : List Site) (parts : List Stored) : Type 0 where
  pub canonical : All (IsCanonical sites) parts
  pub some : All (λ o. root_word o ≢ 0) parts
  pub order : AreInTreeOrder (map (λ o. o.base) parts)
  pub shared : (key : ℕ) → Any (λ o. IsProperPrefix key o.base) parts → HasMoreThan leaf_size (λ n. IsInSome parts n × IsUnder key (site_at sites n))

-- An octree of the whole cube that is put together of others: the canonical one of all their bodies, whose cells stand by their base keys.
pub record IsAssembled (sites : List Site) (parts : List Stored) (o : Stored) : Type 0 where
  pub base : o.base ≡ 1
  pub canonical : IsCanonical sites o
  pub bodies : (n : ℕ) → HasBody o.words n ↔ IsInSome parts n
  pub by_keys : StandsByKeys (map (λ p. p.base) parts) o
