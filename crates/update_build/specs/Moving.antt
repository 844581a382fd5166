-- The bodies that leave their cells, where their words stand, and what the words are once these are empty.
use Rattle.std.specs.Prelude.{ℕ, ◌<◌, ◌≡◌, ◌≤◌, ◌↔◌, Bool, true, false, Option, None, Some, List, length}
use Rattle.octant_code.specs.Points.{site_at}
use Rattle.octant_code.specs.Space.{Site}
use Rattle.bh_model.specs.Bodies.{numbers}
use Rattle.bh_model.specs.Movers.{keeps_leaf}
use Rattle.bh_model.specs.Trees.{octree}
use Rattle.tree_rule.specs.Flat.{IsPlaceOf}
use Rattle.tree_rule.specs.Sound.{BodiesUnder}
use Rattle.tree_rule.specs.Words.{HasBody, HasCell, at_of, body_word, key_place, tree_from}
use Rattle.octree.specs.Stored.{AreOctreeWords, StandsWell}
use Rattle.tree_passes.specs.Counting.{times}
use Rattle.update_build.specs.Contracting.{AreThinned}

-- The words of the octree of all points of a list.
pub record AreWordsOf (sites : List Site) (words : List ℕ) : Type 0 where
  pub rule : AreOctreeWords words
  pub stands : StandsWell sites words 1
  pub bodies : (n : ℕ) → HasBody words n ↔ (n < length sites)
  pub tree : tree_from (at_of words) 22 (at_of words 0) ≡ octree (site_at sites) (numbers (length sites))

-- the word at a place names the body, in the cube of a key
abbrev pub IsLeafAt : List ℕ → ℕ → ℕ → ℕ → Type 0
IsLeafAt words key n place = IsPlaceOf (at_of words) 0 1 (HasCell words) key place × (at_of words place ≡ body_word n)

-- whether a body stays in its cell when all bodies move
abbrev pub keeps : List Site → List Site → ℕ → Bool
keeps olds news n = keeps_leaf (site_at olds) (site_at news) (numbers (length news)) n

-- the place of a body's word where the body leaves its cell
abbrev pub IsMover : List Site → List Site → List ℕ → ℕ → Option ℕ → Type 0
IsMover olds news words n None = keeps olds news n ≡ true
IsMover olds news words n (Some place) = (key : ℕ) × (keeps olds news n ≡ false) × IsLeafAt words key n place

-- The places are those of the words of some bodies.
pub record ArePlacesOf (words bodies places : List ℕ) : Type 0 where
  pub named : (i : ℕ) → 1 ≤ times i places → (n : ℕ) × (key : ℕ) × (1 ≤ times n bodies) × IsLeafAt words key n i
  pub each : (n : ℕ) → 1 ≤ times n bodies → (i : ℕ) × (key : ℕ) × (1 ≤ times i places) × IsLeafAt words key n i

-- The words once those of some bodies are empty: all cells are there with their keys, and all other bodies, whose new points lie in their words' cubes.
pub record IsThinnedBy (sites news : List Site) (before after bodies : List ℕ) : Type 0 where
  pub thinned : AreThinned sites after
  pub under : BodiesUnder (site_at news) (at_of after) (at_of after 0) 1
  pub cells : (c : ℕ) → HasCell after c → HasCell before c
  pub keys : (c : ℕ) → at_of after (key_place c) ≡ at_of before (key_place c)
  pub left : (n : ℕ) → HasBody after n ↔ (HasBody before n × (times n bodies ≡ 0))
