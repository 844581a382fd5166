-- An octree as it is stored: the words of its used cells, the key and the level of its cube, and how many of its cells are used and held.
use Rattle.std.specs.Prelude.{ℕ, ◌+◌, ◌-◌, ◌*◌, ◌/◌, ◌^◌, ◌<◌, ◌≤◌, ◌≡◌, ◌⊎◌, ◌↔◌, List, ◌++◌, length, replicate}
use Rattle.octant_code.specs.Space.{Site}
use Rattle.octant_code.specs.declared.limits.TheConstants.{LEVELS, MOST_BODIES}
use Rattle.octant_code.specs.Points.{site_at}
use Rattle.bh_model.specs.Bodies.{numbers}
use Rattle.bh_model.specs.Trees.{Tree, octree}
use Rattle.tree_rule.specs.declared.words.TheConstants.{CELLS_OF_ONE, CELL_WORDS, FIRST_PLACE, MOST_CELLS}
use Rattle.tree_rule.specs.Words.{at_of, cells_from, key_place, tree_from, HasCell, HasBody}
use Rattle.tree_rule.specs.Locks.{AreUnlocked}
use Rattle.tree_rule.specs.Flat.{StandsFor}
use Rattle.tree_rule.specs.Sound.{IsSound, BodiesUnder}

-- an octree by the words of its used cells, the key and the level of its cube, and how many cells are used and held
pub record Stored : Type 0 where
  pub words : List ℕ
  pub base : ℕ
  pub level : ℕ
  pub used : ℕ
  pub held : ℕ

-- how many words so many cells have, with those in front of them
abbrev pub word_count : ℕ → ℕ
word_count cells = FIRST_PLACE + CELL_WORDS * cells

-- how many cells have so many words
abbrev pub cell_count_of : ℕ → ℕ
cell_count_of words = (words - FIRST_PLACE) / CELL_WORDS

-- how many cells are spare: held, and not used
abbrev pub spare_of : Stored → ℕ
spare_of o = o.held - o.used

-- the word that names the root
abbrev pub root_word : Stored → ℕ
root_word o = at_of o.words 0

-- the tree below a word
abbrev pub tree_of_word : Stored → ℕ → Tree
tree_of_word o word = tree_from (at_of o.words) 22 word

-- the tree of an octree
abbrev pub tree_of : Stored → Tree
tree_of o = tree_of_word o (root_word o)

-- the cells of an octree that can be reached, each before those below it
abbrev pub cells_of : Stored → List ℕ
cells_of o = cells_from (at_of o.words) 22 (root_word o)

-- the words stand for the bodies that are read in them, at the sites of a list
abbrev pub StandsWell : List Site → List ℕ → ℕ → Type 0
StandsWell sites words base = StandsFor (site_at sites) (at_of words) (at_of words 0) base (HasCell words) (HasBody words)

-- the words past the used cells are 0
abbrev pub IsBlankFrom : List ℕ → ℕ → Type 0
IsBlankFrom words used = (i : ℕ) → word_count used ≤ i → at_of words i ≡ 0

-- what every octree keeps
pub record IsStored (o : Stored) : Type 0 where
  pub few : o.held ≤ MOST_CELLS
  pub long : length o.words ≡ word_count o.used
  pub used_held : o.used ≤ o.held
  pub shallow : o.level ≤ LEVELS
  pub base_low : 8 ^ o.level ≤ o.base
  pub base_high : o.base < 2 * 8 ^ o.level
  pub unlocked : AreUnlocked o.words o.used
  pub sound : IsSound (at_of o.words) (at_of o.words 0) o.base
  pub cells_used : (c : ℕ) → HasCell o.words c → c < o.used
  pub bodies_small : (n : ℕ) → HasBody o.words n → n < MOST_BODIES

-- The words are those of an octree of the whole cube, with the words of all cells that it holds.
pub record AreOctreeWords (words : List ℕ) : Type 0 where
  pub cells : ℕ
  pub few : cells ≤ MOST_CELLS
  pub long : length words ≡ word_count cells
  pub unlocked : AreUnlocked words cells
  pub sound : IsSound (at_of words) (at_of words 0) 1
  pub cells_held : (c : ℕ) → HasCell words c → c < cells
  pub bodies_small : (n : ℕ) → HasBody words n → n < MOST_BODIES

-- the octree of the whole cube that has the words, and no spare cell
abbrev pub full_tree : List ℕ → Stored
full_tree words = record { words = words; base = 1; level = 0; used = cell_count_of (length words); held = cell_count_of (length words) }

-- the words of all cells that an octree holds: those of the spare cells are 0
abbrev pub all_words : Stored → List ℕ
all_words o = o.words ++ replicate (CELL_WORDS * spare_of o) 0

-- an octree, its spare cells counted as used
abbrev pub all_used : Stored → Stored
all_used o = record { words = all_words o; base = o.base; level = o.level; used = o.held; held = o.held }

-- the octree is the canonical one of its bodies at the sites of a list: each body's point lies under the key of its word
pub record IsCanonical (sites : List Site) (o : Stored) : Type 0 where
  pub under : BodiesUnder (site_at sites) (at_of o.words) (at_of o.words 0) o.base
  pub bodies_in : (n : ℕ) → HasBody o.words n → n < length sites

-- The octree is the canonical octree of all points of a list, each body by its point's number.
pub record IsOctreeOf (sites : List Site) (o : Stored) : Type 0 where
  pub base : o.base ≡ 1
  pub canonical : IsCanonical sites o
  pub tree : tree_of o ≡ octree (site_at sites) (numbers (length sites))

-- an octree after an insertion of body `n`: its bodies, and what stays
pub record IsInserted (n : ℕ) (before after : Stored) : Type 0 where
  pub bodies : (m : ℕ) → HasBody after.words m ↔ (HasBody before.words m ⊎ (m ≡ n))
  pub cells_stay : (c : ℕ) → HasCell before.words c → HasCell after.words c
  pub keys_stay : (c : ℕ) → HasCell before.words c → at_of after.words (key_place c) ≡ at_of before.words (key_place c)
  pub base_stays : after.base ≡ before.base
  pub held_stays : after.held ≡ before.held
  pub used_more : before.used ≤ after.used
  pub used_few : after.used ≤ before.used + CELLS_OF_ONE

-- an octree after cells were reserved: it holds others, and the rest stays
pub record IsRoomier (before after : Stored) : Type 0 where
  pub words_stay : after.words ≡ before.words
  pub base_stays : after.base ≡ before.base
  pub level_stays : after.level ≡ before.level
  pub used_stays : after.used ≡ before.used
