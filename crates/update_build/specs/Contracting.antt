-- Words from which bodies were taken, and what they are once cells with fewer bodies than two are gone.
use Rattle.std.specs.Prelude.{ℕ, ◌+◌, ◌*◌, ◌<◌, ◌≤◌, ◌≡◌, ◌≢◌, ◌↔◌, All, List, [], ◌∷◌, length, slice_set}
use Rattle.octant_code.specs.Points.{site_at}
use Rattle.octant_code.specs.Space.{Site}
use Rattle.tree_rule.specs.declared.words.TheConstants.{MOST_CELLS}
use Rattle.tree_rule.specs.Flat.{IsPlaceOf, IsShared, StandsAmid}
use Rattle.tree_rule.specs.Locks.{AreUnlocked}
use Rattle.tree_rule.specs.Words.{HasBody, HasCell, at_of, body_word, cell_word, child_place, key_place}
use Rattle.octree.specs.Stored.{IsCanonical, StandsWell, Stored, word_count}
use Rattle.update_build.specs.declared.edits.Edit.{Edit}

-- The words are those of an octree of the whole cube, some of whose bodies were taken out: under the key of each cell lie two of the points, but
-- perhaps no two of the bodies that are left.
pub record AreThinned (sites : List Site) (words : List ℕ) : Type 0 where
  pub cells : ℕ
  pub few : cells ≤ MOST_CELLS
  pub long : length words ≡ word_count cells
  pub unlocked : AreUnlocked words cells
  pub cells_held : (c : ℕ) → HasCell words c → c < cells
  pub stands : StandsAmid (site_at sites) (at_of words) (at_of words 0) 1 (HasCell words) (HasBody words) (λ n. n < length sites)
  pub bodies_in : (n : ℕ) → HasBody words n → n < length sites

-- Cells are gone: those that are left keep their numbers and keys, all bodies are left, and only words that name something were written.
pub record HaveFewerCells (before after : List ℕ) : Type 0 where
  pub len : length after ≡ length before
  pub cells : (c : ℕ) → HasCell after c → HasCell before c
  pub bodies : (n : ℕ) → HasBody after n ↔ HasBody before n
  pub others : (i : ℕ) → i ≢ 0 → ((c k : ℕ) → k < 8 → i ≢ child_place c k) → at_of after i ≡ at_of before i

-- Each cell with fewer than two bodies is gone, so the words stand for the bodies that are left.
pub record AreContracted (sites : List Site) (before after : List ℕ) : Type 0 where
  pub thinned : AreThinned sites after
  pub fewer : HaveFewerCells before after
  pub stands : StandsWell sites after 1

-- An octree of the whole cube that is canonical at the points of a list, whose bodies are those that the words name, and whose cells are some of
-- theirs, with their numbers and keys.
pub record IsWhatStays (sites : List Site) (words : List ℕ) (tree : Stored) : Type 0 where
  pub base : tree.base ≡ 1
  pub full : tree.used ≡ tree.held
  pub canonical : IsCanonical sites tree
  pub bodies : (n : ℕ) → HasBody tree.words n ↔ HasBody words n
  pub cells : (c : ℕ) → HasCell tree.words c → HasCell words c
  pub keys : (c : ℕ) → at_of tree.words (key_place c) ≡ at_of words (key_place c)

-- The word that a cell leaves: none where its children name nothing, the only body that they name, and else its own.
pub data IsLeft (child : ℕ → ℕ) (c w : ℕ) : Type 0 where
  NoneLeft : w ≡ 0 → ((k : ℕ) → k < 8 → child k ≡ 0) → IsLeft child c w
  OneLeft : (k x : ℕ) → k < 8 → w ≡ body_word x → child k ≡ body_word x → ((j : ℕ) → j < 8 → j ≢ k → child j ≡ 0) → IsLeft child c w
  CellLeft : (k d : ℕ) → k < 8 → w ≡ cell_word c → child k ≡ cell_word d → IsLeft child c w
  TwoLeft : (i k x n : ℕ) → i < k → k < 8 → w ≡ cell_word c → child i ≡ body_word x → child k ≡ body_word n → IsLeft child c w

-- a key is that of a cube in the cube of another
pub data IsInCubeOf (upper : ℕ) : ℕ → Type 0 where
  ItsOwn : (key : ℕ) → key ≡ upper → IsInCubeOf upper key
  InChild : (parent k key : ℕ) → IsInCubeOf upper parent → k < 8 → key ≡ 8 * parent + k → IsInCubeOf upper key

-- the key of a cell
abbrev pub key_in_words : List ℕ → ℕ → ℕ
key_in_words words d = at_of words (key_place d)

-- below each cell in the cube of a key lie two of the bodies
abbrev pub AreShared : List Site → List ℕ → ℕ → Type 0
AreShared sites words key = (d : ℕ) → HasCell words d → IsInCubeOf key (key_in_words words d)
    → IsShared (site_at sites) (HasBody words) (key_in_words words d)

-- a key lies in none of the cubes of some keys
abbrev pub IsOutside : (ℕ → Type 0) → ℕ → Type 0
IsOutside Done key = (q : ℕ) → Done q → IsInCubeOf q key → ⊥

-- The cells in the cubes of some keys were contracted: no others are gone, and no words outside were written.
pub record IsDoneIn (sites : List Site) (before after : List ℕ) (Done : ℕ → Type 0) : Type 0 where
  pub thinned : AreThinned sites after
  pub fewer : HaveFewerCells before after
  pub stays : (d : ℕ) → HasCell before d → IsOutside Done (key_in_words before d) → HasCell after d
  pub words : (key place : ℕ) → IsPlaceOf (at_of before) 0 1 (HasCell before) key place → IsOutside Done key → at_of after place ≡ at_of before place
  pub shared : (q : ℕ) → Done q → AreShared sites after q

-- those in the cube of one key
abbrev pub IsDoneAt : List Site → List ℕ → List ℕ → ℕ → Type 0
IsDoneAt sites before after key = IsDoneIn sites before after (λ q. q ≡ key)

-- the key of one of the first children of a cell
pub record IsChildKey (key count q : ℕ) : Type 0 where
  pub octant : ℕ
  pub small : octant < count
  pub is : q ≡ 8 * key + octant

-- those in the cubes of the first children of a cell
abbrev pub AreDone : List Site → List ℕ → List ℕ → ℕ → ℕ → Type 0
AreDone sites before after key count = IsDoneIn sites before after (IsChildKey key count)

-- Words that were read are still there in others, in the cube of a key.
abbrev pub AreSeen : List ℕ → List ℕ → ℕ → Type 0
AreSeen before now key = (q place : ℕ) → IsPlaceOf (at_of before) 0 1 (HasCell before) q place → IsInCubeOf key q
    → IsPlaceOf (at_of now) 0 1 (HasCell now) q place × (at_of now place ≡ at_of before place)

-- a key is that of a cube so many levels below another
pub data IsBelowBy : ℕ → ℕ → ℕ → Type 0 where
  NoFurther : (depth key q : ℕ) → depth ≡ 0 → q ≡ key → IsBelowBy depth key q
  Further : (depth key q k d : ℕ) → k < 8 → depth ≡ d + 1 → IsBelowBy d (8 * key + k) q → IsBelowBy depth key q

-- the cells so many levels below the cube of a key, and all below them, were contracted
abbrev pub AreDoneBelow : List Site → List ℕ → ℕ → ℕ → Type 0
AreDoneBelow sites words depth key = (q : ℕ) → IsBelowBy depth key q → AreShared sites words q

-- the words with edits, each of which is made after those before it
abbrev pub applied : List ℕ → List Edit → List ℕ
applied words [] = words
applied words (e ∷ es) = applied (slice_set words e.place e.word) es

-- the places of edits are places of words
abbrev pub AreInside : ℕ → List Edit → Type 0
AreInside many edits = All (λ (e : Edit). e.place < many) edits

-- The edits that were added to some contract what stands in the cube of a key, in any words in which what was read there still stands, and leave this
-- word.
abbrev pub LeaveAt : List Site → List ℕ → ℕ → ℕ → ℕ → List Edit → List Edit → ℕ → Type 0
LeaveAt sites before depth key place old new left =
    (now : List ℕ) → AreThinned sites (applied now old) → AreSeen before (applied now old) key → AreDoneBelow sites (applied now old) depth key
    → IsDoneAt sites (applied now old) (applied now new) key × (at_of (applied now new) place ≡ left)
