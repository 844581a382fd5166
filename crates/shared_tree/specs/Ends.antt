-- What a tree is opened with, and what it is when it is closed.
use Rattle.std.specs.Prelude.{ℕ, ◌≡◌, ◌+◌, ◌-◌, ◌<◌, ◌≤◌, ◌⊎◌, ◌↔◌, List, ◌++◌, length}
use Rattle.bh_model.specs.Bodies.{IsIn, NoneTwice}
use Rattle.tree_rule.specs.declared.words.TheConstants.{MOST_CELLS}
use Rattle.tree_rule.specs.Words.{at_of, child_place, key_place, lock_place, HasBody, HasCell}
use Rattle.octree.specs.Free.{AreFreeCells}
use Rattle.octree.specs.Stored.{AreOctreeWords, IsBlankFrom, IsCanonical, IsStored, Stored, word_count}
use Rattle.tree_passes.specs.declared.view.TheConstants.{ROW_WORDS}
use Rattle.tree_passes.specs.Counting.{numbers_from}
use Rattle.tree_passes.specs.Opening.{Opening}

-- The octree is the canonical one of the start's bodies and those of a list, with each seen body among them, and each cell of the start keeps its
-- number and its key.
pub record IsTreeAtEnd (o : Opening) (done seen : List ℕ) (tree : Stored) : Type 0 where
  pub base : tree.base ≡ 1
  pub canonical : IsCanonical o.sites tree
  pub bodies : (x : ℕ) → HasBody tree.words x ↔ (HasBody o.words x ⊎ IsIn done x)
  pub seen_in : (x : ℕ) → IsIn seen x → HasBody tree.words x
  pub cells_stay : (c : ℕ) → HasCell o.words c → HasCell tree.words c
  pub keys_stay : (c : ℕ) → HasCell o.words c → at_of tree.words (key_place c) ≡ at_of o.words (key_place c)

-- The numbers that regions are made of: those of the start's cells that can't be reached, and then new ones until there are so many. The table has the
-- cells that the start holds, and the new ones.
pub record AreHandedOut (start : Stored) (count : ℕ) (region : List ℕ) (cells : ℕ) : Type 0 where
  pub free : List ℕ
  pub free_are : AreFreeCells start free
  pub region_is : region ≡ free ++ numbers_from start.held (count - length free)
  pub cells_are : cells ≡ start.held + (count - length free)

-- What cells that are dealt out are good for: the table has those of the start, the region has others of the table, each once, and the pool gives out the
-- rest, from a first number on and as many as a quota.
pub record Serves (start : Stored) (region : List ℕ) (cells first quota : ℕ) : Type 0 where
  pub more : start.held ≤ cells
  pub few : cells ≤ MOST_CELLS
  pub once : NoneTwice region
  pub bare : (c : ℕ) → IsIn region c → HasCell start.words c → ⊥
  pub given : (c : ℕ) → IsIn region c → c < first
  pub sum : cells ≡ first + quota
  pub start_given : start.held ≤ first

-- all words are 0
abbrev pub AreZeros : List ℕ → Type 0
AreZeros words = (i : ℕ) → at_of words i ≡ 0

-- The words are those of an octree, and 0 from its used cells on to so many cells.
pub record AreStartWords (start : Stored) (words : List ℕ) (cells : ℕ) : Type 0 where
  pub rule : IsStored start
  pub octree : AreOctreeWords words
  pub long : length words ≡ word_count cells
  pub same : (i : ℕ) → at_of words i ≡ at_of start.words i
  pub blank : IsBlankFrom words start.used

-- The words of one cell were copied, but its lock is 0.
pub record IsRowCopied (from before after : List ℕ) (c : ℕ) : Type 0 where
  pub long : length after ≡ length before
  pub row : (j : ℕ) → j < ROW_WORDS → at_of after (child_place c j) ≡ at_of from (child_place c j)
  pub lock : at_of after (lock_place c) ≡ 0
  pub front : (i : ℕ) → i < child_place c 0 → at_of after i ≡ at_of before i
  pub rest : (i : ℕ) → lock_place c < i → at_of after i ≡ at_of before i

-- The root word and the words of the first so many cells were copied, but locks and the pool word are 0.
pub record AreCopied (from before after : List ℕ) (cells : ℕ) : Type 0 where
  pub long : length after ≡ length before
  pub root : at_of after 0 ≡ at_of from 0
  pub second : at_of after 1 ≡ 0
  pub third : at_of after 2 ≡ 0
  pub rows : (c j : ℕ) → c < cells → j < ROW_WORDS → at_of after (child_place c j) ≡ at_of from (child_place c j)
  pub locks : (c : ℕ) → c < cells → at_of after (lock_place c) ≡ 0
  pub rest : (i : ℕ) → word_count cells ≤ i → at_of after i ≡ at_of before i
