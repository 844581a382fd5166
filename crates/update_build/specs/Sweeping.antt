-- Words that passes empty, each those of its own list, all at the same time. A body of an octree has one word, so a body that is to be taken out is
-- named by the place of its word.
use Rattle.std.specs.Prelude.{ℕ, ◌≡◌, ◌+◌, ◌<◌, ◌≤◌, List, [], ◌∷◌, ◌++◌, length}
use Rattle.atomic_table.specs.Table.{Me, State, Step}
use Rattle.tree_rule.specs.Words.{at_of}
use Rattle.tree_passes.specs.Counting.{sum_of, times, without, without_all}
use Rattle.update_build.specs.declared.sweep.SweepTold.{SweepTold}
use Rattle.update_build.specs.declared.sweep.SweepView.{SweepView}

-- what a sweep begins with: the words, and the places of those that are to be emptied
pub record SweepOpening : Type 0 where
  pub words : List ℕ
  pub places : List ℕ

-- the opening of what a table was told
abbrev pub opening_of : SweepTold → SweepOpening
opening_of k = record { words = k.words.value.items; places = k.places.value.items }

-- the view of the first pass, which is to empty all
abbrev pub first_view : SweepTold → SweepView
first_view k = record { todo = k.places.value.items; removed = [] }

-- The rule of a sweep: each place of the opening is in the todo list of one pass or among those that it emptied, and each word has its old value, or
-- is empty where a pass emptied it.
pub record Sweeps (o : SweepOpening) (s : State (Unit {0}) SweepView) : Type 0 where
  pub long : length s.words ≡ length o.words
  pub parted : (i : ℕ) → sum_of (λ v. times i v.todo + times i v.removed) s.views ≡ times i o.places
  pub emptied : (i : ℕ) → 1 ≤ sum_of (λ v. times i v.removed) s.views → at_of s.words i ≡ 0
  pub others : (i : ℕ) → sum_of (λ v. times i v.removed) s.views ≡ 0 → at_of s.words i ≡ at_of o.words i

-- what a step sees of a pass
abbrev pub Mine : Type 0
Mine = Me (Unit {0}) SweepView

-- the view of a pass after it emptied a word
abbrev pub with_removed : ℕ → SweepView → SweepView
with_removed i v = record { todo = without i v.todo; removed = i ∷ v.removed }

-- a word of the pass's list is emptied
abbrev pub removed_one : Step (Unit {0}) → Mine → ℕ → Mine → Type 0
removed_one st m new m' = (m'.1 ≡ m.1) × (m'.0 ≡ with_removed st.word m.0)

-- what is left to a pass of which places were split off, and what the new pass gets
abbrev pub kept_places : List ℕ → SweepView → SweepView
kept_places places v = record { todo = without_all places v.todo; removed = v.removed }

abbrev pub given_places : List ℕ → SweepView → SweepView
given_places places v = record { todo = places; removed = [] }

-- two passes in one
abbrev pub together : SweepView → SweepView → SweepView
together v w = record { todo = v.todo ++ w.todo; removed = v.removed ++ w.removed }

abbrev pub nothing_left : SweepView
nothing_left = record { todo = []; removed = [] }

-- The words after a sweep: those at some places are empty, and all others are as they were.
pub record AreSwept (before after removed : List ℕ) : Type 0 where
  pub long : length after ≡ length before
  pub emptied : (i : ℕ) → 1 ≤ times i removed → at_of after i ≡ 0
  pub others : (i : ℕ) → times i removed ≡ 0 → at_of after i ≡ at_of before i

-- A pass may empty the words at some places: they are among so many words, and stand in its list.
pub record CanEmpty (words : ℕ) (places : List ℕ) (v : SweepView) : Type 0 where
  pub inside : (i : ℕ) → 1 ≤ times i places → i < words
  pub todo : (i : ℕ) → times i places ≤ times i v.todo

-- A pass emptied the words at some places of its list.
pub record HasEmptied (places : List ℕ) (before after : SweepView) : Type 0 where
  pub todo : (i : ℕ) → times i after.todo + times i places ≡ times i before.todo
  pub removed : (i : ℕ) → times i after.removed ≡ times i before.removed + times i places
