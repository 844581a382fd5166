-- What a merge of a private octree goes by, and what it leaves.
use Rattle.std.specs.Prelude.{ℕ, ◌≡◌, ◌≢◌, ◌+◌, ◌*◌, ◌-◌, ◌<◌, ◌≤◌, ◌⊎◌, List, [], length, take, filter, nat_eq, not, Option}
use Rattle.std.specs.List.{list_any}
use Rattle.octant_code.specs.declared.limits.TheConstants.{LEVELS}
use Rattle.octant_code.specs.Space.{Site, key_of}
use Rattle.octant_code.specs.Points.{site_at, ArePoints}
use Rattle.bh_model.specs.Blocks.{blocks_from}
use Rattle.bh_model.specs.Bodies.{IsIn}
use Rattle.bh_model.specs.Trees.{cell_count}
use Rattle.tree_rule.specs.declared.notes.CellNote.{CellNote}
use Rattle.tree_rule.specs.declared.words.TheConstants.{CELLS_OF_ONE, MOST_CELLS, POOL_PLACE}
use Rattle.tree_rule.specs.Words.{at_of}
use Rattle.octree.specs.Spot.{Spot as PartSpot, tree_under}
use Rattle.octree.specs.Stored.{word_count}
use Rattle.tree_passes.specs.declared.view.View.{View}
use Rattle.tree_passes.specs.Counting.{times, Has}
use Rattle.tree_passes.specs.Opening.{Opening}
use Rattle.tree_passes.specs.Passes.{KnowsPlace}
use Rattle.tree_passes.specs.Turns.{Descends, IsStill}
use Rattle.shared_tree.specs.declared.publisher.Spot.{Spot}
use Rattle.shared_tree.specs.declared.subtrees.Copied.{Copied}
use Rattle.shared_tree.specs.declared.merge.PartTurn.{PartTurn}
use Rattle.shared_tree.specs.declared.merge.PartTurn.TheVariants as turn
use Rattle.shared_tree.specs.declared.merge.Tried.{Tried}
use Rattle.shared_tree.specs.declared.merge.Tried.TheVariants as tried
use Rattle.shared_tree.specs.Copying.{bodies_under, other_word, IsPartAt}
use Rattle.shared_tree.specs.Publishing.{HasFoundOther, IsSpot}
use Rattle.shared_tree.specs.Seen.{PassState, entrusted, risen}

-- the bodies of a list that another list doesn't have
abbrev pub others_among : List ℕ → List ℕ → List ℕ
others_among bodies list = filter (λ n. not (list_any (λ x. nat_eq x n) list)) bodies

-- These bodies have gone from todo to done, with these cells. The other lists, the quota and the locks stay, and what the pass knew of cells it knows.
pub record IsMerged (v w : View) (bodies cells : List ℕ) : Type 0 where
  pub points : w.points ≡ v.points
  pub opening : w.bodies ≡ v.bodies
  pub long : length w.memory ≡ length v.memory
  pub held : (c : ℕ) → times c w.held + times c cells ≡ times c v.held
  pub quota : w.quota ≡ v.quota
  pub todo : (x : ℕ) → times x w.todo + times x bodies ≡ times x v.todo
  pub done : (x : ℕ) → times x w.done ≡ times x bodies + times x v.done
  pub seen : w.seen ≡ v.seen
  pub locks : w.locks ≡ v.locks
  pub more_loads : v.loads ≤ w.loads
  pub cell_notes : (n : CellNote) → Has v.cell_notes n → Has w.cell_notes n

-- The pass has come to the published word of a cube, with the key of that cube, and is to put in the bodies of a subtree of a private octree, which is the
-- octree of bodies in that cube. It knows where the word stands, and holds no lock.
pub record IsPartIn (v : View) (words : ℕ) (sites : List Site) (below : PartSpot) (key : ℕ) (s : Spot) : Type 0 where
  pub points : v.points ≡ sites
  pub long : length v.memory ≡ words
  pub some : POOL_PLACE < words
  pub few : words ≤ word_count MOST_CELLS
  pub rule : ArePoints sites
  pub part : IsPartAt sites below key s.level
  pub todo : (x : ℕ) → times x (bodies_under below) ≤ times x v.todo
  pub spot : IsSpot words s
  pub known : KnowsPlace v s.word key
  pub no_lock : v.locks ≡ []
  pub none_under : v.under ≡ []

-- A list has all bodies of the opening in the cube of a key, at a level, that are none of mine, and none of mine.
pub record AreRivals (v : View) (sites : List Site) (key level : ℕ) (mine others : List ℕ) : Type 0 where
  pub others_in : (n : ℕ) → IsIn others n → n < length sites
  pub under : (n : ℕ) → IsIn others n → key ≡ key_of (site_at sites n) level
  pub apart : (n : ℕ) → IsIn mine n → IsIn others n → ⊥
  pub all : (n : ℕ) → IsIn v.bodies n → key ≡ key_of (site_at sites n) level → IsIn mine n ⊎ IsIn others n

-- so many are at most the blocks of my bodies in a cube, against the others of the opening
abbrev pub AreBlocks : View → List Site → ℕ → ℕ → List ℕ → ℕ → Type 0
AreBlocks v sites key level mine count =
    (others : List ℕ) → AreRivals v sites key level mine others → count ≤ blocks_from (site_at sites) (LEVELS - level) level mine others

-- each body of the opening is one that the pass is to put in
abbrev pub IsAlone : View → Type 0
IsAlone v = (x : ℕ) → IsIn v.bodies x → 1 ≤ times x v.todo

-- All these bodies have gone from todo to done by one publication, with these cells, of which there are at most 21 for each body.
pub record IsPutWhole (v w : View) (bodies cells : List ℕ) : Type 0 where
  pub merged : IsMerged v w bodies cells
  pub few : length cells ≤ CELLS_OF_ONE * length bodies
  pub changes : w.changes ≡ v.changes + 1

-- A copy of these bodies was published with its cells, the first of the spare ones, and tells how many bodies they are.
pub record IsPutCopy (v w : View) (bodies spare : List ℕ) (copied : Copied) : Type 0 where
  pub within : copied.used ≤ length spare
  pub whole : IsPutWhole v w bodies (take copied.used spare)
  pub count : copied.bodies ≡ risen 0 (length bodies)

-- Another word was found than the one that a copy was to take the place of. The pass only wrote the copy into its cells before.
pub record HasMissed (v w : View) (word key old found : ℕ) : Type 0 where
  pub copied : View
  pub still : IsStill v copied
  pub apart : found ≢ old
  pub other : HasFoundOther copied word key found w

-- What comes of a copy: it is published, or another word was found.
abbrev pub TriesPart : View → View → List ℕ → List ℕ → ℕ → ℕ → Option ℕ → Tried → Type 0
TriesPart v w bodies spare word key other (tried.Put copied) = IsPutCopy v w bodies spare copied
TriesPart v w bodies spare word key other (tried.Missed found) = HasMissed v w word key (other_word other) found

-- What a visit of a word with a subtree leads to: its bodies are put in by a copy, or the way goes on below a cell that the word names.
abbrev pub LeadsPart : View → View → List ℕ → List ℕ → ℕ → PartTurn → Type 0
LeadsPart v w bodies spare key (turn.Done copied) = IsPutCopy v w bodies spare copied
LeadsPart v w bodies spare key (turn.Below d) = Descends v w key d

-- how many steps a subtree takes at most from a level on: three for each of its cells, and for each of the levels that are left for each of its bodies
abbrev pub most_steps : PartSpot → ℕ → ℕ
most_steps part level = 3 * (cell_count (tree_under part) + (LEVELS + 1 - level) * length (bodies_under part))

-- What a walk below the word of a cube leaves: the bodies of the part are put in, by so many publications, with so many of the cells.
pub record IsPartMerged (v w : View) (sites : List Site) (part : PartSpot) (spare : List ℕ) (key level used changes : ℕ) : Type 0 where
  pub within : used ≤ length spare
  pub few : used ≤ CELLS_OF_ONE * length (bodies_under part)
  pub merged : IsMerged v w (bodies_under part) (take used spare)
  pub count : w.changes ≡ v.changes + changes
  pub most : changes ≤ length (bodies_under part)
  pub some : 1 ≤ length (bodies_under part) → 1 ≤ changes
  pub blocks : AreBlocks v sites key level (bodies_under part) changes

-- The pass is entrusted with all that a tree was opened with, which began empty, and has put none in.
pub record HasAllBodies (p : PassState) (o : Opening) : Type 0 where
  pub empty : at_of o.words 0 ≡ 0
  pub all : (x : ℕ) → times x o.todo ≡ times x (entrusted p)
  pub none : p.done ≡ []
