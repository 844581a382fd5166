-- What contracts see of a shared tree, of a pass, and of a yard.
use Rattle.std.specs.Prelude.{ℕ, ◌≡◌, ◌+◌, ◌*◌, ◌-◌, ◌^◌, ◌<◌, ◌≤◌, List, [], ◌++◌, length, min}
use Rattle.atomic_table.specs.Seated.{TableId}
use Rattle.octant_code.specs.Space.{Site}
use Rattle.octant_code.specs.Points.{ArePoints}
use Rattle.octant_code.specs.declared.limits.TheConstants.{MOST_BODIES}
use Rattle.tree_rule.specs.declared.words.TheConstants.{CELLS_OF_ONE, MOST_CELLS, POOL_PLACE}
use Rattle.bh_model.specs.Bodies.{IsIn}
use Rattle.octree.specs.Stored.{word_count}
use Rattle.cell_pool.specs.Free.{between, ends_of}
use Rattle.tree_passes.specs.declared.view.View.{View}
use Rattle.tree_passes.specs.declared.view.Writing.{Writing}
use Rattle.tree_passes.specs.Counting.{times}
use Rattle.tree_passes.specs.Making.{IsReady}
use Rattle.tree_passes.specs.Opening.{Opening, all_bodies}
use Rattle.tree_passes.specs.Passes.{given_part, kept_part}
use Rattle.shared_tree.specs.declared.parts.TheConstants.{LOW_CELLS_OF_ONE}

-- a shared tree: how its published words are written, which table its words stand in, and what it was opened with
pub record SharedTree : Type 0 where
  pub writing : Writing
  pub table_id : TableId
  pub opening : Opening

-- each body of an opening has a point
abbrev pub IsInside : Opening → Type 0
IsInside o = (x : ℕ) → IsIn (all_bodies o) x → x < length o.sites

-- a pass: which table it is of, the points of its tree, the opening's bodies, its lists, how often it published and loaded, and the key and the value of
-- the published word that it loaded last
pub record PassState : Type 0 where
  pub table_id : TableId
  pub points : List Site
  pub bodies : List ℕ
  pub todo : List ℕ
  pub done : List ℕ
  pub seen : List ℕ
  pub changes : ℕ
  pub loads : ℕ
  pub last : ℕ × ℕ

-- what a pass was entrusted with: what it is to put in, and what it put in
abbrev pub entrusted : PassState → List ℕ
entrusted p = p.todo ++ p.done

-- the pass is of the tree
pub record IsOf (p : PassState) (t : SharedTree) : Type 0 where
  pub table : p.table_id ≡ t.table_id
  pub points : p.points ≡ t.opening.sites
  pub bodies : p.bodies ≡ all_bodies t.opening

-- what is seen of a pass with a view
abbrev pub state_of : TableId → View → PassState
state_of table v = record {
  table_id = table;
  points = v.points;
  bodies = v.bodies;
  todo = v.todo;
  done = v.done;
  seen = v.seen;
  changes = v.changes;
  loads = v.loads;
  last = v.last;
}

-- the parts of a pass, as trees see them: which table it is of, its view, and the cells of its region
pub record PartsOfPass : Type 0 where
  pub table_id : TableId
  pub view : View
  pub cells : List ℕ

-- the pass that has these parts
abbrev pub seen_of : PartsOfPass → PassState
seen_of p = state_of p.table_id p.view

-- how many cells are from a region's front, where a part of so many bodies gets so many cells
abbrev pub front_of : ℕ → ℕ → ℕ
front_of bodies cells = min cells (LOW_CELLS_OF_ONE * bodies)

-- A pass was split: the new one has these bodies, so many cells of the region, of its front and of its end, and this quota.
pub record IsSplit (before after new : PartsOfPass) (part : List ℕ) (cells quota : ℕ) : Type 0 where
  pub old_table : after.table_id ≡ before.table_id
  pub new_table : new.table_id ≡ before.table_id
  pub parted : new.cells ≡ ends_of (front_of (length part) cells) (cells - front_of (length part) cells) before.cells
  pub stays : after.cells ≡ between (front_of (length part) cells) (cells - front_of (length part) cells) before.cells
  pub count : length new.cells ≡ cells
  pub kept : after.view ≡ kept_part new.cells part quota before.view
  pub given : new.view ≡ given_part new.cells part quota before.view

-- What a pass keeps between its calls: it holds no lock, the cells of its region are its own, the region has room for 21 for each body that it is to put
-- in, and the pass may draw as many as are missing.
pub record IsAtRest (v : View) (words : ℕ) (cells : List ℕ) (room : ℕ) : Type 0 where
  pub some : POOL_PLACE < words
  pub few : words ≤ word_count MOST_CELLS
  pub rule : ArePoints v.points
  pub no_lock : v.locks ≡ []
  pub none_under : v.under ≡ []
  pub todo_in : (x : ℕ) → 1 ≤ times x v.todo → x < length v.points
  pub ready : IsReady v words cells
  pub stocked : CELLS_OF_ONE * length v.todo ≤ room
  pub drawable : room ≤ v.quota + length cells

-- The pass drew cells from the shared pool, by which its region grew, and nothing else of it changed but words of theirs.
pub record HasDrawn (v w : View) (before after : List ℕ) : Type 0 where
  pub view : w ≡ record v { held = w.held; quota = w.quota; memory = w.memory }
  pub held : (c : ℕ) → times c w.held + times c before ≡ times c v.held + times c after
  pub quota : w.quota + length after ≡ v.quota + length before

-- the counts of a yard
pub record YardCounts : Type 0 where
  pub published : ℕ
  pub changes : ℕ

-- a count that rises, up to the greatest number of 64 bits
abbrev pub risen : ℕ → ℕ → ℕ
risen count by = min (count + by) (2 ^ 64 - 1)

-- What a pass counts: it is to put in no more bodies than there may be, and its counts are those of its view, up to the greatest number of 64 bits.
pub record IsCounted (v : View) (published changes : ℕ) : Type 0 where
  pub todo_few : length v.todo ≤ MOST_BODIES
  pub bodies : published ≡ risen 0 (length v.done)
  pub publications : changes ≡ risen 0 v.changes
