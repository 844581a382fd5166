-- What a shared tree is opened with, and its first pass.
use Rattle.std.specs.Prelude.{ℕ, ◌≡◌, ◌<◌, ◌≤◌, List, [], ◌++◌, length}
use Rattle.octant_code.specs.Space.{Site}
use Rattle.octant_code.specs.Points.{ArePoints}
use Rattle.bh_model.specs.Trees.{order}
use Rattle.tree_rule.specs.declared.words.TheConstants.{MOST_CELLS}
use Rattle.tree_rule.specs.Words.{at_of, cells_from, tree_from, HasBody}
use Rattle.octree.specs.Stored.{StandsWell, word_count}
use Rattle.tree_passes.specs.declared.view.View.{View}
use Rattle.tree_passes.specs.declared.view.Told.{Told}
use Rattle.tree_passes.specs.Counting.{times}

-- what a tree is opened with: the points of the bodies, the words of the start, and the bodies that are to be put in
pub record Opening : Type 0 where
  pub sites : List Site
  pub words : List ℕ
  pub todo : List ℕ

-- the start's cells, as they are read
abbrev pub start_cells : Opening → List ℕ
start_cells o = cells_from (at_of o.words) 22 (at_of o.words 0)

-- the start's bodies, in the order of its tree
abbrev pub start_bodies : Opening → List ℕ
start_bodies o = order (tree_from (at_of o.words) 22 (at_of o.words 0))

-- the opening's bodies: the start's, and those that are to be put in
abbrev pub all_bodies : Opening → List ℕ
all_bodies o = start_bodies o ++ o.todo

-- An opening is in order: its words stand for their bodies, and those that are to be put in are others, each once.
pub record IsOpened (o : Opening) : Type 0 where
  pub points : ArePoints o.sites
  pub cells : ℕ
  pub few : cells ≤ MOST_CELLS
  pub long : length o.words ≡ word_count cells
  pub stand : StandsWell o.sites o.words 1
  pub start_in : (x : ℕ) → HasBody o.words x → x < length o.sites
  pub todo_in : (x : ℕ) → 1 ≤ times x o.todo → x < length o.sites
  pub todo_once : (x : ℕ) → times x o.todo ≤ 1
  pub todo_fresh : (x : ℕ) → 1 ≤ times x o.todo → HasBody o.words x → ⊥

-- the opening of what a table was told
abbrev pub opening_of : Told → Opening
opening_of k = record { sites = k.points.value; words = k.words.value.items; todo = k.todo.value.items }

-- the view of a pass that has done and seen nothing: with these cells, this quota, and these bodies to put in
abbrev pub fresh_view : Opening → List ℕ → ℕ → List ℕ → View
fresh_view o held quota todo = record {
  points = o.sites;
  bodies = all_bodies o;
  memory = o.words;
  held = held;
  quota = quota;
  published = [];
  todo = todo;
  done = [];
  seen = [];
  changes = 0;
  loads = 0;
  last = (0, 0);
  locks = [];
  under = [];
  cell_notes = [];
  body_notes = [];
}

-- the view of the first pass, which is entrusted with all
abbrev pub first_view : Told → View
first_view k = fresh_view (opening_of k) k.held.value.items k.quota k.todo.value.items
