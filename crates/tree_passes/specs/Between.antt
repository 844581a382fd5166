-- What holds between any two steps on the words of a shared tree.
use Rattle.std.specs.Prelude.{ℕ, ◌≡◌, ◌<◌, ◌≤◌, List, ◌++◌}
use mathlib.Core.Option.{some}
use lib.ListN.{get_elem?}
use Rattle.atomic_table.specs.Table.{State}
use Rattle.octant_code.specs.Points.{site_at}
use Rattle.bh_model.specs.Bodies.{IsIn}
use Rattle.bh_model.specs.Trees.{octree}
use Rattle.tree_rule.specs.Words.{at_of, child_place, tree_from}
use Rattle.tree_rule.specs.Standing.{IsPublished, NamesExactly}
use Rattle.tree_passes.specs.declared.view.TheConstants.{ROW_WORDS}
use Rattle.tree_rule.specs.declared.words.TheConstants.{POOL_PLACE}
use Rattle.tree_passes.specs.declared.view.View.{View}
use Rattle.tree_passes.specs.declared.view.Writing.{Writing}
use Rattle.tree_passes.specs.declared.view.Writing.TheVariants.{ByExchange, UnderLocks}
use Rattle.tree_passes.specs.Counting.{all_of, numbers_from, sum_of, times}
use Rattle.tree_passes.specs.Opening.{Opening, start_bodies, start_cells}
use Rattle.tree_passes.specs.Looks.{Tells}

-- the published cells: the start's, and those that passes have published
abbrev pub cells_now : Opening → List View → List ℕ
cells_now o views = start_cells o ++ all_of (λ v. v.published) views

-- the published bodies: the start's, and those that passes have put in
abbrev pub bodies_now : Opening → List View → List ℕ
bodies_now o views = start_bodies o ++ all_of (λ v. v.done) views

-- the cells that passes hold, private ones and those of regions
abbrev pub cells_held : List View → List ℕ
cells_held views = all_of (λ v. v.held) views

-- the cells that the pool has not given out: as many from the pool word on as the quotas of all passes
abbrev pub cells_left : List ℕ → List View → List ℕ
cells_left words views = numbers_from (at_of words POOL_PLACE) (sum_of (λ v. v.quota) views)

-- The cells that are not published: those that passes hold, and those that a pool has not given out.
abbrev pub cells_elsewhere : Writing → State (Unit {0}) View → List ℕ
cells_elsewhere ByExchange s = cells_held s.views
cells_elsewhere UnderLocks s = cells_held s.views ++ cells_left s.words s.views

-- What holds of each pass.
pub record IsPassOf (o : Opening) (s : State (Unit {0}) View) (v : View) : Type 0 where
  -- what it was entrusted with is its todo list and its done list, and no number stands in them twice
  pub once : (x : ℕ) → times x (v.todo ++ v.done) ≤ 1
  -- each body that it has seen is published
  pub seen : (x : ℕ) → IsIn v.seen x → IsIn (bodies_now o s.views) x
  -- the words of a cell that it holds are those that it wrote there
  pub private : (c j : ℕ) → IsIn v.held c → j < ROW_WORDS → at_of s.words (child_place c j) ≡ at_of v.memory (child_place c j)
  -- what each published word tells it is so
  pub told : (key place : ℕ) → IsPublished (at_of s.words) 0 1 (cells_now o s.views) key place → Tells v key (at_of s.words place)

-- What holds of all: `others` are the cells that are not published.
pub record HoldsBetween (o : Opening) (others : List ℕ) (s : State (Unit {0}) View) : Type 0 where
  -- the published words name exactly the published cells and bodies
  pub exact : NamesExactly (site_at o.sites) (at_of s.words) 0 1 (cells_now o s.views) others (bodies_now o s.views)
  -- they give the canonical octree of these bodies
  pub canonical : tree_from (at_of s.words) 22 (at_of s.words 0) ≡ octree (site_at o.sites) (bodies_now o s.views)
  -- what passes were entrusted with parts the opening's todo list
  pub entrusted : (x : ℕ) → times x (all_of (λ v. v.todo ++ v.done) s.views) ≡ times x o.todo
  pub passes : (id : ℕ) (v : View) → get_elem? s.views id ≡ some v → IsPassOf o s v
