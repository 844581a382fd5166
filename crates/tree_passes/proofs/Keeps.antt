-- What the rules of both trees allow, so that code serves both.
use Rattle.std.specs.Prelude.{ℕ, ◌≡◌, ◌≤◌, List, [], length, slice_set}
use mathlib.Core.Option.{some}
use lib.ListN.{get_elem?}
use Rattle.atomic_table.specs.Table.{Joins, Splits, State}
use Rattle.octant_code.specs.Space.{Site}
use Rattle.tree_rule.specs.Words.{at_of}
use Rattle.tree_rule.specs.Flat.{IsPlaceOf}
use Rattle.tree_rule.specs.declared.words.TheConstants.{POOL_PLACE}
use Rattle.tree_passes.specs.declared.view.View.{View}
use Rattle.tree_passes.specs.Counting.{times}
use Rattle.tree_passes.specs.Opening.{Opening}
use Rattle.tree_passes.specs.Passes.{given_part, IsCell, joined, kept_part, spent}
use Rattle.tree_passes.specs.Rule.{Kept}
use Rattle.tree_passes.specs.Locks.{IsLock}

-- A step of one pass publishes nothing, and touches no lock and not the pool: the words become `us`, and its view becomes `w`.
pub record IsQuiet (o : Opening) (s : State (Unit {0}) View) (v w : View) (us : List ℕ) : Type 0 where
  pub held : w.held ≡ v.held
  pub published : w.published ≡ v.published
  pub locks : w.locks ≡ v.locks
  pub under : w.under ≡ v.under
  pub quota : w.quota ≡ v.quota
  pub long : length us ≡ length s.words
  pub lock_words : (i : ℕ) → IsLock i → at_of us i ≡ at_of s.words i
  pub pool_word : at_of us POOL_PLACE ≡ at_of s.words POOL_PLACE
  pub places : (h : Kept o s) (key i : ℕ) → IsPlaceOf (at_of s.words) 0 1 (IsCell o h.cells) key i → at_of us i ≡ at_of s.words i

-- a rule is kept by quiet steps that keep what both rules share
abbrev pub IsKeptByQuiet : Opening → (State (Unit {0}) View → Type 0) → Type 0
IsKeptByQuiet o R =
    (s : State (Unit {0}) View) (id : ℕ) (v w : View) (us : List ℕ) → R s → get_elem? s.views id ≡ some v → IsQuiet o s v w us
    → Kept o (record { words = us; homes = s.homes; views = slice_set s.views id w })
    → R (record { words = us; homes = s.homes; views = slice_set s.views id w })

-- a rule is kept by splits: the new pass gets cells, bodies and quota of the other
abbrev pub IsKeptBySplits : (State (Unit {0}) View → Type 0) → Type 0
IsKeptBySplits R =
    (id : ℕ) (v : View) (cells bodies : List ℕ) (quota : ℕ) → ((c : ℕ) → times c cells ≤ times c v.held)
    → ((x : ℕ) → times x bodies ≤ times x v.todo) → quota ≤ v.quota → Splits R id v (kept_part cells bodies quota v) (given_part cells bodies quota v)

-- a rule is kept by joins of a pass that holds no lock
abbrev pub IsKeptByJoins : (State (Unit {0}) View → Type 0) → Type 0
IsKeptByJoins R =
    (id : ℕ) (v : View) (other : ℕ) (u : View) (points : List Site) (bodies memory : List ℕ) → points ≡ v.points → bodies ≡ v.bodies → memory ≡ v.memory
    → u.locks ≡ [] → Joins R id v other u (joined v u) (spent points bodies memory)
