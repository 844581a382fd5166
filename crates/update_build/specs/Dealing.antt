-- Parts of words that are dealt to workers by the keys of their cubes.
use Rattle.std.specs.Prelude.{ℕ, ◌+◌, ◌*◌, ◌<◌, ◌≡◌, ◌%◌, List}
use Rattle.octant_code.specs.Space.{Site}
use Rattle.update_build.specs.declared.edits.Edit.{Edit}
use Rattle.update_build.specs.Contracting.{AreSeen, AreThinned, HaveFewerCells, IsBelowBy, IsDoneIn, applied}

-- a key so many levels below another that is one of those of a worker, or of some workers
pub record IsDealt (Mine : ℕ → Type 0) (depth key q : ℕ) : Type 0 where
  pub below : IsBelowBy depth key q
  pub mine : Mine q

-- the keys of one of so many workers
abbrev pub IsOfWorker : ℕ → ℕ → ℕ → Type 0
IsOfWorker workers worker q = q % workers ≡ worker

-- those of the first workers
abbrev pub IsOfFirst : ℕ → ℕ → ℕ → Type 0
IsOfFirst workers count q = q % workers < count

-- The edits that were added to some contract what stands in these cubes, in any words of no more cells in which what was read in them still stands.
abbrev pub LeaveDealt : List Site → List ℕ → (ℕ → Type 0) → ℕ → ℕ → List Edit → List Edit → Type 0
LeaveDealt sites before Mine depth key old new =
    (now : List ℕ) → AreThinned sites (applied now old) → HaveFewerCells before (applied now old)
    → ((q : ℕ) → IsDealt Mine depth key q → AreSeen before (applied now old) q)
    → IsDoneIn sites (applied now old) (applied now new) (IsDealt Mine depth key)

-- a key that is dealt below one of the first children of a cell
pub record IsDealtBelow (Mine : ℕ → Type 0) (depth key count q : ℕ) : Type 0 where
  pub octant : ℕ
  pub small : octant < count
  pub dealt : IsDealt Mine depth (8 * key + octant) q

-- and the same for these
abbrev pub LeaveChildren : List Site → List ℕ → (ℕ → Type 0) → ℕ → ℕ → ℕ → List Edit → List Edit → Type 0
LeaveChildren sites before Mine depth key count old new =
    (now : List ℕ) → AreThinned sites (applied now old) → HaveFewerCells before (applied now old)
    → ((q : ℕ) → IsDealtBelow Mine depth key count q → AreSeen before (applied now old) q)
    → IsDoneIn sites (applied now old) (applied now new) (IsDealtBelow Mine depth key count)
