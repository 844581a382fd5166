-- The cells of an octree that can't be reached, and the marks by which they are found.
use Rattle.std.specs.Prelude.{ℕ, ◌+◌, ◌<◌, ◌≡◌, ◌⊎◌, ◌↔◌, Bool, true, false, List, [], ◌∷◌, get_or, length}
use Rattle.bh_model.specs.Bodies.{IsIn}
use Rattle.bh_model.specs.Trees.{cell_count}
use Rattle.octree.specs.Stored.{Stored, tree_of}
use Rattle.octree.specs.Spot.{IsCellUnder, IsReachable, Spot}

-- each number of the list is less than those behind it
abbrev pub IsRising : List ℕ → Type 0
IsRising [] = Unit {0}
IsRising (x ∷ xs) = ((y : ℕ) → IsIn xs y → x < y) × IsRising xs

-- The numbers are those of the cells that an octree holds and that can't be reached, in order. With the cells of its tree they are all that it holds.
pub record AreFreeCells (o : Stored) (free : List ℕ) : Type 0 where
  pub rising : IsRising free
  pub each : (c : ℕ) → IsIn free c ↔ ((c < o.held) × (IsReachable o c → ⊥))
  pub count : o.held ≡ length free + cell_count (tree_of o)

-- the number is marked
abbrev pub IsMarked : List Bool → ℕ → Type 0
IsMarked marks c = get_or marks c false ≡ true

-- the cells of a subtree are marked, and no others than before
abbrev pub AreMarked : Spot → List Bool → List Bool → Type 0
AreMarked s before after = (c : ℕ) → IsMarked after c ↔ (IsMarked before c ⊎ IsCellUnder s c)

-- the numbers are those below a count that are not marked, in order
pub record AreUnmarked (marks : List Bool) (count : ℕ) (list : List ℕ) : Type 0 where
  pub rising : IsRising list
  pub each : (c : ℕ) → IsIn list c ↔ ((c < count) × (IsMarked marks c → ⊥))
