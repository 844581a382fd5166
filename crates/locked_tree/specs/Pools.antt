-- Where passes take cells from.
use Rattle.std.specs.Prelude.{ℕ, ◌≡◌, ◌+◌, ◌*◌, ◌≤◌, List, []}
use Rattle.tree_rule.specs.declared.words.TheConstants.{CELLS_OF_ONE, MOST_CELLS}
use Rattle.octree.specs.Stored.{Stored}
use Rattle.shared_tree.specs.Ends.{AreHandedOut}
use Rattle.locked_tree.specs.declared.yard.Pool.{Pool}
use Rattle.locked_tree.specs.declared.yard.Pool.TheVariants as pool

-- With the shared pool the cells that a start holds and 21 for each of so many bodies have room in one table. With regions they always have.
abbrev pub HasRoom : Pool → ℕ → ℕ → Type 0
HasRoom pool.Shared held bodies = held + CELLS_OF_ONE * bodies ≤ MOST_CELLS
HasRoom pool.Regions held bodies = Unit {0}

-- How the cells of a table are dealt out for so many bodies: which make the region, how many there are, and where the pool begins that gives out a quota.
abbrev pub AreDealtOut : Pool → Stored → ℕ → List ℕ → ℕ → ℕ → ℕ → Type 0
AreDealtOut pool.Shared start bodies region cells first quota =
    (region ≡ []) × (cells ≡ first + quota) × (first ≡ start.held) × (quota ≡ CELLS_OF_ONE * bodies)
AreDealtOut pool.Regions start bodies region cells first quota =
    AreHandedOut start (CELLS_OF_ONE * bodies) region cells × (first ≡ cells) × (quota ≡ 0)
