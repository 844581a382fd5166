-- How the cells of the canonical octree of points stand.
use Rattle.std.specs.Prelude.{ℕ, ◌-◌, ◌<◌, ◌≤◌}
use Rattle.bh_model.specs.Moments.{total}
use Rattle.bh_model.specs.Trees.{Tree, Empty, Body, Cell}

-- the tree of a cube of side 2 ^ down: each body is one of so many, each cell has a cube to divide and two bodies
unfoldable pub Stands : ℕ → ℕ → Tree → Type 0
Stands most down Empty = Unit {0}
Stands most down (Body n) = n < most
Stands most down (Cell a b c d e f g h) =
    (1 ≤ down) × (2 ≤ total (λ n. 1) (Cell a b c d e f g h)) × Stands most (down - 1) a × Stands most (down - 1) b × Stands most (down - 1) c
    × Stands most (down - 1) d
    × Stands most (down - 1) e × Stands most (down - 1) f × Stands most (down - 1) g × Stands most (down - 1) h
