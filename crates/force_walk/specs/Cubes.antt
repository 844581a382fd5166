-- The trees of the cubes that are met on the way down.
use Rattle.std.specs.Prelude.{ℕ, ◌+◌, ◌*◌, ◌^◌, ◌<◌, ◌≤◌}
use Rattle.octant_code.specs.declared.limits.TheConstants.{LEVELS}
use Rattle.bh_model.specs.Moments.{Matter, mass_of, total}
use Rattle.bh_model.specs.Standing.{Stands}
use Rattle.bh_model.specs.Trees.{Tree}

-- the tree of a cube whose side is 2 ^ down: its bodies are some of so many with masses, and they are light and few
pub record IsTreeOfCube (m : Matter) (most down : ℕ) (tree : Tree) : Type 0 where
  pub stands : Stands most down tree
  pub shallow : down ≤ LEVELS
  pub heavy : (n : ℕ) → n < most → 0 < m.mass n
  pub light : mass_of m tree < 2 ^ 40
  pub few : total (λ n. 1) tree ≤ 65536

-- a key leaves room for those of the cubes in a cube of side 2 ^ down
abbrev pub HasRoom : ℕ → ℕ → Type 0
HasRoom down key = (key + 1) * 8 ^ down ≤ 2 ^ 64
