-- The moments of the cells of a subtree, as they are filled in.
use Rattle.std.specs.Prelude.{ℕ, ◌*◌, ◌≤◌, ◌≡◌, List}
use Rattle.bh_model.specs.Moments.{Matter, moment}
use Rattle.bh_model.specs.declared.moment.Moment.{Moment}
use Rattle.octree.specs.Spot.{IsCellUnder, Spot, tree_below}
use Rattle.mass_moments.specs.Kept.{moment_at}

-- the products of a moment are those of bodies in the cube
pub record AreProductsInCube (m : Moment) : Type 0 where
  pub x : m.px ≤ 2097151 * m.mass
  pub y : m.py ≤ 2097151 * m.mass
  pub z : m.pz ≤ 2097151 * m.mass

-- the cells of a subtree have their moments, and the other entries stay
pub record AreFilled (m : Matter) (cost : ℕ → ℕ) (s : Spot) (before after : List Moment) : Type 0 where
  pub own : (c : ℕ) → IsCellUnder s c → moment_at after c ≡ moment m cost (tree_below s.octree c)
  pub others : (c : ℕ) → (IsCellUnder s c → ⊥) → moment_at after c ≡ moment_at before c
