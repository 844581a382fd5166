-- The moments of the cells of an octree, by the numbers of the cells.
use Rattle.std.specs.Prelude.{ℕ, ◌<◌, ◌≡◌, List, length, slice_index_or}
use Rattle.octant_code.specs.Points.{site_at}
use Rattle.bh_model.specs.Moments.{Matter, centre, centre_of, mass_of, moment, no_moment, total}
pub use Rattle.bh_model.specs.Zones.{IsCost, cost_at}
use Rattle.bh_model.specs.declared.moment.Moment.{Moment}
use Rattle.octree.specs.Stored.{Stored}
use Rattle.octree.specs.Spot.{IsReachable, tree_below}
use Rattle.scene_file.specs.Bodies.{body_at, sites_of}
use Rattle.scene_file.specs.declared.bodies.Body.{Body}

-- the masses and the points of a scene's bodies
abbrev pub matter_of : List Body → Matter
matter_of bodies = record { mass = λ n. (body_at bodies n).mass; site = site_at (sites_of bodies) }

-- the moment of a cell's number; that of no body past the list's end
abbrev pub moment_at : List Moment → ℕ → Moment
moment_at moments c = slice_index_or moments c no_moment

-- each cell that can be reached has its moment in the list
pub record AreMoments (o : Stored) (m : Matter) (cost : ℕ → ℕ) (moments : List Moment) : Type 0 where
  pub within : (c : ℕ) → IsReachable o c → c < length moments
  pub each : (c : ℕ) → IsReachable o c → moment_at moments c ≡ moment m cost (tree_below o c)

-- each cell that can be reached has its cost in the list, whatever else its moment says
pub record HaveCosts (o : Stored) (cost : ℕ → ℕ) (moments : List Moment) : Type 0 where
  pub within : (c : ℕ) → IsReachable o c → c < length moments
  pub cost_is : (c : ℕ) → IsReachable o c → (moment_at moments c).cost ≡ total cost (tree_below o c)

-- each cell that can be reached has its mass and its centre of mass in the list, whatever else its moment says
pub record HaveMatter (o : Stored) (m : Matter) (moments : List Moment) : Type 0 where
  pub within : (c : ℕ) → IsReachable o c → c < length moments
  pub mass_is : (c : ℕ) → IsReachable o c → (moment_at moments c).mass ≡ mass_of m (tree_below o c)
  pub centre_is : (c : ℕ) → IsReachable o c → centre_of (moment_at moments c) ≡ centre m (tree_below o c)
