-- Moments: sums over the bodies of a tree, and the centre of mass.
use Rattle.std.specs.Prelude.{ℕ, ◌+◌, ◌*◌, ◌/◌, ◌^◌, ◌<◌, List, slice_index}
use Rattle.octant_code.specs.Points.{site_at}
use Rattle.octant_code.specs.Space.{Site}
use Rattle.bh_model.specs.Trees.{Tree, Empty, Body, Cell}
use Rattle.bh_model.specs.declared.moment.Moment.{Moment}

-- the mass and the point of each body, by its number
pub record Matter : Type 0 where
  pub mass : ℕ → ℕ
  pub site : ℕ → Site

-- the matter of a list of masses and a list of sites
abbrev pub matter_by : List ℕ → List Site → Matter
matter_by masses sites = record { mass = λ n. slice_index masses n; site = site_at sites }

-- the sum of a quantity over the bodies of a tree
unfoldable pub total : (ℕ → ℕ) → Tree → ℕ
total quantity Empty = 0
total quantity (Body n) = quantity n
total quantity (Cell a b c d e f g h) =
    total quantity a + total quantity b + total quantity c + total quantity d + total quantity e + total quantity f + total quantity g + total quantity h

-- the mass of a tree's bodies
abbrev pub mass_of : Matter → Tree → ℕ
mass_of m tree = total m.mass tree

-- the moment of a tree: the sums of its bodies' masses, of their masses times each coordinate, of 1, and of their costs
abbrev pub moment : Matter → (ℕ → ℕ) → Tree → Moment
moment m cost tree = record {
  mass = mass_of m tree;
  px = total (λ n. m.mass n * (m.site n).x) tree;
  py = total (λ n. m.mass n * (m.site n).y) tree;
  pz = total (λ n. m.mass n * (m.site n).z) tree;
  bodies = total (λ n. 1) tree;
  cost = total cost tree;
}

-- the centre of mass of a moment with mass, each coordinate rounded down
abbrev pub centre_of : Moment → Site
centre_of m = record { x = m.px / m.mass; y = m.py / m.mass; z = m.pz / m.mass }

-- the centre of mass of a tree with mass
abbrev pub centre : Matter → Tree → Site
centre m tree = centre_of (moment m (λ n. 0) tree)

-- ---- sums of moments

-- the moment of no body
abbrev pub no_moment : Moment
no_moment = record { mass = 0; px = 0; py = 0; pz = 0; bodies = 0; cost = 0 }

-- the moment of one body, by its mass, its point and its cost
abbrev pub moment_of_body : ℕ → Site → ℕ → Moment
moment_of_body mass at cost = record {
  mass = mass;
  px = mass * at.x;
  py = mass * at.y;
  pz = mass * at.z;
  bodies = 1;
  cost = cost;
}

-- the sum of two moments
abbrev pub add_moment : Moment → Moment → Moment
add_moment a b = record {
  mass = a.mass + b.mass;
  px = a.px + b.px;
  py = a.py + b.py;
  pz = a.pz + b.pz;
  bodies = a.bodies + b.bodies;
  cost = a.cost + b.cost;
}

-- each sum of a moment fits its word
pub record FitsWords (m : Moment) : Type 0 where
  pub mass : m.mass < 2 ^ 64
  pub px : m.px < 2 ^ 64
  pub py : m.py < 2 ^ 64
  pub pz : m.pz < 2 ^ 64
  pub bodies : m.bodies < 2 ^ 32
  pub cost : m.cost < 2 ^ 64
