-- The pull of a tree on a body (Barnes and Hut, Nature 324, 1986, in whole numbers): the law, the term of one mass, which
-- cells are taken whole, and their sum.
use Rattle.std.specs.Prelude.{ℕ, ◌+◌, ◌-◌, ◌*◌, ◌^◌, ◌<◌, ◌≤◌, ◌&&◌, ℤ, pos, neg_ℤ, ◌+ℤ◌, ◌-ℤ◌, ◌*ℤ◌, ◌≤ℤ◌, Bool, not, nat_eq, nat_lt, if◌then◌else◌}
use Rattle.octant_code.specs.declared.limits.TheConstants.{LEVELS}
use Rattle.octant_code.specs.Space.{Site, key_of, squared_distance}
use Rattle.octant_code.specs.Numbers.{quotient, root}
use Rattle.bh_model.specs.Trees.{Tree, Empty, Body, Cell}
use Rattle.bh_model.specs.Moments.{Matter, centre, mass_of}
use Rattle.bh_model.specs.declared.pull.Pull.{Pull}

-- the numbers of the pulls: the opening angle theta as a fraction, the square of the softening length, and the constant of gravitation
pub record PullLaw : Type 0 where
  pub theta_num : ℕ
  pub theta_den : ℕ
  pub eps2 : ℕ
  pub g : ℕ

pub record IsPullLaw (l : PullLaw) : Type 0 where
  pub theta_num_fits : l.theta_num ≤ 65535
  pub theta_den_is_positive : 1 ≤ l.theta_den
  pub theta_den_fits : l.theta_den ≤ 65535
  pub eps2_fits : l.eps2 < 2 ^ 44
  pub g_fits : l.g ≤ 2 ^ 40

-- ---- one term

-- one coordinate of a term: `scale` times the way from a coordinate to another, divided, and rounded towards zero
unfoldable pub component : ℕ → ℕ → ℕ → ℕ → ℤ
component scale from to divisor = quotient (pos scale *ℤ (pos to -ℤ pos from)) divisor

-- the term of a mass at a point on a body at another: g * mass * d / (r2 * r) in each coordinate, with d the way to the mass,
-- r2 the squared distance and the softening, and r its root
unfoldable pub term : PullLaw → ℕ → Site → Site → Pull
term law mass from to =
    let r2 : ℕ = squared_distance from to + law.eps2 in
    let divisor : ℕ = r2 * root r2 in
    record {
      ax = component (law.g * mass) from.x to.x divisor;
      ay = component (law.g * mass) from.y to.y divisor;
      az = component (law.g * mass) from.z to.z divisor;
      met = 1;
    }

-- ---- sums of terms

-- the sum of no terms
abbrev pub no_pull : Pull
no_pull = record { ax = pos 0; ay = pos 0; az = pos 0; met = 0 }

-- the sum of two pulls
abbrev pub add_pull : Pull → Pull → Pull
add_pull p q = record { ax = p.ax +ℤ q.ax; ay = p.ay +ℤ q.ay; az = p.az +ℤ q.az; met = p.met + q.met }

abbrev pub sum_of_eight : Pull → Pull → Pull → Pull → Pull → Pull → Pull → Pull → Pull
sum_of_eight a b c d e f g h =
    add_pull (add_pull (add_pull (add_pull (add_pull (add_pull (add_pull (add_pull no_pull a) b) c) d) e) f) g) h

-- ---- the pull of a tree

-- a centre is far from a body for a cube of side s = 2 ^ down: s / distance < theta, without a division
abbrev pub is_far : PullLaw → ℕ → Site → Site → Bool
is_far law down from to =
    nat_lt (2 ^ down * 2 ^ down * (law.theta_den * law.theta_den)) (law.theta_num * law.theta_num * squared_distance from to)

-- a cell of side 2 ^ down is taken whole by a body: the body's point is outside the cube of the cell's key, and the cell's centre is far
unfoldable pub is_whole : PullLaw → ℕ → ℕ → Site → Site → Bool
is_whole law down key from to = not (nat_eq (key_of from (LEVELS - down)) key) && is_far law down from to

-- the pull on body `n` of a tree whose cube has side 2 ^ down and a key: nothing of no body and of the body itself, the term of another body,
-- the term of a cell's mass at its centre where the cell is taken whole, and else the sum of the pulls of its children
unfoldable pub pull_from : PullLaw → Matter → ℕ → ℕ → ℕ → Tree → Pull
pull_from law m n down key Empty = no_pull
pull_from law m n down key (Body j) = if nat_eq j n then no_pull else term law (m.mass j) (m.site n) (m.site j)
pull_from law m n down key (Cell a b c d e f g h) =
    (let cell : Tree = Cell a b c d e f g h in
    if is_whole law down key (m.site n) (centre m cell) then term law (mass_of m cell) (m.site n) (centre m cell) else
    sum_of_eight (pull_from law m n (down - 1) (8 * key + 0) a) (pull_from law m n (down - 1) (8 * key + 1) b) (pull_from law m n (down - 1) (8 * key + 2) c)
    (pull_from law m n (down - 1) (8 * key + 3) d) (pull_from law m n (down - 1) (8 * key + 4) e) (pull_from law m n (down - 1) (8 * key + 5) f)
    (pull_from law m n (down - 1) (8 * key + 6) g) (pull_from law m n (down - 1) (8 * key + 7) h))

-- the pull on body `n` of a tree of the whole cube
abbrev pub pull : PullLaw → Matter → ℕ → Tree → Pull
pull law m n tree = pull_from law m n LEVELS 1 tree

-- ---- how large pulls are

-- a number lies between minus a bound and the bound
pub record IsWithin (bound : ℕ) (z : ℤ) : Type 0 where
  pub low : neg_ℤ (pos bound) ≤ℤ z
  pub high : z ≤ℤ pos bound

-- each component of a pull lies between minus a bound and the bound, and it has at most so many terms
pub record IsSmall (bound terms : ℕ) (p : Pull) : Type 0 where
  pub x : IsWithin bound p.ax
  pub y : IsWithin bound p.ay
  pub z : IsWithin bound p.az
  pub met : p.met ≤ terms
