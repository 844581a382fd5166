-- What follows from the rule of a list of points: different numbers have different sites, so that two of them share no cube of the last level.
use Rattle.std.proofs.Common.{ℕ, ◌<◌, ◌≤◌, ◌≡◌, ◌≢◌, sym, subst, inl, inr, arith, List, length}
use Rattle.std.proofs.lemmas.Bool.{cases_lt}
use Rattle.std.proofs.lemmas.List.Elements.{All-get_or}
use Rattle.octant_code.specs.Space.{IsInCube, Site, key_of, origin}
use Rattle.octant_code.specs.Points.{ArePoints, site_at}
use Rattle.octant_code.proofs.InCube.{same_site}

-- the site of each number is in the cube
pub site_inside : (sites : List Site) (n : ℕ) → ArePoints sites → n < length sites → IsInCube (site_at sites n)
site_inside sites n rule within = All-get_or IsInCube sites n origin within rule.in_cube

-- two numbers of a list of points have different sites
pub sites_differ : (sites : List Site) (x n : ℕ) → ArePoints sites → x < length sites → n < length sites → x ≢ n → site_at sites x ≢ site_at sites n
sites_differ sites x n rule x_in n_in differ =
    elim (cases_lt x n) [
      | inl before ↦ rule.apart x n before n_in
      | inr not_before ↦ λ e. rule.apart n x (omega arith) x_in (sym e)
    ]

-- two numbers whose sites share a cube: it is not of the last level, where a cube is a point
pub level_shallow : (sites : List Site) (x n level : ℕ) → ArePoints sites → x < length sites → n < length sites → x ≢ n → level ≤ 21
    → key_of (site_at sites x) level ≡ key_of (site_at sites n) level → level ≤ 20
level_shallow sites x n level rule x_in n_in differ deep keys =
    elim (cases_lt level 21) [
      | inl shallow ↦ omega arith
      | inr last ↦
          let whole : level ≡ 21 = omega arith in
          let both : key_of (site_at sites x) 21 ≡ key_of (site_at sites n) 21 = subst (λ (y : ℕ). key_of (site_at sites x) y ≡ key_of (site_at sites n) y)
          whole keys in
          absurd (sites_differ sites x n rule x_in n_in differ
          (same_site (site_at sites x) (site_at sites n) (site_inside sites x rule x_in) (site_inside sites n rule n_in) both))
    ]
