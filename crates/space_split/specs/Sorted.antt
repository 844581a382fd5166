-- The bodies in the order of their points' codes.
use Rattle.std.specs.Prelude.{ℕ, ◌≡◌, All, List, length, map, slice_index}
use Rattle.std.specs.List.Sorted.{IsNonDecreasingBy, IsPermutation}
use Rattle.octant_code.specs.Points.{site_at}
use Rattle.octant_code.specs.Space.{Site, key_of}
use Rattle.bh_model.specs.Bodies.{numbers}
use Rattle.space_split.specs.declared.codes.Coded.{Coded}

-- a body with its point's code: the key of the point at the last level
abbrev pub coded_of : (ℕ → Site) → ℕ → Coded
coded_of site n = record { code = key_of (site n) 21; body = n }

-- a body with its code in a list of codes by the bodies' numbers
abbrev pub coded_in : List ℕ → ℕ → Coded
coded_in codes n = record { code = slice_index codes n; body = n }

-- Each number of a point stands in the list once, with the point's code, the least code first.
pub record AreSorted (sites : List Site) (bodies : List Coded) : Type 0 where
  pub all : IsPermutation (numbers (length sites)) (map (λ b. b.body) bodies)
  pub coded : All (λ b. b.code ≡ key_of (site_at sites b.body) 21) bodies
  pub rising : IsNonDecreasingBy (λ b. b.code) bodies
