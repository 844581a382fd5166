-- Costs of bodies, and the zones that the workers have of a tree (costzones: Singh, Holt, Totsuka, Gupta and Hennessy, JPDC 1995).
use Rattle.std.specs.Prelude.{ℕ, ◌+◌, ◌*◌, ◌/◌, ◌≡◌, ◌<◌, ◌≤◌, List, [], ◌∷◌, map, nat_eq, replicate, slice_index, sum_by, if◌then◌else◌}
use Rattle.octant_code.specs.declared.limits.TheConstants.{MOST_BODIES}
use Rattle.bh_model.specs.Bodies.{IsIn, numbers}
use Rattle.bh_model.specs.Trees.{Tree, greatest, order}
use Rattle.bh_model.specs.declared.pull.Pull.{Pull}

-- the costs of so many bodies in the first frame: each is 1
abbrev pub first_costs : ℕ → List ℕ
first_costs count = replicate count 1

-- the cost of a body after a frame: 1, and the number of terms of its pull in that frame
abbrev pub cost_after : Pull → ℕ
cost_after p = 1 + p.met

-- a cost is from 1 to the greatest number of bodies
pub record IsCost (cost : ℕ) : Type 0 where
  pub positive : 1 ≤ cost
  pub small : cost ≤ MOST_BODIES

-- the cost of a body, by a list of costs
abbrev pub cost_at : List ℕ → ℕ → ℕ
cost_at costs n = slice_index costs n

-- the cost of a list of bodies
abbrev pub cost_of : (ℕ → ℕ) → List ℕ → ℕ
cost_of cost bodies = sum_by cost bodies

-- the bodies of zone w among bodies before which the bodies of some cost stand: those whose share of the whole cost, rounded down, is w
unfoldable pub zone_from : (ℕ → ℕ) → ℕ → ℕ → ℕ → List ℕ → ℕ → List ℕ
zone_from cost workers whole before [] w = []
zone_from cost workers whole before (n ∷ rest) w =
    if nat_eq (before * workers / whole) w then n ∷ zone_from cost workers whole (before + cost n) rest w
    else zone_from cost workers whole (before + cost n) rest w

-- zone w of so many workers: its bodies in tree order
abbrev pub zone : (ℕ → ℕ) → ℕ → ℕ → Tree → List ℕ
zone cost workers w tree = zone_from cost workers (cost_of cost (order tree)) 0 (order tree) w

-- the zones of all workers, one after another
abbrev pub zones : (ℕ → ℕ) → ℕ → Tree → List (List ℕ)
zones cost workers tree = map (λ w. zone cost workers w tree) (numbers workers)

-- the greatest cost of a zone, 0 where there is no body
abbrev pub greatest_cost : (ℕ → ℕ) → ℕ → Tree → ℕ
greatest_cost cost workers tree = greatest (map (λ w. cost_of cost (zone cost workers w tree)) (numbers workers))

-- a body is in exactly one zone
pub record IsInOneZone (cost : ℕ → ℕ) (workers : ℕ) (tree : Tree) (n : ℕ) : Type 0 where
  pub own : ℕ
  pub is_worker : own < workers
  pub inside : IsIn (zone cost workers own tree) n
  pub only : (w : ℕ) → IsIn (zone cost workers w tree) n → w ≡ own
