-- What workers that merge are given, and how often they publish.
use Rattle.std.specs.Prelude.{ℕ, ◌≡◌, ◌<◌, ◌≤◌, ◌*◌, ◌↔◌, List, length, min}
use Rattle.octant_code.specs.Space.{Site}
use Rattle.octant_code.specs.Points.{site_at}
use Rattle.bh_model.specs.Blocks.{blocks, others_than}
use Rattle.bh_model.specs.Bodies.{IsIn, NoneTwice}
use Rattle.tree_rule.specs.declared.words.TheConstants.{CELLS_OF_ONE}
use Rattle.octree.specs.Stored.{root_word, spare_of, Stored}
use Rattle.tree_passes.specs.Counting.{sum_of}
use Rattle.tree_passes.specs.Opening.{all_bodies}
use Rattle.shared_tree.specs.Seen.{SharedTree}

-- The tree has these points and was opened empty, with all their numbers to be put in; the share has some of these, each once.
pub record CanMerge (sites : List Site) (t : SharedTree) (share : List ℕ) : Type 0 where
  pub points : t.opening.sites ≡ sites
  pub bodies : (x : ℕ) → IsIn (all_bodies t.opening) x ↔ (x < length sites)
  pub once : NoneTwice share
  pub within : (x : ℕ) → IsIn share x → x < length sites

-- and the worker has an empty octree of the whole cube, with cells enough
pub record IsPrepared (sites : List Site) (t : SharedTree) (share : List ℕ) (own : Stored) : Type 0 where
  pub serves : CanMerge sites t share
  pub base : own.base ≡ 1
  pub empty : root_word own ≡ 0
  pub spare : CELLS_OF_ONE * length share ≤ spare_of own

-- a share is published at least once where it has a body, and at most as often as it has blocks against all other bodies
abbrev pub MayPublish : List Site → List ℕ → ℕ → Type 0
MayPublish sites share count = (min 1 (length share) ≤ count) × (count ≤ blocks (site_at sites) share (others_than (length sites) share))

-- how many of the shares hold a body
abbrev pub holders : List (List ℕ) → ℕ
holders shares = sum_of (λ s. min 1 (length s)) shares
