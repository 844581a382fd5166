-- What stands below a word of a private octree, and its copy in cells of a pass.
use Rattle.std.specs.Prelude.{ℕ, ◌-◌, ◌<◌, ◌≤◌, ◌≡◌, List, ◌∷◌, length, Option, None, Some, cond, eqb}
use Rattle.octant_code.specs.declared.limits.TheConstants.{LEVELS}
use Rattle.octant_code.specs.Space.{Site, key_of, octant_of}
use Rattle.octant_code.specs.Points.{site_at}
use Rattle.bh_model.specs.Bodies.{IsIn, NoneTwice}
use Rattle.bh_model.specs.Trees.{octree_from, order}
use Rattle.tree_rule.specs.Words.{body_word}
use Rattle.octree.specs.Spot.{Spot, tree_under}

-- the bodies of a subtree, in tree order
abbrev pub bodies_under : Spot → List ℕ
bodies_under s = order (tree_under s)

-- the bodies of a list and the other one, if there is one
abbrev pub with_other : Option ℕ → List ℕ → List ℕ
with_other None bodies = bodies
with_other (Some x) bodies = x ∷ bodies

-- the word that names the other body, if there is one
abbrev pub other_word : Option ℕ → ℕ
other_word None = 0
other_word (Some x) = body_word x

-- the other body, if it has an octant
abbrev pub other_in : (ℕ → Site) → ℕ → ℕ → Option ℕ → Option ℕ
other_in site level k None = None
other_in site level k (Some x) = cond (eqb (octant_of (site x) level) k) (Some x) None

-- The subtree is the canonical octree of its bodies, which lie in the cube of a key of a level.
pub record IsPartAt (sites : List Site) (s : Spot) (key level : ℕ) : Type 0 where
  pub low : level ≤ LEVELS
  pub tree : tree_under s ≡ octree_from (site_at sites) (LEVELS - level) level (bodies_under s)
  pub once : NoneTwice (bodies_under s)
  pub bodies_in : (n : ℕ) → IsIn (bodies_under s) n → n < length sites
  pub under : (n : ℕ) → IsIn (bodies_under s) n → key ≡ key_of (site_at sites n) level

-- A body that is none of the subtree lies in its cube.
pub record IsOtherAt (sites : List Site) (s : Spot) (key level x : ℕ) : Type 0 where
  pub x_in : x < length sites
  pub under : key ≡ key_of (site_at sites x) level
  pub fresh : IsIn (bodies_under s) x → ⊥
