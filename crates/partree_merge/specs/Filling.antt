-- An octree into which the first bodies of a share were inserted.
use Rattle.std.specs.Prelude.{ℕ, ◌≡◌, ◌+◌, ◌*◌, ◌≤◌, ◌↔◌, List, take}
use Rattle.octant_code.specs.Space.{Site}
use Rattle.bh_model.specs.Bodies.{IsIn}
use Rattle.tree_rule.specs.Words.{HasBody}
use Rattle.tree_rule.specs.declared.words.TheConstants.{CELLS_OF_ONE}
use Rattle.octree.specs.Stored.{IsCanonical, Stored}

-- So many bodies of a share, from the front, were inserted into an octree that was empty, by at most 21 cells for each.
pub record IsFilled (sites : List Site) (share : List ℕ) (before own : Stored) (i : ℕ) : Type 0 where
  pub base : own.base ≡ 1
  pub canonical : IsCanonical sites own
  pub bodies : (x : ℕ) → HasBody own.words x ↔ IsIn (take i share) x
  pub held : own.held ≡ before.held
  pub used : own.used ≤ before.used + CELLS_OF_ONE * i
