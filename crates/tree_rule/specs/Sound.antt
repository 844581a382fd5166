-- The rule that octree words keep by themselves, with no points.
use Rattle.std.specs.Prelude.{ℕ, ◌+◌, ◌-◌, ◌*◌, ◌^◌, ◌<◌, ◌≡◌}
use Rattle.octant_code.specs.declared.limits.TheConstants.{LEVELS}
use Rattle.octant_code.specs.Space.{Site, IsUnder}
use Rattle.bh_model.specs.Bodies.{HasMoreThan, leaf_size}
use Rattle.tree_rule.specs.Words.{child_place, key_place, body_word, cell_word, IsReached}

-- A word that is read on the way down from the top word, with the key of its cube.
pub data IsReachedAs (at : ℕ → ℕ) (top base : ℕ) : ℕ → ℕ → Type 0 where
  HereAs : (key w : ℕ) → key ≡ base → w ≡ top → IsReachedAs at top base key w
  BelowAs : (c k parent key w : ℕ) → IsReachedAs at top base parent (cell_word c) → k < 8 → key ≡ 8 * parent + k → w ≡ at (child_place c k)
      → IsReachedAs at top base key w

-- more bodies are read below a word than a leaf holds
abbrev pub HasMoreBodies : (ℕ → ℕ) → ℕ → Type 0
HasMoreBodies at top = HasMoreThan leaf_size (λ n. IsReached at top (body_word n))

-- The rule of octree words, with no points: each cell that is read has the key of its cube, which is of one of the levels of cells,
-- each body is read in one cube alone, and more bodies are read below each cell than a leaf holds.
pub record IsSound (at : ℕ → ℕ) (top base : ℕ) : Type 0 where
  pub keys_follow : (key c : ℕ) → IsReachedAs at top base key (cell_word c) → at (key_place c) ≡ key
  pub shallow : (key c : ℕ) → IsReachedAs at top base key (cell_word c) → key < 2 * 8 ^ (LEVELS - 1)
  pub bodies_once : (key key' n : ℕ) → IsReachedAs at top base key (body_word n) → IsReachedAs at top base key' (body_word n) → key ≡ key'
  pub more_bodies : (key c : ℕ) → IsReachedAs at top base key (cell_word c) → HasMoreBodies at (cell_word c)

-- Each body's point lies in the cube of its word.
abbrev pub BodiesUnder : (ℕ → Site) → (ℕ → ℕ) → ℕ → ℕ → Type 0
BodiesUnder site at top base = (key n : ℕ) → IsReachedAs at top base key (body_word n) → IsUnder key (site n)
