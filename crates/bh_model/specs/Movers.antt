-- The bodies that leave their cells when all bodies move, and what the octrees before and after have in common (UPDATE of Shan and Singh, IPPS
-- 1998, in outline; the counts are this project's own).
use Rattle.std.specs.Prelude.{ℕ, ◌+◌, ◌*◌, Bool, not, nat_eq, if◌then◌else◌, List, [], ◌∷◌, ◌++◌, filter, length}
use Rattle.std.specs.List.{list_any}
use Rattle.octant_code.specs.declared.limits.TheConstants.{LEVELS}
use Rattle.octant_code.specs.Space.{Site, key_of}
use Rattle.bh_model.specs.Bodies.{numbers, without}
use Rattle.bh_model.specs.Trees.{Tree, Empty, Body, Cell, cell_keys_from, octree}
use Rattle.bh_model.specs.declared.update.UpdateCounts.{UpdateCounts}

-- whether a point lies in the cube of a key
abbrev pub is_under : ℕ → Site → Bool
is_under key s = list_any (λ level. nat_eq key (key_of s level)) (numbers (LEVELS + 1))

-- the keys of the words that name a body, of a tree whose own word has a key: one for a body of an octree
unfoldable pub leaf_keys_from : ℕ → Tree → ℕ → List ℕ
leaf_keys_from n Empty key = []
leaf_keys_from n (Body m) key = if nat_eq m n then key ∷ [] else []
leaf_keys_from n (Cell a b c d e f g h) key =
    leaf_keys_from n a (8 * key + 0) ++ leaf_keys_from n b (8 * key + 1) ++ leaf_keys_from n c (8 * key + 2) ++ leaf_keys_from n d (8 * key + 3)
    ++ leaf_keys_from n e (8 * key + 4) ++ leaf_keys_from n f (8 * key + 5) ++ leaf_keys_from n g (8 * key + 6) ++ leaf_keys_from n h (8 * key + 7)

-- whether the new point of a body lies in the cube of its word in the old octree
abbrev pub keeps_leaf : (ℕ → Site) → (ℕ → Site) → List ℕ → ℕ → Bool
keeps_leaf old new bodies n = list_any (λ key. is_under key (new n)) (leaf_keys_from n (octree old bodies) 1)

-- the bodies that leave their cells
abbrev pub movers : (ℕ → Site) → (ℕ → Site) → List ℕ → List ℕ
movers old new bodies = filter (λ n. not (keeps_leaf old new bodies n)) bodies

-- all other bodies
abbrev pub remaining : (ℕ → Site) → (ℕ → Site) → List ℕ → List ℕ
remaining old new bodies = filter (λ n. keeps_leaf old new bodies n) bodies

-- what stays: the canonical octree of the bodies that don't leave, at their new points
abbrev pub stay : (ℕ → Site) → (ℕ → Site) → List ℕ → Tree
stay old new bodies = octree new (remaining old new bodies)

-- how many cells one octree has that another has not, by their keys
abbrev pub cells_without : Tree → Tree → ℕ
cells_without tree other = length (without (cell_keys_from tree 1) (cell_keys_from other 1))

-- how many bodies leave, and how many cells the octrees before and after have beyond what stays
abbrev pub update_counts : (ℕ → Site) → (ℕ → Site) → List ℕ → UpdateCounts
update_counts old new bodies = record {
  left = length (movers old new bodies);
  freed = cells_without (octree old bodies) (stay old new bodies);
  taken = cells_without (octree new bodies) (stay old new bodies);
}
