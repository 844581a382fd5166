-- Which cubes lie in which, by their keys, and the order of keys in a tree.
use Rattle.std.specs.Prelude.{ℕ, ◌+◌, ◌*◌, ◌/◌, ◌^◌, ◌<◌, ◌≤◌, ◌≡◌, suc, All, List, [], ◌∷◌}

-- a key is that of a cube of the level
abbrev pub IsKeyOfLevel : ℕ → ℕ → Type 0
IsKeyOfLevel level key = (8 ^ level ≤ key) × (key < 2 * 8 ^ level)

-- the cube of one key holds that of another, or is it: the one key is the other without some of its last digits to the base 8
abbrev pub IsPrefix : ℕ → ℕ → Type 0
IsPrefix one other = (1 ≤ one) × (down : ℕ) × (one ≡ other / 8 ^ down)

-- the cube of one key holds that of another, and isn't it
abbrev pub IsProperPrefix : ℕ → ℕ → Type 0
IsProperPrefix one other = (1 ≤ one) × (down : ℕ) × (one ≡ other / 8 ^ suc down)

-- one key stands before another in tree order, and neither cube holds the other: some cube has the one in an earlier octant
pub record IsBefore (one other : ℕ) : Type 0 where
  pub above : ℕ
  pub first : ℕ
  pub second : ℕ
  pub is_key : 1 ≤ above
  pub less : first < second
  pub small : second < 8
  pub holds_one : IsPrefix (8 * above + first) one
  pub holds_other : IsPrefix (8 * above + second) other

-- the keys stand in tree order, and no cube holds another
abbrev pub AreInTreeOrder : List ℕ → Type 0
AreInTreeOrder [] = Unit {0}
AreInTreeOrder (key ∷ rest) = All (IsBefore key) rest × AreInTreeOrder rest

-- no key of the list is a prefix of another one of it
abbrev pub HaveNoPrefixes : List ℕ → Type 0
HaveNoPrefixes [] = Unit {0}
HaveNoPrefixes (key ∷ rest) = All (λ other. (IsPrefix key other → ⊥) × (IsPrefix other key → ⊥)) rest × HaveNoPrefixes rest
