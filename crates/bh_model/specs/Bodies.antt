-- Lists of bodies. A body is a number, and a function gives the point of each.
use Rattle.std.specs.Prelude.{ℕ, ◌≡◌, ◌⊎◌, List, [], ◌∷◌, ◌++◌, filter, length, nat_eq, not, zero, suc}
use Rattle.std.specs.List.{list_any}
use Rattle.octant_code.specs.Space.{Site, IsUnder}

-- the body is a member of the list
abbrev pub IsIn : List ℕ → ℕ → Type 0
IsIn [] n = ⊥
IsIn (x ∷ xs) n = (n ≡ x) ⊎ IsIn xs n

-- no body stands twice in the list
abbrev pub NoneTwice : List ℕ → Type 0
NoneTwice [] = Unit {0}
NoneTwice (x ∷ xs) = (IsIn xs x → ⊥) × NoneTwice xs

-- the numbers below a number, in order
unfoldable pub numbers : ℕ → List ℕ
numbers zero = []
numbers (suc n) = numbers n ++ (n ∷ [])

-- the members of a list that another doesn't have
abbrev pub without : List ℕ → List ℕ → List ℕ
without list others = filter (λ n. not (list_any (λ x. nat_eq x n) others)) list

-- how many bodies a leaf holds
abbrev pub leaf_size : ℕ
leaf_size = 1

-- Of more numbers than a size it is so: of each number of a list that has one number more than the size says, none twice.
pub record HasMoreThan (size : ℕ) (IsIt : ℕ → Type 0) : Type 0 where
  pub them : List ℕ
  pub count : length them ≡ suc size
  pub once : NoneTwice them
  pub each : (n : ℕ) → IsIn them n → IsIt n

-- more bodies of the list lie under the key than a leaf holds
abbrev pub HasMoreUnder : (ℕ → Site) → List ℕ → ℕ → Type 0
HasMoreUnder site bodies key = HasMoreThan leaf_size (λ n. IsIn bodies n × IsUnder key (site n))
