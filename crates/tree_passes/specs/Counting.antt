-- How often a number stands in a list, sums over lists, and lists with members left out.
use Rattle.std.specs.Prelude.{ℕ, ◌≡◌, ◌+◌, ◌⊎◌, zero, suc, cond, eqb, List, [], ◌∷◌, ◌++◌}

-- 1 where the numbers are one, and else 0
abbrev pub same : ℕ → ℕ → ℕ
same x y = cond (eqb x y) 1 0

-- how often a number stands in a list
abbrev pub times : ℕ → List ℕ → ℕ
times x [] = 0
times x (y ∷ ys) = same y x + times x ys

-- the sum of a number of each member
abbrev pub sum_of : {A : Type 0} → (A → ℕ) → List A → ℕ
sum_of f [] = 0
sum_of f (a ∷ as') = f a + sum_of f as'

-- the lists of all members, one after another
abbrev pub all_of : {A : Type 0} → (A → List ℕ) → List A → List ℕ
all_of f [] = []
all_of f (a ∷ as') = f a ++ all_of f as'

-- so many numbers from one on
abbrev pub numbers_from : ℕ → ℕ → List ℕ
numbers_from n zero = []
numbers_from n (suc count) = n ∷ numbers_from (n + 1) count

-- the list has the member
abbrev pub Has : {A : Type 0} → List A → A → Type 0
Has [] a = ⊥
Has (b ∷ bs) a = (b ≡ a) ⊎ Has bs a

-- the list without the first x
abbrev pub without : ℕ → List ℕ → List ℕ
without x [] = []
without x (y ∷ ys) = cond (eqb y x) ys (y ∷ without x ys)

-- the list without the first of each member of another
abbrev pub without_all : List ℕ → List ℕ → List ℕ
without_all [] l = l
without_all (x ∷ xs) l = without_all xs (without x l)
