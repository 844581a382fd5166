-- A canonical octree has at most one cell of each level for each of its bodies.
use Rattle.std.proofs.Common.{ℕ, ◌+◌, ◌*◌, ◌≤◌, ◌≡◌, ◌≢◌, zero, suc, refl, sym, inl, inr, ap, arith, List, [], ◌∷◌, eqb, length}
use Rattle.std.proofs.Math.Nat.{mul-le-mul_left}
use Rattle.std.proofs.lemmas.Bool.{cases_Bool, cases_lt, eqb-true}
use Rattle.octant_code.specs.Space.{Site, octant_of}
use Rattle.bh_model.specs.Trees.{Tree, cell_count, in_octant, octree_from}
use Rattle.bh_model.proofs.Folds.{count_none, count_one, counts, counts_all}
use Rattle.bh_model.proofs.Totals.{sum_upto, sum_upto-same}
use Rattle.bh_model.proofs.Trees.{octree-none, octree-one, octree-deep, octree-many}

-- a sum of which one value grows by one, and no other does
sum_grows : (f g : ℕ → ℕ) (o n : ℕ) → ((k : ℕ) → k ≢ o → f k ≡ g k) → f o ≤ suc (g o) → sum_upto f n ≤ suc (sum_upto g n)
unfolding sum_upto
sum_grows f g o zero others one = omega arith
sum_grows f g o (suc n) others one =
    elim (cases_lt n o) [
      | inl l ↦ omega (arith, sum_upto-same f g n (λ k m. others k (λ e. omega arith)), others n (λ e. omega arith))
      | inr past ↦ elim (cases_lt o n) [
        | inl l ↦ omega (arith, sum_grows f g o n others one, others n (λ e. omega arith))
        | inr end ↦
            let here : n ≡ o = omega arith in
            omega (arith, sum_upto-same f g n (λ k m. others k (λ e. omega arith)), ap f here, ap g here, one)
      ]
    ]

-- how many bodies of a list an octant has
abbrev pub octant_length : (ℕ → Site) → ℕ → List ℕ → ℕ → ℕ
octant_length site level bodies k = length (in_octant site level k bodies)

-- one body more is in no other octant than its own, and there it is one more
other_octant : (site : ℕ → Site) (level n : ℕ) (bodies : List ℕ) (k : ℕ) → k ≢ octant_of (site n) level
    → octant_length site level (n ∷ bodies) k ≡ octant_length site level bodies k
other_octant site level n bodies k apart =
    elim (cases_Bool (eqb (octant_of (site n) level) k)) [
      | inl e ↦ absurd (apart (sym (eqb-true (octant_of (site n) level) k e)))
      | inr e ↦ rw e refl
    ]

own_octant : (site : ℕ → Site) (level n : ℕ) (bodies : List ℕ) (k : ℕ) → octant_length site level (n ∷ bodies) k ≤ suc (octant_length site level bodies k)
own_octant site level n bodies k =
    elim (cases_Bool (eqb (octant_of (site n) level) k)) [ inl e ↦ rw e (omega arith) | inr e ↦ rw e (omega arith) ]

-- the octants have no more bodies than the list
pub octants_few : (site : ℕ → Site) (level n : ℕ) (bodies : List ℕ) → sum_upto (octant_length site level bodies) n ≤ length bodies
unfolding sum_upto
octants_few site level zero [] = omega arith
octants_few site level (suc n) [] = omega (arith, octants_few site level n [])
octants_few site level n (x ∷ bodies) =
    omega (
      arith,
      octants_few site level n bodies,
      sum_grows (octant_length site level (x ∷ bodies)) (octant_length site level bodies) (octant_of (site x) level) n
          (other_octant site level x bodies) (own_octant site level x bodies (octant_of (site x) level)),
    )

-- a sum of values that are at most so many times others
pub sum_times : (f g : ℕ → ℕ) (times n : ℕ) → ((k : ℕ) → f k ≤ times * g k) → sum_upto f n ≤ times * sum_upto g n
unfolding sum_upto
sum_times f g times zero each = omega arith
sum_times f g times (suc n) each = omega (arith, sum_times f g times n each, each n)

-- at most one cell for each level below and each body
pub cells_by_levels : (site : ℕ → Site) (below level : ℕ) (bodies : List ℕ) → cell_count (octree_from site below level bodies) ≤ below * length bodies
unfolding counts
cells_by_levels site below level [] = omega (arith, count_none _ (octree-none site below level))
cells_by_levels site below level (n ∷ []) = omega (arith, count_one _ n (octree-one site below level n))
cells_by_levels site zero level (n ∷ m ∷ rest) = omega (arith, count_none _ (octree-deep site level n m rest))
cells_by_levels site (suc below) level (n ∷ m ∷ rest) =
    let bodies : List ℕ = n ∷ m ∷ rest in
    let f : ℕ → Tree = λ k. octree_from site below (suc level) (in_octant site level k bodies) in
    let whole : cell_count (octree_from site (suc below) level bodies) ≡ 1 + counts f 8 = counts_all f _ (octree-many site below level n m rest) in
    let parts : counts f 8 ≤ below * sum_upto (octant_length site level bodies) 8 =
    sum_times (λ k. cell_count (f k)) (octant_length site level bodies) below 8
    (λ k. cells_by_levels site below (suc level) (in_octant site level k bodies)) in
    omega (arith, whole, parts, mul-le-mul_left below (octants_few site level 8 bodies))
