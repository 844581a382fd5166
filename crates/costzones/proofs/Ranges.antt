-- The bodies that begin in a range of cost: among bodies in a row, among the children of a cell, and those of a zone.
use Rattle.std.proofs.Common.{◌≡◌, ◌≢◌, ◌≤◌, ◌<◌, ◌+◌, ◌-◌, ◌*◌, ◌/◌, ◌&&◌, ◌⊎◌, inl, inr, ℕ, zero, suc, List, [], ◌∷◌, ◌++◌, leb, ltb, max, min, true, false}
use Rattle.std.proofs.Common.{refl, ap, ◌∙◌, sym, arith, sum_by, length}
use Rattle.std.proofs.lemmas.Bool.{cases_Bool, cases_lt, ltb-false}
use Rattle.std.proofs.lemmas.Bool.Decides.{nat_tests}
use Rattle.std.proofs.lemmas.List.{nil_from_length}
use Rattle.std.proofs.lemmas.List.Sums.{sum_by-append, sum_by-cons}
use Rattle.std.proofs.lemmas.Nat.{div_below, le-div}
use Rattle.bh_model.proofs.Lists.{joined}
use Rattle.bh_model.proofs.Totals.{sum_upto, total-order}
use Rattle.bh_model.proofs.Trees.{order-cell}
use Rattle.bh_model.proofs.ZoneCuts.{zone_from-none, zone_from-other, zone_from-own}
use Rattle.bh_model.specs.Bodies.{IsIn}
use Rattle.bh_model.specs.Moments.{total}
use Rattle.bh_model.specs.Trees.{Tree, cell_of, order}
use Rattle.bh_model.specs.Zones.{cost_of, zone, zone_from}
use Rattle.costzones.specs.Ranges.{between, meets, range_start}

-- ---- bodies in a row

pub between-nil : (cost : ℕ → ℕ) (low high p : ℕ) → between cost low high p [] ≡ []
unfolding between
between-nil cost low high p = refl

-- a body that begins in the range
pub between-in : (cost : ℕ → ℕ) (low high p n : ℕ) (rest : List ℕ) → low ≤ p → p < high
    → between cost low high p (n ∷ rest) ≡ n ∷ between cost low high (p + cost n) rest
unfolding between
between-in cost low high p n rest a b = let t : leb low p && ltb p high ≡ true = grind (arith, nat_tests) in rw t

-- and one that doesn't
pub between-out : (cost : ℕ → ℕ) (low high p n : ℕ) (rest : List ℕ) → (p < low) ⊎ (high ≤ p)
    → between cost low high p (n ∷ rest) ≡ between cost low high (p + cost n) rest
unfolding between
between-out cost low high p n rest out =
    let t : leb low p && ltb p high ≡ false = elim out [ inl below ↦ grind (arith, nat_tests) | inr above ↦ grind (arith, nat_tests) ] in rw t

-- two lists in turn
pub between-append : (cost : ℕ → ℕ) (low high p : ℕ) (xs ys : List ℕ)
    → between cost low high p (xs ++ ys) ≡ between cost low high p xs ++ between cost low high (p + sum_by cost xs) ys
unfolding between
between-append cost low high p [] ys = let e : p + sum_by cost [] ≡ p = omega arith in rw e
between-append cost low high p (n ∷ xs) ys =
    let s : p + cost n + sum_by cost xs ≡ p + sum_by cost (n ∷ xs) = omega (arith, sum_by-cons cost n xs) in
    let rest = between-append cost low high (p + cost n) xs ys ∙ ap (λ q. between cost low high (p + cost n) xs ++ between cost low high q ys) s in
    elim (cases_Bool (leb low p && ltb p high)) [
      | inl t ↦ rw t (ap (λ zs. n ∷ zs) rest)
      | inr t ↦ rw t rest
    ]

-- a span that doesn't meet the range has no body that begins there
pub between-none : (cost : ℕ → ℕ) (low high p : ℕ) (xs : List ℕ) → ((n : ℕ) → IsIn xs n → 1 ≤ cost n) → meets low high p (p + sum_by cost xs) ≡ false
    → between cost low high p xs ≡ []
between-none cost low high p [] one apart = between-nil cost low high p
between-none cost low high p (n ∷ xs) one apart =
    let s = sum_by-cons cost n xs in
    let first : 1 ≤ cost n = one n (inl refl) in
    let far : min high (p + sum_by cost (n ∷ xs)) ≤ max low p = ltb-false (max low p) (min high (p + sum_by cost (n ∷ xs))) apart in
    let later : meets low high (p + cost n) (p + cost n + sum_by cost xs) ≡ false = grind (arith, nat_tests) in
    let rest = between-none cost low high (p + cost n) xs (λ m i. one m (inr i)) later in
    between-out cost low high p n xs (elim (cases_lt p low) [ inl below ↦ inl below | inr here ↦ inr (omega arith) ]) ∙ rest

-- ---- the children of a cell

-- the cost of the first k trees in order
cost_joined : (cost : ℕ → ℕ) (child : ℕ → Tree) (k : ℕ) → sum_by cost (joined (λ j. order (child j)) k) ≡ sum_upto (λ j. total cost (child j)) k
unfolding sum_upto
cost_joined cost child zero = refl
cost_joined cost child (suc k) =
    omega (arith, sum_by-append cost (joined (λ j. order (child j)) k) (order (child k)), cost_joined cost child k, total-order cost (child k))

-- what tree k of some in a row has in the range
abbrev pub child_between : (ℕ → ℕ) → ℕ → ℕ → ℕ → (ℕ → Tree) → ℕ → List ℕ
child_between cost low high p child k = between cost low high (p + sum_upto (λ j. total cost (child j)) k) (order (child k))

between-joined : (cost : ℕ → ℕ) (low high p : ℕ) (child : ℕ → Tree) (k : ℕ)
    → between cost low high p (joined (λ j. order (child j)) k) ≡ joined (child_between cost low high p child) k
between-joined cost low high p child zero = between-nil cost low high p
between-joined cost low high p child (suc k) =
    between-append cost low high p (joined (λ j. order (child j)) k) (order (child k))
    ∙ ap (λ zs. zs ++ between cost low high (p + sum_by cost (joined (λ j. order (child j)) k)) (order (child k))) (between-joined cost low high p child k)
    ∙ ap (λ q. joined (child_between cost low high p child) k ++ between cost low high (p + q) (order (child k))) (cost_joined cost child k)

-- the bodies of a cell, child by child
pub between-cell : (cost : ℕ → ℕ) (low high p : ℕ) (child : ℕ → Tree)
    → between cost low high p (order (cell_of child)) ≡ joined (child_between cost low high p child) 8
between-cell cost low high p child = ap (between cost low high p) (order-cell child) ∙ between-joined cost low high p child 8

-- ---- the range of a zone

-- a number is below a quotient that is rounded up, or not
above_start : (a workers p : ℕ) → 1 ≤ workers → a ≤ p * workers → (a + (workers - 1)) / workers ≤ p
above_start a workers p some h =
    let less : (a + (workers - 1)) / workers < p + 1 = div_below (a + (workers - 1)) workers (p + 1) some (omega arith) in omega arith

below_start : (a workers p : ℕ) → 1 ≤ workers → p * workers < a → p < (a + (workers - 1)) / workers
below_start a workers p some h = let more : p + 1 ≤ (a + (workers - 1)) / workers = le-div (p + 1) (a + (workers - 1)) workers some (omega arith) in omega arith

-- the range holds the numbers whose share of the whole cost, rounded down, is w
record IsRange (workers whole w low high : ℕ) : Type 0 where
  inside : (p : ℕ) → low ≤ p → p < high → p * workers / whole ≡ w
  below : (p : ℕ) → p < low → p * workers / whole ≢ w
  above : (p : ℕ) → high ≤ p → p * workers / whole ≢ w

range_of : (workers whole w : ℕ) → 1 ≤ workers → 0 < whole → IsRange workers whole w (range_start workers whole w) (range_start workers whole (w + 1))
range_of workers whole w some cost = record {
  inside = λ p low high. elim (cases_lt (p * workers) (w * whole)) [
    | inl less ↦ absurd (omega (arith, below_start (w * whole) workers p some less))
    | inr from ↦ elim (cases_lt (p * workers) ((w + 1) * whole)) [
      | inl to ↦ (let a : w ≤ p * workers / whole = le-div w (p * workers) whole cost from in let b : p * workers / whole < w + 1 = div_below (p * workers)
          whole (w + 1) cost to in omega arith)
      | inr more ↦ absurd (omega (arith, above_start ((w + 1) * whole) workers p some more))
    ]
  ];
  below = λ p low (e : p * workers / whole ≡ w). elim (cases_lt (p * workers) (w * whole)) [
    | inl less ↦ (let b : p * workers / whole < w = div_below (p * workers) whole w cost less in omega arith)
    | inr from ↦ omega (arith, above_start (w * whole) workers p some from)
  ];
  above = λ p high (e : p * workers / whole ≡ w). elim (cases_lt (p * workers) ((w + 1) * whole)) [
    | inl to ↦ omega (arith, below_start ((w + 1) * whole) workers p some to)
    | inr more ↦ (let a : w + 1 ≤ p * workers / whole = le-div (w + 1) (p * workers) whole cost more in omega arith)
  ];
}

-- the bodies of a zone are those that begin in its range
zone_between : (cost : ℕ → ℕ) (workers whole w low high p : ℕ) (xs : List ℕ) → IsRange workers whole w low high
    → zone_from cost workers whole p xs w ≡ between cost low high p xs
zone_between cost workers whole w low high p [] range = zone_from-none cost workers whole p w ∙ sym (between-nil cost low high p)
zone_between cost workers whole w low high p (n ∷ xs) range =
    let rest = zone_between cost workers whole w low high (p + cost n) xs range in
    elim (cases_lt p low) [
      | inl less ↦ zone_from-other cost workers whole p n xs w (range.below p less) ∙ rest ∙ sym (between-out cost low high p n xs (inl less))
      | inr from ↦ elim (cases_lt p high) [
        | inl to ↦ zone_from-own cost workers whole p n xs w (range.inside p from to) ∙ ap (λ zs. n ∷ zs) rest ∙ sym (between-in cost low high p n xs from to)
        | inr more ↦ zone_from-other cost workers whole p n xs w (range.above p more) ∙ rest ∙ sym (between-out cost low high p n xs (inr more))
      ]
    ]

-- bodies that cost something cost no less than their number
pub costs_more : (cost : ℕ → ℕ) (xs : List ℕ) → ((n : ℕ) → IsIn xs n → 1 ≤ cost n) → length xs ≤ sum_by cost xs
costs_more cost [] one = omega arith
costs_more cost (n ∷ xs) one = omega (arith, sum_by-cons cost n xs, one n (inl refl), costs_more cost xs (λ m i. one m (inr i)))

-- a zone of a tree has the bodies of the tree that begin in its range
pub zone_is : (cost : ℕ → ℕ) (workers w : ℕ) (tree : Tree) → ((n : ℕ) → IsIn (order tree) n → 1 ≤ cost n) → 1 ≤ workers
    → zone cost workers w tree ≡ between cost (range_start workers (cost_of cost (order tree)) w) (range_start workers (cost_of cost (order tree)) (w + 1)) 0
    (order tree)
zone_is cost workers w tree one some =
    let whole : ℕ = cost_of cost (order tree) in
    let low : ℕ = range_start workers whole w in
    let high : ℕ = range_start workers whole (w + 1) in
    elim (cases_lt 0 whole) [
      | inl cheap ↦ zone_between cost workers whole w low high 0 (order tree) (range_of workers whole w some cheap)
      | inr free ↦
          let none = nil_from_length (order tree) (omega (arith, costs_more cost (order tree) one)) in
          ap (λ xs. zone_from cost workers whole 0 xs w) none ∙ zone_from-none cost workers whole 0 w
          ∙ sym (ap (between cost low high 0) none ∙ between-nil cost low high 0)
    ]
