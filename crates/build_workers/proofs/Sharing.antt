-- Counting over shares and workers.
use Rattle.std.proofs.Common.{◌≡◌, ◌<◌, ◌≤◌, ℕ, zero, suc, All, List, [], ◌∷◌, get_or, length, map, inl, inr, sym, ◌∙◌, arith}
use Rattle.std.proofs.lemmas.Bool.{cases_lt}
use Rattle.bh_model.specs.Bodies.{numbers}
use Rattle.bh_model.proofs.Lists.{in_numbers, numbers_once}
use Rattle.tree_passes.specs.Counting.{times}
use Rattle.tree_passes.proofs.Laws.{in_times, once_times, times_in}
use Rattle.build_workers.specs.Shares.{times_in_all, AreShares}
use Rattle.build_workers.proofs.Ordering.{stands_at}

-- A list has each number below a count once, and no other.
pub record HasEach (count : ℕ) (l : List ℕ) : Type 0 where
  pub once : (x : ℕ) → x < count → times x l ≡ 1
  pub no_other : (x : ℕ) → count ≤ x → times x l ≡ 0

-- the numbers below a count
pub each_of_numbers : (count : ℕ) → HasEach count (numbers count)
each_of_numbers count = record {
  once = λ x s. let a = in_times x (numbers count) ((in_numbers count x).1 s) in let b = once_times (numbers count) (numbers_once count) x in omega arith;
  no_other = λ x s. elim (cases_lt 0 (times x (numbers count))) [
    | inl some ↦ let l : x < count = (in_numbers count x).0 (times_in x (numbers count) (omega arith)) in absurd (omega arith)
    | inr none ↦ omega arith
  ];
}

-- the shares hold what the numbers below the count are
pub shares_part : (count x : ℕ) (shares : List (List ℕ)) → AreShares count shares → times x (numbers count) ≡ times_in_all x shares
shares_part count x shares h =
    let n = each_of_numbers count in
    elim (cases_lt x count) [ inl s ↦ n.once x s ∙ sym (h.once x s) | inr s ↦ n.no_other x s ∙ sym (h.no_other x s) ]

module _ {S : Type 0} (items : S → List ℕ) where
  -- a share has a number at most as often as all shares
  pub part_of_all : (x k : ℕ) (d : S) (shares : List S) → k < length shares → times x (items (get_or shares k d)) ≤ times_in_all x (map items shares)
  part_of_all x k d [] less = absurd (omega arith)
  part_of_all x zero d (s ∷ ss) less = omega arith
  part_of_all x (suc k) d (s ∷ ss) less = let rest = part_of_all x k d ss (omega arith) in omega arith

  -- where no share has a number from a count on, all members are below it
  pub parts_within : (count : ℕ) (shares : List S) → ((n : ℕ) → count ≤ n → times_in_all n (map items shares) ≡ 0)
      → All (λ s. All (λ n. n < count) (items s)) shares
  parts_within count shares no_other = λ k d less i e inside.
      let n = get_or (items (get_or shares k d)) i e in
      elim (cases_lt n count) [
        | inl l ↦ l
        | inr l ↦
            let some = stands_at (items (get_or shares k d)) i e inside in
            let part = part_of_all n k d shares less in
            let none = no_other n (omega arith) in
            absurd (omega (arith, some, part, none))
      ]

  -- so it is for shares of the numbers below the count
  pub shares_within : (count : ℕ) (shares : List S) → AreShares count (map items shares) → All (λ s. All (λ n. n < count) (items s)) shares
  shares_within count shares are = parts_within count shares are.no_other
