-- Bodies by their ranks.
use Rattle.std.proofs.Common.{ℕ, ◌+◌, ◌*◌, ◌%◌, ◌<◌, ◌≡◌, ◌∙◌, ◌++◌, suc, refl, sym, ap, subst, All, List, [], ◌∷◌, map, length, get_or, arith}
use Rattle.std.specs.List.Sorted.{IsPermutation}
use Rattle.std.proofs.lemmas.List.{get_or-map, length-map, map_push}
use Rattle.std.proofs.lemmas.List.Sorted.{All-permutation, IsPermutation-map}
use Rattle.octant_code.specs.Space.{Site, key_of}
use Rattle.octree.specs.Ranks.{body_of_rank}
use Rattle.bh_model.specs.Bodies.{numbers}
use Rattle.bh_model.proofs.Lists.{numbers_more}
use Rattle.bh_model.proofs.Standing.{length_numbers, number_at_place}
use Rattle.space_split.specs.Sorted.{coded_in, coded_of}
use Rattle.space_split.specs.declared.codes.Coded.{Coded}

-- what the numbers of no bodies give, and those of one body more
pub row_none : (f : ℕ → ℕ) → [] ≡ map f (numbers 0)
unfolding numbers
row_none f = refl

pub row_more : (f : ℕ → ℕ) (row : List ℕ) (n : ℕ) → row ≡ map f (numbers n) → row ++ (f n ∷ []) ≡ map f (numbers (n + 1))
row_more f row n told = ap (λ y. y ++ (f n ∷ [])) told ∙ sym (map_push f (numbers n) n) ∙ ap (map f) (sym (numbers_more n))

-- no rank is that of no body
pub rank_none : map body_of_rank [] ≡ numbers 0
unfolding numbers
rank_none = refl

-- one rank more
pub rank_more : (ranks : List ℕ) (q n : ℕ) → n < 65536 → map body_of_rank ranks ≡ numbers n
    → map body_of_rank (ranks ++ ((q * 65536 + n) ∷ [])) ≡ numbers (n + 1)
rank_more ranks q n few told =
    let own : (q * 65536 + n) % 65536 ≡ n = omega arith in
    map_push body_of_rank ranks (q * 65536 + n) ∙ ap (λ y. y ++ (body_of_rank (q * 65536 + n) ∷ [])) told ∙ ap (λ y. numbers n ++ (y ∷ [])) own
    ∙ sym (numbers_more n)

-- the ranks of all bodies, in another order, are those of bodies
module _ (n : ℕ) (ranks moved : List ℕ) (told : map body_of_rank ranks ≡ numbers n) (same : IsPermutation ranks moved) where
  pub ranks_known : All (λ r. body_of_rank r < n) moved
  ranks_known =
      let many : length ranks ≡ n = sym (length-map ranks body_of_rank) ∙ ap length told ∙ length_numbers n in
      All-permutation (λ r. body_of_rank r < n) ranks moved same
      (λ k d l. omega (
        arith,
        get_or-map body_of_rank ranks k d 0 l,
        ap (λ y. get_or y k 0) told,
        number_at_place n k 0 (omega (arith, many, l)),
        many,
      ))

  through : (site : ℕ → Site) (rs : List ℕ) → map (λ r. coded_of site (body_of_rank r)) rs ≡ map (coded_of site) (map body_of_rank rs)
  through site [] = refl
  through site (r ∷ rs) = ap (λ y. coded_of site (body_of_rank r) ∷ y) (through site rs)

  pub coded_moved : (site : ℕ → Site) → IsPermutation (map (coded_of site) (numbers n)) (map (λ r. coded_of site (body_of_rank r)) moved)
  coded_moved site =
      subst (λ (y : List Coded). IsPermutation y (map (λ r. coded_of site (body_of_rank r)) moved)) (through site ranks ∙ ap (map (coded_of site)) told)
      (IsPermutation-map (λ r. coded_of site (body_of_rank r)) ranks moved same)

  -- and their codes in a list are those of their points
  pub coded_there : (site : ℕ → Site) (codes rs : List ℕ) → codes ≡ map (λ k. key_of (site k) 21) (numbers n) → All (λ r. body_of_rank r < n) rs
      → map (λ r. coded_in codes (body_of_rank r)) rs ≡ map (λ r. coded_of site (body_of_rank r)) rs
  coded_there site codes [] are known = refl
  coded_there site codes (r ∷ rs) are known =
      let b = body_of_rank r in
      let less : b < n = known 0 r (omega arith) in
      let code : get_or codes b 0 ≡ key_of (site b) 21 =
      ap (λ y. get_or y b 0) are ∙ get_or-map (λ k. key_of (site k) 21) (numbers n) b 0 0 (omega (arith, less, length_numbers n))
      ∙ ap (λ k. key_of (site k) 21) (number_at_place n b 0 less) in
      ap (λ c. record { code = c; body = b } ∷ map (λ q. coded_in codes (body_of_rank q)) rs) code
      ∙ ap (λ y. coded_of site b ∷ y) (coded_there site codes rs are (λ k d l. known (suc k) d (omega arith)))
