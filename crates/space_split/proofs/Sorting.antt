-- Bodies in the order of their codes, and the codes alone.
use Rattle.std.proofs.Common.{ℕ, ◌<◌, ◌≡◌, suc, refl, sym, ◌∙◌, ap, subst, arith, All, List, [], ◌∷◌, length, map}
use Rattle.std.specs.List.Sorted.{IsNonDecreasingBy, IsPermutation}
use Rattle.std.proofs.lemmas.List.{get_or-map, length-map}
use Rattle.std.proofs.lemmas.List.Elements.{All-cons, All-nil}
use Rattle.std.proofs.lemmas.List.Sorted.{All-permutation, IsPermutation-map}
use Rattle.octant_code.specs.Points.{site_at}
use Rattle.octant_code.specs.Space.{Site, key_of}
use Rattle.bh_model.specs.Bodies.{numbers}
use Rattle.space_split.specs.Ranges.{AreCodes}
use Rattle.space_split.specs.Sorted.{AreSorted, coded_of}
use Rattle.space_split.specs.declared.codes.Coded.{Coded}
use Rattle.space_split.proofs.Coded.{code_of, codes_fit}

-- each of the bodies has its code
coded_each : (site : ℕ → Site) (ns : List ℕ) → All (λ (b : Coded). b.code ≡ key_of (site b.body) 21) (map (coded_of site) ns)
coded_each site [] = All-nil (λ (b : Coded). b.code ≡ key_of (site b.body) 21)
coded_each site (n ∷ ns) = All-cons (λ (b : Coded). b.code ≡ key_of (site b.body) 21) (coded_of site n) (map (coded_of site) ns) refl (coded_each site ns)

numbers_back : (site : ℕ → Site) (ns : List ℕ) → map (λ (b : Coded). b.body) (map (coded_of site) ns) ≡ ns
numbers_back site [] = refl
numbers_back site (n ∷ ns) = ap (λ y. n ∷ y) (numbers_back site ns)

-- all bodies in another order, the least code first
pub sorted_of : (sites : List Site) (bodies : List Coded) → IsPermutation (map (coded_of (site_at sites)) (numbers (length sites))) bodies
    → IsNonDecreasingBy (λ (b : Coded). b.code) bodies → AreSorted sites bodies
sorted_of sites bodies moved rising =
    let all = map (coded_of (site_at sites)) (numbers (length sites)) in
    record {
      all =
          subst (λ (y : List ℕ). IsPermutation y (map (λ (b : Coded). b.body) bodies)) (numbers_back (site_at sites) (numbers (length sites)))
          (IsPermutation-map (λ (b : Coded). b.body) all bodies moved);
      coded =
          All-permutation (λ (b : Coded). b.code ≡ key_of (site_at sites b.body) 21) all bodies moved
          (coded_each (site_at sites) (numbers (length sites)));
      rising = rising;
    }

-- the codes are those of the numbers
pub codes_told : (site : ℕ → Site) (bodies : List Coded) → All (λ (b : Coded). b.code ≡ key_of (site b.body) 21) bodies
    → map (λ (b : Coded). b.code) bodies ≡ map (λ n. code_of (site n)) (map (λ (b : Coded). b.body) bodies)
codes_told site [] each = refl
codes_told site (b ∷ bs) each =
    ap (λ y. y ∷ map (λ (q : Coded). q.code) bs) (each 0 b (omega arith))
    ∙ ap (λ y. code_of (site b.body) ∷ y) (codes_told site bs (λ k d l. each (suc k) d (omega arith)))

-- the codes alone are those of all points in another order
pub codes_moved : (sites : List Site) (bodies : List Coded) → AreSorted sites bodies
    → IsPermutation (map (λ n. code_of (site_at sites n)) (numbers (length sites))) (map (λ (b : Coded). b.code) bodies)
codes_moved sites bodies h =
    subst (IsPermutation (map (λ n. code_of (site_at sites n)) (numbers (length sites)))) (sym (codes_told (site_at sites) bodies h.coded))
    (IsPermutation-map (λ n. code_of (site_at sites n)) (numbers (length sites)) (map (λ (b : Coded). b.body) bodies) h.all)

-- and they are codes in order
pub codes_are : (sites : List Site) (bodies : List Coded) → AreSorted sites bodies → AreCodes (map (λ (b : Coded). b.code) bodies)
codes_are sites bodies h = record {
  each = codes_fit (site_at sites) (numbers (length sites)) (map (λ (b : Coded). b.code) bodies) (codes_moved sites bodies h);
  rising = λ i j d l m.
      let short : j < length bodies = omega (arith, m, length-map bodies (λ (b : Coded). b.code)) in
      let first : Coded = record { code = d; body = 0 } in
      omega (
        arith,
        get_or-map (λ (b : Coded). b.code) bodies i first d (omega arith),
        get_or-map (λ (b : Coded). b.code) bodies j first d short,
        h.rising i j first l short,
      );
}
