-- The code of a point tells its octants, and the cubes of codes are those of the bodies.
use Rattle.std.proofs.Common.{ℕ, ◌+◌, ◌-◌, ◌*◌, ◌/◌, ◌^◌, ◌<◌, ◌≤◌, ◌≡◌, suc, refl, sym, ◌∙◌}
use Rattle.std.proofs.Common.{ap, arith, List, [], ◌∷◌, map, length, All, sum_by}
use Rattle.std.specs.List.Sorted.{IsPermutation}
use Rattle.std.proofs.lemmas.List.{length-map}
use Rattle.std.proofs.lemmas.List.Elements.{All-cons, All-nil}
use Rattle.std.proofs.lemmas.List.Sums.{sum_by-cons}
use Rattle.std.proofs.lemmas.List.Sorted.{All-permutation, length_permutation}
use Rattle.octant_code.specs.Space.{Site, key_of, octant_of}
use Rattle.octant_code.proofs.Keys.{key-above, key-high, key-low, key-suc, octant-small}
use Rattle.bh_model.specs.Bodies.{numbers}
use Rattle.bh_model.specs.Pieces.{cubes_from, dealt, octants_of, piece_limit, pieces}
use Rattle.bh_model.proofs.Standing.{length_numbers}
use Rattle.bh_model.proofs.Pieces.{alike_by_order, cubes_alike, cubes_sum, cubes_through}
use Rattle.space_split.specs.Ranges.{octant_of_code, pair_of}
use Rattle.space_split.specs.declared.cube.Cube.{Cube}

-- the code of a point
abbrev pub code_of : Site → ℕ
code_of s = key_of s 21

-- a code tells the octants
octant_told : (s : Site) (level : ℕ) → level < 21 → octant_of s level ≡ octant_of_code (code_of s) level
octant_told s level deep =
    let last : suc level + (20 - level) ≡ 21 = omega arith in
    let above : key_of s 21 / 8 ^ (20 - level) ≡ key_of s (suc level) =
    ap (λ l. key_of s l / 8 ^ (20 - level)) (sym last) ∙ key-above s (suc level) (20 - level) in
    omega (arith, above, key-suc s level, octant-small s level)

-- a code is a key of the last level
code_fits : (s : Site) → (8 ^ 21 ≤ code_of s) × (code_of s < 2 * 8 ^ 21)
code_fits s = (key-low s 21, key-high s 21)

-- the codes of points in another order are keys of the last level
pub codes_fit : (site : ℕ → Site) (bodies codes : List ℕ) → IsPermutation (map (λ n. code_of (site n)) bodies) codes
    → All (λ code. (8 ^ 21 ≤ code) × (code < 2 * 8 ^ 21)) codes
codes_fit site bodies codes p =
    All-permutation (λ code. (8 ^ 21 ≤ code) × (code < 2 * 8 ^ 21)) (map (λ n. code_of (site n)) bodies) codes p (fit bodies)
  where
    fit : (ns : List ℕ) → All (λ code. (8 ^ 21 ≤ code) × (code < 2 * 8 ^ 21)) (map (λ n. code_of (site n)) ns)
    fit [] = All-nil (λ code. (8 ^ 21 ≤ code) × (code < 2 * 8 ^ 21))
    fit (n ∷ ns) = All-cons (λ code. (8 ^ 21 ≤ code) × (code < 2 * 8 ^ 21)) (code_of (site n)) (map (λ m. code_of (site m)) ns) (code_fits (site n)) (fit ns)

-- the cubes of the bodies are those of their codes, in any order
pub cubes_of_codes : (site : ℕ → Site) (most : ℕ) (bodies codes : List ℕ) → IsPermutation (map (λ n. code_of (site n)) bodies) codes
    → cubes_from (octants_of site) most 21 0 1 bodies ≡ cubes_from octant_of_code most 21 0 1 codes
cubes_of_codes site most bodies codes p =
    cubes_through (octants_of site) octant_of_code (λ n. code_of (site n)) most 21 0 1 bodies (omega arith) (λ n l deep. octant_told (site n) l deep)
    ∙ cubes_alike octant_of_code most 21 0 1 (map (λ n. code_of (site n)) bodies) codes (alike_by_order (map (λ n. code_of (site n)) bodies) codes p)

-- codes in order are as many as the points
pub as_many : (site : ℕ → Site) (n : ℕ) (codes : List ℕ) → IsPermutation (map (λ m. code_of (site m)) (numbers n)) codes → length codes ≡ n
as_many site n codes p =
    length_permutation (map (λ m. code_of (site m)) (numbers n)) codes p ∙ length-map (numbers n) (λ m. code_of (site m)) ∙ length_numbers n

-- the pieces are the cubes of the codes, dealt
pub pieces_of_codes : (site : ℕ → Site) (n whole most workers : ℕ) (codes : List ℕ) (cubes : List (ℕ × ℕ))
    → IsPermutation (map (λ m. code_of (site m)) (numbers n)) codes → whole ≡ n → most ≡ piece_limit whole workers
    → cubes ≡ cubes_from octant_of_code most 21 0 1 codes → dealt whole workers 0 cubes ≡ pieces site workers (numbers n)
pieces_of_codes site n whole most workers codes cubes p w m e =
    ap (dealt whole workers 0)
    (e ∙ ap (λ y. cubes_from octant_of_code y 21 0 1 codes) m ∙ sym (cubes_of_codes site (piece_limit whole workers) (numbers n) codes p))
    ∙ ap (λ y. dealt y workers 0 (cubes_from (octants_of site) (piece_limit y workers) 21 0 1 (numbers n))) (w ∙ sym (length_numbers n))

-- the counts of the cubes are the codes
pub counts_are_all : (most : ℕ) (codes : List ℕ) (cubes : List Cube) → map pair_of cubes ≡ cubes_from octant_of_code most 21 0 1 codes
    → sum_by (λ (c : Cube). c.count) cubes ≡ length codes
counts_are_all most codes cubes e =
    pairs cubes ∙ ap (sum_by (λ (c : ℕ × ℕ). c.1)) e ∙ cubes_sum octant_of_code most 21 0 1 codes (λ n l. omega arith)
  where
    pairs : (cs : List Cube) → sum_by (λ (c : Cube). c.count) cs ≡ sum_by (λ (c : ℕ × ℕ). c.1) (map pair_of cs)
    pairs [] = refl
    pairs (c ∷ cs) = omega (arith, sum_by-cons (λ (q : Cube). q.count) c cs, sum_by-cons (λ (q : ℕ × ℕ). q.1) (pair_of c) (map pair_of cs), pairs cs)
