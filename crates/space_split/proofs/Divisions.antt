-- What dividing cubes of a list of codes keeps: they are cubes of the list, and the undivided cubes below them stay.
use Rattle.std.proofs.Common.{ℕ, ◌+◌, ◌-◌, ◌*◌, ◌/◌, ◌^◌, ◌<◌, ◌≤◌, ◌≡◌, ◌⊎◌, suc, refl, sym, subst, ◌∙◌, ap, inl, inr, arith, List, [], ◌∷◌, ◌++◌}
use Rattle.std.proofs.Common.{Bool, length, take, drop, eqb, append-nil, add-one, All, flat_map, map, get_or}
use Rattle.std.specs.Prelude.{nat_lt}
use Rattle.std.specs.List.{filter}
use Rattle.std.specs.List.Sorted.{IsNonDecreasing, IsNonDecreasingBy}
use Rattle.std.proofs.Math.Seq.{take-length}
use Rattle.std.proofs.Math.Nat.{div-div-eq-div-mul, div-mul-le_self, pow-suc}
use Rattle.std.proofs.lemmas.Bool.{cases_Bool, cases_lt, le-leb, lt-leb, eqb-true, eq-eqb, ne_eqb}
use Rattle.std.proofs.lemmas.Grind.{flat_map-append}
use Rattle.std.proofs.lemmas.List.{length-drop, length-take-le}
use Rattle.std.proofs.lemmas.List.Elements.{All-append, All-cons, All-nil}
use Rattle.std.proofs.lemmas.List.Sorted.{IsNonDecreasingBy-drop, IsNonDecreasingBy-take}
use Rattle.std.proofs.lemmas.Nat.{le-div}
use Rattle.octant_code.proofs.Keys.{pow8-mono}
use Rattle.bh_model.specs.Pieces.{cubes_from, of_octant}
use Rattle.bh_model.proofs.Pieces.{all_rows, cubes-few, cubes-last, cubes-many, cubes-none, earlier_more, flat_map_rows, in_turn-same}
use Rattle.space_split.specs.declared.cube.Cube.{Cube}
use Rattle.space_split.specs.Ranges.{AreCubesOf, IsRange, child_of, codes_of, cubes_at, division_of, earlier_count, octant_count, octant_of_code, pair_of}
use Rattle.space_split.proofs.Slices.{equal, higher, lower, middle_slice, three_parts}

-- ---- one cube

-- a cube has as many codes as it counts
pub codes_count : (codes : List ℕ) (most level : ℕ) (cube : Cube) → IsRange codes most level cube → length (codes_of codes cube) ≡ cube.count
codes_count codes most level cube range =
    let in_rest : cube.count ≤ length (drop cube.start codes) = omega (arith, length-drop cube.start codes, range.inside) in
    length-take-le cube.count (drop cube.start codes) in_rest

-- 8 times the power below a level
power_above : (level : ℕ) → level < 21 → 8 ^ (21 - level) ≡ 8 ^ (20 - level) * 8
power_above level deep = let e : 21 - level ≡ suc (20 - level) = omega arith in ap (λ y. 8 ^ y) e ∙ pow-suc 8 (20 - level)

-- a code without the digits below a level, and without one more
pub above_next : (code level : ℕ) → level < 21 → code / 8 ^ (20 - level) / 8 ≡ code / 8 ^ (21 - level)
above_next code level deep = div-div-eq-div-mul code (8 ^ (20 - level)) 8 ∙ ap (λ y. code / y) (sym (power_above level deep))

power_positive : (n : ℕ) → 0 < 8 ^ n
power_positive n = omega (arith, pow8-mono 0 n (omega arith))

-- the codes of one cube rise by their octants
octants_rise : (xs : List ℕ) (level key : ℕ) → level < 21 → IsNonDecreasingBy (λ c. c) xs → All (λ code. code / 8 ^ (21 - level) ≡ key) xs
    → IsNonDecreasingBy (λ c. octant_of_code c level) xs
octants_rise xs level key deep rising under i j d l m =
    let a : ℕ = get_or xs i d in
    let b : ℕ = get_or xs j d in
    let P : ℕ = 8 ^ (20 - level) in
    let less : a ≤ b = rising i j d l m in
    let shorter : a / P ≤ b / P = le-div (a / P) b P (power_positive (20 - level)) (omega (arith, div-mul-le_self a P)) in
    let ka : a / P / 8 ≡ key = above_next a level deep ∙ under i d (omega arith) in
    let kb : b / P / 8 ≡ key = above_next b level deep ∙ under j d m in
    omega (arith, shorter, ka, kb)

-- the codes of an octant's cube are those of the cube with the octant
pub child_codes : (codes : List ℕ) (most level : ℕ) (cube : Cube) (k : ℕ) → level < 21 → IsNonDecreasing codes → IsRange codes most level cube
    → most < cube.count
    → take (octant_count (codes_of codes cube) level k) (drop (cube.start + earlier_count (codes_of codes cube) level k) codes)
    ≡ of_octant octant_of_code level k (codes_of codes cube)
child_codes codes most level cube k deep rising range many =
    let slice : List ℕ = codes_of codes cube in
    let g : ℕ → ℕ = λ c. octant_of_code c level in
    let rises : IsNonDecreasingBy (λ c. c) slice =
    IsNonDecreasingBy-take (λ c. c) cube.count (drop cube.start codes) (IsNonDecreasingBy-drop (λ c. c) cube.start codes rising) in
    middle_slice codes (lower g k slice) (equal g k slice) (higher g k slice) slice cube.start cube.count refl
    (three_parts g k slice (octants_rise slice level cube.key deep rises (range.under many)))

-- the number of an octant's codes, and of those before, is at most that of all
pub part_few : (codes : List ℕ) (level k : ℕ) → earlier_count codes level k + octant_count codes level k ≤ length codes
part_few codes level k = omega (arith, earlier_more (λ c. octant_of_code c level) k codes, filter_few (λ c. nat_lt (octant_of_code c level) (k + 1)) codes)
  where
    filter_few : (p : ℕ → Bool) (xs : List ℕ) → length (filter p xs) ≤ length xs
    filter_few p [] = omega arith
    filter_few p (x ∷ xs) = elim (cases_Bool (p x)) [
      | inl e ↦ rw e (omega (arith, filter_few p xs))
      | inr e ↦ rw e (omega (arith, filter_few p xs))
    ]

-- ---- what a cube gives

-- a cube of an octant is a cube of the list
child_range : (codes : List ℕ) (most level : ℕ) (cube : Cube) (k : ℕ) → level < 21 → k < 8 → IsNonDecreasing codes → IsRange codes most level cube
    → most < cube.count → All (IsRange codes most (level + 1)) (child_of codes level cube k)
child_range codes most level cube k deep small rising range many =
    let slice : List ℕ = codes_of codes cube in
    let n : ℕ = octant_count slice level k in
    let own : take n (drop (cube.start + earlier_count slice level k) codes) ≡ of_octant octant_of_code level k slice =
    child_codes codes most level cube k deep rising range many in
    elim (cases_lt 0 n) [
      | inr none ↦ rw (eq-eqb n 0 (omega arith)) (All-nil (IsRange codes most (level + 1)))
      | inl some ↦
          rw (ne_eqb n 0 (λ e. omega arith))
          (All-cons (IsRange codes most (level + 1)) _ [] (record {
            some = omega arith;
            inside = omega (arith, part_few slice level k, codes_count codes most level cube range, range.inside);
            key_small = omega (arith, range.key_small, ap (λ y. 8 ^ y) (add-one level), pow-suc 8 level);
            under = λ more. subst (All (λ code. code / 8 ^ (21 - (level + 1)) ≡ 8 * cube.key + k)) (sym own) (under_child slice (range.under many));
          }) (All-nil (IsRange codes most (level + 1))))
    ]
  where
    under_child : (xs : List ℕ) → All (λ code. code / 8 ^ (21 - level) ≡ cube.key) xs
        → All (λ code. code / 8 ^ (21 - (level + 1)) ≡ 8 * cube.key + k) (of_octant octant_of_code level k xs)
    under_child [] under = All-nil (λ code. code / 8 ^ (21 - (level + 1)) ≡ 8 * cube.key + k)
    under_child (x ∷ xs) under =
        let rest = under_child xs (λ i d l. under (suc i) d (omega arith)) in
        elim (cases_Bool (eqb (octant_of_code x level) k)) [
          | inl e ↦
              let here : octant_of_code x level ≡ k = eqb-true (octant_of_code x level) k e in
              let above : x / 8 ^ (20 - level) / 8 ≡ cube.key = above_next x level deep ∙ under 0 0 (omega arith) in
              let next : 21 - (level + 1) ≡ 20 - level = omega arith in
              let own : x / 8 ^ (20 - level) ≡ 8 * cube.key + k = omega (arith, here, above) in
              rw e (All-cons (λ code. code / 8 ^ (21 - (level + 1)) ≡ 8 * cube.key + k) x (of_octant octant_of_code level k xs)
              (ap (λ y. x / 8 ^ y) next ∙ own) rest)
          | inr e ↦ rw e rest
        ]

-- the cubes that a cube gives are cubes of the list
pub division_ranges : (codes : List ℕ) (most level : ℕ) (cube : Cube) → level < 21 → IsNonDecreasing codes → IsRange codes most level cube
    → All (IsRange codes most (level + 1)) (division_of codes most level cube)
division_ranges codes most level cube deep rising range = elim (cases_lt most cube.count) [
  | inl many ↦
      rw (lt-leb cube.count most many)
      (all_rows (IsRange codes most (level + 1)) (child_of codes level cube) 8 (λ k small. child_range codes most level cube k deep small rising range many))
  | inr few ↦
      rw (le-leb cube.count most few)
      (All-cons (IsRange codes most (level + 1)) cube [] (record {
        some = range.some;
        inside = range.inside;
        key_small = omega (arith, range.key_small, ap (λ y. 8 ^ y) (add-one level), pow-suc 8 level);
        under = λ more. absurd (omega arith);
      }) (All-nil (IsRange codes most (level + 1))))
]

-- the cube of an octant has the undivided cubes of the octant's codes
child_cubes : (codes : List ℕ) (most below level : ℕ) (cube : Cube) (k : ℕ) → level < 21 → IsNonDecreasing codes → IsRange codes most level cube
    → most < cube.count
    → cubes_from octant_of_code most below (suc level) (8 * cube.key + k) (of_octant octant_of_code level k (codes_of codes cube))
    ≡ flat_map (cubes_at codes most below (suc level)) (child_of codes level cube k)
child_cubes codes most below level cube k deep rising range many =
    let slice : List ℕ = codes_of codes cube in
    let part : List ℕ = of_octant octant_of_code level k slice in
    let own = child_codes codes most level cube k deep rising range many in
    elim (cases_lt 0 (length part)) [
      | inr none ↦ rw (eq-eqb (length part) 0 (omega arith), no_code part (omega arith)) (cubes-none octant_of_code most below (suc level) (8 * cube.key + k))
      | inl some ↦
          rw (ne_eqb (length part) 0 (λ e. omega arith))
          (ap (cubes_from octant_of_code most below (suc level) (8 * cube.key + k)) (sym own)
          ∙ sym (append-nil (cubes_from octant_of_code most below (suc level) (8 * cube.key + k)
          (take (length part) (drop (cube.start + earlier_count slice level k) codes)))))
    ]
  where
    no_code : (xs : List ℕ) → length xs ≡ 0 → xs ≡ []
    no_code [] e = refl
    no_code (x ∷ xs) e = absurd (omega arith)

-- the undivided cubes below a cube are those below the cubes that it gives
division_cubes : (codes : List ℕ) (most below level : ℕ) (cube : Cube) → level < 21 → IsNonDecreasing codes → IsRange codes most level cube
    → cubes_at codes most (suc below) level cube ≡ flat_map (cubes_at codes most below (suc level)) (division_of codes most level cube)
division_cubes codes most below level cube deep rising range =
    let slice : List ℕ = codes_of codes cube in
    let long = codes_count codes most level cube range in
    elim (cases_lt most cube.count) [
      | inl many ↦
          rw (lt-leb cube.count most many)
          (cubes-many octant_of_code most below level cube.key slice (omega (arith, long))
          ∙ in_turn-same (λ k. cubes_from octant_of_code most below (suc level) (8 * cube.key + k) (of_octant octant_of_code level k slice))
          (λ k. flat_map (cubes_at codes most below (suc level)) (child_of codes level cube k))
          (λ k small. child_cubes codes most below level cube k deep rising range many)
          ∙ sym (flat_map_rows (cubes_at codes most below (suc level)) (child_of codes level cube) 8))
      | inr few ↦
          rw (le-leb cube.count most few)
          (cubes-few octant_of_code most (suc below) level cube.key slice (λ e. omega (arith, long, range.some)) (omega (arith, long))
          ∙ sym (cubes-few octant_of_code most below (suc level) cube.key slice (λ e. omega (arith, long, range.some)) (omega (arith, long)))
          ∙ sym (append-nil (cubes_from octant_of_code most below (suc level) cube.key slice)))
    ]

-- ---- the cubes of a level

-- the cubes of the next level
pub next_level : (codes : List ℕ) (most level : ℕ) (cubes next : List Cube) → level < 21 → IsNonDecreasing codes → AreCubesOf codes most level cubes
    → next ≡ flat_map (division_of codes most level) cubes → AreCubesOf codes most (level + 1) next
next_level codes most level cubes next deep rising h e =
    let below : 21 - level ≡ suc (21 - (level + 1)) = omega arith in
    subst (AreCubesOf codes most (level + 1)) (sym e) (record {
      ranges = all_ranges cubes h.ranges;
      same =
          ap (λ l. flat_map (cubes_at codes most (21 - (level + 1)) l) (flat_map (division_of codes most level) cubes)) (add-one level)
          ∙ sym (all_cubes (21 - (level + 1)) cubes h.ranges) ∙ ap (λ b. flat_map (cubes_at codes most b level) cubes) (sym below) ∙ h.same;
    })
  where
    all_ranges : (cs : List Cube) → All (IsRange codes most level) cs → All (IsRange codes most (level + 1)) (flat_map (division_of codes most level) cs)
    all_ranges [] each = All-nil (IsRange codes most (level + 1))
    all_ranges (c ∷ cs) each =
        All-append (IsRange codes most (level + 1)) (division_of codes most level c) (flat_map (division_of codes most level) cs)
        (division_ranges codes most level c deep rising (each 0 c (omega arith))) (all_ranges cs (λ i d l. each (suc i) d (omega arith)))

    all_cubes : (b : ℕ) (cs : List Cube) → All (IsRange codes most level) cs
        → flat_map (cubes_at codes most (suc b) level) cs ≡ flat_map (cubes_at codes most b (suc level)) (flat_map (division_of codes most level) cs)
    all_cubes b [] each = refl
    all_cubes b (c ∷ cs) each =
        ap (λ y. y ++ flat_map (cubes_at codes most (suc b) level) cs) (division_cubes codes most b level c deep rising (each 0 c (omega arith)))
        ∙ ap (λ y. flat_map (cubes_at codes most b (suc level)) (division_of codes most level c) ++ y)
        (all_cubes b cs (λ i d l. each (suc i) d (omega arith)))
        ∙ sym (flat_map-append (cubes_at codes most b (suc level)) (division_of codes most level c) (flat_map (division_of codes most level) cs))

-- cubes that are not divided, each small or of the last level, are all
pub all_undivided : (codes : List ℕ) (most level : ℕ) (cubes : List Cube) → AreCubesOf codes most level cubes
    → All (λ c. c.count ≤ most) cubes ⊎ (level ≡ 21) → map pair_of cubes ≡ cubes_from octant_of_code most 21 0 1 codes
all_undivided codes most level cubes h why = sym (each_stays cubes h.ranges why) ∙ h.same
  where
    stays : (c : Cube) → IsRange codes most level c → (c.count ≤ most) ⊎ (level ≡ 21) → cubes_at codes most (21 - level) level c ≡ pair_of c ∷ []
    stays c range (inl few) =
        let long = codes_count codes most level c range in
        cubes-few octant_of_code most (21 - level) level c.key (codes_of codes c) (λ e. omega (arith, long, range.some)) (omega (arith, long))
        ∙ ap (λ n. (c.key, n) ∷ []) long
    stays c range (inr last) =
        let long = codes_count codes most level c range in
        let none : 21 - level ≡ 0 = omega arith in
        ap (λ b. cubes_from octant_of_code most b level c.key (codes_of codes c)) none
        ∙ cubes-last octant_of_code most level c.key (codes_of codes c) (λ e. omega (arith, long, range.some))
        ∙ ap (λ n. (c.key, n) ∷ []) long

    first : (c : Cube) (cs : List Cube) → All (λ d. d.count ≤ most) (c ∷ cs) ⊎ (level ≡ 21) → (c.count ≤ most) ⊎ (level ≡ 21)
    first c cs (inl few) = inl (few 0 c (omega arith))
    first c cs (inr last) = inr last

    others : (c : Cube) (cs : List Cube) → All (λ d. d.count ≤ most) (c ∷ cs) ⊎ (level ≡ 21) → All (λ d. d.count ≤ most) cs ⊎ (level ≡ 21)
    others c cs (inl few) = inl (λ i d l. few (suc i) d (omega arith))
    others c cs (inr last) = inr last

    each_stays : (cs : List Cube) → All (IsRange codes most level) cs → All (λ c. c.count ≤ most) cs ⊎ (level ≡ 21)
        → flat_map (cubes_at codes most (21 - level) level) cs ≡ map pair_of cs
    each_stays [] each w = refl
    each_stays (c ∷ cs) each w =
        ap (λ y. y ++ flat_map (cubes_at codes most (21 - level) level) cs) (stays c (each 0 c (omega arith)) (first c cs w))
        ∙ ap (λ y. pair_of c ∷ y) (each_stays cs (λ i d l. each (suc i) d (omega arith)) (others c cs w))

-- the whole cube
pub first_level : (codes : List ℕ) (most : ℕ) (cube : Cube) → All (λ code. (8 ^ 21 ≤ code) × (code < 2 * 8 ^ 21)) codes → 1 ≤ length codes
    → cube.key ≡ 1 → cube.start ≡ 0 → cube.count ≡ length codes → AreCubesOf codes most 0 (cube ∷ [])
first_level codes most cube fit some key start count =
    let whole : codes_of codes cube ≡ codes = rw (start, count) (take-length codes) in
    record {
      ranges = All-cons (IsRange codes most 0) cube [] (record {
        some = omega (arith, count);
        inside = omega (arith, start, count);
        key_small = omega (arith, key);
        under = λ many. subst (All (λ code. code / 8 ^ (21 - 0) ≡ cube.key)) (sym whole) (λ k d l. let h = fit k d l in omega (arith, h.0, h.1, key));
      }) (All-nil (IsRange codes most 0));
      same =
          append-nil (cubes_from octant_of_code most 21 0 cube.key (codes_of codes cube))
          ∙ ap (λ y. cubes_from octant_of_code most 21 0 y (codes_of codes cube)) key ∙ ap (cubes_from octant_of_code most 21 0 1) whole;
    }

-- no cube, of no body
pub first_none : (most : ℕ) (codes : List ℕ) → length codes ≡ 0 → AreCubesOf codes most 0 []
first_none most [] e = record { ranges = All-nil (IsRange [] most 0); same = sym (cubes-none octant_of_code most 21 0 1) }
first_none most (c ∷ cs) e = absurd (omega arith)
