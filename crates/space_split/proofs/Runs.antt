-- Dividing cubes keeps that they hold all codes of a list, one after another.
use Rattle.std.proofs.Common.{ℕ, ◌+◌, ◌-◌, ◌*◌, ◌/◌, ◌^◌, ◌<◌, ◌≤◌, ◌≡◌, zero, suc, refl, sym, ◌∙◌, subst, inl, inr, arith}
use Rattle.std.proofs.Common.{All, List, [], ◌∷◌, ◌++◌, eqb, flat_map, length}
use Rattle.std.specs.List.Sorted.{IsNonDecreasing}
use Rattle.std.proofs.Math.Seq.{take-length}
use Rattle.std.proofs.lemmas.Bool.{cases_Bool, cases_lt, eq-eqb, eqb-true, le-leb, lt-leb, lt-ltb, ne_eqb}
use Rattle.std.proofs.lemmas.List.Elements.{All-append, All-cons, All-nil}
use Rattle.bh_model.specs.Pieces.{of_octant}
use Rattle.bh_model.proofs.Pieces.{all_rows, earlier_more, earlier_none, rows}
use Rattle.space_split.specs.Ranges.{AreCubesOf, IsRange, child_of, codes_of, division_of, earlier_count, octant_count, octant_of_code}
use Rattle.space_split.specs.Rows.{AreWhole, Follow, IsOver}
use Rattle.space_split.specs.declared.cube.Cube.{Cube}
use Rattle.space_split.proofs.Divisions.{above_next, child_codes, codes_count}

-- cubes that follow cubes
follow_append : (a b c : ℕ) (xs ys : List Cube) → Follow a b xs → Follow b c ys → Follow a c (xs ++ ys)
follow_append a b c [] ys p q = subst (λ (y : ℕ). Follow y c ys) (sym p) q
follow_append a b c (x ∷ xs) ys p q = (p.0, follow_append (a + x.count) b c xs ys p.1 q)

-- what the first octants give
follow_rows : (f : ℕ → List Cube) (at : ℕ → ℕ) (m : ℕ) → ((k : ℕ) → k < m → Follow (at k) (at (k + 1)) (f k)) → Follow (at 0) (at m) (rows f m)
follow_rows f at zero each = refl
follow_rows f at (suc m) each =
    let next : m + 1 ≡ suc m = omega arith in
    follow_append (at 0) (at m) (at (suc m)) (rows f m) (f m) (follow_rows f at m (λ k l. each k (omega arith)))
    (subst (λ (y : ℕ). Follow (at m) (at y) (f m)) next (each m (omega arith)))

-- all codes have an octant before the last
all_earlier : (xs : List ℕ) (level : ℕ) → earlier_count xs level 8 ≡ length xs
all_earlier [] level = refl
all_earlier (x ∷ xs) level = rw (lt-ltb (octant_of_code x level) 8 (omega arith)) (omega (arith, all_earlier xs level))

-- the cubes that a cube gives hold what it holds
module _ (codes : List ℕ) (most level : ℕ) (cube : Cube) (range : IsRange codes most level cube) where
  slice : List ℕ
  slice = codes_of codes cube

  child_follows : (k : ℕ) → Follow (cube.start + earlier_count (codes_of codes cube) level k) (cube.start + earlier_count (codes_of codes cube) level (k + 1))
      (child_of codes level cube k)
  child_follows k =
      let n : ℕ = octant_count (codes_of codes cube) level k in
      let more = earlier_more (λ c. octant_of_code c level) k (codes_of codes cube) in
      elim (cases_lt 0 n) [
        | inr none ↦ rw (eq-eqb n 0 (omega arith)) (omega (arith, more))
        | inl some ↦ rw (ne_eqb n 0 (λ e. omega arith)) (refl, omega (arith, more))
      ]

  pub division_follows : Follow cube.start (cube.start + cube.count) (division_of codes most level cube)
  division_follows = elim (cases_lt most cube.count) [
    | inr few ↦ rw (le-leb cube.count most few) (refl, refl)
    | inl many ↦
        let at : ℕ → ℕ = λ k. cube.start + earlier_count (codes_of codes cube) level k in
        let first : at 0 ≡ cube.start = omega (arith, earlier_none (λ c. octant_of_code c level) (codes_of codes cube)) in
        let last : at 8 ≡ cube.start + cube.count = omega (arith, all_earlier (codes_of codes cube) level, codes_count codes most level cube range) in
        rw (lt-leb cube.count most many)
        (subst (λ (y : ℕ). Follow cube.start y (rows (child_of codes level cube) 8)) last
        (subst (λ (y : ℕ). Follow y (at 8) (rows (child_of codes level cube) 8)) first
        (follow_rows (child_of codes level cube) at 8 (λ k l. child_follows k))))
  ]

  module _ (deep : level < 21) (rising : IsNonDecreasing codes) where
    under_child : (k : ℕ) (xs : List ℕ) → All (λ code. code / 8 ^ (21 - level) ≡ cube.key) xs
        → All (λ code. code / 8 ^ (20 - level) ≡ 8 * cube.key + k) (of_octant octant_of_code level k xs)
    under_child k [] under = All-nil (λ code. code / 8 ^ (20 - level) ≡ 8 * cube.key + k)
    under_child k (x ∷ xs) under =
        let rest = under_child k xs (λ i d l. under (suc i) d (omega arith)) in
        elim (cases_Bool (eqb (octant_of_code x level) k)) [
          | inl e ↦
              let here : octant_of_code x level ≡ k = eqb-true (octant_of_code x level) k e in
              let above : x / 8 ^ (20 - level) / 8 ≡ cube.key = above_next x level deep ∙ under 0 0 (omega arith) in
              let own : x / 8 ^ (20 - level) ≡ 8 * cube.key + k = omega (arith, here, above) in
              rw e (All-cons (λ code. code / 8 ^ (20 - level) ≡ 8 * cube.key + k) x (of_octant octant_of_code level k xs) own rest)
          | inr e ↦ rw e rest
        ]

    child_over : (k : ℕ) → most < cube.count → All (IsOver codes) (child_of codes level cube k)
    child_over k many =
        let n : ℕ = octant_count (codes_of codes cube) level k in
        let own = child_codes codes most level cube k deep rising range many in
        elim (cases_lt 0 n) [
          | inr none ↦ rw (eq-eqb n 0 (omega arith)) (All-nil (IsOver codes))
          | inl some ↦
              rw (ne_eqb n 0 (λ e. omega arith))
              (All-cons (IsOver codes) _ [] (
                20 - level,
                omega arith,
                subst (All (λ code. code / 8 ^ (20 - level) ≡ 8 * cube.key + k)) (sym own)
                    (under_child k (codes_of codes cube) (range.under many)),
              ) (All-nil (IsOver codes)))
        ]

    pub division_over : IsOver codes cube → All (IsOver codes) (division_of codes most level cube)
    division_over over = elim (cases_lt most cube.count) [
      | inr few ↦ rw (le-leb cube.count most few) (All-cons (IsOver codes) cube [] over (All-nil (IsOver codes)))
      | inl many ↦
          rw (lt-leb cube.count most many) (all_rows (IsOver codes) (child_of codes level cube) 8 (λ k l. child_over k many))
    ]

-- the cubes of the next level
module _ (codes : List ℕ) (most level : ℕ) where
  follow_all : (from to : ℕ) (cs : List Cube) → All (IsRange codes most level) cs → Follow from to cs
      → Follow from to (flat_map (division_of codes most level) cs)
  follow_all from to [] ranges h = h
  follow_all from to (c ∷ cs) ranges h =
      follow_append from (from + c.count) to (division_of codes most level c) (flat_map (division_of codes most level) cs)
      (subst (λ (y : ℕ). Follow y (y + c.count) (division_of codes most level c)) h.0 (division_follows codes most level c (ranges 0 c (omega arith))))
      (follow_all (from + c.count) to cs (λ i d l. ranges (suc i) d (omega arith)) h.1)

  over_all : (cs : List Cube) → level < 21 → IsNonDecreasing codes → All (IsRange codes most level) cs → All (IsOver codes) cs
      → All (IsOver codes) (flat_map (division_of codes most level) cs)
  over_all [] deep rising ranges over = All-nil (IsOver codes)
  over_all (c ∷ cs) deep rising ranges over =
      All-append (IsOver codes) (division_of codes most level c) (flat_map (division_of codes most level) cs)
      (division_over codes most level c (ranges 0 c (omega arith)) deep rising (over 0 c (omega arith)))
      (over_all cs deep rising (λ i d l. ranges (suc i) d (omega arith)) (λ i d l. over (suc i) d (omega arith)))

  pub next_whole : (cubes next : List Cube) → level < 21 → IsNonDecreasing codes → AreCubesOf codes most level cubes → AreCubesOf codes most (level + 1) next
      → next ≡ flat_map (division_of codes most level) cubes → AreWhole codes cubes → AreWhole codes next
  next_whole cubes next deep rising h after e whole = record {
    some = λ i d l. (after.ranges i d l).some;
    inside = λ i d l. (after.ranges i d l).inside;
    over = subst (All (IsOver codes)) (sym e) (over_all cubes deep rising h.ranges whole.over);
    follow = subst (Follow 0 (length codes)) (sym e) (follow_all 0 (length codes) cubes h.ranges whole.follow);
  }

-- the whole cube
pub first_whole : (codes : List ℕ) (cube : Cube) → All (λ code. (8 ^ 21 ≤ code) × (code < 2 * 8 ^ 21)) codes → 1 ≤ length codes → cube.key ≡ 1
    → cube.start ≡ 0 → cube.count ≡ length codes → AreWhole codes (cube ∷ [])
first_whole codes cube fit some key start count =
    let whole : codes_of codes cube ≡ codes = rw (start, count) (take-length codes) in
    record {
      some = All-cons (λ (c : Cube). 1 ≤ c.count) cube [] (omega (arith, count)) (All-nil (λ (c : Cube). 1 ≤ c.count));
      inside = All-cons (λ (c : Cube). c.start + c.count ≤ length codes) cube [] (omega (arith, start, count)) (All-nil (λ (c : Cube). c.start + c.count
          ≤ length codes));
      over = All-cons (IsOver codes) cube [] (
        21,
        omega arith,
        subst (All (λ code. code / 8 ^ 21 ≡ cube.key)) (sym whole) (λ k d l. let h = fit k d l in
            omega (arith, h.0, h.1, key)),
      ) (All-nil (IsOver codes));
      follow = (start, omega (arith, count));
    }

pub none_whole : (codes : List ℕ) → length codes ≡ 0 → AreWhole codes []
none_whole codes e = record {
  some = All-nil (λ (c : Cube). 1 ≤ c.count);
  inside = All-nil (λ (c : Cube). c.start + c.count ≤ length codes);
  over = All-nil (IsOver codes);
  follow = sym e;
}
