-- Above each undivided cube lie more bodies than a cube that isn't divided may have.
use Rattle.std.proofs.Common.{ℕ, ◌+◌, ◌-◌, ◌*◌, ◌/◌, ◌^◌, ◌<◌, ◌≤◌, ◌≡◌, ◌⊎◌, zero, suc, refl, sym, ◌∙◌}
use Rattle.std.proofs.Common.{ap, subst, inl, inr, arith, List, [], ◌∷◌, ◌++◌, drop, length, take}
use Rattle.std.proofs.Math.Nat.{div-le_self}
use Rattle.std.proofs.lemmas.Bool.{cases_lt}
use Rattle.std.proofs.lemmas.List.{length-take-le, take-append-drop}
use Rattle.octant_code.specs.Prefixes.{IsPrefix, IsProperPrefix}
use Rattle.octant_code.specs.Space.{Site, IsUnder}
use Rattle.octant_code.proofs.Nested.{off_twice}
use Rattle.bh_model.specs.Bodies.{HasMoreThan, IsIn, NoneTwice}
use Rattle.bh_model.specs.Pieces.{cubes_from, octants_of, of_octant}
use Rattle.bh_model.proofs.Cells.{LieUnder, in_octant-member, in_octant-once, in_octant-under}
use Rattle.bh_model.proofs.Lists.{in_left, once_front}
use Rattle.bh_model.proofs.MoreThan.{more_so}
use Rattle.bh_model.proofs.PieceKeys.{cubes_stand, from_row, keys_of}
use Rattle.bh_model.proofs.Pieces.{cubes-few, cubes-last, cubes-many, cubes-none}

-- of a list with more members than a size, none twice, it is so of more
pub more_of_list : (size : ℕ) (P : ℕ → Type 0) (xs : List ℕ) → size < length xs → NoneTwice xs → ((n : ℕ) → IsIn xs n → P n) → HasMoreThan size P
more_of_list size P xs many once each =
    let whole : take (suc size) xs ++ drop (suc size) xs ≡ xs = take-append-drop (suc size) xs in
    record {
      them = take (suc size) xs;
      count = length-take-le (suc size) xs (omega arith);
      once = once_front (take (suc size) xs) (drop (suc size) xs) (subst NoneTwice (sym whole) once);
      each = λ n i. each n (subst (λ (y : List ℕ). IsIn y n) whole (in_left (take (suc size) xs) (drop (suc size) xs) n i));
    }

-- no key is a proper prefix of one that is its prefix
not_both : (key upper : ℕ) → IsPrefix key upper → IsProperPrefix upper key → ⊥
not_both key upper p q =
    let low : key ≤ upper = omega (arith, p.2, div-le_self upper (8 ^ p.1)) in
    let one : 8 ^ 1 ≡ 8 = refl in
    let next : suc q.1 ≡ 1 + q.1 = omega arith in
    let off : upper ≡ key / 8 ^ 1 / 8 ^ q.1 = q.2 ∙ ap (λ y. key / 8 ^ y) next ∙ sym (off_twice key 1 q.1) in
    omega (arith, p.0, low, one, off, div-le_self (key / 8 ^ 1) (8 ^ q.1))

-- a key between a cube's and one below a child of it is the cube's, or is below the child
between : (key k a upper : ℕ) → k < 8 → IsPrefix key upper → IsProperPrefix upper a → IsPrefix (8 * key + k) a
    → (upper ≡ key) ⊎ IsPrefix (8 * key + k) upper
between key k a upper small p q r = elim (cases_lt q.1 r.1) [
  | inl less ↦
      let far : r.1 ≡ suc q.1 + (r.1 - suc q.1) = omega arith in
      inr (r.0, r.1 - suc q.1, r.2 ∙ ap (λ y. a / 8 ^ y) far ∙ sym (off_twice a (suc q.1) (r.1 - suc q.1)) ∙ ap (λ y. y / 8 ^ (r.1 - suc q.1)) (sym q.2))
  | inr more ↦
      let far : suc q.1 ≡ r.1 + (1 + (q.1 - r.1)) = omega arith in
      let child : ℕ = 8 * key + k in
      let one : 8 ^ 1 ≡ 8 = refl in
      let up : child / 8 ^ 1 ≡ key = omega (arith, one) in
      let off : upper ≡ key / 8 ^ (q.1 - r.1) =
      q.2 ∙ ap (λ y. a / 8 ^ y) far ∙ sym (off_twice a r.1 (1 + (q.1 - r.1))) ∙ ap (λ y. y / 8 ^ (1 + (q.1 - r.1))) (sym r.2)
      ∙ sym (off_twice child 1 (q.1 - r.1)) ∙ ap (λ y. y / 8 ^ (q.1 - r.1)) up in
      inl (omega (arith, p.2, off, div-le_self upper (8 ^ p.1), div-le_self key (8 ^ (q.1 - r.1))))
]

module _ (site : ℕ → Site) (size most : ℕ) (least : size ≤ most) where
  -- what is said of the key of a list with few bodies
  lone : (level below key : ℕ) (xs : List ℕ) (a upper : ℕ) → cubes_from (octants_of site) most below level key xs ≡ (key, length xs) ∷ []
      → IsIn (keys_of (cubes_from (octants_of site) most below level key xs)) a → IsPrefix key upper → IsProperPrefix upper a → ⊥
  lone level below key xs a upper one i p q = elim (subst (λ (y : List (ℕ × ℕ)). IsIn (keys_of y) a) one i) [
    | inl e ↦ not_both key upper p (subst (IsProperPrefix upper) e q)
    | inr j ↦ absurd j
  ]

  -- each proper prefix of an undivided cube's key that is the list's key or below it has more bodies
  pub more_above : (below level key : ℕ) (xs : List ℕ) → level + below ≡ 21 → 1 ≤ key → LieUnder site level key xs → NoneTwice xs → (a upper : ℕ)
      → IsIn (keys_of (cubes_from (octants_of site) most below level key xs)) a → IsPrefix key upper → IsProperPrefix upper a
      → HasMoreThan size (λ n. IsIn xs n × IsUnder upper (site n))
  more_above below level key [] sum some under once a upper i p q =
      absurd (subst (λ (y : List (ℕ × ℕ)). IsIn (keys_of y) a) (cubes-none (octants_of site) most below level key) i)
  more_above zero level key (x ∷ xs) sum some under once a upper i p q =
      absurd (lone level zero key (x ∷ xs) a upper (cubes-last (octants_of site) most level key (x ∷ xs) (λ e. omega arith)) i p q)
  more_above (suc below) level key (x ∷ xs) sum some under once a upper i p q = elim (cases_lt most (length (x ∷ xs))) [
    | inr few ↦
        absurd (lone level (suc below) key (x ∷ xs) a upper
        (cubes-few (octants_of site) most (suc below) level key (x ∷ xs) (λ e. omega arith) few) i p q)
    | inl many ↦
        let f : ℕ → List (ℕ × ℕ) = λ k. cubes_from (octants_of site) most below (suc level) (8 * key + k) (of_octant (octants_of site) level k (x ∷ xs)) in
        let r = from_row f 8 a (subst (λ (y : List (ℕ × ℕ)). IsIn (keys_of y) a) (cubes-many (octants_of site) most below level key (x ∷ xs) many) i) in
        let part : List ℕ = of_octant (octants_of site) level r.0 (x ∷ xs) in
        let below_child = (cubes_stand (octants_of site) most below (suc level) (8 * key + r.0) part (omega arith)).below a r.2 in
        elim (between key r.0 a upper r.1 p q below_child) [
          | inl same ↦
              more_of_list size (λ n. IsIn (x ∷ xs) n × IsUnder upper (site n)) (x ∷ xs) (omega arith) once
              (λ n j. (j, (level, omega arith, same ∙ sym (under n j))))
          | inr deep ↦
              more_so (λ n h. ((in_octant-member site level r.0 (x ∷ xs) n h.0).0, h.1))
              (more_above below (suc level) (8 * key + r.0) part (omega arith) (omega arith) (in_octant-under site level key r.0 (x ∷ xs) under)
              (in_octant-once site level r.0 (x ∷ xs) once) a upper r.2 deep q)
        ]
  ]
