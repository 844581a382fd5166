-- One octant more of a cube that is divided, and cubes dealt to workers.
use Rattle.std.proofs.Common.{ℕ, ◌+◌, ◌*◌, ◌<◌, ◌≡◌, ◌^◌, zero, suc, refl, sym, ◌∙◌}
use Rattle.std.proofs.Common.{ap, arith, List, [], ◌∷◌, ◌++◌, append_assoc, append-nil, get_or, length, map}
use Rattle.std.specs.List.{AllZip, range_with_len}
use Rattle.std.proofs.lemmas.Bool.{eq-eqb, ne_eqb}
use Rattle.std.proofs.lemmas.List.{map-append}
use Rattle.std.proofs.lemmas.List.FromFn.{map-range_with_len_more}
use Rattle.octant_code.proofs.Keys.{pow8-mono}
use Rattle.bh_model.specs.Bodies.{numbers}
use Rattle.bh_model.proofs.Pieces.{rows, rows_more}
use Rattle.space_split.specs.declared.cube.Cube.{Cube}
use Rattle.space_split.specs.Ranges.{child_of, codes_of, earlier_count, octant_count}

-- the key of an octant fits its word
pub key_fits : (key level : ℕ) → level < 21 → key < 2 * 8 ^ level → 8 * key + 7 < 2 ^ 64
key_fits key level deep small = omega (arith, pow8-mono level 20 (omega arith))

-- an octant that holds a body
pub pushed : (codes : List ℕ) (level : ℕ) (cube child : Cube) (k : ℕ) (before now next : List Cube)
    → child ≡ record {
      key = 8 * cube.key + k;
      start = cube.start + earlier_count (codes_of codes cube) level k;
      count =
          octant_count (codes_of codes cube) level k;
    }
    → 0 < octant_count (codes_of codes cube) level k → now ≡ before ++ rows (child_of codes level cube) k → next ≡ now ++ (child ∷ [])
    → next ≡ before ++ rows (child_of codes level cube) (k + 1)
pushed codes level cube child k before now next is some m e =
    let own : child_of codes level cube k ≡ child ∷ [] = rw (ne_eqb (octant_count (codes_of codes cube) level k) 0 (λ z. omega arith)) (ap
    (λ c. c ∷ []) (sym is)) in
    e ∙ ap (λ y. y ++ (child ∷ [])) m ∙ append_assoc before (rows (child_of codes level cube) k) (child ∷ [])
    ∙ ap (λ y. before ++ (rows (child_of codes level cube) k ++ y)) (sym own)
    ∙ ap (λ y. before ++ y) (sym (rows_more (child_of codes level cube) k))

-- an octant that holds none
pub passed : (codes : List ℕ) (level : ℕ) (cube : Cube) (k : ℕ) (before now : List Cube) → octant_count (codes_of codes cube) level k ≡ 0
    → now ≡ before ++ rows (child_of codes level cube) k → now ≡ before ++ rows (child_of codes level cube) (k + 1)
passed codes level cube k before now none m =
    let own : child_of codes level cube k ≡ [] = rw (eq-eqb (octant_count (codes_of codes cube) level k) 0 none) refl in
    m ∙ ap (λ y. before ++ y) (sym (append-nil (rows (child_of codes level cube) k)))
    ∙ ap (λ y. before ++ (rows (child_of codes level cube) k ++ y)) (sym own)
    ∙ ap (λ y. before ++ y) (sym (rows_more (child_of codes level cube) k))

-- what two lists have at one place
pub at_place : {X Y : Type 0} (R : X → Y → Type 0) (xs : List X) (ys : List Y) (i : ℕ) (d : X) (e : Y) → AllZip R xs ys → i < length xs
    → (i < length ys) × R (get_or xs i d) (get_or ys i e)
at_place R [] ys i d e z l = absurd (omega arith)
at_place R (x ∷ xs) [] i d e z l = absurd z
at_place R (x ∷ xs) (y ∷ ys) zero d e z l = (omega arith, z.0)
at_place R (x ∷ xs) (y ∷ ys) (suc i) d e z l = let r = at_place R xs ys i d e z.1 (omega arith) in (omega (arith, r.0), r.1)

-- a function of a row of numbers from 0 on
pub row_is_numbers : {T : Type 0} (f : ℕ → T) (n : ℕ) → map f (range_with_len 0 n) ≡ map f (numbers n)
unfolding numbers
row_is_numbers f zero = refl
row_is_numbers f (suc n) =
    let next : suc n ≡ n + 1 = omega arith in
    ap (λ y. map f (range_with_len 0 y)) next ∙ map-range_with_len_more f 0 n n (omega arith) ∙ ap (λ y. y ++ (f n ∷ [])) (row_is_numbers f n)
    ∙ sym (map-append f (numbers n) (n ∷ []))

abbrev pub made_cube : ℕ → ℕ → ℕ → Cube
made_cube x y z = record { key = x; start = y; count = z }

-- a cube is its parts
pub cube_parts : (a b c d e f : ℕ) → a ≡ d → b ≡ e → c ≡ f → made_cube a b c ≡ made_cube d e f
cube_parts a b c d e f p q r = ap (λ u. made_cube u b c) p ∙ ap (λ u. made_cube d u c) q ∙ ap (λ u. made_cube d e u) r
