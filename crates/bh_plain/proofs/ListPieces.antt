-- What the plain program's lists say of the pieces.
use Rattle.std.proofs.Common.{ℕ, ◌+◌, ◌-◌, ◌*◌, ◌^◌, ◌<◌, ◌≤◌, ◌≡◌, suc, sym, ◌∙◌, ap, arith, add-one, append_assoc, List, ◌++◌, eqb, length}
use Rattle.octant_code.proofs.Keys.{pow8-mono}
use Rattle.std.proofs.lemmas.List.Sums.{count_by-le-length, length-filter}
use Rattle.octant_code.specs.Space.{Site, octant_of}
use Rattle.bh_model.specs.Pieces.{cubes_from, octants_of, of_octant}
use Rattle.bh_model.specs.Trees.{in_octant}
use Rattle.bh_model.proofs.Pieces.{cubes-many, rows, rows_more, in_turn-same}

-- the undivided cubes of the octants of a list at a level
abbrev pub octant_cubes : (ℕ → Site) → ℕ → ℕ → ℕ → List ℕ → ℕ → List (ℕ × ℕ)
octant_cubes site most level key bodies k = cubes_from (octants_of site) most (21 - (level + 1)) (level + 1) (8 * key + k) (in_octant site level k bodies)

-- the undivided cubes of many bodies are the octants' one after another
pub cubes_of_split : (site : ℕ → Site) (most level key : ℕ) (bodies : List ℕ) → level < 21 → most < length bodies
    → cubes_from (octants_of site) most (21 - level) level key bodies ≡ rows (octant_cubes site most level key bodies) 8
cubes_of_split site most level key bodies deep many =
    let deeper : 21 - level ≡ suc (21 - (level + 1)) = omega arith in
    ap (λ y. cubes_from (octants_of site) most y level key bodies) deeper
    ∙ cubes-many (octants_of site) most (21 - (level + 1)) level key bodies many
    ∙ in_turn-same (λ k. cubes_from (octants_of site) most (21 - (level + 1)) (suc level) (8 * key + k) (of_octant (octants_of site) level k bodies))
    (octant_cubes site most level key bodies)
    (λ k small. ap (λ y. cubes_from (octants_of site) most (21 - (level + 1)) y (8 * key + k) (in_octant site level k bodies)) (sym (add-one level)))

-- one more octant
pub cubes_more : (before now next : List (ℕ × ℕ)) (g : ℕ → List (ℕ × ℕ)) (k : ℕ) → now ≡ before ++ rows g k → next ≡ now ++ g k
    → next ≡ before ++ rows g (k + 1)
cubes_more before now next g k m e =
    e ∙ ap (λ y. y ++ g k) m ∙ append_assoc before (rows g k) (g k) ∙ ap (λ y. before ++ y) (sym (rows_more g k))

-- the key of an octant fits its word
pub child_key_fits : (key level : ℕ) → level < 21 → key < 2 * 8 ^ level → 8 * key + 7 < 2 ^ 64
child_key_fits key level deep small = omega (arith, pow8-mono level 20 (omega arith))

-- an octant has at most all bodies
pub octant_few : (site : ℕ → Site) (level k : ℕ) (bodies : List ℕ) → length (in_octant site level k bodies) ≤ length bodies
octant_few site level k bodies = omega (
  arith,
  length-filter (λ n. eqb (octant_of (site n) level) k) bodies,
  count_by-le-length (λ n. eqb (octant_of
      (site n) level) k) bodies,
)
