-- Blocks of two lists, as the plain program finds them.
use Rattle.std.proofs.Common.{ℕ, ◌+◌, ◌-◌, ◌<◌, ◌≤◌, ◌≡◌, ◌≢◌, suc, refl, sym, ◌∙◌, ap, arith, List, [], ◌∷◌, length}
use Rattle.octant_code.specs.Space.{Site}
use Rattle.bh_model.specs.Blocks.{blocks_from}
use Rattle.bh_model.specs.Trees.{in_octant}
use Rattle.bh_model.proofs.Blocks.{blocks-alone, blocks-deep, blocks-many, blocks-none, blocks_few, octant_blocks}
use Rattle.bh_model.proofs.Totals.{sum_upto, sum_upto-le}

-- no body has no block
pub blocks_of_none : (site : ℕ → Site) (below level : ℕ) (bodies others : List ℕ) → length bodies ≡ 0 → 0 ≡ blocks_from site below level bodies others
blocks_of_none site below level [] others none = sym (blocks-none site below level others)
blocks_of_none site below level (n ∷ rest) others none = absurd (omega arith)

-- bodies alone have one
pub blocks_of_alone : (site : ℕ → Site) (below level : ℕ) (bodies others : List ℕ) → length bodies ≢ 0 → length others ≡ 0
    → 1 ≡ blocks_from site below level bodies others
blocks_of_alone site below level [] others some none = absurd (some refl)
blocks_of_alone site below level (n ∷ rest) [] some none = sym (blocks-alone site below level n rest)
blocks_of_alone site below level (n ∷ rest) (m ∷ more) some none = absurd (omega arith)

-- at the deepest level bodies among others have none
pub blocks_of_deep : (site : ℕ → Site) (level : ℕ) (bodies others : List ℕ) → length bodies ≢ 0 → length others ≢ 0 → level ≡ 21
    → 0 ≡ blocks_from site (21 - level) level bodies others
blocks_of_deep site level [] others some more deep = absurd (some refl)
blocks_of_deep site level (n ∷ rest) [] some more deep = absurd (more refl)
blocks_of_deep site level (n ∷ rest) (m ∷ others) some more deep =
    let below : 21 - level ≡ 0 = omega arith in
    sym (ap (λ b. blocks_from site b level (n ∷ rest) (m ∷ others)) below ∙ blocks-deep site level n m rest others)

-- above it those of the octants
pub blocks_of_split : (site : ℕ → Site) (level : ℕ) (bodies others : List ℕ) → length bodies ≢ 0 → length others ≢ 0 → level < 21
    → sum_upto (octant_blocks site (21 - (level + 1)) level bodies others) 8 ≡ blocks_from site (21 - level) level bodies others
blocks_of_split site level [] others some more shallow = absurd (some refl)
blocks_of_split site level (n ∷ rest) [] some more shallow = absurd (more refl)
blocks_of_split site level (n ∷ rest) (m ∷ others) some more shallow =
    let below : 21 - level ≡ suc (21 - (level + 1)) = omega arith in
    sym (ap (λ b. blocks_from site b level (n ∷ rest) (m ∷ others)) below ∙ blocks-many site (21 - (level + 1)) level n m rest others)

-- those of some of the octants are no more than the bodies
pub split_few : (site : ℕ → Site) (level k : ℕ) (bodies others : List ℕ) → length bodies ≢ 0 → length others ≢ 0 → level < 21 → k < 8
    → sum_upto (octant_blocks site (21 - (level + 1)) level bodies others) k + octant_blocks site (21 - (level + 1)) level bodies others k ≤ length bodies
unfolding sum_upto
split_few site level k bodies others some more shallow l =
    omega (
      arith,
      sum_upto-le (octant_blocks site (21 - (level + 1)) level bodies others) (suc k) 8 (omega arith),
      blocks_of_split site level bodies others some more shallow,
      blocks_few site (21 - level) level bodies others,
    )

-- the blocks of an octant, by its bodies and its others
pub octant_part : (site : ℕ → Site) (level k : ℕ) (bodies others part rest : List ℕ) (count : ℕ) → part ≡ in_octant site level k bodies
    → rest ≡ in_octant site level k others → count ≡ blocks_from site (21 - (level + 1)) (level + 1) part rest
    → count ≡ octant_blocks site (21 - (level + 1)) level bodies others k
octant_part site level k bodies others part rest count mine theirs is =
    let below : ℕ = 21 - (level + 1) in
    let next : level + 1 ≡ suc level = omega arith in
    is ∙ ap (λ l. blocks_from site below l part rest) next ∙ ap (λ y. blocks_from site below (suc level) y rest) mine
    ∙ ap (λ y. blocks_from site below (suc level) (in_octant site level k bodies) y) theirs
