-- Blocks are at most the bodies, at least one where there is a body, and over the octants of a cube they are those of the cube.
use Rattle.std.proofs.Common.{ℕ, ◌+◌, ◌*◌, ◌<◌, ◌≤◌, ◌≡◌, ◌≢◌, zero, suc, refl, sym, ◌∙◌, inl, inr, arith, List, [], ◌∷◌, length, subst}
use Rattle.std.proofs.Common.{All}
use Rattle.std.proofs.lemmas.Bool.{cases_lt}
use Rattle.octant_code.specs.Points.{ArePoints, site_at}
use Rattle.octant_code.specs.Space.{Site, key_of, octant_of, origin}
use Rattle.octant_code.proofs.InCube.{same_site}
use Rattle.octant_code.proofs.Keys.{octant-small}
use Rattle.bh_model.specs.Bodies.{IsIn}
use Rattle.bh_model.specs.Blocks.{blocks, blocks_from, sum_of_eight}
use Rattle.bh_model.specs.Trees.{in_octant}
use Rattle.bh_model.proofs.CellCounts.{octant_length, octants_few, sum_times}
use Rattle.bh_model.proofs.Cells.{LieUnder, in_octant-keeps, in_octant-member, in_octant-under, member_of_all, under_root}
use Rattle.bh_model.proofs.Totals.{sum_upto, sum_upto-term}

-- the sum over the octants is that of the first eight values
eight-sum : (f : ℕ → ℕ) → sum_of_eight f ≡ sum_upto f 8
unfolding sum_upto
eight-sum f = omega arith

-- the blocks of the octants of a cube
abbrev pub octant_blocks : (ℕ → Site) → ℕ → ℕ → List ℕ → List ℕ → ℕ → ℕ
octant_blocks site below level bodies others k =
    blocks_from site below (suc level) (in_octant site level k bodies) (in_octant site level k others)

pub blocks-none : (site : ℕ → Site) (below level : ℕ) (others : List ℕ) → blocks_from site below level [] others ≡ 0
unfolding blocks_from
blocks-none site below level others = refl

pub blocks-alone : (site : ℕ → Site) (below level n : ℕ) (rest : List ℕ) → blocks_from site below level (n ∷ rest) [] ≡ 1
unfolding blocks_from
blocks-alone site below level n rest = refl

pub blocks-deep : (site : ℕ → Site) (level n m : ℕ) (rest more : List ℕ) → blocks_from site zero level (n ∷ rest) (m ∷ more) ≡ 0
unfolding blocks_from
blocks-deep site level n m rest more = refl

-- where both lists have a body, the blocks are those of the octants
pub blocks-many : (site : ℕ → Site) (below level n m : ℕ) (rest more : List ℕ)
    → blocks_from site (suc below) level (n ∷ rest) (m ∷ more) ≡ sum_upto (octant_blocks site below level (n ∷ rest) (m ∷ more)) 8
unfolding blocks_from
blocks-many site below level n m rest more = eight-sum (octant_blocks site below level (n ∷ rest) (m ∷ more))

-- at most one for each body
pub blocks_few : (site : ℕ → Site) (below level : ℕ) (bodies others : List ℕ) → blocks_from site below level bodies others ≤ length bodies
blocks_few site below level [] others = omega (arith, blocks-none site below level others)
blocks_few site below level (n ∷ rest) [] = omega (arith, blocks-alone site below level n rest)
blocks_few site zero level (n ∷ rest) (m ∷ more) = omega (arith, blocks-deep site level n m rest more)
blocks_few site (suc below) level (n ∷ rest) (m ∷ more) =
    let bodies : List ℕ = n ∷ rest in
    let others : List ℕ = m ∷ more in
    let parts : sum_upto (octant_blocks site below level bodies others) 8 ≤ 1 * sum_upto (octant_length site level bodies) 8 =
    sum_times (octant_blocks site below level bodies others) (octant_length site level bodies) 1 8
    (λ k. let few = blocks_few site below (suc level) (in_octant site level k bodies) (in_octant site level k others) in omega arith) in
    omega (arith, blocks-many site below level n m rest more, parts, octants_few site level 8 bodies)

-- no body of one list is in one cube of the deepest level with one of the other
abbrev pub AreApart : (ℕ → Site) → List ℕ → List ℕ → Type 0
AreApart site bodies others = (a b : ℕ) → IsIn bodies a → IsIn others b → key_of (site a) 21 ≢ key_of (site b) 21

-- at least one where there is a body
pub blocks_some : (site : ℕ → Site) (below level key : ℕ) (bodies others : List ℕ) (n : ℕ) → level + below ≡ 21 → LieUnder site level key bodies
    → LieUnder site level key others → AreApart site bodies others → IsIn bodies n → 1 ≤ blocks_from site below level bodies others
blocks_some site below level key [] others n sum mine theirs apart i = absurd i
blocks_some site below level key (x ∷ rest) [] n sum mine theirs apart i = omega (arith, blocks-alone site below level x rest)
blocks_some site zero level key (x ∷ rest) (m ∷ more) n sum mine theirs apart i =
    let last : level ≡ 21 = omega arith in
    let same : key_of (site x) level ≡ key_of (site m) level = mine x (inl refl) ∙ sym (theirs m (inl refl)) in
    absurd (apart x m (inl refl) (inl refl) (subst (λ (y : ℕ). key_of (site x) y ≡ key_of (site m) y) last same))
blocks_some site (suc below) level key (x ∷ rest) (m ∷ more) n sum mine theirs apart i =
    let bodies : List ℕ = x ∷ rest in
    let others : List ℕ = m ∷ more in
    let k : ℕ = octant_of (site n) level in
    let one : 1 ≤ octant_blocks site below level bodies others k =
    blocks_some site below (suc level) (8 * key + k) (in_octant site level k bodies) (in_octant site level k others) n (omega arith)
    (in_octant-under site level key k bodies mine) (in_octant-under site level key k others theirs)
    (λ a b p q. apart a b (in_octant-member site level k bodies a p).0 (in_octant-member site level k others b q).0)
    (in_octant-keeps site level bodies n k i refl) in
    omega (
      arith,
      blocks-many site below level x m rest more,
      one,
      sum_upto-term (octant_blocks site below level bodies others) k 8 (octant-small (site n) level),
    )

-- points of numbers in range are apart at the deepest level, where the numbers are others
keys_apart : (sites : List Site) (a b : ℕ) → ArePoints sites → a < length sites → b < length sites → a ≢ b
    → key_of (site_at sites a) 21 ≢ key_of (site_at sites b) 21
keys_apart sites a b rule p q other e =
    let same : site_at sites a ≡ site_at sites b =
    same_site (site_at sites a) (site_at sites b) (rule.in_cube a origin p) (rule.in_cube b origin q) e in
    elim (cases_lt a b) [
      | inl l ↦ rule.apart a b l q same
      | inr l ↦ elim (cases_lt b a) [ inl m ↦ rule.apart b a m p (sym same) | inr m ↦ other (omega arith) ]
    ]

-- a list of numbers in range has a block against a list that it has no number of
pub blocks_of_some : (sites : List Site) (bodies others : List ℕ) → ArePoints sites → 0 < length bodies → All (λ n. n < length sites) bodies
    → All (λ n. n < length sites) others → ((n : ℕ) → IsIn bodies n → IsIn others n → ⊥) → 1 ≤ blocks (site_at sites) bodies others
blocks_of_some sites [] others rule some within outer apart = absurd (omega arith)
blocks_of_some sites (x ∷ rest) others rule some within outer apart =
    let bodies : List ℕ = x ∷ rest in
    let inside : (xs : List ℕ) → All (λ n. n < length sites) xs → (n : ℕ) → IsIn xs n → n < length sites =
    λ xs all n i. member_of_all (λ m. m < length sites) xs n all i in
    blocks_some (site_at sites) 21 0 1 bodies others x (omega arith) (under_root (site_at sites) bodies) (under_root (site_at sites) others)
    (λ a b p q. keys_apart sites a b rule (inside bodies within a p) (inside others outer b q)
    (λ e. apart a p (subst (λ (y : ℕ). IsIn others y) (sym e) q)))
    (inl refl)
