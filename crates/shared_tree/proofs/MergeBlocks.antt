-- Blocks of bodies against their rivals: over the octants of a cube they add up.
use Rattle.std.proofs.Common.{ℕ, ◌+◌, ◌-◌, ◌*◌, ◌<◌, ◌≤◌, ◌≡◌, suc, sym, ◌∙◌, ap, inl, inr, arith, add-one, List, [], ◌∷◌, length, subst}
use Rattle.octant_code.specs.declared.limits.TheConstants.{LEVELS}
use Rattle.octant_code.specs.Space.{Site, key_of, octant_of}
use Rattle.octant_code.specs.Points.{site_at, ArePoints}
use Rattle.octant_code.proofs.Apart.{level_shallow}
use Rattle.octant_code.proofs.Keys.{key-suc, octant-small, same_child, same_parent}
use Rattle.bh_model.specs.Bodies.{IsIn}
use Rattle.bh_model.specs.Blocks.{blocks_from}
use Rattle.bh_model.specs.Trees.{in_octant}
use Rattle.bh_model.proofs.Blocks.{octant_blocks, blocks-many, blocks_some, AreApart}
use Rattle.bh_model.proofs.Cells.{in_octant-keeps, in_octant-member}
use Rattle.bh_model.proofs.Totals.{sum_upto, sum_upto-more}
use Rattle.tree_passes.specs.declared.view.View.{View}
use Rattle.shared_tree.specs.Merging.{AreBlocks, AreRivals}

-- the key of a body of an octant
pub octant_key : (s : Site) (key level k : ℕ) → key ≡ key_of s level → octant_of s level ≡ k → 8 * key + k ≡ key_of s (level + 1)
octant_key s key level k under octant =
    ap (λ y. 8 * y + k) under ∙ ap (λ y. 8 * key_of s level + y) (sym octant) ∙ sym (key-suc s level) ∙ ap (key_of s) (omega arith)

-- the rivals of an octant are those of the cube in the octant
pub octant_rivals : (v : View) (sites : List Site) (key level k : ℕ) (mine others : List ℕ) → k < 8 → AreRivals v sites key level mine others
    → AreRivals v sites (8 * key + k) (level + 1) (in_octant (site_at sites) level k mine) (in_octant (site_at sites) level k others)
octant_rivals v sites key level k mine others small r =
    let site : ℕ → Site = site_at sites in
    record {
      others_in = λ n i. r.others_in n (in_octant-member site level k others n i).0;
      under = λ n i.
          let f = in_octant-member site level k others n i in
          octant_key (site n) key level k (r.under n f.0) f.1;
      apart = λ n i j. r.apart n (in_octant-member site level k mine n i).0 (in_octant-member site level k others n j).0;
      all = λ n i e.
          let parts : 8 * key + k ≡ 8 * key_of (site n) level + octant_of (site n) level =
          e ∙ ap (key_of (site n)) (omega arith) ∙ key-suc (site n) level in
          let cube : key ≡ key_of (site n) level = same_parent key (key_of (site n) level) k (octant_of (site n) level) small
          (octant-small (site n) level) parts in
          let octant : k ≡ octant_of (site n) level = same_child key (key_of (site n) level) k (octant_of (site n) level) small
          (octant-small (site n) level) parts in
          elim (r.all n i cube) [
            | inl m ↦ inl (in_octant-keeps site level mine n k m (sym octant))
            | inr m ↦ inr (in_octant-keeps site level others n k m (sym octant))
          ];
    }

-- blocks of a pass with the same opening
pub blocks_on : (v w : View) (sites : List Site) (key level : ℕ) (mine : List ℕ) (count : ℕ) → w.bodies ≡ v.bodies → AreBlocks w sites key level mine count
    → AreBlocks v sites key level mine count
blocks_on v w sites key level mine count same blocks others r =
    blocks others (record {
      others_in = r.others_in;
      under = r.under;
      apart = r.apart;
      all = λ n i. r.all n (subst (λ (z : List ℕ). IsIn z n) same i);
    })

-- so many in the first octants at most, whatever the rivals in the cube are
abbrev pub AreBlocksUpTo : View → List Site → ℕ → ℕ → List ℕ → ℕ → ℕ → Type 0
AreBlocksUpTo v sites key level mine k count =
    (others : List ℕ) → AreRivals v sites key level mine others
    → count ≤ sum_upto (octant_blocks (site_at sites) (LEVELS - (level + 1)) level mine others) k

pub blocks_start : (v : View) (sites : List Site) (key level : ℕ) (mine : List ℕ) → AreBlocksUpTo v sites key level mine 0 0
blocks_start v sites key level mine others r = omega arith

-- one octant more
pub blocks_next : (v : View) (sites : List Site) (key level k : ℕ) (mine : List ℕ) (count more : ℕ) → k < 8
    → AreBlocksUpTo v sites key level mine k count
    → AreBlocks v sites (8 * key + k) (level + 1) (in_octant (site_at sites) level k mine) more
    → AreBlocksUpTo v sites key level mine (k + 1) (count + more)
blocks_next v sites key level k mine count more small before child others r =
    let site : ℕ → Site = site_at sites in
    let f : ℕ → ℕ = octant_blocks site (LEVELS - (level + 1)) level mine others in
    let one : more ≤ f k =
    subst (λ (z : ℕ). more ≤ blocks_from site (LEVELS - (level + 1)) z (in_octant site level k mine) (in_octant site level k others)) (add-one level)
    (child (in_octant site level k others) (octant_rivals v sites key level k mine others small r)) in
    omega (arith, before others r, one, sum_upto-more f k)

-- the blocks of a cube where both have a body are those of its octants
both_many : (site : ℕ → Site) (below level n x : ℕ) (mine others : List ℕ) → IsIn mine n → IsIn others x
    → blocks_from site (suc below) level mine others ≡ sum_upto (octant_blocks site below level mine others) 8
both_many site below level n x [] others i j = absurd i
both_many site below level n x (a ∷ rest) [] i j = absurd j
both_many site below level n x (a ∷ rest) (b ∷ more) i j = blocks-many site below level a b rest more

-- where both have a body, the octants are all
pub blocks_end : (v : View) (sites : List Site) (key level k : ℕ) (mine : List ℕ) (count n x : ℕ) → 8 ≤ k → k ≤ 8 → level < LEVELS → IsIn mine n
    → IsIn v.bodies x → key ≡ key_of (site_at sites x) level → (IsIn mine x → ⊥)
    → AreBlocksUpTo v sites key level mine k count → AreBlocks v sites key level mine count
blocks_end v sites key level k mine count n x end last low n_in x_in under apart up others r =
    let site : ℕ → Site = site_at sites in
    let rival : IsIn others x = elim (r.all x x_in under) [ inl m ↦ absurd (apart m) | inr m ↦ m ] in
    let next : suc (LEVELS - (level + 1)) ≡ LEVELS - level = omega arith in
    let eight : k ≡ 8 = omega arith in
    let whole = both_many site (LEVELS - (level + 1)) level n x mine others n_in rival in
    let all : count ≤ sum_upto (octant_blocks site (LEVELS - (level + 1)) level mine others) 8 =
    subst (λ (z : ℕ). count ≤ sum_upto (octant_blocks site (LEVELS - (level + 1)) level mine others) z) eight (up others r) in
    subst (λ (z : ℕ). count ≤ blocks_from site z level mine others) next (omega (arith, all, whole))

-- bodies of numbers in range are apart at the deepest level, where no body is one of the others
apart_lists : (sites : List Site) (mine others : List ℕ) → ArePoints sites → ((n : ℕ) → IsIn mine n → n < length sites)
    → ((n : ℕ) → IsIn others n → n < length sites) → ((n : ℕ) → IsIn mine n → IsIn others n → ⊥) → AreApart (site_at sites) mine others
apart_lists sites mine others rule mine_in others_in apart a b i j e =
    let last = level_shallow sites a b 21 rule (mine_in a i) (others_in b j) (λ s. apart a i (subst (IsIn others) (sym s) j)) (omega arith) e in
    absurd (omega (arith, last))

-- one block is there where there is a body
pub blocks_one : (v : View) (sites : List Site) (key level : ℕ) (mine : List ℕ) (n : ℕ) → ArePoints sites → level ≤ LEVELS
    → ((m : ℕ) → IsIn mine m → m < length sites) → ((m : ℕ) → IsIn mine m → key ≡ key_of (site_at sites m) level) → IsIn mine n
    → AreBlocks v sites key level mine 1
blocks_one v sites key level mine n rule low mine_in under i others r =
    blocks_some (site_at sites) (LEVELS - level) level key mine others n (omega arith) (λ m j. sym (under m j)) (λ m j. sym (r.under m j))
    (apart_lists sites mine others rule mine_in r.others_in r.apart) i

-- none is there for none
pub blocks_zero : (v : View) (sites : List Site) (key level : ℕ) (mine : List ℕ) → AreBlocks v sites key level mine 0
blocks_zero v sites key level mine others r = omega arith
