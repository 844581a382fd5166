-- The pull of a subtree: of no body, of one, of a cell that is taken whole, and of one that is opened, child by child.
use Rattle.std.proofs.Common.{ℕ, suc, ◌+◌, ◌-◌, ◌*◌, ◌^◌, ◌<◌, ◌≤◌, ◌≡◌, ◌≢◌, Bool, true, false, sym, ap, ◌∙◌, subst, arith, inl, inr}
use Rattle.std.proofs.Math.Nat.{mul-le-mul_left}
use Rattle.std.proofs.lemmas.Bool.{cases_Bool}
use Rattle.std.proofs.lemmas.Bool.Decides.{eqb_tells}
use Rattle.octant_code.specs.Space.{Site}
use Rattle.bh_model.specs.Moments.{Matter, centre, mass_of, total}
use Rattle.bh_model.specs.Pulls.{IsPullLaw, IsSmall, PullLaw, is_whole, no_pull, pull_from, term}
use Rattle.bh_model.specs.Standing.{Stands}
use Rattle.bh_model.specs.Trees.{Body, Cell, Empty, Tree, cell_of}
use Rattle.bh_model.specs.declared.pull.Pull.{Pull}
use Rattle.bh_model.proofs.Folds.{nth}
use Rattle.bh_model.proofs.PullBounds.{StandsApart, pull-empty, pull-opened, pull-other, pull-own, pull-whole, pull_fits, small_more, small_none, whole_apart}
use Rattle.bh_model.proofs.PullSums.{pull_upto, sum_scaled, upto_small}
use Rattle.bh_model.proofs.Terms.{term-small}
use Rattle.bh_model.proofs.Totals.{child_total, each_of_eight, sum_upto-le, total-cell}
use Rattle.octree.specs.Spot.{Spot, child_under, tree_under}
use Rattle.octree.specs.Subtree.{IsBodyAt, IsCellAt, IsChildOf, IsNothingAt}
use Rattle.force_walk.specs.Cubes.{IsTreeOfCube}
use Rattle.force_walk.proofs.Flats.{child_pull, child_stands}

-- ---- how large the pull of a tree is

-- the pull of a tree is within g times its mass, and has at most as many terms as it has bodies
abbrev IsBounded : PullLaw → Matter → Tree → Pull → Type 0
IsBounded law m tree p = IsSmall (law.g * mass_of m tree) (total (λ n. 1) tree) p

-- the same for the first children of a cell
upto_bounded : (law : PullLaw) (m : Matter) (n down key : ℕ) (child : ℕ → Tree) (k : ℕ) → k ≤ 8
    → ((j : ℕ) → j < 8 → IsBounded law m (child j) (child_pull law m n down key child j))
    → IsBounded law m (cell_of child) (pull_upto (child_pull law m n down key child) k)
upto_bounded law m n down key child k l each =
    let b : ℕ → ℕ = λ j. law.g * mass_of m (child j) in
    let c : ℕ → ℕ = λ j. total (λ n. 1) (child j) in
    let scaled = sum_scaled law.g (λ j. mass_of m (child j)) 8 in
    small_more _ _ _ _ _ (omega (arith, scaled, ap (λ y. law.g * y) (total-cell m.mass child), sum_upto-le b k 8 l))
    (omega (arith, total-cell (λ n. 1) child, sum_upto-le c k 8 l))
    (upto_small (child_pull law m n down key child) b c k (λ j i. each j (omega arith)))

pub pull_bounded : (law : PullLaw) (m : Matter) (most n : ℕ) → StandsApart m most n → (tree : Tree) (down key : ℕ) → Stands most down tree
    → IsBounded law m tree (pull_from law m n down key tree)
unfolding Stands total
pull_bounded law m most n apart Empty down key stands = rw (pull-empty law m n down key) (small_none _ _)
pull_bounded law m most n apart (Body j) down key stands =
    elim (eqb_tells j n) [
      | inl same ↦ rw (pull-own law m n down key j same.1) (small_none _ _)
      | inr other ↦ rw (pull-other law m n down key j other.1) (term-small law (m.mass j) (m.site n) (m.site j) (omega (arith, apart.apart j stands other.1)))
    ]
pull_bounded law m most n apart (Cell a b c d e f g h) down key stands =
    let kid : ℕ → Tree = nth a b c d e f g h in
    let each : (k : ℕ) → k < 8 → IsBounded law m (kid k) (child_pull law m n down key kid k) =
    each_of_eight (λ k. IsBounded law m (kid k) (child_pull law m n down key kid k)) (pull_bounded law m most n apart a (down - 1) (8 * key + 0) stands.2)
    (pull_bounded law m most n apart b (down - 1) (8 * key + 1) stands.3) (pull_bounded law m most n apart c (down - 1) (8 * key + 2) stands.4)
    (pull_bounded law m most n apart d (down - 1) (8 * key + 3) stands.5) (pull_bounded law m most n apart e (down - 1) (8 * key + 4) stands.6)
    (pull_bounded law m most n apart f (down - 1) (8 * key + 5) stands.7) (pull_bounded law m most n apart g (down - 1) (8 * key + 6) stands.8)
    (pull_bounded law m most n apart h (down - 1) (8 * key + 7) stands.9) in
    elim (cases_Bool (is_whole law down key (m.site n) (centre m (cell_of kid)))) [
      | inl taken ↦
          rw (pull-whole law m n down key a b c d e f g h taken)
          (small_more _ _ _ _ _ (omega arith) (omega (arith, stands.1))
          (term-small law (mass_of m (cell_of kid)) (m.site n) (centre m (cell_of kid))
          (omega (arith, whole_apart law down key (m.site n) (centre m (cell_of kid)) taken))))
      | inr opened ↦ rw (pull-opened law m n down key a b c d e f g h opened) (upto_bounded law m n down key kid 8 (omega arith) each)
    ]

-- ---- no body and one body

pub pull_none : {s : Spot} (law : PullLaw) (m : Matter) (n down key : ℕ) → IsNothingAt s → no_pull ≡ pull_from law m n down key (tree_under s)
pull_none law m n down key at = sym (ap (pull_from law m n down key) at.tree ∙ pull-empty law m n down key)

pub pull_own : {s : Spot} {j : ℕ} (law : PullLaw) (m : Matter) (n down key : ℕ) → IsBodyAt s j → j ≡ n → no_pull ≡ pull_from law m n down key (tree_under s)
pull_own {s} {j} law m n down key at own = sym (ap (pull_from law m n down key) at.tree ∙ pull-own law m n down key j own)

pub pull_other : {s : Spot} {j : ℕ} (law : PullLaw) (m : Matter) (n down key mass : ℕ) (from to : Site) (p : Pull) → IsBodyAt s j → j ≢ n
    → from ≡ m.site n → mass ≡ m.mass j → to ≡ m.site j → p ≡ term law mass from to → p ≡ pull_from law m n down key (tree_under s)
pull_other {s} {j} law m n down key mass from to p at other f e g q =
    q ∙ ap (λ y. term law mass y to) f ∙ ap (λ y. term law y (m.site n) to) e ∙ ap (term law (m.mass j) (m.site n)) g
    ∙ sym (ap (pull_from law m n down key) at.tree ∙ pull-other law m n down key j other)

-- ---- a cell

module _ (m : Matter) (down key : ℕ) {s cell : Spot} (at : IsCellAt s cell) (to : Site) (to_is : to ≡ centre m (tree_under s)) where
  -- whether it is taken whole, by its centre
  whole_is : (law : PullLaw) (n : ℕ) (from : Site) (b : Bool) → from ≡ m.site n → is_whole law down key from to ≡ b
      → is_whole law down key (m.site n) (centre m (tree_under s)) ≡ b
  whole_is law n from b f e = sym (ap (λ y. is_whole law down key y to) f ∙ ap (is_whole law down key (m.site n)) to_is) ∙ e

  -- the term of one that is taken whole is its pull
  pub pull_taken : (law : PullLaw) (n mass : ℕ) (from : Site) (p : Pull) → mass ≡ mass_of m (tree_under s) → from ≡ m.site n
      → is_whole law down key from to ≡ true → p ≡ term law mass from to → p ≡ pull_from law m n down key (tree_under s)
  pull_taken law n mass from p mass_is f taken q =
      let child : ℕ → Tree = child_under cell in
      let P : Tree → Type 0 = λ t. is_whole law down key (m.site n) (centre m t) ≡ true
      → pull_from law m n down key t ≡ term law (mass_of m t) (m.site n) (centre m t) in
      q ∙ ap (λ y. term law mass y to) f ∙ ap (λ y. term law y (m.site n) to) mass_is ∙ ap (term law (mass_of m (tree_under s)) (m.site n)) to_is
      ∙ sym (subst P (sym at.tree) (pull-whole law m n down key (child 0) (child 1) (child 2) (child 3) (child 4) (child 5) (child 6) (child 7))
      (whole_is law n from true f taken))

  -- the pull of one that is opened is the sum of its children's
  pub pull_opened : (law : PullLaw) (n k : ℕ) (from : Site) (sum : Pull) → from ≡ m.site n → is_whole law down key from to ≡ false → k ≡ 8
      → sum ≡ pull_upto (child_pull law m n down key (child_under cell)) k → sum ≡ pull_from law m n down key (tree_under s)
  pull_opened law n k from sum f opened all added =
      let child : ℕ → Tree = child_under cell in
      let P : Tree → Type 0 = λ t. is_whole law down key (m.site n) (centre m t) ≡ false
      → pull_from law m n down key t ≡ pull_upto (child_pull law m n down key child) 8 in
      added ∙ ap (pull_upto (child_pull law m n down key child)) all
      ∙ sym (subst P (sym at.tree) (pull-opened law m n down key (child 0) (child 1) (child 2) (child 3) (child 4) (child 5) (child 6) (child 7))
      (whole_is law n from false f opened))

-- what the sum of one more owes
pub record Fits (sum part : Pull) : Type 0 where
  pub one : IsSmall (2 ^ 120) (2 ^ 32) sum
  pub other : IsSmall (2 ^ 120) (2 ^ 32) part
  pub few : sum.met + part.met < 2 ^ 32

module _ {m : Matter} {most down : ℕ} {s cell child : Spot} {k : ℕ} (at : IsCellAt s cell) (cube : IsTreeOfCube m most down (tree_under s))
    (is : IsChildOf cell k child) (small : k < 8) where
  -- the pull of a child
  pub child_part : (law : PullLaw) (n key j : ℕ) (part : Pull) → j ≡ k → part ≡ pull_from law m n (down - 1) (8 * key + j) (tree_under child)
      → part ≡ child_pull law m n down key (child_under cell) k
  child_part law n key j part same e =
      e ∙ ap (λ i. pull_from law m n (down - 1) (8 * key + i) (tree_under child)) same ∙ ap (pull_from law m n (down - 1) (8 * key + k)) is.tree

  -- it fits beside the sum so far
  pub parts_fit : (law : PullLaw) (n key : ℕ) (sum part : Pull) → IsPullLaw law → StandsApart m most n
      → sum ≡ pull_upto (child_pull law m n down key (child_under cell)) k
      → part ≡ child_pull law m n down key (child_under cell) k → Fits sum part
  unfolding Stands
  parts_fit law n key sum part rule apart sum_is part_is =
      let child_of : ℕ → Tree = child_under cell in
      let pulls : ℕ → Pull = child_pull law m n down key child_of in
      let stands : Stands most down (cell_of child_of) = subst (Stands most down) at.tree cube.stands in
      let each : (j : ℕ) → j < 8 → IsBounded law m (child_of j) (pulls j) =
      λ j i. pull_bounded law m most n apart (child_of j) (down - 1) (8 * key + j) (child_stands most down child_of stands j i) in
      let before = upto_bounded law m n down key child_of k (omega arith) each in
      let after = upto_bounded law m n down key child_of (suc k) (omega arith) each in
      let mass : mass_of m (cell_of child_of) < 2 ^ 40 = omega (arith, cube.light, ap (mass_of m) at.tree) in
      let few : total (λ n. 1) (cell_of child_of) ≤ 65536 = omega (arith, cube.few, ap (total (λ n. 1)) at.tree) in
      let fits = pull_fits law.g (mass_of m (cell_of child_of)) rule.g_fits mass in
      let one = each k small in
      let less = mul-le-mul_left law.g (child_total m.mass child_of k small) in
      record {
        one = subst (λ (p : Pull). IsSmall (2 ^ 120) (2 ^ 32) p) (sym sum_is) (small_more _ _ _ _ _ (omega arith) (omega arith) before);
        other = subst (λ (p : Pull). IsSmall (2 ^ 120) (2 ^ 32) p) (sym part_is)
            (small_more _ _ _ _ _ (omega arith) (omega (arith, child_total (λ n. 1) child_of k small)) one);
        few = omega (arith, after.met, ap (λ (p : Pull). p.met) sum_is, ap (λ (p : Pull). p.met) part_is);
      }
