-- What an octree is that is canonical at points.
use Rattle.std.proofs.Common.{ℕ, zero, suc, ◌+◌, ◌-◌, ◌*◌, ◌^◌, ◌<◌, ◌≤◌, ◌≡◌, ◌↔◌, refl, sym, ◌∙◌, ap, inl, inr, arith, Bool, true, List, [], ◌∷◌, eqb}
use Rattle.std.specs.List.{filter}
use Rattle.std.proofs.lemmas.Bool.{eq-eqb}
use Rattle.octant_code.proofs.Keys.{level_of_key}
use Rattle.octant_code.specs.Points.{site_at}
use Rattle.octant_code.specs.Space.{Site, key_of}
use Rattle.bh_model.specs.Bodies.{IsIn, NoneTwice}
use Rattle.bh_model.specs.Trees.{octree_from, order}
use Rattle.octree.proofs.Insertions.{base_positive, stands_of}
use Rattle.octree.proofs.Subtrees.{bodies_of_tree, deep_enough, root_spot}
use Rattle.octree.specs.Stored.{IsCanonical, IsStored, Stored, cells_of, root_word, tree_of}
use Rattle.tree_rule.proofs.Laws.{below_top, exact_of_stands_for, reads, stands_same, under_key, word_is}
use Rattle.tree_rule.specs.Flat.{StandsFor, Top}
use Rattle.tree_rule.specs.Standing.{WordsNameExactly}
use Rattle.tree_rule.specs.Words.{HasBody, HasCell, at_of, tree_from}

-- the tree that is read to as many levels as are left is the octree's
tree_left : (o : Stored) → IsStored o → (below more : ℕ) → 22 ≤ o.level + below
    → tree_from (at_of o.words) (more + below) (root_word o) ≡ tree_from (at_of o.words) below (root_word o)
unfolding root_spot
tree_left o h below zero deep = ap (λ b. tree_from (at_of o.words) b (root_word o)) (let e : 0 + below ≡ below = omega arith in e)
tree_left o h below (suc more) deep =
    let next : suc more + below ≡ suc (more + below) = omega arith in
    ap (λ b. tree_from (at_of o.words) b (root_word o)) next
    ∙ deep_enough o (more + below) (root_word o) (word_is (root_word o)) (root_spot o h) (omega (arith, deep)) ∙ tree_left o h below more deep

-- a test that all members pass keeps the list
filter_members : (p : ℕ → Bool) (xs : List ℕ) → ((n : ℕ) → IsIn xs n → p n ≡ true) → filter p xs ≡ xs
filter_members p [] passes = refl
filter_members p (x ∷ xs) passes = rw (passes x (inl refl)) (ap (λ y. x ∷ y) (filter_members p xs (λ n i. passes n (inr i))))

-- the points of all bodies lie in the octree's cube
all_under : (site : ℕ → Site) (at : ℕ → ℕ) (top base level : ℕ) (P : ℕ → Type 0) (bodies : List ℕ) → StandsFor site at top base P (IsIn bodies)
    → 8 ^ level ≤ base → base < 2 * 8 ^ level
    → under_key site level base bodies ≡ bodies
all_under site at top base level P bodies h low high =
    filter_members (λ n. eqb (key_of (site n) level) base) bodies
    (λ n i.
    let f = h.body_named n i in
    let b = below_top site at top base P (IsIn bodies) (IsIn bodies) h (site n) f.level _ f.named in
    let l : b.top_level ≡ level = level_of_key (site n) base level b.top_level low high b.is_base in
    eq-eqb (key_of (site n) level) base (sym (b.is_base ∙ ap (key_of (site n)) l)))

-- it has the canonical tree of any list of its bodies
pub tree_is : (sites : List Site) (o : Stored) → IsStored o → IsCanonical sites o
    → (bodies : List ℕ) → NoneTwice bodies → ((m : ℕ) → IsIn (order (tree_of o)) m ↔ IsIn bodies m)
    → tree_of o ≡ octree_from (site_at sites) (21 - o.level) o.level bodies
tree_is sites o h canon bodies once same =
    let site : ℕ → Site = site_at sites in
    let at : ℕ → ℕ = at_of o.words in
    let members : (m : ℕ) → HasBody o.words m ↔ IsIn bodies m = λ m. (
      (λ b. (same m).0 ((bodies_of_tree o h m).1 b)),
      (λ i. (bodies_of_tree o h m).0 ((same m).1 i)),
    ) in
    let stands : StandsFor site at (root_word o) o.base (HasCell o.words) (IsIn bodies) =
    stands_same site at (root_word o) o.base (HasCell o.words) (HasCell o.words) (HasBody o.words) (IsIn bodies) (λ c. ((λ q. q), (λ q. q))) members
    (stands_of sites o h canon) in
    let left : 22 ≡ o.level + suc (21 - o.level) = omega (arith, h.shallow) in
    let all : o.level + (21 - o.level) ≡ 21 = omega (arith, h.shallow) in
    ap (λ b. tree_from at b (root_word o)) left ∙ tree_left o h (suc (21 - o.level)) o.level (omega (arith, left))
    ∙ reads site at (root_word o) o.base (HasCell o.words) bodies stands once (21 - o.level) o.level o.base (root_word o) all h.base_low h.base_high
    (Top refl refl) (word_is (root_word o))
    ∙ ap (octree_from site (21 - o.level) o.level) (all_under site at (root_word o) o.base o.level (HasCell o.words) bodies stands h.base_low h.base_high)

-- and its words name exactly its cells and its bodies
pub names_exactly : (sites : List Site) (o : Stored) → IsStored o → IsCanonical sites o
    → WordsNameExactly sites o.words 0 o.base (cells_of o) [] (order (tree_of o))
names_exactly sites o h canon =
    exact_of_stands_for (site_at sites) (at_of o.words) 0 o.base (HasCell o.words) (HasBody o.words) [] (base_positive o h) (stands_of sites o h canon) tt
    (λ c p i. i)
