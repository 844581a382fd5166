-- What the plain program's lists say of the octree of a list.
use Rattle.std.proofs.Common.{Bool, true, false, ℕ, ◌+◌, ◌-◌, ◌<◌, ◌≡◌, ◌≢◌, ◌⊎◌, suc, refl, sym, ◌∙◌, ap, subst, inl, inr, arith, add-one, append_assoc}
use Rattle.std.proofs.Common.{List, [], ◌∷◌, ◌++◌, length, get_or, eqb, decimal, All, Result, Ok, Err, OnOk}
use Rattle.std.proofs.lemmas.Bool.{eqb-true, eqb-false}
use Rattle.std.proofs.lemmas.List.Elements.{All-filter}
use Rattle.octant_code.specs.Points.{site_at}
use Rattle.octant_code.specs.Space.{Site, octant_of}
use Rattle.bh_model.specs.Trees.{Tree, Empty, Body, cell_of, in_octant, octree_from, order, text}
use Rattle.bh_model.proofs.Lists.{joined}
use Rattle.bh_model.proofs.Trees.{octree-none, octree-one, octree-deep, octree-many, cell_of-same, order-empty, order-body, order-cell, text-empty, text-body}
use Rattle.bh_model.proofs.Trees.{text-cell}

-- the bodies of an octant are below a number where those of the list are
pub octants_within : (sites : List Site) (level k : ℕ) (bodies part : List ℕ) (most : ℕ) → part ≡ in_octant (site_at sites) level k bodies
    → All (λ n. n < most) bodies → All (λ n. n < most) part
octants_within sites level k bodies part most e h =
    subst (λ (y : List ℕ). All (λ n. n < most) y) (sym e) (All-filter (λ n. eqb (octant_of (site_at sites n) level) k) (λ n. n < most) bodies h)

-- a list of one body is that of its first
single : (bodies : List ℕ) → length bodies ≡ 1 → bodies ≡ get_or bodies 0 0 ∷ []
single [] l = absurd (omega arith)
single (n ∷ []) l = refl
single (n ∷ m ∷ rest) l = absurd (omega arith)

-- a list is empty or its level the deepest where a program's tests say so
pub empty_or_deep : (n level : ℕ) (test : Bool) → test ≡ eqb n 0 → (test ≡ true) ⊎ ((test ≡ false) × (level ≡ 21)) → (n ≡ 0) ⊎ (level ≡ 21)
empty_or_deep n level test e (inl t) = inl (eqb-true n 0 (sym e ∙ t))
empty_or_deep n level test e (inr t) = inr t.1

-- a list is not empty where the test says so
pub list_has_some : (n : ℕ) (test : Bool) → test ≡ eqb n 0 → test ≡ false → n ≢ 0
list_has_some n test e t = eqb-false n 0 (sym e ∙ t)

-- the octrees of the octants of a list at a level
abbrev pub octant_trees : (ℕ → Site) → ℕ → List ℕ → ℕ → Tree
octant_trees site level bodies k = octree_from site (21 - (level + 1)) (level + 1) (in_octant site level k bodies)

-- the octree of two bodies or more
pub split_tree : (site : ℕ → Site) (level : ℕ) (bodies : List ℕ) → level < 21 → length bodies ≢ 0 → length bodies ≢ 1
    → octree_from site (21 - level) level bodies ≡ cell_of (octant_trees site level bodies)
split_tree site level [] l some many = absurd (some refl)
split_tree site level (n ∷ []) l some many = absurd (many refl)
split_tree site level (n ∷ m ∷ rest) l some many =
    let bodies : List ℕ = n ∷ m ∷ rest in
    let deeper : 21 - level ≡ suc (21 - (level + 1)) = omega arith in
    ap (λ y. octree_from site y level bodies) deeper
    ∙ octree-many site (21 - (level + 1)) level n m rest
    ∙ cell_of-same (λ k. octree_from site (21 - (level + 1)) (suc level) (in_octant site level k bodies)) (octant_trees site level bodies)
    (λ k small. ap (λ y. octree_from site (21 - (level + 1)) y (in_octant site level k bodies)) (sym (add-one level)))

-- the octree of no body, and of more than one at the deepest level
pub empty_tree : (site : ℕ → Site) (level : ℕ) (bodies : List ℕ) → length bodies ≢ 1 → (length bodies ≡ 0) ⊎ (level ≡ 21)
    → octree_from site (21 - level) level bodies ≡ Empty
empty_tree site level [] many h = octree-none site (21 - level) level
empty_tree site level (n ∷ []) many h = absurd (many refl)
empty_tree site level (n ∷ m ∷ rest) many (inl e) = absurd (omega arith)
empty_tree site level (n ∷ m ∷ rest) many (inr e) =
    let last : 21 - level ≡ 0 = omega arith in
    ap (λ y. octree_from site y level (n ∷ m ∷ rest)) last ∙ octree-deep site level n m rest

-- the octree of one body
pub one_tree : (site : ℕ → Site) (below level : ℕ) (bodies : List ℕ) → length bodies ≡ 1 → octree_from site below level bodies ≡ Body (get_or bodies 0 0)
one_tree site below level bodies l = ap (octree_from site below level) (single bodies l) ∙ octree-one site below level (get_or bodies 0 0)

-- the orders of the octants of a list at a level
abbrev pub octant_orders : (ℕ → Site) → ℕ → List ℕ → ℕ → List ℕ
octant_orders site level bodies k = order (octant_trees site level bodies k)

-- the order of two bodies or more is the octants' orders one after another
pub order_of_split : (site : ℕ → Site) (level : ℕ) (bodies : List ℕ) → level < 21 → length bodies ≢ 0 → length bodies ≢ 1
    → order (octree_from site (21 - level) level bodies) ≡ joined (octant_orders site level bodies) 8
order_of_split site level bodies l some many = ap order (split_tree site level bodies l some many) ∙ order-cell (octant_trees site level bodies)

-- the order of no body, and of more than one at the deepest level, is empty
pub order_of_empty : (site : ℕ → Site) (level : ℕ) (bodies : List ℕ) → length bodies ≢ 1 → (length bodies ≡ 0) ⊎ (level ≡ 21)
    → order (octree_from site (21 - level) level bodies) ≡ []
order_of_empty site level bodies many h = ap order (empty_tree site level bodies many h) ∙ order-empty

-- the order of one body
pub order_of_single : (site : ℕ → Site) (below level : ℕ) (bodies : List ℕ) → length bodies ≡ 1
    → order (octree_from site below level bodies) ≡ get_or bodies 0 0 ∷ []
order_of_single site below level bodies l = ap order (one_tree site below level bodies l) ∙ order-body (get_or bodies 0 0)

-- the texts of the octants of a list at a level
abbrev pub octant_texts : (ℕ → Site) → ℕ → List ℕ → ℕ → List ℕ
octant_texts site level bodies k = text (octant_trees site level bodies k)

-- the text of two bodies or more is the octants' texts between brackets
pub text_of_split : (site : ℕ → Site) (level : ℕ) (bodies : List ℕ) → level < 21 → length bodies ≢ 0 → length bodies ≢ 1
    → text (octree_from site (21 - level) level bodies) ≡ (40 ∷ joined (octant_texts site level bodies) 8) ++ (41 ∷ [])
text_of_split site level bodies l some many = ap text (split_tree site level bodies l some many) ∙ text-cell (octant_trees site level bodies)

-- the text of no body, and of more than one at the deepest level, is a dot
pub text_of_empty : (site : ℕ → Site) (level : ℕ) (bodies : List ℕ) → length bodies ≢ 1 → (length bodies ≡ 0) ⊎ (level ≡ 21)
    → text (octree_from site (21 - level) level bodies) ≡ 46 ∷ []
text_of_empty site level bodies many h = ap text (empty_tree site level bodies many h) ∙ text-empty

-- the text of one body
pub text_of_single : (site : ℕ → Site) (below level : ℕ) (bodies : List ℕ) → length bodies ≡ 1
    → text (octree_from site below level bodies) ≡ 98 ∷ decimal (get_or bodies 0 0)
text_of_single site below level bodies l = ap text (one_tree site below level bodies l) ∙ text-body (get_or bodies 0 0)

-- one more list is joined
pub joins_more : (before now next : List ℕ) (g : ℕ → List ℕ) (k : ℕ) → now ≡ before ++ joined g k → next ≡ now ++ g k → next ≡ before ++ joined g (k + 1)
joins_more before now next g k m e = e ∙ ap (λ y. y ++ g k) m ∙ append_assoc before (joined g k) (g k) ∙ ap (λ y. before ++ joined g y) (sym (add-one k))

-- one more list is joined after the opening bracket
pub joins_more_text : (before now next : List ℕ) (g : ℕ → List ℕ) (k : ℕ) → now ≡ before ++ (40 ∷ joined g k) → next ≡ now ++ g k
    → next ≡ before ++ (40 ∷ joined g (k + 1))
joins_more_text before now next g k m e =
    e ∙ ap (λ y. y ++ g k) m ∙ append_assoc before (40 ∷ joined g k) (g k) ∙ ap (λ y. before ++ (40 ∷ joined g y)) (sym (add-one k))

-- two pieces that are appended in turn
pub appends_two : (before middle after a b whole : List ℕ) → middle ≡ before ++ a → after ≡ middle ++ b → whole ≡ a ++ b → after ≡ before ++ whole
appends_two before middle after a b whole m e w = e ∙ ap (λ y. y ++ b) m ∙ append_assoc before a b ∙ ap (λ y. before ++ y) (sym w)

-- what an answer without an error says, said otherwise
pub on_ok_map : {T E : Type 0} (r : Result T E) (A B : Type 0) → (A → B) → OnOk r A → OnOk r B
on_ok_map (Ok x) A B f h = f h
on_ok_map (Err e) A B f h = tt
