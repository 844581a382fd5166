-- The text of a tree, put child by child.
use Rattle.std.proofs.Common.{ℕ, ◌+◌, ◌-◌, ◌<◌, ◌≡◌, zero, suc, refl, sym, ◌∙◌, ap, subst, arith, List, [], ◌∷◌, ◌++◌, add-one}
use Rattle.std.proofs.Common.{decimal, Option, Result}
use Rattle.bh_model.proofs.Lists.{joined}
use Rattle.bh_model.proofs.Trees.{text-body, text-cell, text-empty}
use Rattle.bh_model.specs.Trees.{Body, Empty, Tree, cell_of, text}
use Rattle.bh_outside.proofs.Texts.{puts_fail, puts_failed, puts_more, puts_then}
use Rattle.bh_outside.specs.Text.{Puts, PutsAll, PutsFront}

-- the text of a cell as far as its first k children
unfoldable pub texts : (ℕ → Tree) → ℕ → List ℕ
texts f k = 40 ∷ joined (λ j. text (f j)) k

pub text_none : (t : Tree) → t ≡ Empty → text t ≡ 46 ∷ []
text_none t e = ap text e ∙ text-empty

pub text_one : (t : Tree) (n : ℕ) → t ≡ Body n → text t ≡ 98 ∷ decimal n
text_one t n e = ap text e ∙ text-body n

pub texts_start : (f : ℕ → Tree) → texts f 0 ≡ 40 ∷ []
unfolding texts
texts_start f = refl

-- one more child
pub texts_next : (f : ℕ → Tree) (child : Tree) (k : ℕ) (a b c : Option (List ℕ)) (u v w : List ℕ) → child ≡ f k → PutsAll a b u v (texts f k)
    → PutsAll b c v w (text child)
    → PutsAll a c u w (texts f (k + 1))
unfolding texts
texts_next f child k a b c u v w e first second =
    subst (λ (y : List ℕ). PutsAll a c u w y) (ap (λ t. texts f k ++ text t) e ∙ ap (λ y. 40 ∷ joined (λ j. text (f j)) y) (sym (add-one k)))
    (puts_more a b c u v w (texts f k) (text child) first second)

-- a front of the text as far as some children is a front of the whole text
texts_upto : (f : ℕ → Tree) (t : Tree) (left k : ℕ) (a b : Option (List ℕ)) (u : List ℕ) → t ≡ cell_of f → k + left ≡ 8 → PutsFront a b u (texts f k)
    → PutsFront a b u (text t)
unfolding texts
texts_upto f t zero k a b u e all h =
    let last : k ≡ 8 = omega (arith, all) in
    subst (λ (y : List ℕ). PutsFront a b u y) (ap (λ n. (40 ∷ joined (λ j. text (f j)) n) ++ (41 ∷ [])) last ∙ sym (ap text e ∙ text-cell f))
    (puts_failed a b u (texts f k) (41 ∷ []) h)
texts_upto f t (suc left) k a b u e all h = texts_upto f t left (suc k) a b u e (omega (arith, all)) (puts_failed a b u (texts f k) (text (f k)) h)

pub texts_front : (f : ℕ → Tree) (t : Tree) (k : ℕ) (a b : Option (List ℕ)) (u : List ℕ) → t ≡ cell_of f → k < 9 → PutsFront a b u (texts f k)
    → PutsFront a b u (text t)
texts_front f t k a b u e l h = texts_upto f t (8 - k) k a b u e (omega (arith, l)) h

-- a child whose text was put in part
pub texts_fail : (f : ℕ → Tree) (child t : Tree) (k : ℕ) (a b c : Option (List ℕ)) (u v : List ℕ) → t ≡ cell_of f → k < 8 → child ≡ f k
    → PutsAll a b u v (texts f k)
    → PutsFront b c v (text child) → PutsFront a c u (text t)
unfolding texts
texts_fail f child t k a b c u v e l same first second =
    texts_front f t (k + 1) a c u e (omega arith)
    (subst (λ (y : List ℕ). PutsFront a c u y) (ap (λ x. texts f k ++ text x) same ∙ ap (λ y. 40 ∷ joined (λ j. text (f j)) y) (sym (add-one k)))
    (puts_fail a b c u v (texts f k) (text child) first second))

-- the bracket behind all children
pub texts_end : {T E : Type 0} (f : ℕ → Tree) (t : Tree) (k : ℕ) (a b c : Option (List ℕ)) (u v w : List ℕ) (r : Result T E) → t ≡ cell_of f → k ≡ 8
    → PutsAll a b u v (texts f k)
    → Puts b c v w (41 ∷ []) r → Puts a c u w (text t) r
unfolding texts
texts_end f t k a b c u v w r e all first second =
    subst (λ (y : List ℕ). Puts a c u w y r) (ap (λ n. (40 ∷ joined (λ j. text (f j)) n) ++ (41 ∷ [])) all ∙ sym (ap text e ∙ text-cell f))
    (puts_then a b c u v w (texts f k) (41 ∷ []) r first second)
