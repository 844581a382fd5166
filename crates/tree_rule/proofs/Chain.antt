-- The cells that part two bodies: one with the two in different octants, and above it one for each level at which they share the octant.
use Rattle.std.proofs.Common.{ℕ, ◌+◌, ◌*◌, ◌<◌, ◌≡◌, ◌≢◌, ◌⊎◌, refl, sym, ◌∙◌, subst, inl, inr}
use Rattle.octant_code.specs.Space.{Site, IsUnder}
use Rattle.bh_model.proofs.Equal.{same_or_not}
use Rattle.tree_rule.proofs.Parts.{Among, HasParts, ItOr, Nothing, Only, cell_stands, stands_body, stands_none}
use Rattle.tree_rule.proofs.Shared.{Pair, shared_more}
use Rattle.tree_rule.proofs.Walk.{stands_same}
use Rattle.tree_rule.specs.Flat.{IsShared, StandsFor}
use Rattle.tree_rule.specs.Words.{body_word, cell_word, child_place, key_place}

-- a set at one child, and nothing at the others
abbrev pub OnlyAt : ℕ → (ℕ → Type 0) → ℕ → ℕ → Type 0
OnlyAt a Q k d = (k ≡ a) × Q d

-- an empty word stands for an impossible set
pub stands_empty : (site : ℕ → Site) (at : ℕ → ℕ) (w base : ℕ) (P B : ℕ → Type 0) → w ≡ 0 → ((d : ℕ) → P d → ⊥) → ((d : ℕ) → B d → ⊥)
    → StandsFor site at w base P B
stands_empty site at w base P B e p b =
    subst (λ (y : ℕ). StandsFor site at y base P B) (sym e)
    (stands_same site at 0 base Nothing P Nothing B (λ d. ((λ x. absurd x), p d)) (λ d. ((λ x. absurd x), b d)) (stands_none site at base))

-- a cell with one child that isn't empty
pub link_stands : (site : ℕ → Site) (at : ℕ → ℕ) (c key a : ℕ) (Q B : ℕ → Type 0) → at (key_place c) ≡ key → IsShared site B key → a < 8
    → StandsFor site at (at (child_place c a)) (8 * key + a) Q B → ((k : ℕ) → k < 8 → k ≢ a → at (child_place c k) ≡ 0)
    → StandsFor site at (cell_word c) key (λ d. (d ≡ c) ⊎ Q d) B
link_stands site at c key a Q B e two small part others =
    let parts : HasParts site at c key (OnlyAt a Q) (OnlyAt a B) = record {
      key_is = e;
      part_stands = λ k l. elim (same_or_not k a) [
        | inl s ↦ subst (λ (y : ℕ). StandsFor site at (at (child_place c y)) (8 * key + y) (OnlyAt a Q k) (OnlyAt a B k)) (sym s)
            (stands_same site at (at (child_place c a)) (8 * key + a) Q (OnlyAt a Q k) B (OnlyAt a B k) (λ d. ((λ q. (s, q)), (λ q. q.1)))
            (λ d. ((λ q. (s, q)), (λ q. q.1))) part)
        | inr o ↦ stands_empty site at (at (child_place c k)) (8 * key + k) (OnlyAt a Q k) (OnlyAt a B k) (others k l o) (λ d q. o q.0) (λ d q. o q.0)
      ];
      two = shared_more (λ n b. record { part = a; small = small; inside = (refl, b) }) two;
    } in
    stands_same site at (cell_word c) key (ItOr c (OnlyAt a Q)) (λ d. (d ≡ c) ⊎ Q d) (Among (OnlyAt a B)) B
    (λ d. (
      (λ q. elim q [ inl x ↦ inl x | inr x ↦ inr x.inside.1 ]),
      (λ q. elim q [ inl x ↦ inl x | inr x ↦ inr (record { part = a; small = small; inside = (refl, x) }) ]),
    ))
    (λ n. ((λ q. q.inside.1), (λ q. record { part = a; small = small; inside = (refl, q) })))
    (cell_stands site at c key (OnlyAt a Q) (OnlyAt a B) parts)

-- the bodies of the children of a cell with two bodies
abbrev pub AtTwo : ℕ → ℕ → ℕ → ℕ → ℕ → ℕ → Type 0
AtTwo a x b n k m = ((k ≡ a) × (m ≡ x)) ⊎ ((k ≡ b) × (m ≡ n))

-- no cell at any child
abbrev pub NoCell : ℕ → ℕ → Type 0
NoCell k d = ⊥

-- a cell with two bodies
pub fork_stands : (site : ℕ → Site) (at : ℕ → ℕ) (c key a b x n : ℕ) → at (key_place c) ≡ key → IsShared site (Pair x n) key → a < 8 → b < 8 → a ≢ b
    → IsUnder (8 * key + a) (site x) → IsUnder (8 * key + b) (site n)
    → at (child_place c a) ≡ body_word x → at (child_place c b) ≡ body_word n → ((k : ℕ) → k < 8 → k ≢ a → k ≢ b → at (child_place c k) ≡ 0)
    → StandsFor site at (cell_word c) key (Only c) (Pair x n)
fork_stands site at c key a b x n e two sa sb differ ux un wa wb others =
    let member : (m : ℕ) → Pair x n m → Among (AtTwo a x b n) m = λ m q. elim q [
      | inl z ↦ record { part = a; small = sa; inside = inl (refl, z) }
      | inr z ↦ record { part = b; small = sb; inside = inr (refl, z) }
    ] in
    let parts : HasParts site at c key NoCell (AtTwo a x b n) = record {
      key_is = e;
      part_stands = λ k l. elim (same_or_not k a) [
        | inl s ↦
            subst (λ (y : ℕ). StandsFor site at (at (child_place c y)) (8 * key + y) (NoCell k) (AtTwo a x b n k)) (sym s)
            (subst (λ (y : ℕ). StandsFor site at y (8 * key + a) (NoCell k) (AtTwo a x b n k)) (sym wa)
            (stands_same site at (body_word x) (8 * key + a) Nothing (NoCell k) (Only x) (AtTwo a x b n k) (λ d. ((λ q. q), (λ q. q)))
            (λ m. ((λ q. inl (s, q)), (λ q. elim q [ inl z ↦ z.1 | inr z ↦ absurd (differ (sym s ∙ z.0)) ])))
            (stands_body site at (8 * key + a) x (Only x) ux)))
        | inr o ↦ elim (same_or_not k b) [
          | inl s ↦
              subst (λ (y : ℕ). StandsFor site at (at (child_place c y)) (8 * key + y) (NoCell k) (AtTwo a x b n k)) (sym s)
              (subst (λ (y : ℕ). StandsFor site at y (8 * key + b) (NoCell k) (AtTwo a x b n k)) (sym wb)
              (stands_same site at (body_word n) (8 * key + b) Nothing (NoCell k) (Only n) (AtTwo a x b n k) (λ d. ((λ q. q), (λ q. q)))
              (λ m. ((λ q. inr (s, q)), (λ q. elim q [ inl z ↦ absurd (o z.0) | inr z ↦ z.1 ]))) (stands_body site at (8 * key + b) n (Only n) un)))
          | inr p ↦
              stands_empty site at (at (child_place c k)) (8 * key + k) (NoCell k) (AtTwo a x b n k) (others k l o p) (λ d q. q)
              (λ m q. elim q [ inl z ↦ o z.0 | inr z ↦ p z.0 ])
        ]
      ];
      two = shared_more member two;
    } in
    stands_same site at (cell_word c) key (ItOr c NoCell) (Only c) (Among (AtTwo a x b n)) (Pair x n)
    (λ d. ((λ q. elim q [ inl z ↦ z | inr z ↦ absurd z.inside ]), (λ q. inl q)))
    (λ m. ((λ q. elim q.inside [ inl z ↦ inl z.1 | inr z ↦ inr z.1 ]), member m))
    (cell_stands site at c key NoCell (AtTwo a x b n) parts)
