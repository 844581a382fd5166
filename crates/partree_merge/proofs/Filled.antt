-- A share is inserted body by body into an octree that is empty.
use Rattle.std.proofs.Common.{ℕ, ◌≡◌, ◌+◌, ◌<◌, ◌↔◌, ◌++◌, refl, sym, ◌∙◌, ap, subst, inl, inr, arith, List, [], ◌∷◌, length, get_or, take, drop}
use Rattle.std.proofs.Common.{All}
use Rattle.std.proofs.lemmas.List.Elements.{All-cons, All-nil}
use Rattle.std.proofs.lemmas.List.{drop_more, take_all, take-append-drop, take_more}
use Rattle.octant_code.specs.Space.{Site}
use Rattle.bh_model.specs.Bodies.{IsIn, NoneTwice}
use Rattle.bh_model.proofs.Lists.{in_append, in_left, in_right, once_apart}
use Rattle.tree_passes.specs.Counting.{times}
use Rattle.tree_passes.proofs.Laws.{in_times, once_times, times_in, times_once}
use Rattle.tree_rule.specs.Words.{at_of, body_word, HasBody}
use Rattle.octree.specs.Stored.{IsCanonical, IsInserted, root_word, Stored}
use Rattle.octree.proofs.Laws.{empty_canonical, reached_blank}
use Rattle.partree_merge.specs.Filling.{IsFilled}

-- nothing is inserted yet
pub filled_none : (sites : List Site) (share : List ℕ) (own : Stored) → own.base ≡ 1 → root_word own ≡ 0 → IsFilled sites share own own 0
filled_none sites share own base empty = record {
  base = base;
  canonical = empty_canonical sites own empty;
  bodies = λ x. ((λ b. absurd (omega (arith, reached_blank (at_of own.words) (at_of own.words 0) (body_word x) empty b))), (λ i. absurd i));
  held = refl;
  used = omega arith;
}

-- a member of a share that has none twice is not among those before it
pub not_before : (share : List ℕ) (i : ℕ) → NoneTwice share → i < length share → IsIn (take i share) (get_or share i 0) → ⊥
not_before share i once less there =
    let whole : take i share ++ drop i share ≡ share = take-append-drop i share in
    once_apart (take i share) (drop i share) (subst NoneTwice (sym whole) once) (get_or share i 0) there
    (subst (λ (z : List ℕ). IsIn z (get_or share i 0)) (sym (drop_more share i 0 less)) (inl refl))

-- one body more
pub filled_more : (sites : List Site) (share : List ℕ) (before own next : Stored) (i : ℕ) → i < length share → IsFilled sites share before own i
    → IsCanonical sites next → IsInserted (get_or share i 0) own next → IsFilled sites share before next (i + 1)
filled_more sites share before own next i less h c s =
    let n : ℕ = get_or share i 0 in
    let more : take (i + 1) share ≡ take i share ++ (n ∷ []) = take_more share i 0 less in
    record {
      base = s.base_stays ∙ h.base;
      canonical = c;
      bodies = λ x. (
        (λ b. subst (λ (z : List ℕ). IsIn z x) (sym more) (elim ((s.bodies x).0 b) [
          | inl q ↦ in_left (take i share) (n ∷ []) x ((h.bodies x).0 q)
          | inr e ↦ in_right (take i share) (n ∷ []) x (inl e)
        ])),
        (λ j. (s.bodies x).1 (elim (in_append (take i share) (n ∷ []) x (subst (λ (z : List ℕ). IsIn z x) more j)) [
          | inl q ↦ inl ((h.bodies x).1 q)
          | inr e ↦ inr (elim e [ inl f ↦ f | inr f ↦ absurd f ])
        ])),
      );
      held = s.held_stays ∙ h.held;
      used = omega (arith, s.used_few, h.used);
    }

-- all bodies of the share are in
pub filled_all : (sites : List Site) (share : List ℕ) (before own : Stored) (i : ℕ) → IsFilled sites share before own i → i ≡ length share → (x : ℕ)
    → HasBody own.words x ↔ IsIn share x
filled_all sites share before own i h all x =
    subst (λ (z : List ℕ). HasBody own.words x ↔ IsIn z x) (ap (λ (k : ℕ). take k share) all ∙ take_all (length share) share (omega arith)) (h.bodies x)

-- A list that has each body as often as a share has the bodies of the share, each once where the share has none twice.
module _ (order share : List ℕ) (same : (x : ℕ) → times x order ≡ times x share) where
  pub in_order : (x : ℕ) → IsIn order x ↔ IsIn share x
  in_order x =
      let e = same x in (
        (λ i. let a = in_times x order i in times_in x share (omega arith)),
        (λ i. let a = in_times x share i in times_in x order (omega arith)),
      )

  pub once_in_order : NoneTwice share → NoneTwice order
  once_in_order once = times_once order (λ x. let e = same x in let o = once_times share once x in omega arith)

-- each member of a list is below a number
pub all_below : (share : List ℕ) (n : ℕ) → ((x : ℕ) → IsIn share x → x < n) → All (λ m. m < n) share
all_below [] n h = All-nil (λ m. m < n)
all_below (m ∷ ms) n h = All-cons (λ k. k < n) m ms (h m (inl refl)) (all_below ms n (λ x i. h x (inr i)))
