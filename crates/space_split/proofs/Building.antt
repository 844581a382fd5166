-- The octree of a piece while its bodies are inserted.
use Rattle.std.proofs.Common.{ℕ, ◌+◌, ◌*◌, ◌<◌, ◌≤◌, ◌≡◌, ◌↔◌, sym, ◌∙◌, ap, subst, inl, inr, arith, List, [], ◌∷◌, ◌++◌, drop, get_or, length, take}
use Rattle.std.proofs.lemmas.List.{drop_more, map-append, take-append-drop, take_all, take_more}
use Rattle.octant_code.specs.Points.{site_at}
use Rattle.octant_code.specs.Space.{Site}
use Rattle.bh_model.specs.Bodies.{IsIn, NoneTwice}
use Rattle.bh_model.proofs.Lists.{in_append, in_left, in_right, once_apart}
use Rattle.tree_rule.specs.Words.{HasBody, at_of, body_word}
use Rattle.tree_rule.specs.Sound.{BodiesUnder}
use Rattle.octree.specs.Stored.{IsCanonical, IsInserted, IsRoomier, Stored}
use Rattle.octree.proofs.Laws.{empty_canonical, reached_blank}
use Rattle.space_split.specs.Bodies.{numbers_of}
use Rattle.space_split.specs.Parts.{IsPartOf}
use Rattle.space_split.specs.declared.codes.Coded.{Coded}

-- An octree of a key's cube holds the first of some bodies.
pub record IsGrown (sites : List Site) (key : ℕ) (bodies : List Coded) (o : Stored) (i : ℕ) : Type 0 where
  pub base : o.base ≡ key
  pub canonical : IsCanonical sites o
  pub held : (n : ℕ) → HasBody o.words n ↔ IsIn (numbers_of (take i bodies)) n
  pub used : o.used ≤ 21 * i

module _ (sites : List Site) (key : ℕ) (bodies : List Coded) where
  -- the empty octree holds none
  pub grown_none : (o : Stored) → at_of o.words 0 ≡ 0 → o.base ≡ key → o.used ≡ 0 → IsGrown sites key bodies o 0
  grown_none o empty base used = record {
    base = base;
    canonical = empty_canonical sites o empty;
    held = λ n. ((λ r. absurd (omega (arith, reached_blank (at_of o.words) (at_of o.words 0) (body_word n) empty r))), (λ i. absurd i));
    used = omega (arith, used);
  }

  -- more room changes nothing
  pub grown_roomier : (o next : Stored) (i : ℕ) → IsGrown sites key bodies o i → IsRoomier o next → IsGrown sites key bodies next i
  grown_roomier o next i h r = record {
    base = r.base_stays ∙ h.base;
    canonical = record {
      under = subst (λ (b : ℕ). BodiesUnder (site_at sites) (at_of next.words) (at_of next.words 0) b) (sym r.base_stays) (subst (λ (w : List ℕ). BodiesUnder
          (site_at sites) (at_of w) (at_of w 0) o.base) (sym r.words_stay) h.canonical.under);
      bodies_in = λ n b. h.canonical.bodies_in n (subst (λ (w : List ℕ). HasBody w n) r.words_stay b);
    };
    held = λ n. (
      (λ b. (h.held n).0 (subst (λ (w : List ℕ). HasBody w n) r.words_stay b)),
      (λ j. subst (λ (w : List ℕ). HasBody w n) (sym r.words_stay) ((h.held n).1 j)),
    );
    used = omega (arith, r.used_stays, h.used);
  }

  -- the numbers of one body more
  numbers_next : (i : ℕ) (d : Coded) → i < length bodies → numbers_of (take (i + 1) bodies) ≡ numbers_of (take i bodies) ++ ((get_or bodies i d).body ∷ [])
  numbers_next i d l = ap numbers_of (take_more bodies i d l) ∙ map-append (λ (b : Coded). b.body) (take i bodies) (get_or bodies i d ∷ [])

  -- one body more
  pub grown_more : (o next : Stored) (i : ℕ) (b : Coded) → i < length bodies → b ≡ get_or bodies i b → IsGrown sites key bodies o i
      → IsCanonical sites next → IsInserted b.body o next → IsGrown sites key bodies next (i + 1)
  grown_more o next i b l is h canonical s =
      let more : numbers_of (take (i + 1) bodies) ≡ numbers_of (take i bodies) ++ (b.body ∷ []) =
      numbers_next i b l ∙ ap (λ (q : Coded). numbers_of (take i bodies) ++ (q.body ∷ [])) (sym is) in
      record {
        base = s.base_stays ∙ h.base;
        canonical = canonical;
        held = λ n. (
          (λ r. subst (λ (y : List ℕ). IsIn y n) (sym more) (elim ((s.bodies n).0 r) [
            | inl q ↦ in_left (numbers_of (take i bodies)) (b.body ∷ []) n ((h.held n).0 q)
            | inr e ↦ in_right (numbers_of (take i bodies)) (b.body ∷ []) n (inl e)
          ])),
          (λ j. (s.bodies n).1 (elim (in_append (numbers_of (take i bodies)) (b.body ∷ []) n (subst (λ (y : List ℕ). IsIn y n) more j)) [
            | inl q ↦ inl ((h.held n).1 q)
            | inr e ↦ elim e [ inl f ↦ inr f | inr none ↦ absurd none ]
          ])),
        );
        used = omega (arith, s.used_few, h.used);
      }

  -- the next body isn't there yet
  pub not_there : (o : Stored) (i : ℕ) (b : Coded) → i < length bodies → b ≡ get_or bodies i b → NoneTwice (numbers_of bodies) → IsGrown sites key bodies o i
      → HasBody o.words b.body → ⊥
  not_there o i b l is once h has =
      let parts : numbers_of bodies ≡ numbers_of (take i bodies) ++ numbers_of (drop i bodies) =
      ap numbers_of (sym (take-append-drop i bodies)) ∙ map-append (λ (q : Coded). q.body) (take i bodies) (drop i bodies) in
      let next : IsIn (numbers_of (drop i bodies)) b.body =
      subst (λ (y : List Coded). IsIn (numbers_of y) b.body) (sym (drop_more bodies i b l)) (inl (ap (λ (q : Coded). q.body) is)) in
      once_apart (numbers_of (take i bodies)) (numbers_of (drop i bodies)) (subst NoneTwice parts once) b.body ((h.held b.body).0 has) next

  -- all bodies
  pub grown_all : (o : Stored) (i : ℕ) → length bodies ≤ i → IsGrown sites key bodies o i → IsPartOf sites key bodies o
  grown_all o i all h =
      let whole : take i bodies ≡ bodies = take_all i bodies all in
      record {
        base = h.base;
        canonical = h.canonical;
        held = λ n. (
          (λ r. subst (λ (y : List Coded). IsIn (numbers_of y) n) whole ((h.held n).0 r)),
          (λ j. (h.held n).1 (subst (λ (y : List Coded). IsIn (numbers_of y) n) (sym whole) j)),
        );
      }
