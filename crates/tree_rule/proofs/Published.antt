-- The theorems of publication and of taking out, over lists of words, cells and bodies.
use Rattle.std.proofs.Common.{ℕ, ◌<◌, ◌≡◌, ◌↔◌, sym, subst, inl, inr, arith, List, [], ◌∷◌, ◌++◌, length, slice_set, get_or-set_same, get_or-set_other}
use Rattle.octant_code.specs.Space.{Site, IsUnder}
use Rattle.bh_model.specs.Bodies.{IsIn, NoneTwice}
use Rattle.bh_model.proofs.Lists.{in_append, in_left, in_right, none_twice-append, once_apart, once_back, once_front}
use Rattle.tree_rule.specs.Renumbered.{AreRenumbered, IsNumberOf, renumbered}
use Rattle.tree_rule.specs.Words.{IsReached, at_of, body_word, cell_word}
use Rattle.tree_rule.specs.Flat.{ChangedAt, Either, StandsAmid, StandsFor}
use Rattle.tree_rule.specs.Standing.{IsPublished, NamesExactly}
use Rattle.tree_rule.proofs.Exact.{exact_of_stands, stands_of_exact, word_published}
use Rattle.tree_rule.proofs.Graft.{graft}
use Rattle.tree_rule.proofs.Parts.{Nothing, Only, stands_body}
use Rattle.tree_rule.proofs.Renumber.{stands_renumbered}
use Rattle.tree_rule.proofs.Replace.{CellsOutside}
use Rattle.tree_rule.proofs.Walk.{amid_same, stands_same}

-- a list that is set at one place
pub changed_at : (words : List ℕ) (place w : ℕ) → place < length words → ChangedAt (at_of words) (at_of (slice_set words place w)) place w
changed_at words place w l = record { now = get_or-set_same words place w 0 l; others = λ i d. get_or-set_other words place i w 0 d }

-- the same facts with other lists of bodies and witnesses
pub lists_changed : (site : ℕ → Site) (at : ℕ → ℕ) (top base : ℕ) (P B V : ℕ → Type 0) (cells bodies witnesses : List ℕ)
    → ((c : ℕ) → P c ↔ IsIn cells c) → ((n : ℕ) → B n ↔ IsIn bodies n) → ((n : ℕ) → V n → IsIn witnesses n)
    → StandsAmid site at top base P B V → StandsAmid site at top base (IsIn cells) (IsIn bodies) (IsIn witnesses)
lists_changed site at top base P B V cells bodies witnesses pc bb vw h = amid_same site at top base P (IsIn cells) B (IsIn bodies) V (IsIn witnesses) pc bb vw h

-- members of two lists are those of the lists together
either_in : (xs ys : List ℕ) (m : ℕ) → Either (IsIn ys) (IsIn xs) m ↔ IsIn (xs ++ ys) m
either_in xs ys m = (
  (λ p. elim p [ inl q ↦ in_right xs ys m q | inr q ↦ in_left xs ys m q ]),
  (λ p. elim (in_append xs ys m p) [ inl q ↦ inr q | inr q ↦ inl q ]),
)

-- numbers move from a list to the one before it
moved_over : (xs ys zs : List ℕ) → NoneTwice (xs ++ (ys ++ zs)) → NoneTwice ((ys ++ xs) ++ zs)
moved_over xs ys zs h =
    let back : NoneTwice (ys ++ zs) = once_back xs (ys ++ zs) h in
    none_twice-append (ys ++ xs) zs
    (none_twice-append ys xs (once_front ys zs back) (once_front xs (ys ++ zs) h) (λ n i j. once_apart xs (ys ++ zs) h n j (in_left ys zs n i)))
    (once_back ys zs back)
    (λ n i j. elim (in_append ys xs n i) [ inl k ↦ once_apart ys zs back n k j | inr k ↦ once_apart xs (ys ++ zs) h n k (in_right ys zs n j) ])

module _ (site : ℕ → Site) (at at' : ℕ → ℕ) (root base : ℕ) (cells : List ℕ) (key place : ℕ) (there : IsPublished at root base cells key place) where
  -- an empty published word becomes that of a body of its cube
  pub body_put : (others bodies : List ℕ) (n : ℕ) → NamesExactly site at root base cells others bodies → at place ≡ 0 → IsUnder key (site n)
      → ChangedAt at at' place (body_word n)
      → NamesExactly site at' root base cells others (n ∷ bodies)
  body_put others bodies n h empty under changed =
      exact_of_stands site at' root base cells others (n ∷ bodies)
      (stands_same site at' (at' root) base (Either (IsIn cells) Nothing) (IsIn cells) (Either (IsIn bodies) (Only n)) (IsIn (n ∷ bodies))
      (λ c. ((λ p. elim p [ inl q ↦ q | inr q ↦ absurd q ]), (λ p. inl p)))
      (λ m. ((λ p. elim p [ inl q ↦ inr q | inr q ↦ inl q ]), (λ p. elim p [ inl q ↦ inr q | inr q ↦ inl q ])))
      (graft site at at' root base (IsIn cells) Nothing (IsIn bodies) (Only n) (IsIn bodies) (Only n) key place (body_word n) (record {
        before = stands_of_exact site at root base cells others bodies h;
        below = stands_body site at' key n (Only n) under;
        there = there;
        no_cell = λ c e. omega (arith, empty);
        body_joins = λ m e. absurd (omega (arith, empty));
        changed = changed;
      }))) h.none_twice

  -- a published word that names no cell becomes that of a part, which has the body that the word named
  pub part_put : (others bodies new_cells new_bodies all : List ℕ) (w : ℕ) → NamesExactly site at root base cells (new_cells ++ others) bodies
      → ((c : ℕ) → at place ≡ cell_word c → ⊥) → ((x : ℕ) → at place ≡ body_word x → IsIn new_bodies x)
      → NamesExactly site at' place key new_cells [] new_bodies → ChangedAt at at' place w
      → ((n : ℕ) → IsIn (new_bodies ++ bodies) n ↔ IsIn all n) → NamesExactly site at' root base (new_cells ++ cells) others all
  part_put others bodies new_cells new_bodies all w h no_cell joins part changed same =
      exact_of_stands site at' root base (new_cells ++ cells) others all
      (stands_same site at' (at' root) base (Either (IsIn cells) (IsIn new_cells)) (IsIn (new_cells ++ cells)) (Either (IsIn bodies) (IsIn new_bodies))
      (IsIn all)
      (either_in new_cells cells)
      (λ n. ((λ p. (same n).0 ((either_in new_bodies bodies n).0 p)), (λ p. (either_in new_bodies bodies n).1 ((same n).1 p))))
      (graft site at at' root base (IsIn cells) (IsIn new_cells) (IsIn bodies) (IsIn new_bodies) (IsIn bodies) (IsIn new_bodies) key place w (record {
        before = stands_of_exact site at root base cells (new_cells ++ others) bodies h;
        below = subst (λ (y : ℕ). StandsFor site at' y key (IsIn new_cells) (IsIn new_bodies)) changed.now
            (stands_of_exact site at' place key new_cells [] new_bodies part);
        there = there;
        no_cell = no_cell;
        body_joins = joins;
        changed = changed;
      }))) (moved_over cells new_cells others h.none_twice)

  -- a body that a published word names is one of the list, so it may be left out of a list before
  named_already : (others bodies more : List ℕ) (x : ℕ) → NamesExactly site at root base cells others bodies → at place ≡ body_word x
      → (m : ℕ) → IsIn ((x ∷ more) ++ bodies) m ↔ IsIn (more ++ bodies) m
  named_already others bodies more x h e m =
      let f = stands_of_exact site at root base cells others bodies h in
      let member : IsIn bodies x = (f.names_body key x (word_published at root base cells key place (body_word x) there e)).0 in (
        (λ i. elim i [ inl s ↦ subst (λ (y : ℕ). IsIn (more ++ bodies) y) (sym s) (in_right more bodies x member) | inr j ↦ j ]),
        (λ i. inr i),
      )

  -- an empty published word becomes that of a part
  pub cell_put : (others bodies new_cells new_bodies : List ℕ) (w : ℕ) → NamesExactly site at root base cells (new_cells ++ others) bodies → at place ≡ 0
      → NamesExactly site at' place key new_cells [] new_bodies → ChangedAt at at' place w
      → NamesExactly site at' root base (new_cells ++ cells) others (new_bodies ++ bodies)
  cell_put others bodies new_cells new_bodies w h empty part changed =
      part_put others bodies new_cells new_bodies (new_bodies ++ bodies) w h (λ c e. omega (arith, empty))
      (λ x e. absurd (omega (arith, empty))) part changed (λ n. ((λ i. i), (λ i. i)))

  -- a published word that names a body becomes that of a part with it and others
  pub cell_put_over : (others bodies new_cells more : List ℕ) (x w : ℕ) → NamesExactly site at root base cells (new_cells ++ others) bodies
      → at place ≡ body_word x
      → NamesExactly site at' place key new_cells [] (x ∷ more) → ChangedAt at at' place w
      → NamesExactly site at' root base (new_cells ++ cells) others (more ++ bodies)
  cell_put_over others bodies new_cells more x w h e part changed =
      part_put others bodies new_cells (x ∷ more) (more ++ bodies) w h (λ c f. omega (arith, e)) (λ m f. let s : m ≡ x = omega arith in inl s) part changed
      (named_already (new_cells ++ others) bodies more x h e)

-- the cells of a list that are kept where those below a cell's word leave
pub cells_kept : (site : ℕ → Site) (at after : ℕ → ℕ) (root base : ℕ) (cells kept bodies witnesses : List ℕ) (place c : ℕ) → at place ≡ cell_word c
    → ((d : ℕ) → IsIn kept d ↔ (IsIn cells d × (IsReached at (cell_word c) (cell_word d) → ⊥)))
    → StandsAmid site after (after root) base (CellsOutside at (at place) (IsIn cells)) (IsIn bodies) (IsIn witnesses)
    → StandsAmid site after (after root) base (IsIn kept) (IsIn bodies) (IsIn witnesses)
cells_kept site at after root base cells kept bodies witnesses place c named rest h =
    lists_changed site after (after root) base (CellsOutside at (cell_word c) (IsIn cells)) (IsIn bodies) (IsIn witnesses) kept bodies witnesses
    (λ d. ((rest d).1, (rest d).0)) (λ n. ((λ p. p), (λ p. p))) (λ n p. p)
    (subst (λ (w : ℕ). StandsAmid site after (after root) base (CellsOutside at w (IsIn cells)) (IsIn bodies) (IsIn witnesses)) named h)

-- words in which the cells of a list stand under other numbers
pub renumbered_lists : (site : ℕ → Site) (at after : ℕ → ℕ) (top after_top base : ℕ) (cells after_cells bodies witnesses : List ℕ) (number : ℕ → ℕ)
    → StandsAmid site at top base (IsIn cells) (IsIn bodies) (IsIn witnesses) → AreRenumbered at after (IsIn cells) number → after_top ≡ renumbered number top
    → ((d : ℕ) → IsIn after_cells d ↔ IsNumberOf number (IsIn cells) d) → StandsAmid site after after_top base (IsIn after_cells) (IsIn bodies) (IsIn witnesses)
renumbered_lists site at after top after_top base cells after_cells bodies witnesses number h r tops same =
    lists_changed site after after_top base (IsNumberOf number (IsIn cells)) (IsIn bodies) (IsIn witnesses) after_cells bodies witnesses
    (λ d. ((same d).1, (same d).0)) (λ n. ((λ p. p), (λ p. p))) (λ n p. p)
    (stands_renumbered site at after top after_top base (IsIn cells) (IsIn bodies) (IsIn witnesses) number h r tops)
