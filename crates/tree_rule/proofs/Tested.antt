-- What the test of a table of words tries is that the words name exactly, and lemmas for its loops.
use Rattle.std.proofs.Common.{ℕ, ◌+◌, ◌*◌, ◌^◌, ◌<◌, ◌≤◌, ◌≡◌, ◌↔◌, zero, suc, refl, sym, ◌∙◌, ap, subst, inl, inr, arith, add-one, List, [], ◌∷◌, append-nil}
use Rattle.std.proofs.Common.{All, length, get_or, drop, take, Bool, true, false, IsTrue, eqb}
use Rattle.std.proofs.lemmas.Bool.{cases_lt, eq-eqb, eqb-true, false≢true}
use Rattle.octant_code.specs.Space.{Site, IsKey, IsUnder}
use Rattle.std.proofs.Math.Nat.{pow-suc}
use Rattle.octant_code.proofs.Keys.{pow8-mono}
use Rattle.bh_model.proofs.Equal.{same_or_not}
use Rattle.bh_model.specs.Bodies.{IsIn, NoneTwice, HasMoreUnder}
use Rattle.tree_rule.specs.Words.{body_word, cell_word, child_place, key_place}
use Rattle.tree_rule.specs.Flat.{Child, ChildPlace, IsWordOf, Top, TopPlace}
use Rattle.tree_rule.specs.Standing.{IsCellKey, IsPublished, NamesExactly}
use Rattle.tree_rule.specs.Tested.{HasOtherUnder, IsChildWord, IsNamedSomewhere, IsRightCell, NamesBodyUnder, NamesCellOf, NamesRightly}
use Rattle.tree_rule.proofs.Names.{names_body, names_cell, word_of_body, word_of_cell}
use Rattle.tree_rule.proofs.Canonical.{ACell, NoBody, OneBody, WordIs, word_is}
use Rattle.tree_rule.proofs.Exact.{Stands, exact_of_stands, shared_of_more, word_published}
use Rattle.bh_model.proofs.MoreThan.{more_of_two, two_of_more}
pub use Rattle.bh_model.proofs.Lists.{member_at}

-- the parts of the test together
pub record AllRight (site : ℕ → Site) (at : ℕ → ℕ) (cells bodies : List ℕ) : Type 0 where
  pub none_twice : NoneTwice cells
  pub root : NamesRightly site at cells bodies 1 (at 0)
  pub cells_right : (c : ℕ) → IsIn cells c → IsRightCell site at cells bodies c
  pub bodies_named : (n : ℕ) → IsIn bodies n → IsNamedSomewhere at cells (body_word n)

-- what names rightly and is a body's word names one of the list, which lies under the key
pub right_body : (site : ℕ → Site) (at : ℕ → ℕ) (cells bodies : List ℕ) (key w n : ℕ) → NamesRightly site at cells bodies key w → w ≡ body_word n
    → IsIn bodies n × IsUnder key (site n)
right_body site at cells bodies key w n (inl z) e = absurd (omega arith)
right_body site at cells bodies key w n (inr (inl b)) e =
    let same : b.0 ≡ n = omega (arith, b.1) in subst (λ (m : ℕ). IsIn bodies m × IsUnder key (site m)) same (b.2, b.3)
right_body site at cells bodies key w n (inr (inr c)) e = absurd (omega (arith, c.1))

-- what names rightly and is a cell's word names one of the list, which has the key
pub right_cell_word : (site : ℕ → Site) (at : ℕ → ℕ) (cells bodies : List ℕ) (key w c : ℕ) → NamesRightly site at cells bodies key w → w ≡ cell_word c
    → IsIn cells c × (at (key_place c) ≡ key)
right_cell_word site at cells bodies key w c (inl z) e = absurd (omega arith)
right_cell_word site at cells bodies key w c (inr (inl b)) e = absurd (omega (arith, b.1))
right_cell_word site at cells bodies key w c (inr (inr d)) e =
    let same : d.0 ≡ c = omega (arith, d.1) in subst (λ (m : ℕ). IsIn cells m × (at (key_place m) ≡ key)) same (d.2, d.3)

-- each word of a key names rightly
pub word_right : (site : ℕ → Site) (at : ℕ → ℕ) (cells bodies : List ℕ) → AllRight site at cells bodies
    → (key w : ℕ) → IsWordOf at (at 0) 1 (IsIn cells) key w → NamesRightly site at cells bodies key w
word_right site at cells bodies r key w (Top k e) =
    subst (λ (x : ℕ). NamesRightly site at cells bodies x w) (sym k) (subst (λ (y : ℕ). NamesRightly site at cells bodies 1 y) (sym e) r.root)
word_right site at cells bodies r key w (Child c j i l k e) =
    subst (λ (x : ℕ). NamesRightly site at cells bodies x w) (sym k)
    (subst (λ (y : ℕ). NamesRightly site at cells bodies (8 * at (key_place c) + j) y) (sym e) ((r.cells_right c i).children j l))

-- where all parts are right, the words stand for the bodies
pub stands_of_right : (site : ℕ → Site) (at : ℕ → ℕ) (cells bodies : List ℕ) → AllRight site at cells bodies → Stands site at 0 1 cells bodies
stands_of_right site at cells bodies r =
    let cell : (key c : ℕ) → IsWordOf at (at 0) 1 (IsIn cells) key (cell_word c) → IsIn cells c × (at (key_place c) ≡ key) =
    λ key c x. right_cell_word site at cells bodies key (cell_word c) c (word_right site at cells bodies r key (cell_word c) x) refl in
    let body : (key n : ℕ) → IsWordOf at (at 0) 1 (IsIn cells) key (body_word n) → IsIn bodies n × IsUnder key (site n) =
    λ key n x. right_body site at cells bodies key (body_word n) n (word_right site at cells bodies r key (body_word n) x) refl in
    record {
      keys_differ = λ c d p q e. (r.cells_right c p).own_key d q e;
      cell_named = λ c p.
          let o = (r.cells_right c p).named in
          let x = word_published at 0 1 cells o.key o.place (cell_word c) o.published o.named in
          subst (λ (y : ℕ). IsWordOf at (at 0) 1 (IsIn cells) y (cell_word c)) (sym (cell o.key c x).1) x;
      names_cell = cell;
      body_named = λ n b.
          let o = r.bodies_named n b in
          let x = word_published at 0 1 cells o.key o.place (body_word n) o.published o.named in
          let f = body o.key n x in
          record {
            level = f.1.0;
            shallow = f.1.1;
            named = subst (λ (y : ℕ). IsWordOf at (at 0) 1 (IsIn cells) y (body_word n)) f.1.2 x;
          };
      names_body = body;
      shared = λ c p. let f = r.cells_right c p in shared_of_more site bodies (at (key_place c)) f.level f.more_under;
    }

-- where all parts are right, the words name exactly
pub exact_of_right : (site : ℕ → Site) (at : ℕ → ℕ) (cells bodies : List ℕ) → AllRight site at cells bodies → NamesExactly site at 0 1 cells [] bodies
exact_of_right site at cells bodies r =
    exact_of_stands site at 0 1 cells [] bodies (stands_of_right site at cells bodies r) (subst NoneTwice (sym (append-nil cells)) r.none_twice)

-- a word that names what is right names rightly
names_right : (site : ℕ → Site) (at : ℕ → ℕ) (cells bodies : List ℕ) → NamesExactly site at 0 1 cells [] bodies
    → (key place : ℕ) → IsPublished at 0 1 cells key place → WordIs (at place) → NamesRightly site at cells bodies key (at place)
names_right site at cells bodies h key place p (NoBody e) = inl e
names_right site at cells bodies h key place p (OneBody n e) = let f = h.names_body key place n p (names_body (at place) n e) in inr (inl (n, e, f.0, f.1))
names_right site at cells bodies h key place p (ACell c e) = let f = h.names_cell key place c p (names_cell (at place) c e) in inr (inr (c, e, f.0, f.1))

-- a published word names rightly where the words name exactly
pub right_word : (site : ℕ → Site) (at : ℕ → ℕ) (cells bodies : List ℕ) → NamesExactly site at 0 1 cells [] bodies
    → (key place : ℕ) → IsPublished at 0 1 cells key place → NamesRightly site at cells bodies key (at place)
right_word site at cells bodies h key place p = names_right site at cells bodies h key place p (word_is (at place))

-- each cell is right where the words name exactly
pub right_cell : (site : ℕ → Site) (at : ℕ → ℕ) (cells bodies : List ℕ) → NamesExactly site at 0 1 cells [] bodies → (c : ℕ) → IsIn cells c
    → IsRightCell site at cells bodies c
right_cell site at cells bodies h c p =
    let o = h.cell_once c p in
    record {
      level = h.levels c p;
      own_key = λ d q e. h.keys_differ c d p q e;
      more_under = h.more_under c p;
      named = record { key = o.key; place = o.place; published = o.published; named = word_of_cell (at o.place) c o.named };
      children = λ k l. right_word site at cells bodies h (8 * at (key_place c) + k) (child_place c k) (ChildPlace c k p l refl refl);
    }

-- each body is named where the words name exactly
pub body_is_named : (site : ℕ → Site) (at : ℕ → ℕ) (cells bodies : List ℕ) → NamesExactly site at 0 1 cells [] bodies → (n : ℕ) → IsIn bodies n
    → IsNamedSomewhere at cells (body_word n)
body_is_named site at cells bodies h n b = let o = h.body_once n b in
    record { key = o.key; place = o.place; published = o.published; named = word_of_body (at o.place) n o.named }

-- what holds of the number at each place holds of each member
pub each_member : (P : ℕ → Type 0) (xs : List ℕ) → ((k : ℕ) → k < length xs → P (get_or xs k 0)) → (n : ℕ) → IsIn xs n → P n
each_member P [] h n i = absurd i
each_member P (x ∷ xs) h n (inl e) = subst P (sym e) (h zero (omega arith))
each_member P (x ∷ xs) h n (inr i) = each_member P xs (λ k l. h (suc k) (omega arith)) n i

-- a list without repeats has none from a place on
pub rest_once : (xs : List ℕ) (k : ℕ) → NoneTwice xs → k < length xs → IsIn (drop (suc k) xs) (get_or xs k 0) → ⊥
rest_once [] k d l i = absurd (omega arith)
rest_once (x ∷ xs) zero d l i = d.0 i
rest_once (x ∷ xs) (suc k) d l i = rest_once xs k d.1 (omega arith) i

-- a list in which no number stands again later has none twice
pub once_of_rest : (xs : List ℕ) → ((k : ℕ) → k < length xs → IsIn (drop (suc k) xs) (get_or xs k 0) → ⊥) → NoneTwice xs
once_of_rest [] h = tt
once_of_rest (x ∷ xs) h = (h zero (omega arith), once_of_rest xs (λ k l. h (suc k) (omega arith)))

-- the answer true, where it is so
pub true_where : (P : Type 0) → P → IsTrue true ↔ P
true_where P p = ((λ e. p), (λ q. refl))

-- the answer false, where it isn't so
pub false_where : (P : Type 0) → (P → ⊥) → IsTrue false ↔ P
false_where P h = ((λ e. absurd (false≢true e)), (λ p. absurd (h p)))

-- what an answer false denies isn't so
pub denied : (P : Type 0) → IsTrue false ↔ P → P → ⊥
denied P h p = false≢true (h.1 p)

-- an answer about one fact is that about another of the same truth
pub answer_same : (b : Bool) (P Q : Type 0) → IsTrue b ↔ P → (P → Q) → (Q → P) → IsTrue b ↔ Q
answer_same b P Q h f g = ((λ e. f (h.0 e)), (λ q. h.1 (g q)))

-- a list in which no number stands again after its place has none twice
pub once_of_later : (xs : List ℕ) → ((k : ℕ) → k < length xs → IsIn (drop (k + 1) xs) (get_or xs k 0) → ⊥) → NoneTwice xs
once_of_later xs h = once_of_rest xs (λ k l i. h k l (subst (λ (m : ℕ). IsIn (drop m xs) (get_or xs k 0)) (sym (add-one k)) i))

-- a list in which a number stands again after its place has one twice
pub not_once : (xs : List ℕ) (k : ℕ) → k < length xs → IsIn (drop (k + 1) xs) (get_or xs k 0) → NoneTwice xs → ⊥
not_once xs k l i d = rest_once xs k d l (subst (λ (m : ℕ). IsIn (drop m xs) (get_or xs k 0)) (add-one k) i)

-- where one body lies under a key, more than a leaf holds do where another does
pub more_of_other : (site : ℕ → Site) (bodies : List ℕ) (key x : ℕ) → IsIn bodies x → IsUnder key (site x) → HasOtherUnder site bodies key x
    → HasMoreUnder site bodies key
more_of_other site bodies key x i u h = more_of_two x h.other (i, u) (h.other_in, h.other_under) h.differ

-- of two bodies under a key one is another than a given one
pub other_of_more : (site : ℕ → Site) (bodies : List ℕ) (key x : ℕ) → HasMoreUnder site bodies key → HasOtherUnder site bodies key x
other_of_more site bodies key x more =
    let t = two_of_more more in
    elim (same_or_not x t.one) [
      | inl e ↦ record { other = t.other; other_in = t.other_is.0; differ = λ f. t.differ (sym e ∙ f); other_under = t.other_is.1 }
      | inr d ↦ record { other = t.one; other_in = t.one_is.0; differ = d; other_under = t.one_is.1 }
    ]

-- a child word of a published cell is published
pub named_by_child : (at : ℕ → ℕ) (cells : List ℕ) (c w : ℕ) → IsIn cells c → IsChildWord at c w → IsNamedSomewhere at cells w
named_by_child at cells c w i h = record {
  key = 8 * at (key_place c) + h.child;
  place = child_place c h.child;
  published = ChildPlace c h.child i h.small refl refl;
  named = h.named;
}

-- a word is not published that is neither the root word nor a child word of a cell of the list
pub not_published : (at : ℕ → ℕ) (cells : List ℕ) (w key place : ℕ) → (at 0 ≡ w → ⊥) → ((k : ℕ) → k < length cells → IsChildWord at (get_or cells k 0) w → ⊥)
    → IsPublished at 0 1 cells key place → at place ≡ w → ⊥
not_published at cells w key place r h (TopPlace k p) e = r (ap at (sym p) ∙ e)
not_published at cells w key place r h (ChildPlace c j i l k p) e =
    each_member (λ y. IsChildWord at y w → ⊥) cells h c i (record { child = j; small = l; named = ap at (sym p) ∙ e })

-- the keys of a cell's children are those of cubes
pub child_key : (key k : ℕ) → IsCellKey key → k < 8 → IsKey (8 * key + k)
child_key key k l s = (suc l.0, omega (arith, l.1), omega (arith, l.2, pow-suc 8 l.0), omega (arith, l.3, pow-suc 8 l.0))

-- a cell's key is below 2 ^ 61
pub cell_key_small : (key : ℕ) → IsCellKey key → key < 2 ^ 61
cell_key_small key l = omega (arith, l.3, pow8-mono l.0 20 (omega (arith, l.1)))

-- no key of a cell is below the least of a level, where it isn't one of a level above
pub no_key_below : (key i : ℕ) → key < 8 ^ i → ((k : ℕ) → k < i → 2 * 8 ^ k ≤ key) → IsCellKey key → ⊥
no_key_below key i s h l = elim (cases_lt l.0 i) [ inl r ↦ omega (arith, h l.0 r, l.3) | inr r ↦ omega (arith, pow8-mono i l.0 r, l.2, s) ]

-- an answer about a body's point is one about the body
pub under_same : (key : ℕ) (s t : Site) → s ≡ t → IsUnder key s → IsUnder key t
under_same key s t e u = subst (λ (x : Site). IsUnder key x) e u

-- the answer about the key of a cell that was found
pub cell_found : (at : ℕ → ℕ) (cells : List ℕ) (c w v key : ℕ) → w ≡ cell_word c → IsIn cells c → v ≡ at (key_place c)
    → IsTrue (eqb v key) ↔ NamesCellOf at cells key w
cell_found at cells c w v key e i f = (
  (λ t. (c, e, i, sym f ∙ eqb-true v key t)),
  (λ q. let same : q.0 ≡ c = omega (arith, q.1, e) in eq-eqb v key (f ∙ subst (λ (x : ℕ). at (key_place x) ≡ key) same q.3)),
)

-- the answer about the point of a body that was found
pub body_found : (b : Bool) (site : ℕ → Site) (bodies : List ℕ) (x w key : ℕ) (s : Site) → w ≡ body_word x → IsIn bodies x → s ≡ site x
    → IsTrue b ↔ IsUnder key s
    → IsTrue b ↔ NamesBodyUnder site bodies key w
body_found b site bodies x w key s e i f h = (
  (λ t. (x, e, i, under_same key s (site x) f (h.0 t))),
  (λ q. let same : q.0 ≡ x = omega (arith, q.1, e) in h.1 (under_same key (site q.0) s (ap site same ∙ sym f) q.3)),
)

-- a member of a front of a list is one of the list
pub in_front : (m : ℕ) (xs : List ℕ) (n : ℕ) → IsIn (take m xs) n → IsIn xs n
in_front zero xs n i = absurd i
in_front (suc m) [] n i = absurd i
in_front (suc m) (x ∷ xs) n (inl e) = inl e
in_front (suc m) (x ∷ xs) n (inr i) = inr (in_front m xs n i)

-- the answer of the whole test
pub whole_answer : (b : Bool) (m : ℕ) (site : ℕ → Site) (at : ℕ → ℕ) (cells bodies : List ℕ) → All (λ n. n < m) bodies → NoneTwice cells
    → NamesRightly site at cells bodies 1 (at 0)
    → ((c : ℕ) → IsIn cells c → IsRightCell site at cells bodies c) → IsTrue b ↔ ((n : ℕ) → IsIn bodies n → IsNamedSomewhere at cells (body_word n))
    → IsTrue b ↔ (All (λ n. n < m) bodies × NamesExactly site at 0 1 cells [] bodies)
whole_answer b m site at cells bodies below once root right h = (
  (λ t. (below, exact_of_right site at cells bodies (record { none_twice = once; root = root; cells_right = right; bodies_named = h.0 t }))),
  (λ q. h.1 (body_is_named site at cells bodies q.1)),
)
