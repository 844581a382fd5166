-- The cells and bodies of words that stand for a set are those that are read on the way down.
use Rattle.std.proofs.lemmas.Bool.{cases_lt}
use Rattle.std.proofs.Common.{ℕ, ◌+◌, ◌*◌, ◌<◌, ◌≤◌, ◌≡◌, ◌↔◌, zero, suc, refl, sym, ◌∙◌, ap, subst, inl, inr, arith, List, [], ◌∷◌}
use Rattle.octant_code.specs.Space.{Site, octant_of, key_of, IsUnder}
use Rattle.octant_code.proofs.Keys.{key-zero, key-suc, key-positive, octant-small, same_level, same_parent, same_child}
use Rattle.bh_model.proofs.Lists.{in_joined, joined, joined_in, none_twice_joined}
use Rattle.bh_model.proofs.Trees.{order-body, order-cell, order-empty}
use Rattle.bh_model.specs.Bodies.{IsIn, NoneTwice}
use Rattle.bh_model.specs.Trees.{octree, Tree, order}
use Rattle.tree_rule.proofs.Canonical.{flat_gives_canonical, ACell, NoBody, OneBody, WordIs, tree-body, tree-cell, tree-empty, word_is}
use Rattle.tree_rule.proofs.Flat.{below_top, one_word, word_over}
use Rattle.tree_rule.proofs.Shared.{shared_more, sharer}
use Rattle.tree_rule.specs.Flat.{Child, IsShared, IsWordOf, StandsAmid, StandsFor, Top}
use Rattle.tree_rule.specs.Words.{Below, Here, IsReached, body_word, cell_word, child_place, key_place, tree_from}

-- a word that is read is that of a key
pub record HasKey (at : ℕ → ℕ) (top base : ℕ) (IsCell : ℕ → Type 0) (w : ℕ) : Type 0 where
  pub key : ℕ
  pub named : IsWordOf at top base IsCell key w

-- each word that is read is that of a key
pub key_of_reached : {V : ℕ → Type 0} (site : ℕ → Site) (at : ℕ → ℕ) (top base : ℕ) (P B : ℕ → Type 0) → StandsAmid site at top base P B V
    → (w : ℕ) → IsReached at top w → HasKey at top base P w
key_of_reached site at top base P B h _ (Here w e) = record { key = base; named = Top refl e }
key_of_reached site at top base P B h _ (Below c k w r l e) =
    let f = key_of_reached site at top base P B h (cell_word c) r in
    let g = h.names_cell f.key c f.named in
    record { key = 8 * at (key_place c) + k; named = Child c k g.0 l refl e }

-- each word of a key is read
pub reached_of_word : (site : ℕ → Site) (at : ℕ → ℕ) (top base : ℕ) (P B V : ℕ → Type 0) → StandsAmid site at top base P B V
    → (s : Site) (level w : ℕ) → IsWordOf at top base P (key_of s level) w → IsReached at top w
reached_of_word site at top base P B V h s level w (Top k e) = Here w e
reached_of_word site at top base P B V h s zero w (Child c k p l e x) =
    let f = sharer (h.shared c p) in
    absurd (omega (arith, key-zero s, f.one_under, key-positive (site f.one) f.level))
reached_of_word site at top base P B V h s (suc level) w (Child c k p l e x) =
    let same : at (key_place c) ≡ key_of s level = same_parent _ _ k (octant_of s level) l (octant-small s level) (sym e ∙ key-suc s level) in
    let up : IsWordOf at top base P (key_of s level) (cell_word c) = subst (λ (y : ℕ). IsWordOf at top base P y (cell_word c)) same (h.cell_named c p) in
    Below c k w (reached_of_word site at top base P B V h s level (cell_word c) up) l x

-- each cell of the set is read
pub cell_is_reached : (site : ℕ → Site) (at : ℕ → ℕ) (top base : ℕ) (P B V : ℕ → Type 0) → StandsAmid site at top base P B V → (c : ℕ) → P c
    → IsReached at top (cell_word c)
cell_is_reached site at top base P B V h c p =
    let f = sharer (h.shared c p) in
    reached_of_word site at top base P B V h (site f.one) f.level (cell_word c)
    (subst (λ (y : ℕ). IsWordOf at top base P y (cell_word c)) f.one_under (h.cell_named c p))

-- the cells of the set are those that are read
pub cell_reached : {V : ℕ → Type 0} (site : ℕ → Site) (at : ℕ → ℕ) (top base : ℕ) (P B : ℕ → Type 0) → StandsAmid site at top base P B V → (c : ℕ)
    → P c ↔ IsReached at top (cell_word c)
cell_reached site at top base P B h c = (
  cell_is_reached site at top base P B _ h c,
  λ r. let f = key_of_reached site at top base P B h (cell_word c) r in (h.names_cell f.key c f.named).0,
)

-- the bodies of the set are those that are read
pub body_reached : {V : ℕ → Type 0} (site : ℕ → Site) (at : ℕ → ℕ) (top base : ℕ) (P B : ℕ → Type 0) → StandsAmid site at top base P B V → (n : ℕ)
    → B n ↔ IsReached at top (body_word n)
body_reached site at top base P B h n = (
  λ b. let f = h.body_named n b in reached_of_word site at top base P B _ h (site n) f.level (body_word n) f.named,
  λ r. let f = key_of_reached site at top base P B h (body_word n) r in (h.names_body f.key n f.named).0,
)

-- one step of the way down to a point's word
reached_step : (site : ℕ → Site) (at : ℕ → ℕ) (top base : ℕ) (P B V : ℕ → Type 0) → StandsAmid site at top base P B V
    → (s : Site) (level w upper v : ℕ) → IsWordOf at top base P (key_of s (suc level)) w → IsWordOf at top base P (key_of s upper) v → upper ≤ level
    → ((c : ℕ) → IsWordOf at top base P (key_of s level) (cell_word c) → IsReached at v (cell_word c)) → IsReached at v w
reached_step site at top base P B V h s level w upper v (Top k e) y le rest =
    let t = below_top site at top base P B V h s upper v y in
    let same : suc level ≡ t.top_level = same_level s s (suc level) t.top_level (k ∙ t.is_base) in
    absurd (omega (arith, t.above))
reached_step site at top base P B V h s level w upper v (Child c k p l e f) y le rest =
    let same : at (key_place c) ≡ key_of s level = same_parent _ _ k (octant_of s level) l (octant-small s level) (sym e ∙ key-suc s level) in
    let up : IsWordOf at top base P (key_of s level) (cell_word c) = subst (λ (z : ℕ). IsWordOf at top base P z (cell_word c)) same (h.cell_named c p) in
    Below c k w (rest c up) l f

-- a point's word is read below each of its words above
pub reached_below : (site : ℕ → Site) (at : ℕ → ℕ) (top base : ℕ) (P B V : ℕ → Type 0) → StandsAmid site at top base P B V
    → (s : Site) (level w upper v : ℕ) → IsWordOf at top base P (key_of s level) w → IsWordOf at top base P (key_of s upper) v → upper ≤ level
    → IsReached at v w
reached_below site at top base P B V h s zero w upper v x y le =
    let z : upper ≡ 0 = omega arith in
    let y' : IsWordOf at top base P (key_of s 0) v = subst (λ (u : ℕ). IsWordOf at top base P (key_of s u) v) z y in
    Here w (one_word site at top base P B V h (key_of s 0) w v x y')
reached_below site at top base P B V h s (suc level) w upper v x y le =
    elim (cases_lt upper (suc level)) [
      | inl r ↦ reached_step site at top base P B V h s level w upper v x y (omega arith)
          (λ c up. reached_below site at top base P B V h s level (cell_word c) upper v up y (omega arith))
      | inr r ↦
          let z : upper ≡ suc level = omega arith in
          let y' : IsWordOf at top base P (key_of s (suc level)) v = subst (λ (u : ℕ). IsWordOf at top base P (key_of s u) v) z y in
          Here w (one_word site at top base P B V h (key_of s (suc level)) w v x y')
    ]

-- to no depth the order is empty
no_order : (at : ℕ → ℕ) (w n : ℕ) → IsIn (order (tree_from at zero w)) n → ⊥
unfolding order tree_from
no_order at w n i = i

-- what lies in a child's cube lies in the parent's
pub under_up : (s : Site) (key k : ℕ) → 1 ≤ key → k < 8 → IsUnder (8 * key + k) s → IsUnder key s
under_up s key k pos small (zero, le, e) = absurd (omega (arith, key-zero s))
under_up s key k pos small (suc l, le, e) = (l, omega arith, same_parent key (key_of s l) k (octant_of s l) small (octant-small s l) (e ∙ key-suc s l))

-- the key of a cell is not 0
pub key_positive_of : (site : ℕ → Site) (at : ℕ → ℕ) (top base : ℕ) (P B : ℕ → Type 0) → StandsFor site at top base P B
    → (c : ℕ) → P c → (key : ℕ) → at (key_place c) ≡ key → 1 ≤ key
key_positive_of site at top base P B h c p key e = let f = sharer (h.shared c p) in omega (arith, f.one_under, key-positive (site f.one) f.level)

-- a body in the order of a word's tree is one of the set, and lies in the word's cube
pub order_sound : (site : ℕ → Site) (at : ℕ → ℕ) (top base : ℕ) (P B : ℕ → Type 0) → StandsFor site at top base P B
    → (f key w n : ℕ) → IsWordOf at top base P key w → WordIs w → IsIn (order (tree_from at f w)) n → B n × IsUnder key (site n)
order_sound site at top base P B h zero key w n x v i = absurd (no_order at w n i)
order_sound site at top base P B h (suc f) key w n x (NoBody e) i =
    absurd (subst (λ (y : List ℕ). IsIn y n) (ap (λ z. order (tree_from at (suc f) z)) e ∙ ap order (tree-empty at f) ∙ order-empty) i)
order_sound site at top base P B h (suc f) key w n x (OneBody m e) i =
    let j : IsIn (m ∷ []) n = subst (λ (y : List ℕ). IsIn y n) (ap (λ z. order (tree_from at (suc f) z)) e ∙ ap order (tree-body at f m) ∙ order-body m) i in
    elim j [
      | inl z ↦ h.names_body key n (subst (λ (y : ℕ). IsWordOf at top base P key y) (e ∙ ap body_word (sym z)) x)
      | inr z ↦ absurd z
    ]
order_sound site at top base P B h (suc f) key w n x (ACell c e) i =
    let g = h.names_cell key c (subst (λ (y : ℕ). IsWordOf at top base P key y) e x) in
    let child : ℕ → Tree = λ k. tree_from at f (at (child_place c k)) in
    let j : IsIn (joined (λ k. order (child k)) 8) n =
    subst (λ (y : List ℕ). IsIn y n) (ap (λ z. order (tree_from at (suc f) z)) e ∙ ap order (tree-cell at f c) ∙ order-cell child) i in
    let k = in_joined (λ k. order (child k)) 8 n j in
    let r = order_sound site at top base P B h f (8 * key + k.part) (at (child_place c k.part)) n
    (Child c k.part g.0 k.small (ap (λ y. 8 * y + k.part) (sym g.1)) refl) (word_is (at (child_place c k.part))) k.inside in
    (r.0, under_up (site n) key k.part (key_positive_of site at top base P B h c g.0 key g.1) k.small r.1)

-- the child words of a cell give its tree's order
order_of_cell : (at : ℕ → ℕ) (f w c : ℕ) → w ≡ cell_word c → order (tree_from at (suc f) w) ≡ joined (λ k. order (tree_from at f (at (child_place c k)))) 8
order_of_cell at f w c e =
    ap (λ z. order (tree_from at (suc f) z)) e ∙ ap order (tree-cell at f c) ∙ order-cell (λ k. tree_from at f (at (child_place c k)))

-- the order of a body's word is the body
order_of_body : (at : ℕ → ℕ) (f w n : ℕ) → w ≡ body_word n → order (tree_from at (suc f) w) ≡ n ∷ []
order_of_body at f w n e = ap (λ z. order (tree_from at (suc f) z)) e ∙ ap order (tree-body at f n) ∙ order-body n

-- each body of the set that lies in a word's cube is in the order of the word's tree
pub order_complete : (site : ℕ → Site) (at : ℕ → ℕ) (top base : ℕ) (P B : ℕ → Type 0) → StandsFor site at top base P B
    → (f level w n : ℕ) → level ≤ 21 → 22 ≤ level + f → B n → IsWordOf at top base P (key_of (site n) level) w → IsIn (order (tree_from at f w)) n
order_complete site at top base P B h zero level w n shallow deep b x = absurd (omega arith)
order_complete site at top base P B h (suc f) level w n shallow deep b x =
    elim (word_over site at top base P B B h n level w b x) [
      | inl e ↦ subst (λ (y : List ℕ). IsIn y n) (sym (order_of_body at f w n e)) (inl refl)
      | inr z ↦
          let s : Site = site n in
          let c : ℕ = z.0 in
          let g = h.names_cell (key_of s level) c (subst (λ (y : ℕ). IsWordOf at top base P (key_of s level) y) z.2 x) in
          let t = sharer (h.shared c g.0) in
          let l : t.level ≡ level = same_level (site t.one) s t.level level (sym t.one_under ∙ g.1) in
          let k : ℕ = octant_of s level in
          let kid : IsWordOf at top base P (key_of s (suc level)) (at (child_place c k)) =
          Child c k g.0 (octant-small s level) (key-suc s level ∙ ap (λ y. 8 * y + octant_of s level) (sym g.1)) refl in
          let i : IsIn (order (tree_from at f (at (child_place c k)))) n =
          order_complete site at top base P B h f (suc level) (at (child_place c k)) n (omega (arith, t.shallow)) (omega arith) b kid in
          subst (λ (y : List ℕ). IsIn y n) (sym (order_of_cell at f w c z.2))
          (joined_in (λ y. order (tree_from at f (at (child_place c y)))) 8 k n (octant-small s level) i)
    ]

-- a body lies in one child's cube
pub one_child : (s : Site) (key i j : ℕ) → 1 ≤ key → i < 8 → j < 8 → IsUnder (8 * key + i) s → IsUnder (8 * key + j) s → i ≡ j
one_child s key i j pos a b (zero, le, e) v = absurd (omega (arith, key-zero s))
one_child s key i j pos a b (suc l, le, e) (zero, le', e') = absurd (omega (arith, key-zero s))
one_child s key i j pos a b (suc l, le, e) (suc m, le', e') =
    let p : key ≡ key_of s l = same_parent key (key_of s l) i (octant_of s l) a (octant-small s l) (e ∙ key-suc s l) in
    let q : key ≡ key_of s m = same_parent key (key_of s m) j (octant_of s m) b (octant-small s m) (e' ∙ key-suc s m) in
    let same : l ≡ m = same_level s s l m (sym p ∙ q) in
    same_child key key i j a b (e ∙ ap (λ y. key_of s (suc y)) same ∙ sym e')

-- to no depth no body stands twice in the order
once_zero : (at : ℕ → ℕ) (w : ℕ) → NoneTwice (order (tree_from at zero w))
unfolding order tree_from
once_zero at w = tt

-- no body stands twice in the order of a word's tree
pub order_once : (site : ℕ → Site) (at : ℕ → ℕ) (top base : ℕ) (P B : ℕ → Type 0) → StandsFor site at top base P B
    → (f key w : ℕ) → IsWordOf at top base P key w → WordIs w → NoneTwice (order (tree_from at f w))
order_once site at top base P B h zero key w x v = once_zero at w
order_once site at top base P B h (suc f) key w x (NoBody e) =
    subst NoneTwice (sym (ap (λ z. order (tree_from at (suc f) z)) e ∙ ap order (tree-empty at f) ∙ order-empty)) tt
order_once site at top base P B h (suc f) key w x (OneBody m e) = subst NoneTwice (sym (order_of_body at f w m e)) ((λ i. i), tt)
order_once site at top base P B h (suc f) key w x (ACell c e) =
    let g = h.names_cell key c (subst (λ (y : ℕ). IsWordOf at top base P key y) e x) in
    let pos : 1 ≤ key = key_positive_of site at top base P B h c g.0 key g.1 in
    let kid : (k : ℕ) → k < 8 → IsWordOf at top base P (8 * key + k) (at (child_place c k)) = λ k l. Child c k g.0 l (ap (λ y. 8 * y + k) (sym g.1)) refl in
    subst NoneTwice (sym (order_of_cell at f w c e))
    (none_twice_joined (λ y. order (tree_from at f (at (child_place c y)))) 8
    (λ k l. order_once site at top base P B h f (8 * key + k) (at (child_place c k)) (kid k l) (word_is (at (child_place c k))))
    (λ i j n p q u v. one_child (site n) key i j pos p q
    (order_sound site at top base P B h f (8 * key + i) (at (child_place c i)) n (kid i p) (word_is (at (child_place c i))) u).1
    (order_sound site at top base P B h f (8 * key + j) (at (child_place c j)) n (kid j q) (word_is (at (child_place c j))) v).1))

-- a word of a key stays one where cells come
word_same : (at : ℕ → ℕ) (top base : ℕ) (P Q : ℕ → Type 0) → ((c : ℕ) → P c → Q c) → (key w : ℕ) → IsWordOf at top base P key w → IsWordOf at top base Q key w
word_same at top base P Q more key w (Top k e) = Top k e
word_same at top base P Q more key w (Child c j p l k e) = Child c j (more c p) l k e

-- the same facts over sets with the same members
pub amid_same : (site : ℕ → Site) (at : ℕ → ℕ) (top base : ℕ) (P Q B M V W : ℕ → Type 0) → ((c : ℕ) → P c ↔ Q c) → ((n : ℕ) → B n ↔ M n) → ((n : ℕ) → V n → W n)
    → StandsAmid site at top base P B V → StandsAmid site at top base Q M W
amid_same site at top base P Q B M V W pq bm vw h =
    let there : (key w : ℕ) → IsWordOf at top base P key w → IsWordOf at top base Q key w = λ key w x. word_same at top base P Q (λ c p. (pq c).0 p) key w x in
    let back : (key w : ℕ) → IsWordOf at top base Q key w → IsWordOf at top base P key w = λ key w x. word_same at top base Q P (λ c p. (pq c).1 p) key w x in
    record {
      keys_differ = λ c d p q e. h.keys_differ c d ((pq c).1 p) ((pq d).1 q) e;
      cell_named = λ c p. there (at (key_place c)) (cell_word c) (h.cell_named c ((pq c).1 p));
      names_cell = λ key c x. let f = h.names_cell key c (back key (cell_word c) x) in ((pq c).0 f.0, f.1);
      body_named = λ n b. let f = h.body_named n ((bm n).1 b) in
          record { level = f.level; shallow = f.shallow; named = there (key_of (site n) f.level) (body_word n) f.named };
      names_body = λ key n x. let f = h.names_body key n (back key (body_word n) x) in ((bm n).0 f.0, f.1);
      shared = λ c p. shared_more vw (h.shared c ((pq c).1 p));
    }

-- the same where the bodies are the witnesses
pub stands_same : (site : ℕ → Site) (at : ℕ → ℕ) (top base : ℕ) (P Q B M : ℕ → Type 0) → ((c : ℕ) → P c ↔ Q c) → ((n : ℕ) → B n ↔ M n)
    → StandsFor site at top base P B → StandsFor site at top base Q M
stands_same site at top base P Q B M pq bm h = amid_same site at top base P Q B M B M pq bm (λ n b. (bm n).0 b) h

-- the bodies of the words' tree, in tree order, are those of the set, and none stands twice
pub order_members : (site : ℕ → Site) (at : ℕ → ℕ) (top base : ℕ) (P B : ℕ → Type 0) → StandsFor site at top base P B
    → (n : ℕ) → B n ↔ IsIn (order (tree_from at 22 top)) n
order_members site at top base P B h n = (
  λ b.
      let f = h.body_named n b in
      let t = below_top site at top base P B B h (site n) f.level (body_word n) f.named in
      order_complete site at top base P B h 22 t.top_level top n (omega (arith, t.above, f.shallow)) (omega arith) b (Top (sym t.is_base) refl),
  λ i. (order_sound site at top base P B h 22 base top n (Top refl refl) (word_is top) i).0,
)

-- the facts over the cells that are read and the bodies of the words' tree
pub settle : (site : ℕ → Site) (at : ℕ → ℕ) (top base : ℕ) (P B : ℕ → Type 0) → StandsFor site at top base P B
    → StandsFor site at top base (λ c. IsReached at top (cell_word c)) (IsIn (order (tree_from at 22 top)))
settle site at top base P B h =
    stands_same site at top base P (λ c. IsReached at top (cell_word c)) B (IsIn (order (tree_from at 22 top)))
    (cell_reached site at top base P B h) (order_members site at top base P B h) h

-- no body stands twice in the order of the words' tree
pub order_has_none_twice : (site : ℕ → Site) (at : ℕ → ℕ) (top base : ℕ) (P B : ℕ → Type 0) → StandsFor site at top base P B
    → NoneTwice (order (tree_from at 22 top))
order_has_none_twice site at top base P B h = order_once site at top base P B h 22 base top (Top refl refl) (word_is top)

-- the words' tree is the canonical octree of the bodies in its own order
pub gives_own_order : (site : ℕ → Site) (at : ℕ → ℕ) (P B : ℕ → Type 0) → StandsFor site at (at 0) 1 P B
    → tree_from at 22 (at 0) ≡ octree site (order (tree_from at 22 (at 0)))
gives_own_order site at P B h =
    flat_gives_canonical site at (λ c. IsReached at (at 0) (cell_word c)) (order (tree_from at 22 (at 0))) (settle site at (at 0) 1 P B h)
    (order_has_none_twice site at (at 0) 1 P B h)

-- a word of a key stays one where the words of the cells stay
word_moved : (at at' : ℕ → ℕ) (top base : ℕ) (P : ℕ → Type 0)
    → ((c : ℕ) → P c → at' (key_place c) ≡ at (key_place c)) → ((c k : ℕ) → P c → k < 8 → at' (child_place c k) ≡ at (child_place c k))
    → (key w : ℕ) → IsWordOf at top base P key w → IsWordOf at' top base P key w
word_moved at at' top base P keys kids key w (Top k e) = Top k e
word_moved at at' top base P keys kids key w (Child c j p l k e) = Child c j p l (k ∙ ap (λ y. 8 * y + j) (sym (keys c p))) (e ∙ sym (kids c j p l))

-- the same facts over other words, where the keys and the children of the cells are the same
pub amid_moved : (site : ℕ → Site) (at at' : ℕ → ℕ) (top base : ℕ) (P B V : ℕ → Type 0)
    → ((c : ℕ) → P c → at' (key_place c) ≡ at (key_place c)) → ((c k : ℕ) → P c → k < 8 → at' (child_place c k) ≡ at (child_place c k))
    → StandsAmid site at top base P B V → StandsAmid site at' top base P B V
amid_moved site at at' top base P B V keys kids h =
    let there : (key w : ℕ) → IsWordOf at top base P key w → IsWordOf at' top base P key w = word_moved at at' top base P (λ c p. keys c p) kids in
    let back : (key w : ℕ) → IsWordOf at' top base P key w → IsWordOf at top base P key w =
    word_moved at' at top base P (λ c p. sym (keys c p)) (λ c k p l. sym (kids c k p l)) in
    record {
      keys_differ = λ c d p q e. h.keys_differ c d p q (sym (keys c p) ∙ e ∙ keys d q);
      cell_named = λ c p. subst (λ (y : ℕ). IsWordOf at' top base P y (cell_word c)) (sym (keys c p))
          (there (at (key_place c)) (cell_word c) (h.cell_named c p));
      names_cell = λ key c x. let f = h.names_cell key c (back key (cell_word c) x) in (f.0, keys c f.0 ∙ f.1);
      body_named = λ n b. let f = h.body_named n b in
          record { level = f.level; shallow = f.shallow; named = there (key_of (site n) f.level) (body_word n) f.named };
      names_body = λ key n x. h.names_body key n (back key (body_word n) x);
      shared = λ c p. subst (λ (y : ℕ). IsShared site V y) (sym (keys c p)) (h.shared c p);
    }

-- the same where the bodies are the witnesses
pub stands_moved : (site : ℕ → Site) (at at' : ℕ → ℕ) (top base : ℕ) (P B : ℕ → Type 0)
    → ((c : ℕ) → P c → at' (key_place c) ≡ at (key_place c)) → ((c k : ℕ) → P c → k < 8 → at' (child_place c k) ≡ at (child_place c k))
    → StandsFor site at top base P B → StandsFor site at' top base P B
stands_moved site at at' top base P B keys kids h = amid_moved site at at' top base P B B keys kids h
