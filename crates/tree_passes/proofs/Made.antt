-- Private cells while they are made.
use Rattle.std.proofs.Common.{◌≡◌, ◌≢◌, ℕ, ◌+◌, ◌-◌, ◌*◌, ◌<◌, ◌≤◌, ◌⊎◌, ◌↔◌, zero, suc, cond, Bool, List, [], ◌∷◌, length, drop, take, set, get_or, sym, refl}
use Rattle.std.proofs.Common.{ap, ◌∙◌, subst, inl, inr, arith, add-one, length-set, get_or-set_same, get_or-set_other, eq-eqb, ne_eqb}
use mathlib.Core.Logic.{dite}
use native.Mathlib.Decide.{ℕ_discrete}
use Rattle.octant_code.specs.declared.limits.TheConstants.{LEVELS}
use Rattle.octant_code.specs.Space.{Site, octant_of}
use Rattle.octant_code.specs.Points.{site_at}
use Rattle.octant_code.proofs.Keys.{octant-small}
use Rattle.bh_model.specs.Bodies.{IsIn}
use Rattle.tree_rule.specs.Words.{at_of, body_word, cell_word, child_place, key_place, lock_place}
use Rattle.tree_rule.specs.Flat.{StandsFor}
use Rattle.tree_rule.proofs.Laws.{Only, fork_stands, link_stands, stands_moved, stands_same}
use Rattle.octree.specs.Chain.{ArePair, IsOneOf}
use Rattle.octree.proofs.Laws.{octant_under, pair_cube}
use Rattle.tree_passes.specs.declared.view.TheConstants.{KEY_PART, ROW_WORDS}
use Rattle.tree_passes.specs.declared.view.View.{View}
use Rattle.tree_passes.specs.Counting.{times}
use Rattle.tree_passes.specs.Making.{cells_between, HasCellWords, HasWritten, IsReady}
use Rattle.tree_passes.proofs.Counts.{in_times, same-eq}

-- cells part two points: one where they lie in different octants
pub parted_here : (s t : Site) (level : ℕ) → level < LEVELS → octant_of s level ≢ octant_of t level → cells_between s t level (LEVELS - level) ≡ 1
parted_here s t level low apart =
    let e : LEVELS - level ≡ suc (20 - level) = omega arith in
    ap (cells_between s t level) e
    ∙ ap (λ (b : Bool). cond b (suc (cells_between s t (level + 1) (20 - level))) 1) (ne_eqb (octant_of s level) (octant_of t level) apart)

-- and one more than in the octant of both
pub parted_below : (s t : Site) (level : ℕ) → level < LEVELS → octant_of s level ≡ octant_of t level
    → cells_between s t level (LEVELS - level) ≡ cells_between s t (level + 1) (LEVELS - (level + 1)) + 1
parted_below s t level low same =
    let e : LEVELS - level ≡ suc (LEVELS - (level + 1)) = omega arith in
    let more : cells_between s t level (suc (LEVELS - (level + 1))) ≡ suc (cells_between s t (level + 1) (LEVELS - (level + 1))) =
    ap (λ (b : Bool). cond b (suc (cells_between s t (level + 1) (LEVELS - (level + 1)))) 1) (eq-eqb (octant_of s level) (octant_of t level) same) in
    ap (cells_between s t level) e ∙ omega arith

pub some_between : (s t : Site) (level : ℕ) → level < LEVELS → 1 ≤ cells_between s t level (LEVELS - level)
some_between s t level low = dite (ℕ_discrete (octant_of s level) (octant_of t level))
    (λ e. omega (arith, parted_below s t level low e)) (λ e. omega (arith, parted_here s t level low e))

pub few_between : (s t : Site) (level below : ℕ) → cells_between s t level below ≤ below
few_between s t level zero = omega arith
few_between s t level (suc below) = dite (ℕ_discrete (octant_of s level) (octant_of t level))
    (λ e. let is : cells_between s t level (suc below) ≡ suc (cells_between s t (level + 1) below) =
    ap (λ (b : Bool). cond b (suc (cells_between s t (level + 1) below)) 1) (eq-eqb (octant_of s level) (octant_of t level) e) in
    let r = few_between s t (level + 1) below in
    omega arith)
    (λ e. let is : cells_between s t level (suc below) ≡ 1 =
    ap (λ (b : Bool). cond b (suc (cells_between s t (level + 1) below)) 1) (ne_eqb (octant_of s level) (octant_of t level) e) in
    omega arith)

-- what was written in two turns was written
pub wrote_more : (u v w : View) (xs ys zs : List ℕ) → HasWritten u v xs → HasWritten v w ys → ((c : ℕ) → IsIn xs c → IsIn zs c)
    → ((c : ℕ) → IsIn ys c → IsIn zs c) → HasWritten u w zs
wrote_more u v w xs ys zs a b f g = record {
  view = b.view ∙ ap (λ (z : View). record z { memory = w.memory }) a.view;
  long = b.long ∙ a.long;
  others = λ i n. b.others i (λ c j p. n c j (g c p)) ∙ a.others i (λ c j p. n c j (f c p));
}

-- a word of a cell is written
pub wrote_word : (v w : View) (c j n : ℕ) → j < ROW_WORDS → w ≡ record v { memory = set v.memory (child_place c j) n } → HasWritten v w (c ∷ [])
wrote_word v w c j n low e = subst (λ (z : View). HasWritten v z (c ∷ [])) (sym e) (record {
  view = refl;
  long = length-set v.memory (child_place c j) n;
  others = λ i apart. get_or-set_other v.memory (child_place c j) i n 0 (apart c j (inl refl) low);
})

-- the pass may still write into its cells
pub ready_on : (v w : View) (words : ℕ) (spare cells : List ℕ) → HasWritten v w cells → IsReady v words spare → IsReady w words spare
ready_on v w words spare cells s r = record {
  long = s.long ∙ r.long;
  held = λ c. let a = r.held c in let e = ap (λ (z : View). times c z.held) s.view in omega arith;
  once = r.once;
  inside = r.inside;
}

pub held_on : (v w : View) (cells : List ℕ) (c : ℕ) → HasWritten v w cells → 1 ≤ times c v.held → 1 ≤ times c w.held
held_on v w cells c s h = let e = ap (λ (z : View). times c z.held) s.view in omega arith

-- the rest of the cells
pub ready_rest : (v : View) (words : ℕ) (spare : List ℕ) → IsReady v words spare → IsReady v words (drop 1 spare)
ready_rest v words [] r = r
ready_rest v words (c ∷ cs) r = record {
  long = r.long;
  held = λ d. let a = r.held d in omega arith;
  once = λ d. let a = r.once d in omega arith;
  inside = λ d p. r.inside d (omega arith);
}

-- the first of the cells
pub ready_first : (v : View) (words : ℕ) (spare : List ℕ) → IsReady v words spare → 1 ≤ length spare
    → (1 ≤ times (get_or spare 0 0) v.held) × (lock_place (get_or spare 0 0) < words)
ready_first v words [] r l = absurd (omega arith)
ready_first v words (c ∷ cs) r l = let one = same-eq c c refl in let a = r.held c in ((omega arith), r.inside c (omega arith))

-- the key is written first
pub key_written : (before after : List ℕ) (c : ℕ) (children : List ℕ) (key : ℕ) → after ≡ set before (child_place c KEY_PART) key
    → lock_place c < length before → HasCellWords after c children key 0
key_written before after c children key e long = subst (λ (z : List ℕ). HasCellWords z c children key 0) (sym e) (record {
  key_is =
      let p : key_place c ≡ child_place c KEY_PART = omega arith in
      ap (at_of (set before (child_place c KEY_PART) key)) p ∙ get_or-set_same before (child_place c KEY_PART) key 0 (omega arith);
  children_are = λ k l. absurd (omega arith);
})

-- and then the word of a child
pub child_written : (before after : List ℕ) (c : ℕ) (children : List ℕ) (key k value : ℕ) → HasCellWords before c children key k → k < KEY_PART
    → after ≡ set before (child_place c k) value → value ≡ at_of children k → lock_place c < length before → HasCellWords after c children key (k + 1)
child_written before after c children key k value w l e is long = subst (λ (z : List ℕ). HasCellWords z c children key (k + 1)) (sym e) (record {
  key_is = get_or-set_other before (child_place c k) (key_place c) value 0 (λ q. omega arith) ∙ w.key_is;
  children_are = λ j p. dite (ℕ_discrete j k)
      (λ q. ap (λ (z : ℕ). at_of (set before (child_place c k) value) (child_place c z)) q
      ∙ get_or-set_same before (child_place c k) value 0 (omega arith) ∙ is ∙ ap (at_of children) (sym q))
      (λ q. get_or-set_other before (child_place c k) (child_place c j) value 0 (λ f. q (omega arith)) ∙ w.children_are j (omega arith));
})

-- A view in which a cell of the pass has these words.
pub record WithRow (v : View) (c : ℕ) (children : List ℕ) (key count : ℕ) : Type 0 where
  pub after : View
  pub wrote : HasWritten v after (c ∷ [])
  pub words : HasCellWords after.memory c children key count

with_row : (v : View) (c : ℕ) (children : List ℕ) (key count : ℕ) → count ≤ KEY_PART → lock_place c < length v.memory → WithRow v c children key count
with_row v c children key zero few long =
    let after : View = record v { memory = set v.memory (child_place c KEY_PART) key } in
    record {
      after = after;
      wrote = wrote_word v after c KEY_PART key (omega arith) refl;
      words = key_written v.memory after.memory c children key refl long;
    }
with_row v c children key (suc n) few long =
    let row = with_row v c children key n (omega arith) long in
    let u : View = row.after in
    let after : View = record u { memory = set u.memory (child_place c n) (at_of children n) } in
    record {
      after = after;
      wrote = wrote_more v u after (c ∷ []) (c ∷ []) (c ∷ []) row.wrote (wrote_word u after c n (at_of children n) (omega arith) refl) (λ d p. p) (λ d p. p);
      words = subst (HasCellWords after.memory c children key) (let e : n + 1 ≡ suc n = omega arith in e)
          (child_written u.memory after.memory c children key n (at_of children n) row.words (omega arith) refl refl
          (let l = row.wrote.long in omega arith));
    }

pub cell_row : (v : View) (c : ℕ) (children : List ℕ) (key : ℕ) → lock_place c < length v.memory → WithRow v c children key 8
cell_row v c children key long = with_row v c children key 8 (omega arith) long

-- the cell over a chain: the cells of the chain were not written again
pub linked : (sites : List Site) (v w : View) (c d a key level x n : ℕ) (children : List ℕ) (Q : ℕ → Type 0)
    → HasWritten v w (c ∷ []) → HasCellWords w.memory c children key 8 → at_of children a ≡ cell_word d
    → ((k : ℕ) → k < 8 → k ≢ a → at_of children k ≡ 0) → a < 8 → ArePair sites x n key level → (Q c → ⊥)
    → StandsFor (site_at sites) (at_of v.memory) (cell_word d) (8 * key + a) Q (IsOneOf x n)
    → StandsFor (site_at sites) (at_of w.memory) (cell_word c) key (λ e. (e ≡ c) ⊎ Q e) (IsOneOf x n)
linked sites v w c d a key level x n children Q wrote words child zeros small pair fresh sub =
    let site : ℕ → Site = site_at sites in
    let stays : (e j : ℕ) → Q e → j < ROW_WORDS → at_of w.memory (child_place e j) ≡ at_of v.memory (child_place e j) =
    λ e j q l. wrote.others (child_place e j) (λ f i p m g. elim p [ inl is ↦ fresh (let one : e ≡ c = omega arith in subst Q one q) | inr none ↦ none ]) in
    let moved : StandsFor (site_at sites) (at_of w.memory) (cell_word d) (8 * key + a) Q (IsOneOf x n) =
    stands_moved (site_at sites) (at_of v.memory) (at_of w.memory) (cell_word d) (8 * key + a) Q (IsOneOf x n)
    (λ e q. let k : key_place e ≡ child_place e KEY_PART = omega arith in
    ap (at_of w.memory) k ∙ stays e KEY_PART q (omega arith) ∙ ap (at_of v.memory) (sym k))
    (λ e k q l. stays e k q (omega arith)) sub in
    link_stands (site_at sites) (at_of w.memory) c key a Q (IsOneOf x n) words.key_is (pair_cube sites x n key level pair) small
    (subst (λ (y : ℕ). StandsFor (site_at sites) (at_of w.memory) y (8 * key + a) Q (IsOneOf x n)) (sym (words.children_are a small ∙ child)) moved)
    (λ k l m. words.children_are k l ∙ zeros k l m)

-- the cell in which two bodies lie in different octants
pub forked : (sites : List Site) (memory : List ℕ) (c a b key level x n : ℕ) (children : List ℕ) → HasCellWords memory c children key 8
    → at_of children a ≡ body_word x → at_of children b ≡ body_word n → ((k : ℕ) → k < 8 → k ≢ a → k ≢ b → at_of children k ≡ 0)
    → a ≡ octant_of (site_at sites x) level → b ≡ octant_of (site_at sites n) level → a ≢ b → ArePair sites x n key level
    → StandsFor (site_at sites) (at_of memory) (cell_word c) key (Only c) (IsOneOf x n)
forked sites memory c a b key level x n children words wa wb zeros is_a is_b apart pair =
    let sa : a < 8 = omega (arith, is_a, octant-small (site_at sites x) level) in
    let sb : b < 8 = omega (arith, is_b, octant-small (site_at sites n) level) in
    fork_stands (site_at sites) (at_of memory) c key a b x n words.key_is (pair_cube sites x n key level pair) sa sb apart
    (level + 1, omega (arith, pair.shallow), octant_under (site_at sites x) key level a pair.x_under is_a)
    (level + 1, omega (arith, pair.shallow), octant_under (site_at sites n) key level b pair.n_under is_b)
    (words.children_are a sa ∙ wa) (words.children_are b sb ∙ wb) (λ k l p q. words.children_are k l ∙ zeros k l p q)

-- the first cells are the first, and the first of the rest
first_and_rest : (spare : List ℕ) (used c : ℕ) → 1 ≤ length spare → ((c ≡ get_or spare 0 0) ⊎ IsIn (take used (drop 1 spare)) c) ↔ IsIn
    (take (suc used) spare) c
first_and_rest [] used c l = absurd (omega arith)
first_and_rest (d ∷ ds) used c l = ((λ p. p), (λ p. p))

-- the first of the cells are among them
pub times_take : (x m : ℕ) (l : List ℕ) → times x (take m l) ≤ times x l
times_take x zero l = omega arith
times_take x (suc m) [] = omega arith
times_take x (suc m) (y ∷ ys) = let r = times_take x m ys in omega arith

-- the first cell is none of the rest
first_fresh : (spare : List ℕ) (used : ℕ) → ((c : ℕ) → times c spare ≤ 1) → 1 ≤ length spare → IsIn (take used (drop 1 spare)) (get_or spare 0 0) → ⊥
first_fresh [] used once l p = omega arith
first_fresh (c ∷ cs) used once l p =
    let a = in_times c (take used cs) p in
    let t = times_take c used cs in
    let b = once c in
    let one = same-eq c c refl in
    omega arith

-- the cells that part two bodies below the first, and the first, were written
pub wrote_first : (u v w : View) (spare : List ℕ) (used : ℕ) → 1 ≤ length spare → HasWritten u v (take used (drop 1 spare))
    → HasWritten v w (get_or spare 0 0 ∷ []) → HasWritten u w (take (used + 1) spare)
wrote_first u v w spare used l a b = rw add-one (wrote_more u v w (take used (drop 1 spare)) (get_or spare 0 0 ∷ []) (take (suc used) spare) a b
    (λ c p. (first_and_rest spare used c l).0 (inr p))
    (λ c p. elim p [ inl e ↦ (first_and_rest spare used c l).0 (inl e) | inr q ↦ absurd q ]))

-- the first cell alone was written
pub wrote_one : (v w : View) (spare : List ℕ) → 1 ≤ length spare → HasWritten v w (get_or spare 0 0 ∷ []) → HasWritten v w (take 1 spare)
wrote_one v w [] l a = absurd (omega arith)
wrote_one v w (c ∷ cs) l a = a

pub linked_first : (sites : List Site) (v w : View) (spare : List ℕ) (used a key level x n : ℕ) (children : List ℕ) → ((c : ℕ) → times c spare ≤ 1)
    → 1 ≤ length spare → HasWritten v w (get_or spare 0 0 ∷ []) → HasCellWords w.memory (get_or spare 0 0) children key 8
    → at_of children a ≡ cell_word (get_or spare 1 0) → ((k : ℕ) → k < 8 → k ≢ a → at_of children k ≡ 0) → a < 8 → ArePair sites x n key level
    → StandsFor (site_at sites) (at_of v.memory) (cell_word (get_or (drop 1 spare) 0 0)) (8 * key + a) (IsIn (take used (drop 1 spare))) (IsOneOf x n)
    → StandsFor (site_at sites) (at_of w.memory) (cell_word (get_or spare 0 0)) key (IsIn (take (used + 1) spare)) (IsOneOf x n)
linked_first sites v w spare used a key level x n children once l wrote words child zeros small pair sub =
    stands_same (site_at sites) (at_of w.memory) (cell_word (get_or spare 0 0)) key
    (λ e. (e ≡ get_or spare 0 0) ⊎ IsIn (take used (drop 1 spare)) e) (IsIn (take (used + 1) spare)) (IsOneOf x n) (IsOneOf x n)
    (λ e. rw add-one (first_and_rest spare used e l)) (λ m. ((λ q. q), (λ q. q)))
    (linked sites v w (get_or spare 0 0) (get_or (drop 1 spare) 0 0) a key level x n children (IsIn (take used (drop 1 spare))) wrote words
    (child ∙ ap cell_word (sym (second_is spare))) zeros small pair (first_fresh spare used once l) sub)
  where
    second_is : (l : List ℕ) → get_or (drop 1 l) 0 0 ≡ get_or l 1 0
    second_is [] = refl
    second_is (x ∷ xs) = refl

pub forked_first : (sites : List Site) (memory spare : List ℕ) (a b key level x n : ℕ) (children : List ℕ) → 1 ≤ length spare
    → HasCellWords memory (get_or spare 0 0) children key 8
    → at_of children a ≡ body_word x → at_of children b ≡ body_word n → ((k : ℕ) → k < 8 → k ≢ a → k ≢ b → at_of children k ≡ 0)
    → a ≡ octant_of (site_at sites x) level → b ≡ octant_of (site_at sites n) level → a ≢ b → ArePair sites x n key level
    → StandsFor (site_at sites) (at_of memory) (cell_word (get_or spare 0 0)) key (IsIn (take 1 spare)) (IsOneOf x n)
forked_first sites memory [] a b key level x n children l words wa wb zeros is_a is_b apart pair = absurd (omega arith)
forked_first sites memory (c ∷ cs) a b key level x n children l words wa wb zeros is_a is_b apart pair =
    stands_same (site_at sites) (at_of memory) (cell_word c) key (Only c) (IsIn (take 1 (c ∷ cs))) (IsOneOf x n) (IsOneOf x n)
    (λ e. ((λ q. inl q), (λ q. elim q [ inl f ↦ f | inr f ↦ absurd f ]))) (λ m. ((λ q. q), (λ q. q)))
    (forked sites memory c a b key level x n children words wa wb zeros is_a is_b apart pair)

-- a slice from its second element on
pub rest_is : (l : List ℕ) → take (length l - 1) (drop 1 l) ≡ drop 1 l
rest_is [] = refl
rest_is (x ∷ xs) = let e : length (x ∷ xs) - 1 ≡ length xs = omega arith in ap (λ (m : ℕ). take m xs) e ∙ take_all xs
  where
    take_all : (ys : List ℕ) → take (length ys) ys ≡ ys
    take_all [] = refl
    take_all (y ∷ ys) = ap (λ (z : List ℕ). y ∷ z) (take_all ys)

pub length_rest : (l : List ℕ) → length (drop 1 l) ≡ length l - 1
length_rest [] = refl
length_rest (x ∷ xs) = omega arith

-- eight empty words
abbrev pub eight : List ℕ
eight = 0 ∷ 0 ∷ 0 ∷ 0 ∷ 0 ∷ 0 ∷ 0 ∷ 0 ∷ []

-- the words of a cell's children: one is set
pub one_child : (a k v : ℕ) → k ≢ a → at_of (set eight a v) k ≡ 0
one_child a k v n = get_or-set_other eight a k v 0 n ∙ zeros k
  where
    zeros : (k : ℕ) → at_of eight k ≡ 0
    zeros zero = refl
    zeros (suc zero) = refl
    zeros (suc (suc zero)) = refl
    zeros (suc (suc (suc zero))) = refl
    zeros (suc (suc (suc (suc zero)))) = refl
    zeros (suc (suc (suc (suc (suc zero))))) = refl
    zeros (suc (suc (suc (suc (suc (suc zero)))))) = refl
    zeros (suc (suc (suc (suc (suc (suc (suc zero))))))) = refl
    zeros (suc (suc (suc (suc (suc (suc (suc (suc k)))))))) = refl

pub this_child : (a v : ℕ) → a < 8 → at_of (set eight a v) a ≡ v
this_child a v l = get_or-set_same eight a v 0 l

-- two are set
pub two_children : (a b v w : ℕ) → a < 8 → b < 8 → a ≢ b → (at_of (set (set eight a v) b w) a ≡ v)
    × (at_of (set (set eight a v) b w) b ≡ w) × ((k : ℕ) → k < 8 → k ≢ a → k ≢ b → at_of (set (set eight a v) b w) k ≡ 0)
two_children a b v w la lb n =
    let one : List ℕ = set eight a v in (
      get_or-set_other one b a w 0 n ∙ this_child a v la,
      get_or-set_same one b w 0 (let e = length-set eight a v in omega arith),
      λ k l p q. get_or-set_other one b k w 0 q ∙ one_child a k v p,
    )
