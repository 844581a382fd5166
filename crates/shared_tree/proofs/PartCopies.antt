-- Copies of subtrees while they are made.
use Rattle.std.proofs.Common.{ℕ, ◌+◌, ◌-◌, ◌*◌, ◌^◌, ◌<◌, ◌≤◌, ◌≡◌, ◌≢◌, ◌⊎◌, ◌↔◌, zero, suc, refl, sym, ◌∙◌, ap, subst, inl, inr, arith, eqb, cond, Bool}
use Rattle.std.proofs.Common.{List, [], ◌∷◌, length, take, drop, set, length-set, get_or, get_or-set_same, get_or-set_other, Option, None, Some}
use Rattle.std.proofs.Common.{length-drop, take-append-drop}
use mathlib.Core.Logic.{dite}
use native.Mathlib.Decide.{ℕ_discrete}
use Rattle.std.proofs.Math.Nat.{add-mul, mul-add, mul-le-mul_left, one-mul}
use Rattle.std.proofs.Math.Seq.{take-add}
use Rattle.std.proofs.lemmas.Bool.{cases_Bool, cases_lt, eqb-true}
use Rattle.std.proofs.lemmas.List.{take_all}
use Rattle.octant_code.specs.declared.limits.TheConstants.{LEVELS}
use Rattle.octant_code.specs.Space.{Site, key_of, octant_of}
use Rattle.octant_code.specs.Points.{site_at, ArePoints}
use Rattle.octant_code.proofs.Apart.{level_shallow}
use Rattle.octant_code.proofs.Keys.{key-next-fits, octant-small}
use Rattle.bh_model.specs.Bodies.{IsIn, NoneTwice}
use Rattle.bh_model.specs.Trees.{in_octant}
use Rattle.bh_model.proofs.CellCounts.{octant_length, octants_few}
use Rattle.bh_model.proofs.Cells.{in_octant-keeps, in_octant-member}
use Rattle.bh_model.proofs.Lists.{in_append, in_left, in_right}
use Rattle.bh_model.proofs.MoreThan.{more_of_two}
use Rattle.bh_model.proofs.Totals.{each_of_eight, sum_upto, sum_upto-more}
use Rattle.tree_rule.specs.Flat.{ChangedAt, Either, IsShared, StandsAmid, StandsFor, Top}
use Rattle.tree_rule.specs.Words.{at_of, body_word, cell_word, child_place, key_place, lock_place}
use Rattle.tree_rule.proofs.Laws.{Only, amid_moved, amid_same, graft_inside, lone_body, lone_cell, stands_body, stands_empty, stands_moved, stands_same}
use Rattle.octree.specs.Chain.{ArePair, IsOneOf}
use Rattle.octree.specs.Spot.{Spot}
use Rattle.octree.specs.Subtree.{IsCellAt, IsChildOf}
use Rattle.octree.proofs.Laws.{octant_under}
use Rattle.tree_passes.specs.declared.view.TheConstants.{KEY_PART, ROW_WORDS}
use Rattle.tree_passes.specs.declared.view.View.{View}
use Rattle.tree_passes.specs.Counting.{times}
use Rattle.tree_passes.specs.Making.{HasCellWords, HasWritten, IsReady}
use Rattle.tree_passes.proofs.Laws.{WithRow, cell_row, in_times, times-append, times_take, wrote_more, wrote_word}
use Rattle.shared_tree.specs.Copying.{bodies_under, other_in, other_word, with_other, IsOtherAt, IsPartAt}
use Rattle.shared_tree.proofs.PartTrees.{child_part, part_split}

-- ---- the cells of a list

-- a slice from some place on
pub rest_from : (n : ℕ) (l : List ℕ) → take (length l - n) (drop n l) ≡ drop n l
rest_from n l = take_all (length l - n) (drop n l) (omega (arith, length-drop n l))

-- the first cells, and those of the rest
pub first_then_rest : (a b : ℕ) (l : List ℕ) (c : ℕ) → (IsIn (take a l) c ⊎ IsIn (take b (drop a l)) c) ↔ IsIn (take (a + b) l) c
first_then_rest a b l c = (
  λ i. subst (λ (z : List ℕ). IsIn z c) (sym (take-add a b l)) (elim i [
    | inl x ↦ in_left (take a l) (take b (drop a l)) c x
    | inr y ↦ in_right (take a l) (take b (drop a l)) c y
  ]),
  λ i. in_append (take a l) (take b (drop a l)) c (subst (λ (z : List ℕ). IsIn z c) (take-add a b l) i),
)

-- none of the first is one of the rest
parts_apart : (a b : ℕ) (l : List ℕ) (c : ℕ) → ((d : ℕ) → times d l ≤ 1) → IsIn (take a l) c → IsIn (take b (drop a l)) c → ⊥
parts_apart a b l c once i j =
    let x = in_times c (take a l) i in
    let y = in_times c (take b (drop a l)) j in
    let both = ap (times c) (take-add a b l) in
    let sum = times-append c (take a l) (take b (drop a l)) in
    let few = times_take c (a + b) l in
    let o = once c in
    omega arith

times_drop : (x n : ℕ) (l : List ℕ) → times x (drop n l) ≤ times x l
times_drop x n l =
    let both = ap (times x) (take-append-drop n l) in
    let sum = times-append x (take n l) (drop n l) in
    omega arith

-- the rest of the cells is ready
pub ready_from : (v : View) (words n : ℕ) (spare : List ℕ) → IsReady v words spare → IsReady v words (drop n spare)
ready_from v words n spare r = record {
  long = r.long;
  held = λ c. let a = r.held c in let b = times_drop c n spare in omega arith;
  once = λ c. let a = r.once c in let b = times_drop c n spare in omega arith;
  inside = λ c i. let b = times_drop c n spare in r.inside c (omega arith);
}

-- the first cell
pub first_only : (spare : List ℕ) (top d : ℕ) → 1 ≤ length spare → top ≡ get_or spare 0 0 → IsIn (take 1 spare) d ↔ (d ≡ top)
first_only [] top d l e = absurd (omega arith)
first_only (c ∷ cs) top d l e = ((λ i. elim i [ inl f ↦ f ∙ sym e | inr f ↦ absurd f ]), (λ f. inl (f ∙ e)))

-- is among the first ones
first_in : (spare : List ℕ) (top used : ℕ) → 1 ≤ length spare → 1 ≤ used → top ≡ get_or spare 0 0 → IsIn (take used spare) top
first_in [] top used l s e = absurd (omega arith)
first_in (c ∷ cs) top zero l s e = absurd (omega arith)
first_in (c ∷ cs) top (suc used) l s e = inl e

-- ---- bodies

-- the bodies of the part are among all
in_whole : (other : Option ℕ) (bodies : List ℕ) (n : ℕ) → IsIn bodies n → IsIn (with_other other bodies) n
in_whole None bodies n i = i
in_whole (Some x) bodies n i = inr i

-- the bodies of an octant, and the other one if it has that octant
octant_whole : (site : ℕ → Site) (level k : ℕ) (other : Option ℕ) (bodies : List ℕ)
    → with_other (other_in site level k other) (in_octant site level k bodies) ≡ in_octant site level k (with_other other bodies)
octant_whole site level k None bodies = refl
octant_whole site level k (Some x) bodies =
    elim (cases_Bool (eqb (octant_of (site x) level) k)) [ inl e ↦ rw e refl | inr e ↦ rw e refl ]

-- the body of an option
the_body : Option ℕ → ℕ
the_body None = 0
the_body (Some x) = suc x

pub none_some : (x : ℕ) → None ≡ Some x → ⊥
unfolding the_body
none_some x e = let a = ap the_body e in omega arith

pub some_same : (x y : ℕ) → Some x ≡ Some y → x ≡ y
unfolding the_body
some_same x y e = let a = ap the_body e in omega arith

-- the other body in an octant is the other body, and has the octant
pub other_of : (site : ℕ → Site) (level k : ℕ) (other : Option ℕ) (x : ℕ) → other_in site level k other ≡ Some x
    → (other ≡ Some x) × (octant_of (site x) level ≡ k)
other_of site level k None x e = absurd (none_some x e)
other_of site level k (Some y) x e = elim (cases_Bool (eqb (octant_of (site y) level) k)) [
  | inl t ↦
      let here : Some y ≡ Some x = sym (ap (λ (b : Bool). cond b (Some y) None) t) ∙ e in
      (here, subst (λ (z : ℕ). octant_of (site z) level ≡ k) (some_same y x here) (eqb-true (octant_of (site y) level) k t))
  | inr f ↦ absurd (none_some x (sym (ap (λ (b : Bool). cond b (Some y) None) f) ∙ e))
]

-- a cube that a part's bodies share
shared_list : (sites : List Site) (bodies : List ℕ) (V : ℕ → Type 0) (key level : ℕ) → level < LEVELS → length bodies ≢ 0 → length bodies ≢ 1
    → NoneTwice bodies → ((n : ℕ) → IsIn bodies n → V n) → ((n : ℕ) → IsIn bodies n → key ≡ key_of (site_at sites n) level)
    → IsShared (site_at sites) V key
shared_list sites [] V key level low some many once among under = absurd (some refl)
shared_list sites (a ∷ []) V key level low some many once among under = absurd (many refl)
shared_list sites (a ∷ b ∷ rest) V key level low some many once among under = record {
  level = level;
  shallow = low;
  sharers = more_of_two a b (among a (inl refl), under a (inl refl)) (among b (inr (inl refl)), under b (inr (inl refl))) (λ e. once.0 (inl e));
}

-- a word that stands for one body
pub stands_one : (sites : List Site) (at : ℕ → ℕ) (word key level n : ℕ) (P B : ℕ → Type 0) → word ≡ body_word n → level ≤ LEVELS
    → key ≡ key_of (site_at sites n) level → ((c : ℕ) → P c → ⊥) → ((m : ℕ) → B m ↔ (m ≡ n)) → StandsFor (site_at sites) at word key P B
stands_one sites at word key level n P B is low under none one =
    subst (λ (z : ℕ). StandsFor (site_at sites) at z key P B) (sym is)
    (amid_same (site_at sites) at (body_word n) key (λ c. ⊥) P (Only n) B B B (λ c. ((λ f. absurd f), (λ p. none c p)))
    (λ m. ((λ f. (one m).1 f), (λ b. (one m).0 b))) (λ m b. b) (stands_body (site_at sites) at key n B (level, low, under)))

-- two bodies of a cube are a pair
pub pair_of : (sites : List Site) (x n key level : ℕ) → ArePoints sites → level ≤ LEVELS → x < length sites → n < length sites → x ≢ n
    → key ≡ key_of (site_at sites x) level → key ≡ key_of (site_at sites n) level → ArePair sites x n key level
pair_of sites x n key level rule low x_in n_in differ ux un = record {
  shallow = omega (arith, level_shallow sites x n level rule x_in n_in differ low (sym ux ∙ un));
  x_in = x_in;
  n_in = n_in;
  differ = differ;
  x_under = ux;
  n_under = un;
}

-- ---- a cell whose children are copied in turn

-- a body whose octant was copied
abbrev pub IsBefore : List Site → Spot → Option ℕ → ℕ → ℕ → ℕ → Type 0
IsBefore sites s other level k n = IsIn (with_other other (bodies_under s)) n × (octant_of (site_at sites n) level < k)

-- The children before child k of the cell at the top of a part are copied: the words stand for their bodies, and the other child words are empty.
pub record IsCopiedUpTo (sites : List Site) (v w : View) (spare : List ℕ) (s : Spot) (other : Option ℕ) (key level k used top : ℕ) : Type 0 where
  pub wrote : HasWritten v w (take used spare)
  pub some : 1 ≤ used
  pub few : used ≤ 1 + (LEVELS - (level + 1)) * sum_upto (octant_length (site_at sites) level (bodies_under s)) k
  pub stands : StandsAmid (site_at sites) (at_of w.memory) (cell_word top) key (IsIn (take used spare)) (IsBefore sites s other level k)
      (IsIn (with_other other (bodies_under s)))
  pub blank : (j : ℕ) → k ≤ j → j < 8 → at_of w.memory (child_place top j) ≡ 0
  pub keyed : at_of w.memory (key_place top) ≡ key

-- a cell without children stands for no body
lone_stands : (site : ℕ → Site) (at : ℕ → ℕ) (top key : ℕ) (B V : ℕ → Type 0) → ((k : ℕ) → k < 8 → at (child_place top k) ≡ 0)
    → at (key_place top) ≡ key → IsShared site V key → ((n : ℕ) → B n → ⊥) → StandsAmid site at (cell_word top) key (Only top) B V
lone_stands site at top key B V blank keyed sh none = record {
  keys_differ = λ c d p q e. p ∙ sym q;
  cell_named = λ c p. Top (ap (λ z. at (key_place z)) p ∙ keyed) (ap cell_word p);
  names_cell = λ key' c x. lone_cell at top key c key' blank keyed x;
  body_named = λ n b. absurd (none n b);
  names_body = λ key' n x. absurd (lone_body at top key n key' blank x);
  shared = λ c p. subst (IsShared site V) (sym (ap (λ z. at (key_place z)) p ∙ keyed)) sh;
}

-- the words of eight empty children
abbrev pub eight : List ℕ
eight = 0 ∷ 0 ∷ 0 ∷ 0 ∷ 0 ∷ 0 ∷ 0 ∷ 0 ∷ []

blank_eight : (k : ℕ) → k < 8 → at_of eight k ≡ 0
blank_eight k small = each_of_eight (λ j. at_of eight j ≡ 0) refl refl refl refl refl refl refl refl k small

-- the cell is written, and no child is copied yet
pub copied_none : (sites : List Site) (v w : View) (spare : List ℕ) (s cell : Spot) (other : Option ℕ) (key level top : ℕ)
    → IsPartAt sites s key level → IsCellAt s cell → 1 ≤ length spare → top ≡ get_or spare 0 0
    → HasWritten v w (top ∷ []) → HasCellWords w.memory top eight key 8
    → IsCopiedUpTo sites v w spare s other key level 0 1 top
copied_none sites v w spare s cell other key level top part at long first wrote words =
    let site : ℕ → Site = site_at sites in
    let bodies : List ℕ = bodies_under s in
    let V : ℕ → Type 0 = IsIn (with_other other bodies) in
    let split = part_split sites s cell key level part at in
    let blank : (k : ℕ) → k < 8 → at_of w.memory (child_place top k) ≡ 0 = λ k l. words.children_are k l ∙ blank_eight k l in
    let sh : IsShared site V key =
    shared_list sites bodies V key level split.low split.some split.many part.once (λ n i. in_whole other bodies n i) part.under in
    record {
      wrote = wrote_more v v w [] (top ∷ []) (take 1 spare) (record { view = refl; long = refl; others = λ i n. refl }) wrote
          (λ c p. absurd p) (λ c p. elim p [ inl e ↦ (first_only spare top c long first).1 e | inr f ↦ absurd f ]);
      some = omega arith;
      few = omega arith;
      stands = amid_same site (at_of w.memory) (cell_word top) key (Only top) (IsIn (take 1 spare)) (IsBefore sites s other level 0)
          (IsBefore sites s other level 0) V V (λ c. ((λ p. (first_only spare top c long first).1 p), (λ p. (first_only spare top c long first).0 p)))
          (λ n. ((λ b. b), (λ b. b))) (λ n x. x)
          (lone_stands site (at_of w.memory) top key (IsBefore sites s other level 0) V blank words.key_is sh (λ n b. let l = b.1 in omega arith));
      blank = λ j l m. blank j m;
      keyed = words.key_is;
    }

-- the bodies before the next octant are those before it and its own
before_next : (sites : List Site) (s : Spot) (other : Option ℕ) (level k n : ℕ) (M : List ℕ)
    → M ≡ in_octant (site_at sites) level k (with_other other (bodies_under s))
    → Either (IsBefore sites s other level k) (IsIn M) n ↔ IsBefore sites s other level (k + 1) n
before_next sites s other level k n M is = (
  λ e. elim e [
    | inl b ↦ (b.0, let l : octant_of (site_at sites n) level < k = b.1 in omega arith)
    | inr m ↦
        let f = in_octant-member (site_at sites) level k (with_other other (bodies_under s)) n (subst (λ (l : List ℕ). IsIn l n) is m) in
        (f.0, omega (arith, f.1))
  ],
  λ b. elim (cases_lt (octant_of (site_at sites n) level) k) [
    | inl l ↦ inl (b.0, l)
    | inr g ↦ inr (subst (λ (l : List ℕ). IsIn l n) (sym is)
        (in_octant-keeps (site_at sites) level (with_other other (bodies_under s)) n k b.0
        (let l : octant_of (site_at sites n) level < k + 1 = b.1 in omega arith)))
  ],
)

-- a word of a cell, and its key, stay where the cell is none of those that were written
stays_word : (v w : View) (cells : List ℕ) (c j : ℕ) → HasWritten v w cells → (IsIn cells c → ⊥) → j < ROW_WORDS
    → at_of w.memory (child_place c j) ≡ at_of v.memory (child_place c j)
stays_word v w cells c j wrote fresh low =
    wrote.others (child_place c j) (λ d i p m e. fresh (subst (IsIn cells) (let one : d ≡ c = omega arith in one) p))

stays_key : (v w : View) (cells : List ℕ) (c : ℕ) → HasWritten v w cells → (IsIn cells c → ⊥) → at_of w.memory (key_place c) ≡ at_of v.memory (key_place c)
stays_key v w cells c wrote fresh =
    let k : key_place c ≡ child_place c KEY_PART = omega arith in
    ap (at_of w.memory) k ∙ stays_word v w cells c KEY_PART wrote fresh (omega arith) ∙ ap (at_of v.memory) (sym k)

-- What a copy of child k gave: these cells of the rest stand for the bodies of the octant, and the child's word is theirs.
pub record IsChildCopied (sites : List Site) (w u x : View) (spare M : List ℕ) (key k used more top word : ℕ) : Type 0 where
  pub wrote : HasWritten w u (take more (drop used spare))
  pub stands : StandsFor (site_at sites) (at_of u.memory) word (8 * key + k) (IsIn (take more (drop used spare))) (IsIn M)
  pub put : x ≡ record u { memory = set u.memory (child_place top k) word }
  pub inside : lock_place top < length u.memory

-- one child more is copied
pub copied_more : (sites : List Site) (v w u x : View) (spare : List ℕ) (s : Spot) (other : Option ℕ) (M : List ℕ) (key level k used more top word : ℕ)
    → M ≡ in_octant (site_at sites) level k (with_other other (bodies_under s))
    → k < 8 → 1 ≤ length spare → top ≡ get_or spare 0 0 → ((c : ℕ) → times c spare ≤ 1)
    → more ≤ (LEVELS - (level + 1)) * octant_length (site_at sites) level (bodies_under s) k
    → IsCopiedUpTo sites v w spare s other key level k used top → IsChildCopied sites w u x spare M key k used more top word
    → IsCopiedUpTo sites v x spare s other key level (k + 1) (used + more) top
copied_more sites v w u x spare s other M key level k used more top word is small long first once few i h =
    let site : ℕ → Site = site_at sites in
    let all : List ℕ = take (used + more) spare in
    let P : ℕ → Type 0 = IsIn (take used spare) in
    let Q : ℕ → Type 0 = IsIn (take more (drop used spare)) in
    let V : ℕ → Type 0 = IsIn (with_other other (bodies_under s)) in
    let B : ℕ → Type 0 = IsBefore sites s other level k in
    let low : KEY_PART < ROW_WORDS = omega arith in
    let top_in : P top = first_in spare top used long i.some first in
    let fresh : (c : ℕ) → P c → Q c → ⊥ = λ c p q. parts_apart used more spare c once p q in
    let mem : x.memory ≡ set u.memory (child_place top k) word = ap (λ (z : View). z.memory) h.put in
    let last : HasWritten u x (top ∷ []) = wrote_word u x top k word (omega arith) h.put in
    let changed : ChangedAt (at_of u.memory) (at_of x.memory) (child_place top k) word = record {
      now = ap (λ (z : List ℕ). at_of z (child_place top k)) mem
          ∙ get_or-set_same u.memory (child_place top k) word 0 (let l : lock_place top < length u.memory = h.inside in omega arith);
      others = λ j apart. ap (λ (z : List ℕ). at_of z j) mem ∙ get_or-set_other u.memory (child_place top k) j word 0 apart;
    } in
    let not_top : (c : ℕ) → Q c → IsIn (top ∷ []) c → ⊥ = λ c q t. elim t [ inl e ↦ fresh c (subst P (sym e) top_in) q | inr f ↦ f ] in
    let old : (j : ℕ) → k ≤ j → j < 8 → at_of u.memory (child_place top j) ≡ 0 =
    λ j l m. stays_word w u (take more (drop used spare)) top j h.wrote (λ q. fresh top top_in q) (omega arith) ∙ i.blank j l m in
    let keyed : at_of u.memory (key_place top) ≡ key =
    stays_key w u (take more (drop used spare)) top h.wrote (λ q. fresh top top_in q) ∙ i.keyed in
    let before : StandsAmid site (at_of u.memory) (cell_word top) key P B V =
    amid_moved site (at_of w.memory) (at_of u.memory) (cell_word top) key P B V
    (λ c p. stays_key w u (take more (drop used spare)) c h.wrote (fresh c p))
    (λ c j p l. stays_word w u (take more (drop used spare)) c j h.wrote (fresh c p) (omega arith)) i.stands in
    let below : StandsFor site (at_of x.memory) word (8 * key + k) Q (IsIn M) =
    stands_moved site (at_of u.memory) (at_of x.memory) word (8 * key + k) Q (IsIn M)
    (λ c q. stays_key u x (top ∷ []) c last (not_top c q)) (λ c j q l. stays_word u x (top ∷ []) c j last (not_top c q) (omega arith)) h.stands in
    let zero_word : at_of u.memory (child_place top k) ≡ 0 = old k (omega arith) small in
    let joined = graft_inside site (at_of u.memory) (at_of x.memory) (cell_word top) key P Q B (IsIn M) V (IsIn M) (8 * key + k) top k word before below
    top_in small (ap (λ y. 8 * y + k) (sym keyed)) changed (λ d e. omega arith) (λ n e. absurd (omega arith)) in
    let in_first : (c : ℕ) → P c → IsIn all c = λ c p. (first_then_rest used more spare c).0 (inl p) in
    let sum : (LEVELS - (level + 1)) * sum_upto (octant_length site level (bodies_under s)) (k + 1)
    ≡ (LEVELS - (level + 1)) * sum_upto (octant_length site level (bodies_under s)) k
    + (LEVELS - (level + 1)) * octant_length site level (bodies_under s) k =
    ap (λ y. (LEVELS - (level + 1)) * y) (sum_upto-more (octant_length site level (bodies_under s)) k)
    ∙ mul-add (LEVELS - (level + 1)) (sum_upto (octant_length site level (bodies_under s)) k) (octant_length site level (bodies_under s) k) in
    record {
      wrote = wrote_more v u x all (top ∷ []) all
          (wrote_more v w u (take used spare) (take more (drop used spare)) all i.wrote h.wrote in_first
          (λ c q. (first_then_rest used more spare c).0 (inr q)))
          last (λ c p. p) (λ c t. elim t [ inl e ↦ subst (IsIn all) (sym e) (in_first top top_in) | inr f ↦ absurd f ]);
      some = omega (arith, i.some);
      few = omega (arith, i.few, few, sum);
      stands = amid_same site (at_of x.memory) (cell_word top) key (Either P Q) (IsIn all) (Either B (IsIn M))
          (IsBefore sites s other level (k + 1)) (Either V (IsIn M)) V (λ c. first_then_rest used more spare c)
          (λ n. before_next sites s other level k n M is)
          (λ n e. elim e [
            | inl a ↦ a
            | inr m ↦ (in_octant-member site level k (with_other other (bodies_under s)) n (subst (λ (l : List ℕ). IsIn l n) is m)).0
          ]) joined;
      blank = λ j l m. changed.others (child_place top j) (λ e. omega arith) ∙ old j (omega arith) m;
      keyed = changed.others (key_place top) (λ e. omega arith) ∙ keyed;
    }

-- when all children are copied the words stand for all bodies
pub copied_all : (sites : List Site) (v w : View) (spare : List ℕ) (s : Spot) (other : Option ℕ) (key level k used top : ℕ) → 8 ≤ k
    → IsCopiedUpTo sites v w spare s other key level k used top
    → StandsFor (site_at sites) (at_of w.memory) (cell_word top) key (IsIn (take used spare)) (IsIn (with_other other (bodies_under s)))
copied_all sites v w spare s other key level k used top end i =
    amid_same (site_at sites) (at_of w.memory) (cell_word top) key (IsIn (take used spare)) (IsIn (take used spare)) (IsBefore sites s other level k)
    (IsIn (with_other other (bodies_under s))) (IsIn (with_other other (bodies_under s))) (IsIn (with_other other (bodies_under s)))
    (λ c. ((λ p. p), (λ p. p))) (λ n. ((λ b. b.0), (λ m. (m, let o = octant-small (site_at sites n) level in omega arith)))) (λ n m. m) i.stands

-- ---- a cell that is written once all its children are copied

-- Two views in which a cell has the same words agree at a place, where the views do in which it was written.
rows_agree : (v w a b : View) (top key i : ℕ) (children : List ℕ) → HasWritten v a (top ∷ []) → HasCellWords a.memory top children key 8
    → HasWritten w b (top ∷ []) → HasCellWords b.memory top children key 8 → at_of w.memory i ≡ at_of v.memory i → at_of b.memory i ≡ at_of a.memory i
rows_agree v w a b top key i children wa ra wb rb same = elim (cases_lt i (child_place top 0)) [
  | inl before ↦ other (λ j l e. omega arith)
  | inr from ↦ elim (cases_lt i (child_place top KEY_PART)) [
    | inl child ↦
        let at : i ≡ child_place top (i - child_place top 0) = omega arith in
        let small : i - child_place top 0 < 8 = omega arith in
        ap (at_of b.memory) at ∙ rb.children_are _ small ∙ sym (ra.children_are _ small) ∙ ap (at_of a.memory) (sym at)
    | inr on ↦ dite (ℕ_discrete i (key_place top))
        (λ (e : i ≡ key_place top). ap (at_of b.memory) e ∙ rb.key_is ∙ sym ra.key_is ∙ ap (at_of a.memory) (sym e))
        (λ (n : i ≢ key_place top). other (λ j l e. n (omega arith)))
  ]
]
  where
    other : ((j : ℕ) → j < ROW_WORDS → i ≢ child_place top j) → at_of b.memory i ≡ at_of a.memory i
    other none =
        let apart : (c j : ℕ) → IsIn (top ∷ []) c → j < ROW_WORDS → i ≢ child_place c j = λ c j p l e. elim p [
          | inl is ↦ none j l (let one : c ≡ top = is in omega arith)
          | inr f ↦ absurd f
        ] in
        wb.others i apart ∙ same ∙ sym (wa.others i apart)

-- The children before child k are copied, and their words are kept for the cell: were it written with them, the words would stand for their bodies.
pub record IsGathered (sites : List Site) (v w : View) (spare : List ℕ) (s : Spot) (other : Option ℕ) (key level k used top : ℕ) (children : List ℕ)
    : Type 0 where
  pub eight_words : length children ≡ 8
  pub wrote : HasWritten v w (take used spare)
  pub row : WithRow w top children key 8
  pub copied : IsCopiedUpTo sites v row.after spare s other key level k used top

-- at the beginning they are empty
pub gathered_none : (sites : List Site) (v : View) (spare : List ℕ) (s cell : Spot) (other : Option ℕ) (key level top : ℕ)
    → IsPartAt sites s key level → IsCellAt s cell → 1 ≤ length spare → top ≡ get_or spare 0 0 → lock_place top < length v.memory
    → IsGathered sites v v spare s other key level 0 1 top eight
gathered_none sites v spare s cell other key level top part at long first inside =
    let row = cell_row v top eight key inside in
    record {
      eight_words = refl;
      wrote = record { view = refl; long = refl; others = λ i n. refl };
      row = row;
      copied = copied_none sites v row.after spare s cell other key level top part at long first row.wrote row.words;
    }

-- one child more is copied
pub gathered_more : (sites : List Site) (v w u : View) (spare : List ℕ) (s : Spot) (other : Option ℕ) (M : List ℕ) (key level k used more top word : ℕ)
    (children : List ℕ) → M ≡ in_octant (site_at sites) level k (with_other other (bodies_under s))
    → k < 8 → 1 ≤ length spare → top ≡ get_or spare 0 0 → lock_place top < length u.memory → ((c : ℕ) → times c spare ≤ 1)
    → more ≤ (LEVELS - (level + 1)) * octant_length (site_at sites) level (bodies_under s) k
    → IsGathered sites v w spare s other key level k used top children → HasWritten w u (take more (drop used spare))
    → StandsFor (site_at sites) (at_of u.memory) word (8 * key + k) (IsIn (take more (drop used spare))) (IsIn M)
    → IsGathered sites v u spare s other key level (k + 1) (used + more) top (set children k word)
gathered_more sites v w u spare s other M key level k used more top word children is small long first inside once few i wrote stands =
    let g = i.copied in
    let a : View = i.row.after in
    let row = cell_row u top children key inside in
    let b : View = row.after in
    let x : View = record b { memory = set b.memory (child_place top k) word } in
    let top_in : IsIn (take used spare) top = first_in spare top used long g.some first in
    let Q : ℕ → Type 0 = IsIn (take more (drop used spare)) in
    let not_top : (c : ℕ) → Q c → IsIn (top ∷ []) c → ⊥ =
    λ c q t. elim t [ inl e ↦ parts_apart used more spare c once (subst (IsIn (take used spare)) (sym e) top_in) q | inr f ↦ f ] in
    let inside_row : lock_place top < length b.memory = (let l = row.wrote.long in omega arith) in
    let shadow : HasWritten a b (take more (drop used spare)) = record {
      view = row.wrote.view ∙ ap (λ (z : View). record z { memory = b.memory }) wrote.view
          ∙ ap (λ (z : View). record z { memory = b.memory }) (sym i.row.wrote.view);
      long = row.wrote.long ∙ wrote.long ∙ sym i.row.wrote.long;
      others = λ j n. rows_agree w u a b top key j children i.row.wrote i.row.words row.wrote row.words (wrote.others j n);
    } in
    let below : StandsFor (site_at sites) (at_of b.memory) word (8 * key + k) Q (IsIn M) =
    stands_moved (site_at sites) (at_of u.memory) (at_of b.memory) word (8 * key + k) Q (IsIn M)
    (λ c q. stays_key u b (top ∷ []) c row.wrote (not_top c q))
    (λ c j q l. stays_word u b (top ∷ []) c j row.wrote (not_top c q) (omega arith)) stands in
    record {
      eight_words = length-set children k word ∙ i.eight_words;
      wrote = wrote_more v w u (take used spare) (take more (drop used spare)) (take (used + more) spare) i.wrote wrote
          (λ c p. (first_then_rest used more spare c).0 (inl p)) (λ c q. (first_then_rest used more spare c).0 (inr q));
      row = record {
        after = x;
        wrote = wrote_more u b x (top ∷ []) (top ∷ []) (top ∷ []) row.wrote (wrote_word b x top k word (omega arith) refl) (λ c p. p) (λ c p. p);
        words = record {
          key_is = get_or-set_other b.memory (child_place top k) (key_place top) word 0 (λ e. omega arith) ∙ row.words.key_is;
          children_are = λ j l. dite (ℕ_discrete j k)
              (λ (e : j ≡ k). ap (λ (z : ℕ). at_of x.memory (child_place top z)) e
              ∙ get_or-set_same b.memory (child_place top k) word 0 (omega arith) ∙ sym (get_or-set_same children k word 0 (omega (arith, i.eight_words)))
              ∙ ap (at_of (set children k word)) (sym e))
              (λ (n : j ≢ k). get_or-set_other b.memory (child_place top k) (child_place top j) word 0 (λ e. n (omega arith))
              ∙ row.words.children_are j l ∙ sym (get_or-set_other children k j word 0 n));
        };
      };
      copied = copied_more sites v a b x spare s other M key level k used more top word is small long first once few g
          (record { wrote = shadow; stands = below; put = refl; inside = inside_row });
    }

-- and when the cell is written with the words of all children it stands for all bodies
pub gathered_all : (sites : List Site) (v w x : View) (spare : List ℕ) (s : Spot) (other : Option ℕ) (key level k used top : ℕ) (children : List ℕ) → 8 ≤ k
    → 1 ≤ length spare → top ≡ get_or spare 0 0 → IsGathered sites v w spare s other key level k used top children
    → HasWritten w x (top ∷ []) → HasCellWords x.memory top children key 8
    → HasWritten v x (take used spare)
    × StandsFor (site_at sites) (at_of x.memory) (cell_word top) key (IsIn (take used spare)) (IsIn (with_other other (bodies_under s)))
gathered_all sites v w x spare s other key level k used top children end long first i wrote words =
    let a : View = i.row.after in
    let same : (j : ℕ) → at_of x.memory j ≡ at_of a.memory j = λ j. rows_agree w w a x top key j children i.row.wrote i.row.words wrote words refl in (
      wrote_more v w x (take used spare) (top ∷ []) (take used spare) i.wrote wrote (λ c p. p)
          (λ c t. elim t [ inl e ↦ subst (IsIn (take used spare)) (sym e) (first_in spare top used long i.copied.some first) | inr f ↦ absurd f ]),
      stands_moved (site_at sites) (at_of a.memory) (at_of x.memory) (cell_word top) key (IsIn (take used spare)) (IsIn (with_other other (bodies_under s)))
          (λ c p. same (key_place c)) (λ c j p l. same (child_place c j)) (copied_all sites v a spare s other key level k used top end i.copied),
    )

-- ---- how many cells there are

-- the cells so far are at most those of one level less for each body, and one
pub few_cells : (sites : List Site) (bodies : List ℕ) (level k : ℕ) → level < LEVELS → length bodies ≢ 0
    → 1 + (LEVELS - (level + 1)) * sum_upto (octant_length (site_at sites) level bodies) k ≤ (LEVELS - level) * length bodies
few_cells sites bodies level k low some =
    let less : ℕ = LEVELS - (level + 1) in
    let next : LEVELS - level ≡ less + 1 = omega arith in
    let each : (LEVELS - level) * length bodies ≡ less * length bodies + 1 * length bodies =
    ap (λ y. y * length bodies) next ∙ add-mul less 1 (length bodies) in
    omega (arith, each, one-mul (length bodies), mul-le-mul_left less (octants_few (site_at sites) level k bodies))

-- and the rest has room for the next child
pub room_next : (sites : List Site) (bodies spare : List ℕ) (level k used : ℕ) → level < LEVELS → length bodies ≢ 0
    → used ≤ 1 + (LEVELS - (level + 1)) * sum_upto (octant_length (site_at sites) level bodies) k
    → (LEVELS - level) * length bodies ≤ length spare
    → used + (LEVELS - (level + 1)) * octant_length (site_at sites) level bodies k ≤ length spare
room_next sites bodies spare level k used low some few room =
    let all = few_cells sites bodies level (k + 1) low some in
    let sum : (LEVELS - (level + 1)) * sum_upto (octant_length (site_at sites) level bodies) (k + 1)
    ≡ (LEVELS - (level + 1)) * sum_upto (octant_length (site_at sites) level bodies) k
    + (LEVELS - (level + 1)) * octant_length (site_at sites) level bodies k =
    ap (λ y. (LEVELS - (level + 1)) * y) (sum_upto-more (octant_length (site_at sites) level bodies) k)
    ∙ mul-add (LEVELS - (level + 1)) (sum_upto (octant_length (site_at sites) level bodies) k) (octant_length (site_at sites) level bodies k) in
    omega (arith, all, sum, few, room)

-- there is a cell for a part's cell
pub cell_room : (sites : List Site) (s cell : Spot) (key level : ℕ) (spare : List ℕ) → IsPartAt sites s key level → IsCellAt s cell
    → (LEVELS - level) * length (bodies_under s) ≤ length spare → 1 ≤ length spare
cell_room sites s cell key level spare part at room =
    let split = part_split sites s cell key level part at in
    omega (arith, few_cells sites (bodies_under s) level 0 split.low split.some, room)

-- the keys of its children fit
pub key_fits : (sites : List Site) (s cell : Spot) (key level : ℕ) → IsPartAt sites s key level → IsCellAt s cell → 8 * key + 7 < 2 ^ 64
key_fits sites s cell key level part at =
    let split = part_split sites s cell key level part at in
    let key_is : key ≡ key_of (site_at sites at.some.body) level = part.under at.some.body at.some.inside in
    omega (arith, key-next-fits (site_at sites at.some.body) level split.low, key_is)

-- so many cells for one body
pub times_one : (a n : ℕ) (l : List ℕ) → l ≡ n ∷ [] → a * length l ≡ a
times_one a n l is = let one : length l ≡ 1 = ap length is in ap (λ y. a * y) one ∙ omega arith

-- ---- what stands for an empty part, for one body, and for two

pub nothing_stands : (sites : List Site) (at : ℕ → ℕ) (word key level : ℕ) (s : Spot) (other : Option ℕ) → IsPartAt sites s key level
    → bodies_under s ≡ [] → word ≡ other_word other → ((x : ℕ) → other ≡ Some x → IsOtherAt sites s key level x)
    → StandsFor (site_at sites) at word key (IsIn []) (IsIn (with_other other (bodies_under s)))
nothing_stands sites at word key level s None part none is others =
    stands_empty (site_at sites) at word key (IsIn []) (IsIn (bodies_under s)) is (λ d p. p) (λ d i. subst (λ (l : List ℕ). IsIn l d) none i)
nothing_stands sites at word key level s (Some x) part none is others =
    stands_one sites at word key level x (IsIn []) (IsIn (x ∷ bodies_under s)) is part.low (others x refl).under (λ c p. p)
    (λ m. ((λ i. elim i [ inl e ↦ e | inr f ↦ absurd (subst (λ (l : List ℕ). IsIn l m) none f) ]), (λ e. inl e)))

pub body_stands : (sites : List Site) (at : ℕ → ℕ) (word key level n : ℕ) (s : Spot) (other : Option ℕ) → IsPartAt sites s key level
    → bodies_under s ≡ n ∷ [] → word ≡ body_word n → other ≡ None
    → StandsFor (site_at sites) at word key (IsIn []) (IsIn (with_other other (bodies_under s)))
body_stands sites at word key level n s other part one is none =
    let same : with_other other (bodies_under s) ≡ n ∷ [] = ap (λ o. with_other o (bodies_under s)) none ∙ one in
    stands_one sites at word key level n (IsIn []) (IsIn (with_other other (bodies_under s))) is part.low
    (part.under n (subst (λ (l : List ℕ). IsIn l n) (sym one) (inl refl))) (λ c p. p)
    (λ m. (
      (λ i. elim (subst (λ (l : List ℕ). IsIn l m) same i) [ inl e ↦ e | inr f ↦ absurd f ]),
      (λ e. subst (λ (l : List ℕ). IsIn l m) (sym same) (inl e)),
    ))

pub pair_stands : (sites : List Site) (at : ℕ → ℕ) (word key x n : ℕ) (cells : List ℕ) (s : Spot) (other : Option ℕ) → bodies_under s ≡ n ∷ []
    → other ≡ Some x → StandsFor (site_at sites) at word key (IsIn cells) (IsOneOf x n)
    → StandsFor (site_at sites) at word key (IsIn cells) (IsIn (with_other other (bodies_under s)))
pair_stands sites at word key x n cells s other one is stands =
    let same : with_other other (bodies_under s) ≡ x ∷ n ∷ [] = ap (λ o. with_other o (bodies_under s)) is ∙ ap (λ (l : List ℕ). x ∷ l) one in
    stands_same (site_at sites) at word key (IsIn cells) (IsIn cells) (IsOneOf x n) (IsIn (with_other other (bodies_under s))) (λ c. ((λ p. p), (λ p. p)))
    (λ m. (
      (λ i. subst (λ (l : List ℕ). IsIn l m) (sym same) (elim i [ inl e ↦ inl e | inr f ↦ inr (inl f) ])),
      (λ i. elim (subst (λ (l : List ℕ). IsIn l m) same i) [
        | inl e ↦ inl e
        | inr f ↦ elim f [ inl e ↦ inr e | inr g ↦ absurd g ]
      ]),
    )) stands

-- the other body and the one of the part are a pair
pub pair_at : (sites : List Site) (s : Spot) (other : Option ℕ) (key level x n : ℕ) → ArePoints sites → IsPartAt sites s key level
    → bodies_under s ≡ n ∷ [] → IsOtherAt sites s key level x → ArePair sites x n key level
pair_at sites s other key level x n rule part one o =
    let n_in : IsIn (bodies_under s) n = subst (λ (l : List ℕ). IsIn l n) (sym one) (inl refl) in
    pair_of sites x n key level rule part.low o.x_in (part.bodies_in n n_in) (λ e. o.fresh (subst (IsIn (bodies_under s)) (sym e) n_in)) o.under
    (part.under n n_in)

-- ---- the children of a part's cell

-- the other body lies in its octant's cube, and is none of the child
pub child_other : (sites : List Site) (s cell child : Spot) (other joins : Option ℕ) (key level k : ℕ) → IsPartAt sites s key level → IsCellAt s cell
    → IsChildOf cell k child → k < 8 → joins ≡ other_in (site_at sites) level k other
    → ((x : ℕ) → other ≡ Some x → IsOtherAt sites s key level x)
    → (x : ℕ) → joins ≡ Some x → IsOtherAt sites child (8 * key + k) (level + 1) x
child_other sites s cell child other joins key level k part at is small join others x e =
    let o = other_of (site_at sites) level k other x (sym join ∙ e) in
    let h = others x o.0 in
    let same = (child_part sites s cell child key level k part at is small).1 in
    record {
      x_in = h.x_in;
      under = octant_under (site_at sites x) key level k h.under (sym o.1);
      fresh = λ i. h.fresh (in_octant-member (site_at sites) level k (bodies_under s) x (subst (λ (l : List ℕ). IsIn l x) same i)).0;
    }

-- its bodies with the other one are those of the octant
pub child_whole : (sites : List Site) (s cell child : Spot) (other joins : Option ℕ) (key level k : ℕ) → IsPartAt sites s key level → IsCellAt s cell
    → IsChildOf cell k child → k < 8 → joins ≡ other_in (site_at sites) level k other
    → with_other joins (bodies_under child) ≡ in_octant (site_at sites) level k (with_other other (bodies_under s))
child_whole sites s cell child other joins key level k part at is small join =
    ap (λ o. with_other o (bodies_under child)) join
    ∙ ap (with_other (other_in (site_at sites) level k other)) (child_part sites s cell child key level k part at is small).1
    ∙ octant_whole (site_at sites) level k other (bodies_under s)

-- and are as many
pub child_length : (sites : List Site) (s cell child : Spot) (key level k : ℕ) → IsPartAt sites s key level → IsCellAt s cell → IsChildOf cell k child → k < 8
    → (LEVELS - (level + 1)) * length (bodies_under child) ≡ (LEVELS - (level + 1)) * octant_length (site_at sites) level (bodies_under s) k
child_length sites s cell child key level k part at is small =
    ap (λ (l : List ℕ). (LEVELS - (level + 1)) * length l) (child_part sites s cell child key level k part at is small).1
