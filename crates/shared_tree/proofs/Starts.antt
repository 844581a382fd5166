-- The words and the cells that a tree is opened with.
use Rattle.std.proofs.Common.{◌≡◌, ℕ, zero, suc, ◌+◌, ◌-◌, ◌*◌, ◌<◌, ◌≤◌, ◌⊎◌, List, [], ◌∷◌, ◌++◌, length, take, set, replicate, refl, sym, ap}
use Rattle.std.proofs.Common.{subst, ◌∙◌, inl, inr, arith, length-set, get_or-set_same, get_or-set_other}
use Rattle.std.proofs.lemmas.Bool.{cases_lt}
use Rattle.std.proofs.lemmas.List.{get_or_past, get_or-append_right, get_or_append_left, length-append}
use Rattle.octant_code.specs.Space.{Site}
use Rattle.octant_code.specs.Points.{ArePoints, site_at}
use Rattle.bh_model.specs.Bodies.{IsIn, NoneTwice}
use Rattle.tree_rule.specs.declared.words.TheConstants.{MOST_CELLS, CELLS_OF_ONE}
use Rattle.bh_model.specs.Trees.{Tree, cell_count, order}
use Rattle.bh_model.proofs.CellCounts.{cells_by_levels}
use Rattle.bh_model.proofs.Lists.{in_append, none_twice-append}
use Rattle.tree_rule.specs.Words.{HasBody, HasCell, IsReached, at_of, body_word, cell_word, lock_place}
use Rattle.tree_rule.specs.Flat.{StandsFor}
use Rattle.tree_rule.specs.Sound.{BodiesUnder, IsSound}
use Rattle.octree.specs.Stored.{AreOctreeWords, IsBlankFrom, IsCanonical, IsStored, Stored, word_count, tree_of}
use Rattle.tree_rule.proofs.Laws.{few_below, gives_own_order, order_has_none_twice, order_members, stands_of_sound}
use Rattle.octree.proofs.Laws.{rising_once}
use Rattle.tree_passes.specs.Counting.{numbers_from}
use Rattle.tree_passes.specs.Opening.{fresh_view, start_bodies}
use Rattle.tree_passes.specs.Ends.{CanOpen, CanPool}
use Rattle.tree_passes.proofs.Laws.{once_times, times_in}
use Rattle.shared_tree.specs.Ends.{AreHandedOut, AreStartWords, AreZeros, Serves}
use Rattle.shared_tree.specs.Seen.{IsAtRest, IsInside}

numbers_next : (from n : ℕ) → numbers_from from n ++ (from + n) ∷ [] ≡ numbers_from from (suc n)
numbers_next from zero = let e : from + 0 ≡ from = omega arith in ap (λ (z : ℕ). z ∷ []) e
numbers_next from (suc n) =
    let e : from + suc n ≡ from + 1 + n = omega arith in
    ap (λ (z : List ℕ). from ∷ z) (ap (λ (z : ℕ). numbers_from (from + 1) n ++ z ∷ []) e ∙ numbers_next (from + 1) n)

-- one number more
pub numbers_more : (from n : ℕ) → numbers_from from n ++ (from + n) ∷ [] ≡ numbers_from from (n + 1)
numbers_more from n = let e : suc n ≡ n + 1 = omega arith in numbers_next from n ∙ ap (numbers_from from) e

pub length-numbers : (from n : ℕ) → length (numbers_from from n) ≡ n
length-numbers from zero = omega arith
length-numbers from (suc n) = let r = length-numbers (from + 1) n in omega arith

pub in_numbers : (from n x : ℕ) → IsIn (numbers_from from n) x → (from ≤ x) × (x < from + n)
in_numbers from zero x p = absurd p
in_numbers from (suc n) x p = elim p [
  | inl e ↦ (omega arith, omega arith)
  | inr q ↦ let r = in_numbers (from + 1) n x q in (let a = r.0 in omega arith, let b = r.1 in omega arith)
]

pub numbers_once : (from n : ℕ) → NoneTwice (numbers_from from n)
numbers_once from zero = tt
numbers_once from (suc n) = ((λ p. let r = in_numbers (from + 1) n from p in let a = r.0 in absurd (omega arith)), numbers_once (from + 1) n)

-- ---- lists of zeros

pub zeros_many : (n : ℕ) → AreZeros (replicate n 0)
zeros_many zero i = get_or_past [] i 0 (omega arith)
zeros_many (suc n) zero = refl
zeros_many (suc n) (suc i) = zeros_many n i

zeros_take : (n : ℕ) (l : List ℕ) → AreZeros l → AreZeros (take n l)
zeros_take zero l h i = get_or_past [] i 0 (omega arith)
zeros_take (suc n) [] h i = get_or_past [] i 0 (omega arith)
zeros_take (suc n) (x ∷ xs) h zero = h 0
zeros_take (suc n) (x ∷ xs) h (suc i) = zeros_take n xs (λ k. h (suc k)) i

zeros_append : (a b : List ℕ) → AreZeros a → AreZeros b → AreZeros (a ++ b)
zeros_append [] b h more i = more i
zeros_append (x ∷ xs) b h more zero = h 0
zeros_append (x ∷ xs) b h more (suc i) = zeros_append xs b (λ k. h (suc k)) more i

-- zeros that are cut, and filled up with zeros
pub zeros_resized : (l us : List ℕ) (n m : ℕ) → AreZeros l → us ≡ take n l ++ replicate m 0 → AreZeros us
zeros_resized l us n m h e = subst AreZeros (sym e) (zeros_append (take n l) (replicate m 0) (zeros_take n l h) (zeros_many m))

-- The first so many words were made zeros, of those in front.
pub record AreCleared (words : List ℕ) (count done : ℕ) : Type 0 where
  pub long : count ≤ length words
  pub low : (k : ℕ) → k < done → at_of words k ≡ 0
  pub rest : (k : ℕ) → count ≤ k → at_of words k ≡ 0

pub cleared_more : (words : List ℕ) (count i : ℕ) → AreCleared words count i → i < count → AreCleared (set words i 0) count (i + 1)
cleared_more words count i h small =
    let long = h.long in
    record {
      long = let t = length-set words i 0 in omega arith;
      low = λ k l. elim (cases_lt k i) [
        | inl less ↦ get_or-set_other words i k 0 0 (omega arith) ∙ h.low k less
        | inr same ↦ let e : k ≡ i = omega arith in ap (at_of (set words i 0)) e ∙ get_or-set_same words i 0 0 (omega arith)
      ];
      rest = λ k l. get_or-set_other words i k 0 0 (omega arith) ∙ h.rest k l;
    }

pub all_cleared : (words : List ℕ) (count i : ℕ) → AreCleared words count i → count ≤ i → AreZeros words
all_cleared words count i h all k = elim (cases_lt k count) [ inl l ↦ h.low k (omega arith) | inr past ↦ h.rest k past ]

-- The first so many words of a list were written over zeros.
pub record AreWritten (front before words : List ℕ) (done : ℕ) : Type 0 where
  pub long : length words ≡ length before
  pub low : (k : ℕ) → k < done → at_of words k ≡ at_of front k
  pub rest : (k : ℕ) → done ≤ k → at_of words k ≡ 0

pub written_more : (front before words : List ℕ) (i w : ℕ) → AreWritten front before words i → i < length before → w ≡ at_of front i
    → AreWritten front before (set words i w) (i + 1)
written_more front before words i w h inside is =
    let long = h.long in
    record {
      long = length-set words i w ∙ h.long;
      low = λ k l. elim (cases_lt k i) [
        | inl less ↦ get_or-set_other words i k w 0 (omega arith) ∙ h.low k less
        | inr same ↦
            let e : k ≡ i = omega arith in ap (at_of (set words i w)) e ∙ get_or-set_same words i w 0 (omega arith) ∙ is ∙ sym (ap (at_of front) e)
      ];
      rest = λ k l. get_or-set_other words i k w 0 (omega arith) ∙ h.rest k (omega arith);
    }

pub all_written : (front before words : List ℕ) (i : ℕ) → AreWritten front before words i → length front ≤ i → (k : ℕ) → at_of words k ≡ at_of front k
all_written front before words i h all k = elim (cases_lt k i) [ inl l ↦ h.low k l | inr past ↦ h.rest k past ∙ sym (get_or_past front k 0 (omega arith)) ]

-- words that are followed by zeros say the same
pub longer_same : (words : List ℕ) (n i : ℕ) → at_of (words ++ replicate n 0) i ≡ at_of words i
longer_same words n i = elim (cases_lt i (length words)) [
  | inl l ↦ get_or_append_left words (replicate n 0) 0 i l
  | inr past ↦ get_or-append_right words (replicate n 0) (length words) i 0 refl past ∙ zeros_many n (i - length words) ∙ sym (get_or_past words i 0 past)
]

-- and are an octree's as well
longer_octree : (words us : List ℕ) (cells : ℕ) → AreOctreeWords words → length words ≤ length us → length us ≡ word_count cells → cells ≤ MOST_CELLS
    → ((i : ℕ) → at_of us i ≡ at_of words i) → AreOctreeWords us
longer_octree words us cells h more long few same =
    let at : at_of words ≡ at_of us = λ k i. sym (same i) k in
    record {
      cells = cells;
      few = few;
      long = long;
      unlocked = record {
        second = same 1 ∙ h.unlocked.second;
        third = same 2 ∙ h.unlocked.third;
        locks = λ c l. same (lock_place c) ∙ elim (cases_lt c h.cells) [
          | inl small ↦ h.unlocked.locks c small
          | inr past ↦ get_or_past words (lock_place c) 0 (let t = h.long in omega arith)
        ];
      };
      sound = subst (λ (z : ℕ → ℕ). IsSound z (z 0) 1) at h.sound;
      cells_held = λ c r.
          let t = h.cells_held c (subst (λ (z : ℕ → ℕ). IsReached z (z 0) (cell_word c)) (sym at) r) in
          let u = h.long in
          omega arith;
      bodies_small = λ x r. h.bodies_small x (subst (λ (z : ℕ → ℕ). IsReached z (z 0) (body_word x)) (sym at) r);
    }

-- the words of a start, over zeros
pub start_words_are : (o : Stored) (words us : List ℕ) (cells : ℕ) → IsStored o → AreOctreeWords words → ((i : ℕ) → at_of words i ≡ at_of o.words i)
    → IsBlankFrom words o.used → length words ≡ word_count o.held → o.held ≤ cells → cells ≤ MOST_CELLS → length us ≡ word_count cells
    → ((i : ℕ) → at_of us i ≡ at_of words i) → AreStartWords o us cells
start_words_are o words us cells rule h same blank long more few count at = record {
  rule = rule;
  octree = longer_octree words us cells h (omega arith) count few at;
  long = count;
  same = λ i. at i ∙ same i;
  blank = λ i p. at i ∙ blank i p;
}

-- what is read in a start's words is read in the start
start_body : (o : Stored) (words : List ℕ) (cells x : ℕ) → AreStartWords o words cells → HasBody words x → HasBody o.words x
start_body o words cells x h r = subst (λ (z : ℕ → ℕ). IsReached z (z 0) (body_word x)) (λ k i. h.same i k) r

start_cell : (o : Stored) (words : List ℕ) (cells c : ℕ) → AreStartWords o words cells → HasCell words c → HasCell o.words c
start_cell o words cells c h r = subst (λ (z : ℕ → ℕ). IsReached z (z 0) (cell_word c)) (λ k i. h.same i k) r

-- ---- the cells that are dealt out

-- a start and bodies that are to be put in have at most 21 cells for each of the bodies that there may be
pub room_of_regions : (sites : List Site) (o : Stored) (todo : List ℕ) → ArePoints sites → IsStored o → o.base ≡ 1 → IsCanonical sites o → NoneTwice todo
    → ((x : ℕ) → IsIn todo x → x < length sites) → ((x : ℕ) → IsIn todo x → HasBody o.words x → ⊥)
    → cell_count (tree_of o) + CELLS_OF_ONE * length todo ≤ MOST_CELLS
room_of_regions sites o todo points rule base canon once within fresh =
    let site : ℕ → Site = site_at sites in
    let at : ℕ → ℕ = at_of o.words in
    let bodies : List ℕ = order (tree_of o) in
    let stands : StandsFor site at (at 0) 1 (HasCell o.words) (HasBody o.words) =
    stands_of_sound site at (at 0) 1 (omega arith) (subst (IsSound at (at 0)) base rule.sound) (subst (BodiesUnder site at (at 0)) base canon.under) in
    let members = order_members site at (at 0) 1 (HasCell o.words) (HasBody o.words) stands in
    let all : length (bodies ++ todo) ≤ length sites =
    few_below (length sites) (bodies ++ todo)
    (none_twice-append bodies todo (order_has_none_twice site at (at 0) 1 (HasCell o.words) (HasBody o.words) stands) once
    (λ x i j. fresh x j ((members x).1 i)))
    (λ x i. elim (in_append bodies todo x i) [ inl p ↦ canon.bodies_in x ((members x).1 p) | inr p ↦ within x p ]) in
    let cells : cell_count (tree_of o) ≤ 21 * length bodies =
    subst (λ (t : Tree). cell_count t ≤ 21 * length bodies) (sym (gives_own_order site at (HasCell o.words) (HasBody o.words) stands))
    (cells_by_levels site 21 0 bodies) in
    omega (arith, all, length-append bodies todo, points.few, cells)

-- what the cells of a region are good for, with as many as there are to be
pub serves_region : (o : Stored) (count : ℕ) (region : List ℕ) (cells first quota : ℕ) → IsStored o → cell_count (tree_of o) + count ≤ MOST_CELLS
    → AreHandedOut o count region cells → first ≡ cells → quota ≡ 0 → Serves o region cells first quota
serves_region o count region cells first quota rule room h first_is none =
    let free : List ℕ = h.free in
    let new : List ℕ = numbers_from o.held (count - length free) in
    let all = h.free_are.count in
    let sum = h.cells_are in
    let low : (c : ℕ) → IsIn free c → c < o.held = λ c i. ((h.free_are.each c).0 i).0 in
    let high : (c : ℕ) → IsIn new c → (o.held ≤ c) × (c < o.held + (count - length free)) = λ c i. in_numbers o.held (count - length free) c i in
    let split : (c : ℕ) → IsIn region c → IsIn free c ⊎ IsIn new c = λ c i. in_append free new c (subst (λ (z : List ℕ). IsIn z c) h.region_is i) in
    record {
      more = omega arith;
      few = let held = rule.few in omega arith;
      once = subst NoneTwice (sym h.region_is)
          (none_twice-append free new (rising_once free h.free_are.rising) (numbers_once o.held (count - length free))
          (λ c i j. let a = low c i in let b = (high c j).0 in omega arith));
      bare = λ c i r. elim (split c i) [
        | inl j ↦ ((h.free_are.each c).0 j).1 r
        | inr j ↦ let a = rule.cells_used c r in let u = rule.used_held in let b = (high c j).0 in omega arith
      ];
      given = λ c i. elim (split c i) [ inl j ↦ (let a = low c j in omega arith) | inr j ↦ (let b = (high c j).1 in omega arith) ];
      sum = omega arith;
      start_given = omega arith;
    }

-- and there are so many
pub region_enough : (o : Stored) (count : ℕ) (region : List ℕ) (cells : ℕ) → AreHandedOut o count region cells → count ≤ length region
region_enough o count region cells h =
    let l = ap length h.region_is in
    let m = length-append h.free (numbers_from o.held (count - length h.free)) in
    let n = length-numbers o.held (count - length h.free) in
    omega arith

-- a start can be opened with the region
pub can_open : (sites : List Site) (o : Stored) (words todo region : List ℕ) (cells first quota : ℕ) → ArePoints sites → o.base ≡ 1
    → IsCanonical sites o → AreStartWords o words cells → NoneTwice todo → ((x : ℕ) → IsIn todo x → x < length sites)
    → ((x : ℕ) → IsIn todo x → HasBody o.words x → ⊥) → Serves o region cells first quota → CanOpen sites words todo region
can_open sites o words todo region cells first quota points base canon h once within fresh s = record {
  points = points;
  octree = h.octree;
  under = subst (λ (z : ℕ → ℕ). BodiesUnder (site_at sites) z (z 0) 1) (λ k i. sym (h.same i) k)
      (subst (λ (z : ℕ). BodiesUnder (site_at sites) (at_of o.words) (at_of o.words 0) z) base canon.under);
  start_in = λ x r. canon.bodies_in x (start_body o words cells x h r);
  todo_once = once;
  todo_in = within;
  todo_fresh = λ x p r. fresh x p (start_body o words cells x h r);
  held_once = s.once;
  held_fresh = λ c p r. s.bare c p (start_cell o words cells c h r);
  held_inside = λ c p. let g = s.given c p in let l = h.long in let t = s.sum in omega arith;
}

-- each body of what it is opened with has a point
pub opened_inside : (sites : List Site) (words todo held : List ℕ) → CanOpen sites words todo held
    → IsInside (record { sites = sites; words = words; todo = todo })
opened_inside sites words todo held h x i =
    let site : ℕ → Site = site_at sites in
    let at : ℕ → ℕ = at_of words in
    let stands : StandsFor site at (at 0) 1 (HasCell words) (HasBody words) = stands_of_sound site at (at 0) 1 (omega arith) h.octree.sound h.under in
    elim (in_append (start_bodies (record { sites = sites; words = words; todo = todo })) todo x i) [
      | inl p ↦ h.start_in x ((order_members site at (at 0) 1 (HasCell words) (HasBody words) stands x).1 p)
      | inr p ↦ h.todo_in x p
    ]

-- and with the pool word
pub can_pool : (o : Stored) (words region : List ℕ) (cells first quota : ℕ) → AreStartWords o words cells
    → Serves o region cells first quota → CanPool words region first quota
can_pool o words region cells first quota h s = record {
  sum = let l = h.long in let t = s.sum in omega arith;
  start_given = λ c r.
      let t = h.rule.cells_used c (start_cell o words cells c h r) in
      let u = h.rule.used_held in
      let v = s.start_given in
      omega arith;
  held_given = s.given;
}

-- the first pass is at rest, and has counted nothing
pub rest_begun : (sites : List Site) (words todo held : List ℕ) (quota : ℕ) → CanOpen sites words todo held
    → CELLS_OF_ONE * length todo ≤ length held + quota
    → IsAtRest (fresh_view (record { sites = sites; words = words; todo = todo }) held quota todo) (length words) held (length held + quota)
rest_begun sites words todo held quota h stock = record {
  some = let l = h.octree.long in omega arith;
  few = let l = h.octree.long in let f = h.octree.few in omega arith;
  rule = h.points;
  no_lock = refl;
  none_under = refl;
  todo_in = λ x p. h.todo_in x (times_in x todo p);
  ready = record { long = refl; held = λ c. omega arith; once = λ c. once_times held h.held_once c; inside = λ c p. h.held_inside c (times_in c held p) };
  stocked = stock;
  drawable = omega arith;
}
