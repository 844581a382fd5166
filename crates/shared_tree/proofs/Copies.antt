-- Words that are copied from a closed table.
use Rattle.std.proofs.Common.{◌≡◌, ℕ, zero, suc, ◌+◌, ◌<◌, ◌≤◌, ◌↔◌, List, [], ◌∷◌, ◌++◌, length, take, drop, set, refl, sym, ap, subst, ◌∙◌, inl}
use Rattle.std.proofs.Common.{inr, arith, length-set, get_or-set_same, get_or-set_other}
use Rattle.std.proofs.lemmas.Bool.{cases_lt}
use mathlib.Core.Option.{some, some-injective, some-ne-none}
use lib.ListN.{get_elem?}
use Rattle.octant_code.specs.Points.{site_at}
use Rattle.tree_rule.specs.Words.{HasBody, HasCell, at_of, child_place, key_place, lock_place}
use Rattle.tree_rule.specs.Flat.{StandsFor}
use Rattle.tree_rule.proofs.Laws.{bodies_of_stands, body_reached, cell_reached, key_positive_of, stands_moved, stands_same}
use Rattle.octree.specs.Stored.{AreOctreeWords, full_tree, word_count}
use Rattle.tree_passes.specs.declared.view.TheConstants.{ROW_WORDS}
use Rattle.tree_rule.specs.declared.words.TheConstants.{POOL_PLACE}
use Rattle.tree_passes.specs.Opening.{Opening}
use Rattle.tree_passes.specs.declared.view.Writing.{Writing}
use Rattle.tree_passes.specs.declared.view.Writing.TheVariants.{ByExchange, UnderLocks}
use Rattle.tree_passes.specs.Ends.{AreGivenOut, IsClosed, NoneLocked}
use Rattle.tree_passes.proofs.Laws.{octree_of_closed}
use Rattle.shared_tree.specs.Ends.{AreCopied, IsRowCopied, IsTreeAtEnd}

-- the word at a place, as a closed table tells it
pub told_at : (l : List ℕ) (i w : ℕ) → get_elem? l i ≡ some w → at_of l i ≡ w
told_at [] i w e = absurd (some-ne-none w (sym e))
told_at (x ∷ xs) zero w e = some-injective x w e
told_at (x ∷ xs) (suc i) w e = told_at xs i w e

-- what was written back is the whole list
pub written_back : (new old : List ℕ) (n : ℕ) → n ≡ length new → take n (new ++ drop (length new) old) ≡ new
written_back new old n e = ap (λ (m : ℕ). take m (new ++ drop (length new) old)) e ∙ take_front new (drop (length new) old)
  where
    take_front : (a b : List ℕ) → take (length a) (a ++ b) ≡ a
    take_front [] b = refl
    take_front (x ∷ xs) b = ap (λ (z : List ℕ). x ∷ z) (take_front xs b)

-- The first so many words of a cell were copied.
pub record IsRowBegun (from before after : List ℕ) (c count : ℕ) : Type 0 where
  pub long : length after ≡ length before
  pub row : (j : ℕ) → j < count → at_of after (child_place c j) ≡ at_of from (child_place c j)
  pub front : (i : ℕ) → i < child_place c 0 → at_of after i ≡ at_of before i
  pub rest : (i : ℕ) → lock_place c < i → at_of after i ≡ at_of before i

pub row_more : (from before after : List ℕ) (c j place w : ℕ) → IsRowBegun from before after c j → j < ROW_WORDS → place ≡ child_place c j
    → lock_place c < length before → get_elem? from place ≡ some w → IsRowBegun from before (set after place w) c (j + 1)
row_more from before after c j place w h small is inside told = record {
  long = length-set after place w ∙ h.long;
  row = λ k l. elim (cases_lt k j) [
    | inl less ↦ get_or-set_other after place (child_place c k) w 0 (omega arith) ∙ h.row k less
    | inr same ↦
        let e : child_place c k ≡ place = omega arith in
        ap (at_of (set after place w)) e ∙ get_or-set_same after place w 0 (let t = h.long in omega arith) ∙ sym (told_at from place w told)
        ∙ sym (ap (at_of from) e)
  ];
  front = λ i l. get_or-set_other after place i w 0 (omega arith) ∙ h.front i l;
  rest = λ i l. get_or-set_other after place i w 0 (omega arith) ∙ h.rest i l;
}

-- the whole row, and the lock
pub row_copied : (from before after : List ℕ) (c count place : ℕ) → IsRowBegun from before after c count → ROW_WORDS ≤ count → place ≡ lock_place c
    → lock_place c < length before → IsRowCopied from before (set after place 0) c
row_copied from before after c count place h all is inside = record {
  long = length-set after place 0 ∙ h.long;
  row = λ j l. get_or-set_other after place (child_place c j) 0 0 (omega arith) ∙ h.row j (omega arith);
  lock = ap (at_of (set after place 0)) (sym is) ∙ get_or-set_same after place 0 0 (let t = h.long in omega arith);
  front = λ i l. get_or-set_other after place i 0 0 (omega arith) ∙ h.front i l;
  rest = λ i l. get_or-set_other after place i 0 0 (omega arith) ∙ h.rest i l;
}

-- the words in front of the first cell
pub none_copied : (from before : List ℕ) (w : ℕ) → 3 ≤ length before → get_elem? from 0 ≡ some w
    → AreCopied from before (set (set (set before 0 w) 1 0) 2 0) 0
none_copied from before w long told =
    let first : List ℕ = set before 0 w in
    let second : List ℕ = set (set before 0 w) 1 0 in
    let a : length (set before 0 w) ≡ length before = length-set before 0 w in
    let b : length (set (set before 0 w) 1 0) ≡ length (set before 0 w) = length-set (set before 0 w) 1 0 in
    record {
      long = length-set (set (set before 0 w) 1 0) 2 0 ∙ b ∙ a;
      root = get_or-set_other (set (set before 0 w) 1 0) 2 0 0 0 (omega arith) ∙ get_or-set_other (set before 0 w) 1 0 0 0 (omega arith)
          ∙ get_or-set_same before 0 w 0 (omega arith) ∙ sym (told_at from 0 w told);
      second = get_or-set_other (set (set before 0 w) 1 0) 2 1 0 0 (omega arith) ∙ get_or-set_same (set before 0 w) 1 0 0 (omega arith);
      third = get_or-set_same (set (set before 0 w) 1 0) 2 0 0 (omega arith);
      rows = λ c j l. absurd (omega arith);
      locks = λ c l. absurd (omega arith);
      rest = λ i l. get_or-set_other (set (set before 0 w) 1 0) 2 i 0 0 (omega arith) ∙ get_or-set_other (set before 0 w) 1 i 0 0 (omega arith)
          ∙ get_or-set_other before 0 i w 0 (omega arith);
    }

-- one cell more
pub copied_more : (from before after next : List ℕ) (cells : ℕ) → AreCopied from before after cells → IsRowCopied from after next cells
    → AreCopied from before next (cells + 1)
copied_more from before after next cells h r = record {
  long = r.long ∙ h.long;
  root = r.front 0 (omega arith) ∙ h.root;
  second = r.front 1 (omega arith) ∙ h.second;
  third = r.front 2 (omega arith) ∙ h.third;
  rows = λ c j l s. elim (cases_lt c cells) [
    | inl less ↦ r.front (child_place c j) (omega arith) ∙ h.rows c j less s
    | inr same ↦
        let e : c ≡ cells = omega arith in
        subst (λ (z : ℕ). at_of next (child_place z j) ≡ at_of from (child_place z j)) (sym e) (r.row j s)
  ];
  locks = λ c l. elim (cases_lt c cells) [
    | inl less ↦ r.front (lock_place c) (omega arith) ∙ h.locks c less
    | inr same ↦ let e : c ≡ cells = omega arith in subst (λ (z : ℕ). at_of next (lock_place z) ≡ 0) (sym e) r.lock
  ];
  rest = λ i l. r.rest i (omega arith) ∙ h.rest i (omega arith);
}

-- The cells that are reached are below the used ones: those that a pool gave out, or, where no pool word is set, all up to the last that has a key.
pub used_reach : (o : Opening) (done seen ws : List ℕ) (w : Writing) (cells used : ℕ) → IsClosed o done seen ws → (w ≡ ByExchange → NoneLocked ws)
    → (w ≡ UnderLocks → AreGivenOut ws) → length ws ≡ word_count cells → at_of ws POOL_PLACE ≤ used
    → (at_of ws POOL_PLACE ≡ 0 → (c : ℕ) → used ≤ c → c < cells → at_of ws (key_place c) ≡ 0) → (c : ℕ) → HasCell ws c → c < used
used_reach o done seen ws UnderLocks cells used h free given long pool none c r = let t = (given refl).reached c r in omega arith
used_reach o done seen ws ByExchange cells used h free given long pool none c r = elim (cases_lt c used) [
  | inl l ↦ l
  | inr past ↦
      let e = none (free refl cells long).third c past (let a = h.cells_held c r in let b = h.long in omega arith) in
      let p = key_positive_of (site_at o.sites) (at_of ws) (at_of ws 0) 1 (HasCell ws) (HasBody ws) h.stand c r 0 e in
      omega arith
]

-- and the table has those that a pool gave out
pub given_within : (ws : List ℕ) (w : Writing) (cells : ℕ) → (w ≡ ByExchange → NoneLocked ws) → (w ≡ UnderLocks → AreGivenOut ws)
    → length ws ≡ word_count cells → word_count (at_of ws POOL_PLACE) ≤ length ws
given_within ws UnderLocks cells free given long = (given refl).within
given_within ws ByExchange cells free given long = let t = (free refl cells long).third in omega arith

-- What the copied words are: an octree's, and closed as the table's were.
pub record AreBack (o : Opening) (done seen us : List ℕ) : Type 0 where
  pub closed : IsClosed o done seen us
  pub octree : AreOctreeWords us

pub are_back : (o : Opening) (done seen ws old us : List ℕ) (used : ℕ) → IsClosed o done seen ws → ((c : ℕ) → HasCell ws c → c < used)
    → AreCopied ws old us used → length old ≡ word_count used → word_count used ≤ length ws → AreBack o done seen us
are_back o done seen ws old us used h below p long within =
    let moved : StandsFor (site_at o.sites) (at_of us) (at_of us 0) 1 (HasCell ws) (HasBody ws) =
    subst (λ (z : ℕ). StandsFor (site_at o.sites) (at_of us) z 1 (HasCell ws) (HasBody ws)) (sym p.root)
    (stands_moved (site_at o.sites) (at_of ws) (at_of us) (at_of ws 0) 1 (HasCell ws) (HasBody ws)
    (λ c r.
    let e : key_place c ≡ child_place c 8 = omega arith in
    ap (at_of us) e ∙ p.rows c 8 (below c r) (omega arith) ∙ sym (ap (at_of ws) e))
    (λ c k r l. p.rows c k (below c r) (omega arith)) h.stand) in
    let cells : (c : ℕ) → HasCell ws c ↔ HasCell us c = cell_reached (site_at o.sites) (at_of us) (at_of us 0) 1 (HasCell ws) (HasBody ws) moved in
    let bodies : (x : ℕ) → HasBody ws x ↔ HasBody us x = body_reached (site_at o.sites) (at_of us) (at_of us 0) 1 (HasCell ws) (HasBody ws) moved in
    let back : IsClosed o done seen us = record {
      cells = used;
      few = let f = h.few in let l = h.long in omega arith;
      long = p.long ∙ long;
      stand = stands_same (site_at o.sites) (at_of us) (at_of us 0) 1 (HasCell ws) (HasCell us) (HasBody ws) (HasBody us) cells bodies moved;
      cells_held = λ c r. below c ((cells c).1 r);
      bodies_in = λ x r. h.bodies_in x ((bodies x).1 r);
      bodies_small = λ x r. h.bodies_small x ((bodies x).1 r);
      bodies = λ x. ((λ r. (h.bodies x).0 ((bodies x).1 r)), (λ r. (bodies x).0 ((h.bodies x).1 r)));
      seen_in = λ x r. (bodies x).0 (h.seen_in x r);
      cells_stay = λ c r. (cells c).0 (h.cells_stay c r);
      keys_stay = λ c r.
          let e : key_place c ≡ child_place c 8 = omega arith in
          ap (at_of us) e ∙ p.rows c 8 (below c (h.cells_stay c r)) (omega arith) ∙ sym (ap (at_of ws) e) ∙ h.keys_stay c r;
    } in
    record {
      closed = back;
      octree = octree_of_closed o done seen us back (record { second = p.second; third = p.third; locks = p.locks });
    }

-- the octree of such words
pub tree_at_end : (o : Opening) (done seen us : List ℕ) → AreBack o done seen us → IsTreeAtEnd o done seen (full_tree us)
tree_at_end o done seen us h = record {
  base = refl;
  canonical = record {
    under = bodies_of_stands (site_at o.sites) (at_of us) (at_of us 0) 1 (HasCell us) (HasBody us) h.closed.stand;
    bodies_in = h.closed.bodies_in;
  };
  bodies = h.closed.bodies;
  seen_in = h.closed.seen_in;
  cells_stay = h.closed.cells_stay;
  keys_stay = h.closed.keys_stay;
}
