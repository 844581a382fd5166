-- Sums of terms in the order of a walk.
use Rattle.std.proofs.Common.{ℕ, ◌+◌, ◌-◌, ◌*◌, ◌^◌, ◌<◌, ◌≤◌, ◌≡◌, zero, suc, true, false, List, [], ◌∷◌, length, get_or, drop, refl, sym, ap, ◌∙◌, subst}
use Rattle.std.proofs.Common.{arith}
use Rattle.std.proofs.lemmas.Int.{ints}
use Rattle.std.proofs.lemmas.List.{drop_all, drop-drop, drop_more}
use Rattle.octant_code.specs.Space.{Site, squared_distance}
use Rattle.bh_model.specs.Pulls.{IsPullLaw, IsSmall, PullLaw, add_pull, no_pull, term}
use Rattle.bh_model.specs.declared.pull.Pull.{Pull}
use Rattle.bh_model.proofs.PullBounds.{pull_fits, small_add, small_more, small_none}
use Rattle.bh_model.proofs.Terms.{same_pull, term-small}
use Rattle.force_walk.specs.Flat.{is_opened, walked}
use Rattle.force_walk.specs.Short.{IsSumOf, pull_of, sum_of}
use Rattle.force_walk.specs.declared.node.WalkNode.{WalkNode}
use Rattle.force_walk.specs.declared.short_pull.ShortPull.{ShortPull}

-- sums of pulls may be grouped
pub add_assoc : (p q r : Pull) → add_pull (add_pull p q) r ≡ add_pull p (add_pull q r)
add_assoc p q r = same_pull _ _ _ _ _ _ _ _ (omega (arith, ints)) (omega (arith, ints)) (omega (arith, ints)) (omega arith)

pub add_none : (p : Pull) → add_pull no_pull p ≡ p
add_none p = same_pull _ _ _ _ _ _ _ _ (omega (arith, ints)) (omega (arith, ints)) (omega (arith, ints)) (omega arith)

pub add_to_none : (p : Pull) → add_pull p no_pull ≡ p
add_to_none p = same_pull _ _ _ _ _ _ _ _ (omega (arith, ints)) (omega (arith, ints)) (omega (arith, ints)) (omega arith)

-- a sum of one more small pull
small_next : (b n : ℕ) (p q one : Pull) → q ≡ add_pull p one → IsSmall (n * b) n p → IsSmall b 1 one → IsSmall ((n + 1) * b) (n + 1) q
small_next b n p q one e before small =
    subst (λ (r : Pull). IsSmall ((n + 1) * b) (n + 1) r) (sym e)
    (small_more _ _ _ _ _ (let more : n * b + b ≤ (n + 1) * b = omega arith in more) (omega arith) (small_add _ _ _ _ p one before small))

-- a term is small, and counts once
pub term_fits : (law : PullLaw) (mass : ℕ) (from to : Site) → IsPullLaw law → mass < 2 ^ 40 → 0 < squared_distance from to
    → IsSmall (2 ^ 80) 1 (term law mass from to)
term_fits law mass from to rule light apart =
    small_more _ _ _ _ _ (omega (arith, pull_fits law.g mass rule.g_fits light)) (omega arith) (term-small law mass from to (omega arith))

-- one term more
pub record IsNextSum (n : ℕ) (short : ShortPull) (wide : Pull) (next : ShortPull) (more one : Pull) : Type 0 where
  pub sum : sum_of next more ≡ add_pull (sum_of short wide) one
  pub small : IsSumOf (n + 1) next more

pub short_added : (n : ℕ) (short next : ShortPull) (wide one : Pull) → IsSumOf n short wide → pull_of next ≡ add_pull (pull_of short) one
    → IsSmall (2 ^ 31) 1 one → IsNextSum n short wide next wide one
short_added n short next wide one is e small = record {
  sum = ap (add_pull wide) e ∙ sym (add_assoc wide (pull_of short) one);
  small = record {
    short_small = small_next (2 ^ 31) n _ _ _ e is.short_small small;
    wide_small = small_more _ _ _ _ _ (omega arith) (omega arith) is.wide_small;
    few = omega (arith, is.few, ap (λ (p : Pull). p.met) e, small.met);
  };
}

pub wide_added : (n : ℕ) (short : ShortPull) (wide more one : Pull) → IsSumOf n short wide → more ≡ add_pull wide one → IsSmall (2 ^ 80) 1 one
    → IsNextSum n short wide short more one
wide_added n short wide more one is e small = record {
  sum = ap (λ w. add_pull w (pull_of short)) e ∙ same_pull _ _ _ _ _ _ _ _ (omega (arith, ints)) (omega (arith, ints)) (omega (arith, ints)) (omega arith);
  small = record {
    short_small = small_more _ _ _ _ _ (omega arith) (omega arith) is.short_small;
    wide_small = small_next (2 ^ 80) n _ _ _ e is.wide_small small;
    few = omega (arith, is.few, ap (λ (p : Pull). p.met) e, small.met);
  };
}

-- ---- walks

-- a walk that goes past nodes is one over those behind them
pub walked_past : (law : PullLaw) (from : Site) (place at : ℕ) (nodes : List WalkNode) (past : ℕ)
    → walked law from place at nodes past ≡ walked law from place (at + past) (drop past nodes) 0
unfolding walked
walked_past law from place at nodes zero = ap (λ k. walked law from place k nodes 0) (let e : at ≡ at + 0 = omega arith in e)
walked_past law from place at [] (suc past) = refl
walked_past law from place at (node ∷ rest) (suc past) =
    walked_past law from place (at + 1) rest past
    ∙ ap (λ k. walked law from place k (drop past rest) 0) (let e : at + 1 + past ≡ at + suc past = omega arith in e)

pub walked_opened : (law : PullLaw) (from : Site) (place at : ℕ) (node : WalkNode) (rest : List WalkNode)
    → is_opened (squared_distance from node.at) place at node ≡ true
    → walked law from place at (node ∷ rest) 0 ≡ walked law from place (at + 1) rest 0
unfolding walked
walked_opened law from place at node rest e = rw e

-- and a walk that takes a node goes past all of its nodes
pub walked_taken : (law : PullLaw) (from : Site) (place at : ℕ) (node : WalkNode) (rest : List WalkNode)
    → is_opened (squared_distance from node.at) place at node ≡ false
    → 1 ≤ node.skip
    → walked law from place at (node ∷ rest) 0
    ≡ add_pull (term law node.mass from node.at) (walked law from place (at + node.skip) (drop (node.skip - 1) rest) 0)
unfolding walked
walked_taken law from place at node rest e long =
    let jump : at + 1 + (node.skip - 1) ≡ at + node.skip = omega arith in
    let step : walked law from place at (node ∷ rest) 0 ≡ add_pull (term law node.mass from node.at) (walked law from place (at + 1) rest (node.skip - 1)) =
    rw e in
    step
    ∙ ap (add_pull (term law node.mass from node.at))
    (walked_past law from place (at + 1) rest (node.skip - 1) ∙ ap (λ k. walked law from place k (drop (node.skip - 1) rest) 0) jump)

pub walked_end : (law : PullLaw) (from : Site) (place at : ℕ) → walked law from place at [] 0 ≡ no_pull
unfolding walked
walked_end law from place at = refl

-- the sum so far and the rest of the walk are the whole, and the sum so far has at most a term for each node
pub record IsOnTheWay (law : PullLaw) (from : Site) (place : ℕ) (nodes : List WalkNode) (at : ℕ) (short : ShortPull) (wide : Pull) : Type 0 where
  pub whole : add_pull (sum_of short wide) (walked law from place at (drop at nodes) 0) ≡ walked law from place 0 nodes 0
  pub terms : ℕ
  pub behind : terms ≤ at
  pub within : terms ≤ length nodes
  pub small : IsSumOf terms short wide

-- no node is gone past yet
pub way_starts : (law : PullLaw) (from : Site) (place : ℕ) (nodes : List WalkNode) (short : ShortPull) (wide : Pull) → pull_of short ≡ no_pull → wide ≡ no_pull
    → IsOnTheWay law from place nodes 0 short wide
way_starts law from place nodes short wide e f = record {
  whole =
      ap (λ p. add_pull (add_pull wide p) (walked law from place 0 nodes 0)) e ∙ ap (λ p. add_pull (add_pull p no_pull) (walked law from place 0 nodes 0)) f
      ∙ ap (λ p. add_pull p (walked law from place 0 nodes 0)) (add_none no_pull) ∙ add_none (walked law from place 0 nodes 0);
  terms = 0;
  behind = omega arith;
  within = omega arith;
  small = record {
    short_small = subst (λ (p : Pull). IsSmall 0 0 p) (sym e) (small_none 0 0);
    wide_small = subst (λ (p : Pull). IsSmall 0 0 p) (sym f) (small_none 0 0);
    few = omega (arith, ap (λ (p : Pull). p.met) e, ap (λ (p : Pull). p.met) f);
  };
}

-- a node is opened
pub way_opens : (law : PullLaw) (from : Site) (place : ℕ) (nodes : List WalkNode) (at : ℕ) (short : ShortPull) (wide : Pull) (node : WalkNode)
    → IsOnTheWay law from place nodes at short wide → at < length nodes → node ≡ get_or nodes at node
    → is_opened (squared_distance from node.at) place at node ≡ true
    → IsOnTheWay law from place nodes (at + 1) short wide
way_opens law from place nodes at short wide node way within e opened =
    let next : drop at nodes ≡ node ∷ drop (at + 1) nodes = drop_more nodes at node within ∙ ap (λ n. n ∷ drop (at + 1) nodes) (sym e) in
    record {
      whole =
          ap (add_pull (sum_of short wide))
          (sym (ap (λ l. walked law from place at l 0) next ∙ walked_opened law from place at node (drop (at + 1) nodes) opened))
          ∙ way.whole;
      terms = way.terms;
      behind = omega (arith, way.behind);
      within = way.within;
      small = way.small;
    }

-- a node is taken
pub way_takes : (law : PullLaw) (from : Site) (place : ℕ) (nodes : List WalkNode) (at : ℕ) (short next : ShortPull) (wide more : Pull) (node : WalkNode)
    → (way : IsOnTheWay law from place nodes at short wide) → at < length nodes → node ≡ get_or nodes at node → 1 ≤ node.skip
    → is_opened (squared_distance from node.at) place at node ≡ false
    → IsNextSum way.terms short wide next more (term law node.mass from node.at) → IsOnTheWay law from place nodes (at + node.skip) next more
way_takes law from place nodes at short next wide more node way within e long taken after =
    let one : Pull = term law node.mass from node.at in
    let rest : Pull = walked law from place (at + node.skip) (drop (at + node.skip) nodes) 0 in
    let front : drop at nodes ≡ node ∷ drop (at + 1) nodes = drop_more nodes at node within ∙ ap (λ n. n ∷ drop (at + 1) nodes) (sym e) in
    let jump : at + 1 + (node.skip - 1) ≡ at + node.skip = omega arith in
    let here : walked law from place at (drop at nodes) 0 ≡ add_pull one rest =
    ap (λ l. walked law from place at l 0) front ∙ walked_taken law from place at node (drop (at + 1) nodes) taken long
    ∙ ap (λ l. add_pull one (walked law from place (at + node.skip) l 0)) (drop-drop (node.skip - 1) (at + 1) nodes ∙ ap (λ k. drop k nodes) jump) in
    record {
      whole =
          ap (λ p. add_pull p rest) after.sum ∙ add_assoc (sum_of short wide) one rest ∙ ap (add_pull (sum_of short wide)) (sym here) ∙ way.whole;
      terms = way.terms + 1;
      behind = omega (arith, way.behind);
      within = omega (arith, way.behind);
      small = after.small;
    }

-- the sum at the end is the whole
pub way_ends : (law : PullLaw) (from : Site) (place : ℕ) (nodes : List WalkNode) (at : ℕ) (short : ShortPull) (wide : Pull)
    → IsOnTheWay law from place nodes at short wide
    → length nodes ≤ at → sum_of short wide ≡ walked law from place 0 nodes 0
way_ends law from place nodes at short wide way past =
    sym (add_to_none (sum_of short wide))
    ∙ ap (add_pull (sum_of short wide)) (sym (ap (λ l. walked law from place at l 0) (drop_all at nodes past) ∙ walked_end law from place at)) ∙ way.whole
