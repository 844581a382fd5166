-- What the flat table of a tree is, and that a walk over it is the pull of the tree.
use Rattle.std.proofs.Common.{ℕ, ◌+◌, ◌-◌, ◌*◌, ◌^◌, ◌<◌, ◌≤◌, ◌≡◌, ◌&&◌, ◌||◌, zero, suc, Bool, true, false, not, eqb, List, [], ◌∷◌, ◌++◌, length, drop}
use Rattle.std.proofs.Common.{All, slice_index, refl, sym, ap, ◌∙◌, subst, arith, inl, inr, append_assoc, length-append}
use Rattle.std.proofs.lemmas.Bool.{cases_Bool, le-ltb, lt-ltb}
use Rattle.std.proofs.lemmas.Bool.Decides.{eqb_tells}
use Rattle.std.specs.Int.{abs_diff}
use Rattle.std.proofs.lemmas.List.{drop_at}
use Rattle.std.proofs.lemmas.List.Elements.{All-append, All-cons, All-nil}
use Rattle.octant_code.specs.Space.{IsInCube, Site, key_of, squared_distance}
use Rattle.octant_code.proofs.Distances.{squared_distance-parts}
use Rattle.bh_model.specs.Trees.{Tree, Empty, Body, Cell, cell_of}
use Rattle.bh_model.specs.Moments.{Matter, centre, mass_of, total}
use Rattle.bh_model.specs.Pulls.{PullLaw, add_pull, is_far, is_whole, pull_from, term}
use Rattle.bh_model.specs.declared.pull.Pull.{Pull}
use Rattle.bh_model.proofs.Folds.{nth}
use Rattle.bh_model.proofs.PullBounds.{StandsApart, pull-empty, pull-opened, pull-other, pull-own, pull-whole}
use Rattle.bh_model.proofs.PullSums.{pull_upto}
use Rattle.bh_model.proofs.Totals.{each_of_eight, sum_upto-none}
use Rattle.bh_model.specs.Standing.{Stands}
use Rattle.force_walk.specs.Flat.{IsLaid, body_node, cell_node, closed, flat, holds, is_opened, owners, walked}
use Rattle.force_walk.specs.Least.{AreLeast}
use Rattle.force_walk.specs.declared.node.WalkNode.{WalkNode}
use Rattle.force_walk.proofs.Centres.{centre_near}
use Rattle.force_walk.proofs.Places.{Lies, Sees, child_lies, child_nodes, child_sees, child_start, own_body, owners_count, sees_holds, start_more}
use Rattle.force_walk.proofs.Walks.{add_assoc, add_none, walked_opened, walked_taken}

-- ---- the table of each kind of tree

-- the first k of some lists of nodes, one after another
abbrev pub joined_nodes : (ℕ → List WalkNode) → ℕ → List WalkNode
joined_nodes g zero = []
joined_nodes g (suc k) = joined_nodes g k ++ g k

pub flat_none : (m : Matter) (least : List ℕ) (down : ℕ) → flat m least down Empty ≡ []
unfolding flat
flat_none m least down = refl

pub flat_one : (m : Matter) (least : List ℕ) (down n : ℕ) → flat m least down (Body n) ≡ body_node m n ∷ []
unfolding flat
flat_one m least down n = refl

-- the nodes below a child of a cell
abbrev pub child_flat : Matter → List ℕ → ℕ → (ℕ → Tree) → ℕ → List WalkNode
child_flat m least down child k = flat m least (down - 1) (child k)

pub flat_cell : (m : Matter) (least : List ℕ) (down : ℕ) (child : ℕ → Tree)
    → flat m least down (cell_of child) ≡ closed m (slice_index least down) (cell_of child) (joined_nodes (child_flat m least down child) 8)
unfolding flat
flat_cell m least down child = refl

-- each node has an owner
pub owners_long : (m : Matter) (least : List ℕ) (down : ℕ) (t : Tree) → length (flat m least down t) ≡ length (owners t)
unfolding flat owners
owners_long m least down Empty = refl
owners_long m least down (Body n) = refl
owners_long m least down (Cell a b c d e f g h) =
    simp (
      length-append {A = WalkNode},
      length-append {A = ℕ},
      owners_long m least (down - 1) a,
      owners_long m least (down - 1) b,
      owners_long m least (down - 1) c,
      owners_long m least (down - 1) d,
      owners_long m least (down - 1) e,
      owners_long m least (down - 1) f,
      owners_long m least (down - 1) g,
      owners_long m least (down - 1) h,
    ) refl

-- ---- what holds of each node of the table

-- a tree has at least as much mass as bodies
pub heavy_tree : (m : Matter) (most : ℕ) → ((n : ℕ) → n < most → 0 < m.mass n) → (down : ℕ) (tree : Tree) → Stands most down tree
    → total (λ n. 1) tree ≤ mass_of m tree
unfolding total Stands
heavy_tree m most heavy down Empty stands = omega arith
heavy_tree m most heavy down (Body n) stands = heavy n stands
heavy_tree m most heavy down (Cell a b c d e f g h) stands =
    omega (
      arith,
      heavy_tree m most heavy (down - 1) a stands.2,
      heavy_tree m most heavy (down - 1) b stands.3,
      heavy_tree m most heavy (down - 1) c stands.4,
      heavy_tree m most heavy (down - 1) d stands.5,
      heavy_tree m most heavy (down - 1) e stands.6,
      heavy_tree m most heavy (down - 1) f stands.7,
      heavy_tree m most heavy (down - 1) g stands.8,
      heavy_tree m most heavy (down - 1) h stands.9,
    )

-- the children of a cell stand
pub child_stands : (most down : ℕ) (child : ℕ → Tree) → Stands most down (cell_of child) → (k : ℕ) → k < 8 → Stands most (down - 1) (child k)
unfolding Stands
child_stands most down child stands =
    each_of_eight (λ k. Stands most (down - 1) (child k)) stands.2 stands.3 stands.4 stands.5 stands.6 stands.7 stands.8 stands.9

-- each node of the table of a tree of less than 2 ^ 40 in mass can be walked
pub flat_laid : (law : PullLaw) (m : Matter) (least : List ℕ) → AreLeast law least → (down : ℕ) (tree : Tree) → mass_of m tree < 2 ^ 40 → down ≤ 21
    → All IsLaid (flat m least down tree)
unfolding flat total
flat_laid law m least is down Empty light shallow = All-nil IsLaid
flat_laid law m least is down (Body n) light shallow =
    All-cons IsLaid (body_node m n) [] (record { light = light; near = omega arith; long = omega arith }) (All-nil IsLaid)
flat_laid law m least is down (Cell a b c d e f g h) light shallow =
    let p0 = flat_laid law m least is (down - 1) a (omega arith) (omega arith) in
    let p1 = flat_laid law m least is (down - 1) b (omega arith) (omega arith) in
    let p2 = flat_laid law m least is (down - 1) c (omega arith) (omega arith) in
    let p3 = flat_laid law m least is (down - 1) d (omega arith) (omega arith) in
    let p4 = flat_laid law m least is (down - 1) e (omega arith) (omega arith) in
    let p5 = flat_laid law m least is (down - 1) f (omega arith) (omega arith) in
    let p6 = flat_laid law m least is (down - 1) g (omega arith) (omega arith) in
    let p7 = flat_laid law m least is (down - 1) h (omega arith) (omega arith) in
    All-cons IsLaid _ _ (record { light = light; near = (is down shallow).positive; long = omega arith })
    (All-append IsLaid _ _
    (All-append IsLaid _ _
    (All-append IsLaid _ _ (All-append IsLaid _ _ (All-append IsLaid _ _ (All-append IsLaid _ _ (All-append IsLaid _ _ p0 p1) p2) p3) p4) p5) p6) p7)

-- the table has at most a node for each body and side
pub flat_short : (m : Matter) (least : List ℕ) (most down : ℕ) (tree : Tree) → Stands most down tree
    → length (flat m least down tree) ≤ (down + 1) * total (λ n. 1) tree
unfolding flat total Stands
flat_short m least most down Empty stands = omega arith
flat_short m least most down (Body n) stands = omega arith
flat_short m least most down (Cell a b c d e f g h) stands =
    let deep : 1 ≤ down = stands.0 in
    let up : down - 1 + 1 ≡ down = omega arith in
    let less : (tree : Tree) → length (flat m least (down - 1) tree) ≤ (down - 1 + 1) * total (λ n. 1) tree
    → length (flat m least (down - 1) tree) ≤ down * total (λ n. 1) tree =
    λ tree h. subst (λ (s : ℕ). length (flat m least (down - 1) tree) ≤ s * total (λ n. 1) tree) up h in
    let l0 = less a (flat_short m least most (down - 1) a stands.2) in
    let l1 = less b (flat_short m least most (down - 1) b stands.3) in
    let l2 = less c (flat_short m least most (down - 1) c stands.4) in
    let l3 = less d (flat_short m least most (down - 1) d stands.5) in
    let l4 = less e (flat_short m least most (down - 1) e stands.6) in
    let l5 = less f (flat_short m least most (down - 1) f stands.7) in
    let l6 = less g (flat_short m least most (down - 1) g stands.8) in
    let l7 = less h (flat_short m least most (down - 1) h stands.9) in
    simp (length-append {A = WalkNode}) (omega (arith, stands.1))

-- ---- a walk over the table

-- a point is not away from itself
no_gap : (a : ℕ) → abs_diff a a ≡ 0
no_gap a = omega arith

own_distance : (s : Site) → squared_distance s s ≡ 0
own_distance s = squared_distance-parts s s ∙ rw (no_gap s.x, no_gap s.y, no_gap s.z) refl

-- what is near is opened, and else what holds the body's own node
opened_near : (d2 place at : ℕ) (node : WalkNode) → d2 < node.least → is_opened d2 place at node ≡ true
opened_near d2 place at node near = rw (lt-ltb d2 node.least near) refl

opened_far : (d2 place at : ℕ) (node : WalkNode) → node.least ≤ d2 → is_opened d2 place at node ≡ holds at node.skip place
opened_far d2 place at node far = rw (le-ltb d2 node.least far) refl

not_or : (far same : Bool) → (not far || same) ≡ not (not same && far)
not_or true true = refl
not_or true false = refl
not_or false true = refl
not_or false false = refl

not_and : (near inside far same : Bool) → near ≡ not far → inside ≡ same → (near || inside) ≡ not (not same && far)
not_and near inside far same p q = ap (λ x. x || inside) p ∙ ap (λ x. not far || x) q ∙ not_or far same

-- lists of nodes walked one after another add what each adds
walked_joined : (law : PullLaw) (from : Site) (place : ℕ) (start : ℕ → ℕ) (g : ℕ → List WalkNode) (p : ℕ → Pull) (k : ℕ)
    → ((j : ℕ) → j < k → (rest : List WalkNode)
    → walked law from place (start j) (g j ++ rest) 0 ≡ add_pull (p j) (walked law from place (start (suc j)) rest 0))
    → (rest : List WalkNode)
    → walked law from place (start 0) (joined_nodes g k ++ rest) 0 ≡ add_pull (pull_upto p k) (walked law from place (start k) rest 0)
walked_joined law from place start g p zero each rest = sym (add_none (walked law from place (start 0) rest 0))
walked_joined law from place start g p (suc k) each rest =
    ap (λ l. walked law from place (start 0) l 0) (append_assoc (joined_nodes g k) (g k) rest)
    ∙ walked_joined law from place start g p k (λ j l. each j (omega arith)) (g k ++ rest) ∙ ap (add_pull (pull_upto p k)) (each k (omega arith) rest)
    ∙ sym (add_assoc (pull_upto p k) (p k) (walked law from place (start (suc k)) rest 0))

-- the pulls of the children of a cell
abbrev pub child_pull : PullLaw → Matter → ℕ → ℕ → ℕ → (ℕ → Tree) → ℕ → Pull
child_pull law m n down key child k = pull_from law m n (down - 1) (8 * key + k) (child k)

module _ (law : PullLaw) (m : Matter) (least : List ℕ) (most n place : ℕ) (is : AreLeast law least) (apart : StandsApart m most n)
    (heavy : (k : ℕ) → k < most → 0 < m.mass k) (inside : (k : ℕ) → k < most → IsInCube (m.site k)) (within : n < most) where
  -- a cell is opened exactly where it is not taken whole
  opened_whole : (down key at : ℕ) (t : Tree) → down ≤ 21 → Stands most down t → 2 ≤ total (λ k. 1) t → Sees m.site t n place at (21 - down) key
      → is_opened (squared_distance (m.site n) (centre m t)) place at (cell_node m (slice_index least down) (length (owners t)) t)
      ≡ not (is_whole law down key (m.site n) (centre m t))
  unfolding is_whole
  opened_whole down key at t shallow stands many sees =
      not_and _ _ (is_far law down (m.site n) (centre m t)) (eqb (key_of (m.site n) (21 - down)) key)
      ((is down shallow).tells (squared_distance (m.site n) (centre m t))
      (centre_near m most inside down t (m.site n) stands (omega (arith, heavy_tree m most heavy down t stands, many)) (inside n within)))
      (sees_holds m.site t n place at (21 - down) key sees)

  -- a walk over the table of a tree and more behind it adds the pull of the tree
  pub walked_flat : (down key at : ℕ) (tree : Tree) (rest : List WalkNode) → down ≤ 21 → Stands most down tree → Lies m.site (21 - down) key tree
      → Sees m.site tree n place at (21 - down) key
      → walked law (m.site n) place at (flat m least down tree ++ rest) 0
      ≡ add_pull (pull_from law m n down key tree) (walked law (m.site n) place (at + length (owners tree)) rest 0)
  unfolding flat owners Stands
  walked_flat down key at Empty rest shallow stands lies sees =
      let here : at + 0 ≡ at = omega arith in
      sym (ap (λ k. add_pull (pull_from law m n down key Empty) (walked law (m.site n) place k rest 0)) here
      ∙ ap (λ p. add_pull p (walked law (m.site n) place at rest 0)) (pull-empty law m n down key) ∙ add_none (walked law (m.site n) place at rest 0))
  walked_flat down key at (Body j) rest shallow stands lies sees =
      let node : WalkNode = body_node m j in
      let from : Site = m.site n in
      let d2 : ℕ = squared_distance from (m.site j) in
      elim (eqb_tells j n) [
        | inl own ↦
            let here : d2 ≡ 0 = ap (λ i. squared_distance from (m.site i)) own.1 ∙ own_distance from in
            walked_opened law from place at node rest (opened_near d2 place at node (omega arith))
            ∙ sym (ap (λ p. add_pull p (walked law from place (at + 1) rest 0)) (pull-own law m n down key j own.1)
            ∙ add_none (walked law from place (at + 1) rest 0))
        | inr other ↦
            let away = apart.apart j stands other.1 in
            walked_taken law from place at node rest
            (opened_far d2 place at node (omega arith)
            ∙ sees.outside (λ (same : key_of (m.site n) (21 - down) ≡ key). other.1 (own_body j n place at (sees.inside same)))) (omega arith)
            ∙ sym (ap (λ p. add_pull p (walked law from place (at + 1) rest 0)) (pull-other law m n down key j other.1))
      ]
  walked_flat down key at (Cell a b c d e f g h) rest shallow stands lies sees =
      let from : Site = m.site n in
      let kid : ℕ → Tree = nth a b c d e f g h in
      let cell : Tree = cell_of kid in
      let below : List WalkNode = joined_nodes (child_flat m least down kid) 8 in
      let one_more : 1 + length below ≡ suc (length below) = omega arith in
      let long : 1 + length below ≡ length (owners cell) = one_more ∙ owners_long m least down cell in
      let node : WalkNode = cell_node m (slice_index least down) (1 + length below) cell in
      let test : is_opened (squared_distance from (centre m cell)) place at node ≡ not (is_whole law down key from (centre m cell)) =
      ap (λ k. is_opened (squared_distance from (centre m cell)) place at (cell_node m (slice_index least down) k cell)) long
      ∙ opened_whole down key at cell shallow stands stands.1 sees in
      elim (cases_Bool (is_whole law down key from (centre m cell))) [
        | inl taken ↦
            let past : 1 + length below - 1 ≡ length below = omega arith in
            walked_taken law from place at node (below ++ rest) (test ∙ ap not taken) (omega arith)
            ∙ ap (add_pull (term law (mass_of m cell) from (centre m cell)))
            (ap (λ k. walked law from place (at + k) (drop (1 + length below - 1) (below ++ rest)) 0) long
            ∙ ap (λ k. walked law from place (at + length (owners cell)) (drop k (below ++ rest)) 0) past
            ∙ ap (λ l. walked law from place (at + length (owners cell)) l 0) (drop_at below rest (length below) refl))
            ∙ sym (ap (λ p. add_pull p (walked law from place (at + length (owners cell)) rest 0)) (pull-whole law m n down key a b c d e f g h taken))
        | inr opened ↦
            let level : suc (21 - down) ≡ 21 - (down - 1) = omega (arith, stands.0) in
            let kid_lies : (k : ℕ) → k < 8 → Lies m.site (21 - (down - 1)) (8 * key + k) (kid k) =
            λ k small. subst (λ (l : ℕ). Lies m.site l (8 * key + k) (kid k)) level (child_lies m.site (21 - down) key kid lies k small) in
            let kid_sees : (k : ℕ) → k < 8 → Sees m.site (kid k) n place (child_start kid at k) (21 - (down - 1)) (8 * key + k) =
            λ k small.
            subst (λ (l : ℕ). Sees m.site (kid k) n place (child_start kid at k) l (8 * key + k)) level
            (child_sees m.site kid n place at (21 - down) key lies sees k small) in
            let P : ℕ → Type 0 = λ k. (rest : List WalkNode)
            → walked law from place (child_start kid at k) (child_flat m least down kid k ++ rest) 0
            ≡ add_pull (child_pull law m n down key kid k) (walked law from place (child_start kid at k + child_nodes kid k) rest 0) in
            let one : ℕ → ℕ = λ k. child_start kid at k in
            let lower : down - 1 ≤ 21 = omega arith in
            let first : at + 1 ≡ one 0 = omega (arith, sum_upto-none (child_nodes kid)) in
            let last : one 8 ≡ at + length (owners cell) = omega (arith, owners_count kid) in
            let each : (k : ℕ) → k < 8 → P k =
            each_of_eight P (λ r. walked_flat (down - 1) (8 * key + 0) (one 0) a r lower stands.2 (kid_lies 0 (omega arith)) (kid_sees 0 (omega arith)))
            (λ r. walked_flat (down - 1) (8 * key + 1) (one 1) b r lower stands.3 (kid_lies 1 (omega arith)) (kid_sees 1 (omega arith)))
            (λ r. walked_flat (down - 1) (8 * key + 2) (one 2) c r lower stands.4 (kid_lies 2 (omega arith)) (kid_sees 2 (omega arith)))
            (λ r. walked_flat (down - 1) (8 * key + 3) (one 3) d r lower stands.5 (kid_lies 3 (omega arith)) (kid_sees 3 (omega arith)))
            (λ r. walked_flat (down - 1) (8 * key + 4) (one 4) e r lower stands.6 (kid_lies 4 (omega arith)) (kid_sees 4 (omega arith)))
            (λ r. walked_flat (down - 1) (8 * key + 5) (one 5) f r lower stands.7 (kid_lies 5 (omega arith)) (kid_sees 5 (omega arith)))
            (λ r. walked_flat (down - 1) (8 * key + 6) (one 6) g r lower stands.8 (kid_lies 6 (omega arith)) (kid_sees 6 (omega arith)))
            (λ r. walked_flat (down - 1) (8 * key + 7) (one 7) h r lower stands.9 (kid_lies 7 (omega arith)) (kid_sees 7 (omega arith))) in
            let next : (k : ℕ) → k < 8 → (rest : List WalkNode)
            → walked law from place (one k) (child_flat m least down kid k ++ rest) 0
            ≡ add_pull (child_pull law m n down key kid k) (walked law from place (one (suc k)) rest 0) =
            λ k small r.
            each k small r ∙ ap (λ i. add_pull (child_pull law m n down key kid k) (walked law from place i r 0)) (sym (start_more kid at k)) in
            walked_opened law from place at node (below ++ rest) (test ∙ ap not opened)
            ∙ ap (λ i. walked law from place i (below ++ rest) 0) first
            ∙ walked_joined law from place one (child_flat m least down kid) (child_pull law m n down key kid) 8 next rest
            ∙ ap (λ i. add_pull (pull_upto (child_pull law m n down key kid) 8) (walked law from place i rest 0)) last
            ∙ sym (ap (λ p. add_pull p (walked law from place (at + length (owners cell)) rest 0)) (pull-opened law m n down key a b c d e f g h opened))
      ]
