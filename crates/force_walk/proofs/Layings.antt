-- The nodes of a subtree are laid, child by child, and the place of each body's is told.
use Rattle.std.proofs.Common.{ℕ, suc, ◌+◌, ◌-◌, ◌<◌, ◌≤◌, ◌≡◌, List, All, [], ◌∷◌, ◌++◌, length, get_or, set, sym, ap, ◌∙◌, subst, arith}
use Rattle.std.proofs.Common.{add-one, append-nil, append_assoc, inl, inr, length-append, slice_index, get_or-set_other, get_or-set_same}
use Rattle.std.proofs.lemmas.Bool.{cases_eq}
use Rattle.std.proofs.lemmas.List.{get_or_append_left, get_or_at, get_or_push, set_at}
use Rattle.std.proofs.lemmas.List.Elements.{All-append, All-cons, All-nil}
use Rattle.octant_code.specs.Space.{Site}
use Rattle.bh_model.specs.Moments.{Matter, centre, centre_of, mass_of}
use Rattle.bh_model.specs.Standing.{Stands}
use Rattle.bh_model.specs.Trees.{Body, Cell, Empty, Tree}
use Rattle.bh_model.specs.declared.moment.Moment.{Moment}
use Rattle.bh_model.proofs.Lists.{in_append, joined}
use Rattle.mass_moments.specs.Kept.{HaveMatter, moment_at}
use Rattle.octree.specs.Spot.{Spot, cell_at, child_under, tree_under}
use Rattle.octree.specs.Subtree.{IsBodyAt, IsCellAt, IsChildOf, IsNothingAt}
use Rattle.force_walk.specs.Flat.{AreAdded, AreFound, body_node, cell_node, closed, flat, kept_node, no_node, owners}
use Rattle.force_walk.specs.declared.node.Laid.{Laid}
use Rattle.force_walk.specs.declared.node.WalkNode.{WalkNode}
use Rattle.force_walk.proofs.Flats.{child_flat, flat_cell, flat_none, flat_one, joined_nodes}
use Rattle.force_walk.proofs.Places.{child_owners, owners_cell, owners_none, owners_one, read_within}

-- a cell has its mass and its centre in the kept moments
pub kept_mass : {s cell : Spot} (m : Matter) (moments : List Moment) (c : ℕ) → IsCellAt s cell → HaveMatter s.octree m moments → c ≡ cell_at cell
    → (moment_at moments c).mass ≡ mass_of m (tree_under s)
kept_mass {s} {cell} m moments c at kept e =
    ap (λ d. (moment_at moments d).mass) e ∙ kept.mass_is (cell_at cell) at.reached ∙ ap (mass_of m) (sym at.kept)

pub kept_centre : {s cell : Spot} (m : Matter) (moments : List Moment) (c : ℕ) → IsCellAt s cell → HaveMatter s.octree m moments → c ≡ cell_at cell
    → centre_of (moment_at moments c) ≡ centre m (tree_under s)
kept_centre {s} {cell} m moments c at kept e =
    ap (λ d. centre_of (moment_at moments d)) e ∙ kept.centre_is (cell_at cell) at.reached ∙ ap (centre m) (sym at.kept)

-- and so its node is that of its tree
kept_is : {s cell : Spot} (m : Matter) (moments : List Moment) (c least : ℕ) → IsCellAt s cell → HaveMatter s.octree m moments → c ≡ cell_at cell
    → kept_node moments c least 1 ≡ cell_node m least 1 (tree_under s)
kept_is {s} m moments c least at kept e =
    let made : Site → ℕ → WalkNode = λ p mass. record { at = p; skip = 1; least = least; mass = mass } in
    ap (λ p. made p (moment_at moments c).mass) (kept_centre m moments c at kept e) ∙ ap (made (centre m (tree_under s))) (kept_mass m moments c at kept e)

-- ---- nodes

-- what was appended, and more
added_more : {xs ys : List WalkNode} {os ps : List ℕ} {old now next : Laid} → AreAdded xs os old now → AreAdded ys ps now next
    → AreAdded (xs ++ ys) (os ++ ps) old next
added_more {xs} {ys} {os} {ps} {old} first second = record {
  nodes_are = second.nodes_are ∙ ap (λ l. l ++ ys) first.nodes_are ∙ append_assoc old.nodes.items xs ys;
  owners_are = second.owners_are ∙ ap (λ l. l ++ ps) first.owners_are ∙ append_assoc old.owners.items os ps;
}

-- the nodes of a tree are appended, and whose they are
abbrev pub IsAdded : Matter → List ℕ → ℕ → Tree → Laid → Laid → Type 0
IsAdded m least down tree old new = AreAdded (flat m least down tree) (owners tree) old new

-- those of no body
pub added_none : {s : Spot} (m : Matter) (least : List ℕ) (down : ℕ) (now : Laid) → IsNothingAt s → IsAdded m least down (tree_under s) now now
added_none m least down now at =
    subst (λ (t : Tree). IsAdded m least down t now now) (sym at.tree)
    (record {
      nodes_are = sym (append-nil now.nodes.items) ∙ ap (λ l. now.nodes.items ++ l) (sym (flat_none m least down));
      owners_are = sym (append-nil now.owners.items) ∙ ap (λ l. now.owners.items ++ l) (sym owners_none);
    })

-- and that of one
pub added_one : {s : Spot} {n owner : ℕ} {one : WalkNode} {now next : Laid} (m : Matter) (least : List ℕ) (down : ℕ) → IsBodyAt s n → one ≡ body_node m n
    → owner ≡ suc n → AreAdded (one ∷ []) (owner ∷ []) now next → IsAdded m least down (tree_under s) now next
added_one {n = n} {now = now} {next = next} m least down at node own added =
    subst (λ (t : Tree). IsAdded m least down t now next) (sym at.tree)
    (record {
      nodes_are = added.nodes_are ∙ ap (λ x. now.nodes.items ++ x ∷ []) node ∙ ap (λ l. now.nodes.items ++ l) (sym (flat_one m least down n));
      owners_are = added.owners_are ∙ ap (λ x. now.owners.items ++ x ∷ []) own ∙ ap (λ l. now.owners.items ++ l) (sym (owners_one n));
    })

-- a cell's own node and those of its first children are appended
abbrev pub AreAddedUpTo : Matter → List ℕ → ℕ → Spot → ℕ → Laid → Laid → Type 0
AreAddedUpTo m least down cell k old now =
    AreAdded (cell_node m (slice_index least down) 1 (tree_under cell) ∷ joined_nodes (child_flat m least down (child_under cell)) k)
    (0 ∷ joined (child_owners (child_under cell)) k) old now

-- the own node, before the children's
pub added_own : {cell : Spot} {own : WalkNode} {old now : Laid} (m : Matter) (moments : List Moment) (least : List ℕ) (down c : ℕ) → IsCellAt cell cell
    → HaveMatter cell.octree m moments → c ≡ cell_at cell → own ≡ kept_node moments c (slice_index least down) 1 → AreAdded (own ∷ []) (0 ∷ []) old now
    → AreAddedUpTo m least down cell 0 old now
added_own {old = old} {now = now} m moments least down c at kept number own added =
    subst (λ (n : WalkNode). AreAdded (n ∷ []) (0 ∷ []) old now) (own ∙ kept_is m moments c (slice_index least down) at kept number) added

-- one child's more
pub added_child : {cell child : Spot} {k : ℕ} {old now next : Laid} (m : Matter) (least : List ℕ) (down : ℕ) → IsChildOf cell k child
    → AreAddedUpTo m least down cell k old now → IsAdded m least (down - 1) (tree_under child) now next → AreAddedUpTo m least down cell (k + 1) old next
added_child {cell} {child} {k} {old} {now} {next} m least down is upto added =
    subst (λ (j : ℕ). AreAddedUpTo m least down cell j old next) (sym (add-one k))
    (added_more upto (subst (λ (t : Tree). IsAdded m least (down - 1) t now next) is.tree added))

-- the table of a cell
flat_of_cell : {cell : Spot} (m : Matter) (least : List ℕ) (down : ℕ) → IsCellAt cell cell
    → flat m least down (tree_under cell)
    ≡ closed m (slice_index least down) (tree_under cell) (joined_nodes (child_flat m least down (child_under cell)) 8)
flat_of_cell {cell} m least down at =
    ap (flat m least down) at.tree ∙ flat_cell m least down (child_under cell)
    ∙ ap (λ t. closed m (slice_index least down) t (joined_nodes (child_flat m least down (child_under cell)) 8)) (sym at.tree)

-- the nodes before a cell's own, and then all from it on
set_skip : (old below now : List WalkNode) (own : WalkNode) (at : ℕ) → at ≡ length old → now ≡ old ++ own ∷ below
    → set now at (record (get_or now at no_node) { skip = length now - at }) ≡ old ++ (record own { skip = 1 + length below }) ∷ below
set_skip old below now own at first split =
    let size : length now - at ≡ 1 + length below = omega (arith, ap length split, length-append old (own ∷ below)) in
    let read : get_or now at no_node ≡ own = ap (λ l. get_or l at no_node) split ∙ get_or_at old own below no_node at (sym first) in
    ap (λ n. set now at (record n { skip = length now - at })) read ∙ ap (λ s. set now at (record own { skip = s })) size
    ∙ ap (λ l. set l at (record own { skip = 1 + length below })) split ∙ set_at old own below (record own { skip = 1 + length below }) at (sym first)

-- all children's
module _ {cell : Spot} {old now : Laid} (m : Matter) (least : List ℕ) (down k : ℕ) (at : IsCellAt cell cell)
    (upto : AreAddedUpTo m least down cell k old now) (all : k ≡ 8) where
  whole : AreAddedUpTo m least down cell 8 old now
  whole = subst (λ (j : ℕ). AreAddedUpTo m least down cell j old now) all upto

  pub added_size : length now.nodes.items ≡ length old.nodes.items + length (flat m least down (tree_under cell))
  added_size =
      omega (
        arith,
        ap length whole.nodes_are,
        ap length (flat_of_cell m least down at),
        length-append old.nodes.items (cell_node m (slice_index least down) 1 (tree_under cell) ∷ joined_nodes (child_flat m least down (child_under cell)) 8),
      )

  -- and the cell is closed
  pub added_cell : (own : ℕ) (next : Laid) → own ≡ length old.nodes.items
      → next.nodes.items ≡ set now.nodes.items own (record (get_or now.nodes.items own no_node) { skip = length now.nodes.items - own })
      → next.owners.items ≡ now.owners.items → IsAdded m least down (tree_under cell) old next
  added_cell own next first closed_is same = record {
    nodes_are =
        closed_is
        ∙ set_skip old.nodes.items (joined_nodes (child_flat m least down (child_under cell)) 8) now.nodes.items
        (cell_node m (slice_index least down) 1 (tree_under cell)) own first whole.nodes_are
        ∙ ap (λ l. old.nodes.items ++ l) (sym (flat_of_cell m least down at));
    owners_are =
        same ∙ whole.owners_are ∙ ap (λ l. old.owners.items ++ l) (sym (ap owners at.tree ∙ owners_cell (child_under cell)));
  }

-- ---- places

-- each owner is a cell or one of the bodies
pub owners_known : (most down : ℕ) (tree : Tree) → Stands most down tree → All (λ o. o ≤ most) (owners tree)
unfolding owners Stands
owners_known most down Empty stands = All-nil (λ o. o ≤ most)
owners_known most down (Body n) stands = All-cons (λ o. o ≤ most) (suc n) [] (omega arith) (All-nil (λ o. o ≤ most))
owners_known most down (Cell a b c d e f g h) stands =
    let p0 = owners_known most (down - 1) a stands.2 in
    let p1 = owners_known most (down - 1) b stands.3 in
    let p2 = owners_known most (down - 1) c stands.4 in
    let p3 = owners_known most (down - 1) d stands.5 in
    let p4 = owners_known most (down - 1) e stands.6 in
    let p5 = owners_known most (down - 1) f stands.7 in
    let p6 = owners_known most (down - 1) g stands.8 in
    let p7 = owners_known most (down - 1) h stands.9 in
    let P : ℕ → Type 0 = λ o. o ≤ most in
    All-cons P _ _ (omega arith)
    (All-append P _ _
    (All-append P _ _ (All-append P _ _ (All-append P _ _ (All-append P _ _ (All-append P _ _ (All-append P _ _ p0 p1) p2) p3) p4) p5) p6) p7)

-- what was told of a list is told of it and more
still_found : (before more : List ℕ) (i n : ℕ) → slice_index before i ≡ suc n → slice_index (before ++ more) i ≡ suc n
still_found before more i n e = get_or_append_left before more 0 i (read_within before i n e) ∙ e

pub found_cell : (before places : List ℕ) → AreFound before places → AreFound (before ++ 0 ∷ []) places
found_cell before places found =
    λ n i.
    elim (in_append before (0 ∷ []) (suc n) i) [
      | inl there ↦ still_found before (0 ∷ []) (slice_index places n) n (found n there)
      | inr here ↦ elim here [ inl e ↦ absurd (omega (arith, e)) | inr none ↦ absurd none ]
    ]

pub found_body : (before places : List ℕ) (n at : ℕ) → n < length places → at ≡ length before → AreFound before places
    → AreFound (before ++ suc n ∷ []) (set places n at)
found_body before places n at within last found =
    let own : slice_index (before ++ suc n ∷ []) (slice_index (set places n at) n) ≡ suc n =
    ap (slice_index (before ++ suc n ∷ [])) (get_or-set_same places n at 0 within) ∙ get_or_push before (suc n) 0 at (sym last) in
    λ j i.
    elim (cases_eq j n) [
      | inl same ↦
          subst (λ (b : ℕ). slice_index (before ++ suc n ∷ []) (slice_index (set places n at) b) ≡ suc b) (sym same) own
      | inr other ↦
          elim (in_append before (suc n ∷ []) (suc j) i) [
            | inl there ↦
                ap (slice_index (before ++ suc n ∷ [])) (get_or-set_other places n j at 0 other)
                ∙ still_found before (suc n ∷ []) (slice_index places j) j (found j there)
            | inr here ↦ elim here [ inl e ↦ absurd (other (omega (arith, e))) | inr none ↦ absurd none ]
          ]
    ]
