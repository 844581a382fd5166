-- How the moments of the cells of a subtree are filled in, child by child.
use Rattle.std.proofs.Common.{ℕ, ◌+◌, ◌<◌, ◌≡◌, ◌≢◌, refl, sym, ◌∙◌, ap, subst, inl, inr, arith, List, length, set, get_or-set_same, get_or-set_other}
use Rattle.std.proofs.lemmas.Bool.{cases_lt}
use Rattle.bh_model.proofs.Equal.{same_or_not}
use Rattle.bh_model.specs.Moments.{FitsWords, Matter, add_moment, moment, no_moment}
use Rattle.bh_model.specs.Bodies.{IsIn}
use Rattle.bh_model.specs.Trees.{Body, Tree, order}
use Rattle.bh_model.specs.declared.moment.Moment.{Moment}
use Rattle.octree.proofs.Laws.{child_bodies, top_body_inside}
use Rattle.octree.specs.Spot.{IsCellUnder, IsReachable, IsUnderChild, Spot, cell_at, child_under, tree_below, tree_under}
use Rattle.octree.specs.Stored.{Stored}
use Rattle.octree.specs.Subtree.{IsBodyAt, IsCellAt, IsChildOf, IsNothingAt}
use Rattle.bh_model.proofs.Moments.{child_fits, moment_upto, upto_all, upto_empty, upto_fits, upto_more, upto_none}
use Rattle.mass_moments.specs.Filling.{AreFilled}
use Rattle.mass_moments.specs.Kept.{moment_at}

-- a cell that was met is one by itself
pub cell_itself : {s cell : Spot} → IsCellAt s cell → IsCellAt cell cell
cell_itself {s} {cell} at = subst (λ (y : Spot). IsCellAt y cell) (sym at.same) at

-- a body that is a child of a cell is one of the cell's
pub child_body : {cell child : Spot} {k n : ℕ} → IsCellAt cell cell → IsChildOf cell k child → k < 8 → IsBodyAt child n → IsIn (order (tree_under cell)) n
child_body {cell} {child} {k} {n} at is small body = child_bodies cell cell child k n at is small (top_body_inside child n body)

-- and a cell that is one can be reached
pub child_reached : {cell child inner : Spot} {k : ℕ} → IsChildOf cell k child → IsCellAt child inner → IsReachable cell.octree (cell_at inner)
child_reached {inner = inner} is met = subst (λ (o : Stored). IsReachable o (cell_at inner)) is.octree met.reached

-- a subtree without cells is filled in as it is
bare_filled : {m : Matter} {cost : ℕ → ℕ} {s : Spot} {list : List Moment} → ((d : ℕ) → IsCellUnder s d → ⊥) → AreFilled m cost s list list
bare_filled bare = record { own = λ d r. absurd (bare d r); others = λ d h. refl }

-- the first k children of a cell are filled in
pub record AreFilledUpTo (m : Matter) (cost : ℕ → ℕ) (cell : Spot) (k : ℕ) (before now : List Moment) (whole : Moment) : Type 0 where
  pub whole_is : whole ≡ moment_upto m cost (child_under cell) k
  pub own : (j d : ℕ) → j < k → IsUnderChild cell j d → moment_at now d ≡ moment m cost (tree_below cell.octree d)
  pub others : (d : ℕ) → ((j : ℕ) → j < k → IsUnderChild cell j d → ⊥) → moment_at now d ≡ moment_at before d

-- before the first child
pub filled_start : (m : Matter) (cost : ℕ → ℕ) (cell : Spot) (list : List Moment) → AreFilledUpTo m cost cell 0 list list no_moment
filled_start m cost cell list = record { whole_is = upto_none m cost (child_under cell); own = λ j d l r. absurd (omega arith); others = λ d h. refl }

module _ {m : Matter} {cost : ℕ → ℕ} {cell child : Spot} {k : ℕ} {before now : List Moment} {whole : Moment} (at : IsCellAt cell cell)
    (is : IsChildOf cell k child) (small : k < 8) (upto : AreFilledUpTo m cost cell k before now whole) where
  -- one child more
  filled_more : {next : List Moment} {more : Moment} → AreFilled m cost child now next → more ≡ moment_upto m cost (child_under cell) (k + 1)
      → AreFilledUpTo m cost cell (k + 1) before next more
  filled_more filled more_is = record {
    whole_is = more_is;
    own = λ j d l r. elim (cases_lt j k) [
      | inl less ↦
          filled.others d (λ x. let same : j ≡ k = at.parts.apart j k d (omega arith) small r ((is.cells d).0 x) in omega arith) ∙ upto.own j d less r
      | inr ge ↦
          let same : j ≡ k = omega arith in
          filled.own d ((is.cells d).1 (subst (λ (y : ℕ). IsUnderChild cell y d) same r)) ∙ ap (λ o. moment m cost (tree_below o d)) is.octree
    ];
    others = λ d h. filled.others d (λ x. h k (omega arith) ((is.cells d).0 x)) ∙ upto.others d (λ j l r. h j (omega arith) r);
  }

  -- its moment is added
  added : {part more : Moment} (t : Tree) → part ≡ moment m cost t → t ≡ child_under cell k → more ≡ add_moment whole part
      → more ≡ moment_upto m cost (child_under cell) (k + 1)
  added {part} t part_is same more_is =
      more_is ∙ ap (λ y. add_moment y part) upto.whole_is ∙ ap (add_moment (moment_upto m cost (child_under cell) k)) (part_is ∙ ap (moment m cost) same)
      ∙ upto_more m cost (child_under cell) k

  -- an empty child, a body and a cell
  pub nothing_more : IsNothingAt child → AreFilledUpTo m cost cell (k + 1) before now whole
  nothing_more met = filled_more (bare_filled met.bare) (upto.whole_is ∙ upto_empty m cost (child_under cell) k (sym met.tree ∙ is.tree))

  pub body_more : {n : ℕ} {part more : Moment} → IsBodyAt child n → part ≡ moment m cost (Body n) → more ≡ add_moment whole part
      → AreFilledUpTo m cost cell (k + 1) before now more
  body_more met part_is more_is = filled_more (bare_filled met.bare) (added _ part_is (sym met.tree ∙ is.tree) more_is)

  pub cell_more : {inner : Spot} {next : List Moment} {part more : Moment} → IsCellAt child inner → AreFilled m cost inner now next
      → part ≡ moment m cost (tree_under inner) → more ≡ add_moment whole part → AreFilledUpTo m cost cell (k + 1) before next more
  cell_more {next = next} met filled part_is more_is =
      filled_more (subst (λ (y : Spot). AreFilled m cost y now next) met.same filled)
      (added _ part_is (ap (λ (y : Spot). tree_under y) met.same ∙ is.tree) more_is)

  -- the sums with it fit the words
  pub more_fits : FitsWords (moment m cost (tree_under cell)) → FitsWords (add_moment whole (moment m cost (tree_under child)))
  more_fits all = rw (is.tree, upto.whole_is) (upto_fits m cost (child_under cell) k small (subst FitsWords (ap (moment m cost) at.tree) all))

-- the moment of a cell whose children are filled in
pub whole_cell : {m : Matter} {cost : ℕ → ℕ} {cell : Spot} {k : ℕ} {before now : List Moment} {whole : Moment}
    → IsCellAt cell cell → k ≡ 8 → AreFilledUpTo m cost cell k before now whole → whole ≡ moment m cost (tree_under cell)
whole_cell {m} {cost} {cell} at all upto =
    upto.whole_is ∙ ap (moment_upto m cost (child_under cell)) all ∙ upto_all m cost (child_under cell) ∙ ap (moment m cost) (sym at.tree)

-- a cell with all its children
pub filled_cell : {m : Matter} {cost : ℕ → ℕ} {cell : Spot} {k c : ℕ} {before now : List Moment} {whole : Moment}
    → IsCellAt cell cell → k ≡ 8 → c ≡ cell_at cell → c < length now → AreFilledUpTo m cost cell k before now whole
    → AreFilled m cost cell before (set now c whole)
filled_cell {m} {cost} {cell} {k} {c} {before} {now} {whole} at all number within upto =
    let own_is : whole ≡ moment m cost (tree_below cell.octree c) =
    whole_cell at all upto ∙ ap (moment m cost) (at.kept ∙ ap (tree_below cell.octree) (sym number)) in
    record {
      own = λ d r. elim (same_or_not d c) [
        | inl same ↦
            subst (λ (y : ℕ). moment_at (set now c whole) y ≡ moment m cost (tree_below cell.octree y)) (sym same)
            (get_or-set_same now c whole no_moment within ∙ own_is)
        | inr differ ↦ elim (at.parts.nothing_else d r) [
          | inl e ↦ absurd (differ (e ∙ sym number))
          | inr f ↦ get_or-set_other now c d whole no_moment differ ∙ upto.own f.octant d (omega (arith, f.small)) f.under
        ]
      ];
      others = λ d h.
          let differ : d ≢ c = λ e. h (subst (IsCellUnder cell) (sym (e ∙ number)) at.parts.itself) in
          get_or-set_other now c d whole no_moment differ ∙ upto.others d (λ j l r. h (at.parts.below j d (omega arith) r));
    }

-- and the child's own do
pub part_fits : {cell child : Spot} {k : ℕ} (m : Matter) (cost : ℕ → ℕ) → IsCellAt cell cell → IsChildOf cell k child → k < 8
    → FitsWords (moment m cost (tree_under cell)) → FitsWords (moment m cost (tree_under child))
part_fits {cell} {k = k} m cost at is l all = rw is.tree (child_fits m cost (child_under cell) k l (subst FitsWords (ap (moment m cost) at.tree) all))
