-- What a descent takes of a tree, and how it is gathered from the children of a cell.
use Rattle.std.proofs.Common.{◌≡◌, ◌≤◌, ◌<◌, ◌+◌, ℕ, List, [], ◌∷◌, ◌++◌, length, ap, ◌∙◌, sym, arith, add-one, append-nil, append_assoc, true, false, All, inl}
use Rattle.std.proofs.lemmas.List.Elements.{All-get_or}
use Rattle.bh_model.proofs.Lists.{joined}
use Rattle.bh_model.proofs.Totals.{sum_upto, sum_upto-le, sum_upto-more, total-order}
use Rattle.bh_model.proofs.Trees.{order-body, order-empty}
use Rattle.bh_model.specs.Bodies.{IsIn}
use Rattle.bh_model.specs.Moments.{total}
use Rattle.bh_model.specs.Trees.{Tree, Body, Empty, cell_of, order}
use Rattle.bh_model.specs.Zones.{IsCost, cost_at}
use Rattle.costzones.specs.Ranges.{between, meets, opened_from}
use Rattle.costzones.proofs.Openings.{child_ends, child_opened, child_start, opened-body, opened-cell, opened-empty, opened-none}
use Rattle.costzones.proofs.Ranges.{between-cell, between-in, between-nil, between-none, between-out, child_between}

-- each body of a tree costs something
pub costs_positive : (tree : Tree) (costs : List ℕ) → ((n : ℕ) → IsIn (order tree) n → n < length costs) → All IsCost costs → (n : ℕ) → IsIn (order tree) n
    → 1 ≤ cost_at costs n
costs_positive tree costs within each n i = (All-get_or IsCost costs n 0 (within n i) each).positive

-- a tree's bodies that begin in the range stand at the end of a list, and its cells that are opened are counted
pub record IsTaken (cost : ℕ → ℕ) (low high p : ℕ) (tree : Tree) (start : List ℕ) (first : ℕ) (items : List ℕ) (steps : ℕ) : Type 0 where
  pub items_are : items ≡ start ++ between cost low high p (order tree)
  pub steps_are : steps ≡ first + opened_from cost low high p tree

module _ {cost : ℕ → ℕ} {low high p : ℕ} {tree : Tree} {start : List ℕ} {first : ℕ} where
  -- where no body begins in the range and no cell is opened, nothing is to be done
  taken_nothing : between cost low high p (order tree) ≡ [] → opened_from cost low high p tree ≡ 0 → IsTaken cost low high p tree start first start first
  taken_nothing none shut = record { items_are = sym (append-nil start) ∙ ap (λ zs. start ++ zs) (sym none); steps_are = omega (arith, shut) }

  -- of no body
  pub taken_none : tree ≡ Empty → IsTaken cost low high p tree start first start first
  taken_none e =
      taken_nothing (ap (λ t. between cost low high p (order t)) e ∙ ap (between cost low high p) order-empty ∙ between-nil cost low high p)
      (ap (opened_from cost low high p) e ∙ opened-empty cost low high p)

  -- of a body that begins before the range
  pub taken_before : {n : ℕ} → tree ≡ Body n → p < low → IsTaken cost low high p tree start first start first
  taken_before {n} e before =
      taken_nothing
      (ap (λ t. between cost low high p (order t)) e ∙ ap (between cost low high p) (order-body n) ∙ between-out cost low high p n [] (inl before)
      ∙ between-nil cost low high (p + cost n))
      (ap (opened_from cost low high p) e ∙ opened-body cost low high p n)

  -- of one in the range
  pub taken_one : {n : ℕ} {next : List ℕ} → tree ≡ Body n → low ≤ p → p < high → next ≡ start ++ n ∷ [] → IsTaken cost low high p tree start first next first
  taken_one {n} e from to put = record {
    items_are = put ∙ ap (λ zs. start ++ zs)
        (sym (ap (λ t. between cost low high p (order t)) e ∙ ap (between cost low high p) (order-body n) ∙ between-in cost low high p n [] from to
        ∙ ap (λ zs. n ∷ zs) (between-nil cost low high (p + cost n))));
    steps_are = omega (arith, ap (opened_from cost low high p) e ∙ opened-body cost low high p n);
  }

  -- and of a tree whose span doesn't meet the range
  pub taken_apart : (to : ℕ) → ((n : ℕ) → IsIn (order tree) n → 1 ≤ cost n) → to ≡ p + total cost tree → meets low high p to ≡ false
      → IsTaken cost low high p tree start first start first
  taken_apart to one to_is apart =
      let apart' : meets low high p (p + total cost tree) ≡ false = ap (meets low high p) (sym to_is) ∙ apart in
      taken_nothing (between-none cost low high p (order tree) one (ap (λ s. meets low high p (p + s)) (sym (total-order cost tree)) ∙ apart'))
      (opened-none cost low high p tree apart')

-- the bodies of the first k children are gathered, and the cells that were opened are the cell itself and those of these children
pub record IsGathered (cost : ℕ → ℕ) (low high p : ℕ) (child : ℕ → Tree) (start : List ℕ) (first k : ℕ) (items : List ℕ) (at steps : ℕ) : Type 0 where
  pub at_is : at ≡ child_start cost p child k
  pub items_are : items ≡ start ++ joined (child_between cost low high p child) k
  pub steps_are : steps ≡ first + 1 + sum_upto (child_opened cost low high p child) k

-- before the first child
pub gathered_none : (cost : ℕ → ℕ) (low high p : ℕ) (child : ℕ → Tree) (start : List ℕ) (first steps : ℕ) → steps ≡ first + 1
    → IsGathered cost low high p child start first 0 start p steps
unfolding sum_upto
gathered_none cost low high p child start first steps e = record { at_is = omega arith; items_are = sym (append-nil start); steps_are = omega arith }

module _ {cost : ℕ → ℕ} {low high p : ℕ} {child : ℕ → Tree} {start : List ℕ} {first k : ℕ} {items : List ℕ} {at steps : ℕ}
    (done : IsGathered cost low high p child start first k items at steps) where
  -- the cells of the next child
  part_opened : {part : Tree} → part ≡ child k → opened_from cost low high at part ≡ child_opened cost low high p child k
  part_opened same = ap (opened_from cost low high at) same ∙ ap (λ q. opened_from cost low high q (child k)) done.at_is

  -- one child more
  pub gathered_more : {part : Tree} {next : List ℕ} {to more : ℕ} → part ≡ child k → to ≡ at + total cost part
      → IsTaken cost low high at part items steps next more → IsGathered cost low high p child start first (k + 1) next to more
  gathered_more same to_is taken = record {
    at_is = omega (arith, done.at_is, to_is, ap (total cost) same, sum_upto-more (λ j. total cost (child j)) k);
    items_are = taken.items_are ∙ ap (λ t. items ++ between cost low high at (order t)) same
        ∙ ap (λ q. items ++ between cost low high q (order (child k))) done.at_is ∙ ap (λ zs. zs ++ child_between cost low high p child k) done.items_are
        ∙ append_assoc start (joined (child_between cost low high p child) k) (child_between cost low high p child k)
        ∙ ap (λ j. start ++ joined (child_between cost low high p child) j) (sym (add-one k));
    steps_are = omega (arith, taken.steps_are, done.steps_are, part_opened same, sum_upto-more (child_opened cost low high p child) k);
  }

  -- the children so far and one more cost no more than the cell
  pub cost_fits : {part tree : Tree} → k < 8 → part ≡ child k → tree ≡ cell_of child → at + total cost part ≤ p + total cost tree
  cost_fits small same whole = omega (arith, done.at_is, ap (total cost) same, ap (total cost) whole, child_ends cost p child k small)

  module _ {tree : Tree} (whole : tree ≡ cell_of child) (met : meets low high p (p + total cost tree) ≡ true) where
    -- the cells that the cell's span opens
    opened_cell : opened_from cost low high p tree ≡ 1 + sum_upto (child_opened cost low high p child) 8
    opened_cell =
        ap (opened_from cost low high p) whole ∙ opened-cell cost low high p child (ap (λ t. meets low high p (p + total cost t)) (sym whole) ∙ met)

    -- after all children
    pub gathered_all : k ≡ 8 → IsTaken cost low high p tree start first items steps
    gathered_all all = record {
      items_are = done.items_are ∙ ap (λ j. start ++ joined (child_between cost low high p child) j) all
          ∙ ap (λ zs. start ++ zs) (sym (ap (λ t. between cost low high p (order t)) whole ∙ between-cell cost low high p child));
      steps_are = omega (arith, done.steps_are, ap (sum_upto (child_opened cost low high p child)) all, opened_cell);
    }

    -- where the descent breaks off in a child
    pub gathered_broken : {part : Tree} (more : ℕ) → k < 8 → part ≡ child k → more ≤ steps + opened_from cost low high at part
        → more ≤ first + opened_from cost low high p tree
    gathered_broken more small same few =
        omega (
          arith,
          few,
          done.steps_are,
          part_opened same,
          sum_upto-more (child_opened cost low high p child) k,
          sum_upto-le (child_opened cost low high p child) (k + 1) 8 (omega arith),
          opened_cell,
        )
