-- Moments as six totals alike: of the first children of a cell, and of each child.
use Rattle.std.proofs.Common.{◌≡◌, ◌≤◌, ◌<◌, ◌+◌, ◌*◌, ℕ, refl, ap, ◌∙◌, sym, arith}
use Rattle.bh_model.proofs.Totals.{child_total, sum_upto, sum_upto-le, sum_upto-more, total-cell, total-empty}
use Rattle.bh_model.specs.Moments.{FitsWords, Matter, add_moment, moment, no_moment, total}
use Rattle.bh_model.specs.Trees.{Tree, Empty, cell_of}
use Rattle.bh_model.specs.declared.moment.Moment.{Moment}

-- the moment whose sums are f of each quantity: f of a tree is its total, and f of one body its value
abbrev pub gathered : ((ℕ → ℕ) → ℕ) → Matter → (ℕ → ℕ) → Moment
gathered f m cost = record {
  mass = f m.mass;
  px = f (λ n. m.mass n * (m.site n).x);
  py = f (λ n. m.mass n * (m.site n).y);
  pz = f (λ n. m.mass n * (m.site n).z);
  bodies = f (λ n. 1);
  cost = f cost;
}

-- moments of equal sums are equal
pub gathered_same : (f g : (ℕ → ℕ) → ℕ) (m : Matter) (cost : ℕ → ℕ) → ((q : ℕ → ℕ) → f q ≡ g q) → gathered f m cost ≡ gathered g m cost
gathered_same f g m cost same =
    let made : ℕ → ℕ → ℕ → ℕ → ℕ → ℕ → Moment = λ a x y z b c. record { mass = a; px = x; py = y; pz = z; bodies = b; cost = c } in
    let X : ℕ → ℕ = λ n. m.mass n * (m.site n).x in
    let Y : ℕ → ℕ = λ n. m.mass n * (m.site n).y in
    let Z : ℕ → ℕ = λ n. m.mass n * (m.site n).z in
    let B : ℕ → ℕ = λ n. 1 in
    ap (λ s. made s (f X) (f Y) (f Z) (f B) (f cost)) (same m.mass) ∙ ap (λ s. made (g m.mass) s (f Y) (f Z) (f B) (f cost)) (same X)
    ∙ ap (λ s. made (g m.mass) (g X) s (f Z) (f B) (f cost)) (same Y) ∙ ap (λ s. made (g m.mass) (g X) (g Y) s (f B) (f cost)) (same Z)
    ∙ ap (λ s. made (g m.mass) (g X) (g Y) (g Z) s (f cost)) (same B) ∙ ap (made (g m.mass) (g X) (g Y) (g Z) (g B)) (same cost)

-- and lesser sums fit the words too
fits_less : (f g : (ℕ → ℕ) → ℕ) (m : Matter) (cost : ℕ → ℕ) → ((q : ℕ → ℕ) → f q ≤ g q) → FitsWords (gathered g m cost) → FitsWords (gathered f m cost)
fits_less f g m cost less all = record {
  mass = omega (arith, less m.mass, all.mass);
  px = omega (arith, less (λ n. m.mass n * (m.site n).x), all.px);
  py = omega (arith, less (λ n. m.mass n * (m.site n).y), all.py);
  pz = omega (arith, less (λ n. m.mass n * (m.site n).z), all.pz);
  bodies = omega (arith, less (λ n. 1), all.bodies);
  cost = omega (arith, less cost, all.cost);
}

-- the sums over the first k of some trees
abbrev pub moment_upto : Matter → (ℕ → ℕ) → (ℕ → Tree) → ℕ → Moment
moment_upto m cost child k = gathered (λ q. sum_upto (λ j. total q (child j)) k) m cost

-- no tree yet
pub upto_none : (m : Matter) (cost : ℕ → ℕ) (child : ℕ → Tree) → no_moment ≡ moment_upto m cost child 0
unfolding sum_upto
upto_none m cost child = refl

-- one tree more
pub upto_more : (m : Matter) (cost : ℕ → ℕ) (child : ℕ → Tree) (k : ℕ)
    → add_moment (moment_upto m cost child k) (moment m cost (child k)) ≡ moment_upto m cost child (k + 1)
upto_more m cost child k = gathered_same _ _ m cost (λ q. sym (sum_upto-more (λ j. total q (child j)) k))

-- one that is empty
pub upto_empty : (m : Matter) (cost : ℕ → ℕ) (child : ℕ → Tree) (k : ℕ) → Empty ≡ child k → moment_upto m cost child k ≡ moment_upto m cost child (k + 1)
upto_empty m cost child k e =
    gathered_same (λ q. sum_upto (λ j. total q (child j)) k) (λ q. sum_upto (λ j. total q (child j)) (k + 1)) m cost
    (λ q. omega (arith, sum_upto-more (λ j. total q (child j)) k, total-empty q, ap (total q) e))

-- all eight children
pub upto_all : (m : Matter) (cost : ℕ → ℕ) (child : ℕ → Tree) → moment_upto m cost child 8 ≡ moment m cost (cell_of child)
upto_all m cost child = gathered_same _ _ m cost (λ q. sym (total-cell q child))

-- the sums with one child more fit the words where the cell's do
pub upto_fits : (m : Matter) (cost : ℕ → ℕ) (child : ℕ → Tree) (k : ℕ) → k < 8 → FitsWords (moment m cost (cell_of child))
    → FitsWords (add_moment (moment_upto m cost child k) (moment m cost (child k)))
upto_fits m cost child k l =
    fits_less (λ q. sum_upto (λ j. total q (child j)) k + total q (child k)) (λ q. total q (cell_of child)) m cost
    (λ q. omega
    (arith, total-cell q child, sum_upto-le (λ j. total q (child j)) (k + 1) 8 (omega arith), sum_upto-more (λ j. total q (child j)) k))

-- and the child's do
pub child_fits : (m : Matter) (cost : ℕ → ℕ) (child : ℕ → Tree) (k : ℕ) → k < 8 → FitsWords (moment m cost (cell_of child))
    → FitsWords (moment m cost (child k))
child_fits m cost child k l = fits_less (λ q. total q (child k)) (λ q. total q (cell_of child)) m cost (λ q. child_total q child k l)
