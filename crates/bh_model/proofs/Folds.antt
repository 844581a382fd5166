-- The height, the order, the cells and the depth of a tree, gathered child by child.
use Rattle.std.proofs.Common.{ℕ, ◌+◌, ◌*◌, ◌<◌, ◌≤◌, ◌≡◌, zero, suc, max, refl, sym, ◌∙◌, ap, arith, List, [], ◌∷◌, ◌++◌, length, length-append, add-one}
use Rattle.std.proofs.Common.{append-nil, append_assoc}
use Rattle.std.proofs.Math.Nat.{max-zero}
use Rattle.bh_model.proofs.Lists.{joined}
use Rattle.bh_model.proofs.Totals.{all_eight, each_of_eight, sum_upto, sum_upto-more, sum_upto-none, sum_upto-le}
use Rattle.bh_model.proofs.Trees.{greatest-append, keys-body, keys-cell, keys-empty, levels-body, levels-cell, levels-empty, order-body, order-cell}
use Rattle.bh_model.proofs.Trees.{order-empty}
use Rattle.bh_model.specs.Trees.{Tree, Empty, Body, Cell, body_levels_from, cell_count, cell_keys_from, cell_of, greatest, height, order}

-- joined lists are as long as the sum of their lengths
pub length_joined : (g : ℕ → List ℕ) (k : ℕ) → length (joined g k) ≡ sum_upto (λ j. length (g j)) k
unfolding sum_upto
length_joined g zero = refl
length_joined g (suc k) = omega (arith, length-append (joined g k) (g k), length_joined g k)

-- ---- height

-- the children of a cell are less high
pub height_falls : (f : ℕ → Tree) (k : ℕ) → k < 8 → height (f k) < height (cell_of f)
unfolding height
height_falls f k small =
    each_of_eight (λ j. height (f j) < height (cell_of f)) (omega arith) (omega arith) (omega arith) (omega arith) (omega arith) (omega arith) (omega arith)
    (omega arith) k small

-- a cell is as low as a bound that its children keep
pub height_within : (f : ℕ → Tree) (most : ℕ) → ((k : ℕ) → k < 8 → height (f k) < most) → height (cell_of f) ≤ most
unfolding height
height_within f most each = omega (arith, all_eight (λ k. height (f k) < most) each)

-- nothing and one body are flat
pub height-empty : height Empty ≡ 0
unfolding height
height-empty = refl

pub height-body : (n : ℕ) → height (Body n) ≡ 0
unfolding height
height-body n = refl

-- ---- order

-- the orders of the first k children in turn
unfoldable pub orders : (ℕ → Tree) → ℕ → List ℕ
orders f k = joined (λ j. order (f j)) k

pub orders_start : (f : ℕ → Tree) (bodies : List ℕ) → bodies ≡ bodies ++ orders f 0
unfolding orders
orders_start f bodies = sym (append-nil bodies)

pub order_none : (t : Tree) (bodies : List ℕ) → t ≡ Empty → bodies ≡ bodies ++ order t
order_none t bodies e = sym (ap (λ y. bodies ++ order y) e ∙ ap (λ y. bodies ++ y) order-empty ∙ append-nil bodies)

pub order_one : (t : Tree) (n : ℕ) (bodies next : List ℕ) → t ≡ Body n → next ≡ bodies ++ (n ∷ []) → next ≡ bodies ++ order t
order_one t n bodies next e f = f ∙ ap (λ y. bodies ++ y) (sym (ap order e ∙ order-body n))

pub orders_next : (f : ℕ → Tree) (child : Tree) (k : ℕ) (bodies now next : List ℕ) → child ≡ f k → now ≡ bodies ++ orders f k → next ≡ now ++ order child
    → next ≡ bodies ++ orders f (k + 1)
unfolding orders
orders_next f child k bodies now next c e n =
    n ∙ ap (λ y. y ++ order child) e ∙ append_assoc bodies (joined (λ j. order (f j)) k) (order child)
    ∙ ap (λ y. bodies ++ (joined (λ j. order (f j)) k ++ order y)) c ∙ ap (λ y. bodies ++ joined (λ j. order (f j)) y) (sym (add-one k))

pub orders_all : (f : ℕ → Tree) (t : Tree) (k : ℕ) (bodies now : List ℕ) → t ≡ cell_of f → now ≡ bodies ++ orders f k → k ≡ 8 → now ≡ bodies ++ order t
unfolding orders
orders_all f t k bodies now e n all =
    n ∙ ap (λ y. bodies ++ joined (λ j. order (f j)) y) all ∙ ap (λ y. bodies ++ y) (sym (ap order e ∙ order-cell f))

pub ruleset order_steps = (orders_start, order_none, order_one, orders_next, orders_all)

-- ---- depth

-- the greatest level of the first k children, which are of a level
unfoldable pub deepest_upto : (ℕ → Tree) → ℕ → ℕ → ℕ
deepest_upto f level k = greatest (joined (λ j. body_levels_from (f j) level) k)

pub deepest_start : (f : ℕ → Tree) (level : ℕ) → 0 ≡ deepest_upto f level 0
unfolding deepest_upto
deepest_start f level = refl

pub deepest_none : (t : Tree) (level : ℕ) → t ≡ Empty → 0 ≡ greatest (body_levels_from t level)
deepest_none t level e = sym (ap (λ y. greatest (body_levels_from y level)) e ∙ ap greatest (levels-empty level))

pub deepest_one : (t : Tree) (n level : ℕ) → t ≡ Body n → level ≡ greatest (body_levels_from t level)
deepest_one t n level e = sym (ap (λ y. greatest (body_levels_from y level)) e ∙ ap greatest (levels-body n level) ∙ max-zero level)

pub deepest_next : (f : ℕ → Tree) (child : Tree) (k level now part next : ℕ) → child ≡ f k → now ≡ deepest_upto f level k
    → part ≡ greatest (body_levels_from child level) → next ≡ max now part → next ≡ deepest_upto f level (k + 1)
unfolding deepest_upto
deepest_next f child k level now part next c e p n =
    n ∙ ap (λ y. max y part) e ∙ ap (λ y. max (greatest (joined (λ j. body_levels_from (f j) level) k)) y) (p ∙ ap (λ y. greatest (body_levels_from y level)) c)
    ∙ sym (ap (λ y. greatest (joined (λ j. body_levels_from (f j) level) y)) (add-one k)
    ∙ greatest-append (joined (λ j. body_levels_from (f j) level) k) (body_levels_from (f k) level))

pub deepest_all : (f : ℕ → Tree) (t : Tree) (k level now : ℕ) → t ≡ cell_of f → now ≡ deepest_upto f (level + 1) k → k ≡ 8
    → now ≡ greatest (body_levels_from t level)
unfolding deepest_upto
deepest_all f t k level now e n all =
    n ∙ ap (λ y. greatest (joined (λ j. body_levels_from (f j) (level + 1)) y)) all
    ∙ ap (λ l. greatest (joined (λ j. body_levels_from (f j) l) 8)) (add-one level)
    ∙ ap greatest (sym (levels-cell f level)) ∙ sym (ap (λ y. greatest (body_levels_from y level)) e)

pub ruleset depth_steps = (deepest_start, deepest_none, deepest_one, deepest_next, deepest_all)

-- ---- cells

-- the cells of the first k children, whatever the keys are
pub lengths_upto : (g : ℕ → List ℕ) (h : ℕ → ℕ) (n : ℕ) → ((k : ℕ) → k < n → length (g k) ≡ h k) → length (joined g n) ≡ sum_upto h n
lengths_upto g h zero same = sym (sum_upto-none h)
lengths_upto g h (suc n) same =
    omega (
      arith,
      length-append (joined g n) (g n),
      lengths_upto g h n (λ k l. same k (omega arith)),
      same n (omega arith),
      sum_upto-more h n,
      ap (sum_upto h)
          (add-one n),
    )

-- two trees of children with as many cells
lengths_same : (g h : ℕ → List ℕ) (n : ℕ) → ((k : ℕ) → k < n → length (g k) ≡ length (h k)) → length (joined g n) ≡ length (joined h n)
lengths_same g h n same = lengths_upto g (λ k. length (h k)) n same ∙ sym (lengths_upto h (λ k. length (h k)) n (λ k l. refl))

-- the k-th of eight
abbrev pub nth : Tree → Tree → Tree → Tree → Tree → Tree → Tree → Tree → ℕ → Tree
nth a b c d e f g h zero = a
nth a b c d e f g h (suc zero) = b
nth a b c d e f g h (suc (suc zero)) = c
nth a b c d e f g h (suc (suc (suc zero))) = d
nth a b c d e f g h (suc (suc (suc (suc zero)))) = e
nth a b c d e f g h (suc (suc (suc (suc (suc zero))))) = f
nth a b c d e f g h (suc (suc (suc (suc (suc (suc zero)))))) = g
nth a b c d e f g h (suc (suc (suc (suc (suc (suc (suc k))))))) = h

-- a tree has as many cells with one key as with another
keys_same : (t : Tree) (key other : ℕ) → length (cell_keys_from t key) ≡ length (cell_keys_from t other)
keys_same Empty key other = ap length (keys-empty key ∙ sym (keys-empty other))
keys_same (Body n) key other = ap length (keys-body n key ∙ sym (keys-body n other))
keys_same (Cell a b c d e f g h) key other =
    let kid : ℕ → Tree = nth a b c d e f g h in
    let P : ℕ → Type 0 = λ k. (m n : ℕ) → length (cell_keys_from (kid k) m) ≡ length (cell_keys_from (kid k) n) in
    let each : (k : ℕ) → k < 8
    → P k = each_of_eight P (keys_same a) (keys_same b) (keys_same c) (keys_same d) (keys_same e) (keys_same f) (keys_same g) (keys_same h) in
    ap length (keys-cell kid key)
    ∙ ap suc (lengths_same (λ k. cell_keys_from (kid k) (8 * key + k)) (λ k. cell_keys_from (kid k) (8 * other + k)) 8
    (λ k l. each k l (8 * key + k) (8 * other + k)))
    ∙ ap length (sym (keys-cell kid other))

-- the number of cells of the first k children
unfoldable pub counts : (ℕ → Tree) → ℕ → ℕ
counts f k = sum_upto (λ j. cell_count (f j)) k

pub counts_start : (f : ℕ → Tree) → counts f 0 ≡ 0
unfolding counts
counts_start f = sum_upto-none (λ j. cell_count (f j))

pub count_none : (t : Tree) → t ≡ Empty → cell_count t ≡ 0
count_none t e = ap cell_count e ∙ ap length (keys-empty 1)

pub count_one : (t : Tree) (n : ℕ) → t ≡ Body n → cell_count t ≡ 0
count_one t n e = ap cell_count e ∙ ap length (keys-body n 1)

pub counts_next : (f : ℕ → Tree) (child : Tree) (k : ℕ) → child ≡ f k → counts f (k + 1) ≡ counts f k + cell_count child
unfolding counts
counts_next f child k c = sum_upto-more (λ j. cell_count (f j)) k ∙ ap (λ t. sum_upto (λ j. cell_count (f j)) k + cell_count t) (sym c)

pub counts_all : (f : ℕ → Tree) (t : Tree) → t ≡ cell_of f → cell_count t ≡ 1 + counts f 8
unfolding counts
counts_all f t e =
    omega (
      arith,
      ap cell_count e,
      ap length (keys-cell f 1),
      lengths_upto (λ k. cell_keys_from (f k) (8 * 1 + k)) (λ j. cell_count (f j)) 8
          (λ k l. keys_same (f k) (8 * 1 + k) 1),
    )

pub counts_few : (f : ℕ → Tree) (k : ℕ) → k < 8 → counts f (k + 1) ≤ counts f 8
unfolding counts
counts_few f k l = sum_upto-le (λ j. cell_count (f j)) (k + 1) 8 (omega arith)

pub ruleset count_steps = (counts_start, count_none, count_one, counts_next, counts_all, counts_few)
