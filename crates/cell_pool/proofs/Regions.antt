-- What becomes of the cells of a region, which stand in a list behind those that were spent.
use Rattle.std.proofs.Common.{ℕ, ◌+◌, ◌-◌, ◌<◌, ◌≤◌, ◌≡◌, sym, ◌∙◌, ap, subst, inl, inr, arith, List, [], ◌∷◌, ◌++◌, drop, take, length, length-append}
use Rattle.std.proofs.Common.{length-drop}
use Rattle.std.proofs.lemmas.List.{drop-append-le, drop-drop, drop-take, length-take-le, take-append-drop}
use Rattle.bh_model.specs.Bodies.{IsIn, NoneTwice}
use Rattle.bh_model.proofs.Lists.{in_right, none_twice-append, once_apart, once_back, once_front}
use Rattle.cell_pool.specs.Free.{IsRegion, between, ends_of}

-- the last cell is taken
pub taken : (items new : List ℕ) (x spent room : ℕ) → items ≡ new ++ x ∷ [] → spent ≤ length new → IsRegion record { cells = drop spent items; room = room }
    → IsRegion record { cells = drop spent new; room = room }
taken items new x spent room e low h =
    let parts : drop spent items ≡ drop spent new ++ x ∷ [] = ap (drop spent) e ∙ drop-append-le spent new (x ∷ []) low in
    record {
      once = once_front (drop spent new) (x ∷ []) (subst NoneTwice parts h.once);
      fits = omega (arith, h.fits, ap length parts, length-append (drop spent new) (x ∷ []));
    }

-- a cell is given back
pub given : (items : List ℕ) (c spent room : ℕ) → spent ≤ length items → IsRegion record { cells = drop spent items; room = room }
    → (IsIn (drop spent items) c → ⊥)
    → length (drop spent items) < room → IsRegion record { cells = drop spent (items ++ c ∷ []); room = room }
given items c spent room low h absent place =
    let parts : drop spent (items ++ c ∷ []) ≡ drop spent items ++ c ∷ [] = drop-append-le spent items (c ∷ []) low in
    record {
      once = subst NoneTwice (sym parts)
          (none_twice-append (drop spent items) (c ∷ []) h.once ((λ i. i), tt)
          (λ n i j. elim j [ inl e ↦ absent (subst (IsIn (drop spent items)) e i) | inr k ↦ k ]));
      fits = omega (arith, place, ap length parts, length-append (drop spent items) (c ∷ []));
    }

-- the cells are those before a place and those from it on
pub parted : (items : List ℕ) (spent k : ℕ) → spent ≤ k → k ≤ length items → drop spent items ≡ drop spent (take k items) ++ drop k items
parted items spent k low few =
    ap (drop spent) (sym (take-append-drop k items)) ∙ drop-append-le spent (take k items) (drop k items) (omega (arith, low, length-take-le k items few))

-- those before a place stay, and room for them
pub cut_front : (items : List ℕ) (spent k room left : ℕ) → spent ≤ k → k ≤ length items → length (drop spent items) + k ≤ left + length items
    → IsRegion record { cells = drop spent items; room = room } → IsRegion record { cells = drop spent (take k items); room = left }
cut_front items spent k room left low few enough h =
    let parts = parted items spent k low few in
    record {
      once = once_front (drop spent (take k items)) (drop k items) (subst NoneTwice parts h.once);
      fits = omega (arith, few, enough, ap length parts, length-append (drop spent (take k items)) (drop k items), length-drop k items);
    }

-- those from a place on are parted off
pub cut_back : (items : List ℕ) (spent k n room : ℕ) → spent ≤ k → k ≤ length items → length items ≤ k + n
    → IsRegion record { cells = drop spent items; room = room }
    → IsRegion record { cells = drop k items; room = n }
cut_back items spent k n room low few fit h = record {
  once = once_back (drop spent (take k items)) (drop k items) (subst NoneTwice (parted items spent k low few) h.once);
  fits = omega (arith, fit, length-drop k items);
}

-- the first cells are spent
pub spent_more : (items : List ℕ) (spent n room : ℕ) → n ≤ length (drop spent items) → IsRegion record { cells = drop spent items; room = room }
    → IsRegion record { cells = drop (spent + n) items; room = room - n }
spent_more items spent n room few h =
    let rest : drop n (drop spent items) ≡ drop (spent + n) items = drop-drop n spent items in
    record {
      once = subst NoneTwice rest
          (once_back (take n (drop spent items)) (drop n (drop spent items)) (subst NoneTwice (sym (take-append-drop n (drop spent items))) h.once));
      fits = omega (arith, h.fits, few, ap length rest, length-drop n (drop spent items));
    }

-- a list is its first members, those between, and its last ones
pub three_parts : (front back : ℕ) (l : List ℕ) → front + back ≤ length l → l ≡ take front l ++ (between front back l ++ drop (length l - back) l)
three_parts front back l few =
    sym (take-append-drop front l) ∙ ap (λ (z : List ℕ). take front l ++ z) (parted l front (length l - back) (omega (arith, few)) (omega arith))

-- no number stands twice in its ends
pub once_ends : (front back : ℕ) (l : List ℕ) → front + back ≤ length l → NoneTwice l → NoneTwice (ends_of front back l)
once_ends front back l few once =
    let a = take front l in
    let b = between front back l in
    let c = drop (length l - back) l in
    let all : NoneTwice (a ++ (b ++ c)) = subst NoneTwice (three_parts front back l few) once in
    none_twice-append a c (once_front a (b ++ c) all) (once_back b c (once_back a (b ++ c) all))
    (λ n i j. once_apart a (b ++ c) all n i (in_right b c n j))

-- which are so many
pub length-ends : (front back : ℕ) (l : List ℕ) → front + back ≤ length l → length (ends_of front back l) ≡ front + back
length-ends front back l few =
    omega (arith, few, length-append (take front l) (drop (length l - back) l), length-take-le front l (omega (arith, few)), length-drop (length l - back) l)

-- and those between them are the others
pub length-between : (front back : ℕ) (l : List ℕ) → front + back ≤ length l → length (between front back l) ≡ length l - (front + back)
length-between front back l few =
    omega (arith, few, length-drop front (take (length l - back) l), length-take-le (length l - back) l (omega arith))

-- the cells that are left where the list is cut
pub cut_cells : (items : List ℕ) (spent n : ℕ) → spent + n ≤ length items
    → drop spent (take (length items - n) items) ≡ take (length (drop spent items) - n) (drop spent items)
cut_cells items spent n few =
    let place : length items - n ≡ spent + (length (drop spent items) - n) = omega (arith, few, length-drop spent items) in
    ap (λ (k : ℕ). drop spent (take k items)) place ∙ drop-take spent (length (drop spent items) - n) items
