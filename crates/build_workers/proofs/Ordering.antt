-- How often numbers stand in a list whose members have changed places, and in what was put in by such a list.
use Rattle.std.proofs.Common.{◌≡◌, ◌+◌, ◌<◌, ◌≤◌, ℕ, List, [], ◌∷◌, ◌++◌, IsPermutation, get_or, length, take, refl, sym, ap, ◌∙◌, arith}
use Rattle.std.proofs.lemmas.List.{take_more}
use Rattle.std.proofs.lemmas.List.Sorted.{sum_by-IsPermutation}
use Rattle.std.proofs.lemmas.List.Sums.{sum_by-cons}
use Rattle.std.specs.List.{sum_by}
use Rattle.tree_passes.specs.Counting.{same, times}
use Rattle.tree_passes.proofs.Laws.{same-eq, times-append, times_take}

times_sum : (x : ℕ) (l : List ℕ) → times x l ≡ sum_by (λ y. same y x) l
times_sum x [] = refl
times_sum x (y ∷ ys) = ap (λ (z : ℕ). same y x + z) (times_sum x ys) ∙ sym (sum_by-cons (λ y. same y x) y ys)

pub times_moved : (x : ℕ) (l m : List ℕ) → IsPermutation l m → times x m ≡ times x l
times_moved x l m moved = times_sum x m ∙ sum_by-IsPermutation (λ y. same y x) l m moved ∙ sym (times_sum x l)

-- one more of a list
pub put_more : (x : ℕ) (order : List ℕ) (i n d : ℕ) → i < length order → n ≡ get_or order i d
    → times x (take (i + 1) order) ≡ times x (take i order) + same n x
put_more x order i n d inside is =
    let parts = ap (times x) (take_more order i d inside ∙ ap (λ (z : ℕ). take i order ++ z ∷ []) (sym is)) ∙ times-append x (take i order) (n ∷ []) in
    omega (arith, parts)

-- what comes next of a list by which others were put in is still to be put in
pub next_todo : (order todo share : List ℕ) (i n : ℕ) → i < length order → n ≡ get_or order i 0 → ((x : ℕ) → times x order ≡ times x share)
    → ((x : ℕ) → times x todo + times x (take i order) ≡ times x share) → 1 ≤ times n todo
next_todo order todo share i n inside is each left =
    let whole = times_take n (i + 1) order in
    let more = put_more n order i n 0 inside is in
    let one = same-eq n n refl in
    let a = each n in
    let b = left n in
    omega (arith, whole, more, one, a, b)

-- what stands at a place of a list stands in it
pub stands_at : (l : List ℕ) (i d : ℕ) → i < length l → 1 ≤ times (get_or l i d) l
stands_at l i d inside =
    let n = get_or l i d in
    let whole = times_take n (i + 1) l in
    let more = put_more n l i n d inside refl in
    let one = same-eq n n refl in
    omega (arith, whole, more, one)
