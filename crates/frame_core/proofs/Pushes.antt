-- Sums of mass times acceleration, and how large they are.
use Rattle.std.proofs.Common.{inl, inr, ◌≡◌, ◌<◌, ◌≤◌, ◌+◌, ◌-◌, ◌*◌, ◌^◌, ℕ, zero, suc, ℤ, pos, negsuc, neg_ℤ, ◌+ℤ◌, ◌*ℤ◌, List, [], ◌∷◌, ◌++◌, length, take}
use Rattle.std.proofs.Common.{refl, sym, ◌∙◌, ap, subst, arith, add-one, sum_by, All}
use mir.Syntax.{w128}
use mir.Val.{of_z, to_z}
use Rattle.std.proofs.lemmas.Int.{ints}
use Rattle.std.proofs.lemmas.List.Sums.{sum_by-take-le, sum_by_more, sum_by_push}
use Rattle.std.proofs.lemmas.Nat.{mul-le}
use Rattle.bh_model.specs.Bodies.{IsIn, numbers}
use Rattle.bh_model.specs.Pulls.{IsWithin, no_pull}
use Rattle.force_walk.specs.Walks.{IsPullAmong}
use Rattle.bh_model.specs.declared.pull.Pull.{Pull}
use Rattle.mass_moments.specs.Kept.{matter_of}
use Rattle.scene_file.specs.Bodies.{body_at, nobody, total_mass}
use Rattle.scene_file.specs.declared.bodies.Body.{Body}
use Rattle.frame_core.specs.Frames.{sum_over}
use Rattle.frame_core.specs.Pushes.{met_by, pull_at, push_by}
use Rattle.frame_core.proofs.Rows.{numbers-none, numbers-suc}

-- a sum over no body
pub sum_over-none : (f : ℕ → ℤ) → sum_over f [] ≡ pos 0
unfolding sum_over
sum_over-none f = refl

-- a sum with one body more at the end
sum_over-push : (f : ℕ → ℤ) (xs : List ℕ) (n : ℕ) → sum_over f (xs ++ (n ∷ [])) ≡ sum_over f xs +ℤ f n
unfolding sum_over
sum_over-push f [] n = omega (arith, ints)
sum_over-push f (x ∷ xs) n = let more : sum_over f (xs ++ (n ∷ [])) ≡ sum_over f xs +ℤ f n = sum_over-push f xs n in omega (arith, ints, more)

-- sums of equal numbers
pub sum_over-same : (f g : ℕ → ℤ) (xs : List ℕ) → ((n : ℕ) → IsIn xs n → f n ≡ g n) → sum_over f xs ≡ sum_over g xs
unfolding sum_over
sum_over-same f g [] same = refl
sum_over-same f g (x ∷ xs) same =
    let head : f x ≡ g x = same x (inl refl) in
    let rest : sum_over f xs ≡ sum_over g xs = sum_over-same f g xs (λ n i. same n (inr i)) in
    cc

-- the sum over no number, and over one number more
pub upto-none : (f : ℕ → ℤ) → sum_over f (numbers 0) ≡ pos 0
upto-none f = ap (sum_over f) numbers-none ∙ sum_over-none f

pub upto-more : (f : ℕ → ℤ) (n : ℕ) → sum_over f (numbers (n + 1)) ≡ sum_over f (numbers n) +ℤ f n
upto-more f n = ap (λ k. sum_over f (numbers k)) (add-one n) ∙ ap (sum_over f) (numbers-suc n) ∙ sum_over-push f (numbers n) n

-- a mass times a number within a bound
within-times : (mass bound : ℕ) (z : ℤ) → IsWithin bound z → IsWithin (mass * bound) (pos mass *ℤ z)
within-times mass bound (pos k) h =
    let small : k ≤ bound = omega (arith, ints, h.high) in
    let product : mass * k ≤ mass * bound = mul-le mass k mass bound (omega arith) small in
    record { low = omega (arith, ints, product); high = omega (arith, ints, product) }
within-times mass bound (negsuc k) h =
    let small : suc k ≤ bound = omega (arith, ints, h.low) in
    let product : mass * suc k ≤ mass * bound = mul-le mass (suc k) mass bound (omega arith) small in
    let minus : pos mass *ℤ negsuc k ≡ neg_ℤ (pos (mass * suc k)) = refl in
    rw minus (record { low = omega (arith, ints, product); high = omega (arith, ints, product) })

within-add : (a b : ℕ) (x y : ℤ) → IsWithin a x → IsWithin b y → IsWithin (a + b) (x +ℤ y)
within-add a b x y p q = record { low = omega (arith, ints); high = omega (arith, ints) }

pub within-more : (a b : ℕ) (x : ℤ) → a ≤ b → IsWithin a x → IsWithin b x
within-more a b x h p = record { low = omega (arith, ints); high = omega (arith, ints) }

within-zero : (b : ℕ) → IsWithin b (pos 0)
within-zero b = record { low = omega (arith, ints); high = omega (arith, ints) }

-- the masses of the first bodies
abbrev pub mass_upto : List Body → ℕ → ℕ
mass_upto bodies k = sum_by (λ (b : Body). b.mass) (take k bodies)

-- the sum over the first bodies is no more than their masses times a bound of each part
pub upto-within : (bodies : List Body) (part : ℕ → ℤ) (bound k : ℕ) → k ≤ length bodies → ((n : ℕ) → n < length bodies → IsWithin bound (part n))
    → IsWithin (mass_upto bodies k * bound) (sum_over (λ n. pos ((matter_of bodies).mass n) *ℤ part n) (numbers k))
upto-within bodies part bound zero h each =
    let P : ℤ → Type 0 = λ z. IsWithin (mass_upto bodies 0 * bound) z in
    subst P (sym (upto-none (λ n. pos ((matter_of bodies).mass n) *ℤ part n))) (within-zero (mass_upto bodies 0 * bound))
upto-within bodies part bound (suc k) h each =
    let f : ℕ → ℤ = λ n. pos ((matter_of bodies).mass n) *ℤ part n in
    let before : IsWithin (mass_upto bodies k * bound) (sum_over f (numbers k)) = upto-within bodies part bound k (omega arith) each in
    let here : IsWithin ((body_at bodies k).mass * bound) (f k) = within-times (body_at bodies k).mass bound (part k) (each k (omega arith)) in
    let both : IsWithin (mass_upto bodies k * bound + (body_at bodies k).mass * bound) (sum_over f (numbers k) +ℤ f k) =
    within-add (mass_upto bodies k * bound) ((body_at bodies k).mass * bound) (sum_over f (numbers k)) (f k) before here in
    let more : mass_upto bodies (k + 1) ≡ mass_upto bodies k + (body_at bodies k).mass = sum_by_more (λ (b : Body). b.mass) bodies k nobody (omega arith) in
    let masses : mass_upto bodies (suc k) ≡ mass_upto bodies k + (body_at bodies k).mass = ap (mass_upto bodies) (sym (add-one k)) ∙ more in
    let room : mass_upto bodies k * bound + (body_at bodies k).mass * bound ≤ mass_upto bodies (suc k) * bound = omega (arith, ap (λ y. y * bound) masses) in
    let P : ℤ → Type 0 = λ z. IsWithin (mass_upto bodies (suc k) * bound) z in
    let sum : sum_over f (numbers (suc k)) ≡ sum_over f (numbers k) +ℤ f k = ap (λ y. sum_over f (numbers y)) (sym (add-one k)) ∙ upto-more f k in
    subst P (sym sum) (within-more (mass_upto bodies k * bound + (body_at bodies k).mass * bound) (mass_upto bodies (suc k) * bound)
    (sum_over f (numbers k) +ℤ f k) room both)

-- a mass below 2 ^ 40 times an acceleration below 2 ^ 80 is below 2 ^ 120
push_room : (masses : ℕ) → masses < 2 ^ 40 → masses * (2 ^ 80 - 1) ≤ 2 ^ 120 - 1
push_room masses h = omega arith

-- so is each sum over the first bodies
pub upto-small : (bodies : List Body) (part : ℕ → ℤ) (k : ℕ) → total_mass bodies < 2 ^ 40 → k ≤ length bodies
    → ((n : ℕ) → n < length bodies → IsWithin (2 ^ 80 - 1) (part n))
    → IsWithin (2 ^ 120 - 1) (sum_over (λ n. pos ((matter_of bodies).mass n) *ℤ part n) (numbers k))
upto-small bodies part k mass h each =
    let masses : mass_upto bodies k < 2 ^ 40 = omega (arith, mass, sum_by-take-le (λ (b : Body). b.mass) bodies k) in
    within-more (mass_upto bodies k * (2 ^ 80 - 1)) (2 ^ 120 - 1) (sum_over (λ n. pos ((matter_of bodies).mass n) *ℤ part n) (numbers k))
    (push_room (mass_upto bodies k) masses)
    (upto-within bodies part (2 ^ 80 - 1) k h each)

-- the terms of the pulls on no body, and on one body more
pub met-none : (pulls : List Pull) → met_by pulls 0 ≡ 0
met-none pulls = ap (sum_by (λ n. (pull_at pulls n).met)) numbers-none

pub met-more : (pulls : List Pull) (n : ℕ) → met_by pulls (n + 1) ≡ met_by pulls n + (pull_at pulls n).met
met-more pulls n =
    ap (λ k. met_by pulls k) (add-one n) ∙ ap (sum_by (λ n. (pull_at pulls n).met)) (numbers-suc n) ∙ sum_by_push (λ n. (pull_at pulls n).met) (numbers n) n

-- a number of 128 bits as it is read again
pub read_again : (z : ℤ) → IsWithin (2 ^ 120 - 1) z → to_z w128 (of_z w128 z) ≡ z
read_again z h = omega (arith, ints)

-- one part of each pull is below 2 ^ 80 in size
abbrev pub IsSmallPart : (Pull → ℤ) → List Body → List Pull → Type 0
IsSmallPart part bodies pulls = (n : ℕ) → n < length bodies → IsWithin (2 ^ 80 - 1) (part (pull_at pulls n))

-- each part is, where there is a small pull for each body
pub small_x : (bodies : List Body) (pulls : List Pull) → length pulls ≡ length bodies → All (IsPullAmong (length bodies)) pulls
    → IsSmallPart (λ p. p.ax) bodies pulls
small_x bodies pulls e small n l = (small n no_pull (omega arith)).x

pub small_y : (bodies : List Body) (pulls : List Pull) → length pulls ≡ length bodies → All (IsPullAmong (length bodies)) pulls
    → IsSmallPart (λ p. p.ay) bodies pulls
small_y bodies pulls e small n l = (small n no_pull (omega arith)).y

pub small_z : (bodies : List Body) (pulls : List Pull) → length pulls ≡ length bodies → All (IsPullAmong (length bodies)) pulls
    → IsSmallPart (λ p. p.az) bodies pulls
small_z bodies pulls e small n l = (small n no_pull (omega arith)).z

-- so the sum over the first bodies is below 2 ^ 120
pub push_small : (bodies : List Body) (pulls : List Pull) (part : Pull → ℤ) (k : ℕ) (sum : ℤ) → total_mass bodies < 2 ^ 40 → k ≤ length bodies
    → IsSmallPart part bodies pulls
    → sum ≡ push_by part bodies pulls k → IsWithin (2 ^ 120 - 1) sum
push_small bodies pulls part k sum mass h each e =
    let P : ℤ → Type 0 = λ z. IsWithin (2 ^ 120 - 1) z in
    subst P (sym e) (upto-small bodies (λ n. part (pull_at pulls n)) k mass h each)

-- and what is added to is read as it is
pub sum_room : (bodies : List Body) (pulls : List Pull) (part : Pull → ℤ) (k : ℕ) (sum : ℤ) → total_mass bodies < 2 ^ 40 → k ≤ length bodies
    → IsSmallPart part bodies pulls
    → sum ≡ push_by part bodies pulls k → IsWithin (2 ^ 120 - 1) (to_z w128 (of_z w128 sum))
sum_room bodies pulls part k sum mass h each e =
    let small : IsWithin (2 ^ 120 - 1) sum = push_small bodies pulls part k sum mass h each e in
    let P : ℤ → Type 0 = λ z. IsWithin (2 ^ 120 - 1) z in
    subst P (sym (read_again sum small)) small

-- as is what is added
pub part_room : (z : ℤ) → IsWithin (2 ^ 80 - 1) z → IsWithin (2 ^ 80 - 1) (to_z w128 (of_z w128 z))
part_room z h =
    let P : ℤ → Type 0 = λ y. IsWithin (2 ^ 80 - 1) y in
    subst P (sym (read_again z (within-more (2 ^ 80 - 1) (2 ^ 120 - 1) z (omega arith) h))) h

-- one body more
pub sum_more : (bodies : List Body) (pulls : List Pull) (part : Pull → ℤ) (k mass : ℕ) (sum result : ℤ) → total_mass bodies < 2 ^ 40 → k < length bodies
    → IsSmallPart part bodies pulls
    → sum ≡ push_by part bodies pulls k → mass ≡ (body_at bodies k).mass
    → result ≡ to_z w128 (of_z w128 sum) +ℤ (pos mass *ℤ to_z w128 (of_z w128 (part (pull_at pulls k))))
    → to_z w128 (of_z w128 result) ≡ push_by part bodies pulls (k + 1)
sum_more bodies pulls part k mass sum result few h each e m r =
    let p : ℤ = part (pull_at pulls k) in
    let here : to_z w128 (of_z w128 p) ≡ p = read_again p (within-more (2 ^ 80 - 1) (2 ^ 120 - 1) p (omega arith) (each k h)) in
    let before : to_z w128 (of_z w128 sum) ≡ sum = read_again sum (push_small bodies pulls part k sum few (omega arith) each e) in
    let is : result ≡ push_by part bodies pulls (k + 1) =
    r ∙ ap (λ y. y +ℤ (pos mass *ℤ to_z w128 (of_z w128 p))) (before ∙ e) ∙ ap (λ y. push_by part bodies pulls k +ℤ (pos mass *ℤ y)) here
    ∙ ap (λ y. push_by part bodies pulls k +ℤ (pos y *ℤ p)) m ∙ sym (upto-more (λ n. pos ((matter_of bodies).mass n) *ℤ part (pull_at pulls n)) k) in
    read_again result (push_small bodies pulls part (k + 1) result few (omega arith) each is) ∙ is
