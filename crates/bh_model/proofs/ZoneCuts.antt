-- The zones of the workers: each body of a tree is in exactly one, and no zone costs more than all bodies.
use Rattle.std.proofs.Common.{◌≡◌, ◌≢◌, ◌<◌, ◌≤◌, ◌+◌, ◌*◌, ◌/◌, ◌⊎◌, inl, inr, ℕ, List, [], ◌∷◌, eqb, eq-eqb, true, false, refl, sym, subst, arith}
use Rattle.std.proofs.lemmas.Bool.{ne_eqb}
use Rattle.std.proofs.lemmas.Bool.Decides.{eqb_tells}
use Rattle.std.proofs.lemmas.List.Sums.{sum_by-cons}
use Rattle.std.proofs.lemmas.Nat.{div_below}
use Rattle.std.proofs.Math.Nat.{mul-lt-mul_of_pos_right}
use Rattle.bh_model.specs.Bodies.{IsIn, NoneTwice}
use Rattle.bh_model.specs.Trees.{Tree, order}
use Rattle.bh_model.specs.Zones.{IsInOneZone, cost_of, zone_from}

-- the first body is in the zone of its share
pub zone_from-own : (cost : ℕ → ℕ) (workers whole before x : ℕ) (xs : List ℕ) (w : ℕ) → before * workers / whole ≡ w
    → zone_from cost workers whole before (x ∷ xs) w ≡ x ∷ zone_from cost workers whole (before + cost x) xs w
unfolding zone_from
zone_from-own cost workers whole before x xs w e =
    let b : eqb (before * workers / whole) w ≡ true = eq-eqb (before * workers / whole) w e in
    rw b refl

-- and in no other
pub zone_from-other : (cost : ℕ → ℕ) (workers whole before x : ℕ) (xs : List ℕ) (w : ℕ) → before * workers / whole ≢ w
    → zone_from cost workers whole before (x ∷ xs) w ≡ zone_from cost workers whole (before + cost x) xs w
unfolding zone_from
zone_from-other cost workers whole before x xs w ne =
    let b : eqb (before * workers / whole) w ≡ false = ne_eqb (before * workers / whole) w ne in
    rw b refl

-- no body has no zone
pub zone_from-none : (cost : ℕ → ℕ) (workers whole before w : ℕ) → zone_from cost workers whole before [] w ≡ []
unfolding zone_from
zone_from-none cost workers whole before w = refl

-- a body of a zone is one of all
pub zone_from-member : (cost : ℕ → ℕ) (workers whole before : ℕ) (xs : List ℕ) (w n : ℕ) → IsIn (zone_from cost workers whole before xs w) n → IsIn xs n
zone_from-member cost workers whole before [] w n i = subst (λ (y : List ℕ). IsIn y n) (zone_from-none cost workers whole before w) i
zone_from-member cost workers whole before (x ∷ xs) w n i =
    elim (eqb_tells (before * workers / whole) w) [
      | inl same ↦
          let j : (n ≡ x) ⊎ IsIn (zone_from cost workers whole (before + cost x) xs w) n = subst (λ (y : List ℕ). IsIn y n)
          (zone_from-own cost workers whole before x xs w same.1) i in
          elim j [ inl e ↦ inl e | inr k ↦ inr (zone_from-member cost workers whole (before + cost x) xs w n k) ]
      | inr other ↦
          inr (zone_from-member cost workers whole (before + cost x) xs w n
          (subst (λ (y : List ℕ). IsIn y n) (zone_from-other cost workers whole before x xs w other.1) i))
    ]

-- no zone costs more than all bodies
pub zone_from-cost : (cost : ℕ → ℕ) (workers whole before : ℕ) (xs : List ℕ) (w : ℕ) → cost_of cost (zone_from cost workers whole before xs w) ≤ cost_of cost xs
zone_from-cost cost workers whole before [] w =
    let P : List ℕ → Type 0 = λ y. cost_of cost y ≤ 0 in
    subst P (sym (zone_from-none cost workers whole before w)) (omega arith)
zone_from-cost cost workers whole before (x ∷ xs) w =
    let P : List ℕ → Type 0 = λ y. cost_of cost y ≤ cost_of cost (x ∷ xs) in
    let rest : List ℕ = zone_from cost workers whole (before + cost x) xs w in
    let less : cost_of cost rest ≤ cost_of cost xs = zone_from-cost cost workers whole (before + cost x) xs w in
    elim (eqb_tells (before * workers / whole) w) [
      | inl same ↦ subst P (sym (zone_from-own cost workers whole before x xs w same.1)) (omega (arith, less, sum_by-cons cost x rest, sum_by-cons cost x xs))
      | inr other ↦ subst P (sym (zone_from-other cost workers whole before x xs w other.1)) (omega (arith, less, sum_by-cons cost x xs))
    ]

-- where a body stands among bodies before which others stand: the cost of those before it, and its only zone
record HasShare (cost : ℕ → ℕ) (workers whole before : ℕ) (xs : List ℕ) (n : ℕ) : Type 0 where
  pub at : ℕ
  pub room : at + cost n ≤ before + cost_of cost xs
  pub inside : IsIn (zone_from cost workers whole before xs (at * workers / whole)) n
  pub only : (w : ℕ) → IsIn (zone_from cost workers whole before xs w) n → w ≡ at * workers / whole

-- the first body, which stands there once
share_first : (cost : ℕ → ℕ) (workers whole before x : ℕ) (xs : List ℕ) (n : ℕ) → (IsIn xs x → ⊥) → n ≡ x → HasShare cost workers whole before (x ∷ xs) n
share_first cost workers whole before x xs n once e = record {
  at = before;
  room = omega (arith, sum_by-cons cost x xs, (let P : ℕ → Type 0 = λ y. cost y ≡ cost x in subst P (sym e) refl));
  inside = subst (λ (y : List ℕ). IsIn y n) (sym (zone_from-own cost workers whole before x xs (before * workers / whole) refl)) (inl e);
  only = λ w i. elim (eqb_tells (before * workers / whole) w) [
    | inl same ↦ sym same.1
    | inr other ↦
        let j = zone_from-member cost workers whole (before + cost x) xs w n
        (subst (λ (y : List ℕ). IsIn y n) (zone_from-other cost workers whole before x xs w other.1) i) in
        absurd (once (subst (λ (y : ℕ). IsIn xs y) e j))
  ];
}

-- a body behind the first
share_later : (cost : ℕ → ℕ) (workers whole before x : ℕ) (xs : List ℕ) (n : ℕ) → (IsIn xs x → ⊥) → IsIn xs n
    → HasShare cost workers whole (before + cost x) xs n
    → HasShare cost workers whole before (x ∷ xs) n
share_later cost workers whole before x xs n once member s = record {
  at = s.at;
  room = omega (arith, sum_by-cons cost x xs, s.room);
  inside =
      elim (eqb_tells (before * workers / whole) (s.at * workers / whole)) [
        | inl same ↦ subst (λ (y : List ℕ). IsIn y n) (sym (zone_from-own cost workers whole before x xs (s.at * workers / whole) same.1)) (inr s.inside)
        | inr other ↦ subst (λ (y : List ℕ). IsIn y n) (sym (zone_from-other cost workers whole before x xs (s.at * workers / whole) other.1)) s.inside
      ];
  only = λ w i. elim (eqb_tells (before * workers / whole) w) [
    | inl same ↦
        let j : (n ≡ x) ⊎ IsIn (zone_from cost workers whole (before + cost x) xs w) n = subst (λ (y : List ℕ). IsIn y n)
        (zone_from-own cost workers whole before x xs w same.1) i in
        elim j [ inl e ↦ absurd (once (subst (λ (y : ℕ). IsIn xs y) e member)) | inr k ↦ s.only w k ]
    | inr other ↦ s.only w (subst (λ (y : List ℕ). IsIn y n) (zone_from-other cost workers whole before x xs w other.1) i)
  ];
}

-- each body of a list without repeats has its share
share : (cost : ℕ → ℕ) (workers whole before : ℕ) (xs : List ℕ) (n : ℕ) → NoneTwice xs → IsIn xs n → HasShare cost workers whole before xs n
share cost workers whole before [] n once i = absurd i
share cost workers whole before (x ∷ xs) n once (inl e) = share_first cost workers whole before x xs n once.0 e
share cost workers whole before (x ∷ xs) n once (inr i) =
    share_later cost workers whole before x xs n once.0 i (share cost workers whole (before + cost x) xs n once.1 i)

-- a share that begins before the whole cost is a worker's
share_small : (at workers whole : ℕ) → 1 ≤ workers → at < whole → at * workers / whole < workers
share_small at workers whole some less =
    let positive : 0 < workers = omega arith in
    div_below (at * workers) whole workers (omega arith) (omega (arith, mul-lt-mul_of_pos_right {m = at} {n = whole} {k = workers} less positive))

-- each body that costs something is in exactly one zone
pub one_zone : (cost : ℕ → ℕ) (workers : ℕ) (tree : Tree) (n : ℕ) → NoneTwice (order tree) → IsIn (order tree) n → 1 ≤ cost n → 1 ≤ workers
    → IsInOneZone cost workers tree n
one_zone cost workers tree n once member positive some =
    let s = share cost workers (cost_of cost (order tree)) 0 (order tree) n once member in
    record {
      own = s.at * workers / cost_of cost (order tree);
      is_worker = share_small s.at workers (cost_of cost (order tree)) some (omega (arith, s.room));
      inside = s.inside;
      only = s.only;
    }
