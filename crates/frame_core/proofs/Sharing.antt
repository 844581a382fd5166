-- The first shares, body by body.
use Rattle.std.proofs.Common.{◌≡◌, ◌≢◌, ◌∙◌, ◌<◌, ◌+◌, ◌*◌, ◌/◌, ℕ, Bool, true, false, List, [], ◌∷◌, ◌++◌, get_or, length, map, set, replicate, refl, sym}
use Rattle.std.proofs.Common.{ap, subst, arith, inl, inr, add-one, length-set, eqb, cond, filter, ◌≤◌}
use Rattle.std.proofs.Math.Nat.{div-lt_iff_lt-mul, mul-le-mul_left}
use Rattle.std.proofs.lemmas.Bool.Decides.{eqb_tells}
use Rattle.std.proofs.lemmas.List.{append-nil, ext_get_or, get_or-map, get_or-set_same, get_or-set_other, length-map, map-set}
use Rattle.std.proofs.lemmas.List.Elements.{filter-append}
use Rattle.std.proofs.lemmas.Simd.{splat_is_map}
use Rattle.bh_model.proofs.Standing.{length_numbers}
use Rattle.bh_model.specs.Bodies.{numbers}
use Rattle.bh_model.specs.Plans.{HasWorkers}
use Rattle.build_workers.specs.Shares.{AreShares}
use Rattle.build_workers.proofs.Laws.{owned_are_shares}
use Rattle.frame_core.specs.Shares.{first_shares, share_below}
use Rattle.frame_core.proofs.Rows.{length-values, numbers-none, numbers-suc, value_at_place}

-- the shares of no bodies
pub shares-none : (workers count : ℕ) → replicate workers [] ≡ map (share_below 0 workers count) (numbers workers)
shares-none workers count =
    splat_is_map (numbers workers) workers [] (length_numbers workers)
    ∙ ap (λ ns. map (λ w. filter (λ n. eqb (n * workers / count) w) ns) (numbers workers)) (sym numbers-none)

-- a list, which one number joins where a test holds
abbrev grown : Bool → List ℕ → ℕ → List ℕ
grown b xs n = cond b (xs ++ (n ∷ [])) xs

grows : (b : Bool) (xs : List ℕ) (n : ℕ) → xs ++ cond b (n ∷ []) [] ≡ grown b xs n
grows true xs n = refl
grows false xs n = append-nil xs

-- the share with one body more
share-more : (n workers count w : ℕ) → share_below (n + 1) workers count w ≡ grown (eqb (n * workers / count) w) (share_below n workers count w) n
share-more n workers count w =
    ap (filter (λ n. eqb (n * workers / count) w)) (rw add-one (numbers-suc n)) ∙ filter-append (λ n. eqb (n * workers / count) w) (numbers n) (n ∷ [])
    ∙ grows (eqb (n * workers / count) w) (share_below n workers count w) n

-- the shares with one body more, which joins its own share
pub shares_more : {X : Type 0} (its : X → List ℕ) (xs : List X) (y d : X) (n workers count own : ℕ) → own ≡ n * workers / count → own < workers
    → its y ≡ its (get_or xs own d) ++ (n ∷ [])
    → map its xs ≡ map (share_below n workers count) (numbers workers) → map its (set xs own y) ≡ map (share_below (n + 1) workers count) (numbers workers)
shares_more its xs y d n workers count own is less joins before =
    let f : ℕ → List ℕ = share_below n workers count in
    let g : ℕ → List ℕ = share_below (n + 1) workers count in
    let count_is : length xs ≡ workers = sym (length-map xs its) ∙ ap length before ∙ length-values f workers in
    let long : length (map its (set xs own y)) ≡ workers = length-map (set xs own y) its ∙ length-set xs own y ∙ count_is in
    let old : (w : ℕ) → w < workers → get_or (map its xs) w [] ≡ f w = λ w l. ap (λ z. get_or z w []) before ∙ value_at_place f workers w [] l in
    let new : (w : ℕ) → w < workers → get_or (map g (numbers workers)) w [] ≡ grown (eqb own w) (f w) n =
    λ w l. value_at_place g workers w [] l ∙ share-more n workers count w ∙ ap (λ o. grown (eqb o w) (f w) n) (sym is) in
    let own_place : own < length xs = omega arith in
    let mapped : own < length (map its xs) = omega (arith, length-map xs its) in
    let same : own ≡ own → get_or (set (map its xs) own (its y)) own [] ≡ f own ++ (n ∷ []) =
    λ _. get_or-set_same (map its xs) own (its y) [] mapped ∙ joins ∙ ap (λ z. z ++ (n ∷ [])) (sym (get_or-map its xs own d [] own_place) ∙ old own less) in
    ext_get_or [] (map its (set xs own y)) (map g (numbers workers)) (long ∙ sym (length-values g workers))
    (λ k l.
    let within : k < workers = omega arith in
    ap (λ z. get_or z k []) (map-set its xs own y)
    ∙ elim (eqb_tells own k) [
      | inl t ↦ (let P : ℕ → Type 0 = λ j. get_or (set (map its xs) own (its y)) j [] ≡ f j ++ (n ∷ []) in subst P t.1 (same refl)
          ∙ sym (ap (λ b. grown b (f k) n) t.0))
      | inr u ↦ (let apart : k ≢ own = λ e. u.1 (sym e) in get_or-set_other (map its xs) own k (its y) [] apart ∙ old k within
          ∙ sym (ap (λ b. grown b (f k) n) u.0))
    ]
    ∙ sym (new k within))

-- a body's share is that of a worker
pub own_less : (n w k : ℕ) → 0 < w → n < k → n * w / k < w
own_less n w k some less =
    let positive : 0 < k = omega arith in
    let next : n + 1 ≤ k = omega arith in
    (div-lt_iff_lt-mul positive).1 (omega (arith, mul-le-mul_left w next))

-- the first shares hold each body once
pub first_are_shares : (workers count : ℕ) (shares : List (List ℕ)) → HasWorkers workers → shares ≡ first_shares workers count → AreShares count shares
first_are_shares workers count shares many e =
    subst (AreShares count) (sym e)
    (owned_are_shares workers count (λ n. n * workers / count) many.0 many.1 (λ n l. own_less n workers count many.0 l))
