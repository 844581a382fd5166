-- Cubes that are dealt to workers, and the octrees that the workers give.
use Rattle.std.proofs.Common.{ℕ, ◌+◌, ◌-◌, ◌*◌, ◌/◌, ◌<◌, ◌≤◌, ◌≡◌, zero, suc, refl, sym, ◌∙◌, ap, subst, arith, All, List, [], ◌∷◌, ◌++◌}
use Rattle.std.proofs.Common.{append-nil, drop, flat_map, get_or, length, sum_by, take}
use Rattle.std.specs.Prelude.{Err, IfOk, Ok, Result}
use Rattle.std.specs.List.{AllZip}
use Rattle.std.proofs.lemmas.List.Elements.{All-cons, All-nil}
use Rattle.std.proofs.lemmas.Grind.{flat_map-append}
use Rattle.std.proofs.lemmas.List.Sums.{sum_by-cons}
use Rattle.std.proofs.lemmas.Nat.{div_below, row_fits_turned}
use Rattle.bh_model.specs.Pieces.{dealt}
use Rattle.bh_model.specs.declared.piece.Piece.{Piece}
use Rattle.octree.specs.Stored.{Stored}
use Rattle.space_split.specs.Parts.{AreJoined}
use Rattle.space_split.specs.declared.cube.Cube.{Cube}

-- each piece is one of a worker
pub dealt_small : (whole workers before : ℕ) (cubes : List (ℕ × ℕ)) → All (λ (c : ℕ × ℕ). 1 ≤ c.1) cubes
    → before + sum_by (λ (c : ℕ × ℕ). c.1) cubes ≤ whole → 1 ≤ workers → All (λ (p : Piece). p.worker < workers) (dealt whole workers before cubes)
dealt_small whole workers before [] some fits work = All-nil (λ (p : Piece). p.worker < workers)
dealt_small whole workers before (c ∷ cs) some fits work =
    let one : 1 ≤ c.1 = some 0 c (omega arith) in
    let sum = sum_by-cons (λ (q : ℕ × ℕ). q.1) c cs in
    let less : before < whole = omega (arith, one, sum, fits) in
    let product : before * workers + workers ≤ workers * whole = row_fits_turned before workers workers whole less (omega arith) in
    All-cons (λ (p : Piece). p.worker < workers) (record { key = c.0; count = c.1; worker = before * workers / whole })
    (dealt whole workers (before + c.1) cs) (div_below (before * workers) whole workers (omega (arith, less)) (omega (arith, product, work)))
    (dealt_small whole workers (before + c.1) cs (λ k d l. some (suc k) d (omega arith)) (omega (arith, sum, fits)) work)

pub dealt_long : (whole workers before : ℕ) (cubes : List (ℕ × ℕ)) → length (dealt whole workers before cubes) ≡ length cubes
dealt_long whole workers before [] = refl
dealt_long whole workers before (c ∷ cs) = ap suc (dealt_long whole workers (before + c.1) cs)

module _ {S : Type 0} (now : S → List Cube) where
  -- what holds of all cubes holds of each share's
  pub all_shares : (P : Cube → Type 0) (shares : List S) → All P (flat_map now shares) → All (λ s. All P (now s)) shares
  all_shares P [] h = All-nil (λ s. All P (now s))
  all_shares P (s ∷ ss) h =
      All-cons (λ t. All P (now t)) s ss (front P (now s) (flat_map now ss) h) (all_shares P ss (back P (now s) (flat_map now ss) h))
    where
      front : (Q : Cube → Type 0) (xs ys : List Cube) → All Q (xs ++ ys) → All Q xs
      front Q [] ys all = All-nil Q
      front Q (x ∷ xs) ys all = All-cons Q x xs (all 0 x (omega arith)) (front Q xs ys (λ k d l. all (suc k) d (omega arith)))

      back : (Q : Cube → Type 0) (xs ys : List Cube) → All Q (xs ++ ys) → All Q ys
      back Q [] ys all = all
      back Q (x ∷ xs) ys all = back Q xs ys (λ k d l. all (suc k) d (omega arith))

-- what two lists have at each place is so of both one after another
pub zip_append : (P : Cube → Stored → Type 0) (xs us : List Cube) (ys vs : List Stored) → AllZip P xs ys → AllZip P us vs → AllZip P (xs ++ us) (ys ++ vs)
zip_append P [] us [] vs p q = q
zip_append P [] us (y ∷ ys) vs p q = absurd p
zip_append P (x ∷ xs) us [] vs p q = absurd p
zip_append P (x ∷ xs) us (y ∷ ys) vs p q = (p.0, zip_append P xs us ys vs p.1 q)

-- what all workers give is that of all cubes
pub joined_zip : {S V E : Type 0} (now : S → List Cube) (items : V → List Stored) (P : Cube → Stored → Type 0) (shares : List S) (rs : List (Result V E))
    (whole : List Stored) → AllZip (λ s r. IfOk r (λ v. AllZip P (now s) (items v))) shares rs → AreJoined items rs whole
    → AllZip P (flat_map now shares) whole
joined_zip now items P [] [] whole z j = subst (AllZip P []) (sym j) tt
joined_zip now items P [] (r ∷ rs) whole z j = absurd z
joined_zip now items P (s ∷ ss) [] whole z j = absurd z
joined_zip now items P (s ∷ ss) (Err e ∷ rs) whole z j = absurd j
joined_zip now items P (s ∷ ss) (Ok v ∷ rs) whole z j =
    subst (AllZip P (now s ++ flat_map now ss)) (sym j.2)
    (zip_append P (now s) (flat_map now ss) (items v) j.0 z.0 (joined_zip now items P ss rs j.0 z.1 j.1))

-- two parts of a list that stand side by side
take_both : {T : Type 0} (i n : ℕ) (xs : List T) → take i xs ++ take n (drop i xs) ≡ take (i + n) xs
take_both zero n xs = let e : 0 + n ≡ n = omega arith in ap (λ y. take y xs) (sym e)
take_both (suc i) n [] = none n ∙ sym (none (suc i + n))
  where
    none : {T : Type 0} (m : ℕ) → take {A = T} m [] ≡ []
    none zero = refl
    none (suc m) = refl
take_both (suc i) n (x ∷ xs) = let e : suc i + n ≡ suc (i + n) = omega arith in ap (λ y. x ∷ y) (take_both i n xs) ∙ ap (λ y. take y (x ∷ xs)) (sym e)

-- one share more
pub shares_more : {S : Type 0} (now : S → List Cube) (shares after : List S) (s : S) (start end : ℕ) (cubes : List Cube) → start ≤ end
    → flat_map now shares ≡ take start cubes → now s ≡ take (end - start) (drop start cubes) → after ≡ shares ++ (s ∷ [])
    → flat_map now after ≡ take end cubes
shares_more now shares after s start end cubes up before own more =
    let far : start + (end - start) ≡ end = omega arith in
    ap (flat_map now) more ∙ flat_map-append now shares (s ∷ []) ∙ ap (λ y. y ++ (now s ++ [])) before
    ∙ ap (λ y. take start cubes ++ y) (append-nil (now s) ∙ own) ∙ take_both start (end - start) cubes ∙ ap (λ y. take y cubes) far

-- where nothing is left, what is joined is the whole
pub joined_end : {V E : Type 0} (items : V → List Stored) (left built : List (Result V E)) (all : List Stored) → length left ≡ 0
    → ((rest : List Stored) → AreJoined items left rest → AreJoined items built (all ++ rest)) → AreJoined items built all
joined_end items [] built all none h = subst (AreJoined items built) (append-nil all) (h [] refl)
joined_end items (r ∷ rs) built all none h = absurd (omega (arith, none))

-- what holds at each place of two lists
pub zip_by_place : {X Y : Type 0} (R : X → Y → Type 0) (xs : List X) (ys : List Y) → length ys ≡ length xs
    → ((i : ℕ) (d : X) (e : Y) → i < length xs → R (get_or xs i d) (get_or ys i e)) → AllZip R xs ys
zip_by_place R [] [] long h = tt
zip_by_place R [] (y ∷ ys) long h = absurd (omega (arith, long))
zip_by_place R (x ∷ xs) [] long h = absurd (omega (arith, long))
zip_by_place R (x ∷ xs) (y ∷ ys) long h = (h 0 x y (omega arith), zip_by_place R xs ys (omega (arith, long)) (λ i d e l. h (suc i) d e (omega arith)))

-- cubes that hold a body are no more than their bodies
pub few_cubes : (cubes : List Cube) → All (λ (c : Cube). 1 ≤ c.count) cubes → length cubes ≤ sum_by (λ (c : Cube). c.count) cubes
few_cubes [] some = omega arith
few_cubes (c ∷ cs) some =
    let rest = few_cubes cs (λ k d l. some (suc k) d (omega arith)) in
    omega (arith, rest, some 0 c (omega arith), sum_by-cons (λ (q : Cube). q.count) c cs)
