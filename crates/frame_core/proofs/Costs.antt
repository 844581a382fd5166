-- The greatest cost of zones.
use Rattle.std.proofs.Common.{◌≡◌, ◌<◌, ◌+◌, ℕ, List, [], ◌∷◌, length, map, take, get_or, max, sym, ◌∙◌, ap, arith}
use Rattle.std.proofs.lemmas.List.{map_more}
use Rattle.bh_model.proofs.Trees.{greatest-append}
use Rattle.bh_model.specs.Trees.{greatest}

-- the greatest of the first numbers and one more
pub greatest_more : {X : Type 0} (f : X → ℕ) (xs : List X) (i : ℕ) (d : X) → i < length xs
    → greatest (map f (take (i + 1) xs)) ≡ max (greatest (map f (take i xs))) (f (get_or xs i d))
greatest_more f xs i d h =
    ap greatest (map_more f xs i d h) ∙ greatest-append (map f (take i xs)) (f (get_or xs i d) ∷ []) ∙ omega arith

-- the step of a running greatest
pub greatest_step : {X : Type 0} (f : X → ℕ) (xs : List X) (i : ℕ) (x : X) (most one next : ℕ) → i < length xs → x ≡ get_or xs i x
    → most ≡ greatest (map f (take i xs)) → one ≡ f x
    → next ≡ max most one → next ≡ greatest (map f (take (i + 1) xs))
greatest_step f xs i x most one next h read before here e =
    let value : one ≡ f (get_or xs i x) = here ∙ ap f read in
    e ∙ ap (λ y. max y one) before ∙ ap (λ y. max (greatest (map f (take i xs))) y) value ∙ sym (greatest_more f xs i x h)
