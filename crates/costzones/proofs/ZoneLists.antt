-- The zones of the workers, one after another.
use Rattle.std.proofs.Common.{◌≡◌, ◌+◌, ℕ, List, [], ◌∷◌, ◌++◌, ap, ◌∙◌, sym, map}
use Rattle.std.proofs.lemmas.List.{map_push}
use Rattle.bh_model.proofs.Lists.{numbers_more}
use Rattle.bh_model.specs.Bodies.{numbers}

-- no zone yet
pub zones_none : {X : Type 0} (its : X → List ℕ) (f : ℕ → List ℕ) (xs : List X) → xs ≡ [] → map its xs ≡ map f (numbers 0)
unfolding numbers
zones_none its f xs e = ap (map its) e

-- one zone more
pub zones_more : {X : Type 0} (its : X → List ℕ) (f : ℕ → List ℕ) (xs next : List X) (x : X) (n : ℕ) → map its xs ≡ map f (numbers n) → next ≡ xs ++ (x ∷ [])
    → its x ≡ f n
    → map its next ≡ map f (numbers (n + 1))
zones_more its f xs next x n done more e =
    ap (map its) more ∙ map_push its xs x ∙ ap (λ zs. zs ++ (its x ∷ [])) done ∙ ap (λ z. map f (numbers n) ++ (z ∷ [])) e
    ∙ sym (ap (map f) (numbers_more n) ∙ map_push f (numbers n) n)
