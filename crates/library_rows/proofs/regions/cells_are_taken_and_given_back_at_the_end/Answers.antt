use Rattle.std.proofs.Common.{◌≡◌, ◌∙◌, List, ℕ, [], ◌∷◌, ◌++◌, inl, inr, arith, sym, subst}
use Rattle.bh_model.specs.Bodies.{IsIn}
use Rattle.bh_model.proofs.Lists.{in_left}
use Rattle.library_rows.proofs.regions.cells_are_taken_and_given_back_at_the_end.Goals as goal

-- the number is none of the three
not_in_three : IsIn (4 ∷ 7 ∷ 9 ∷ []) 2 → ⊥
not_in_three (inl e) = omega arith
not_in_three (inr (inl e)) = omega arith
not_in_three (inr (inr (inl e))) = omega arith
not_in_three (inr (inr (inr i))) = i

pub give-requires-clause-absent : goal.give-requires-clause-absent
give-requires-clause-absent g c = λ i.
    let all : c.take.new.self.cells ++ (c.take.result.0 ∷ []) ≡ 4 ∷ 7 ∷ 9 ∷ [] = sym c.take.ensures.cells ∙ c.of-region.ensures.cells
    ∙ c.in_ok-to_vec.ensures.items_if_clones_equal (λ x y e. e) in
    not_in_three (subst (λ (cells : List ℕ). IsIn cells 2) all (in_left c.take.new.self.cells (c.take.result.0 ∷ []) 2 i))
