use Rattle.std.proofs.Common.{ℕ, List, [], ◌∷◌, ◌++◌, ◌≡◌, ◌≢◌, ◌∙◌, ap, arith, length, refl, subst, sym}
use Rattle.std.proofs.lemmas.Bool.{eqb-true}
use Rattle.bh_model.proofs.Splits.{list_has_some}
use Rattle.space_split.specs.Ranges.{AreCubesOf}
use Rattle.space_split.specs.Rows.{AreWhole}
use Rattle.space_split.specs.declared.cube.Cube.{Cube}
use Rattle.space_split.proofs.Divisions.{first_level, first_none}
use Rattle.space_split.proofs.Pushes.{made_cube}
use Rattle.space_split.proofs.Runs.{first_whole, none_whole}
use Rattle.space_split.proofs.split.first_cube.Goals as goal
use Rattle.space_split.proofs.split.first_cube.Goals.{then-not-is_empty+in_ok-push, else-not-is_empty}

pub returns-clause-cubes : goal.returns-clause-cubes
returns-clause-cubes c most =
    let codes : List ℕ = c.args.codes.now in
    let whole : Cube = made_cube 1 0 (length codes) in
    elim c.if-not-is_empty.branch [
      | then-not-is_empty+in_ok-push w ↦
          let some : length codes ≢ 0 = list_has_some (length codes) c.is_empty.result c.is_empty.ensures w.if-not-is_empty.true in
          let items : c.if-not-is_empty.cubes.items ≡ whole ∷ [] =
          ap (λ v. v.items) w.cubes-is ∙ w.in_ok-push.ensures.items ∙ ap (λ (y : List Cube). y ++ (whole ∷ [])) c.new-cubes.ensures.items in
          subst (AreCubesOf codes most 0) (sym items)
          (first_level codes most whole c.requires.rule.each (omega arith) refl refl refl)
      | else-not-is_empty w ↦
          let none : length codes ≡ 0 = eqb-true (length codes) 0 (sym c.is_empty.ensures ∙ w.if-not-is_empty.false) in
          subst (AreCubesOf codes most 0) (sym (ap (λ v. v.items) w.cubes-is ∙ c.new-cubes.ensures.items)) (first_none most codes none)
    ]

pub returns-clause-whole : goal.returns-clause-whole
returns-clause-whole c =
    let codes : List ℕ = c.args.codes.now in
    let whole : Cube = made_cube 1 0 (length codes) in
    elim c.if-not-is_empty.branch [
      | then-not-is_empty+in_ok-push w ↦
          let some : length codes ≢ 0 = list_has_some (length codes) c.is_empty.result c.is_empty.ensures w.if-not-is_empty.true in
          let items : c.if-not-is_empty.cubes.items ≡ whole ∷ [] =
          ap (λ v. v.items) w.cubes-is ∙ w.in_ok-push.ensures.items ∙ ap (λ (y : List Cube). y ++ (whole ∷ [])) c.new-cubes.ensures.items in
          subst (AreWhole codes) (sym items)
          (first_whole codes whole c.requires.rule.each (omega arith) refl refl refl)
      | else-not-is_empty w ↦
          let none : length codes ≡ 0 = eqb-true (length codes) 0 (sym c.is_empty.ensures ∙ w.if-not-is_empty.false) in
          subst (AreWhole codes) (sym (ap (λ v. v.items) w.cubes-is ∙ c.new-cubes.ensures.items)) (none_whole codes none)
    ]
