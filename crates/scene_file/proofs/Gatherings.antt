-- How bodies that are gathered at whatever points become those of a scene, or its first fault.
use Rattle.std.proofs.Common.{◌≡◌, ◌∙◌, ◌+◌, ◌<◌, ◌≤◌, ◌^◌, ◌==◌, ◌&&◌, ℕ, Bool, true, false, List, [], ◌∷◌, ◌++◌, Option, Some, None, length, nat_le}
use Rattle.std.proofs.Common.{Result, Ok, Err, cond, refl, ap, subst, sym, arith, inl, inr, length-append}
use Rattle.std.proofs.lemmas.Bool.Decides.{nat_tests}
use Rattle.std.proofs.lemmas.List.{append_assoc}
use Rattle.std.proofs.Math.Nat.{eq-or-lt_of_le}
use Rattle.octant_code.specs.Distinct.{AreFirstSame}
use Rattle.octant_code.specs.Points.{AreApart}
use Rattle.scene_file.specs.Bodies.{number_at, sites_of, total_mass}
use Rattle.scene_file.specs.Gathering.{IsPointTest, gathered}
use Rattle.scene_file.specs.Moves.{move_count, shifted}
use Rattle.scene_file.specs.Reading.{IsReading, gathered_entry, gathered_with, so_far_of}
use Rattle.scene_file.specs.Scene.{IsFaultOf, SoFar, entry_of, first_meeting, is_still, names, nothing, placed, present, scene_after, still, then_with}
use Rattle.scene_file.specs.Scene.{with_body, with_entry, with_move, with_moved, with_pass, with_record}
use Rattle.scene_file.specs.declared.bodies.Body.{Body}
use Rattle.scene_file.specs.declared.entry.Entry.{Entry}
use Rattle.scene_file.specs.declared.entry.Entry.TheVariants as entry
use Rattle.scene_file.specs.declared.moves.Move.{Move}
use Rattle.scene_file.specs.declared.fault.SceneFault.{SceneFault}
use Rattle.scene_file.specs.declared.fault.SceneFault.TheVariants as fault
use Rattle.scene_file.proofs.BodyLists.{apart-push, same_before, same_last, sites_more}
use Rattle.scene_file.proofs.Scenes.{accepted_more, refused_at}

-- two tests that let an answer through let another one through in its place
chosen : {A B : Type 0} (a b : Bool) (f g : SceneFault) (x y : A) (other : Result B SceneFault)
    → cond a (Err f) (cond b (Err g) (Ok x)) ≡ Ok y → (x ≡ y) × (cond a (Err f) (cond b (Err g) other) ≡ other)
chosen true b f g x y other e = cc
chosen false true f g x y other e = cc
chosen false false f g x y other e = (cc, refl)

-- and where they don't, they give the same fault
barred : {A B : Type 0} (a b : Bool) (f g h : SceneFault) (x : A) (other : Result B SceneFault)
    → cond a (Err f) (cond b (Err g) (Ok x)) ≡ Err h → cond a (Err f) (cond b (Err g) other) ≡ Err h
barred true b f g h x other e = let same : f ≡ h = cc in ap Err same
barred false true f g h x other e = let same : g ≡ h = cc in ap Err same
barred false false f g h x other e = cc

-- a body that was gathered is accepted where no earlier one is at its point
body_gathered : (number : ℕ) (old : SoFar) (body : Body) (bodies : List Body) → gathered number old.bodies body ≡ Ok bodies
    → (bodies ≡ old.bodies ++ body ∷ []) × (with_body number old body ≡ placed number old body (number_at old.bodies body.at))
body_gathered number old body bodies e =
    let through = chosen (nat_le 65536 (length old.bodies)) (nat_le (2 ^ 40) (total_mass old.bodies + body.mass)) (fault.TooMany number)
    (fault.MassTotal number) (old.bodies ++ body ∷ []) bodies (placed number old body (number_at old.bodies body.at)) e in
    (sym through.0, through.1)

-- what lets an answer through in its own place
allowed : {A : Type 0} (a b : Bool) (f g : SceneFault) (y : A) (other : Result A SceneFault) → cond a (Err f) (cond b (Err g) other) ≡ Ok y → other ≡ Ok y
allowed true b f g y other e = cc
allowed false true f g y other e = cc
allowed false false f g y other e = e

-- behind a move or a pass no body is accepted
never_late : (number : ℕ) (old new : SoFar) (body : Body) → is_still old ≡ false → with_body number old body ≡ Ok new → ⊥
never_late number old new body behind e =
    let there = allowed (nat_le 65536 (length old.bodies)) (nat_le (2 ^ 40) (total_mass old.bodies + body.mass)) (fault.TooMany number)
    (fault.MassTotal number) new (placed number old body (number_at old.bodies body.at)) e in
    by_place (number_at old.bodies body.at) there
  where
    by_place : (o : Option ℕ) → placed number old body o ≡ Ok new → ⊥
    by_place (Some earlier) e = cc
    by_place None e = let f = rw behind at e in cc

-- a fault of a record is that of the record where the bodies before it are gathered
barred_entry : (number : ℕ) (old : SoFar) (said : Entry) (f : SceneFault) → gathered_entry number old said ≡ Err f → with_entry number old said ≡ Err f
barred_entry number old (entry.Move move) f e = e
barred_entry number old entry.Pass f e = e
barred_entry number old (entry.Body body) f e = by_still (is_still old) refl e
  where
    first : (r : Result (List Body) SceneFault) → then_with (λ (bodies : List Body). Ok (still bodies)) r ≡ Err f → r ≡ Err f
    first (Ok bodies) e = cc
    first (Err g) e = let h : g ≡ f = cc in ap Err h

    by_still : (b : Bool) → is_still old ≡ b
        → cond b (then_with (λ (bodies : List Body). Ok (still bodies)) (gathered number old.bodies body)) (with_body number old body) ≡ Err f
        → with_body number old body ≡ Err f
    by_still true is e = barred (nat_le 65536 (length old.bodies)) (nat_le (2 ^ 40) (total_mass old.bodies + body.mass)) (fault.TooMany number)
        (fault.MassTotal number) f (old.bodies ++ body ∷ []) (placed number old body (number_at old.bodies body.at))
        (first (gathered number old.bodies body) e)
    by_still false is e = e

pub barred_at : (number : ℕ) (old : SoFar) (fields : List (List ℕ)) (f : SceneFault) → gathered_with number old fields ≡ Err f
    → with_record number old fields ≡ Err f
barred_at number old fields f e = by_entry (entry_of number fields) refl e
  where
    by_entry : (r : Result Entry SceneFault) → entry_of number fields ≡ r → then_with (gathered_entry number old) r ≡ Err f
        → with_record number old fields ≡ Err f
    by_entry (Ok said) is e = rw is (barred_entry number old said f e)
    by_entry (Err g) is e = rw is e

-- what records gave: where the bodies' points are apart, the rest is read from there; and the first that isn't gives the records' fault
pub record AreOf (rows : List (List (List ℕ))) (so_far : SoFar) : Type 0 where
  pub count : is_still so_far ≡ true → length so_far.bodies ≡ length rows
  pub accepted : AreApart (sites_of so_far.bodies) → (more : List (List (List ℕ)))
      → scene_after (rows ++ more) 1 nothing ≡ scene_after more (length rows + 1) so_far
  pub refused : (e l : ℕ) → AreFirstSame (sites_of so_far.bodies) e l → (more : List (List (List ℕ)))
      → scene_after (rows ++ more) 1 nothing ≡ Err (fault.Coincident (l + 1) e l)

-- no records
pub of_none : AreOf [] nothing
of_none = record { count = λ still. refl; accepted = λ apart more. refl; refused = λ e l same more. let none = same.within in absurd (omega arith) }

-- the record behind others, and more
next : (rows more : List (List (List ℕ))) (fields : List (List ℕ)) (old new : SoFar) (number : ℕ)
    → ((rest : List (List (List ℕ))) → scene_after (rows ++ rest) 1 nothing ≡ scene_after rest (length rows + 1) old) → number ≡ length rows + 1
    → with_record number old fields ≡ Ok new
    → scene_after (rows ++ fields ∷ [] ++ more) 1 nothing ≡ scene_after more (length (rows ++ fields ∷ []) + 1) new
next rows more fields old new number before is read =
    let long : length (rows ++ fields ∷ []) + 1 ≡ number + 1 = omega (arith, length-append rows (fields ∷ [])) in
    rw (append_assoc rows (fields ∷ []) more, before (fields ∷ more), ← is, long) (accepted_more fields more number old new read)

-- one more record of a body, which is accepted where no earlier one is at its point
of_push : (rows : List (List (List ℕ))) (fields : List (List ℕ)) (old : SoFar) (body : Body) (number : ℕ) → AreOf rows old
    → number ≡ length rows + 1 → is_still old ≡ true → with_record number old fields ≡ placed number old body (number_at old.bodies body.at)
    → AreOf (rows ++ fields ∷ []) (still (old.bodies ++ body ∷ []))
of_push rows fields old body number before is alone read =
    let bodies = old.bodies in
    let count = before.count alone in
    let longer = length-append bodies (body ∷ []) in
    record {
      count = λ still. omega (arith, length-append rows (fields ∷ []));
      accepted = λ apart more.
          let parts = apart-push bodies body apart in
          next rows more fields old (still (bodies ++ body ∷ [])) number (before.accepted parts.0) is (read ∙ rw (parts.1, alone) refl);
      refused = λ e l same more.
          let within = same.within in
          elim (eq-or-lt_of_le (let h : l ≤ length bodies = omega (arith, sites_more bodies body) in h)) [
            | inr less ↦ rw (append_assoc rows (fields ∷ []) more) (before.refused e l (same_before bodies body e l same less) (fields ∷ more))
            | inl last ↦
                let at_last = λ (n : ℕ). AreFirstSame (sites_of (bodies ++ body ∷ [])) e n in
                let parts = same_last bodies body e (subst at_last last same) in
                let place : number ≡ l + 1 = omega arith in
                rw (append_assoc rows (fields ∷ []) more, before.accepted parts.0 (fields ∷ more), ← is)
                (refused_at fields more number old (fault.Coincident (l + 1) e l) (read ∙ rw (parts.1, place, last) refl))
          ];
    }

-- one more record of a move or of a pass
of_later : (rows : List (List (List ℕ))) (fields : List (List ℕ)) (old new : SoFar) (number : ℕ) → AreOf rows old → number ≡ length rows + 1
    → with_record number old fields ≡ Ok new → new.bodies ≡ old.bodies → is_still new ≡ false → AreOf (rows ++ fields ∷ []) new
of_later rows fields old new number before is read same behind =
    record {
      count = λ still. let both : true ≡ false = sym still ∙ behind in cc;
      accepted = λ apart more. next rows more fields old new number (before.accepted (rw same at apart)) is read;
      refused = λ e l first more. rw (append_assoc rows (fields ∷ []) more) (before.refused e l (rw same at first) (fields ∷ more));
    }

not_none : (n : ℕ) → 0 < n → (n == 0) ≡ false
not_none n some = grind (arith, nat_tests)

-- a move that is accepted leaves the bodies of the records
pub move_gives : (number : ℕ) (old new : SoFar) (move : Move) → with_move number old move ≡ Ok new → (new.bodies ≡ old.bodies) × (is_still new ≡ false)
move_gives number old new move e =
    by_tests (nat_le 262144 (move_count old.passes + length old.moves)) (nat_le (length old.bodies) move.body) (names old.moves move.body) e
  where
    some : (b : Bool) → (b && (length (old.moves ++ move ∷ []) == 0)) ≡ false
    some true = not_none (length (old.moves ++ move ∷ [])) (omega (arith, length-append old.moves (move ∷ [])))
    some false = refl

    by_tests : (a b c : Bool) → cond a (Err (fault.TooMany number)) (cond b (Err (fault.UnknownBody number)) (cond c (Err (fault.MovedTwice number move.body))
        (Ok (record { bodies = old.bodies; passes = old.passes; moves = old.moves ++ move ∷ [] })))) ≡ Ok new
        → (new.bodies ≡ old.bodies) × (is_still new ≡ false)
    by_tests true b c e = cc
    by_tests false true c e = cc
    by_tests false false true e = cc
    by_tests false false false e =
        let same : record { bodies = old.bodies; passes = old.passes; moves = old.moves ++ move ∷ [] } ≡ new = cc in
        (ap (λ (s : SoFar). s.bodies) (sym same), ap (λ (s : SoFar). is_still s) (sym same) ∙ some (length old.passes == 0))

-- and so does a pass
pub pass_gives : (number : ℕ) (old new : SoFar) → with_pass number old ≡ Ok new → (new.bodies ≡ old.bodies) × (is_still new ≡ false)
pass_gives number old new e = by_tests (nat_le 1024 (length old.passes)) (first_meeting [] (shifted old.moves (present old))) e
  where
    by_tests : (a : Bool) (o : Option (ℕ × ℕ)) → cond a (Err (fault.TooMany number)) (with_moved number old o) ≡ Ok new
        → (new.bodies ≡ old.bodies) × (is_still new ≡ false)
    by_tests true o e = cc
    by_tests false (Some pair) e = cc
    by_tests false None e =
        let same : record { bodies = old.bodies; passes = old.passes ++ old.moves ∷ []; moves = [] } ≡ new = cc in
        let some : (length (old.passes ++ old.moves ∷ []) == 0) ≡ false =
        not_none (length (old.passes ++ old.moves ∷ [])) (omega (arith, length-append old.passes (old.moves ∷ []))) in
        (ap (λ (s : SoFar). s.bodies) (sym same), ap (λ (s : SoFar). is_still s) (sym same) ∙ rw some refl)

-- one more record that was gathered
pub of_more : (rows : List (List (List ℕ))) (fields : List (List ℕ)) (old new : SoFar) (number : ℕ) → AreOf rows old → number ≡ length rows + 1
    → gathered_with number old fields ≡ Ok new → AreOf (rows ++ fields ∷ []) new
of_more rows fields old new number before is e = by_entry (entry_of number fields) refl e
  where
    pushed : (body : Body) (r : Result (List Body) SceneFault) → entry_of number fields ≡ Ok (entry.Body body) → is_still old ≡ true
        → gathered number old.bodies body ≡ r → then_with (λ (bodies : List Body). Ok (still bodies)) r ≡ Ok new → AreOf (rows ++ fields ∷ []) new
    pushed body (Err g) said alone is_r e = cc
    pushed body (Ok bodies) said alone is_r e =
        let (more, read) = body_gathered number old body bodies is_r in
        let whole : still (old.bodies ++ body ∷ []) ≡ new = ap still (sym more) ∙ (let f : still bodies ≡ new = cc in f) in
        let record_read : with_record number old fields ≡ placed number old body (number_at old.bodies body.at) = rw said read in
        subst (AreOf (rows ++ fields ∷ [])) whole (of_push rows fields old body number before is alone record_read)

    by_body : (body : Body) (b : Bool) → entry_of number fields ≡ Ok (entry.Body body) → is_still old ≡ b
        → cond b (then_with (λ (bodies : List Body). Ok (still bodies)) (gathered number old.bodies body)) (with_body number old body) ≡ Ok new
        → AreOf (rows ++ fields ∷ []) new
    by_body body true said alone e = pushed body (gathered number old.bodies body) said alone refl e
    by_body body false said behind e = absurd (never_late number old new body behind e)

    by_entry : (r : Result Entry SceneFault) → entry_of number fields ≡ r → then_with (gathered_entry number old) r ≡ Ok new
        → AreOf (rows ++ fields ∷ []) new
    by_entry (Err g) said e = cc
    by_entry (Ok (entry.Body body)) said e = by_body body (is_still old) said refl e
    by_entry (Ok (entry.Move move)) said e =
        let (same, behind) = move_gives number old new move e in
        of_later rows fields old new number before is (rw said e) same behind
    by_entry (Ok entry.Pass) said e =
        let (same, behind) = pass_gives number old new e in
        of_later rows fields old new number before is (rw said e) same behind

-- a body at the point of an earlier one gives the fault of the records, whatever comes after it
pub told_first : (all rows more : List (List (List ℕ))) (so_far : SoFar) (f : SceneFault) → all ≡ rows ++ more → AreOf rows so_far
    → IsPointTest so_far.bodies (Err f) → IsFaultOf (scene_after all 1 nothing) f
told_first all rows more so_far (fault.Coincident n e l) whole of told = rw (whole, told.0) (of.refused e l told.1 more)
told_first all rows more so_far fault.OutOfMemory whole of told = tt
told_first all rows more so_far fault.TooLong whole of told = absurd told
told_first all rows more so_far (fault.BadRecord n) whole of told = absurd told
told_first all rows more so_far (fault.BadNumber n field) whole of told = absurd told
told_first all rows more so_far (fault.OutOfRange n field) whole of told = absurd told
told_first all rows more so_far (fault.TooMany n) whole of told = absurd told
told_first all rows more so_far (fault.MassTotal n) whole of told = absurd told
told_first all rows more so_far (fault.BodyAfterMove n) whole of told = absurd told
told_first all rows more so_far (fault.UnknownBody n) whole of told = absurd told
told_first all rows more so_far (fault.MovedTwice n body) whole of told = absurd told
told_first all rows more so_far (fault.PassCoincident n e l) whole of told = absurd told

-- the bodies of the records are those that were gathered
pub reading_bodies : (bodies : List Body) (passing : Option SoFar) → IsReading bodies passing → (so_far_of bodies passing).bodies ≡ bodies
reading_bodies bodies None rule = refl
reading_bodies bodies (Some passing) rule = rule.0
