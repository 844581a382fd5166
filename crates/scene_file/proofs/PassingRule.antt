-- What is kept while moves and passes are read.
use Rattle.std.proofs.Common.{◌≡◌, ◌≢◌, ◌∙◌, ◌<◌, ◌≤◌, ◌+◌, ◌==◌, ◌||◌, ℕ, zero, suc, Bool, true, false, List, [], ◌∷◌, ◌++◌, All, length, take}
use Rattle.std.proofs.Common.{get_or, replicate, Option, None}
use Rattle.std.proofs.Common.{Ok, refl, sym, ap, arith, inl, inr, add-one, zero-add, eqb-true, eq-eqb, length-append}
use Rattle.std.specs.Prelude.{nat_le, slice_set}
use Rattle.std.proofs.Math.Seq.{get_or-append_seam, take-append_seam, take-length}
use Rattle.std.proofs.lemmas.Bool.{cases_Bool, cases_lt}
use Rattle.std.proofs.lemmas.Bool.Decides.{nat_tests}
use Rattle.std.proofs.lemmas.List.{get_or-replicate, get_or-set_other, get_or-set_same, get_or_append_left, length-replicate, length-set}
use Rattle.std.proofs.lemmas.List.{take-append-le, take_more}
use Rattle.std.proofs.lemmas.List.Elements.{All-append, All-get_or}
use Rattle.std.proofs.lemmas.List.Folds.{list_any-append}
use Rattle.std.proofs.lemmas.List.Sums.{sum_by-append}
use Rattle.octant_code.specs.Points.{AreApart}
use Rattle.octant_code.specs.Space.{IsInCube}
use Rattle.scene_file.specs.Bodies.{AreBodies, body_at, nobody, sites_of}
use Rattle.scene_file.specs.Moves.{IsPass, IsScene, after_passes, move_at, move_count, moved, no_move, pass_at, shifted}
use Rattle.scene_file.specs.Passing.{IsFound, IsPassing}
use Rattle.scene_file.specs.Scene.{SoFar, first_meeting, names, present, still, with_move, with_pass}
use Rattle.scene_file.specs.declared.bodies.Body.{Body}
use Rattle.scene_file.specs.declared.moves.Move.{Move}
use Rattle.scene_file.proofs.Finding.{found_apart}
use Rattle.scene_file.proofs.Meetings.{none_meet}
use Rattle.scene_file.proofs.Shifts.{shifted-length, shifted_rule}

-- bodies alone are a scene
pub scene_none : (bodies : List Body) → AreBodies bodies → IsScene (record { bodies = bodies; passes = [] })
scene_none bodies rule =
    record {
      bodies = rule;
      passes = λ i less. absurd (omega arith);
      few_passes = omega arith;
      few_moves = omega arith;
      in_cube = λ i d less. absurd (omega arith);
    }

-- passes move bodies one after another
pub after-append : (passes more : List (List Move)) (bodies : List Body) → after_passes (passes ++ more) bodies ≡ after_passes more (after_passes passes bodies)
unfolding after_passes
after-append [] more bodies = refl
after-append (p ∷ ps) more bodies = after-append ps more (shifted p bodies)

pub after-length : (passes : List (List Move)) (bodies : List Body) → length (after_passes passes bodies) ≡ length bodies
unfolding after_passes
after-length [] bodies = refl
after-length (p ∷ ps) bodies = after-length ps (shifted p bodies) ∙ shifted-length p bodies

-- the bodies after one pass more
pub after_one : (passes : List (List Move)) (moves : List Move) (bodies : List Body)
    → after_passes (passes ++ moves ∷ []) bodies ≡ shifted moves (after_passes passes bodies)
unfolding after_passes
after_one passes moves bodies = after-append passes (moves ∷ []) bodies

-- and after those before the next number
pub after_more : (passes : List (List Move)) (i : ℕ) (bodies : List Body) → i < length passes
    → after_passes (take (i + 1) passes) bodies ≡ shifted (pass_at passes i) (after_passes (take i passes) bodies)
after_more passes i bodies within =
    ap (λ list. after_passes list bodies) (take_more passes i [] within) ∙ after_one (take i passes) (pass_at passes i) bodies

-- one pass more has its moves more
count_more : (passes : List (List Move)) (moves : List Move) → move_count (passes ++ moves ∷ []) ≡ move_count passes + length moves
count_more passes moves = rw (sum_by-append (λ (m : List Move). length m) passes (moves ∷ []), zero-add) refl

-- a scene with one pass more
pub scene_more : (bodies : List Body) (passes : List (List Move)) (moves : List Move) → IsScene (record { bodies = bodies; passes = passes })
    → IsPass (after_passes passes bodies) moves → length passes < 1024 → move_count passes + length moves ≤ 262144
    → All (λ (m : Move). IsInCube m.to) moves → IsScene (record { bodies = bodies; passes = passes ++ moves ∷ [] })
scene_more bodies passes moves scene pass few few_moves go =
    let size = length-append passes (moves ∷ []) in
    record {
      bodies = scene.bodies;
      passes = λ i less. elim (cases_lt i (length passes)) [
        | inl before ↦
            rw (take-append-le i passes (moves ∷ []) (omega arith), get_or_append_left passes (moves ∷ []) [] i before) (scene.passes i before)
        | inr after ↦
            let last : i ≡ length passes = omega arith in
            rw (last, take-append_seam passes (moves ∷ []), get_or-append_seam passes moves [] []) pass
      ];
      few_passes = omega arith;
      few_moves = rw (count_more passes moves) few_moves;
      in_cube = All-append (λ (moves : List Move). All (λ (m : Move). IsInCube m.to) moves) passes (moves ∷ []) scene.in_cube
          (λ i d less. let first : i ≡ 0 = omega arith in rw first go);
    }

-- before any move
pub passing_none : (bodies : List Body) (get : ℕ → Option ℕ) (named : List ℕ) → AreBodies bodies → ((j : ℕ) → j < length bodies → IsFound get bodies j)
    → named ≡ replicate (length bodies) 0 → IsPassing (still bodies) bodies get named 0
unfolding after_passes
passing_none bodies get named rule found zeros =
    let long : length named ≡ length bodies = rw zeros (length-replicate {A = ℕ} (length bodies) 0) in
    record {
      scene = scene_none bodies rule;
      present = refl;
      found = found;
      named_long = long;
      named_is = λ n less. rw (zeros, get_or-replicate {A = ℕ} (length bodies) n 0 0 (omega arith)) refl;
      named_low = λ n less. rw (zeros, get_or-replicate {A = ℕ} (length bodies) n 0 0 (omega arith)) (omega arith);
      count_is = refl;
      few_moves = omega arith;
      known = λ i d less. absurd (omega arith);
      once = λ i j less within. absurd (omega arith);
      in_cube = λ i d less. absurd (omega arith);
    }

pub not_up_to : (a b : ℕ) → b < a → nat_le a b ≡ false
not_up_to a b h = grind (arith, nat_tests)

-- the state with one move more
abbrev pub moved_more : SoFar → Move → SoFar
moved_more so_far move = record { bodies = so_far.bodies; passes = so_far.passes; moves = so_far.moves ++ move ∷ [] }

pub move_more : (number : ℕ) (so_far : SoFar) (move : Move) → move_count so_far.passes + length so_far.moves < 262144
    → move.body < length so_far.bodies → names so_far.moves move.body ≡ false → with_move number so_far move ≡ Ok (moved_more so_far move)
move_more number so_far move few known new =
    rw (not_up_to 262144 (move_count so_far.passes + length so_far.moves) few, not_up_to (length so_far.bodies) move.body known, new) refl

-- neither of two tests holds
neither : (b rest : Bool) → (b || rest) ≡ false → (b ≡ false) × (rest ≡ false)
neither true rest e = cc
neither false rest e = (refl, e)

-- where no move names a body, none of a place does
not_named : (moves : List Move) (n i : ℕ) → names moves n ≡ false → i < length moves → (move_at moves i).body ≢ n
not_named [] n i none less = absurd (omega arith)
not_named (m ∷ ms) n zero none less = λ f.
    let met = eq-eqb m.body n f in
    let both : true ≡ false = sym met ∙ (neither (m.body == n) (names ms n) none).0 in
    cc
not_named (m ∷ ms) n (suc i) none less = not_named ms n i ((neither (m.body == n) (names ms n) none).1) (omega arith)

-- one move more, of a body that no move of the pass names
pub passing_more : (so_far : SoFar) (here : List Body) (get : ℕ → Option ℕ) (named : List ℕ) (count : ℕ) (move : Move)
    → IsPassing so_far here get named count → count < 262144 → move.body < length named → names so_far.moves move.body ≡ false → IsInCube move.to
    → IsPassing (moved_more so_far move) here get (slice_set named move.body (length so_far.passes + 1)) (count + 1)
passing_more so_far here get named count move rule few within new inside =
    let moves = so_far.moves in
    let long = rule.named_long in
    let size = length-append moves (move ∷ []) in
    let count_is = rule.count_is in
    let pass = length so_far.passes + 1 in
    record {
      scene = rule.scene;
      present = rule.present;
      found = rule.found;
      named_long = length-set named move.body pass ∙ long;
      named_is = λ n less. elim (cases_Bool (move.body == n)) [
        | inl same ↦
            let at : move.body ≡ n = eqb-true move.body n same in
            rw (
              ← at,
              list_any-append (λ (m : Move). m.body == move.body) moves (move ∷ []),
              new,
              eq-eqb move.body move.body refl,
              get_or-set_same named move.body pass 0 within,
              eq-eqb pass pass refl,
            ) refl
        | inr differ ↦
            let apart : n ≢ move.body = λ e. let met = eq-eqb move.body n (sym e) in let both : true ≡ false = sym met ∙ differ in cc in
            rw (list_any-append (λ (m : Move). m.body == n) moves (move ∷ []), differ, get_or-set_other named move.body n pass 0 apart)
            (or_false (names moves n) ∙ rule.named_is n (rw length-set at less))
      ];
      named_low = λ n less. elim (cases_Bool (move.body == n)) [
        | inl same ↦
            let at : move.body ≡ n = eqb-true move.body n same in
            rw (← at, get_or-set_same named move.body pass 0 within) (omega arith)
        | inr differ ↦
            let apart : n ≢ move.body = λ e. let met = eq-eqb move.body n (sym e) in let both : true ≡ false = sym met ∙ differ in cc in
            rw (get_or-set_other named move.body n pass 0 apart) (rule.named_low n (rw length-set at less))
      ];
      count_is = omega (arith, count_is, size);
      few_moves = omega arith;
      known = All-append (λ (m : Move). m.body < length so_far.bodies) moves (move ∷ []) rule.known
          (λ i d less. let first : i ≡ 0 = omega arith in rw first (let w : move.body < length so_far.bodies = omega arith in w));
      once = λ i j less last. elim (cases_lt j (length moves)) [
        | inl before ↦
            rw (get_or_append_left moves (move ∷ []) no_move i (omega arith), get_or_append_left moves (move ∷ []) no_move j before)
            (rule.once i j less before)
        | inr after ↦
            let end : j ≡ length moves = omega arith in
            rw (end, get_or_append_left moves (move ∷ []) no_move i (omega arith), get_or-append_seam moves move [] no_move)
            (not_named moves move.body i new (omega arith))
      ];
      in_cube = All-append (λ (m : Move). IsInCube m.to) moves (move ∷ []) rule.in_cube (λ i d less. let first : i ≡ 0 = omega arith in rw first inside);
    }
  where
    or_false : (b : Bool) → (b || false) ≡ b
    or_false true = refl
    or_false false = refl

-- the same for the code's own list, number of the pass and test
pub passing_step : (so_far : SoFar) (here : List Body) (get : ℕ → Option ℕ) (named : List ℕ) (count : ℕ) (move : Move) (moves : List Move) (pass : ℕ)
    → IsPassing so_far here get named count → moves ≡ so_far.moves ++ move ∷ [] → pass ≡ length so_far.passes + 1 → count < 262144
    → move.body < length named → (get_or named move.body 0 == pass) ≡ false → IsInCube move.to
    → IsPassing (record { bodies = so_far.bodies; passes = so_far.passes; moves = moves }) here get (slice_set named move.body pass) (count + 1)
passing_step so_far here get named count move moves pass rule more is few within other inside =
    let new : names so_far.moves move.body ≡ false = rule.named_is move.body within ∙ ap (λ n. get_or named move.body 0 == n) (sym is) ∙ other in
    rw (more, is) (passing_more so_far here get named count move rule few within new inside)

-- bodies keep their rule after the passes of a scene
after_rule : (bodies : List Body) (passes : List (List Move)) (k : ℕ) → IsScene (record { bodies = bodies; passes = passes }) → k ≤ length passes
    → AreBodies (after_passes (take k passes) bodies)
unfolding after_passes
after_rule bodies passes zero scene less = scene.bodies
after_rule bodies passes (suc k) scene less =
    let within : k < length passes = omega arith in
    let before = after_rule bodies passes k scene (omega arith) in
    let more : take (suc k) passes ≡ take k passes ++ pass_at passes k ∷ [] = rw add-one at (take_more passes k [] within) in
    rw (more, after_one (take k passes) (pass_at passes k) bodies)
    (shifted_rule (pass_at passes k) (after_passes (take k passes) bodies) before (scene.passes k within)
    (All-get_or (λ (moves : List Move). All (λ (m : Move). IsInCube m.to) moves) passes k [] within scene.in_cube))

-- so do those at present
pub here_rule : (so_far : SoFar) (here : List Body) (get : ℕ → Option ℕ) (named : List ℕ) (count : ℕ) → IsPassing so_far here get named count → AreBodies here
here_rule so_far here get named count rule =
    let all = after_rule so_far.bodies so_far.passes (length so_far.passes) rule.scene (omega arith) in
    rw rule.present (rw take-length at all)

pub here_long : (so_far : SoFar) (here : List Body) (get : ℕ → Option ℕ) (named : List ℕ) (count : ℕ) → IsPassing so_far here get named count
    → length here ≡ length so_far.bodies
here_long so_far here get named count rule = ap length rule.present ∙ after-length so_far.passes so_far.bodies

-- a body that no move names stays
pub unmoved : (moves : List Move) (bodies : List Body) (j : ℕ) → names moves j ≡ false → body_at (shifted moves bodies) j ≡ body_at bodies j
unfolding shifted
unmoved [] bodies j none = refl
unmoved (m ∷ ms) bodies j none =
    let parts = neither (m.body == j) (names ms j) none in
    let apart : j ≢ m.body = λ e. let met = eq-eqb m.body j (sym e) in let both : true ≡ false = sym met ∙ parts.0 in cc in
    unmoved ms (moved m bodies) j parts.1 ∙ get_or-set_other bodies m.body j _ nobody apart

-- the pass that is open can be one, where no two bodies are at one point after it
pub pass_is : (so_far : SoFar) (here after : List Body) (get : ℕ → Option ℕ) (named : List ℕ) (count : ℕ) → IsPassing so_far here get named count
    → after ≡ shifted so_far.moves here → AreApart (sites_of after) → IsPass (present so_far) so_far.moves
pass_is so_far here after get named count rule is apart =
    let long = ap length rule.present ∙ after-length so_far.passes so_far.bodies in
    record {
      known = rw (after-length so_far.passes so_far.bodies) rule.known;
      once = rule.once;
      apart = rw (← rule.present, ← is) apart;
    }

-- the state with the pass ended
abbrev pub pass_more : SoFar → SoFar
pass_more so_far = record { bodies = so_far.bodies; passes = so_far.passes ++ so_far.moves ∷ []; moves = [] }

pub passing_closed : (so_far : SoFar) (here after : List Body) (get new : ℕ → Option ℕ) (named : List ℕ) (count : ℕ) → IsPassing so_far here get named count
    → after ≡ shifted so_far.moves here → length so_far.passes < 1024 → ((j : ℕ) → j < length after → IsFound new after j)
    → IsPassing (pass_more so_far) after new named count
passing_closed so_far here after get new named count rule is few found =
    let pass = pass_is so_far here after get named count rule is (found_apart after new found) in
    let count_is = rule.count_is in
    let size = length-append so_far.passes (so_far.moves ∷ []) in
    record {
      scene = scene_more so_far.bodies so_far.passes so_far.moves rule.scene pass few (omega (arith, rule.few_moves)) rule.in_cube;
      present = is ∙ ap (shifted so_far.moves) rule.present ∙ sym (after_one so_far.passes so_far.moves so_far.bodies);
      found = found;
      named_long = rule.named_long;
      named_is = λ n less.
          let low = rule.named_low n less in
          sym (past_pass (get_or named n 0) (length (so_far.passes ++ so_far.moves ∷ []) + 1) (omega arith));
      named_low = λ n less. let low = rule.named_low n less in omega arith;
      count_is = omega (arith, count_is, count_more so_far.passes so_far.moves);
      few_moves = rule.few_moves;
      known = λ i d less. absurd (omega arith);
      once = λ i j less within. absurd (omega arith);
      in_cube = λ i d less. absurd (omega arith);
    }
  where
    past_pass : (a b : ℕ) → a < b → (a == b) ≡ false
    past_pass a b less = grind (arith, nat_tests)

-- the end of a pass is accepted where no two bodies are at one point after it
pub pass_ok : (number : ℕ) (so_far : SoFar) (here after : List Body) (get : ℕ → Option ℕ) (named : List ℕ) (count : ℕ)
    → IsPassing so_far here get named count → after ≡ shifted so_far.moves here → length so_far.passes < 1024 → AreApart (sites_of after)
    → with_pass number so_far ≡ Ok (pass_more so_far)
pass_ok number so_far here after get named count rule is few apart =
    let none : first_meeting [] (shifted so_far.moves (present so_far)) ≡ None =
    none_meet [] (shifted so_far.moves (present so_far)) (rw (← rule.present, ← is) apart) in
    rw (not_up_to 1024 (length so_far.passes) few, none) refl
