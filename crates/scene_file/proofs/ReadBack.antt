-- The text of a scene reads as the scene.
use Rattle.std.proofs.Common.{◌≡◌, ◌≢◌, ◌∙◌, ◌<◌, ◌≤◌, ◌+◌, ◌*◌, ◌-◌, ◌^◌, ◌==◌, ℕ, suc, Bool, true, false, List, [], ◌∷◌, ◌++◌, All, map, take, length, get_or}
use Rattle.std.proofs.Common.{None, Ok, codes, decimal, refl, sym, ap, subst, arith, inl, inr, add-zero, eqb-true, length-append, lt-ltb}
use Rattle.std.specs.Prelude.{flat_map, if◌then◌else◌, nat_lt}
use Rattle.std.specs.Int.{IsInRange}
use Rattle.std.specs.List.{list_all}
use Rattle.std.specs.Char.{is_ascii_digit}
use Rattle.std.proofs.lemmas.Bool.{cases_Bool}
use Rattle.std.proofs.lemmas.Bool.Decides.{nat_tests}
use Rattle.std.proofs.lemmas.Fmt.{decimal_is_IsNumeral, length-decimal-le}
use Rattle.std.proofs.lemmas.Str.Parse.{digit_at}
use Rattle.std.proofs.lemmas.List.{append_assoc, append-nil, get_or_append_left, length-map, map-append, take_more}
use Rattle.std.proofs.lemmas.Grind.{flat_map-append}
use Rattle.std.proofs.lemmas.List.Elements.{All-from_get_or, All-get_or, All-head, All-tail, All-weaker}
use Rattle.std.proofs.lemmas.List.Folds.{list_any_none}
use Rattle.std.proofs.lemmas.List.Sums.{sum_by-append}
use Rattle.std.proofs.Math.Seq.{get_or-append_seam, take-append_seam}
use Rattle.csv.specs.Machine.{next_record}
use Rattle.csv.specs.Reading.{default_config, records, records_from, strip_bom}
use Rattle.csv.specs.Records.{field_at}
use Rattle.csv.specs.Writing.{default_writer, field_text, fields_text, is_blank, needs_byte, read_back, row_body, row_text}
use Rattle.csv.specs.declared.parser.State.TheVariants as st
use Rattle.csv.proofs.RoundTrip.{read-write, rows_text}
use Rattle.octant_code.specs.Decimal.{decimal_read}
use Rattle.octant_code.specs.Space.{IsInCube, Site, origin}
use Rattle.scene_file.specs.Bodies.{AreBodies, body_at, nobody, number_at, sites_of, total_mass}
use Rattle.scene_file.specs.Moves.{IsPass, IsScene, SceneParts, after_passes, move_at, move_count, no_move, pass_at, shifted}
use Rattle.scene_file.specs.Scene.{SoFar, entry_of, first_meeting, names, scene_after, scene_of, still, with_body, with_record}
use Rattle.scene_file.specs.Text.{body_text, move_text, pass_text, record_text, text_of_scene}
use Rattle.scene_file.specs.declared.bodies.Body.{Body}
use Rattle.scene_file.specs.declared.entry.Entry.TheVariants as entry
use Rattle.scene_file.specs.declared.moves.Move.{Move}
use Rattle.scene_file.proofs.BodyLists.{none_at, total_mass-push}
use Rattle.scene_file.proofs.Finding.{body_inside}
use Rattle.scene_file.proofs.Meetings.{none_meet}
use Rattle.scene_file.proofs.PassingRule.{after-length, move_more, moved_more, not_up_to, pass_more}
use Rattle.scene_file.proofs.Records.{none_from}
use Rattle.scene_file.proofs.Scenes.{accepted_more}

-- the numbers of a body are within the ranges of their fields
pub record IsInRanges (b : Body) : Type 0 where
  pub massive : 0 < b.mass
  pub mass : b.mass ≤ 4294967295
  pub x : b.at.x ≤ 2097151
  pub y : b.at.y ≤ 2097151
  pub z : b.at.z ≤ 2097151

-- so are those of a body with mass whose point lies in the cube
pub in_ranges : (b c : Body) → b ≡ c → 0 < c.mass → b.mass < 2 ^ 32 → IsInCube b.at → IsInRanges c
in_ranges b c same massive mass inside =
    subst IsInRanges same
    (record {
      massive = rw same massive;
      mass = omega arith;
      x = omega (arith, inside.x_fits);
      y = omega (arith, inside.y_fits);
      z = omega
          (arith, inside.z_fits);
    })

-- each byte of a number in decimal is a digit
All-decimal : (n : ℕ) → n < 2 ^ 64 → All (IsInRange 48 57) (decimal n)
All-decimal n small = All-from_get_or (IsInRange 48 57) (decimal n) 0 λ i h. digit_at (decimal n) i (decimal_is_IsNumeral n small).0.1 h

-- a test that holds of each holds of all
list_all_of : (p : ℕ → Bool) (xs : List ℕ) → All (λ b. p b ≡ true) xs → list_all p xs ≡ true
list_all_of p [] h = refl
list_all_of p (x ∷ xs) h = rw (All-head (λ b. p b ≡ true) x xs h, list_all_of p xs (All-tail (λ b. p b ≡ true) x xs h)) refl

all_digits : (n : ℕ) → n < 2 ^ 64 → list_all is_ascii_digit (decimal n) ≡ true
all_digits n small =
    list_all_of is_ascii_digit (decimal n)
    (All-weaker (IsInRange 48 57) (λ b. is_ascii_digit b ≡ true) (λ b h. grind (arith, nat_tests)) (decimal n) (All-decimal n small))

not_below : (a b : ℕ) → b ≤ a → nat_lt a b ≡ false
not_below a b h = grind (arith, nat_tests)

-- a number in decimal reads as the number
number_back : (n max : ℕ) → n ≤ max → max < 2 ^ 64 → decimal_read (decimal n) max ≡ Ok n
number_back n max within wide =
    let small : n < 2 ^ 64 = omega arith in
    let (numeral, value) = decimal_is_IsNumeral n small in
    rw (lt-ltb 0 (length (decimal n)) numeral.0, all_digits n small, value, not_below max n within) refl

-- a number in decimal needs no quotes
plain : (n : ℕ) → n < 2 ^ 64 → field_text default_writer (decimal n) ≡ decimal n
plain n small =
    rw (list_any_none (needs_byte default_writer) (decimal n)
    (All-weaker (IsInRange 48 57) (λ b. needs_byte default_writer b ≡ false) (λ b h. grind (arith, nat_tests)) (decimal n) (All-decimal n small))) refl

-- the fields of a body's record
abbrev pub row_of : Body → List (List ℕ)
row_of b = codes "body" ∷ decimal b.mass ∷ decimal b.at.x ∷ decimal b.at.y ∷ decimal b.at.z ∷ []

-- the text of a body's record is that which a writer of `csv` gives its fields
row_is : (b : Body) → IsInRanges b → row_text default_writer (row_of b) ≡ body_text b
unfolding fields_text is_blank
row_is b h =
    rw (plain b.mass (omega (arith, h.mass)), plain b.at.x (omega (arith, h.x)), plain b.at.y (omega (arith, h.y)), plain b.at.z (omega (arith, h.z)))
    (append_assoc (codes "body") (flat_map (λ n. 44 ∷ decimal n) (b.mass ∷ b.at.x ∷ b.at.y ∷ b.at.z ∷ [])) (10 ∷ []))

-- the numbers of a move are within the ranges of their fields
pub record IsMoveInRanges (m : Move) : Type 0 where
  pub body : m.body ≤ 65535
  pub x : m.to.x ≤ 2097151
  pub y : m.to.y ≤ 2097151
  pub z : m.to.z ≤ 2097151

-- the fields of a move's record
abbrev pub row_of_move : Move → List (List ℕ)
row_of_move m = codes "move" ∷ decimal m.body ∷ decimal m.to.x ∷ decimal m.to.y ∷ decimal m.to.z ∷ []

-- the text of a move's record is that which a writer of `csv` gives its fields
move_row_is : (m : Move) → IsMoveInRanges m → row_text default_writer (row_of_move m) ≡ move_text m
unfolding fields_text is_blank
move_row_is m h =
    rw (plain m.body (omega (arith, h.body)), plain m.to.x (omega (arith, h.x)), plain m.to.y (omega (arith, h.y)), plain m.to.z (omega (arith, h.z)))
    (append_assoc (codes "move") (flat_map (λ n. 44 ∷ decimal n) (m.body ∷ m.to.x ∷ m.to.y ∷ m.to.z ∷ [])) (10 ∷ []))

-- the fields of the record of a pass's end
abbrev pub row_of_pass : List (List ℕ)
row_of_pass = codes "pass" ∷ []

pass_row_is : row_text default_writer row_of_pass ≡ codes "pass" ++ 10 ∷ []
unfolding fields_text is_blank
pass_row_is = refl

-- the records of bodies, of a pass and of passes, before others
abbrev pub body_rows : List Body → List (List (List ℕ)) → List (List (List ℕ))
body_rows [] rows = rows
body_rows (b ∷ bs) rows = row_of b ∷ body_rows bs rows

abbrev pub pass_rows : List Move → List (List (List ℕ)) → List (List (List ℕ))
pass_rows [] rows = row_of_pass ∷ rows
pass_rows (m ∷ ms) rows = row_of_move m ∷ pass_rows ms rows

abbrev pub passes_rows : List (List Move) → List (List (List ℕ))
passes_rows [] = []
passes_rows (p ∷ ps) = pass_rows p (passes_rows ps)

-- each move of each pass is within its ranges
abbrev pub AreInRanges : List (List Move) → Type 0
AreInRanges passes = All (λ (moves : List Move). All IsMoveInRanges moves) passes

-- the text is that of the records
bodies_text : (bodies : List Body) (rows : List (List (List ℕ))) (text : List ℕ) → All IsInRanges bodies → text ≡ rows_text rows
    → flat_map body_text bodies ++ text ≡ rows_text (body_rows bodies rows)
unfolding rows_text
bodies_text [] rows text h e = e
bodies_text (b ∷ bs) rows text h e =
    append_assoc (body_text b) (flat_map body_text bs) text ∙ ap (λ t. body_text b ++ t) (bodies_text bs rows text (All-tail IsInRanges b bs h) e)
    ∙ ap (λ t. t ++ rows_text (body_rows bs rows)) (sym (row_is b (All-head IsInRanges b bs h)))

one_pass_text : (moves : List Move) (rows : List (List (List ℕ))) (text : List ℕ) → All IsMoveInRanges moves → text ≡ rows_text rows
    → pass_text moves ++ text ≡ rows_text (pass_rows moves rows)
unfolding rows_text
one_pass_text [] rows text h e = ap (λ t. (codes "pass" ++ 10 ∷ []) ++ t) e ∙ ap (λ t. t ++ rows_text rows) (sym pass_row_is)
one_pass_text (m ∷ ms) rows text h e =
    let end : List ℕ = codes "pass" ++ 10 ∷ [] in
    ap (λ t. t ++ text) (append_assoc (move_text m) (flat_map move_text ms) end) ∙ append_assoc (move_text m) (flat_map move_text ms ++ end) text
    ∙ ap (λ t. move_text m ++ t) (one_pass_text ms rows text (All-tail IsMoveInRanges m ms h) e)
    ∙ ap (λ t. t ++ rows_text (pass_rows ms rows)) (sym (move_row_is m (All-head IsMoveInRanges m ms h)))

passes_text : (passes : List (List Move)) → AreInRanges passes → flat_map pass_text passes ≡ rows_text (passes_rows passes)
unfolding rows_text
passes_text [] h = refl
passes_text (p ∷ ps) h =
    let P : List Move → Type 0 = λ moves. All IsMoveInRanges moves in
    one_pass_text p (passes_rows ps) (flat_map pass_text ps) (All-head P p ps h) (passes_text ps (All-tail P p ps h))

-- records that are written are read, with any number of steps to spare
no_row : next_record default_config st.StartRecord [] [] [] ≡ None
unfolding next_record
no_row = refl

rows_read : (rows : List (List (List ℕ))) (k : ℕ) → records_from default_config (length rows + k) st.StartRecord (rows_text rows) ≡ map read_back rows
unfolding records_from rows_text
rows_read [] k = none_from default_config st.StartRecord [] (0 + k) no_row
rows_read (r ∷ rs) k =
    let e : length (r ∷ rs) + k ≡ suc (length rs + k) = omega arith in
    rw (e, read-write r (rows_text rs), rows_read rs k) refl

-- each record of a scene has a field
bodies_back : (bodies : List Body) (rows : List (List (List ℕ))) → map read_back rows ≡ rows → map read_back (body_rows bodies rows) ≡ body_rows bodies rows
bodies_back [] rows e = e
bodies_back (b ∷ bs) rows e = ap (λ (t : List (List (List ℕ))). row_of b ∷ t) (bodies_back bs rows e)

pass_back : (moves : List Move) (rows : List (List (List ℕ))) → map read_back rows ≡ rows → map read_back (pass_rows moves rows) ≡ pass_rows moves rows
pass_back [] rows e = ap (λ (t : List (List (List ℕ))). row_of_pass ∷ t) e
pass_back (m ∷ ms) rows e = ap (λ (t : List (List (List ℕ))). row_of_move m ∷ t) (pass_back ms rows e)

passes_back : (passes : List (List Move)) → map read_back (passes_rows passes) ≡ passes_rows passes
passes_back [] = refl
passes_back (p ∷ ps) = pass_back p (passes_rows ps) (passes_back ps)

-- a record is not empty, so that there are no more records than bytes
rows_few : (rows : List (List (List ℕ))) → length rows ≤ length (rows_text rows)
unfolding rows_text
rows_few [] = omega arith
rows_few (r ∷ rs) =
    let rest = rows_few rs in
    let all = length-append (row_text default_writer r) (rows_text rs) in
    let blank : List ℕ = if is_blank default_writer r then 34 ∷ 34 ∷ [] else [] in
    let one = length-append (row_body default_writer r) (blank ++ (10 ∷ [])) in
    let two = length-append blank (10 ∷ []) in
    omega arith

-- the text of one more of a list
pub text_more : {X : Type 0} (f : X → List ℕ) (xs : List X) (n : ℕ) (d : X) (start old new : List ℕ) → n < length xs → old ≡ start ++ flat_map f (take n xs)
    → new ≡ old ++ f (get_or xs n d) → new ≡ start ++ flat_map f (take (n + 1) xs)
text_more f xs n d start old new within before after =
    let x = get_or xs n d in
    let more : flat_map f (take (n + 1) xs) ≡ flat_map f (take n xs) ++ f x =
    ap (λ l. flat_map f l) (take_more xs n d within) ∙ flat_map-append f (take n xs) (x ∷ []) ∙ ap (λ t. flat_map f (take n xs) ++ t) (append-nil (f x)) in
    after ∙ ap (λ t. t ++ f x) before ∙ append_assoc start (flat_map f (take n xs)) (f x) ∙ ap (λ t. start ++ t) (sym more)

-- the text has no mark at its front
unmarked_passes : (passes : List (List Move)) → strip_bom (flat_map pass_text passes) ≡ flat_map pass_text passes
unfolding strip_bom
unmarked_passes [] = refl
unmarked_passes ([] ∷ ps) = refl
unmarked_passes ((m ∷ ms) ∷ ps) = refl

unmarked : (bodies : List Body) (passes : List (List Move)) → strip_bom (flat_map body_text bodies ++ flat_map pass_text passes)
    ≡ flat_map body_text bodies ++ flat_map pass_text passes
unfolding strip_bom
unmarked [] passes = unmarked_passes passes
unmarked (b ∷ bs) passes = refl

-- a number of 32 bits has at most ten digits
digits_few : (n : ℕ) → n < 2 ^ 32 → length (decimal n) ≤ 10
digits_few n small = length-decimal-le 10 n (omega arith) (omega arith) (omega arith)

-- the text of a record of a short word is short, and not empty
record_short : (word : List ℕ) (n : ℕ) (at : Site) → length word ≡ 4 → n < 2 ^ 32 → at.x < 2 ^ 32 → at.y < 2 ^ 32 → at.z < 2 ^ 32
    → (length (record_text word n at) ≤ 49) × (1 ≤ length (record_text word n at))
record_short word n at four n_small x_small y_small z_small =
    let m = digits_few n n_small in
    let x = digits_few at.x x_small in
    let y = digits_few at.y y_small in
    let z = digits_few at.z z_small in
    let numbers = flat_map (λ k. 44 ∷ decimal k) (n ∷ at.x ∷ at.y ∷ at.z ∷ []) in
    let first = length-append (decimal n) ((44 ∷ decimal at.x) ++ ((44 ∷ decimal at.y) ++ ((44 ∷ decimal at.z) ++ []))) in
    let second = length-append (decimal at.x) ((44 ∷ decimal at.y) ++ ((44 ∷ decimal at.z) ++ [])) in
    let third = length-append (decimal at.y) ((44 ∷ decimal at.z) ++ []) in
    let fourth = length-append (decimal at.z) [] in
    let ended = length-append numbers (10 ∷ []) in
    let all = length-append word (numbers ++ (10 ∷ [])) in
    (omega arith, omega arith)

-- the text of a body is short, and not empty
body_short : (b : Body) → IsInRanges b → (length (body_text b) ≤ 49) × (1 ≤ length (body_text b))
body_short b h =
    record_short (codes "body") b.mass b.at refl (omega (arith, h.mass)) (omega (arith, h.x)) (omega (arith, h.y)) (omega (arith, h.z))

-- the texts of bodies and of passes are short
bodies_short : (bodies : List Body) → All IsInRanges bodies → length (flat_map body_text bodies) ≤ 49 * length bodies
bodies_short [] h = omega arith
bodies_short (b ∷ bs) h =
    let first = body_short b (All-head IsInRanges b bs h) in
    let rest = bodies_short bs (All-tail IsInRanges b bs h) in
    let sum = length-append (body_text b) (flat_map body_text bs) in
    omega (arith, first.0, rest)

move_short : (m : Move) → IsMoveInRanges m → length (move_text m) ≤ 49
move_short m h =
    (record_short (codes "move") m.body m.to refl (omega (arith, h.body)) (omega (arith, h.x)) (omega (arith, h.y)) (omega (arith, h.z))).0

moves_short : (moves : List Move) → All IsMoveInRanges moves → length (flat_map move_text moves) ≤ 49 * length moves
moves_short [] h = omega arith
moves_short (m ∷ ms) h =
    let first = move_short m (All-head IsMoveInRanges m ms h) in
    let rest = moves_short ms (All-tail IsMoveInRanges m ms h) in
    let sum = length-append (move_text m) (flat_map move_text ms) in
    omega arith

passes_short : (passes : List (List Move)) → AreInRanges passes → length (flat_map pass_text passes) ≤ 49 * move_count passes + 5 * length passes
passes_short [] h = omega arith
passes_short (p ∷ ps) h =
    let P : List Move → Type 0 = λ moves. All IsMoveInRanges moves in
    let first = moves_short p (All-head P p ps h) in
    let rest = passes_short ps (All-tail P p ps h) in
    let sum = length-append (pass_text p) (flat_map pass_text ps) in
    let own = length-append (flat_map move_text p) (codes "pass" ++ 10 ∷ []) in
    let counted : move_count (p ∷ ps) ≡ 0 + length p + move_count ps = sum_by-append (λ (m : List Move). length m) (p ∷ []) ps in
    omega arith

-- the record of a body says the body
body_back : (number : ℕ) (b : Body) → IsInRanges b → entry_of number (row_of b) ≡ Ok (entry.Body b)
unfolding field_at
body_back number b h =
    rw (
      number_back b.mass 4294967295 h.mass (omega arith),
      number_back b.at.x 2097151 h.x (omega arith),
      number_back b.at.y 2097151 h.y (omega arith),
      number_back b.at.z 2097151 h.z (omega arith),
      lt-ltb 0 b.mass h.massive,
    ) refl

-- that of a move the move, and that of a pass's end the end
move_back : (number : ℕ) (m : Move) → IsMoveInRanges m → entry_of number (row_of_move m) ≡ Ok (entry.Move m)
unfolding field_at
move_back number m h =
    rw (
      number_back m.body 65535 h.body (omega arith),
      number_back m.to.x 2097151 h.x (omega arith),
      number_back m.to.y 2097151 h.y (omega arith),
      number_back m.to.z 2097151 h.z (omega arith),
    ) refl

end_back : (number : ℕ) → entry_of number row_of_pass ≡ Ok entry.Pass
unfolding field_at
end_back number = refl

-- the next of bodies that keep the rule stands at a point of its own
free : (start more : List Body) (b : Body) → AreBodies (start ++ b ∷ more) → number_at start b.at ≡ None
free start more b rule = none_at start b.at 0 (λ i within same.
    let sites : sites_of (start ++ b ∷ more) ≡ sites_of start ++ b.at ∷ sites_of more = map-append (λ (b : Body). b.at) start (b ∷ more) in
    let count : length (sites_of start) ≡ length start = length-map start (λ (b : Body). b.at) in
    let all = length-append start (b ∷ more) in
    let size = length-map (start ++ b ∷ more) (λ (b : Body). b.at) in
    let early = get_or_append_left (sites_of start) (b.at ∷ sites_of more) origin i (omega arith) in
    let seam = get_or-append_seam (sites_of start) b.at (sites_of more) origin in
    rule.apart i (length start) within (omega arith)
    (ap (λ l. get_or l i origin) sites ∙ early ∙ same ∙ sym (rw count at seam) ∙ ap (λ l. get_or l (length start) origin) (sym sites)))

-- the next of bodies that keep the rule is accepted
joined_back : (number : ℕ) (start more : List Body) (b : Body) → AreBodies (start ++ b ∷ more)
    → with_body number (still start) b ≡ Ok (still (start ++ b ∷ []))
joined_back number start more b rule =
    let all = length-append start (b ∷ more) in
    let few : length start < 65536 = omega (arith, rule.few) in
    let same : total_mass (start ++ b ∷ more) ≡ total_mass ((start ++ b ∷ []) ++ more) = ap (λ l. total_mass l) (sym (append_assoc start (b ∷ []) more)) in
    let sum : total_mass ((start ++ b ∷ []) ++ more) ≡ total_mass (start ++ b ∷ []) + total_mass more = sum_by-append (λ (b : Body). b.mass) (start ++ b ∷ [])
    more in
    let one = total_mass-push start b in
    let small : total_mass start + b.mass < 2 ^ 40 = omega (arith, rule.total, same, sum, one) in
    rw (not_up_to 65536 (length start) few, not_up_to (2 ^ 40) (total_mass start + b.mass) small, free start more b rule) refl

-- the records of bodies that keep the rule give these bodies
bodies_read : (bodies start : List Body) (rows : List (List (List ℕ))) (number : ℕ) → AreBodies (start ++ bodies) → All IsInRanges bodies
    → scene_after (body_rows bodies rows) number (still start) ≡ scene_after rows (number + length bodies) (still (start ++ bodies))
bodies_read [] start rows number rule h = rw (append-nil start, add-zero) refl
bodies_read (b ∷ bs) start rows number rule h =
    let again = append_assoc start (b ∷ []) bs in
    let read : with_record number (still start) (row_of b) ≡ Ok (still (start ++ b ∷ [])) =
    rw (body_back number b (All-head IsInRanges b bs h)) (joined_back number start bs b rule) in
    let rest = bodies_read bs (start ++ b ∷ []) rows (number + 1) (subst AreBodies (sym again) rule) (All-tail IsInRanges b bs h) in
    let sum : number + 1 + length bs ≡ number + length (b ∷ bs) = omega arith in
    accepted_more (row_of b) (body_rows bs rows) number (still start) (still (start ++ b ∷ [])) read ∙ rw (sum, again) at rest

-- a body that none of the moves names
not_among : (moves : List Move) (n : ℕ) → ((i : ℕ) → i < length moves → (move_at moves i).body ≢ n) → names moves n ≡ false
not_among [] n other = refl
not_among (m ∷ ms) n other = elim (cases_Bool (m.body == n)) [
  | inl same ↦ absurd (other 0 (omega arith) (eqb-true m.body n same))
  | inr differ ↦ rw (differ, not_among ms n (λ i less. other (suc i) (omega arith))) refl
]

-- the records of a pass give the pass
moves_read : (moves done : List Move) (rows : List (List (List ℕ))) (number : ℕ) (bodies : List Body) (passes : List (List Move))
    → IsPass (after_passes passes bodies) (done ++ moves) → length passes < 1024 → move_count passes + length (done ++ moves) ≤ 262144
    → All IsMoveInRanges moves
    → (next : ℕ) × (scene_after (pass_rows moves rows) number (record { bodies = bodies; passes = passes; moves = done })
    ≡ scene_after rows next (record { bodies = bodies; passes = passes ++ (done ++ moves) ∷ []; moves = [] }))
moves_read [] done rows number bodies passes pass few few_moves h =
    let so_far : SoFar = record { bodies = bodies; passes = passes; moves = done } in
    let whole : IsPass (after_passes passes bodies) done = rw append-nil at pass in
    let none : first_meeting [] (shifted done (after_passes passes bodies)) ≡ None = none_meet [] (shifted done (after_passes passes bodies)) whole.apart in
    let read : with_record number so_far row_of_pass ≡ Ok (pass_more so_far) = rw (end_back number, not_up_to 1024 (length passes) few, none) refl in
    (number + 1, accepted_more row_of_pass rows number so_far (pass_more so_far) read ∙ rw (append-nil done) refl)
moves_read (m ∷ ms) done rows number bodies passes pass few few_moves h =
    let so_far : SoFar = record { bodies = bodies; passes = passes; moves = done } in
    let size = length-append done (m ∷ ms) in
    let here : move_at (done ++ m ∷ ms) (length done) ≡ m = get_or-append_seam done m ms no_move in
    let known : m.body < length bodies = rw (here, after-length passes bodies) at (All-get_or (λ (m : Move). m.body < length (after_passes passes bodies))
    (done ++ m ∷ ms) (length done) no_move (omega arith) pass.known) in
    let new : names done m.body ≡ false = not_among done m.body (λ i less e. pass.once i (length done) less (omega arith)
    (ap (λ (y : Move). y.body) (get_or_append_left done (m ∷ ms) no_move i less) ∙ e ∙ ap (λ (y : Move). y.body) (sym here))) in
    let read : with_record number so_far (row_of_move m) ≡ Ok (moved_more so_far m) =
    rw (move_back number m (All-head IsMoveInRanges m ms h)) (move_more number so_far m (omega arith) known new) in
    let again = append_assoc done (m ∷ []) ms in
    let rest = moves_read ms (done ++ m ∷ []) rows (number + 1) bodies passes (subst (IsPass (after_passes passes bodies)) (sym again) pass) few
    (rw again few_moves) (All-tail IsMoveInRanges m ms h) in (
      rest.0,
      accepted_more (row_of_move m) (pass_rows ms rows) number so_far (moved_more so_far m) read
          ∙ subst (λ (l : List Move). scene_after (pass_rows ms rows) (number + 1) (moved_more so_far m)
          ≡ scene_after rows rest.0 (record { bodies = bodies; passes = passes ++ l ∷ []; moves = [] })) again rest.1,
    )

-- the records of passes give the scene
passes_read : (passes start : List (List Move)) (number : ℕ) (bodies : List Body) → IsScene (record { bodies = bodies; passes = start ++ passes })
    → AreInRanges passes
    → scene_after (passes_rows passes) number (record { bodies = bodies; passes = start; moves = [] }) ≡ Ok
    (record { bodies = bodies; passes = start ++ passes })
unfolding scene_after
passes_read [] start number bodies scene h = rw (append-nil start) refl
passes_read (p ∷ ps) start number bodies scene h =
    let P : List Move → Type 0 = λ moves. All IsMoveInRanges moves in
    let again = append_assoc start (p ∷ []) ps in
    let size = length-append start (p ∷ ps) in
    let few = scene.few_passes in
    let own : IsPass (after_passes start bodies) p =
    rw (take-append_seam start (p ∷ ps), get_or-append_seam start p ps []) at (scene.passes (length start) (omega arith)) in
    let counted : move_count (start ++ p ∷ ps) ≡ move_count start + move_count (p ∷ ps) = sum_by-append (λ (m : List Move). length m) start (p ∷ ps) in
    let first_of : move_count (p ∷ ps) ≡ 0 + length p + move_count ps = sum_by-append (λ (m : List Move). length m) (p ∷ []) ps in
    let some : move_count start + length p ≤ 262144 = omega (arith, scene.few_moves, counted, first_of) in
    let first = moves_read p [] (passes_rows ps) number bodies start own (omega arith) some (All-head P p ps h) in
    first.1 ∙ rw again at (passes_read ps (start ++ p ∷ []) first.0 bodies (subst (λ (l : List (List Move)). IsScene (record { bodies = bodies; passes = l }))
    (sym again) scene) (All-tail P p ps h))

-- the moves of a scene are within their ranges
moves_within : (scene : SceneParts) → IsScene scene → AreInRanges scene.passes
moves_within scene rule =
    All-from_get_or (λ (moves : List Move). All IsMoveInRanges moves) scene.passes [] (λ i within.
    let own = rule.passes i within in
    let inside = All-get_or (λ (moves : List Move). All (λ (m : Move). IsInCube m.to) moves) scene.passes i [] within rule.in_cube in
    All-from_get_or IsMoveInRanges (pass_at scene.passes i) no_move (λ j less.
    let known = All-get_or (λ (m : Move). m.body < length (after_passes (take i scene.passes) scene.bodies)) (pass_at scene.passes i) j no_move less
    own.known in
    let named : (move_at (pass_at scene.passes i) j).body < length scene.bodies = rw (after-length (take i scene.passes) scene.bodies) at known in
    let few = rule.bodies.few in
    let cube = All-get_or (λ (m : Move). IsInCube m.to) (pass_at scene.passes i) j no_move less inside in
    record {
      body = omega arith;
      x = omega (arith, cube.x_fits);
      y = omega (arith, cube.y_fits);
      z = omega (arith, cube.z_fits);
    }))

-- the bodies are within theirs, where their masses are numbers of 32 bits
bodies_within : (bodies : List Body) → AreBodies bodies → All (λ (b : Body). b.mass < 2 ^ 32) bodies → All IsInRanges bodies
bodies_within bodies rule small =
    All-from_get_or IsInRanges bodies nobody (λ i within.
    in_ranges (body_at bodies i) (body_at bodies i) refl (All-get_or (λ (b : Body). 0 < b.mass) bodies i nobody within rule.massive)
    (All-get_or (λ (b : Body). b.mass < 2 ^ 32) bodies i nobody within small) (body_inside bodies i rule.in_cube within))

-- the text of a scene reads as the scene
pub scene_back : (scene : SceneParts) → IsScene scene → All (λ (b : Body). b.mass < 2 ^ 32) scene.bodies → scene_of (text_of_scene scene) ≡ Ok scene
scene_back scene rule small =
    let bodies = scene.bodies in
    let passes = scene.passes in
    let h = bodies_within bodies rule.bodies small in
    let m = moves_within scene rule in
    let rows = body_rows bodies (passes_rows passes) in
    let text : text_of_scene scene ≡ rows_text rows = bodies_text bodies (passes_rows passes) (flat_map pass_text passes) h (passes_text passes m) in
    let short_bodies = bodies_short bodies h in
    let short_passes = passes_short passes m in
    let sum = length-append (flat_map body_text bodies) (flat_map pass_text passes) in
    let fits : length (text_of_scene scene) ≤ 16777216 = omega (arith, rule.bodies.few, rule.few_moves, rule.few_passes) in
    let few : length rows ≤ length (text_of_scene scene) = rw text (rows_few rows) in
    let fuel : length (text_of_scene scene) + 1 ≡ length rows + (length (text_of_scene scene) + 1 - length rows) = omega arith in
    let read : records default_config (text_of_scene scene) ≡ rows =
    ap (λ n. records_from default_config n st.StartRecord (text_of_scene scene)) fuel
    ∙ ap (λ t. records_from default_config (length rows + (length (text_of_scene scene) + 1 - length rows)) st.StartRecord t) text
    ∙ rows_read rows (length (text_of_scene scene) + 1 - length rows) ∙ bodies_back bodies (passes_rows passes) (passes_back passes) in
    rw (not_below 16777216 (length (text_of_scene scene)) fits, unmarked bodies passes, read)
    (bodies_read bodies [] (passes_rows passes) 1 rule.bodies h ∙ passes_read passes [] (1 + length bodies) bodies rule m)
