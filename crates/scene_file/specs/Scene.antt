-- The scene of a file's bytes, and its first fault.
use Rattle.std.specs.Prelude.{◌≡◌, ◌+◌, ◌^◌, ◌==◌, ◌&&◌, ℕ, Bool, true, false, List, [], ◌∷◌, ◌++◌, length, nat_le, nat_lt, if◌then◌else◌, unwrap_or, codes}
use Rattle.std.specs.Prelude.{⊤, Option, Some, None, Result, Ok, Err}
use Rattle.std.specs.List.{list_any}
use Rattle.std.specs.Str.{bytes_eq}
use Rattle.csv.specs.Reading.{default_config, records, strip_bom}
use Rattle.csv.specs.Records.{field_at}
use Rattle.octant_code.specs.Decimal.{decimal_read}
use Rattle.octant_code.specs.Space.{Site}
use Rattle.octant_code.specs.declared.decimal.NumberFault.{NumberFault}
use Rattle.octant_code.specs.declared.decimal.NumberFault.TheVariants.{NotDigits, TooLarge}
use Rattle.scene_file.specs.Bodies.{number_at, total_mass}
use Rattle.scene_file.specs.declared.bodies.Body.{Body}
use Rattle.octant_code.specs.declared.limits.TheConstants.{MOST_BODIES}
use Rattle.scene_file.specs.Moves.{SceneParts, after_passes, move_count, shifted}
use Rattle.scene_file.specs.declared.entry.Entry.{Entry}
use Rattle.scene_file.specs.declared.entry.Entry.TheVariants as entry
use Rattle.scene_file.specs.declared.moves.Move.{Move}
use Rattle.scene_file.specs.declared.moves.TheConstants.{MOST_MOVES, MOST_PASSES}
use Rattle.scene_file.specs.declared.scene.TheConstants.{MOST_BYTES}
use Rattle.scene_file.specs.declared.fault.SceneFault.{SceneFault}
use Rattle.scene_file.specs.declared.fault.SceneFault.TheVariants as fault

-- the records of a scene's bytes: those of `csv`, with no header row and of any lengths, after a byte order mark at the front
abbrev pub records_of : List ℕ → List (List (List ℕ))
records_of bytes = records default_config (strip_bom bytes)

-- the bytes of a field, none where the record has no such field
abbrev pub field_text : List (List ℕ) → ℕ → List ℕ
field_text fields n = unwrap_or (field_at fields n) []

-- the number of at most max in a field
abbrev pub field_number : List (List ℕ) → ℕ → ℕ → Result ℕ NumberFault
field_number fields n max = decimal_read (field_text fields n) max

-- whether a record has so many fields, and the first is this word
abbrev pub is_record : List (List ℕ) → ℕ → List ℕ → Bool
is_record fields count word = (length fields == count) && bytes_eq (field_text fields 0) word

-- whether a record is that of a body, of a move, or of the end of a pass
abbrev pub is_body : List (List ℕ) → Bool
is_body fields = is_record fields 5 (codes "body")

abbrev pub is_move : List (List ℕ) → Bool
is_move fields = is_record fields 5 (codes "move")

abbrev pub is_pass : List (List ℕ) → Bool
is_pass fields = is_record fields 1 (codes "pass")

-- whether a field isn't written in digits
abbrev pub is_no_number : Result ℕ NumberFault → Bool
is_no_number (Ok n) = false
is_no_number (Err NotDigits) = true
is_no_number (Err TooLarge) = false

-- what follows, where there was no fault
abbrev pub then_with : {A B : Type 0} → (A → Result B SceneFault) → Result A SceneFault → Result B SceneFault
then_with next (Ok a) = next a
then_with next (Err f) = Err f

-- the point of the fields 3 to 5: each coordinate has to be within its range
abbrev pub point_from : ℕ → Result ℕ NumberFault → Result ℕ NumberFault → Result ℕ NumberFault → Result Site SceneFault
point_from number (Err f) y z = Err (fault.OutOfRange number 3)
point_from number (Ok x) (Err f) z = Err (fault.OutOfRange number 4)
point_from number (Ok x) (Ok y) (Err f) = Err (fault.OutOfRange number 5)
point_from number (Ok x) (Ok y) (Ok z) = Ok (record { x = x; y = y; z = z })

-- the fields 2 to 5 are numbers, or the first that isn't is a fault
abbrev pub are_numbers : ℕ → Result ℕ NumberFault → Result ℕ NumberFault → Result ℕ NumberFault → Result ℕ NumberFault → Result (Unit {0}) SceneFault
are_numbers number first x y z =
    if is_no_number first then Err (fault.BadNumber number 2)
    else if is_no_number x then Err (fault.BadNumber number 3)
    else if is_no_number y then Err (fault.BadNumber number 4)
    else if is_no_number z then Err (fault.BadNumber number 5)
    else Ok tt

-- the body of a mass, which has to be within its range and at least 1, and of a point
abbrev pub body_from : ℕ → Result ℕ NumberFault → Result Site SceneFault → Result Body SceneFault
body_from number (Err f) at = Err (fault.OutOfRange number 2)
body_from number (Ok mass) at =
    if nat_lt 0 mass then then_with (λ (site : Site). Ok (record { mass = mass; at = site })) at else Err (fault.OutOfRange number 2)

-- the move of a body's number, which has to be within its range, and of a point
abbrev pub move_from : ℕ → Result ℕ NumberFault → Result Site SceneFault → Result Move SceneFault
move_from number (Err f) to = Err (fault.OutOfRange number 2)
move_from number (Ok body) to = then_with (λ (site : Site). Ok (record { body = body; to = site })) to

-- the point of a record's fields 3 to 5
abbrev pub point_of : ℕ → List (List ℕ) → Result Site SceneFault
point_of number fields = point_from number (field_number fields 2 2097151) (field_number fields 3 2097151) (field_number fields 4 2097151)

-- a record's fields 2 to 5 are numbers, of which the first has this bound
abbrev pub have_numbers : ℕ → List (List ℕ) → ℕ → Result (Unit {0}) SceneFault
have_numbers number fields max =
    are_numbers number (field_number fields 1 max) (field_number fields 2 2097151) (field_number fields 3 2097151) (field_number fields 4 2097151)

-- the body of the record of this number: first each field has to be a number, and only then each within its range
abbrev pub body_of : ℕ → List (List ℕ) → Result Body SceneFault
body_of number fields = then_with (λ _. body_from number (field_number fields 1 4294967295) (point_of number fields)) (have_numbers number fields 4294967295)

-- the move of the record of this number
abbrev pub move_of : ℕ → List (List ℕ) → Result Move SceneFault
move_of number fields = then_with (λ _. move_from number (field_number fields 1 65535) (point_of number fields)) (have_numbers number fields 65535)

-- what the record of this number says
abbrev pub entry_of : ℕ → List (List ℕ) → Result Entry SceneFault
entry_of number fields =
    if is_body fields then then_with (λ (body : Body). Ok (entry.Body body)) (body_of number fields)
    else if is_move fields then then_with (λ (move : Move). Ok (entry.Move move)) (move_of number fields)
    else if is_pass fields then Ok entry.Pass
    else Err (fault.BadRecord number)

-- what records gave so far: the bodies, the passes that are ended, and the moves of the one that isn't
pub record SoFar : Type 0 where
  pub bodies : List Body
  pub passes : List (List Move)
  pub moves : List Move

-- bodies alone, with neither a move nor a pass
abbrev pub still : List Body → SoFar
still bodies = record { bodies = bodies; passes = []; moves = [] }

-- what no records gave
abbrev pub nothing : SoFar
nothing = still []

-- whether no record was that of a move or of a pass
abbrev pub is_still : SoFar → Bool
is_still so_far = (length so_far.passes == 0) && (length so_far.moves == 0)

-- the bodies at present: after the passes that are ended
abbrev pub present : SoFar → List Body
present so_far = after_passes so_far.passes so_far.bodies

-- one more body, which comes before any move or pass
abbrev pub with_new : ℕ → SoFar → Body → Result SoFar SceneFault
with_new number so_far body =
    if is_still so_far then Ok (still (so_far.bodies ++ body ∷ [])) else Err (fault.BodyAfterMove number)

-- one more body, at a point that no record gave
abbrev pub placed : ℕ → SoFar → Body → Option ℕ → Result SoFar SceneFault
placed number so_far body None = with_new number so_far body
placed number so_far body (Some earlier) = Err (fault.Coincident number earlier (length so_far.bodies))

-- one more body: there is place for it, the total mass stays below 2 ^ 40, and no record gave its point
abbrev pub with_body : ℕ → SoFar → Body → Result SoFar SceneFault
with_body number so_far body =
    if nat_le MOST_BODIES (length so_far.bodies) then Err (fault.TooMany number)
    else if nat_le (2 ^ 40) (total_mass so_far.bodies + body.mass) then Err (fault.MassTotal number)
    else placed number so_far body (number_at so_far.bodies body.at)

-- whether one of the moves names a body
abbrev pub names : List Move → ℕ → Bool
names moves n = list_any (λ (m : Move). m.body == n) moves

-- one more move: there is place for it, and it names a body that no move of its pass named before
abbrev pub with_move : ℕ → SoFar → Move → Result SoFar SceneFault
with_move number so_far move =
    if nat_le MOST_MOVES (move_count so_far.passes + length so_far.moves) then Err (fault.TooMany number)
    else if nat_le (length so_far.bodies) move.body then Err (fault.UnknownBody number)
    else if names so_far.moves move.body then Err (fault.MovedTwice number move.body)
    else Ok (record { bodies = so_far.bodies; passes = so_far.passes; moves = so_far.moves ++ move ∷ [] })

-- a body of this number meets an earlier one at its point; where there is none, others meet
abbrev pub meeting : Option ℕ → ℕ → Option (ℕ × ℕ) → Option (ℕ × ℕ)
meeting (Some earlier) later others = Some (earlier, later)
meeting None later others = others

-- the first of bodies that is at the point of one before it, and the first at that point; `before` stand before all of them
unfoldable pub first_meeting : List Body → List Body → Option (ℕ × ℕ)
first_meeting before [] = None
first_meeting before (body ∷ bodies) = meeting (number_at before body.at) (length before) (first_meeting (before ++ body ∷ []) bodies)

-- a pass more, unless two bodies meet
abbrev pub with_moved : ℕ → SoFar → Option (ℕ × ℕ) → Result SoFar SceneFault
with_moved number so_far None = Ok (record { bodies = so_far.bodies; passes = so_far.passes ++ so_far.moves ∷ []; moves = [] })
with_moved number so_far (Some pair) = Err (fault.PassCoincident number pair.0 pair.1)

-- the end of a pass: there is place for it, and after all its moves no two bodies are at one point
abbrev pub with_pass : ℕ → SoFar → Result SoFar SceneFault
with_pass number so_far =
    if nat_le MOST_PASSES (length so_far.passes) then Err (fault.TooMany number)
    else with_moved number so_far (first_meeting [] (shifted so_far.moves (present so_far)))

-- what a record says, added
abbrev pub with_entry : ℕ → SoFar → Entry → Result SoFar SceneFault
with_entry number so_far (entry.Body body) = with_body number so_far body
with_entry number so_far (entry.Move move) = with_move number so_far move
with_entry number so_far entry.Pass = with_pass number so_far

-- the record of this number, added
abbrev pub with_record : ℕ → SoFar → List (List ℕ) → Result SoFar SceneFault
with_record number so_far fields = then_with (with_entry number so_far) (entry_of number fields)

-- the scene where no pass is open
abbrev pub ended : SoFar → SceneParts
ended so_far = record { bodies = so_far.bodies; passes = so_far.passes }

-- the scene at the end of the file: where moves stand behind the last pass, the end closes their pass, as a record of this number would
abbrev pub closed : ℕ → SoFar → Result SceneParts SceneFault
closed number so_far =
    if length so_far.moves == 0 then Ok (ended so_far) else then_with (λ (last : SoFar). Ok (ended last)) (with_pass number so_far)

-- the scene of records, the first of which has this number, after what those before it gave; or the first fault
unfoldable pub scene_after : List (List (List ℕ)) → ℕ → SoFar → Result SceneParts SceneFault
scene_after [] number so_far = closed number so_far
scene_after (fields ∷ rows) number so_far = then_with (scene_after rows (number + 1)) (with_record number so_far fields)

-- the scene of a file's bytes, or the first fault
abbrev pub scene_of : List ℕ → Result SceneParts SceneFault
scene_of bytes = if nat_lt MOST_BYTES (length bytes) then Err fault.TooLong else scene_after (records_of bytes) 1 nothing

-- the fault that was told is the one that was to be told, or it is want of memory
abbrev pub IsFaultOf : {A : Type 0} → Result A SceneFault → SceneFault → Type 0
IsFaultOf wanted fault.OutOfMemory = ⊤
IsFaultOf wanted told = wanted ≡ Err told

-- what is answered is the wanted scene, or the wanted fault
abbrev pub Reads : {A : Type 0} → Result A SceneFault → Result A SceneFault → Type 0
Reads (Ok scene) wanted = wanted ≡ Ok scene
Reads (Err f) wanted = IsFaultOf wanted f
