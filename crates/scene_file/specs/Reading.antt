-- How records are read one after another, before it is tested that the bodies' points are apart.
use Rattle.std.specs.Prelude.{◌≡◌, ℕ, false, List, Option, Some, None, if◌then◌else◌, Result, Ok, Err, ⊤}
use Rattle.octant_code.specs.Points.{AreApart}
use Rattle.scene_file.specs.Bodies.{sites_of}
use Rattle.scene_file.specs.Gathering.{gathered}
use Rattle.scene_file.specs.Scene.{IsFaultOf, SoFar, entry_of, is_still, still, then_with, with_body, with_move, with_pass}
use Rattle.scene_file.specs.declared.bodies.Body.{Body}
use Rattle.scene_file.specs.declared.entry.Entry.{Entry}
use Rattle.scene_file.specs.declared.entry.Entry.TheVariants as entry
use Rattle.scene_file.specs.declared.fault.SceneFault.{SceneFault}

-- a step leaves what is wanted, or tells the wanted fault
abbrev pub Adds : {A : Type 0} → A → A → Result A SceneFault → Result (Unit {0}) SceneFault → Type 0
Adds old new wanted (Ok done) = wanted ≡ Ok new
Adds old new wanted (Err f) = IsFaultOf wanted f

-- what bodies that were gathered and passes over them gave
abbrev pub so_far_of : List Body → Option SoFar → SoFar
so_far_of bodies None = still bodies
so_far_of bodies (Some passing) = passing

-- passes are over the bodies that were gathered, which are at points of their own, and there is a move or a pass
abbrev pub IsReading : List Body → Option SoFar → Type 0
IsReading bodies None = ⊤
IsReading bodies (Some passing) = (passing.bodies ≡ bodies) × (is_still passing ≡ false) × AreApart (sites_of bodies)

-- what a record says, added; a body before all moves and passes is added wherever it is
abbrev pub gathered_entry : ℕ → SoFar → Entry → Result SoFar SceneFault
gathered_entry number so_far (entry.Body body) =
    if is_still so_far then then_with (λ (bodies : List Body). Ok (still bodies)) (gathered number so_far.bodies body) else with_body number so_far body
gathered_entry number so_far (entry.Move move) = with_move number so_far move
gathered_entry number so_far entry.Pass = with_pass number so_far

-- the record of this number, added in that way
abbrev pub gathered_with : ℕ → SoFar → List (List ℕ) → Result SoFar SceneFault
gathered_with number so_far fields = then_with (gathered_entry number so_far) (entry_of number fields)

-- a step leaves what is wanted; or it tells the wanted fault, if the bodies before it are apart
abbrev pub Gathers : SoFar → SoFar → Result SoFar SceneFault → Result (Unit {0}) SceneFault → Type 0
Gathers old new wanted (Ok done) = wanted ≡ Ok new
Gathers old new wanted (Err f) = AreApart (sites_of old.bodies) → IsFaultOf wanted f
