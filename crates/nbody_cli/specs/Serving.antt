-- What a run of the program answers, by what its source and its sink tell.
use Rattle.std.specs.Prelude.{◌≡◌, ◌≤◌, ◌+◌, ◌-◌, ◌^◌, ◌⊎◌, ℕ, List, [], ◌∷◌, Bool, true, false, IsTrue, Option, None, Some, Result, Ok, Err, ⊤}
use Rattle.std.specs.Prelude.{if◌then◌else◌, length, nat_lt}
use Rattle.std.specs.Io.KnownBytes.{IsAtEnd}
use Rattle.bh_model.specs.declared.plan.Builder.{Builder}
use Rattle.bh_model.specs.declared.plan.Builder.TheVariants as builder
use Rattle.bh_outside.specs.Outside.{Rose, Took, TookPrefix}
use Rattle.frame_core.specs.Building.{Publications, Rises}
use Rattle.frame_core.specs.Engines.{EngineStage, EngineState, HasTree, WithFrame, opened, with_frame}
use Rattle.frame_core.specs.Next.{drifted, shifted_by}
use Rattle.shared_tree.specs.Seen.{YardCounts}
use Rattle.probe.specs.States.{ProbeState}
use Rattle.scene_file.specs.Made.{made_bodies}
use Rattle.scene_file.specs.Moves.{IsScene, SceneParts, pass_at}
use Rattle.scene_file.specs.Scene.{scene_of}
use Rattle.scene_file.specs.declared.fault.SceneFault.{SceneFault}
use Rattle.scene_file.specs.declared.fault.SceneFault.TheVariants as fault
use Rattle.scene_file.specs.declared.moves.Move.{Move}
use Rattle.nbody_options.specs.Choices.{Choices}
use Rattle.nbody_options.specs.declared.options.Command.{Command}
use Rattle.nbody_options.specs.declared.options.Command.TheVariants as command
use Rattle.nbody_options.specs.declared.options.Made.{Made}
use Rattle.nbody_cli.specs.Text.{Part, command_parts, published_by, refused_line, text_of, usage_line, without_tree}
use Rattle.nbody_cli.specs.declared.status.Status.{Status}
use Rattle.nbody_cli.specs.declared.status.Status.TheVariants as status

-- ---- what is wanted

-- what is wanted of a run that meets no failure: the status that ends it, the parts of its text, each with what its tree publishes in the yard of the
-- builder, and whether the source is read to its end
pub record Wanted : Type 0 where
  pub status : Status
  pub parts : List Part
  pub reads : Bool

-- a command reads the scene from the source, or makes it
abbrev pub reads_source : Command → Bool
reads_source command.Trial = false
reads_source _ = true

-- the source is needed: there are options, and their command reads it
abbrev pub needs_source : Option Choices → Bool
needs_source None = false
needs_source (Some o) = reads_source o.command

-- a scene's first fault ends a run, and `OutOfMemory` is none
abbrev pub status_of_fault : SceneFault → Status
status_of_fault fault.OutOfMemory = status.Memory
status_of_fault _ = status.Scene

-- the line of the first fault of the source's scene
abbrev pub wanted_of_fault : SceneFault → Wanted
wanted_of_fault f = record { status = status_of_fault f; parts = without_tree (refused_line f) ∷ []; reads = true }

-- what is wanted of options over a scene that has no fault, by the probes that are handed in: the text of its frames
abbrev pub wanted_of_frames : List ProbeState → Choices → SceneParts → Wanted
wanted_of_frames probes o scene = record { status = status.Done; parts = command_parts probes o scene; reads = reads_source o.command }

-- what is wanted of a command that reads the source, by the source's scene: its frames, or the line of the first fault
abbrev pub wanted_of_scene : List ProbeState → Choices → Result SceneParts SceneFault → Wanted
wanted_of_scene probes o (Ok scene) = wanted_of_frames probes o scene
wanted_of_scene probes o (Err f) = wanted_of_fault f

-- the scene that a command makes which reads none: so many bodies by a seed and a shape, and no pass
abbrev pub scene_made_of : Made → SceneParts
scene_made_of made = record { bodies = made_bodies made.count made.seed made.shape; passes = [] }

-- what is wanted, by the probes that are handed in, the options and the bytes of the source: without options it is the usage line
abbrev pub wanted : List ProbeState → Option Choices → List ℕ → Wanted
wanted probes None bytes = record { status = status.Usage; parts = without_tree usage_line ∷ []; reads = false }
wanted probes (Some o) bytes =
    if reads_source o.command then wanted_of_scene probes o (scene_of bytes) else wanted_of_frames probes o (scene_made_of o.made)

-- ---- what is read and written

-- what a source and a sink tell: the bytes still to come and those that were written, where they are told, and how often each of the two has failed
pub record Ports : Type 0 where
  pub left : Option (List ℕ)
  pub read_faults : ℕ
  pub written : Option (List ℕ)
  pub write_faults : ℕ

abbrev pub ports : (left : Option (List ℕ)) (read_faults : ℕ) (written : Option (List ℕ)) (write_faults : ℕ) → Ports
ports left read_faults written write_faults =
    record { left = left; read_faults = read_faults; written = written; write_faults = write_faults }

-- How a run ends, by what is wanted. At the status that is wanted the text was written whole, at Done from a source that was read to its end where
-- that is wanted. Read and Write blame the source and the sink, Memory is free, and the text was not begun at Read and is a prefix at Write and at
-- Memory.
abbrev pub Ends : Wanted → (before after : Ports) → Status → Type 0
Ends w before after status.Read = IsTrue w.reads × Rose before.read_faults after.read_faults × Took before.written after.written []
Ends w before after status.Write = Rose before.write_faults after.write_faults × TookPrefix before.written after.written (text_of w.parts)
Ends w before after status.Memory = TookPrefix before.written after.written (text_of w.parts)
Ends w before after status.Done = (status.Done ≡ w.status) × Took before.written after.written (text_of w.parts) × (IsTrue w.reads → IsAtEnd after.left)
Ends w before after whole = (whole ≡ w.status) × Took before.written after.written (text_of w.parts)

-- where no read and no write failed, a run ends as is wanted, or memory ran out
abbrev pub Completes : Wanted → (before after : Ports) → Status → Type 0
Completes w before after answer =
    (Rose before.read_faults after.read_faults → ⊥) → (Rose before.write_faults after.write_faults → ⊥) → (answer ≡ w.status) ⊎ (answer ≡ status.Memory)

-- the bytes are those that the source told, where it tells any
abbrev pub AreLeft : Option (List ℕ) → List ℕ → Type 0
AreLeft None bytes = ⊤
AreLeft (Some left) bytes = left ≡ bytes

-- what a run read and wrote, for some list of bytes that is what the source told
pub record Answers (probes : List ProbeState) (options : Option Choices) (before after : Ports) (answer : Status) : Type 0 where
  pub bytes : List ℕ
  pub told : AreLeft before.left bytes
  pub ends : Ends (wanted probes options bytes) before after answer
  pub complete : Completes (wanted probes options bytes) before after answer

-- ---- what the yards count

-- a yard's counts have 64 bits
pub record IsCounted (y : YardCounts) : Type 0 where
  pub published : y.published ≤ 2 ^ 64 - 1
  pub changes : y.changes ≤ 2 ^ 64 - 1

-- no count fell, and none rose by more than the publications of a tree say
abbrev pub RisesAtMost : Publications → (before after : YardCounts) → Type 0
RisesAtMost p before after =
    (before.published ≤ after.published) × (after.published ≤ before.published + p.bodies)
    × (before.changes ≤ after.changes) × (after.changes ≤ before.changes + p.most)

-- How the counts of a yard stand at the end of a run whose trees publish in it: at Done they rose as the publications of all of them say, at Write and at
-- Memory by no more, and else they are as they were.
abbrev pub Counts : Publications → (before after : YardCounts) → Status → Type 0
Counts p before after status.Done = Rises p before after
Counts p before after status.Write = RisesAtMost p before after
Counts p before after status.Memory = RisesAtMost p before after
Counts p before after _ = after ≡ before

-- ---- part after part

-- what is seen of a run beside its source: the bytes that the sink took, where it tells them, how often it has failed, and what the builder's yard counts
pub record Output : Type 0 where
  pub written : Option (List ℕ)
  pub faults : ℕ
  pub yard : YardCounts

abbrev pub output : (written : Option (List ℕ)) (faults : ℕ) (yard : YardCounts) → Output
output written faults yard = record { written = written; faults = faults; yard = yard }

abbrev pub output_of : Ports → YardCounts → Output
output_of p yard = output p.written p.write_faults yard

-- nothing was written, and no tree counted
pub record IsStill (before after : Output) : Type 0 where
  pub written : Took before.written after.written []
  pub counted : after.yard ≡ before.yard

-- a part was written whole, and its tree was counted
pub record IsWhole (p : Part) (before after : Output) : Type 0 where
  pub written : Took before.written after.written p.text
  pub counted : Rises p.publishes before.yard after.yard
  pub later : before.faults ≤ after.faults

-- a part was begun, at most: a prefix of it was written, and at most its tree was counted
pub record IsBegun (p : Part) (before after : Output) : Type 0 where
  pub written : TookPrefix before.written after.written p.text
  pub counted : RisesAtMost p.publishes before.yard after.yard

-- all parts are whole, each before the next was begun
abbrev pub AreWhole : List Part → (before after : Output) → Type 0
AreWhole [] before after = IsStill before after
AreWhole (p ∷ rest) before after = (between : Output) × IsWhole p before between × AreWhole rest between after

-- a run stopped amid parts: in the first one, or that is whole, and it stopped amid the others
abbrev pub StopsAmid : List Part → (before after : Output) → Type 0
StopsAmid [] before after = IsStill before after
StopsAmid (p ∷ rest) before after = IsBegun p before after ⊎ (between : Output) × IsWhole p before between × StopsAmid rest between after

-- How far a run came with the parts of its text: at Done all are whole, and at Write and at Memory it stopped amid them.
abbrev pub InTurn : List Part → (before after : Output) → Status → Type 0
InTurn parts before after status.Done = AreWhole parts before after
InTurn parts before after status.Write = StopsAmid parts before after
InTurn parts before after status.Memory = StopsAmid parts before after
InTurn parts before after _ = ⊤

-- the builder of the options, and the default one where there are none: nothing is built then
abbrev pub chosen_builder : Option Choices → Builder
chosen_builder None = builder.Orig
chosen_builder (Some o) = o.plan.builder

-- what a source, a sink, the yard whose trees have locks, and the one whose words are exchanged tell
pub record World : Type 0 where
  pub ports : Ports
  pub locked : YardCounts
  pub free : YardCounts

abbrev pub world : (ports : Ports) (locked free : YardCounts) → World
world ports locked free = record { ports = ports; locked = locked; free = free }

-- the yard that a builder uses: ORIG the one with locks, and each other one the one without
abbrev pub yard_of : Builder → World → YardCounts
yard_of builder.Orig w = w.locked
yard_of _ w = w.free

-- the yard that it doesn't use
abbrev pub other_yard_of : Builder → World → YardCounts
other_yard_of builder.Orig w = w.free
other_yard_of _ w = w.locked

-- ---- the top calls

-- A run of words: what it read and wrote, what the yard of its builder counted, how far it came, and the other yard is as it was, whatever the status.
pub record Serves (probes : List ProbeState) (options : Option Choices) (before after : World) (answer : Status) : Type 0 where
  pub answers : Answers probes options before.ports after.ports answer
  pub counts : Counts (published_by (wanted probes options answers.bytes).parts) (yard_of (chosen_builder options) before)
      (yard_of (chosen_builder options) after) answer
  pub in_turn : InTurn (wanted probes options answers.bytes).parts (output_of before.ports (yard_of (chosen_builder options) before))
      (output_of after.ports (yard_of (chosen_builder options) after)) answer
  pub other_yard : other_yard_of (chosen_builder options) after ≡ other_yard_of (chosen_builder options) before

-- A run of options: what it read and wrote, what the yard counted that it was given, how far it came, and it never ends with Usage.
pub record ServesOptions (probes : List ProbeState) (o : Choices) (before after : Ports) (yard_before yard_after : YardCounts) (answer : Status) : Type 0 where
  pub answers : Answers probes (Some o) before after answer
  pub counts : Counts (published_by (wanted probes (Some o) answers.bytes).parts) yard_before yard_after answer
  pub in_turn : InTurn (wanted probes (Some o) answers.bytes).parts (output_of before yard_before) (output_of after yard_after) answer
  pub no_usage : answer ≡ status.Usage → ⊥

-- ---- inside a run of options

-- the engine and the passes of the scene whose frames are wanted: it is accepted, and the source was read to its end where the command reads it
pub record IsOpened (probes : List ProbeState) (o : Choices) (left_before left_after : Option (List ℕ)) (e : EngineState)
    (passes : List (List Move)) : Type 0 where
  pub bytes : List ℕ
  pub told : AreLeft left_before bytes
  pub end : IsTrue (reads_source o.command) → IsAtEnd left_after
  pub scene : wanted probes (Some o) bytes ≡ wanted_of_frames probes o (record { bodies = e.bodies; passes = passes })
  pub accepted : IsScene (record { bodies = e.bodies; passes = passes })
  pub engine : e ≡ opened o.plan e.bodies

-- How a run ends that has read its scene and has no engine: the line of the scene's fault is written, or that failed, or memory ran out before.
abbrev pub EndsEarly : Status → Result SceneParts SceneFault → (written_before : Option (List ℕ)) (faults_before : ℕ) (written_after : Option (List ℕ))
    (faults_after : ℕ) → Type 0
EndsEarly status.Memory scene w k v l = Took w v []
EndsEarly status.Scene (Err f) w k v l = (status.Scene ≡ status_of_fault f) × Took w v (refused_line f)
EndsEarly status.Write (Err f) w k v l = Rose k l × TookPrefix w v (refused_line f)
EndsEarly _ scene w k v l = ⊥

-- how a run goes on that has its engine: the parts are whole, or it stopped amid them
abbrev pub Runs : List Part → (before after : Output) → Status → Type 0
Runs parts before after status.Done = AreWhole parts before after
Runs parts before after status.Write = Rose before.faults after.faults × StopsAmid parts before after
Runs parts before after status.Memory = StopsAmid parts before after
Runs parts before after _ = ⊥

-- the same of one part
abbrev pub RunsPart : Part → (before after : Output) → Status → Type 0
RunsPart p before after status.Done = IsWhole p before after
RunsPart p before after status.Write = Rose before.faults after.faults × IsBegun p before after
RunsPart p before after status.Memory = IsBegun p before after
RunsPart p before after _ = ⊥

-- how the writing of a text ended
abbrev pub Shows : List ℕ → (written_before : Option (List ℕ)) (faults_before : ℕ) (written_after : Option (List ℕ)) (faults_after : ℕ)
    → Status → Type 0
Shows text w k v l status.Done = Took w v text × (k ≤ l)
Shows text w k v l status.Write = Rose k l × TookPrefix w v text
Shows text w k v l status.Memory = TookPrefix w v text
Shows text w k v l _ = ⊥

-- the engine once a command has written what it tells of the tree: a command of steps has made the frame
abbrev pub with_parts : Command → EngineState → EngineState
with_parts command.Tree e = e
with_parts command.Passes e = e
with_parts _ e = with_frame e

-- what an engine has once a command has written what it tells of it
abbrev pub HasParts : Command → EngineStage → Type 0
HasParts command.Tree stage = ⊤
HasParts command.Passes stage = HasTree stage
HasParts _ stage = stage ≡ WithFrame

-- the engine once its bodies moved on from the frame of a number, which was shown; after the last frame they stay
abbrev pub moved_on : Command → ℕ → List (List Move) → ℕ → EngineState → EngineState
moved_on command.Tree steps passes number e = e
moved_on command.Passes steps passes number e = if nat_lt number (length passes) then shifted_by (pass_at passes number) e else e
moved_on _ steps passes number e = if nat_lt (number + 1) steps then drifted e else e

-- how many frames a command makes
abbrev pub frame_count : Command → ℕ → List (List Move) → ℕ
frame_count command.Tree steps passes = 1
frame_count command.Passes steps passes = length passes + 1
frame_count _ steps passes = steps
