-- What the program writes.
use Rattle.std.specs.Prelude.{◌==◌, ◌+◌, ℕ, Bool, List, [], ◌∷◌, ◌++◌, codes, map, if◌then◌else◌}
use Rattle.std.specs.List.{flat_map}
use Rattle.frame_core.specs.Building.{Publications, one_for_each}
use Rattle.frame_core.specs.Engines.{EngineState, builder_publishes, frame_of, opened, with_tree}
use Rattle.frame_core.specs.Next.{pass_frames, run_frames, sum_publications}
use Rattle.nbody_cli.specs.Frames.{frame_lines, pass_lines, tree_lines, trial_lines}
use Rattle.nbody_cli.specs.Lines.{TextLine, Words, Word, Numbers, lines_text}
use Rattle.nbody_cli.specs.Probes.{chosen, left_after, lines_at, probe_lines}
use Rattle.nbody_options.specs.Choices.{Choices}
use Rattle.nbody_options.specs.declared.options.Command.{Command}
use Rattle.nbody_options.specs.declared.options.Command.TheVariants as command
use Rattle.nbody_options.specs.declared.options.ProbeChoice.{ProbeChoice}
use Rattle.probe.specs.States.{ProbeState}
use Rattle.scene_file.specs.Moves.{SceneParts}
use Rattle.scene_file.specs.declared.fault.SceneFault.{SceneFault}
use Rattle.scene_file.specs.declared.fault.SceneFault.TheVariants as fault

-- the line of a fault by its word and its numbers
abbrev pub refused : (word numbers : List ℕ) → List ℕ
refused word numbers = lines_text (Words (codes "refused") (Word word ∷ Numbers numbers ∷ []) ∷ [])

-- the line of a scene's fault; want of memory has none
abbrev pub refused_line : SceneFault → List ℕ
refused_line fault.TooLong = refused (codes "too-long") []
refused_line (fault.BadRecord record_number) = refused (codes "bad-record") (record_number ∷ [])
refused_line (fault.BadNumber record_number field) = refused (codes "bad-number") (record_number ∷ field ∷ [])
refused_line (fault.OutOfRange record_number field) = refused (codes "out-of-range") (record_number ∷ field ∷ [])
refused_line (fault.TooMany record_number) = refused (codes "too-many") (record_number ∷ [])
refused_line (fault.MassTotal record_number) = refused (codes "mass-total") (record_number ∷ [])
refused_line (fault.Coincident record_number earlier later) = refused (codes "coincident") (record_number ∷ earlier ∷ later ∷ [])
refused_line (fault.BodyAfterMove record_number) = refused (codes "body-after-move") (record_number ∷ [])
refused_line (fault.UnknownBody record_number) = refused (codes "unknown-body") (record_number ∷ [])
refused_line (fault.MovedTwice record_number body) = refused (codes "moved-twice") (record_number ∷ body ∷ [])
refused_line (fault.PassCoincident record_number earlier later) = refused (codes "pass-coincident") (record_number ∷ earlier ∷ later ∷ [])
refused_line fault.OutOfMemory = []

-- the line that tells how the program is called
abbrev pub usage_line : List ℕ
usage_line = codes "usage: nbody tree|passes|run|trial [--builder orig|local|update|partree|space] [--workers N] [--steps N] [--theta T/Q] [--eps2 N] [--g N] [--probe NAME] [--count N] [--seed N] [--shape uniform|corner]\n"

-- ---- the text of a command

-- a frame is the last of so many steps, since the first has the number 0
abbrev pub is_last : ℕ → EngineState → Bool
is_last steps e = e.step + 1 == steps

-- the lines that a command writes of one frame: a trial tells its last frame alone
abbrev pub lines_of_frame : Command → Choices → EngineState → List TextLine
lines_of_frame command.Tree o e = tree_lines e
lines_of_frame command.Passes o e = pass_lines e
lines_of_frame command.Run o e = frame_lines e
lines_of_frame command.Trial o e = if is_last o.steps e then trial_lines o.made o.steps e else []

-- the frames that a command makes of a scene, each as it stands before its tree: that of the bodies, that and those after each pass, or one for each step
abbrev pub frames_of_command : Command → Choices → SceneParts → List EngineState
frames_of_command command.Tree o scene = opened o.plan scene.bodies ∷ []
frames_of_command command.Passes o scene = pass_frames scene.passes (opened o.plan scene.bodies)
frames_of_command _ o scene = run_frames o.steps (opened o.plan scene.bodies)

-- a part of a text, and what the tree that is made for it publishes
pub record Part : Type 0 where
  pub text : List ℕ
  pub publishes : Publications

-- a part for which no tree is made
abbrev pub without_tree : List ℕ → Part
without_tree text = record { text = text; publishes = one_for_each 0 }

-- the probes that a command keeps of those that are handed in: a run keeps those that are chosen
abbrev pub kept_probes : Command → ProbeChoice → List ProbeState → List ProbeState
kept_probes command.Run choice probes = chosen choice probes
kept_probes _ choice probes = []

-- a frame's part of the text of the options, which is written once its tree is made: its lines, and behind them those of the probes that it finishes
abbrev pub part_of_frame : List ProbeState → Choices → EngineState → Part
part_of_frame probes o e =
    record { text = lines_text (lines_of_frame o.command o (with_tree e)) ++ lines_at (frame_of e) probes; publishes = builder_publishes e }

-- The parts of frames that probes see: frame after frame, each with the probes that are left of those before, and at last the lines of the probes that
-- are left.
abbrev pub frame_parts : List ProbeState → Choices → List EngineState → List Part
frame_parts probes o [] = without_tree (probe_lines probes) ∷ []
frame_parts probes o (e ∷ rest) = part_of_frame probes o e ∷ frame_parts (left_after (frame_of e) probes) o rest

-- the parts of the text of the options over a scene, by the probes that are handed in
abbrev pub command_parts : List ProbeState → Choices → SceneParts → List Part
command_parts probes o scene = frame_parts (kept_probes o.command o.probe probes) o (frames_of_command o.command o scene)

-- the text of parts, one after another
abbrev pub text_of : List Part → List ℕ
text_of parts = flat_map (λ (p : Part). p.text) parts

-- what the trees of all parts publish
abbrev pub published_by : List Part → Publications
published_by parts = sum_publications (map (λ (p : Part). p.publishes) parts)
