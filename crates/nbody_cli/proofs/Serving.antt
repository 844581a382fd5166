-- Why each end of a run meets its promise.
use Rattle.std.proofs.Common.{◌≡◌, ◌∙◌, ◌<◌, ℕ, List, [], ◌∷◌, ◌++◌, Bool, true, false, IsFalse, IsTrue, Option, Some, None, Result, Ok, Err}
use Rattle.std.proofs.Common.{length, cond, refl}
use Rattle.std.specs.Prelude.{IfErr}
use Rattle.std.proofs.Common.{sym, ap, subst, arith, inl, inr}
use Rattle.std.proofs.lemmas.List.{append-nil, length-append}
use Rattle.std.proofs.lemmas.Bool.Decides.{nat_tests}
use Rattle.std.specs.Io.KnownBytes.{Consumes, IsAtEnd}
use Rattle.bh_outside.specs.Outside.{Rose, Took, TookPrefix}
use Rattle.bh_outside.proofs.Takings.{took_none}
use Rattle.bh_model.specs.declared.plan.Builder.{Builder}
use Rattle.bh_model.specs.declared.plan.Builder.TheVariants as builder
use Rattle.frame_core.specs.Building.{IsFree}
use Rattle.frame_core.specs.Engines.{EngineState, opened}
use Rattle.scene_file.specs.Moves.{IsScene, SceneParts}
use Rattle.scene_file.specs.Scene.{scene_of}
use Rattle.scene_file.specs.declared.bodies.Body.{Body}
use Rattle.scene_file.specs.declared.fault.SceneFault.{SceneFault}
use Rattle.scene_file.specs.declared.fault.SceneFault.TheVariants as fault
use Rattle.scene_file.specs.declared.moves.Move.{Move}
use Rattle.nbody_options.specs.Choices.{Choices}
use Rattle.nbody_options.specs.declared.options.Command.{Command}
use Rattle.nbody_options.specs.declared.options.Command.TheVariants as command
use Rattle.probe.specs.States.{ProbeState}
use Rattle.shared_tree.specs.Seen.{YardCounts}
use Rattle.nbody_cli.proofs.Turns.{amid_counts, amid_took, stayed, still, still_amid, whole_counts, whole_took}
use Rattle.nbody_cli.specs.Serving.{AreLeft, Completes, Counts, Ends, EndsEarly, InTurn, IsCounted, IsOpened, Output, Ports, Runs, Serves}
use Rattle.nbody_cli.specs.Serving.{ServesOptions, Wanted, World}
use Rattle.nbody_cli.specs.Serving.{chosen_builder, needs_source, other_yard_of, output, output_of, ports, reads_source, scene_made_of, status_of_fault, wanted}
use Rattle.nbody_cli.specs.Serving.{wanted_of_frames, wanted_of_scene, world, yard_of}
use Rattle.nbody_cli.specs.Text.{Part, command_parts, frame_parts, frames_of_command, kept_probes, published_by, refused_line, text_of, usage_line}
use Rattle.nbody_cli.specs.Text.{without_tree}
use Rattle.nbody_cli.specs.declared.status.Status.{Status}
use Rattle.nbody_cli.specs.declared.status.Status.TheVariants as status

-- ---- what is wanted

-- where the source isn't needed, the command of the options doesn't read it
pub reads_none : (options : Option Choices) (o : Choices) → options ≡ Some o → IsFalse (needs_source options) → IsFalse (reads_source o.command)
reads_none options o e none = sym (ap needs_source e) ∙ none

-- what a command that reads the source, or not, wants
wanted_by : (ps : List ProbeState) (o : Choices) (bytes : List ℕ) (test : Bool) → reads_source o.command ≡ test
    → wanted ps (Some o) bytes ≡ cond test (wanted_of_scene ps o (scene_of bytes)) (wanted_of_frames ps o (scene_made_of o.made))
wanted_by ps o bytes test is = ap (λ b. cond b (wanted_of_scene ps o (scene_of bytes)) (wanted_of_frames ps o (scene_made_of o.made))) is

wanted_is : (ps : List ProbeState) (o : Choices) (bytes : List ℕ) → reads_source o.command ≡ true
    → wanted ps (Some o) bytes ≡ wanted_of_scene ps o (scene_of bytes)
wanted_is ps o bytes reads = wanted_by ps o bytes true reads

-- a trial has the same frames whatever the passes of its scene
trial_frames : (c : Command) (o : Choices) (bodies : List Body) (passes : List (List Move)) → c ≡ command.Trial
    → frames_of_command c o (record { bodies = bodies; passes = [] }) ≡ frames_of_command c o (record { bodies = bodies; passes = passes })
trial_frames command.Tree o bodies passes trial = cc
trial_frames command.Passes o bodies passes trial = cc
trial_frames command.Run o bodies passes trial = cc
trial_frames command.Trial o bodies passes trial = refl

-- what a trial wants over the bodies that it makes
wanted_made : (ps : List ProbeState) (o : Choices) (bytes : List ℕ) (bodies : List Body) (passes : List (List Move)) → o.command ≡ command.Trial
    → bodies ≡ (scene_made_of o.made).bodies → wanted ps (Some o) bytes ≡ wanted_of_frames ps o (record { bodies = bodies; passes = passes })
wanted_made ps o bytes bodies passes trial made =
    let W : List EngineState → Wanted = λ frames. record {
      status = status.Done;
      parts = frame_parts (kept_probes o.command o.probe ps) o frames;
      reads = reads_source o.command;
    } in
    wanted_by ps o bytes false (ap reads_source trial)
    ∙ ap (λ (list : List Body). wanted_of_frames ps o (record { bodies = list; passes = [] })) (sym made)
    ∙ ap W (trial_frames o.command o bodies passes trial)

-- whatever the scene, it has to be read
reads_scene : (ps : List ProbeState) (o : Choices) (scene : Result SceneParts SceneFault) → reads_source o.command ≡ true
    → (wanted_of_scene ps o scene).reads ≡ true
reads_scene ps o (Ok scene) reads = reads
reads_scene ps o (Err f) reads = refl

-- a scene of too many bytes
long_scene : (bytes : List ℕ) → 16777216 < length bytes → scene_of bytes ≡ Err fault.TooLong
long_scene bytes long = grind (arith, nat_tests)

-- a fault that is not want of memory ends a run with its line
pub fault_ends : (f : SceneFault) → (f ≡ fault.OutOfMemory → ⊥) → status.Scene ≡ status_of_fault f
fault_ends fault.TooLong told = refl
fault_ends (fault.BadRecord r) told = refl
fault_ends (fault.BadNumber r f) told = refl
fault_ends (fault.OutOfRange r f) told = refl
fault_ends (fault.TooMany r) told = refl
fault_ends (fault.MassTotal r) told = refl
fault_ends (fault.Coincident r a b) told = refl
fault_ends (fault.BodyAfterMove r) told = refl
fault_ends (fault.UnknownBody r) told = refl
fault_ends (fault.MovedTwice r n) told = refl
fault_ends (fault.PassCoincident r a b) told = refl
fault_ends fault.OutOfMemory told = absurd (told refl)

-- ---- what the source told

-- what was left, where it was told, and else other bytes
left_or : Option (List ℕ) → List ℕ → List ℕ
left_or None other = other
left_or (Some xs) other = xs

are_left : (left : Option (List ℕ)) (other : List ℕ) → AreLeft left (left_or left other)
unfolding left_or
are_left None other = tt
are_left (Some xs) other = refl

-- all bytes were given
all_left : (left now : Option (List ℕ)) (bytes : List ℕ) → Consumes left now bytes → IsAtEnd now → AreLeft left bytes
all_left None now bytes gave end = tt
all_left (Some xs) None bytes gave end = absurd gave
all_left (Some xs) (Some ys) bytes gave end = gave ∙ ap (λ y. bytes ++ y) end ∙ append-nil bytes

-- more bytes were given, so more were left
longer : (left now : Option (List ℕ)) (given : List ℕ) (limit : ℕ) → Consumes left now given → limit < length given → limit < length (left_or left given)
unfolding left_or
longer None now given limit gave long = long
longer (Some xs) None given limit gave long = absurd gave
longer (Some xs) (Some ys) given limit gave long = omega (arith, ap length gave, length-append given ys)

-- ---- the ends of a run

-- where no fault rose, a run ended as was wanted or for want of memory
completes : (w : Wanted) (before after : Ports) (s : Status) → Ends w before after s → Completes w before after s
completes w before after status.Done h quiet still = inl h.0
completes w before after status.Usage h quiet still = inl h.0
completes w before after status.Read h quiet still = absurd (quiet h.1)
completes w before after status.Write h quiet still = absurd (still h.0)
completes w before after status.Scene h quiet still = inl h.0
completes w before after status.Memory h quiet still = inr refl

-- how a run over a yard ends, by what is wanted
record IsEnd (w : Wanted) (before after : Ports) (y z : YardCounts) (s : Status) : Type 0 where
  ends : Ends w before after s
  counts : Counts (published_by w.parts) y z s
  in_turn : InTurn w.parts (output_of before y) (output_of after z) s

-- the text of one line
line_took : (line : List ℕ) (w v : Option (List ℕ)) → Took w v line → Took w v (text_of (without_tree line ∷ []))
line_took line w v h = rw (append-nil line) h

line_prefix : (line : List ℕ) (w v : Option (List ℕ)) → TookPrefix w v line → TookPrefix w v (text_of (without_tree line ∷ []))
line_prefix line w v h = rw (append-nil line) h

-- memory ran out with nothing written
nothing : (w : Wanted) (l0 l1 wb wn : Option (List ℕ)) (rb rn kb kn : ℕ) (y : YardCounts) → Took wb wn []
    → IsEnd w (ports l0 rb wb kb) (ports l1 rn wn kn) y y status.Memory
nothing w l0 l1 wb wn rb rn kb kn y h = record {
  ends = ([], text_of w.parts, refl, h);
  counts = stayed (published_by w.parts) y;
  in_turn = still_amid w.parts (output wb kb y) (output wn kn y) (record { written = h; counted = refl });
}

-- a line that failed
line_failed : (w : Wanted) (line : List ℕ) (l0 l1 wb wn : Option (List ℕ)) (rb rn kb kn : ℕ) (y : YardCounts) → w.parts ≡ without_tree line ∷ []
    → Rose kb kn → TookPrefix wb wn line → IsEnd w (ports l0 rb wb kb) (ports l1 rn wn kn) y y status.Write
line_failed w line l0 l1 wb wn rb rn kb kn y is rose h =
    let P : List Part → Type 0 = λ parts. TookPrefix wb wn (text_of parts) in
    let Q : List Part → Type 0 = λ parts. InTurn parts (output wb kb y) (output wn kn y) status.Write in
    record {
      ends = (rose, subst P (sym is) (line_prefix line wb wn h));
      counts = stayed (published_by w.parts) y;
      in_turn = subst Q (sym is) (inl (record { written = h; counted = stayed (without_tree line).publishes y }));
    }

-- a run that ended early, by its scene
early : (ps : List ProbeState) (o : Choices) (scene : Result SceneParts SceneFault) (l0 l1 wb wn : Option (List ℕ)) (rb rn kb kn : ℕ)
    (y : YardCounts) (s : Status)
    → EndsEarly s scene wb kb wn kn → IsEnd (wanted_of_scene ps o scene) (ports l0 rb wb kb) (ports l1 rn wn kn) y y s
early ps o scene l0 l1 wb wn rb rn kb kn y status.Done h = absurd h
early ps o scene l0 l1 wb wn rb rn kb kn y status.Usage h = absurd h
early ps o scene l0 l1 wb wn rb rn kb kn y status.Read h = absurd h
early ps o (Ok scene) l0 l1 wb wn rb rn kb kn y status.Write h = absurd h
early ps o (Err f) l0 l1 wb wn rb rn kb kn y status.Write h =
    line_failed (wanted_of_scene ps o (Err f)) (refused_line f) l0 l1 wb wn rb rn kb kn y refl h.0 h.1
early ps o (Ok scene) l0 l1 wb wn rb rn kb kn y status.Scene h = absurd h
early ps o (Err f) l0 l1 wb wn rb rn kb kn y status.Scene h =
    record { ends = (h.0, line_took (refused_line f) wb wn h.1); counts = refl; in_turn = tt }
early ps o scene l0 l1 wb wn rb rn kb kn y status.Memory h = nothing (wanted_of_scene ps o scene) l0 l1 wb wn rb rn kb kn y h

-- a run that had its engine
ran : (ps : List ProbeState) (o : Choices) (scene : SceneParts) (l0 l1 wb wn : Option (List ℕ)) (rb rn kb kn : ℕ) (y z : YardCounts) (s : Status)
    → (IsTrue (reads_source o.command) → IsAtEnd l1) → IsCounted y → Runs (command_parts ps o scene) (output wb kb y) (output wn kn z) s
    → IsEnd (wanted_of_frames ps o scene) (ports l0 rb wb kb) (ports l1 rn wn kn) y z s
ran ps o scene l0 l1 wb wn rb rn kb kn y z status.Done end counted h = record {
  ends = (refl, whole_took (command_parts ps o scene) (output wb kb y) (output wn kn z) h, end);
  counts = whole_counts (command_parts ps o scene) (output wb kb y) (output wn kn z) counted h;
  in_turn = h;
}
ran ps o scene l0 l1 wb wn rb rn kb kn y z status.Usage end counted h = absurd h
ran ps o scene l0 l1 wb wn rb rn kb kn y z status.Read end counted h = absurd h
ran ps o scene l0 l1 wb wn rb rn kb kn y z status.Write end counted h = record {
  ends = (h.0, amid_took (command_parts ps o scene) (output wb kb y) (output wn kn z) h.1);
  counts = amid_counts (command_parts ps o scene) (output wb kb y) (output wn kn z) counted h.1;
  in_turn = h.1;
}
ran ps o scene l0 l1 wb wn rb rn kb kn y z status.Scene end counted h = absurd h
ran ps o scene l0 l1 wb wn rb rn kb kn y z status.Memory end counted h = record {
  ends = amid_took (command_parts ps o scene) (output wb kb y) (output wn kn z) h;
  counts = amid_counts (command_parts ps o scene) (output wb kb y) (output wn kn z) counted h;
  in_turn = h;
}

-- ---- the builder

-- a builder that isn't ORIG waits for nobody
pub waits_for_nobody : (b : Builder) → (b ≡ builder.Orig → ⊥) → IsFree b
waits_for_nobody builder.Orig other = absurd (other refl)
waits_for_nobody builder.Local other = tt
waits_for_nobody builder.Update other = tt
waits_for_nobody builder.Partree other = tt
waits_for_nobody builder.Space other = tt

-- ---- runs of options

-- a run of options by its bytes and its end
options_end : (ps : List ProbeState) (o : Choices) (bytes : List ℕ) (w : Wanted) (before after : Ports) (y z : YardCounts) (s : Status)
    → AreLeft before.left bytes
    → wanted ps (Some o) bytes ≡ w → (s ≡ status.Usage → ⊥) → IsEnd w before after y z s → ServesOptions ps o before after y z s
options_end ps o bytes w before after y z s told is no_usage h =
    let P : Wanted → Type 0 = λ v. IsEnd v before after y z s in
    let end = subst P (sym is) h in
    record {
      answers = record { bytes = bytes; told = told; ends = end.ends; complete = completes (wanted ps (Some o) bytes) before after s end.ends };
      counts = end.counts;
      in_turn = end.in_turn;
      no_usage = no_usage;
    }

-- memory ran out with nothing written
pub options_memory : (ps : List ProbeState) (o : Choices) (l0 l1 : Option (List ℕ)) (rb rn : ℕ) (wb : Option (List ℕ)) (kb kn : ℕ) (y : YardCounts)
    → ServesOptions ps o (ports l0 rb wb kb) (ports l1 rn wb kn) y y status.Memory
options_memory ps o l0 l1 rb rn wb kb kn y =
    let bytes = left_or l0 [] in
    options_end ps o bytes (wanted ps (Some o) bytes) (ports l0 rb wb kb) (ports l1 rn wb kn) y y status.Memory (are_left l0 []) refl (λ e. cc)
    (nothing (wanted ps (Some o) bytes) l0 l1 wb wb rb rn kb kn y (took_none wb))

-- a read failed
pub options_read : (ps : List ProbeState) (o : Choices) (l0 l1 : Option (List ℕ)) (rb rn : ℕ) (wb : Option (List ℕ)) (kb kn : ℕ) (y : YardCounts)
    → reads_source o.command ≡ true → Rose rb rn → ServesOptions ps o (ports l0 rb wb kb) (ports l1 rn wb kn) y y status.Read
options_read ps o l0 l1 rb rn wb kb kn y reads rise =
    let bytes = left_or l0 [] in
    options_end ps o bytes (wanted_of_scene ps o (scene_of bytes)) (ports l0 rb wb kb) (ports l1 rn wb kn) y y status.Read (are_left l0 [])
    (wanted_is ps o bytes reads) (λ e. cc) (record { ends = (reads_scene ps o (scene_of bytes) reads, rise, took_none wb); counts = refl; in_turn = tt })

-- no early end is Usage
early_no_usage : (scene : Result SceneParts SceneFault) (w v : Option (List ℕ)) (k l : ℕ) (s : Status) → EndsEarly s scene w k v l → s ≡ status.Usage → ⊥
early_no_usage scene w v k l status.Done h e = absurd h
early_no_usage scene w v k l status.Usage h e = absurd h
early_no_usage scene w v k l status.Read h e = absurd h
early_no_usage scene w v k l status.Write h e = cc
early_no_usage scene w v k l status.Scene h e = cc
early_no_usage scene w v k l status.Memory h e = cc

-- a run that ended early, by the scene of its bytes
options_early : (ps : List ProbeState) (o : Choices) (bytes : List ℕ) (scene : Result SceneParts SceneFault) (l0 l1 wb wn : Option (List ℕ))
    (rb rn kb kn : ℕ) (y : YardCounts)
    (s : Status) → reads_source o.command ≡ true → AreLeft l0 bytes → scene_of bytes ≡ scene → EndsEarly s scene wb kb wn kn
    → ServesOptions ps o (ports l0 rb wb kb) (ports l1 rn wn kn) y y s
options_early ps o bytes scene l0 l1 wb wn rb rn kb kn y s reads told is h =
    options_end ps o bytes (wanted_of_scene ps o scene) (ports l0 rb wb kb) (ports l1 rn wn kn) y y s told
    (wanted_is ps o bytes reads ∙ ap (wanted_of_scene ps o) is) (early_no_usage scene wb wn kb kn s h) (early ps o scene l0 l1 wb wn rb rn kb kn y s h)

-- there were too many bytes
pub options_long : (ps : List ProbeState) (o : Choices) (l0 l1 : Option (List ℕ)) (given : List ℕ) (wb wn : Option (List ℕ)) (rb rn kb kn : ℕ)
    (y : YardCounts) (s : Status)
    → reads_source o.command ≡ true → Consumes l0 l1 given → 16777216 < length given → EndsEarly s (Err fault.TooLong) wb kb wn kn
    → ServesOptions ps o (ports l0 rb wb kb) (ports l1 rn wn kn) y y s
options_long ps o l0 l1 given wb wn rb rn kb kn y s reads gave long h =
    options_early ps o (left_or l0 given) (Err fault.TooLong) l0 l1 wb wn rb rn kb kn y s reads (are_left l0 given)
    (long_scene (left_or l0 given) (longer l0 l1 given 16777216 gave long)) h

-- all bytes were read, and the run ended early
options_scene : (ps : List ProbeState) (o : Choices) (l0 l1 : Option (List ℕ)) (bytes : List ℕ) (wb wn : Option (List ℕ)) (rb rn kb kn : ℕ)
    (y : YardCounts) (s : Status)
    → reads_source o.command ≡ true → Consumes l0 l1 bytes → IsAtEnd l1 → EndsEarly s (scene_of bytes) wb kb wn kn
    → ServesOptions ps o (ports l0 rb wb kb) (ports l1 rn wn kn) y y s
options_scene ps o l0 l1 bytes wb wn rb rn kb kn y s reads gave end h =
    options_early ps o bytes (scene_of bytes) l0 l1 wb wn rb rn kb kn y s reads (all_left l0 l1 bytes gave end) refl h

-- the same of what the opening of the scene answers
pub scene_ended : {T : Type 0} (o : Choices) (l0 l1 : Option (List ℕ)) (bytes : List ℕ) (wb wn : Option (List ℕ)) (rb rn kb kn : ℕ) (r : Result T Status)
    → reads_source o.command ≡ true → Consumes l0 l1 bytes → IsAtEnd l1 → IfErr r (λ s. EndsEarly s (scene_of bytes) wb kb wn kn)
    → IfErr r (λ s. (ps : List ProbeState) (yard : YardCounts) → ServesOptions ps o (ports l0 rb wb kb) (ports l1 rn wn kn) yard yard s)
scene_ended o l0 l1 bytes wb wn rb rn kb kn (Ok x) reads gave end h = tt
scene_ended o l0 l1 bytes wb wn rb rn kb kn (Err s) reads gave end h =
    λ ps yard. options_scene ps o l0 l1 bytes wb wn rb rn kb kn yard s reads gave end h

-- a scene was made
pub opened_made : (ps : List ProbeState) (o : Choices) (l : Option (List ℕ)) (e : EngineState) (passes : List (List Move)) → o.command ≡ command.Trial
    → e.bodies ≡ (scene_made_of o.made).bodies → IsScene (record { bodies = e.bodies; passes = passes }) → e ≡ opened o.plan e.bodies
    → IsOpened ps o l l e passes
opened_made ps o l e passes trial made accepted engine = record {
  bytes = left_or l [];
  told = are_left l [];
  end = λ reads. (let none : reads_source o.command ≡ false = ap reads_source trial in cc);
  scene = wanted_made ps o (left_or l []) e.bodies passes trial made;
  accepted = accepted;
  engine = engine;
}

-- a run over an engine doesn't end with Usage
runs_no_usage : (parts : List Part) (b a : Output) (s : Status) → Runs parts b a s → s ≡ status.Usage → ⊥
runs_no_usage parts b a status.Done h e = cc
runs_no_usage parts b a status.Usage h e = absurd h
runs_no_usage parts b a status.Read h e = cc
runs_no_usage parts b a status.Write h e = cc
runs_no_usage parts b a status.Scene h e = cc
runs_no_usage parts b a status.Memory h e = cc

-- a run that had its engine
pub options_ran : (ps : List ProbeState) (o : Choices) (e : EngineState) (passes : List (List Move)) (l0 l1 wb wn : Option (List ℕ))
    (rb rn kb kn : ℕ) (y z : YardCounts) (s : Status)
    → IsOpened ps o l0 l1 e passes → IsCounted y
    → Runs (command_parts ps o (record { bodies = e.bodies; passes = passes })) (output wb kb y) (output wn kn z) s
    → ServesOptions ps o (ports l0 rb wb kb) (ports l1 rn wn kn) y z s
options_ran ps o e passes l0 l1 wb wn rb rn kb kn y z s has counted h =
    let scene : SceneParts = record { bodies = e.bodies; passes = passes } in
    options_end ps o has.bytes (wanted_of_frames ps o scene) (ports l0 rb wb kb) (ports l1 rn wn kn) y z s has.told has.scene
    (runs_no_usage (command_parts ps o scene) (output wb kb y) (output wn kn z) s h)
    (ran ps o scene l0 l1 wb wn rb rn kb kn y z s has.end counted h)

-- ---- runs of words

-- how a run ends that has no options
NoOptions : (ps : List ProbeState) (before after : Ports) (locked free : YardCounts) → Status → Option Choices → Type 0
NoOptions ps before after locked free s o = Serves ps o (world before locked free) (world after locked free) s

no_options : (ps : List ProbeState) (bytes : List ℕ) (before after : Ports) (locked free : YardCounts) (s : Status) → AreLeft before.left bytes
    → IsEnd (wanted ps None bytes) before after locked locked s → NoOptions ps before after locked free s None
unfolding NoOptions
no_options ps bytes before after locked free s told h = record {
  answers = record { bytes = bytes; told = told; ends = h.ends; complete = completes (wanted ps None bytes) before after s h.ends };
  counts = h.counts;
  in_turn = h.in_turn;
  other_yard = refl;
}

-- there are no options, and the usage line was written
pub serves_usage : (ps : List ProbeState) (options : Option Choices) (l wb wn : Option (List ℕ)) (r kb kn : ℕ) (locked free : YardCounts)
    → options ≡ None → Took wb wn usage_line
    → Serves ps options (world (ports l r wb kb) locked free) (world (ports l r wn kn) locked free) status.Usage
unfolding NoOptions
serves_usage ps options l wb wn r kb kn locked free none h =
    subst (NoOptions ps (ports l r wb kb) (ports l r wn kn) locked free status.Usage) (sym none)
    (no_options ps (left_or l []) (ports l r wb kb) (ports l r wn kn) locked free status.Usage (are_left l [])
    (record { ends = (refl, line_took usage_line wb wn h); counts = refl; in_turn = tt }))

-- there are none, and the writing of that line failed
pub serves_no_usage : (ps : List ProbeState) (options : Option Choices) (l wb wn : Option (List ℕ)) (r kb kn : ℕ) (locked free : YardCounts)
    → options ≡ None → Rose kb kn
    → TookPrefix wb wn usage_line → Serves ps options (world (ports l r wb kb) locked free) (world (ports l r wn kn) locked free) status.Write
unfolding NoOptions
serves_no_usage ps options l wb wn r kb kn locked free none rose h =
    subst (NoOptions ps (ports l r wb kb) (ports l r wn kn) locked free status.Write) (sym none)
    (no_options ps (left_or l []) (ports l r wb kb) (ports l r wn kn) locked free status.Write (are_left l [])
    (line_failed (wanted ps None (left_or l [])) usage_line l l wb wn r r kb kn locked refl rose h))

-- memory ran out before there were options
pub serves_memory : (ps : List ProbeState) (options : Option Choices) (l : Option (List ℕ)) (r : ℕ) (wb : Option (List ℕ)) (k : ℕ) (locked free : YardCounts)
    → Serves ps options (world (ports l r wb k) locked free) (world (ports l r wb k) locked free) status.Memory
serves_memory ps options l r wb k locked free =
    let bytes = left_or l [] in
    let yard = yard_of (chosen_builder options) (world (ports l r wb k) locked free) in
    let end = nothing (wanted ps options bytes) l l wb wb r r k k yard (took_none wb) in
    record {
      answers = record {
        bytes = bytes;
        told = are_left l [];
        ends = end.ends;
        complete = completes (wanted ps options bytes) (ports l r wb k) (ports l r wb k) status.Memory end.ends;
      };
      counts = end.counts;
      in_turn = end.in_turn;
      other_yard = refl;
    }

-- what holds of the yard of a builder, where the other one is as it was
record YardHas (b : Builder) (P : YardCounts → YardCounts → Type 0) (before after : World) : Type 0 where
  own : P (yard_of b before) (yard_of b after)
  other : other_yard_of b after ≡ other_yard_of b before

locked_has : (b : Builder) (P : YardCounts → YardCounts → Type 0) (before after : World) → b ≡ builder.Orig → P before.locked after.locked
    → after.free ≡ before.free → YardHas b P before after
locked_has builder.Orig P before after orig h same = record { own = h; other = same }
locked_has builder.Local P before after orig h same = cc
locked_has builder.Update P before after orig h same = cc
locked_has builder.Partree P before after orig h same = cc
locked_has builder.Space P before after orig h same = cc

free_has : (b : Builder) (P : YardCounts → YardCounts → Type 0) (before after : World) → (b ≡ builder.Orig → ⊥) → P before.free after.free
    → after.locked ≡ before.locked → YardHas b P before after
free_has builder.Orig P before after other h same = absurd (other refl)
free_has builder.Local P before after other h same = record { own = h; other = same }
free_has builder.Update P before after other h same = record { own = h; other = same }
free_has builder.Partree P before after other h same = record { own = h; other = same }
free_has builder.Space P before after other h same = record { own = h; other = same }

-- a run of options over the yard of their builder
HasServed : (ps : List ProbeState) (o : Choices) (before after : Ports) (s : Status) → YardCounts → YardCounts → Type 0
HasServed ps o before after s y z = ServesOptions ps o before after y z s

serves_over : (ps : List ProbeState) (o : Choices) (before after : World) (s : Status)
    → YardHas o.plan.builder (HasServed ps o before.ports after.ports s) before after
    → Serves ps (Some o) before after s
unfolding HasServed
serves_over ps o before after s h =
    record { answers = h.own.answers; counts = h.own.counts; in_turn = h.own.in_turn; other_yard = h.other }

-- options with the builder ORIG
pub serves_locked : (ps : List ProbeState) (o : Choices) (before after : Ports) (y z free : YardCounts) (s : Status) → o.plan.builder ≡ builder.Orig
    → ServesOptions ps o before after y z s → Serves ps (Some o) (world before y free) (world after z free) s
unfolding HasServed
serves_locked ps o before after y z free s orig h =
    serves_over ps o (world before y free) (world after z free) s
    (locked_has o.plan.builder (HasServed ps o before after s) (world before y free) (world after z free) orig h refl)

-- options with another builder
pub serves_unlocked : (ps : List ProbeState) (o : Choices) (before after : Ports) (y z locked : YardCounts) (s : Status) → (o.plan.builder ≡ builder.Orig → ⊥)
    → ServesOptions ps o before after y z s → Serves ps (Some o) (world before locked y) (world after locked z) s
unfolding HasServed
serves_unlocked ps o before after y z locked s other h =
    serves_over ps o (world before locked y) (world after locked z) s
    (free_has o.plan.builder (HasServed ps o before after s) (world before locked y) (world after locked z) other h refl)
