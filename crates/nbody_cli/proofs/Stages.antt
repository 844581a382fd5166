-- The frames that are left of a run, and the next of them.
use Rattle.std.proofs.Common.{◌≡◌, ◌∙◌, ◌<◌, ◌≤◌, ◌+◌, ◌-◌, ℕ, zero, suc, Bool, true, false, cond, Option, List, [], ◌∷◌, ◌++◌, length, take, drop}
use Rattle.std.proofs.Common.{refl, sym, ap, subst, arith}
use Rattle.std.proofs.lemmas.Bool.Decides.{nat_tests}
use Rattle.std.proofs.lemmas.List.{append-nil, at_drop_all, at_drop_more}
use Rattle.std.specs.Prelude.{nat_lt}
use Rattle.bh_model.specs.declared.plan.Builder.{Builder}
use Rattle.frame_core.specs.Building.{Rises}
use Rattle.frame_core.specs.Engines.{EngineState, WithoutTree, builder_publishes, frame_of, opened, with_frame, with_tree}
use Rattle.frame_core.specs.Next.{drifted, pass_frames, run_frames, shifted_by}
use Rattle.nbody_options.specs.Choices.{Choices}
use Rattle.nbody_options.specs.declared.options.Command.{Command}
use Rattle.nbody_options.specs.declared.options.Command.TheVariants as command
use Rattle.nbody_cli.proofs.Turns.{GoesOn, none_published, on_begin, on_more, on_stop, part_refused, part_shown, still}
use Rattle.nbody_cli.specs.Frames.{trial_lines}
use Rattle.nbody_cli.specs.Lines.{TextLine, lines_text}
use Rattle.nbody_cli.specs.Probes.{left_after, lines_at, probe_lines}
use Rattle.nbody_options.specs.declared.options.ProbeChoice.{ProbeChoice}
use Rattle.probe.specs.Figures.{FrameFigures}
use Rattle.probe.specs.States.{ProbeState}
use Rattle.nbody_cli.specs.Serving.{IsCounted, Output, Runs, RunsPart, Shows, frame_count, moved_on, output, with_parts}
use Rattle.nbody_cli.specs.Text.{Part, command_parts, frame_parts, frames_of_command, is_last, kept_probes, lines_of_frame, part_of_frame, without_tree}
use Rattle.nbody_cli.specs.declared.status.Status.{Status}
use Rattle.nbody_cli.specs.declared.status.Status.TheVariants as status
use Rattle.shared_tree.specs.Seen.{YardCounts}
use Rattle.scene_file.proofs.PassingRule.{after_more}
use Rattle.scene_file.specs.Moves.{IsPass, IsScene, SceneParts, after_passes, pass_at, shifted}
use Rattle.scene_file.specs.declared.bodies.Body.{Body}
use Rattle.scene_file.specs.declared.moves.Move.{Move}

-- ---- the next frame

-- a choice by a test that holds
chosen : {X : Type 0} (test : Bool) (x y : X) → test ≡ true → cond test x y ≡ x
chosen true x y h = refl
chosen false x y h = cc

drifts : (steps : ℕ) (passes : List (List Move)) (i : ℕ) (e : EngineState) → i + 1 < steps → moved_on command.Run steps passes i e ≡ drifted e
drifts steps passes i e less =
    let test : nat_lt (i + 1) steps ≡ true = grind (arith, nat_tests) in
    chosen (nat_lt (i + 1) steps) (drifted e) e test

shifts : (steps : ℕ) (passes : List (List Move)) (i : ℕ) (e : EngineState) → i < length passes
    → moved_on command.Passes steps passes i e ≡ shifted_by (pass_at passes i) e
shifts steps passes i e less =
    let test : nat_lt i (length passes) ≡ true = grind (arith, nat_tests) in
    chosen (nat_lt i (length passes)) (shifted_by (pass_at passes i) e) e test

-- the engine of the next frame, once that of a number was shown
abbrev pub next : Choices → List (List Move) → ℕ → EngineState → EngineState
next o passes i e = moved_on o.command o.steps passes i (with_parts o.command (with_tree e))

-- so many frames from that of a number on
pub frames_left : Command → ℕ → List (List Move) → (k i : ℕ) → EngineState → List EngineState
frames_left c steps passes zero i e = []
frames_left c steps passes (suc k) i e = e ∷ frames_left c steps passes k (i + 1) (moved_on c steps passes i (with_parts c (with_tree e)))

-- ---- all frames

steps_left : (steps : ℕ) (passes : List (List Move)) (k i : ℕ) (e : EngineState) → i + k ≡ steps
    → frames_left command.Run steps passes k i e ≡ run_frames k e
unfolding frames_left run_frames
steps_left steps passes zero i e all = refl
steps_left steps passes (suc zero) i e all = refl
steps_left steps passes (suc (suc k)) i e all =
    let moved = drifts steps passes i (with_frame (with_tree e)) (omega arith) in
    ap (λ x. e ∷ frames_left command.Run steps passes (suc k) (i + 1) x) moved
    ∙ ap (λ rest. e ∷ rest) (steps_left steps passes (suc k) (i + 1) (drifted (with_frame (with_tree e))) (omega arith))

pass_more : (moves : List Move) (passes : List (List Move)) (e : EngineState)
    → pass_frames (moves ∷ passes) e ≡ e ∷ pass_frames passes (shifted_by moves (with_tree e))
unfolding pass_frames
pass_more moves passes e = refl

pass_last : (e : EngineState) → pass_frames [] e ≡ e ∷ []
unfolding pass_frames
pass_last e = refl

-- a trial has the frames of a run
trial_left : (steps : ℕ) (passes : List (List Move)) (k i : ℕ) (e : EngineState)
    → frames_left command.Trial steps passes k i e ≡ frames_left command.Run steps passes k i e
unfolding frames_left
trial_left steps passes zero i e = refl
trial_left steps passes (suc k) i e =
    ap (λ rest. e ∷ rest) (trial_left steps passes k (i + 1) (moved_on command.Run steps passes i (with_frame (with_tree e))))

passes_left : (steps : ℕ) (passes : List (List Move)) (k i : ℕ) (e : EngineState) → i + k ≡ length passes
    → frames_left command.Passes steps passes (suc k) i e ≡ pass_frames (drop i passes) e
unfolding frames_left
passes_left steps passes zero i e all = sym (at_drop_all (λ rest. pass_frames rest e) passes i (omega arith) ∙ pass_last e)
passes_left steps passes (suc k) i e all =
    let within : i < length passes = omega arith in
    let moved = shifts steps passes i (with_tree e) within in
    ap (λ x. e ∷ frames_left command.Passes steps passes (suc k) (i + 1) x) moved
    ∙ ap (λ rest. e ∷ rest) (passes_left steps passes k (i + 1) (shifted_by (pass_at passes i) (with_tree e)) (omega arith))
    ∙ sym (at_drop_more (λ rest. pass_frames rest e) passes i [] within ∙ pass_more (pass_at passes i) (drop (i + 1) passes) e)

-- the parts of so many frames from that of a number on
abbrev pub parts_left : List ProbeState → Choices → List (List Move) → (k i : ℕ) → EngineState → List Part
parts_left ps o passes k i e = frame_parts ps o (frames_left o.command o.steps passes k i e)

-- how many frames the options make
abbrev pub count_of : Choices → List (List Move) → ℕ
count_of o passes = frame_count o.command o.steps passes

frames_are : (c : Command) (o : Choices) (scene : SceneParts)
    → frames_left c o.steps scene.passes (frame_count c o.steps scene.passes) 0 (opened o.plan scene.bodies) ≡ frames_of_command c o scene
unfolding frames_left
frames_are command.Tree o scene = refl
frames_are command.Passes o scene =
    let e = opened o.plan scene.bodies in
    let counted : length scene.passes + 1 ≡ suc (length scene.passes) = omega arith in
    ap (λ k. frames_left command.Passes o.steps scene.passes k 0 e) counted ∙ passes_left o.steps scene.passes (length scene.passes) 0 e (omega arith)
frames_are command.Run o scene = steps_left o.steps scene.passes o.steps 0 (opened o.plan scene.bodies) (omega arith)
frames_are command.Trial o scene =
    trial_left o.steps scene.passes o.steps 0 (opened o.plan scene.bodies)
    ∙ steps_left o.steps scene.passes o.steps 0 (opened o.plan scene.bodies) (omega arith)

left_more : (ps : List ProbeState) (o : Choices) (passes : List (List Move)) (k i : ℕ) (e : EngineState)
    → parts_left ps o passes (suc k) i e ≡ part_of_frame ps o e ∷ parts_left (left_after (frame_of e) ps) o passes k (i + 1) (next o passes i e)
unfolding frames_left
left_more ps o passes k i e = refl

left_none : (ps : List ProbeState) (o : Choices) (passes : List (List Move)) (i : ℕ) (e : EngineState)
    → parts_left ps o passes 0 i e ≡ without_tree (probe_lines ps) ∷ []
unfolding frames_left
left_none ps o passes i e = refl

-- ---- what the next frame keeps

-- a fact of an engine that stays as its bodies move on
cond_has : (P : EngineState → Type 0) (test : Bool) (x y : EngineState) → P x → P y → P (cond test x y)
cond_has P true x y h k = h
cond_has P false x y h k = k

next_builder : (makes : Builder → Type 0) (c : Command) (steps : ℕ) (passes : List (List Move)) (i : ℕ) (e : EngineState) → makes e.plan.builder
    → makes (moved_on c steps passes i (with_parts c (with_tree e))).plan.builder
next_builder makes command.Tree steps passes i e h = h
next_builder makes command.Passes steps passes i e h =
    cond_has (λ x. makes x.plan.builder) (nat_lt i (length passes)) (shifted_by (pass_at passes i) (with_tree e)) (with_tree e) h h
next_builder makes command.Run steps passes i e h =
    cond_has (λ x. makes x.plan.builder) (nat_lt (i + 1) steps) (drifted (with_frame (with_tree e))) (with_frame (with_tree e)) h h
next_builder makes command.Trial steps passes i e h =
    cond_has (λ x. makes x.plan.builder) (nat_lt (i + 1) steps) (drifted (with_frame (with_tree e))) (with_frame (with_tree e)) h h

next_bare : (c : Command) (steps : ℕ) (passes : List (List Move)) (i : ℕ) (e : EngineState) → i + 1 < frame_count c steps passes
    → (moved_on c steps passes i (with_parts c (with_tree e))).stage ≡ WithoutTree
next_bare command.Tree steps passes i e less = absurd (omega arith)
next_bare command.Passes steps passes i e less = ap (λ (x : EngineState). x.stage) (shifts steps passes i (with_tree e) (omega arith))
next_bare command.Run steps passes i e less = ap (λ (x : EngineState). x.stage) (drifts steps passes i (with_frame (with_tree e)) less)
next_bare command.Trial steps passes i e less = ap (λ (x : EngineState). x.stage) (drifts steps passes i (with_frame (with_tree e)) less)

-- the bodies after no pass
after_none : (bodies : List Body) → after_passes [] bodies ≡ bodies
unfolding after_passes
after_none bodies = refl

-- ---- a run on its way

-- A run is on its way to the frame of a number: the parts that are left begin with that frame, whose points have no tree yet, its builder makes trees in
-- the yard, in a run of passes its bodies are those after the passes before, and only a run by steps keeps probes. `all` are those that were handed in,
-- and `ps` those that are left.
pub record IsOnTheWay (makes : Builder → Type 0) (all : List ProbeState) (o : Choices) (scene : SceneParts) (begun : Output) (i : ℕ) (now : Output)
    (e : EngineState) (ps : List ProbeState) : Type 0 where
  pub on : GoesOn (command_parts all o scene) (parts_left ps o scene.passes (count_of o scene.passes - i) i e) begun now
  pub bare : i < count_of o scene.passes → e.stage ≡ WithoutTree
  pub builder : makes e.plan.builder
  pub bodies : o.command ≡ command.Passes → i ≤ length scene.passes → e.bodies ≡ after_passes (take i scene.passes) scene.bodies
  pub kept : (o.command ≡ command.Run → ⊥) → ps ≡ []

-- the parts that are left at the beginning are all
all_left : (all : List ProbeState) (o : Choices) (scene : SceneParts)
    → parts_left (kept_probes o.command o.probe all) o scene.passes (count_of o scene.passes - 0) 0 (opened o.plan scene.bodies) ≡ command_parts all o scene
all_left all o scene =
    let e = opened o.plan scene.bodies in
    let ps = kept_probes o.command o.probe all in
    let whole : count_of o scene.passes - 0 ≡ count_of o scene.passes = omega arith in
    ap (λ k. parts_left ps o scene.passes k 0 e) whole ∙ ap (frame_parts ps o) (frames_are o.command o scene)

-- a command that runs no steps keeps no probes
none_kept : (c : Command) (choice : ProbeChoice) (all : List ProbeState) → (c ≡ command.Run → ⊥) → kept_probes c choice all ≡ []
none_kept command.Tree choice all other = refl
none_kept command.Passes choice all other = refl
none_kept command.Run choice all other = absurd (other refl)
none_kept command.Trial choice all other = refl

-- the first frame
pub way_begin : {makes : Builder → Type 0} {all : List ProbeState} {o : Choices} {scene : SceneParts} {b : Output} {e : EngineState} {ps : List ProbeState}
    → makes o.plan.builder → e ≡ opened o.plan scene.bodies → ps ≡ kept_probes o.command o.probe all → IsOnTheWay makes all o scene b 0 b e ps
way_begin {makes = makes} {all = all} {o = o} {scene = scene} {b = b} {ps = ps} builder is kept =
    let first = opened o.plan scene.bodies in
    let P : EngineState → Type 0 = λ x. IsOnTheWay makes all o scene b 0 b x ps in
    let R : List ProbeState → Type 0 = λ x. IsOnTheWay makes all o scene b 0 b first x in
    let Q : List Part → Type 0 = λ parts. GoesOn (command_parts all o scene) parts b b in
    subst P (sym is) (subst R (sym kept) (record {
      on = subst Q (sym (all_left all o scene)) (on_begin (command_parts all o scene) b);
      bare = λ less. refl;
      builder = builder;
      bodies = λ passes within. sym (after_none scene.bodies);
      kept = λ other. none_kept o.command o.probe all other;
    }))

-- the parts that are left behind that of a frame
abbrev parts_later : List ProbeState → Choices → List (List Move) → ℕ → EngineState → List Part
parts_later ps o passes i e = parts_left (left_after (frame_of e) ps) o passes (count_of o passes - (i + 1)) (i + 1) (next o passes i e)

-- the parts that are left where a frame is
way_left : {makes : Builder → Type 0} {all : List ProbeState} {o : Choices} {scene : SceneParts} {b : Output} {i : ℕ} {now : Output}
    {e : EngineState} {ps : List ProbeState} → i < count_of o scene.passes
    → IsOnTheWay makes all o scene b i now e ps
    → GoesOn (command_parts all o scene) (part_of_frame ps o e ∷ parts_later ps o scene.passes i e) b now
way_left {all = all} {o = o} {scene = scene} {b = b} {i = i} {now = now} {e = e} {ps = ps} less way =
    let P : List Part → Type 0 = λ parts. GoesOn (command_parts all o scene) parts b now in
    let one : count_of o scene.passes - i ≡ suc (count_of o scene.passes - (i + 1)) = omega arith in
    subst P (ap (λ k. parts_left ps o scene.passes k i e) one ∙ left_more ps o scene.passes (count_of o scene.passes - (i + 1)) i e) way.on

-- the bodies of the next frame
next_bodies : (c : Command) (steps : ℕ) (passes : List (List Move)) (i : ℕ) (e : EngineState) (first : List Body) → c ≡ command.Passes → i < length passes
    → e.bodies ≡ after_passes (take i passes) first
    → (moved_on c steps passes i (with_parts c (with_tree e))).bodies ≡ after_passes (take (i + 1) passes) first
next_bodies command.Tree steps passes i e first is within bodies = cc
next_bodies command.Passes steps passes i e first is within bodies =
    ap (λ (x : EngineState). x.bodies) (shifts steps passes i (with_tree e) within) ∙ ap (shifted (pass_at passes i)) bodies
    ∙ sym (after_more passes i first within)
next_bodies command.Run steps passes i e first is within bodies = cc
next_bodies command.Trial steps passes i e first is within bodies = cc

-- the pass of a number can be one over the bodies of its frame, whose tree was made
pub way_pass : {makes : Builder → Type 0} {all : List ProbeState} {o : Choices} {scene : SceneParts} {b : Output} {i : ℕ} {now : Output}
    {e e1 : EngineState} {ps : List ProbeState}
    → IsScene scene → IsOnTheWay makes all o scene b i now e ps → e1 ≡ with_tree e → o.command ≡ command.Passes → i < length scene.passes
    → IsPass e1.bodies (pass_at scene.passes i)
way_pass {scene = scene} {i = i} accepted way made passes within =
    let P : List Body → Type 0 = λ bodies. IsPass bodies (pass_at scene.passes i) in
    subst P (sym (ap (λ (x : EngineState). x.bodies) made ∙ way.bodies passes (omega arith))) (accepted.passes i within)

-- ---- one turn

-- the part of a frame whose tree was made and shown
part_made : (ps : List ProbeState) (o : Choices) (e e1 : EngineState) (w v : Option (List ℕ)) (k l : ℕ) (y z : YardCounts) (s : Status)
    → e1 ≡ with_tree e → IsCounted y → Rises (builder_publishes e) y z
    → Shows (lines_text (lines_of_frame o.command o e1) ++ lines_at (frame_of e1) ps) w k v l s
    → RunsPart (part_of_frame ps o e) (output w k y) (output v l z) s
part_made ps o e e1 w v k l y z s made counted rose h =
    let P : EngineState → Type 0 = λ x. Shows (lines_text (lines_of_frame o.command o x) ++ lines_at (frame_of x) ps) w k v l s in
    part_shown (part_of_frame ps o e) w v k l y z s counted rose (subst P made h)

-- the tree of a frame was refused
pub way_refused : {makes : Builder → Type 0} {all : List ProbeState} {o : Choices} {scene : SceneParts} {b : Output} {i end : ℕ}
    {w : Option (List ℕ)} {k : ℕ} {y z : YardCounts} {e : EngineState} {ps : List ProbeState}
    → i < end → end ≡ count_of o scene.passes → IsOnTheWay makes all o scene b i (output w k y) e ps → z ≡ y
    → Runs (command_parts all o scene) b (output w k z) status.Memory
way_refused {all = all} {o = o} {scene = scene} {b = b} {i = i} {w = w} {k = k} {y = y} {z = z} {e = e} {ps = ps} less count way same =
    on_stop (command_parts all o scene) (parts_later ps o scene.passes i e) (part_of_frame ps o e) b (output w k y) (output w k z) status.Memory
    (way_left (omega arith) way) (part_refused (part_of_frame ps o e) w k y z same) (λ e. cc)

-- the run stopped as a frame whose tree was made was shown
pub way_stop : {makes : Builder → Type 0} {all : List ProbeState} {o : Choices} {scene : SceneParts} {b : Output} {i end : ℕ} {w : Option (List ℕ)}
    {k : ℕ} {y z : YardCounts} {e e1 : EngineState} {ps : List ProbeState} {s : Status}
    (v : Option (List ℕ)) (l : ℕ) → i < end → end ≡ count_of o scene.passes → IsOnTheWay makes all o scene b i (output w k y) e ps → e1 ≡ with_tree e
    → IsCounted y
    → Rises (builder_publishes e) y z → Shows (lines_text (lines_of_frame o.command o e1) ++ lines_at (frame_of e1) ps) w k v l s
    → (s ≡ status.Done → ⊥) → Runs (command_parts all o scene) b (output v l z) s
way_stop {all = all} {o = o} {scene = scene} {b = b} {i = i} {w = w} {k = k} {y = y} {z = z} {e = e} {e1 = e1} {ps = ps} {s = s} v l less count
    way made counted rose shown other =
    on_stop (command_parts all o scene) (parts_later ps o scene.passes i e) (part_of_frame ps o e) b (output w k y) (output v l z) s
    (way_left (omega arith) way) (part_made ps o e e1 w v k l y z s made counted rose shown) other

-- a frame whose tree was made is whole, the bodies moved on, and the probes saw it
pub way_next : {makes : Builder → Type 0} {all : List ProbeState} {o : Choices} {scene : SceneParts} {b : Output} {i end : ℕ} {w v : Option (List ℕ)}
    {k l : ℕ} {y z : YardCounts} {e e1 e' : EngineState} {ps ps' : List ProbeState} {s : Status}
    → i < end → end ≡ count_of o scene.passes → IsOnTheWay makes all o scene b i (output w k y) e ps → e1 ≡ with_tree e → IsCounted y
    → Rises (builder_publishes e) y z → Shows (lines_text (lines_of_frame o.command o e1) ++ lines_at (frame_of e1) ps) w k v l s → s ≡ status.Done
    → e' ≡ moved_on o.command o.steps scene.passes i (with_parts o.command e1) → ps' ≡ left_after (frame_of e1) ps
    → IsOnTheWay makes all o scene b (i + 1) (output v l z) e' ps'
way_next {makes = makes} {all = all} {o = o} {scene = scene} {b = b} {i = i} {w = w} {v = v} {k = k} {l = l} {y = y} {z = z} {e = e} {e1 = e1}
    {ps = ps} {ps' = ps'} {s = s}
    less count way made counted rose shown done moved seen =
    let then = output v l z in
    let first = next o scene.passes i e in
    let P : EngineState → Type 0 = λ x. IsOnTheWay makes all o scene b (i + 1) then x ps' in
    let R : List ProbeState → Type 0 = λ x. IsOnTheWay makes all o scene b (i + 1) then first x in
    let moved_as = moved ∙ ap (λ (x : EngineState). moved_on o.command o.steps scene.passes i (with_parts o.command x)) made in
    let seen_as = seen ∙ ap (λ (x : EngineState). left_after (frame_of x) ps) made in
    subst P (sym moved_as) (subst R (sym seen_as) (record {
      on = on_more (command_parts all o scene) (parts_later ps o scene.passes i e) (part_of_frame ps o e) b (output w k y) then s
          (way_left (omega arith) way) (part_made ps o e e1 w v k l y z s made counted rose shown) done;
      bare = next_bare o.command o.steps scene.passes i e;
      builder = next_builder makes o.command o.steps scene.passes i e way.builder;
      bodies = λ passes within. next_bodies o.command o.steps scene.passes i e scene.bodies passes (omega arith) (way.bodies passes (omega arith));
      kept = λ other. ap (left_after (frame_of e)) (way.kept other);
    }))

-- the last part ends a run, whatever its status
runs_last : (all : List Part) (p : Part) (b now a : Output) (s : Status) → GoesOn all (p ∷ []) b now → RunsPart p now a s → Runs all b a s
runs_last all p b now a status.Done way h = (on_more all [] p b now a status.Done way h refl).on a status.Done (still a)
runs_last all p b now a status.Usage way h = absurd h
runs_last all p b now a status.Read way h = absurd h
runs_last all p b now a status.Write way h = on_stop all [] p b now a status.Write way h (λ e. cc)
runs_last all p b now a status.Scene way h = absurd h
runs_last all p b now a status.Memory way h = on_stop all [] p b now a status.Memory way h (λ e. cc)

-- all frames are whole, and the probes that are left tell their lines
pub way_end : {makes : Builder → Type 0} {all : List ProbeState} {o : Choices} {scene : SceneParts} {b : Output} {i end : ℕ} {w : Option (List ℕ)}
    {k : ℕ} {y : YardCounts} {e : EngineState} {ps : List ProbeState}
    (v : Option (List ℕ)) (l : ℕ) (s : Status) → end ≤ i → end ≡ count_of o scene.passes → IsOnTheWay makes all o scene b i (output w k y) e ps → IsCounted y
    → Shows (probe_lines ps) w k v l s → Runs (command_parts all o scene) b (output v l y) s
way_end {all = all} {o = o} {scene = scene} {b = b} {i = i} {w = w} {k = k} {y = y} {e = e} {ps = ps} v l s past count way counted
    shown =
    let P : List Part → Type 0 = λ parts. GoesOn (command_parts all o scene) parts b (output w k y) in
    let none : count_of o scene.passes - i ≡ 0 = omega arith in
    let last = subst P (ap (λ n. parts_left ps o scene.passes n i e) none ∙ left_none ps o scene.passes i e) way.on in
    runs_last (command_parts all o scene) (without_tree (probe_lines ps)) b (output w k y) (output v l y) s last
    (part_shown (without_tree (probe_lines ps)) w v k l y y s counted (none_published y counted) shown)

-- ---- what is shown

-- how the writing of the lines of a frame ended, by the command, with a text behind them
pub shown_as : (c d : Command) (o : Choices) (e : EngineState) (rest : List ℕ) (w v : Option (List ℕ)) (k l : ℕ) (s : Status) → c ≡ d
    → Shows (lines_text (lines_of_frame d o e) ++ rest) w k v l s → Shows (lines_text (lines_of_frame c o e) ++ rest) w k v l s
shown_as c d o e rest w v k l s is h =
    let P : Command → Type 0 = λ x. Shows (lines_text (lines_of_frame x o e) ++ rest) w k v l s in
    subst P (sym is) h

-- the same where there are no probes
pub shown_alone : (c d : Command) (o : Choices) (e : EngineState) (f : FrameFigures) (ps : List ProbeState) (w v : Option (List ℕ)) (k l : ℕ) (s : Status)
    → c ≡ d → ps ≡ [] → Shows (lines_text (lines_of_frame d o e)) w k v l s → Shows (lines_text (lines_of_frame c o e) ++ lines_at f ps) w k v l s
shown_alone c d o e f ps w v k l s is none h =
    let P : List ℕ → Type 0 = λ text. Shows text w k v l s in
    let lines = lines_text (lines_of_frame d o e) in
    shown_as c d o e (lines_at f ps) w v k l s is (subst P (sym (ap (λ x. lines ++ lines_at f x) none ∙ append-nil lines)) h)

pub left_alone : (f : FrameFigures) (ps : List ProbeState) → ps ≡ [] → ps ≡ left_after f ps
left_alone f ps none = none ∙ sym (ap (left_after f) none)

-- a command that is another one is no run
pub no_run : (c d : Command) → c ≡ d → (d ≡ command.Run → ⊥) → c ≡ command.Run → ⊥
no_run c d is other run = other (sym is ∙ run)

-- the lines of a trial are those of its last frame
pub last_shown : (o : Choices) (e : EngineState) (w v : Option (List ℕ)) (k l : ℕ) (s : Status) → e.step + 1 ≡ o.steps
    → Shows (lines_text (trial_lines o.made o.steps e)) w k v l s → Shows (lines_text (lines_of_frame command.Trial o e)) w k v l s
last_shown o e w v k l s last h =
    let test : is_last o.steps e ≡ true = grind (arith, nat_tests) in
    let P : List TextLine → Type 0 = λ lines. Shows (lines_text lines) w k v l s in
    subst P (sym (chosen (is_last o.steps e) (trial_lines o.made o.steps e) [] test)) h
