use Rattle.std.proofs.Common.{List, ℕ, subst}
use Rattle.std.specs.Prelude.{IfErr}
use Rattle.nbody_cli.proofs.Serving.{options_long, options_memory, options_read, scene_ended}
use Rattle.nbody_cli.specs.Serving.{EndsEarly}
use Rattle.scene_file.specs.Scene.{scene_of}
use Rattle.nbody_cli.proofs.service.open_told.Goals as goal

pub returns-in-Ok-TooLong-clause-ended : goal.returns-in-Ok-TooLong-clause-ended
returns-in-Ok-TooLong-clause-ended g c =
    let long = rw c.in-Ok-TooLong.field-0-is at c.in-Ok-TooLong.ensures.bytes in
    λ ps yard. options_long ps c.args.options.now _ _ long.0 _ _ _ _ _ _ yard _ c.requires long.1 long.2 c.answer_fault.ensures

pub returns-in-Err-Failed-clause-ended : goal.returns-in-Err-Failed-clause-ended
returns-in-Err-Failed-clause-ended g c =
    λ ps yard. options_read ps c.args.options.now _ _ _ _ _ _ _ yard c.requires (rw c.in-Err-Failed.field-0-is at c.in-Err-Failed.ensures.failed)

pub returns-in-Err-OutOfMemory-clause-ended : goal.returns-in-Err-OutOfMemory-clause-ended
returns-in-Err-OutOfMemory-clause-ended g c = λ ps yard. options_memory ps c.args.options.now _ _ _ _ _ _ _ yard

pub returns-in-Ok-Whole-clause-ended : goal.returns-in-Ok-Whole-clause-ended
returns-in-Ok-Whole-clause-ended g c =
    let read = rw c.in-Ok-Whole.field-0-is at c.in-Ok-Whole.ensures.bytes in
    let P : List ℕ
    → Type 0 = λ bytes. IfErr c.open_scene.result (λ s. EndsEarly s (scene_of bytes) (g.K.Sink.written c.args.sink.now) (g.K.Sink.faults c.args.sink.now)
    (g.K.Sink.written c.open_scene.new.sink) (g.K.Sink.faults c.open_scene.new.sink)) in
    scene_ended c.args.options.now _ _ c.in-Ok-Whole.bytes.items _ _ _ _ _ _ c.open_scene.result c.requires read.0 read.1
    (subst P c.deref.ensures.value c.open_scene.ensures.ended)
