use Rattle.std.proofs.Common.{List, [], arith, map, subst}
use Rattle.probe.specs.States.{ProbeState}
use Rattle.nbody_cli.specs.Serving.{IsCounted, Runs, output}
use Rattle.nbody_cli.specs.Text.{Part, command_parts}
use Rattle.nbody_cli.proofs.Serving.{options_ran, waits_for_nobody}
use Rattle.nbody_cli.proofs.service.serve_free.Goals as goal

pub run_free-requires-clause-builder : goal.run_free-requires-clause-builder
run_free-requires-clause-builder g c κs within = waits_for_nobody c.args.options.now.plan.builder c.requires.builder

pub run_free-requires-clause-accepted : goal.run_free-requires-clause-accepted
run_free-requires-clause-accepted g c κs within = (c.in-Ok.ensures.opened []).accepted

pub run_free-requires-clause-opened : goal.run_free-requires-clause-opened
run_free-requires-clause-opened g c κs within = (c.in-Ok.ensures.opened []).engine

pub returns-clause-serves : goal.returns-clause-serves
returns-clause-serves g c =
    let yard = c.args.free.now in
    let counted : IsCounted yard = record { published = omega arith; changes = omega arith } in
    let probes : List ProbeState = map (λ b. record {
      kind = (goal.Probe-dyn g (b.vtable, b.value)).kind b.value;
      state = (goal.Probe-dyn g (b.vtable, b.value)).state b.value;
    }) c.args.probes.items in
    let parts : List Part = command_parts probes c.args.options.now (record { bodies = c.in-Ok.opened.0.bodies; passes = c.in-Ok.opened.1 }) in
    let ran = subst (λ k. Runs parts (output (g.K.Sink.written k) (g.K.Sink.faults k) yard)
    (output (g.K.Sink.written c.run_free.new.sink) (g.K.Sink.faults c.run_free.new.sink) c.run_free.new.free) c.run_free.result) c.in-Ok.ensures.silent
    c.run_free.ensures in
    options_ran probes c.args.options.now c.in-Ok.opened.0 c.in-Ok.opened.1 _ _ _ _ _ _ _ _ yard c.run_free.new.free c.run_free.result
    (c.in-Ok.ensures.opened probes) counted ran
