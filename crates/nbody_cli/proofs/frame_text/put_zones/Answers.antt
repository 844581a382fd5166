use Rattle.std.proofs.Common.{◌≡◌, ◌<◌, List, ℕ, arith, subst}
use Rattle.std.proofs.lemmas.List.Folds.{flat_map-map}
use Rattle.bh_model.specs.Bodies.{numbers}
use Rattle.bh_outside.specs.Text.{PutsAll, PutsFront}
use Rattle.bh_outside.proofs.Texts.{puts_none}
use Rattle.nbody_cli.proofs.Rows.{number_all, number_failed, number_more, numbers-none}
use Rattle.nbody_cli.specs.Frames.{zone_line, zone_line_of}
use Rattle.nbody_cli.specs.Lines.{line_text}
use Rattle.nbody_cli.proofs.frame_text.put_zones.Goals as goal

pub loop-w-init : goal.loop-w-init
loop-w-init g c = (rw (numbers-none (λ k. line_text (zone_line_of c.args.engine.now k))) (puts_none _ _), omega arith)

pub loop-w-preserved : goal.loop-w-preserved
loop-w-preserved g c =
    let P : List ℕ → Type 0 = λ z. PutsAll (g.K.Sink.written c.loop-w.sink) (g.K.Sink.written c.put_zone.new.sink) c.loop-w.buffer c.put_zone.new.buffer
    (line_text (zone_line c.loop-w.w z)) in (
      number_more (λ k. line_text (zone_line_of c.args.engine.now k)) c.loop-w.w _ _ _ _ _ _ c.loop-w.invariant.0 (subst P c.zone.ensures c.in-Ok.ensures.text),
      omega (arith, c.loop-w.invariant.1, c.in-Ok.ensures.cause.later),
    )

pub returns-in-Err-clause-text : goal.returns-in-Err-clause-text
returns-in-Err-clause-text g c =
    let e = c.args.engine.now in
    let P : List ℕ → Type 0 = λ z. PutsFront (g.K.Sink.written c.loop-w.sink) (g.K.Sink.written c.put_zone.new.sink) c.loop-w.buffer
    (line_text (zone_line c.loop-w.w z)) in
    let within : c.loop-w.w < e.plan.workers = omega (arith, c.workers-workers.ensures, c.loop-w-test.true) in
    rw (flat_map-map line_text (zone_line_of e) (numbers e.plan.workers))
    (number_failed (λ k. line_text (zone_line_of e k)) e.plan.workers c.loop-w.w _ _ _ _ _ within c.loop-w.invariant.0
    (subst P c.zone.ensures c.in-Err.ensures.text))

pub returns-clause-text : goal.returns-clause-text
returns-clause-text g c =
    let e = c.args.engine.now in
    let all : c.loop-w.w ≡ e.plan.workers = omega (arith, c.workers-workers.ensures, c.loop-w.auto) in
    number_all line_text (zone_line_of e) e.plan.workers c.loop-w.w _ _ _ _ all c.loop-w.invariant.0
