use Rattle.std.proofs.Common.{◌≡◌, ◌<◌, arith, length, subst}
use Rattle.std.proofs.lemmas.List.Folds.{flat_map-map}
use Rattle.octant_code.specs.Space.{Site}
use Rattle.bh_model.specs.Bodies.{numbers}
use Rattle.bh_model.specs.declared.pull.Pull.{Pull}
use Rattle.bh_outside.specs.Text.{PutsAll, PutsFront}
use Rattle.bh_outside.proofs.Texts.{puts_none}
use Rattle.nbody_cli.proofs.Rows.{number_all, number_failed, number_more, numbers-none}
use Rattle.nbody_cli.specs.Frames.{body_line, body_line_of}
use Rattle.nbody_cli.specs.Lines.{line_text}
use Rattle.nbody_cli.proofs.frame_text.put_bodies.Goals as goal

-- the point and the pull of a body, in a fact on its line
line_is : (P : Site → Pull → Type 0) (s s' : Site) (p p' : Pull) → s ≡ s' → p ≡ p' → P s p → P s' p'
line_is P s s' p p' points pulls h = subst (P s') pulls (subst (λ (t : Site). P t p) points h)

pub loop-n-init : goal.loop-n-init
loop-n-init g c = (rw (numbers-none (λ k. line_text (body_line_of c.args.engine.now k))) (puts_none _ _), omega arith)

pub loop-n-preserved : goal.loop-n-preserved
loop-n-preserved g c =
    let P : Site → Pull → Type 0 = λ s p. PutsAll (g.K.Sink.written c.loop-n.sink) (g.K.Sink.written c.put_body.new.sink) c.loop-n.buffer
    c.put_body.new.buffer (line_text (body_line c.loop-n.n s p)) in (
      number_more (λ k. line_text (body_line_of c.args.engine.now k)) c.loop-n.n _ _ _ _ _ _ c.loop-n.invariant.0
          (line_is P _ _ _ _ c.point.ensures c.pull_of.ensures c.in-Ok.ensures.text),
      omega (arith, c.loop-n.invariant.1, c.in-Ok.ensures.cause.later),
    )

pub returns-in-Err-clause-text : goal.returns-in-Err-clause-text
returns-in-Err-clause-text g c =
    let e = c.args.engine.now in
    let P : Site → Pull → Type 0 = λ s p. PutsFront (g.K.Sink.written c.loop-n.sink) (g.K.Sink.written c.put_body.new.sink) c.loop-n.buffer
    (line_text (body_line c.loop-n.n s p)) in
    let within : c.loop-n.n < length e.bodies = omega (arith, c.requires.bodies, c.loop-n-test.true) in
    rw (flat_map-map line_text (body_line_of e) (numbers (length e.bodies)))
    (number_failed (λ k. line_text (body_line_of e k)) (length e.bodies) c.loop-n.n _ _ _ _ _ within c.loop-n.invariant.0
    (line_is P _ _ _ _ c.point.ensures c.pull_of.ensures c.in-Err.ensures.text))

pub returns-clause-text : goal.returns-clause-text
returns-clause-text g c =
    let e = c.args.engine.now in
    let all : c.loop-n.n ≡ length e.bodies = omega (arith, c.requires.bodies, c.loop-n.auto) in
    number_all line_text (body_line_of e) (length e.bodies) c.loop-n.n _ _ _ _ all c.loop-n.invariant.0
