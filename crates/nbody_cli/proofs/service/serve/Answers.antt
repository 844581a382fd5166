use Rattle.std.proofs.Common.{◌≡◌, map, rules}
use Rattle.std.specs.Prelude.{string_bytes}
use Rattle.bh_model.specs.declared.plan.Builder.TheVariants.{Orig}
use Rattle.nbody_options.specs.Options.{options_of}
use Rattle.nbody_cli.proofs.Serving.{reads_none, serves_locked, serves_memory, serves_no_usage, serves_unlocked, serves_usage}
use Rattle.nbody_cli.proofs.service.serve.Goals as goal

pub returns-in-Orig-clause-serves : goal.returns-in-Orig-clause-serves
returns-in-Orig-clause-serves g c =
    let orig : c.in-Ok.options.plan.builder ≡ Orig = search rules in
    rw c.in-Ok.ensures (serves_locked _ c.in-Ok.options _ _ c.args.locked.now c.serve_locked.new.locked c.args.free.now _ orig c.serve_locked.ensures.serves)

pub returns-in-Orig-clause-untouched : goal.returns-in-Orig-clause-untouched
returns-in-Orig-clause-untouched g c = λ none. c.serve_locked.ensures.untouched (reads_none _ c.in-Ok.options c.in-Ok.ensures none)

pub returns-in_default : goal.returns-in_default
returns-in_default g c =
    let other : c.in-Ok.options.plan.builder ≡ Orig → ⊥ = search rules in
    record {
      serves = rw c.in-Ok.ensures
          (serves_unlocked _ c.in-Ok.options _ _ c.args.free.now c.serve_free.new.free c.args.locked.now _ other c.serve_free.ensures.serves);
      sure = c.serve_free.ensures.sure;
      untouched = λ none. c.serve_free.ensures.untouched (reads_none _ c.in-Ok.options c.in-Ok.ensures none);
    }

pub returns-in-Err-OutOfMemory-clause-serves : goal.returns-in-Err-OutOfMemory-clause-serves
returns-in-Err-OutOfMemory-clause-serves g c =
    serves_memory _ (options_of (map string_bytes c.args.words.now)) (g.S.Source.left c.args.source.now) (g.S.Source.faults c.args.source.now)
    (g.K.Sink.written c.args.sink.now) (g.K.Sink.faults c.args.sink.now) c.args.locked.now c.args.free.now

pub returns-in-Ok-write_usage-clause-serves : goal.returns-in-Ok-write_usage-clause-serves
returns-in-Ok-write_usage-clause-serves g c =
    serves_usage _ (options_of (map string_bytes c.args.words.now)) _ _ _ _ _ _ c.args.locked.now c.args.free.now
    (rw c.in-Err-Usage.field-0-is at c.in-Err-Usage.ensures) c.in-Ok-write_usage.ensures.text

pub returns-in-Err-clause-serves : goal.returns-in-Err-clause-serves
returns-in-Err-clause-serves g c =
    serves_no_usage _ (options_of (map string_bytes c.args.words.now)) _ _ _ _ _ _ c.args.locked.now c.args.free.now
    (rw c.in-Err-Usage.field-0-is at c.in-Err-Usage.ensures) c.in-Err.ensures.cause.failed c.in-Err.ensures.text
