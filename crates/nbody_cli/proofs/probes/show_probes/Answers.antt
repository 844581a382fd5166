use Rattle.std.proofs.Common.{◌∙◌, ◌<◌, length, sym, arith}
use Rattle.nbody_cli.proofs.KeptProbes.{item_set, seen, shown_gone, shown_stop}
use Rattle.nbody_cli.proofs.probes.show_probes.Goals as goal

pub returns-in_default : goal.returns-in_default
returns-in_default g c =
    let items = c.loop-at.probes.items in
    let within : c.loop-at.at < length items = omega (arith, c.loop-at-test.true, c.len.ensures) in
    let same = item_set items c.loop-at.at c.show_probe.new.probe c.remove-probe.result within c.remove-probe.ensures.value in
    record {
      shows = shown_stop _ _ _ _ _ _ _ _ _ _ _ _ c.show_probe.new.probe _ c.loop-at.invariant within c.index_mut.ensures.value
          (seen _ _ _ c.show_probe.ensures.kind c.in-Ok-Finished.ensures.state) (sym c.in-Ok-Finished.field-0-is ∙ c.in-Ok-Finished.ensures.verdict)
          (rw (← same) c.write_line.ensures.shows) c.in_default.not-Done;
      left = λ done. absurd (c.in_default.not-Done done);
    }

pub loop-at-preserved : goal.loop-at-preserved
loop-at-preserved g c =
    let items = c.loop-at.probes.items in
    let within : c.loop-at.at < length items = omega (arith, c.loop-at-test.true, c.len.ensures) in
    let same = item_set items c.loop-at.at c.show_probe.new.probe c.remove-probe.result within c.remove-probe.ensures.value in
    rw c.remove-probe.ensures.items
    (shown_gone _ _ _ _ _ _ _ _ _ _ _ _ c.show_probe.new.probe _ c.loop-at.invariant within c.index_mut.ensures.value
    (seen _ _ _ c.show_probe.ensures.kind c.in-Ok-Finished.ensures.state) (sym c.in-Ok-Finished.field-0-is ∙ c.in-Ok-Finished.ensures.verdict)
    (rw (← same) c.write_line.ensures.shows) c.in-Done.is)
