use Rattle.std.proofs.Common.{◌++◌}
use Rattle.bh_outside.proofs.Texts.{puts_failed, puts_stop, puts_then}
use Rattle.nbody_cli.specs.Lines.{line_start, newline}
use Rattle.nbody_cli.specs.Seen.{line_of}
use Rattle.nbody_cli.proofs.lines.put_line.Goals as goal

pub returns-in_err-put_start-clause-text : goal.returns-in_err-put_start-clause-text
returns-in_err-put_start-clause-text g c =
    let start = line_start (line_of c.args.line.now) in
    puts_stop _ _ _ _ (start ++ newline) _ c.from_residual.ensures.0 (puts_failed _ _ _ start newline c.in_err-put_start.ensures.text)

pub returns-clause-text : goal.returns-clause-text
returns-clause-text g c = puts_then _ _ _ _ _ _ (line_start (line_of c.args.line.now)) newline _ c.in_ok-put_start.ensures.text c.put_byte.ensures.text
