use Rattle.std.proofs.Common.{◌++◌, take, arith, length-take, length-append}
use Rattle.bh_outside.proofs.Takings.{gave_more}
use Rattle.bh_outside.proofs.calls.read_all.Goals as goal

pub returns-then-count-limit-clause-bytes : goal.returns-then-count-limit-clause-bytes
returns-then-count-limit-clause-bytes g c =
    let inv = c.loop-count.invariant in
    let w = c.in-Ok.ensures.bytes in (
      c.loop-count.bytes.items ++ take c.in-Ok.count c.read_some.new.into,
      gave_more _ _ _ _ _ inv.0 w.0,
      let h = c.loop-count.bytes.ok in let b = c.in-Ok.ensures.bound in simp (length-append, length-take) (omega arith),
    )

pub returns-then-is_err-clause-bytes : goal.returns-then-is_err-clause-bytes
returns-then-is_err-clause-bytes g c =
    let inv = c.loop-count.invariant in
    let w = c.in-Ok.ensures.bytes in (
      c.loop-count.bytes.items ++ take c.in-Ok.count c.read_some.new.into,
      gave_more _ _ _ _ _ inv.0 w.0,
      let h = c.loop-count.bytes.ok in let b = c.in-Ok.ensures.bound in simp (length-append, length-take) (omega (arith, inv.1)),
    )
