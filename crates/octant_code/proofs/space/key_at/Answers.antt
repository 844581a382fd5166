use Rattle.std.proofs.Common.{arith, sym, add-one}
use Rattle.octant_code.proofs.Keys.{key-zero, key-suc, key-next-fits}
use Rattle.octant_code.proofs.space.key_at.Goals as goal

pub loop-i-init : goal.loop-i-init
loop-i-init c = sym (key-zero c.args.p)

pub overflow_mul-key : goal.overflow_mul-key
overflow_mul-key c = omega (arith, key-next-fits c.args.p c.loop-i.i)

pub overflow_add-key : goal.overflow_add-key
overflow_add-key c = omega (arith, key-next-fits c.args.p c.loop-i.i)

pub loop-i-preserved : goal.loop-i-preserved
loop-i-preserved c = rw add-one (omega (arith, key-suc c.args.p c.loop-i.i))
