use Rattle.std.proofs.Common.{arith, sym, ◌∙◌, add-one, refl, below_more}
use Rattle.octant_code.proofs.Keys.{key-zero, key-suc, key-next-fits, last-level}
use Rattle.octant_code.proofs.space.key_has.Goals as goal

pub loop-i-init : goal.loop-i-init
loop-i-init c = (sym (key-zero c.args.p), λ k h. absurd (omega arith))

pub returns-then-here-key : goal.returns-then-here-key
returns-then-here-key c = (λ _. (c.loop-i.i, omega arith, sym c.if-here-key.true ∙ c.loop-i.invariant.0), λ _. refl)

pub overflow_mul-here : goal.overflow_mul-here
overflow_mul-here c = omega (arith, key-next-fits c.args.p c.loop-i.i)

pub overflow_add-here : goal.overflow_add-here
overflow_add-here c = omega (arith, key-next-fits c.args.p c.loop-i.i)

pub loop-i-preserved : goal.loop-i-preserved
loop-i-preserved c = (
  rw add-one (omega (arith, key-suc c.args.p c.loop-i.i)),
  below_more _ _ c.loop-i.invariant.1 (λ e. c.if-here-key.false (c.loop-i.invariant.0 ∙ sym e)),
)

pub returns : goal.returns
returns c = last-level c.args.p c.loop-i.here c.args.key c.loop-i.i c.loop-i.invariant.0 (omega arith) c.loop-i.invariant.1
