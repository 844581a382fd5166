use Rattle.std.proofs.Common.{ℕ, ◌<◌, arith, subst}
use Rattle.octant_code.proofs.Keys.{pow8-mono}
use Rattle.tree_rule.proofs.Tested.{false_where, no_key_below}
use Rattle.tree_rule.proofs.stands.is_cell_key.Goals as goal

pub returns-then-key-low : goal.returns-then-key-low
returns-then-key-low c =
    false_where _ (no_key_below c.args.key c.loop-i.i (subst (λ (x : ℕ). c.args.key < x) c.loop-i.invariant.0 c.if-key-low.true) c.loop-i.invariant.1)

pub overflow_mul-low : goal.overflow_mul-low
overflow_mul-low c = omega (arith, c.loop-i.invariant.0, pow8-mono c.loop-i.i 20 (omega arith))

pub overflow_mul-low-in-loop-i : goal.overflow_mul-low-in-loop-i
overflow_mul-low-in-loop-i c = omega (arith, c.loop-i.invariant.0, pow8-mono c.loop-i.i 20 (omega arith))
