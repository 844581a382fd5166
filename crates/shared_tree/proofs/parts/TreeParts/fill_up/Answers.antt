use Rattle.std.proofs.Common.{arith}
use Rattle.shared_tree.proofs.parts.TreeParts.fill_up.Goals as goal

pub overflow_mul-wanted : goal.overflow_mul-wanted
overflow_mul-wanted c = omega (arith, c.requires.bodies, c.todo_rule.ensures.few)
