use Rattle.scene_file.proofs.PassingRule.{passing_none}
use Rattle.scene_file.proofs.passing.Passing.new.Goals as goal

pub invariant_of-result : goal.invariant_of-result
invariant_of-result c =
    rw (c.in_ok-copied.ensures, c.in_ok-copied-2.ensures, c.new.ensures.items, c.new-2.ensures.items)
    (passing_none c.args.bodies.now _ c.in_ok-vec.field-0.items c.requires c.in_ok-found_bodies.ensures
    (c.in_ok-vec.ensures.items_if_clones_equal (λ y e. e)))
