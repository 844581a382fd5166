use Rattle.std.proofs.Common.{◌≡◌, map, take}
use Rattle.scene_file.specs.declared.bodies.Body.{Body}
use Rattle.library_rows.proofs.plain.masses_of.Given as goal

abbrev pub invariant-loop-n : goal.invariant-loop-n
invariant-loop-n l = l.masses.items ≡ map (λ (b : Body). b.mass) (take l.n l.bodies)
