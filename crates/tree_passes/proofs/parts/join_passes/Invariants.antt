use Rattle.tree_passes.proofs.parts.join_passes.Given as goal

abbrev pub ghosts-join_common : goal.ghosts-join_common
ghosts-join_common a = record { points = a.pass.now.me.0.points; bodies = a.pass.now.me.0.bodies; memory = a.pass.now.me.0.memory }
