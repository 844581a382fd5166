use Rattle.tree_passes.proofs.Finding.{looked_nowhere}
use Rattle.tree_passes.proofs.loads.look.Goals as goal

pub returns-clause-looked : goal.returns-clause-looked
returns-clause-looked g c = λ key p. looked_nowhere _ _ _ key _ c.requires.rule (c.counted_load.ensures.sought key p)
