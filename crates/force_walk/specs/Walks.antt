-- The pulls on all bodies.
use Rattle.std.specs.Prelude.{ℕ, ◌-◌, ◌^◌, List, map}
use Rattle.bh_model.specs.Bodies.{numbers}
use Rattle.bh_model.specs.Moments.{Matter}
use Rattle.bh_model.specs.Pulls.{IsSmall, PullLaw, pull}
use Rattle.bh_model.specs.Trees.{Tree}
use Rattle.bh_model.specs.declared.pull.Pull.{Pull}

-- the pulls of a tree on the first bodies, by their numbers
abbrev pub pulls : PullLaw → Matter → ℕ → Tree → List Pull
pulls law m count tree = map (λ n. pull law m n tree) (numbers count)

-- each component of a pull among so many bodies is below 2 ^ 80 in size, and it has fewer terms than there are bodies
abbrev pub IsPullAmong : ℕ → Pull → Type 0
IsPullAmong count p = IsSmall (2 ^ 80 - 1) (count - 1) p
