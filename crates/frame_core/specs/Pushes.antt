-- Sums over bodies, by the list of the pulls on them.
use Rattle.std.specs.Prelude.{ℕ, ℤ, pos, ◌*ℤ◌, List, slice_index_or}
use Rattle.bh_model.specs.Bodies.{numbers}
use Rattle.bh_model.specs.Pulls.{no_pull}
use Rattle.bh_model.specs.declared.pull.Pull.{Pull}
use Rattle.mass_moments.specs.Kept.{matter_of}
use Rattle.scene_file.specs.declared.bodies.Body.{Body}
use Rattle.frame_core.specs.Frames.{sum_over}
use Rattle.std.specs.List.{sum_by}

-- the pull on the body of a number
abbrev pub pull_at : List Pull → ℕ → Pull
pull_at pulls n = slice_index_or pulls n no_pull

-- the terms of the pulls on the first bodies
abbrev pub met_by : List Pull → ℕ → ℕ
met_by pulls count = sum_by (λ n. (pull_at pulls n).met) (numbers count)

-- the sum of mass times one part of the acceleration, over the first bodies
abbrev pub push_by : (Pull → ℤ) → List Body → List Pull → ℕ → ℤ
push_by part bodies pulls count = sum_over (λ n. pos ((matter_of bodies).mass n) *ℤ part (pull_at pulls n)) (numbers count)
