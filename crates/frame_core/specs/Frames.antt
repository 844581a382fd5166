-- The frames of a run.
use Rattle.std.specs.Prelude.{ℕ, ℤ, pos, ◌+ℤ◌, ◌*ℤ◌, List, [], ◌∷◌, length}
use Rattle.force_walk.specs.Walks.{pulls}
use Rattle.octant_code.specs.Points.{site_at}
use Rattle.bh_model.specs.Bodies.{numbers}
use Rattle.bh_model.specs.Plans.{TreePlan}
use Rattle.bh_model.specs.Pulls.{PullLaw, pull}
use Rattle.bh_model.specs.Trees.{Tree, cell_count, octree, order}
use Rattle.bh_model.specs.Zones.{cost_of, greatest_cost}
use Rattle.bh_model.specs.declared.pull.Pull.{Pull}
use Rattle.mass_moments.specs.Kept.{matter_of}
use Rattle.probe.specs.Figures.{FrameFigures}
use Rattle.scene_file.specs.Bodies.{sites_of}
use Rattle.scene_file.specs.declared.bodies.Body.{Body}
use Rattle.std.specs.List.{sum_by}

-- the canonical octree of bodies, each by its number
abbrev pub tree_of_bodies : List Body → Tree
tree_of_bodies bodies = octree (site_at (sites_of bodies)) (numbers (length bodies))

-- the pull on a body of all bodies
abbrev pub pull_on : PullLaw → List Body → ℕ → Pull
pull_on law bodies n = pull law (matter_of bodies) n (tree_of_bodies bodies)

-- the pulls of all bodies on each, by their numbers
abbrev pub pulls_of : PullLaw → List Body → List Pull
pulls_of law bodies = pulls law (matter_of bodies) (length bodies) (tree_of_bodies bodies)

-- the sum of whole numbers, one for each body of a list
unfoldable pub sum_over : (ℕ → ℤ) → List ℕ → ℤ
sum_over quantity [] = pos 0
sum_over quantity (n ∷ rest) = quantity n +ℤ sum_over quantity rest

-- the sum of mass times one part of the acceleration, over the bodies of a list
abbrev pub push : (Pull → ℤ) → PullLaw → List Body → List ℕ → ℤ
push part law bodies list = sum_over (λ n. pos ((matter_of bodies).mass n) *ℤ part (pull_on law bodies n)) list

-- the figures of a frame of so many a number, by the costs of its bodies
abbrev pub frame_figures : TreePlan → (ℕ → ℕ) → ℕ → List Body → FrameFigures
frame_figures plan cost step bodies = record {
  step = step;
  bodies = length bodies;
  cells = cell_count (tree_of_bodies bodies);
  cost = cost_of cost (order (tree_of_bodies bodies));
  greatest = greatest_cost cost plan.workers (tree_of_bodies bodies);
  met = sum_by (λ n. (pull_on plan.law bodies n).met) (numbers (length bodies));
  push_x = push (λ p. p.ax) plan.law bodies (numbers (length bodies));
  push_y = push (λ p. p.ay) plan.law bodies (numbers (length bodies));
  push_z = push (λ p. p.az) plan.law bodies (numbers (length bodies));
}
