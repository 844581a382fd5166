use Rattle.octree.proofs.Laws.{top_body_inside}
use Rattle.mass_moments.proofs.table.Moments.cost_of.Goals as goal

pub bounds-costs-n : goal.bounds-costs-n
bounds-costs-n c = c.requires.costs_of_bodies c.in-Body.n (top_body_inside _ _ c.in-Body.ensures)
