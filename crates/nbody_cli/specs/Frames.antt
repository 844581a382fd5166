-- The lines of a frame.
use Rattle.std.specs.Prelude.{ℕ, List, [], ◌∷◌, ◌++◌, Option, None, Some, codes, length, map}
use Rattle.octant_code.specs.Space.{Site}
use Rattle.octant_code.specs.Points.{site_at}
use Rattle.bh_model.specs.Bodies.{numbers}
use Rattle.bh_model.specs.Trees.{Tree, cell_count, depth}
use Rattle.bh_model.specs.Zones.{zone}
use Rattle.bh_model.specs.declared.pull.Pull.{Pull}
use Rattle.bh_model.specs.declared.update.UpdateCounts.{UpdateCounts}
use Rattle.frame_core.specs.Engines.{EngineState, builder_pieces, frame_of, last_update}
use Rattle.frame_core.specs.Frames.{pull_on, tree_of_bodies}
use Rattle.mass_moments.specs.Kept.{cost_at}
use Rattle.nbody_options.specs.declared.options.Made.{Made}
use Rattle.nbody_cli.specs.declared.frame_text.Told.{Told}
use Rattle.nbody_cli.specs.Lines.{TextLine, TreeLine, Words, Word, Number, Numbers, Signed}
use Rattle.probe.specs.Figures.{FrameFigures}
use Rattle.scene_file.specs.Bodies.{sites_of}
use Rattle.scene_file.specs.declared.made.Shape.{Shape}
use Rattle.scene_file.specs.declared.made.Shape.TheVariants as shape

-- the line of the number of pieces, where a builder tells of any
abbrev pub pieces_lines : Option ℕ → List TextLine
pieces_lines None = []
pieces_lines (Some count) = Words (codes "pieces") (Number count ∷ []) ∷ []

-- the line of the counts of an update, where a builder tells of one
abbrev pub update_lines : Option UpdateCounts → List TextLine
update_lines None = []
update_lines (Some counts) =
    Words (codes "update")
    (Word (codes "left") ∷ Number counts.left ∷ Word (codes "freed") ∷ Number counts.freed ∷ Word (codes "taken") ∷ Number counts.taken ∷ [])
    ∷ []

-- the lines of what a builder tells
abbrev pub told_lines : Told → List TextLine
told_lines told = pieces_lines told.pieces ++ update_lines told.update

-- what the builder of an engine tells of its last tree, which is that of its points
abbrev pub told_of : EngineState → Told
told_of e = record { pieces = builder_pieces e; update = last_update e }

abbrev pub builder_lines : EngineState → List TextLine
builder_lines e = told_lines (told_of e)

-- the lines of a tree: its builder's behind its own
abbrev pub tree_lines : EngineState → List TextLine
tree_lines e = TreeLine (tree_of_bodies e.bodies) ∷ builder_lines e

-- the line of how large a tree is: how many cells it has, and its depth
abbrev pub cells_line : ℕ → ℕ → TextLine
cells_line cells deep = Words (codes "cells") (Number cells ∷ Word (codes "depth") ∷ Number deep ∷ [])

-- the first lines of a frame: its number, its tree, and how large that is
abbrev pub size_lines : ℕ → Tree → List TextLine
size_lines step tree = Words (codes "frame") (Number step ∷ []) ∷ TreeLine tree ∷ cells_line (cell_count tree) (depth tree) ∷ []

-- the lines of a frame of passes: its first lines, and those of the builder
abbrev pub pass_lines : EngineState → List TextLine
pass_lines e = size_lines e.step (tree_of_bodies e.bodies) ++ builder_lines e

-- the line of the cost of all bodies and the greatest of a zone
abbrev pub cost_line : FrameFigures → TextLine
cost_line f = Words (codes "cost") (Number f.cost ∷ Word (codes "greatest") ∷ Number f.greatest ∷ [])

-- the lines at the head of a frame: its first lines, those of the builder, and that of the cost
abbrev pub head_lines : Tree → Told → FrameFigures → List TextLine
head_lines tree told f = size_lines f.step tree ++ (told_lines told ++ (cost_line f ∷ []))

-- the line of a worker's zone
abbrev pub zone_line : ℕ → List ℕ → TextLine
zone_line w bodies = Words (codes "zone") (Number w ∷ Numbers bodies ∷ [])

-- the line of a body: its number, its point, its acceleration, and how many terms that has
abbrev pub body_line : ℕ → Site → Pull → TextLine
body_line n at p =
    Words (codes "acc")
    (Number n ∷ Word (codes "at") ∷ Number at.x ∷ Number at.y ∷ Number at.z ∷ Word (codes "pull") ∷ Signed p.ax ∷ Signed p.ay ∷ Signed p.az ∷ Word
    (codes "met") ∷ Number p.met ∷ [])

-- the lines of a worker and of a body in an engine's frame
abbrev pub zone_line_of : EngineState → ℕ → TextLine
zone_line_of e w = zone_line w (zone (cost_at e.costs) e.plan.workers w (tree_of_bodies e.bodies))

abbrev pub body_line_of : EngineState → ℕ → TextLine
body_line_of e n = body_line n (site_at (sites_of e.bodies) n) (pull_on e.plan.law e.bodies n)

-- the lines of all workers and of all bodies
abbrev pub zone_lines : EngineState → List TextLine
zone_lines e = map (zone_line_of e) (numbers e.plan.workers)

abbrev pub body_lines : EngineState → List TextLine
body_lines e = map (body_line_of e) (numbers (length e.bodies))

-- the lines of an engine's frame: its head, a line for each worker, and a line for each body
abbrev pub frame_lines : EngineState → List TextLine
frame_lines e = head_lines (tree_of_bodies e.bodies) (told_of e) (frame_of e) ++ (zone_lines e ++ body_lines e)

-- ---- the lines of a trial

-- the name of a shape
abbrev pub shape_name : Shape → List ℕ
shape_name shape.Uniform = codes "uniform"
shape_name shape.Corner = codes "corner"

-- the line of what was made and run: how many bodies, the seed of their numbers, their shape, and how many steps
abbrev pub trial_line : Made → ℕ → TextLine
trial_line made steps =
    Words (codes "trial")
    (Number made.count ∷ Word (codes "seed") ∷ Number made.seed ∷ Word (codes "shape") ∷ Word (shape_name made.shape) ∷ Word (codes "steps") ∷ Number steps
    ∷ [])

-- the line of the cost of all bodies, the greatest of a zone, and the terms of all pulls
abbrev pub met_line : FrameFigures → TextLine
met_line f = Words (codes "cost") (Number f.cost ∷ Word (codes "greatest") ∷ Number f.greatest ∷ Word (codes "met") ∷ Number f.met ∷ [])

-- the line of the sums of mass times acceleration
abbrev pub push_line : FrameFigures → TextLine
push_line f = Words (codes "push") (Signed f.push_x ∷ Signed f.push_y ∷ Signed f.push_z ∷ [])

-- the lines of a trial: what was made and run, and then the depth and the figures of the last frame
abbrev pub summary_lines : Made → ℕ → ℕ → FrameFigures → List TextLine
summary_lines made steps deep f = trial_line made steps ∷ cells_line f.cells deep ∷ met_line f ∷ push_line f ∷ []

-- those of a trial whose last frame is an engine's
abbrev pub trial_lines : Made → ℕ → EngineState → List TextLine
trial_lines made steps e = summary_lines made steps (depth (tree_of_bodies e.bodies)) (frame_of e)
