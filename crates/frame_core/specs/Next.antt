-- The next frame of an engine, and the frames of a run and of passes.
use Rattle.std.specs.Prelude.{ℕ, zero, suc, ◌+◌, ◌-◌, ◌^◌, List, [], ◌∷◌, map, min}
use Rattle.octant_code.specs.Space.{Site}
use Rattle.bh_model.specs.Zones.{cost_after, cost_at, zones}
use Rattle.drift.specs.Motions.{first_motion, stepped, whole_points}
use Rattle.scene_file.specs.Moves.{shifted}
use Rattle.scene_file.specs.declared.bodies.Body.{Body}
use Rattle.scene_file.specs.declared.moves.Move.{Move}
use Rattle.frame_core.specs.Building.{Publications, one_for_each}
use Rattle.frame_core.specs.Engines.{EngineState, WithoutTree, with_frame, with_tree}
use Rattle.frame_core.specs.Frames.{pulls_of, tree_of_bodies}

-- bodies at other points, each with its mass
abbrev pub bodies_at : List Site → List Body → List Body
bodies_at (site ∷ sites) (b ∷ bodies) = record { mass = b.mass; at = site } ∷ bodies_at sites bodies
bodies_at _ _ = []

-- the number of the next frame, which stands still at the greatest one of 32 bits
abbrev pub next_number : ℕ → ℕ
next_number n = min (n + 1) (2 ^ 32 - 1)

-- The next frame of a run, before its tree: the pulls of the frame have moved the bodies, a body's cost is 1 and the number of terms of its pull, and the
-- frame's zones are the shares.
abbrev pub drifted : EngineState → EngineState
drifted e = record e {
  step = next_number e.step;
  bodies = bodies_at (whole_points (stepped (pulls_of e.plan.law e.bodies) e.motion)) e.bodies;
  motion = stepped (pulls_of e.plan.law e.bodies) e.motion;
  costs = map cost_after (pulls_of e.plan.law e.bodies);
  shares = zones (cost_at e.costs) e.plan.workers (tree_of_bodies e.bodies);
  stage = WithoutTree;
}

-- The frame after moves, before its tree: the bodies rest, and shares and costs stay.
abbrev pub shifted_by : List Move → EngineState → EngineState
shifted_by moves e = record e {
  step = next_number e.step;
  bodies = shifted moves e.bodies;
  motion = first_motion (shifted moves e.bodies);
  stage = WithoutTree;
}

-- so many frames of a run from one on, each before its tree; a frame has its tree and its parts before the next
unfoldable pub run_frames : ℕ → EngineState → List EngineState
run_frames zero e = []
run_frames (suc more) e = e ∷ run_frames more (drifted (with_frame (with_tree e)))

-- a frame and those after each of the passes, each before its tree; a frame has its tree before the next
unfoldable pub pass_frames : List (List Move) → EngineState → List EngineState
pass_frames [] e = e ∷ []
pass_frames (moves ∷ passes) e = e ∷ pass_frames passes (shifted_by moves (with_tree e))

-- what several trees publish
unfoldable pub sum_publications : List Publications → Publications
sum_publications [] = one_for_each 0
sum_publications (p ∷ rest) = record {
  bodies = p.bodies + (sum_publications rest).bodies;
  least = p.least + (sum_publications rest).least;
  most = p.most + (sum_publications rest).most;
}
