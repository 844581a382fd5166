-- What contracts see of an engine.
use Rattle.std.specs.Prelude.{ℕ, List, Option, None, Some, length, ⊤}
use Rattle.bh_model.specs.Plans.{TreePlan}
use Rattle.bh_model.specs.Zones.{first_costs}
use Rattle.bh_model.specs.declared.update.UpdateCounts.{UpdateCounts}
use Rattle.drift.specs.Motions.{first_motion}
use Rattle.drift.specs.declared.body_motion.BodyMotion.{BodyMotion}
use Rattle.mass_moments.specs.Kept.{cost_at}
use Rattle.probe.specs.Figures.{FrameFigures}
use Rattle.scene_file.specs.Bodies.{sites_of}
use Rattle.scene_file.specs.declared.bodies.Body.{Body}
use Rattle.frame_core.specs.Building.{MadeTree, Publications, told_pieces, told_update, tree_publishes}
use Rattle.frame_core.specs.Frames.{frame_figures}
use Rattle.frame_core.specs.Shares.{first_shares}

-- how far an engine is with its bodies' points: they have no tree, a tree, or a tree and a frame, or a call was refused
pub data EngineStage : Type 0 where
  WithoutTree : EngineStage
  WithTree : EngineStage
  WithFrame : EngineStage
  Spent : EngineStage

-- the plan, the number of the frame, the bodies, where each is exactly and how fast it moves, its cost, the shares in which workers build, the last tree
-- that was made, and the stage
pub record EngineState : Type 0 where
  pub plan : TreePlan
  pub step : ℕ
  pub bodies : List Body
  pub motion : List BodyMotion
  pub costs : List ℕ
  pub shares : List (List ℕ)
  pub last : Option MadeTree
  pub stage : EngineStage

-- the points have a tree
abbrev pub HasTree : EngineStage → Type 0
HasTree WithTree = ⊤
HasTree WithFrame = ⊤
HasTree _ = ⊥

-- what is told of a tree, at a stage: nothing where the points have none
abbrev pub where_built : {T : Type 0} → EngineStage → Option T → Option T
where_built WithTree told = told
where_built WithFrame told = told
where_built _ told = None

-- no call was refused
abbrev pub IsUsable : EngineStage → Type 0
IsUsable Spent = ⊥
IsUsable _ = ⊤

-- the engine of a plan and bodies, before its first tree: frame 0, bodies at rest, each cost 1, and no tree
abbrev pub opened : TreePlan → List Body → EngineState
opened plan bodies = record {
  plan = plan;
  step = 0;
  bodies = bodies;
  motion = first_motion bodies;
  costs = first_costs (length bodies);
  shares = first_shares plan.workers (length bodies);
  last = None;
  stage = WithoutTree;
}

-- the tree that a plan makes for bodies after the last tree, where there is one
abbrev pub tree_for : TreePlan → Option MadeTree → List Body → MadeTree
tree_for plan last bodies =
    record { plan = plan; sites = sites_of bodies; update = told_update plan.builder last (sites_of bodies) }

-- the engine once a tree was made for its points
abbrev pub with_made : MadeTree → EngineState → EngineState
with_made made e = record e { last = Some made; stage = WithTree }

-- the engine once its points have a tree
abbrev pub with_tree : EngineState → EngineState
with_tree e = with_made (tree_for e.plan e.last e.bodies) e

-- the engine once it has its frame
abbrev pub with_frame : EngineState → EngineState
with_frame e = record e { stage = WithFrame }

-- the figures of an engine's frame
abbrev pub frame_of : EngineState → FrameFigures
frame_of e = frame_figures e.plan (cost_at e.costs) e.step e.bodies

-- how many pieces the builder of an engine made of its bodies, where it tells of any
abbrev pub builder_pieces : EngineState → Option ℕ
builder_pieces e = told_pieces e.plan.builder e.plan.workers (sites_of e.bodies)

-- the counts of the update by which the last tree was made, where it was
abbrev pub counts_told : Option MadeTree → Option UpdateCounts
counts_told None = None
counts_told (Some made) = made.update

abbrev pub last_update : EngineState → Option UpdateCounts
last_update e = counts_told e.last

-- what the builder of an engine publishes for the tree of its bodies, which have none yet
abbrev pub builder_publishes : EngineState → Publications
builder_publishes e = tree_publishes e.plan.builder e.last (sites_of e.bodies) e.shares
