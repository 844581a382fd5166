-- What an engine holds.
use Rattle.std.specs.Prelude.{◌≡◌, ℕ, List, Option, None, Some, length, map, ⊤}
use Rattle.std.specs.List.{All}
use Rattle.bh_model.specs.Plans.{TreePlan}
use Rattle.bh_model.specs.Trees.{depth}
use Rattle.bh_model.specs.Zones.{cost_after, zones}
use Rattle.drift.specs.Motions.{first_motion, whole_points}
use Rattle.drift.specs.declared.body_motion.BodyMotion.{BodyMotion}
use Rattle.mass_moments.specs.Kept.{IsCost, cost_at}
use Rattle.scene_file.specs.Bodies.{sites_of}
use Rattle.scene_file.specs.declared.bodies.Body.{Body}
use Rattle.build_workers.specs.Shares.{AreShares}
use Rattle.frame_core.specs.Building.{MadeTree}
use Rattle.frame_core.specs.Engines.{EngineStage, EngineState, WithoutTree, WithTree, WithFrame, Spent as IsSpent, frame_of}
use Rattle.frame_core.specs.Frames.{pulls_of, tree_of_bodies}
use Rattle.frame_core.specs.declared.engine.Engine.TheInside.{Inside}
use Rattle.frame_core.specs.declared.stage.FrameParts.{FrameParts}
use Rattle.frame_core.specs.declared.stage.Stage.{Stage}
use Rattle.frame_core.specs.declared.stage.Stage.TheVariants as held

-- the stage that contracts see
abbrev pub stage_of : Stage → EngineStage
stage_of held.Bare = WithoutTree
stage_of held.Tree = WithTree
stage_of (held.Frame parts) = WithFrame
stage_of held.Spent = IsSpent

-- how bodies move: by the motion that is kept, and where none is they rest at their points
abbrev pub motion_by : Option (List BodyMotion) → List Body → List BodyMotion
motion_by (Some motion) bodies = motion
motion_by None bodies = first_motion bodies

-- the state that contracts see
abbrev pub state_of : Inside → EngineState
state_of e = record {
  plan = e.plan;
  step = e.step;
  bodies = e.bodies;
  motion = motion_by e.motion e.bodies;
  costs = e.costs.items;
  shares = map (λ s. s.items) e.shares.items;
  last = e.last;
  stage = stage_of e.stage;
}

-- the figures of an engine's frame, the depth of its tree, the zones by its costs, which can be shares, and the pulls on all bodies, by which costs can be
-- counted
pub record AreParts (e : EngineState) (parts : FrameParts) : Type 0 where
  pub figures : parts.figures ≡ frame_of e
  pub depth : parts.depth ≡ depth (tree_of_bodies e.bodies)
  pub zones : map (λ z. z.items) parts.zones.items ≡ zones (cost_at e.costs) e.plan.workers (tree_of_bodies e.bodies)
  pub pulls : parts.pulls.items ≡ pulls_of e.plan.law e.bodies
  pub shares : AreShares (length e.bodies) (map (λ z. z.items) parts.zones.items)
  pub costs : All (λ p. IsCost (cost_after p)) parts.pulls.items

-- a tree was made by a plan for bodies
abbrev pub IsMadeFor : TreePlan → List Body → Option MadeTree → Type 0
IsMadeFor plan bodies None = ⊥
IsMadeFor plan bodies (Some made) = (made.plan ≡ plan) × (made.sites ≡ sites_of bodies)

-- the last tree that an engine made is that of its plan and its bodies' points
abbrev pub HasLast : EngineState → Type 0
HasLast e = IsMadeFor e.plan e.bodies e.last

-- a tree that was made, if any was, is one of so many bodies
abbrev pub IsOfSize : ℕ → Option MadeTree → Type 0
IsOfSize count None = ⊤
IsOfSize count (Some made) = length made.sites ≡ count

-- what an engine keeps at a stage: where the points have a tree it is the last one, and where they have a frame its parts
abbrev pub KeepsStage : EngineState → Stage → Type 0
KeepsStage e held.Bare = ⊤
KeepsStage e held.Tree = HasLast e
KeepsStage e (held.Frame parts) = HasLast e × AreParts e parts
KeepsStage e held.Spent = ⊤

-- what every engine keeps: each body at the whole point of its motion, a cost from 1 to 65,536 for each, shares that hold each body once, a last tree, if
-- it has one, of as many bodies, and what its stage says
pub record IsEngine (e : EngineState) (stage : Stage) : Type 0 where
  pub whole : whole_points e.motion ≡ sites_of e.bodies
  pub one_cost_each : length e.costs ≡ length e.bodies
  pub cost : All IsCost e.costs
  pub shares : AreShares (length e.bodies) e.shares
  pub last : IsOfSize (length e.bodies) e.last
  pub at_stage : KeepsStage e stage
