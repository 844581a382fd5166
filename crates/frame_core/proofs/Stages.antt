-- What an engine holds at a stage.
use Rattle.std.proofs.Common.{◌≡◌, List, Some, ap, subst, sym}
use Rattle.octant_code.specs.Space.{Site}
use Rattle.bh_model.specs.Plans.{TreePlan}
use Rattle.octree.specs.Stored.{IsOctreeOf, Stored}
use Rattle.scene_file.specs.Bodies.{sites_of}
use Rattle.frame_core.specs.Building.{IsMadeTree, MadeTree}
use Rattle.frame_core.specs.Engines.{EngineState, HasTree, WithTree}
use Rattle.frame_core.specs.Held.{AreParts, HasLast, IsEngine, IsMadeFor, KeepsStage, stage_of, state_of}
use Rattle.frame_core.specs.declared.engine.Engine.TheInside.{Inside}
use Rattle.frame_core.specs.declared.stage.FrameParts.{FrameParts}
use Rattle.frame_core.specs.declared.stage.Stage.{Stage}
use Rattle.frame_core.specs.declared.stage.Stage.TheVariants as held

-- where an engine holds a frame, its parts are those of its state
pub frame_of_stage : (i : Inside) (e : EngineState) (parts : FrameParts) → state_of i ≡ e → IsEngine (state_of i) i.stage → i.stage ≡ held.Frame parts
    → AreParts e parts
frame_of_stage i e parts seen rule frame =
    let P : EngineState → Type 0 = λ s. AreParts s parts in
    let Q : Stage → Type 0 = λ s. KeepsStage (state_of i) s in
    subst P seen (subst Q frame rule.at_stage).1

-- where the points have a tree, it is the last one
last_of : (e : EngineState) (s : Stage) → HasTree (stage_of s) → KeepsStage e s → HasLast e
last_of e held.Bare a h = absurd a
last_of e held.Tree a h = h
last_of e (held.Frame parts) a h = h.0
last_of e held.Spent a h = absurd a

-- where the points have a tree, the octree that is kept last is theirs, made by the engine's plan
pub made_of_stage : (i : Inside) (e : EngineState) (kept : MadeTree) (o : Stored) → state_of i ≡ e → IsEngine (state_of i) i.stage → HasTree e.stage
    → i.last ≡ Some kept
    → IsMadeTree kept.plan kept.sites o → IsMadeTree i.plan (sites_of i.bodies) o
made_of_stage i e kept o seen rule tree last h =
    let stage : stage_of i.stage ≡ e.stage = ap (λ s. s.stage) seen in
    let own : HasLast (state_of i) = last_of (state_of i) i.stage (subst HasTree (sym stage) tree) rule.at_stage in
    let made : IsMadeFor i.plan i.bodies (Some kept) = subst (IsMadeFor i.plan i.bodies) last own in
    subst (λ (p : TreePlan). IsMadeTree p (sites_of i.bodies) o) made.0 (subst (λ (s : List Site). IsMadeTree kept.plan s o) made.1 h)

pub octree_of_stage : (i : Inside) (e : EngineState) (kept : MadeTree) (o : Stored) → state_of i ≡ e → IsEngine (state_of i) i.stage → e.stage ≡ WithTree
    → i.last ≡ Some kept
    → IsMadeTree kept.plan kept.sites o → IsOctreeOf (sites_of i.bodies) o
octree_of_stage i e kept o seen rule tree last h = (made_of_stage i e kept o seen rule (subst HasTree (sym tree) tt) last h).octree

-- where an engine is spent, it keeps nothing for its stage
pub spent_keeps : (e : EngineState) (s : Stage) → s ≡ held.Spent → KeepsStage e s
spent_keeps e s is = let P : Stage → Type 0 = λ t. KeepsStage e t in subst P (sym is) tt
