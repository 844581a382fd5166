-- Bodies that move: their masses and their costs, and the next frame.
use Rattle.std.proofs.Common.{◌≡◌, ◌<◌, ◌≤◌, ◌-◌, ℕ, List, [], ◌∷◌, All, get_or, length, map, refl, sym, ◌∙◌, ap, subst, arith}
use Rattle.std.proofs.lemmas.List.{get_or-map, length-map}
use Rattle.std.proofs.Math.Seq.{map-set_same}
use Rattle.octant_code.specs.declared.limits.TheConstants.{MOST_BODIES}
use Rattle.bh_model.specs.Pulls.{no_pull}
use Rattle.bh_model.specs.Zones.{IsCost, cost_after, cost_at, zones}
use Rattle.bh_model.specs.declared.pull.Pull.{Pull}
use Rattle.drift.specs.Motions.{stepped, whole_points}
use Rattle.drift.specs.declared.body_motion.BodyMotion.{BodyMotion}
use Rattle.force_walk.specs.Walks.{IsPullAmong}
use Rattle.scene_file.specs.Bodies.{body_at, nobody, sites_of}
use Rattle.scene_file.specs.Moves.{moved, shifted}
use Rattle.scene_file.specs.declared.bodies.Body.{Body}
use Rattle.scene_file.specs.declared.moves.Move.{Move}
use Rattle.frame_core.specs.Engines.{EngineState, WithoutTree}
use Rattle.frame_core.specs.Frames.{pulls_of, tree_of_bodies}
use Rattle.frame_core.specs.Next.{bodies_at, drifted, next_number}

-- the masses of bodies
abbrev pub masses : List Body → List ℕ
masses bodies = map (λ (b : Body). b.mass) bodies

-- moves keep them
pub shifted_masses : (moves : List Move) (bodies : List Body) → masses (shifted moves bodies) ≡ masses bodies
unfolding shifted
shifted_masses [] bodies = refl
shifted_masses (m ∷ moves) bodies =
    shifted_masses moves (moved m bodies)
    ∙ map-set_same (λ (b : Body). b.mass) bodies m.body (record { mass = (body_at bodies m.body).mass; at = m.to }) nobody refl

-- and the number of bodies
pub shifted_count : (moves : List Move) (bodies : List Body) → length (shifted moves bodies) ≡ length bodies
shifted_count moves bodies =
    let before = length-map bodies (λ (b : Body). b.mass) in
    let after = length-map (shifted moves bodies) (λ (b : Body). b.mass) in
    let same = ap length (shifted_masses moves bodies) in
    omega arith

-- bodies of some masses are others of the same masses at their points
pub at_points : (new old : List Body) → masses new ≡ masses old → new ≡ bodies_at (sites_of new) old
at_points [] old same = refl
at_points (b ∷ new) [] same = absurd (let l = ap length same in omega arith)
at_points (b ∷ new) (a ∷ old) same =
    let mass : b.mass ≡ a.mass = cc in
    let rest : masses new ≡ masses old = cc in
    let tail = at_points new old rest in
    let with_mass : ℕ → Body = λ m. record { mass = m; at = b.at } in
    let head : b ≡ with_mass a.mass = ap with_mass mass in
    cc

-- ---- the next frame of a run

-- costs after pulls, each of which can be one
pub costs_after : (pulls : List Pull) → All (λ p. IsCost (cost_after p)) pulls → All IsCost (map cost_after pulls)
costs_after pulls each k d l =
    let within : k < length pulls = omega (arith, length-map pulls cost_after) in
    subst IsCost (sym (get_or-map cost_after pulls k no_pull d within)) (each k no_pull within)

-- pulls among so many bodies can be counted as costs
pub among_costs : (count : ℕ) (pulls : List Pull) → count ≤ MOST_BODIES → length pulls ≡ count → All (IsPullAmong count) pulls
    → All (λ p. IsCost (cost_after p)) pulls
among_costs count pulls few many each k d l =
    let terms : (get_or pulls k d).met ≤ count - 1 = (each k d l).met in
    record { positive = omega arith; small = omega arith }

-- an engine whose parts are those of the next frame
pub drifted_is : (e : EngineState) (step : ℕ) (bodies : List Body) (motion : List BodyMotion) (costs : List ℕ) (shares : List (List ℕ)) (pulls : List Pull)
    → pulls ≡ pulls_of e.plan.law e.bodies → step ≡ next_number e.step → bodies ≡ bodies_at (whole_points (stepped pulls e.motion)) e.bodies
    → motion ≡ stepped pulls e.motion → costs ≡ map cost_after pulls
    → shares ≡ zones (cost_at e.costs) e.plan.workers (tree_of_bodies e.bodies)
    → (let next : EngineState = record e { step = step; bodies = bodies; motion = motion; costs = costs; shares = shares; stage = WithoutTree } in
    next ≡ drifted e)
drifted_is e step bodies motion costs shares pulls found number points moves counts cut =
    let made : ℕ → List Body → List BodyMotion → List ℕ → List (List ℕ) → EngineState =
    λ n b m c s. record e { step = n; bodies = b; motion = m; costs = c; shares = s; stage = WithoutTree } in
    let next : ℕ = next_number e.step in
    let zoned : List (List ℕ) = zones (cost_at e.costs) e.plan.workers (tree_of_bodies e.bodies) in
    ap (λ n. made n bodies motion costs shares) number ∙ ap (λ b. made next b motion costs shares) points
    ∙ ap (λ m. made next (bodies_at (whole_points (stepped pulls e.motion)) e.bodies) m costs shares) moves
    ∙ ap (λ c. made next (bodies_at (whole_points (stepped pulls e.motion)) e.bodies) (stepped pulls e.motion) c shares) counts
    ∙ ap (λ s. made next (bodies_at (whole_points (stepped pulls e.motion)) e.bodies) (stepped pulls e.motion) (map cost_after pulls) s) cut
    ∙ ap (λ p. made next (bodies_at (whole_points (stepped p e.motion)) e.bodies) (stepped p e.motion) (map cost_after p) zoned) found
