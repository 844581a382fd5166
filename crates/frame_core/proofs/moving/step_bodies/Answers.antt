use Rattle.std.proofs.Common.{◌≡◌, ap, length, sym, ◌∙◌}
use Rattle.drift.specs.Motions.{stepped, whole_points}
use Rattle.scene_file.specs.Moves.{shifted}
use Rattle.scene_file.specs.Bodies.{sites_of}
use Rattle.frame_core.specs.Held.{motion_by}
use Rattle.frame_core.specs.Next.{bodies_at}
use Rattle.frame_core.proofs.Moved.{at_points, shifted_count, shifted_masses}
use Rattle.frame_core.proofs.moving.step_bodies.Goals.{in-Some, in-None+in_ok-motion-in-None}
use Rattle.frame_core.proofs.moving.step_bodies.Goals as goal

-- how the bodies moved, with the motion that was kept or began
motion_was : (c : goal.After-drop-moves-2) → c.match-motion.motion ≡ motion_by c.args.motion c.args.bodies.now
motion_was c = elim c.match-motion.branch [
  | in-Some w ↦ w.motion-is ∙ ap (λ m. motion_by m c.args.bodies.now) (sym w.in-Some.is)
  | in-None+in_ok-motion-in-None w ↦ w.motion-is ∙ w.in_ok-motion-in-None.ensures.bodies ∙ ap (λ m. motion_by m c.args.bodies.now) (sym w.in-None.is)
]

-- where the moves take the bodies
moved_to : (c : goal.After-drop-moves-2) → sites_of (shifted c.in_ok-moves.moves.items c.args.bodies.now) ≡ whole_points c.step.new.self
moved_to c = (c.in_ok-moves.ensures.shifted c.args.bodies.now (sym c.requires.whole ∙ ap whole_points (sym (motion_was c)))).1

-- what the bodies are after them
moved_by : (c : goal.After-drop-moves-2) → c.in_ok-moved.moved ≡ shifted c.in_ok-moves.moves.items c.args.bodies.now
moved_by c = c.in_ok-moved.ensures ∙ ap (λ m. shifted m c.args.bodies.now) c.deref.ensures.value

pub returns-clause-bodies : goal.returns-clause-bodies
returns-clause-bodies c =
    let bodies = c.args.bodies.now in
    let after : c.step.new.self ≡ stepped c.args.pulls.now (motion_by c.args.motion bodies) =
    c.in_ok-moves.ensures.stepped ∙ ap (stepped c.args.pulls.now) (motion_was c) in
    moved_by c ∙ at_points _ bodies (shifted_masses _ bodies) ∙ ap (λ s. bodies_at s bodies) (moved_to c ∙ ap whole_points after)

pub returns-clause-points : goal.returns-clause-points
returns-clause-points c = sym (ap sites_of (moved_by c) ∙ moved_to c)

pub returns-clause-count : goal.returns-clause-count
returns-clause-count c = ap length (moved_by c) ∙ shifted_count _ c.args.bodies.now
