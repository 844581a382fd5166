-- How bodies move from frame to frame.
use Rattle.std.specs.Prelude.{ℕ, ℤ, pos, negsuc, neg_ℤ, ◌+ℤ◌, ◌+◌, ◌*◌, ◌/◌, ◌^◌, List, [], ◌∷◌, ◌++◌, map, nat_lt, if◌then◌else◌, slice_index_or}
use Rattle.std.specs.Prelude.{Option, Some, None}
use Rattle.std.specs.Int.{int_max, int_min}
use Rattle.std.specs.List.{list_any}
use Rattle.octant_code.specs.Space.{Site, same_coordinates}
use Rattle.bh_model.specs.Motions.{Exact, Velocity}
use Rattle.bh_model.specs.declared.pull.Pull.{Pull}
use Rattle.scene_file.specs.declared.bodies.Body.{Body}
use Rattle.scene_file.specs.declared.moves.Move.{Move}
use Rattle.drift.specs.declared.body_motion.BodyMotion.{BodyMotion}

-- ---- where bodies are, and how they begin

-- the whole point of an exact position: that of the cube which it lies in
abbrev pub whole : Exact → Site
whole e = record { x = e.x / 2 ^ 32; y = e.y / 2 ^ 32; z = e.z / 2 ^ 32 }

-- the whole points of bodies, in the order of their numbers
abbrev pub whole_points : List BodyMotion → List Site
whole_points bodies = map (λ (b : BodyMotion). whole b.exact) bodies

-- where a body is exactly before it moves: at its point
abbrev pub first_exact : Body → Exact
first_exact b = record { x = b.at.x * 2 ^ 32; y = b.at.y * 2 ^ 32; z = b.at.z * 2 ^ 32 }

-- the velocity of a body that does not move
abbrev pub at_rest : Velocity
at_rest = record { x = pos 0; y = pos 0; z = pos 0 }

-- the motion of a body before its first step: at its point, and at rest
abbrev pub started : Body → BodyMotion
started b = record { exact = first_exact b; velocity = at_rest }

-- the motion of bodies before their first step
abbrev pub first_motion : List Body → List BodyMotion
first_motion bodies = map started bodies

-- the motion of a body that no list has, for numbers past a list's end
abbrev pub no_motion : BodyMotion
no_motion = record { exact = record { x = 0; y = 0; z = 0 }; velocity = at_rest }

-- the motion of the body of a number
abbrev pub motion_of : List BodyMotion → ℕ → BodyMotion
motion_of bodies n = slice_index_or bodies n no_motion

-- ---- a step of one body

-- a velocity along an axis after an acceleration, at most 2 ^ 50 in either direction
abbrev pub sped : ℤ → ℤ → ℤ
sped v a = int_max (neg_ℤ (pos (2 ^ 50))) (int_min (v +ℤ a) (pos (2 ^ 50)))

-- the coordinate that a number is, where it is one: from 0, and below 2 ^ 53
abbrev pub coordinate : ℤ → Option ℕ
coordinate (pos n) = if nat_lt n (2 ^ 53) then Some n else None
coordinate (negsuc n) = None

-- the coordinate and the velocity along an axis where the target is a coordinate; at a wall the coordinate stays, and the velocity turns round
abbrev pub turned_at_wall : ℕ → ℤ → Option ℕ → ℕ × ℤ
turned_at_wall x v (Some target) = (target, v)
turned_at_wall x v None = (x, neg_ℤ v)

-- the coordinate and the velocity along an axis after a step with a velocity
unfoldable pub along : ℕ → ℤ → ℕ × ℤ
along x v = turned_at_wall x v (coordinate (pos x +ℤ v))

-- the motion of a body after a step with a pull, where nothing is in its way
unfoldable pub target : Pull → BodyMotion → BodyMotion
target p b =
    let x = along b.exact.x (sped b.velocity.x p.ax) in
    let y = along b.exact.y (sped b.velocity.y p.ay) in
    let z = along b.exact.z (sped b.velocity.z p.az) in
    record { exact = record { x = x.0; y = y.0; z = z.0 }; velocity = record { x = x.1; y = y.1; z = z.1 } }

-- the motion of a body that another is in the way of: where it was exactly, and at rest
abbrev pub stopped : BodyMotion → BodyMotion
stopped b = record { exact = b.exact; velocity = at_rest }

-- the motion of a body after its turn, with the whole points of all other bodies at that turn: another one at the whole point of its target stops it
abbrev pub after_turn : List Site → Pull → BodyMotion → BodyMotion
after_turn others p b = if list_any (same_coordinates (whole (target p b).exact)) others then stopped b else target p b

-- ---- a step of all bodies

-- bodies after their turns, one after another; `before` are the whole points of those before them, which had their turns
unfoldable pub after_turns : List Site → List Pull → List BodyMotion → List BodyMotion
after_turns before pulls [] = []
after_turns before [] (b ∷ rest) = b ∷ rest
after_turns before (p ∷ pulls) (b ∷ rest) =
    let next = after_turn (before ++ whole_points rest) p b in
    next ∷ after_turns (before ++ whole next.exact ∷ []) pulls rest

-- the motion of bodies after a step with a pull for each: they take turns in the order of their numbers
abbrev pub stepped : List Pull → List BodyMotion → List BodyMotion
stepped pulls bodies = after_turns [] pulls bodies

-- the whole point of a body after a step, where that changed
abbrev pub changed_point : BodyMotion → BodyMotion → Option Site
changed_point old new = if same_coordinates (whole old.exact) (whole new.exact) then None else Some (whole new.exact)

-- moves, after one of the body of a number to a point, where there is one
abbrev pub with_move : ℕ → Option Site → List Move → List Move
with_move n None moves = moves
with_move n (Some to) moves = (record { body = n; to = to }) ∷ moves

-- the moves of bodies, the first of which has this number, from one motion to another: one for each body whose whole point changes
unfoldable pub moves_from : ℕ → List BodyMotion → List BodyMotion → List Move
moves_from n [] new = []
moves_from n (a ∷ old) [] = []
moves_from n (a ∷ old) (b ∷ new) = with_move n (changed_point a b) (moves_from (n + 1) old new)

-- the moves of bodies from one motion to another, in the order of their numbers
abbrev pub moves_between : List BodyMotion → List BodyMotion → List Move
moves_between old new = moves_from 0 old new
