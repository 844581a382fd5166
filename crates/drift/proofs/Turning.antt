-- The turn of a body, and turns one after another.
use Rattle.std.proofs.Common.{◌≡◌, ◌≢◌, ◌∙◌, ◌<◌, ◌+◌, ℕ, Bool, suc, true, false, List, [], ◌∷◌, ◌++◌, length, take, drop, nat_eq, if◌then◌else◌}
use Rattle.std.proofs.Common.{refl, sym, subst, ap, arith, Option, Some, None, append_assoc, add-one, add-zero, zero-add, length-append, get_or}
use Rattle.std.specs.Prelude.{◌≤◌, ℤ, slice_set}
use Rattle.std.specs.List.{list_any}
use Rattle.std.proofs.lemmas.List.{append-nil, length-take-le, map-append, take_all}
use Rattle.std.proofs.Math.ListN.{drop_of_length-le}
use Rattle.std.proofs.Math.Seq.{drop-cons, get_or-append_seam, set-append_seam, take-suc}
use Rattle.octant_code.specs.Space.{IsInCube, Site, packed, same_coordinates}
use Rattle.octant_code.proofs.SeenPoints.{same_coordinates_refl}
use Rattle.bh_model.specs.Motions.{Exact, Velocity}
use Rattle.bh_model.specs.Pulls.{no_pull}
use Rattle.bh_model.specs.declared.pull.Pull.{Pull}
use Rattle.scene_file.specs.declared.moves.Move.{Move}
use Rattle.drift.specs.Motions.{after_turn, after_turns, along, changed_point, motion_of, moves_from, no_motion, sped, stepped, target, whole}
use Rattle.drift.specs.Motions.{whole_points, with_move}
use Rattle.drift.specs.Taken.{AreTaken}
use Rattle.drift.specs.declared.body_motion.BodyMotion.{BodyMotion}
use Rattle.drift.proofs.Places.{differing, others_differ, same_back, taken_by_others, taken_put}

-- ---- one turn

-- nothing is in the way of a body: it takes its target
pub free_way : (others : List Site) (p : Pull) (b : BodyMotion) → list_any (same_coordinates (whole (target p b).exact)) others ≡ false
    → target p b ≡ after_turn others p b
free_way others p b free = rw free refl

-- a body that keeps its whole point meets nobody there
pub same_way : (has : ℕ → Bool) (before rest : List Site) (p : Pull) (b : BodyMotion) → AreTaken has (before ++ whole b.exact ∷ rest)
    → whole b.exact ≡ whole (target p b).exact → target p b ≡ after_turn (before ++ rest) p b
same_way has before rest p b taken same =
    free_way (before ++ rest) p b (rw (sym same) (others_differ before (whole b.exact) rest taken.apart))

-- the whole point stays
pub no_change : (old new : BodyMotion) → whole old.exact ≡ whole new.exact → None ≡ changed_point old new
no_change old new same =
    let met : same_coordinates (whole old.exact) (whole new.exact) ≡ true = ap (λ s. same_coordinates (whole old.exact) s) (sym same)
    ∙ same_coordinates_refl (whole old.exact) in
    rw met refl

-- the target by its parts
pub target_is : (p : Pull) (b : BodyMotion) (e : Exact) (v : Velocity) (x y z : ℕ × ℤ) (vx vy vz : ℤ) → e ≡ b.exact → v ≡ b.velocity
    → x ≡ along e.x (sped v.x p.ax) → y ≡ along e.y (sped v.y p.ay) → z ≡ along e.z (sped v.z p.az) → vx ≡ x.1 → vy ≡ y.1 → vz ≡ z.1
    → (let m : BodyMotion = record { exact = record { x = x.0; y = y.0; z = z.0 }; velocity = record { x = vx; y = vy; z = vz } } in m) ≡ target p b
unfolding target
target_is p b e v x y z vx vy vz here fast at_x at_y at_z in_x in_y in_z = rw (in_x, in_y, in_z, at_x, at_y, at_z, here, fast) refl

-- the body's point was exchanged for that of its target, which was free
pub exchanged : (has new : ℕ → Bool) (old next : BodyMotion) (s t : Site) (from to : ℕ) → s ≡ whole old.exact → t ≡ whole next.exact → IsInCube s → IsInCube t
    → from ≡ packed s → to ≡ packed t → from ≢ to → has to ≡ false
    → ((q : ℕ) → new q ≡ (if nat_eq from q then false else (if nat_eq to q then true else has q)))
    → (before rest : List Site) → AreTaken has (before ++ whole old.exact ∷ rest) → AreTaken new (before ++ whole next.exact ∷ rest)
exchanged has new old next s t from to s_is t_is s_in t_in from_is to_is differ free changed before rest taken =
    let had : AreTaken has (before ++ s ∷ rest) = subst (λ u. AreTaken has (before ++ u ∷ rest)) (sym s_is) taken in
    let other : same_coordinates s t ≡ false = differing s t (λ e. differ (from_is ∙ ap packed e ∙ sym to_is)) in
    let none : list_any (same_coordinates t) (before ++ rest) ≡ false = sym (taken_by_others has before s rest t had t_in (same_back s t other))
    ∙ ap has (sym to_is) ∙ free in
    subst (λ u. AreTaken new (before ++ u ∷ rest)) t_is (taken_put has new before s t rest had s_in t_in other none
    (λ q. changed q ∙ ap (λ k. if nat_eq k q then false else (if nat_eq to q then true else has q)) from_is
    ∙ ap (λ k. if nat_eq (packed s) q then false else (if nat_eq k q then true else has q)) to_is))

-- ---- turns one after another

-- where a step stands before the turn of a body: those before it had theirs, and the moves tell what changed
pub record IsOnTheWay (pulls : List Pull) (initial bodies : List BodyMotion) (moves : List Move) (has : ℕ → Bool) (i : ℕ) : Type 0 where
  pub done : List BodyMotion
  pub count : length done ≡ i
  pub now : bodies ≡ done ++ drop i initial
  pub ahead : done ++ after_turns (whole_points done) (drop i pulls) (drop i initial) ≡ stepped pulls initial
  pub told : moves ≡ moves_from 0 (take i initial) done
  pub taken : AreTaken has (whole_points bodies)

pub on_the_way : (pulls : List Pull) (initial : List BodyMotion) (moves : List Move) (has : ℕ → Bool) → moves ≡ [] → AreTaken has (whole_points initial)
    → IsOnTheWay pulls initial initial moves has 0
unfolding moves_from
on_the_way pulls initial moves has none taken = record {
  done = [];
  count = refl;
  now = refl;
  ahead = refl;
  told = none;
  taken = taken;
}

-- the points of all bodies, with one amid them
points_amid : (done : List BodyMotion) (b : BodyMotion) (rest : List BodyMotion)
    → whole_points (done ++ b ∷ rest) ≡ whole_points done ++ whole b.exact ∷ whole_points rest
points_amid done b rest = map-append (λ (m : BodyMotion). whole m.exact) done (b ∷ rest)

-- a step goes on behind the turn of a body
one_further : (done : List BodyMotion) (p : Pull) (b next : BodyMotion) (pulls : List Pull) (rest : List BodyMotion)
    → next ≡ after_turn (whole_points done ++ whole_points rest) p b
    → (done ++ next ∷ []) ++ after_turns (whole_points (done ++ next ∷ [])) pulls rest ≡ done ++ after_turns (whole_points done) (p ∷ pulls) (b ∷ rest)
unfolding after_turns
one_further done p b next pulls rest is =
    append_assoc done (next ∷ []) (after_turns (whole_points (done ++ next ∷ [])) pulls rest)
    ∙ ap (λ sites. done ++ next ∷ after_turns sites pulls rest) (points_amid done next [])
    ∙ ap (λ m. done ++ m ∷ after_turns (whole_points done ++ whole m.exact ∷ []) pulls rest) is

-- the bodies before the one of a number, that one, and those after it
amid : (initial : List BodyMotion) (i : ℕ) → i < length initial → drop i initial ≡ motion_of initial i ∷ drop (i + 1) initial
amid initial i within = drop-cons initial i no_motion within ∙ rw (add-one i) refl

-- a move in front of two lists
with_move-append : (n : ℕ) (to : Option Site) (xs ys : List Move) → with_move n to (xs ++ ys) ≡ with_move n to xs ++ ys
with_move-append n None xs ys = refl
with_move-append n (Some to) xs ys = refl

-- a body has one move at most
pub with_move_short : (n : ℕ) (to : Option Site) → length (with_move n to []) ≤ 1
with_move_short n None = omega arith
with_move_short n (Some to) = omega arith

-- one more body tells one more move, or none
moves_more : (n : ℕ) (old new : List BodyMotion) (a b : BodyMotion) → length old ≡ length new
    → moves_from n (old ++ a ∷ []) (new ++ b ∷ []) ≡ moves_from n old new ++ with_move (n + length old) (changed_point a b) []
unfolding moves_from
moves_more n [] [] a b same = rw add-zero refl
moves_more n (x ∷ old) [] a b same = absurd (omega arith)
moves_more n [] (y ∷ new) a b same = absurd (omega arith)
moves_more n (x ∷ old) (y ∷ new) a b same =
    let sum : n + 1 + length old ≡ n + suc (length old) = omega arith in
    ap (with_move n (changed_point x y)) (moves_more (n + 1) old new a b (omega arith)
    ∙ ap (λ k. moves_from (n + 1) old new ++ with_move k (changed_point a b) []) sum)
    ∙ with_move-append n (changed_point x y) (moves_from (n + 1) old new) (with_move (n + suc (length old)) (changed_point a b) [])

-- the turn of the body of a number
pub record IsTurn (pulls : List Pull) (initial bodies later : List BodyMotion) (moves longer : List Move) (has : ℕ → Bool) (i : ℕ) (p : Pull)
    (b next : BodyMotion) : Type 0 where
  pub within : i < length initial
  pub pull_within : i < length pulls
  pub pull : p ≡ get_or pulls i no_pull
  pub body : b ≡ get_or bodies i b
  pub turned : (before rest : List Site) → whole_points bodies ≡ before ++ whole b.exact ∷ rest → next ≡ after_turn (before ++ rest) p b
  pub taken : (before rest : List Site) → whole_points bodies ≡ before ++ whole b.exact ∷ rest → AreTaken has (before ++ whole next.exact ∷ rest)
  pub after : later ≡ slice_set bodies i next
  pub more : longer ≡ moves ++ with_move i (changed_point b next) []

-- it brings the step one body further
pub further : (pulls : List Pull) (initial bodies later : List BodyMotion) (moves longer : List Move) (had has : ℕ → Bool) (i : ℕ) (p : Pull)
    (b next : BodyMotion) → IsOnTheWay pulls initial bodies moves had i → IsTurn pulls initial bodies later moves longer has i p b next
    → IsOnTheWay pulls initial later longer has (i + 1)
further pulls initial bodies later moves longer had has i p b next way turn =
    let done = way.done in
    let rest = drop (i + 1) initial in
    let open_at : drop i initial ≡ motion_of initial i ∷ rest = amid initial i turn.within in
    let now : bodies ≡ done ++ motion_of initial i ∷ rest = way.now ∙ ap (λ xs. done ++ xs) open_at in
    let own : motion_of initial i ≡ b = sym (ap (λ xs. get_or xs i b) now ∙ ap (λ k. get_or (done ++ motion_of initial i ∷ rest) k b) (sym way.count)
    ∙ get_or-append_seam done (motion_of initial i) rest b) ∙ sym turn.body in
    let split : bodies ≡ done ++ b ∷ rest = now ∙ ap (λ x. done ++ x ∷ rest) own in
    let points : whole_points bodies ≡ whole_points done ++ whole b.exact ∷ whole_points rest = ap whole_points split ∙ points_amid done b rest in
    let new : next ≡ after_turn (whole_points done ++ whole_points rest) p b = turn.turned (whole_points done) (whole_points rest) points in
    let set : later ≡ done ++ next ∷ rest = turn.after ∙ ap (λ xs. slice_set xs i next) split ∙ ap (λ k. slice_set (done ++ b ∷ rest) k next) (sym way.count)
    ∙ set-append_seam done b rest next in
    let pulls_at : drop i pulls ≡ p ∷ drop (i + 1) pulls = drop-cons pulls i no_pull turn.pull_within ∙ ap (λ x. x ∷ drop (suc i) pulls) (sym turn.pull)
    ∙ ap (λ k. p ∷ drop k pulls) (sym (add-one i)) in
    let bodies_at : drop i initial ≡ b ∷ rest = open_at ∙ ap (λ x. x ∷ rest) own in
    let ahead : done ++ after_turns (whole_points done) (p ∷ drop (i + 1) pulls) (b ∷ rest) ≡ stepped pulls initial = rw (pulls_at, bodies_at) at way.ahead in
    let begun : take (i + 1) initial ≡ take i initial ++ b ∷ [] = ap (λ k. take k initial) (add-one i) ∙ take-suc initial i no_motion turn.within
    ∙ ap (λ x. take i initial ++ x ∷ []) own in
    record {
      done = done ++ next ∷ [];
      count = length-append done (next ∷ []) ∙ ap (λ k. k + 1) way.count;
      now = set ∙ sym (append_assoc done (next ∷ []) rest);
      ahead = one_further done p b next (drop (i + 1) pulls) rest new ∙ ahead;
      told = turn.more ∙ ap (λ xs. xs ++ with_move i (changed_point b next) []) way.told
          ∙ sym (rw begun (moves_more 0 (take i initial) done b next (length-take-le i initial (omega (arith, turn.within)) ∙ sym way.count)
          ∙ ap (λ k. moves_from 0 (take i initial) done ++ with_move k (changed_point b next) [])
          (zero-add (length (take i initial)) ∙ length-take-le i initial (omega (arith, turn.within)))));
      taken = rw (set, points_amid done next rest) (turn.taken (whole_points done) (whole_points rest) points);
    }

-- after the last turn the step is made
pub all_turned : (pulls : List Pull) (initial bodies : List BodyMotion) (moves : List Move) (has : ℕ → Bool) (i : ℕ) → length initial ≤ i
    → length bodies ≡ length initial → IsOnTheWay pulls initial bodies moves has i → (bodies ≡ stepped pulls initial) × (moves ≡ moves_from 0 initial bodies)
unfolding after_turns
all_turned pulls initial bodies moves has i end long way =
    let none : drop i initial ≡ [] = drop_of_length-le initial end in
    let done : bodies ≡ way.done = rw (none, append-nil way.done) at way.now in
    let ahead = rw (none, append-nil way.done) at way.ahead in
    let whole_list : take i initial ≡ initial = take_all i initial end in
    (done ∙ ahead, way.told ∙ ap (λ xs. moves_from 0 xs way.done) whole_list ∙ ap (λ xs. moves_from 0 initial xs) (sym done))
