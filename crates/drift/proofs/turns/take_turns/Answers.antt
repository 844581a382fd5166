use Rattle.std.proofs.Common.{◌≡◌, ◌∙◌, ◌≤◌, ◌++◌, [], Option, length, length-append, get_or, ap, arith, nat_eq, refl, subst, sym}
use Rattle.std.proofs.lemmas.List.{append-nil}
use Rattle.std.specs.HashSet.{contains}
use Rattle.std.specs.Vec.{vec_capacity}
use Rattle.octant_code.specs.Space.{Site}
use Rattle.bh_model.specs.Pulls.{no_pull}
use Rattle.octant_code.specs.declared.limits.TheConstants.{MOST_BODIES}
use Rattle.drift.specs.Motions.{changed_point, moves_from, stepped, with_move}
use Rattle.drift.specs.Taken.{AreTaken}
use Rattle.drift.specs.declared.body_motion.BodyMotion.{BodyMotion}
use Rattle.drift.proofs.Shifts.{is_pass}
use Rattle.drift.proofs.Turning.{all_turned, further, on_the_way, with_move_short}
use Rattle.drift.proofs.turns.take_turns.Goals as goal
use Rattle.drift.proofs.turns.take_turns.Goals.{After-loop-n, Joined-turn, in-Some, in_default}

pub loop-n-init : goal.loop-n-init
loop-n-init c = record {
  way = on_the_way c.args.pulls.now c.args.bodies.now c.args.moves.now.items (contains nat_eq c.args.taken.now) c.requires.empty c.requires.held.taken;
  room = omega (arith, c.requires.room);
  moves_room = c.requires.moves_room;
  few_moves = rw c.requires.empty (omega arith);
}

pub turn-requires : goal.turn-requires
turn-requires c = omega (arith, c.loop-n.invariant.room, c.requires.one_each)

pub push_reserved-requires : goal.push_reserved-requires
push_reserved-requires c = let size = c.loop-n.moves.ok.0 in
    omega (arith, c.loop-n.invariant.few_moves, c.loop-n.invariant.moves_room, c.requires.one_each)

-- the body whose turn it is
body : Joined-turn → BodyMotion
body c = get_or c.loop-n.bodies c.loop-n.n c.index-bodies-n.result

-- the moves with that of the body, where it has one
more : (c : Joined-turn) → c.match-turn.moves.items ≡ c.loop-n.moves.items ++ with_move c.loop-n.n (changed_point (body c) c.turn.new.body) []
unfolding body
more c =
    let told = λ (to : Option Site). c.loop-n.moves.items ++ with_move c.loop-n.n to [] in
    elim c.match-turn.branch [
      | in-Some w ↦ rw w.moves-is (w.push_reserved.ensures.items ∙ ap told (sym w.in-Some.is ∙ c.turn.ensures.changed))
      | in_default w ↦ rw w.moves-is (sym (append-nil c.loop-n.moves.items) ∙ ap told (sym w.in_default.is ∙ c.turn.ensures.changed))
    ]

-- nothing is allocated for it
capacity : (c : Joined-turn) → vec_capacity c.match-turn.moves ≡ vec_capacity c.loop-n.moves
capacity c = elim c.match-turn.branch [
  | in-Some w ↦ rw w.moves-is w.push_reserved.ensures.capacity
  | in_default w ↦ rw w.moves-is refl
]

pub loop-n-preserved : goal.loop-n-preserved
unfolding body
loop-n-preserved c =
    let has = contains nat_eq c.loop-n.taken in
    let taken = c.loop-n.invariant.way.taken in
    let size = length-append c.loop-n.moves.items (with_move c.loop-n.n (changed_point (body c) c.turn.new.body) []) in
    let longer = ap length (more c) in
    record {
      way = further c.args.pulls.now c.args.bodies.now c.loop-n.bodies _ c.loop-n.moves.items c.match-turn.moves.items has (contains nat_eq c.turn.new.taken)
          c.loop-n.n (get_or c.args.pulls.now c.loop-n.n no_pull) (body c) c.turn.new.body c.loop-n.invariant.way (record {
            within = omega (arith, c.requires.one_each);
            pull_within = c.loop-n-test.true;
            pull = refl;
            body = ap (λ x. get_or c.loop-n.bodies c.loop-n.n x) c.index-bodies-n.is;
            turned = λ before rest at. c.turn.ensures.turned before rest (subst (AreTaken has) at taken);
            taken = λ before rest at. c.turn.ensures.taken before rest (subst (AreTaken has) at taken);
            after = refl;
            more = more c;
          });
      room = omega (arith, c.loop-n.invariant.room, c.turn.ensures.room);
      moves_room = rw (capacity c) c.loop-n.invariant.moves_room;
      few_moves = omega (arith, longer, size, c.loop-n.invariant.few_moves, with_move_short c.loop-n.n (changed_point (body c) c.turn.new.body));
    }

-- all bodies had their turns
all : (c : After-loop-n) → (c.loop-n.bodies ≡ stepped c.args.pulls.now c.args.bodies.now)
    × (c.loop-n.moves.items ≡ moves_from 0 c.args.bodies.now c.loop-n.bodies)
all c = all_turned c.args.pulls.now c.args.bodies.now c.loop-n.bodies c.loop-n.moves.items (contains nat_eq c.loop-n.taken) c.loop-n.n
    (omega (arith, c.requires.one_each)) c.loop-n.auto.bodies c.loop-n.invariant.way

pub returns-clause-stepped : goal.returns-clause-stepped
returns-clause-stepped c = (all c).0

pub returns-clause-moves : goal.returns-clause-moves
returns-clause-moves c = (all c).1

pub returns-clause-shifted : goal.returns-clause-shifted
returns-clause-shifted c = λ scene at.
    is_pass c.args.bodies.now c.loop-n.bodies scene c.loop-n.moves.items (all c).1 (sym c.loop-n.auto.bodies) at c.loop-n.invariant.way.taken.apart

pub returns-clause-held : goal.returns-clause-held
returns-clause-held c = record {
  few = subst (λ k. k ≤ MOST_BODIES) (sym c.loop-n.auto.bodies) c.requires.held.few;
  taken = c.loop-n.invariant.way.taken;
}
