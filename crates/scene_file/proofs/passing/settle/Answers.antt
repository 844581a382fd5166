use Rattle.std.proofs.Common.{◌≡◌, ◌∙◌, ◌==◌, ◌<◌, ℕ, Option, Some, cond, false, true, length, refl, sym, ap, nat_eq}
use Rattle.std.proofs.lemmas.List.{drop_all, get_or_read}
use Rattle.std.proofs.lemmas.List.Elements.{All-get_or}
use Rattle.std.specs.HashMap as hash
use Rattle.octant_code.specs.Space.{packed}
use Rattle.scene_file.specs.Bodies.{body_at}
use Rattle.scene_file.specs.Moves.{no_move}
use Rattle.scene_file.specs.Passing.{Takes}
use Rattle.scene_file.specs.declared.moves.Move.{Move}
use Rattle.scene_file.proofs.Finding.{not_apart, settled_more}
use Rattle.scene_file.proofs.passing.settle.Goals as goal
use Rattle.scene_file.proofs.passing.settle.Goals.{After-point_of-at}

pub loop-step-init : goal.loop-step-init
loop-step-init c = c.requires.found

-- the body that a move names is one of the bodies
known : (c : After-point_of-at) → c.step-item.result.body < length c.args.present.now
known c =
    let is = get_or_read c.args.moves.now c.loop-step.step-index c.step-item.result c.loop-step-test.true c.step-item.is no_move in
    rw is (All-get_or (λ (m : Move). m.body < length c.args.present.now) c.args.moves.now c.loop-step.step-index no_move c.loop-step-test.true c.requires.known)

pub loop-step-preserved : goal.loop-step-preserved
loop-step-preserved c =
    let bodies = c.args.present.now in
    let b = c.step-item.result.body in
    let get : ℕ → Option ℕ = λ q. hash.get nat_eq c.loop-step.numbers q in
    let key : c.packed.result ≡ packed (body_at bodies b).at = c.packed.ensures ∙ ap packed c.point_of-at.ensures in
    let is = get_or_read c.args.moves.now c.loop-step.step-index c.step-item.result c.loop-step-test.true c.step-item.is no_move in
    let takes : Takes bodies c.in_ok-found.found b c.point_of-at.result false = rw c.if-is_taken.false at c.is_taken.ensures in
    settled_more bodies get (λ q. hash.get nat_eq c.insert.new.self q) c.args.moves.now c.loop-step.step-index b c.requires.inside c.loop-step-test.true
    (ap (λ (m : Move). m.body) is) (known (goal.at.loop-step-preserved c).After-point_of-at) c.loop-step.invariant
    (λ q. c.in_ok-found.ensures.updates.0 q ∙ ap (λ k. cond (k == q) (Some b) (get q)) key)
    (λ o e differ within same. takes o (c.in_ok-found.ensures.old ∙ ap get key ∙ e) differ within (same ∙ sym c.point_of-at.ensures))

pub returns-then-is_taken : goal.returns-then-is_taken
returns-then-is_taken c =
    let bodies = c.args.present.now in
    let b = c.step-item.result.body in
    let (o, found, differ, within, same) : Takes bodies c.in_ok-found.found b c.point_of-at.result true = rw c.if-is_taken.true at c.is_taken.ensures in
    not_apart bodies o b differ within (known (goal.at.returns-then-is_taken c).After-point_of-at) (same ∙ c.point_of-at.ensures)

pub returns : goal.returns
returns c = λ j less. c.loop-step.invariant j less (rw (drop_all c.loop-step.step-index c.args.moves.now c.loop-step-test.false) refl)
