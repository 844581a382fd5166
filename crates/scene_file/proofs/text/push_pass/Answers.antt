use Rattle.std.proofs.Common.{◌≡◌, ◌∙◌, ◌++◌, ◌∷◌, [], List, ℕ, take, codes, ap, sym, subst}
use Rattle.std.specs.Prelude.{flat_map}
use Rattle.std.proofs.lemmas.List.{append-nil, append_assoc, get_or_read, take_all}
use Rattle.scene_file.specs.Moves.{no_move}
use Rattle.scene_file.specs.Text.{move_text}
use Rattle.scene_file.specs.declared.moves.Move.{Move}
use Rattle.scene_file.proofs.ReadBack.{text_more}
use Rattle.scene_file.proofs.text.push_pass.Goals as goal

pub loop-step-init : goal.loop-step-init
loop-step-init c = sym (append-nil c.args.text.now.items)

pub loop-step-preserved : goal.loop-step-preserved
loop-step-preserved c =
    let moves = c.args.moves.now in
    let i = c.loop-step.step-index in
    let is = get_or_read moves i c.step-item.result c.loop-step-test.true c.step-item.is no_move in
    let put = subst (λ (m : Move). c.push_move.new.text.items ≡ c.loop-step.text.items ++ move_text m) is c.in_ok-push_move.ensures in
    text_more move_text moves i no_move c.args.text.now.items c.loop-step.text.items c.push_move.new.text.items c.loop-step-test.true c.loop-step.invariant put

pub returns : goal.returns
returns c =
    let moves = c.args.moves.now in
    let start = c.args.text.now.items in
    let end : List ℕ = codes "pass" ++ 10 ∷ [] in
    let all : take c.loop-step.step-index moves ≡ moves = take_all c.loop-step.step-index moves c.loop-step-test.false in
    c.in_ok-extend_from_slice.ensures.items ∙ ap (λ t. t ++ end) (c.loop-step.invariant ∙ ap (λ l. start ++ flat_map move_text l) all)
    ∙ append_assoc start (flat_map move_text moves) end
