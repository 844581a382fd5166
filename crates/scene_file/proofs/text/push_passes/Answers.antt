use Rattle.std.proofs.Common.{◌≡◌, ◌∙◌, ◌<◌, ◌++◌, [], List, length, take, arith, ap, sym, subst}
use Rattle.std.specs.Prelude.{flat_map}
use Rattle.std.proofs.Math.Seq.{take-length}
use Rattle.std.proofs.lemmas.List.{append-nil}
use Rattle.scene_file.specs.Text.{pass_text}
use Rattle.scene_file.specs.declared.moves.Move.{Move}
use Rattle.scene_file.proofs.ReadBack.{text_more}
use Rattle.scene_file.proofs.text.push_passes.Goals as goal

pub loop-i-init : goal.loop-i-init
loop-i-init c = sym (append-nil c.args.text.now.items)

pub loop-i-preserved : goal.loop-i-preserved
loop-i-preserved c =
    let passes = c.args.passes.now in
    let i = c.loop-i.i in
    let within : i < length passes = omega (arith, c.len-i-end.ensures, c.loop-i-test.true) in
    let put = subst (λ (m : List Move). c.push_pass.new.text.items ≡ c.loop-i.text.items ++ pass_text m) c.pass.ensures c.in_ok-push_pass.ensures in
    text_more pass_text passes i [] c.args.text.now.items c.loop-i.text.items c.push_pass.new.text.items within c.loop-i.invariant put

pub returns : goal.returns
returns c =
    let passes = c.args.passes.now in
    let all : c.loop-i.i ≡ length passes = omega (arith, c.len-i-end.ensures, c.loop-i-test.false, c.loop-i.auto.i-end) in
    c.loop-i.invariant ∙ ap (λ k. c.args.text.now.items ++ flat_map pass_text (take k passes)) all
    ∙ ap (λ l. c.args.text.now.items ++ flat_map pass_text l) (take-length passes)
