use Rattle.std.proofs.Common.{◌≡◌, ◌∙◌, ◌<◌, ◌≤◌, ◌^◌, ◌++◌, length, take, arith, inl, inr, ap, sym, subst}
use Rattle.std.specs.Prelude.{flat_map}
use Rattle.std.proofs.Math.Nat.{eq-or-lt_of_le}
use Rattle.std.proofs.Math.Seq.{take-length}
use Rattle.std.proofs.lemmas.List.{append-nil}
use Rattle.std.proofs.lemmas.List.Elements.{All-from_get_or}
use Rattle.scene_file.specs.Bodies.{body_at, nobody}
use Rattle.scene_file.specs.Text.{body_text}
use Rattle.scene_file.specs.declared.bodies.Body.{Body}
use Rattle.scene_file.proofs.ReadBack.{text_more}
use Rattle.scene_file.proofs.text.push_bodies.Goals as goal

pub loop-n-init : goal.loop-n-init
loop-n-init c = (sym (append-nil c.args.text.now.items), λ i less. absurd (omega arith))

pub loop-n-preserved : goal.loop-n-preserved
loop-n-preserved c =
    let bodies = c.args.bodies.now in
    let n = c.loop-n.n in
    let within : n < length bodies = omega (arith, c.len-n-end.ensures.value, c.loop-n-test.true) in
    let put = subst (λ (b : Body). c.push_body.new.text.items ≡ c.loop-n.text.items ++ body_text b) c.get.ensures.value c.in_ok-push_body.ensures in
    let fits : c.get.result.mass < 2 ^ 32 = omega arith in
    let here : (body_at bodies n).mass < 2 ^ 32 = subst (λ (b : Body). b.mass < 2 ^ 32) c.get.ensures.value fits in (
      text_more body_text bodies n nobody c.args.text.now.items c.loop-n.text.items c.push_body.new.text.items within c.loop-n.invariant.0 put,
      λ i before. elim (eq-or-lt_of_le (let h : i ≤ n = omega arith in h)) [ inl last ↦ rw last here | inr earlier ↦ c.loop-n.invariant.1 i earlier ],
    )

pub returns-clause-text : goal.returns-clause-text
returns-clause-text c =
    let bodies = c.args.bodies.now in
    let all : c.loop-n.n ≡ length bodies = omega (arith, c.len-n-end.ensures.value, c.loop-n-test.false, c.loop-n.auto.n-end) in
    c.loop-n.invariant.0 ∙ ap (λ k. c.args.text.now.items ++ flat_map body_text (take k bodies)) all
    ∙ ap (λ l. c.args.text.now.items ++ flat_map body_text l) (take-length bodies)

pub returns-clause-masses : goal.returns-clause-masses
returns-clause-masses c =
    let bodies = c.args.bodies.now in
    let all : c.loop-n.n ≡ length bodies = omega (arith, c.len-n-end.ensures.value, c.loop-n-test.false, c.loop-n.auto.n-end) in
    All-from_get_or (λ (b : Body). b.mass < 2 ^ 32) bodies nobody (λ i within. c.loop-n.invariant.1 i (omega arith))
