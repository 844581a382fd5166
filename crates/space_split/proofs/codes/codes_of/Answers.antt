use Rattle.std.proofs.Common.{ℕ, ◌≡◌, ◌∙◌, ◌++◌, ◌∷◌, [], ap, arith, map}
use Rattle.octant_code.specs.Points.{site_at}
use Rattle.octant_code.specs.Space.{key_of}
use Rattle.bh_model.specs.Bodies.{numbers}
use Rattle.space_split.proofs.Ranked.{row_more, row_none}
use Rattle.space_split.proofs.codes.codes_of.Goals as goal

pub loop-n-init : goal.loop-n-init
loop-n-init c = c.in_ok-codes.ensures.items ∙ row_none (λ k. key_of (site_at c.args.points.now k) 21)

pub loop-n-preserved : goal.loop-n-preserved
loop-n-preserved c =
    let code : ℕ → ℕ = λ k. key_of (site_at c.args.points.now k) 21 in
    let own : c.code_of.result ≡ code c.loop-n.n = c.code_of.ensures ∙ ap (λ p. key_of p 21) c.at.ensures.value in
    c.in_ok-push.ensures.items ∙ ap (λ y. c.loop-n.codes.items ++ (y ∷ [])) own
    ∙ row_more code c.loop-n.codes.items c.loop-n.n c.loop-n.invariant

pub returns : goal.returns
returns c =
    c.loop-n.invariant
    ∙ ap (λ k. map (λ q. key_of (site_at c.args.points.now q) 21) (numbers k))
    (omega (arith, c.loop-n-test.false, c.loop-n.auto.n-end, c.len-n-end.ensures.value))
