use Rattle.std.proofs.Common.{◌≡◌, ◌*◌, ◌-◌, ◌^◌, ℕ, ap, ◌∙◌, arith}
use Rattle.std.proofs.lemmas.Nat.{mul-le}
use Rattle.bh_model.specs.Pulls.{PullLaw}
use Rattle.force_walk.proofs.term.whole_of.Goals as goal

-- both factors are shifted
shifted : (g mass : ℕ) → g * 256 * (mass * 16777216) ≡ g * mass * 2 ^ 32
shifted g mass = omega arith

pub returns-clause-value : goal.returns-clause-value
returns-clause-value c =
    ap (λ n. n * c.from-2.result) c.from.ensures ∙ ap (λ n. c.law.inside.g * 256 * n) c.from-2.ensures ∙ shifted c.law.inside.g c.args.mass
    ∙ ap (λ (l : PullLaw). l.g * c.args.mass * 2 ^ 32) c.law.view_is

pub returns-clause-fits : goal.returns-clause-fits
returns-clause-fits c =
    let product = mul-le c.from.result c.from-2.result (2 ^ 48) (2 ^ 64 - 1) (omega (arith, c.from.ensures)) (omega (arith, c.from-2.ensures)) in omega arith
