use Rattle.std.proofs.Common.{◌*◌, ◌^◌, ℤ, arith, refl, subst, sym, ◌∙◌}
use Rattle.std.specs.Int.{w64}
use mir.Val.{to_z, of_z}
use Rattle.bh_model.specs.Pulls.{IsWithin}
use Rattle.bh_model.proofs.Terms.{same_pull}
use Rattle.force_walk.specs.Short.{IsRate}
use Rattle.force_walk.proofs.Quotients.{ProductsFit, one-term, products_fit, seen_distance, short_fits, short_stays, tested_root}
use Rattle.force_walk.proofs.term.short_term.Goals.{After-from, After-to}
use Rattle.force_walk.proofs.term.short_term.Goals as goal

-- a share that is kept in its word is as small as it was
stays_small : (z : ℤ) → IsWithin (2 ^ 31) z → IsWithin (2 ^ 31) (to_z w64 (of_z w64 z))
stays_small z h = subst (IsWithin (2 ^ 31)) (sym (short_stays z h)) h

pub divisor_of-requires-clause-fits : goal.divisor_of-requires-clause-fits
divisor_of-requires-clause-fits c = let is = c.if-not-is_root.ensures refl in short_fits _ _ (omega arith) is.1

pub divisor_of-requires-clause-root_value : goal.divisor_of-requires-clause-root_value
divisor_of-requires-clause-root_value c = tested_root _ _ (c.if-not-is_root.ensures refl)

-- the guess is a rate
is_rate : (c : After-from) → IsRate (c.args.law.now.g * c.args.mass) c.divisor_of.result c.guess_of-guess.result.rate
is_rate c =
    let rate = c.if-not-is_rate.ensures refl in
    record {
      positive = c.divisor_of.ensures.positive;
      low = omega (arith, rate.0, c.whole_of-whole.ensures.value);
      high = omega (arith, rate.1, c.whole_of-whole.ensures.value);
    }

-- and its products with the gaps fit
fits : (c : After-to) → ProductsFit c.guess_of-guess.result.rate
    (record { x = c.from.inside.x; y = c.from.inside.y; z = c.from.inside.z })
    (record { x = c.to.inside.x; y = c.to.inside.y; z = c.to.inside.z })
fits c =
    let b = (goal.at.share_of-requires-clause-small c).After-from in
    products_fit (c.args.law.now.g * c.args.mass) c.softened-r2.result c.guess_of-guess.result.root c.guess_of-guess.result.rate _ _
    (subst (λ d. IsRate (c.args.law.now.g * c.args.mass) d c.guess_of-guess.result.rate) c.divisor_of.ensures.value (is_rate b))
    (omega (arith, c.if-not-is_below_words.ensures refl, c.whole_of-whole.ensures.value))
    (omega (arith, seen_distance c.args.d2 _ _ _ _ c.from.view_is c.to.view_is c.requires.distance, c.softened-r2.ensures.value))
    (c.if-not-is_root.ensures refl).1

pub share_of-requires-clause-small : goal.share_of-requires-clause-small
share_of-requires-clause-small c = (fits c).x

pub share_of-requires-2-clause-small : goal.share_of-requires-2-clause-small
share_of-requires-2-clause-small c = (fits (goal.at.share_of-requires-2-clause-small c).After-to).y

pub share_of-requires-3-clause-small : goal.share_of-requires-3-clause-small
share_of-requires-3-clause-small c = (fits (goal.at.share_of-requires-3-clause-small c).After-to).z

pub returns-clause-value : goal.returns-clause-value
returns-clause-value c =
    let is = is_rate (goal.at.returns-clause-value c).After-from in
    same_pull _ _ _ _ _ _ _ _ (short_stays _ c.in_ok-share_of.ensures.small) (short_stays _ c.in_ok-share_of-2.ensures.small)
    (short_stays _ c.in_ok-share_of-3.ensures.small) refl
    ∙ one-term c.args.law.now c.args.mass _ c.args.from _ c.args.to (c.args.law.now.g * c.args.mass) c.args.d2 c.softened-r2.result c.guess_of-guess.result.root
    c.divisor_of.result _ _ _ c.from.view_is c.to.view_is refl c.requires.distance c.softened-r2.ensures.value
    (tested_root _ _ (c.if-not-is_root.ensures refl)) c.divisor_of.ensures.value (c.in_ok-share_of.ensures.value _ c.divisor_of.result is)
    (c.in_ok-share_of-2.ensures.value _ c.divisor_of.result is) (c.in_ok-share_of-3.ensures.value _ c.divisor_of.result is)

pub returns-clause-small : goal.returns-clause-small
returns-clause-small c = record {
  x = stays_small _ c.in_ok-share_of.ensures.small;
  y = stays_small _ c.in_ok-share_of-2.ensures.small;
  z = stays_small _ c.in_ok-share_of-3.ensures.small;
  met = omega arith;
}
