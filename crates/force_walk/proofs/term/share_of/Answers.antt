use Rattle.std.proofs.Common.{ℕ, ◌≡◌, ◌-◌, ◌*◌, ◌/◌, ◌^◌, ◌<◌, ◌≤◌, pos, neg_ℤ, arith, inl, inr, refl, subst, sym, ◌∙◌}
use Rattle.std.proofs.lemmas.Bool.{cases_lt}
use Rattle.std.proofs.lemmas.Int.{ints}
use Rattle.bh_model.specs.Pulls.{IsWithin}
use Rattle.force_walk.specs.Short.{IsRate}
use Rattle.force_walk.proofs.Quotients.{component-shared-down, component-shared-up, short_stays}
use Rattle.force_walk.proofs.term.share_of.Goals.{After-share}
use Rattle.force_walk.proofs.term.share_of.Goals as goal

-- the share is a part of the product, up or down
share_up : (c : After-share) → c.args.from ≤ c.args.to → c.share.result ≡ pos (c.args.rate * c.from-size.result / 2 ^ 32)
share_up c up = c.share.ensures.up (omega (arith, ints, c.from.ensures, c.from-2.ensures))

share_down : (c : After-share) → c.args.to < c.args.from → c.share.result ≡ neg_ℤ (pos (c.args.rate * c.from-size.result / 2 ^ 32))
share_down c down = c.share.ensures.down (omega (arith, ints, c.from.ensures, c.from-2.ensures))

within_up : (q : ℕ) → q < 2 ^ 31 → IsWithin (2 ^ 31) (pos q)
within_up q h = record { low = omega (arith, ints); high = omega (arith, ints) }

within_down : (q : ℕ) → q < 2 ^ 31 → IsWithin (2 ^ 31) (neg_ℤ (pos q))
within_down q h = record { low = omega (arith, ints); high = omega (arith, ints) }

-- the product as the code has it
product_small : (c : After-share) → c.args.rate * c.from-size.result < 2 ^ 63
product_small c = subst (λ g. c.args.rate * g < 2 ^ 63) (sym (c.from-size.ensures ∙ c.abs_diff.ensures)) c.requires.small

small : (c : After-share) → IsWithin (2 ^ 31) c.share.result
small c =
    let whole : c.args.rate * c.from-size.result < 2 ^ 63 = product_small c in
    let part : c.args.rate * c.from-size.result / 2 ^ 32 < 2 ^ 31 = omega arith in
    elim (cases_lt c.args.to c.args.from) [
      | inl down ↦ subst (IsWithin (2 ^ 31)) (sym (share_down c down)) (within_down _ part)
      | inr up ↦ subst (IsWithin (2 ^ 31)) (sym (share_up c up)) (within_up _ part)
    ]

pub returns-then-is_sure-clause-value : goal.returns-then-is_sure-clause-value
returns-then-is_sure-clause-value c =
    λ scale divisor rate.
    let sure = c.if-is_sure.ensures.sure refl in
    short_stays _ (small c)
    ∙ (elim (cases_lt c.args.to c.args.from) [
      | inl down ↦
          share_down c down
          ∙ component-shared-down scale c.args.from c.args.to divisor c.args.rate c.from-size.result (omega arith)
          (c.from-size.ensures ∙ c.abs_diff.ensures) rate (omega (arith, sure))
      | inr up ↦
          share_up c up
          ∙ component-shared-up scale c.args.from c.args.to divisor c.args.rate c.from-size.result up (c.from-size.ensures ∙ c.abs_diff.ensures)
          rate (omega (arith, sure))
    ])

pub returns-then-is_sure-clause-small : goal.returns-then-is_sure-clause-small
returns-then-is_sure-clause-small c = subst (IsWithin (2 ^ 31)) (sym (short_stays _ (small c))) (small c)

pub returns-then-rate-eq0-clause-value : goal.returns-then-rate-eq0-clause-value
returns-then-rate-eq0-clause-value c =
    λ scale divisor rate.
    let none : c.args.rate ≡ 0 = omega arith in
    let is : IsRate scale divisor 0 = subst (IsRate scale divisor) none rate in
    elim (cases_lt c.args.to c.args.from) [
      | inl down ↦
          let none = component-shared-down scale c.args.from c.args.to divisor 0 (c.args.from - c.args.to) (omega arith) (omega arith) is (omega arith) in
          omega (arith, ints, none)
      | inr up ↦
          let none = component-shared-up scale c.args.from c.args.to divisor 0 (c.args.to - c.args.from) up (omega arith) is (omega arith) in
          omega (arith, ints, none)
    ]
