-- When a body goes on from a node to the next one.
use Rattle.std.proofs.Common.{ℕ, ◌+◌, ◌-◌, ◌*◌, ◌/◌, ◌^◌, ◌<◌, ◌≤◌, ◌≡◌, ◌≢◌, ◌&&◌, Bool, true, false, not, eqb, ltb, leb, eq-eqb, refl, sym, ap, ◌∙◌, arith}
use Rattle.std.proofs.Common.{inl, inr}
use Rattle.std.proofs.lemmas.Bool.{cases_lt, lt-ltb, ne_eqb}
use Rattle.std.proofs.lemmas.Bool.Decides.{nat_tests}
use Rattle.std.proofs.lemmas.Nat.{mul-pow, pow-add}
use Rattle.octant_code.specs.Space.{Site, key_of, squared_distance}
use Rattle.octant_code.proofs.Keys.{key-above}
use Rattle.bh_model.specs.Pulls.{PullLaw, is_far, is_whole}
use Rattle.force_walk.specs.Flat.{is_opened}
use Rattle.force_walk.specs.Least.{IsLeast}
use Rattle.force_walk.specs.declared.node.WalkNode.{WalkNode}

-- a node that is not opened is not too near
pub taken_far : (d2 place at : ℕ) (node : WalkNode) → is_opened d2 place at node ≡ false → node.least ≤ d2
taken_far d2 place at node taken =
    elim (cases_lt d2 node.least) [
      | inl near ↦ (let opened : is_opened d2 place at node ≡ true = rw (lt-ltb d2 node.least near) refl in absurd (cc))
      | inr far ↦ far
    ]

eight_pow : (d : ℕ) → 2 ^ (3 * d) ≡ 8 ^ d
eight_pow d =
    let a : 3 * d ≡ d + (d + d) = omega arith in
    ap (λ k. 2 ^ k) a ∙ pow-add 2 d (d + d) ∙ ap (λ k. 2 ^ d * k) (pow-add 2 d d ∙ sym (mul-pow 2 2 d)) ∙ sym (mul-pow 2 4 d)

not_not : (b : Bool) → not (not b) ≡ b
not_not true = refl
not_not false = refl

-- the key of the cube of a side around a point, from its key at the deepest level
key_around : (from : Site) (down : ℕ) → down ≤ 21 → key_of from 21 / 2 ^ (3 * down) ≡ key_of from (21 - down)
key_around from down h =
    let whole : 21 ≡ 21 - down + down = omega arith in
    ap (λ p. key_of from 21 / p) (eight_pow down) ∙ ap (λ l. key_of from l / 8 ^ down) whole ∙ key-above from (21 - down) down

module _ (law : PullLaw) (from to : Site) (down key own : ℕ) (shallow : down ≤ 21) (own_is : own ≡ key_of from 21) where
  -- the key of the cube around the body, by the body's own
  around : own / 2 ^ (3 * down) ≡ key_of from (21 - down)
  around = ap (λ k. k / 2 ^ (3 * down)) own_is ∙ key_around from down shallow

  -- a cell around the body isn't taken whole
  pub not_whole : own / 2 ^ (3 * down) ≡ key → false ≡ is_whole law down key from to
  unfolding is_whole
  not_whole same = ap (λ b. not b && is_far law down from to) (sym (eq-eqb (key_of from (21 - down)) key (sym around ∙ same)))

  -- and any other is where its centre is at least so far
  pub whole_far : (d2 least : ℕ) → own / 2 ^ (3 * down) ≢ key → d2 ≡ squared_distance from to → d2 < 2 ^ 44 → IsLeast law down least
      → leb least d2 ≡ is_whole law down key from to
  unfolding is_whole
  whole_far d2 least other d2_is small is =
      let outside : eqb (key_of from (21 - down)) key ≡ false = ne_eqb (key_of from (21 - down)) key
      (λ (same : key_of from (21 - down) ≡ key). other (around ∙ same)) in
      let tells : not (ltb d2 least) ≡ is_far law down from to =
      ap not (is.tells d2 small) ∙ not_not _
      ∙ ap (λ d. ltb (2 ^ down * 2 ^ down * (law.theta_den * law.theta_den)) (law.theta_num * law.theta_num * d)) d2_is in
      let turned : leb least d2 ≡ not (ltb d2 least) = grind (arith, nat_tests) in
      turned ∙ tells ∙ ap (λ b. not b && is_far law down from to) (sym outside)
