use Rattle.std.proofs.Common.{◌≡◌, ◌∙◌, ◌*◌, ◌/◌, ℕ, [], ◌∷◌, ◌++◌, length, map, ap, arith}
use Rattle.std.proofs.lemmas.List.{length-map}
use Rattle.bh_model.specs.Bodies.{numbers}
use Rattle.frame_core.specs.Shares.{share_below}
use Rattle.frame_core.proofs.Rows.{length-values}
use Rattle.frame_core.proofs.Sharing.{first_are_shares, own_less, shares-none, shares_more}
use Rattle.frame_core.proofs.shares.first_shares.Goals as goal

pub loop-n-init : goal.loop-n-init
loop-n-init c = c.in_ok-shares.ensures ∙ shares-none c.args.workers c.args.count

-- the share of a body, from the numbers that are divided
own_is : (n n' w w' k k' : ℕ) → n' ≡ n → w' ≡ w → k' ≡ k → n' * w' / k' ≡ n * w / k
own_is n n' w w' k k' a b c = cc

pub index_mut-requires : goal.index_mut-requires
index_mut-requires c =
    let own = own_is c.loop-n.n _ c.args.workers _ c.args.count _ c.from.ensures c.from-in-loop-n.ensures c.from-in-loop-n-2.ensures in
    let less = own_less c.loop-n.n c.args.workers c.args.count c.requires.0 c.loop-n-test.true in
    let shares = c.loop-n.shares in
    omega (
      arith,
      own,
      less,
      length-map shares.items (λ z. z.items),
      ap length c.loop-n.invariant,
      length-values (share_below c.loop-n.n c.args.workers c.args.count) c.args.workers,
      shares.ok.0,
    )

pub loop-n-preserved : goal.loop-n-preserved
loop-n-preserved c =
    let own = own_is c.loop-n.n _ c.args.workers _ c.args.count _ c.from.ensures c.from-in-loop-n.ensures c.from-in-loop-n-2.ensures in
    let less = own_less c.loop-n.n c.args.workers c.args.count c.requires.0 c.loop-n-test.true in
    shares_more (λ z. z.items) c.loop-n.shares.items c.push.new.self c.index_mut.result.now c.loop-n.n c.args.workers c.args.count _ own
    (omega (arith, own, less)) (c.in_ok-push.ensures.items ∙ ap (λ z. z.items ++ (c.loop-n.n ∷ [])) c.index_mut.ensures.value) c.loop-n.invariant

pub returns : goal.returns
returns c =
    let all : c.loop-n.n ≡ c.args.count = omega (arith, c.loop-n.auto.n-end) in
    let lists = c.loop-n.invariant ∙ ap (λ n. map (share_below n c.args.workers c.args.count) (numbers c.args.workers)) all in
    record { lists = lists; shares = first_are_shares c.args.workers c.args.count _ c.requires lists }
