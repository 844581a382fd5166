use Rattle.std.proofs.Common.{◌≡◌, ◌-◌, ◌++◌, get_or, ℕ, List, [], ◌∷◌, length, map, ap, ◌∙◌, sym, subst, arith}
use Rattle.std.proofs.lemmas.List.{length-map, map-append}
use Rattle.std.specs.Prelude.{min}
use Rattle.bh_model.specs.Bodies.{numbers}
use Rattle.build_workers.specs.Shares.{owned, AreShares}
use Rattle.bh_model.proofs.Lists.{numbers_more}
use Rattle.bh_model.proofs.Standing.{length_numbers}
use Rattle.build_workers.proofs.Laws.{owned_are_shares}
use Rattle.build_workers.proofs.numbers.deal_to_owners.Goals as goal

pub loop-w-init : goal.loop-w-init
unfolding numbers
loop-w-init c = ap (map (λ s. s.items)) c.new-shares.ensures.items

pub loop-w-preserved : goal.loop-w-preserved
loop-w-preserved c =
    let g : ℕ → List ℕ = owned (λ n. min (get_or c.args.owners.now n 0) (c.args.workers - 1)) (numbers (length c.args.owners.now)) in
    let w = c.loop-w.w in
    let share = c.in_ok-numbers_of.field-0 in
    ap (map (λ s. s.items)) c.in_ok-push.ensures.items ∙ map-append (λ s. s.items) c.loop-w.shares.items (share ∷ [])
    ∙ ap (λ (z : List (List ℕ)). z ++ (share.items ∷ [])) c.loop-w.invariant ∙ ap (λ (z : List ℕ). map g (numbers w) ++ (z ∷ [])) c.in_ok-numbers_of.ensures
    ∙ sym (map-append g (numbers w) (w ∷ [])) ∙ ap (map g) (sym (numbers_more w))

pub returns-clause-shares : goal.returns-clause-shares
returns-clause-shares c =
    let own : ℕ → ℕ = λ n. min (get_or c.args.owners.now n 0) (c.args.workers - 1) in
    let all : c.loop-w.w ≡ c.args.workers = omega arith in
    subst (AreShares (length c.args.owners.now)) (sym (c.loop-w.invariant ∙ ap (λ w. map (owned own (numbers (length c.args.owners.now))) (numbers w)) all))
    (owned_are_shares c.args.workers (length c.args.owners.now) own (omega arith) (omega arith) (λ n l. omega arith))

pub returns-clause-workers : goal.returns-clause-workers
returns-clause-workers c =
    let all : c.loop-w.w ≡ c.args.workers = omega arith in
    let lists = ap length c.loop-w.invariant in
    let own = length-map c.loop-w.shares.items (λ s. s.items) in
    let dealt = length-map (numbers c.loop-w.w) (owned (λ n. min (get_or c.args.owners.now n 0) (c.args.workers - 1)) (numbers (length c.args.owners.now))) in
    let count = length_numbers c.loop-w.w in
    omega arith
