use Rattle.std.proofs.Common.{◌≡◌, ◌==◌, ℕ, Option, Some, cond, sym, ◌∙◌, ap, nat_eq}
use Rattle.std.proofs.lemmas.List.{get_or_read}
use Rattle.std.specs.HashMap as hash
use Rattle.octant_code.specs.Space.{origin, packed}
use Rattle.octant_code.proofs.SeenPoints.{key_at, seen_again, seen_all, seen_more}
use Rattle.octant_code.proofs.points.Points.test.Goals as goal
use Rattle.octant_code.proofs.points.Points.test.Goals.{In_ok-insert}

-- the key that is looked up is that of the point at this position
key : (c : In_ok-insert) → c.packed.result ≡ key_at c.args.list.now c.loop-i.i
key c = c.packed.ensures ∙ ap packed (get_or_read c.args.list.now c.loop-i.i c.index-list-i.result c.loop-i-test.true c.index-list-i.is origin)

-- what the map had at it before is what is answered
had : (c : In_ok-insert) → hash.get nat_eq c.loop-i.seen (key_at c.args.list.now c.loop-i.i) ≡ c.in_ok-insert.field-0
had c = ap (λ k. hash.get nat_eq c.loop-i.seen k) (sym (key c)) ∙ sym c.in_ok-insert.ensures.old

pub returns-in-Some : goal.returns-in-Some
returns-in-Some c = (
  c.if-list.false,
  seen_again c.args.list.now (λ q. hash.get nat_eq c.loop-i.seen q) c.loop-i.i c.in-Some.first c.all_in_cube.ensures c.loop-i.invariant
      c.loop-i-test.true (had (goal.at.returns-in-Some c).In_ok-insert ∙ c.in-Some.is),
)

pub loop-i-preserved : goal.loop-i-preserved
loop-i-preserved c =
    let at = (goal.at.loop-i-preserved c).In_ok-insert in
    let i = c.loop-i.i in
    let get : ℕ → Option ℕ = λ q. hash.get nat_eq c.loop-i.seen q in
    seen_more (key_at c.args.list.now) get (λ q. hash.get nat_eq c.insert.new.self q) i c.loop-i.invariant (had at ∙ c.in-None.is)
    (λ q. c.in_ok-insert.ensures.updates.0 q ∙ ap (λ k. cond (k == q) (Some i) (get q)) (key at))

pub returns : goal.returns
returns c =
    (c.if-list.false, seen_all c.args.list.now (λ q. hash.get nat_eq c.loop-i.seen q) c.loop-i.i c.loop-i.invariant c.loop-i-test.false)
