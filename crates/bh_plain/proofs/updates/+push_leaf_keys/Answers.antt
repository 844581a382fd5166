use Rattle.std.proofs.Common.{arith, ◌≡◌, ◌≢◌, ◌++◌, ◌+◌, ◌-◌, ◌*◌, ◌^◌, add-one, length, sym, ◌∙◌, ap, append-nil}
use Rattle.std.proofs.Math.Nat.{pow-suc}
use Rattle.octant_code.specs.Points.{site_at}
use Rattle.bh_model.specs.Movers.{leaf_keys_from}
use Rattle.bh_model.specs.Trees.{in_octant, octree_from}
use Rattle.bh_model.proofs.Lists.{joined}
use Rattle.bh_model.proofs.Splits.{empty_or_deep, joins_more, list_has_some, octants_within}
use Rattle.bh_plain.proofs.ListPieces.{child_key_fits}
use Rattle.bh_plain.proofs.ListUpdates.{leaf_of_one, leaf_of_other, leaves_of_empty, leaves_of_split, octant_leaves}
use Rattle.bh_plain.proofs.updates.+push_leaf_keys.Goals as goal

pub returns-in_ok-push : goal.returns-in_ok-push
returns-in_ok-push t c =
    c.in_ok-push.ensures.items
    ∙ ap (λ y. c.args.out.now.items ++ y)
    (sym (leaf_of_one (site_at c.args.points.now) c.args.n (21 - c.args.level) c.args.level c.args.key c.args.bodies.now c.if-bodies-eq1.true
    c.if-bodies-n.true))

pub returns-else-bodies-n : goal.returns-else-bodies-n
returns-else-bodies-n t c =
    sym (append-nil c.args.out.now.items)
    ∙ ap (λ y. c.args.out.now.items ++ y)
    (sym (leaf_of_other (site_at c.args.points.now) c.args.n (21 - c.args.level) c.args.level c.args.key c.args.bodies.now c.if-bodies-eq1.true
    c.if-bodies-n.false))

pub returns-then-is_empty : goal.returns-then-is_empty
returns-then-is_empty t c =
    let why = empty_or_deep _ c.args.level c.is_empty.result c.is_empty.ensures c.then-is_empty.either in
    sym (append-nil c.args.out.now.items)
    ∙ ap (λ y. c.args.out.now.items ++ y)
    (sym (leaves_of_empty (site_at c.args.points.now) c.args.n c.args.level c.args.key c.args.bodies.now c.if-bodies-eq1.false why))

pub overflow_mul-child : goal.overflow_mul-child
overflow_mul-child t c = omega (arith, child_key_fits c.args.key c.args.level (omega arith) c.requires.key_small)

pub overflow_add-child : goal.overflow_add-child
overflow_add-child t c = omega (arith, child_key_fits c.args.key c.args.level (omega arith) c.requires.key_small, c.from.ensures, c.loop-k-test.true)

pub push_leaf_keys-requires : goal.push_leaf_keys-requires
push_leaf_keys-requires t c =
    let part : c.deref.result.now ≡ in_octant (site_at c.args.points.now) c.args.level c.loop-k.k c.args.bodies.now = c.deref.ensures.value
    ∙ c.in_ok-part.ensures in
    let next : 8 ^ (c.args.level + 1) ≡ 8 ^ c.args.level * 8 = ap (λ y. 8 ^ y) (add-one c.args.level) ∙ pow-suc 8 c.args.level in (
      omega arith,
      (
        octants_within c.args.points.now c.args.level c.loop-k.k c.args.bodies.now c.deref.result.now (length c.args.points.now) part c.requires.within,
        (omega arith, omega (arith, next, c.requires.key_small, c.from.ensures, c.loop-k-test.true)),
      ),
    )

pub loop-k-preserved : goal.loop-k-preserved
loop-k-preserved t c =
    let site = site_at c.args.points.now in
    let deeper = c.args.level + 1 in
    let part : c.deref.result.now ≡ in_octant site c.args.level c.loop-k.k c.args.bodies.now = c.deref.ensures.value ∙ c.in_ok-part.ensures in
    joins_more c.args.out.now.items c.loop-k.out.items c.push_leaf_keys.new.out.items
    (octant_leaves site c.args.n c.args.level c.args.key c.args.bodies.now) c.loop-k.k c.loop-k.invariant
    (c.in_ok-push_leaf_keys.ensures
    ∙ ap (λ y. c.loop-k.out.items ++ leaf_keys_from c.args.n (octree_from site (21 - deeper) deeper y) (8 * c.args.key + c.from.result)) part
    ∙ ap (λ y. c.loop-k.out.items ++ leaf_keys_from c.args.n (octree_from site (21 - deeper) deeper
    (in_octant site c.args.level c.loop-k.k c.args.bodies.now)) (8 * c.args.key + y)) c.from.ensures)

pub returns : goal.returns
returns t c =
    let site = site_at c.args.points.now in
    let all : c.loop-k.k ≡ 8 = omega arith in
    let some : length c.args.bodies.now ≢ 0 = list_has_some (length c.args.bodies.now) c.is_empty.result c.is_empty.ensures c.if-is_empty.false in
    c.loop-k.invariant ∙ ap (λ y. c.args.out.now.items ++ joined (octant_leaves site c.args.n c.args.level c.args.key c.args.bodies.now) y) all
    ∙ ap (λ y. c.args.out.now.items ++ y)
    (sym (leaves_of_split site c.args.n c.args.level c.args.key c.args.bodies.now (omega arith) some c.if-bodies-eq1.false))
