use Rattle.std.proofs.Common.{arith, ◌≡◌, ◌≢◌, ◌++◌, ◌+◌, ◌-◌, ◌<◌, length, sym, ◌∙◌, ap, append-nil}
use Rattle.octant_code.specs.Points.{site_at}
use Rattle.bh_model.specs.Trees.{in_octant, octree_from, order}
use Rattle.bh_model.proofs.Lists.{joined}
use Rattle.bh_model.proofs.Splits.{octant_orders, order_of_single, order_of_empty, order_of_split, joins_more, octants_within, empty_or_deep, list_has_some}
use Rattle.bh_plain.proofs.trees.+push_order.Goals as goal

pub returns-then-bodies-eq1 : goal.returns-then-bodies-eq1
returns-then-bodies-eq1 t c =
    c.in_ok-push.ensures.items
    ∙ ap (λ y. c.args.out.now.items ++ y)
    (sym (order_of_single (site_at c.args.points.now) (21 - c.args.level) c.args.level c.args.bodies.now c.if-bodies-eq1.true))

pub returns-then-is_empty : goal.returns-then-is_empty
returns-then-is_empty t c =
    let why = empty_or_deep _ c.args.level c.is_empty.result c.is_empty.ensures c.then-is_empty.either in
    sym (append-nil c.args.out.now.items)
    ∙ ap (λ y. c.args.out.now.items ++ y) (sym (order_of_empty (site_at c.args.points.now) c.args.level c.args.bodies.now c.if-bodies-eq1.false why))

pub push_order-requires : goal.push_order-requires
push_order-requires t c =
    let part : c.deref.result.now ≡ in_octant (site_at c.args.points.now) c.args.level c.loop-k.k c.args.bodies.now = c.deref.ensures.value
    ∙ c.in_ok-part.ensures in (
      omega arith,
      (
        octants_within c.args.points.now c.args.level c.loop-k.k c.args.bodies.now c.deref.result.now (length c.args.points.now) part
            c.requires.within,
        omega arith,
      ),
    )

pub loop-k-preserved : goal.loop-k-preserved
loop-k-preserved t c =
    let site = site_at c.args.points.now in
    let part : c.deref.result.now ≡ in_octant site c.args.level c.loop-k.k c.args.bodies.now = c.deref.ensures.value ∙ c.in_ok-part.ensures in
    joins_more c.args.out.now.items c.loop-k.out.items c.push_order.new.out.items (octant_orders site c.args.level c.args.bodies.now) c.loop-k.k
    c.loop-k.invariant
    (c.in_ok-push_order.ensures ∙ ap (λ y. c.loop-k.out.items ++ order (octree_from site (21 - (c.args.level + 1)) (c.args.level + 1) y)) part)

pub returns : goal.returns
returns t c =
    let all : c.loop-k.k ≡ 8 = omega arith in
    let some : length c.args.bodies.now ≢ 0 = list_has_some (length c.args.bodies.now) c.is_empty.result c.is_empty.ensures c.if-is_empty.false in
    let deep : c.args.level < 21 = omega arith in
    c.loop-k.invariant ∙ ap (λ y. c.args.out.now.items ++ joined (octant_orders (site_at c.args.points.now) c.args.level c.args.bodies.now) y) all
    ∙ ap (λ y. c.args.out.now.items ++ y) (sym (order_of_split (site_at c.args.points.now) c.args.level c.args.bodies.now deep some c.if-bodies-eq1.false))
