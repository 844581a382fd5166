use Rattle.std.proofs.Common.{arith, ◌≡◌, ◌≢◌, ◌++◌, ◌∷◌, [], ◌+◌, ◌-◌, ◌<◌, ℕ, List, length, sym, ◌∙◌, ap, decimal, get_or}
use Rattle.octant_code.specs.Points.{site_at}
use Rattle.bh_model.specs.Trees.{in_octant, octree_from, text}
use Rattle.bh_model.proofs.Lists.{joined}
use Rattle.bh_model.proofs.Splits.{octant_texts, text_of_single, text_of_empty, text_of_split, joins_more_text, appends_two, octants_within, empty_or_deep}
use Rattle.bh_model.proofs.Splits.{list_has_some}
use Rattle.bh_plain.proofs.trees.+push_text.Goals as goal

pub returns-then-bodies-eq1 : goal.returns-then-bodies-eq1
returns-then-bodies-eq1 t c =
    let digits : List ℕ = c.as_bytes.result.now in
    let whole : List ℕ = text (octree_from (site_at c.args.points.now) (21 - c.args.level) c.args.level c.args.bodies.now) in
    let number : digits ≡ decimal (get_or c.args.bodies.now 0 0) = c.as_bytes.ensures.value ∙ c.format.ensures.text in
    let one : whole ≡ 98 ∷ decimal (get_or c.args.bodies.now 0 0) = text_of_single (site_at c.args.points.now) (21 - c.args.level) c.args.level
    c.args.bodies.now c.if-bodies-eq1.true in
    appends_two c.args.out.now.items c.push.new.self.items c.extend_from_slice.new.self.items (98 ∷ []) digits whole c.in_ok-push.ensures.items
    c.in_ok-extend_from_slice.ensures.items
    (one ∙ ap (λ y. 98 ∷ y) (sym number))

pub returns-then-is_empty : goal.returns-then-is_empty
returns-then-is_empty t c =
    let why = empty_or_deep _ c.args.level c.is_empty.result c.is_empty.ensures c.then-is_empty.either in
    c.in_ok-push-2.ensures.items
    ∙ ap (λ y. c.args.out.now.items ++ y) (sym (text_of_empty (site_at c.args.points.now) c.args.level c.args.bodies.now c.if-bodies-eq1.false why))

pub push_text-requires : goal.push_text-requires
push_text-requires t c =
    let part : c.deref.result.now ≡ in_octant (site_at c.args.points.now) c.args.level c.loop-k.k c.args.bodies.now = c.deref.ensures.value
    ∙ c.in_ok-part.ensures in (
      omega arith,
      (
        octants_within c.args.points.now c.args.level c.loop-k.k c.args.bodies.now c.deref.result.now (length c.args.points.now) part
            c.requires.within,
        omega arith,
      ),
    )

pub loop-k-preserved : goal.loop-k-preserved
loop-k-preserved t c =
    let site = site_at c.args.points.now in
    let part : c.deref.result.now ≡ in_octant site c.args.level c.loop-k.k c.args.bodies.now = c.deref.ensures.value ∙ c.in_ok-part.ensures in
    joins_more_text c.args.out.now.items c.loop-k.out.items c.push_text.new.out.items (octant_texts site c.args.level c.args.bodies.now) c.loop-k.k
    c.loop-k.invariant
    (c.in_ok-push_text.ensures ∙ ap (λ y. c.loop-k.out.items ++ text (octree_from site (21 - (c.args.level + 1)) (c.args.level + 1) y)) part)

pub returns : goal.returns
returns t c =
    let site = site_at c.args.points.now in
    let before : List ℕ = c.args.out.now.items in
    let whole : List ℕ = text (octree_from site (21 - c.args.level) c.args.level c.args.bodies.now) in
    let texts : ℕ → List ℕ = octant_texts site c.args.level c.args.bodies.now in
    let all : c.loop-k.k ≡ 8 = omega arith in
    let some : length c.args.bodies.now ≢ 0 = list_has_some (length c.args.bodies.now) c.is_empty.result c.is_empty.ensures c.if-is_empty.false in
    let deep : c.args.level < 21 = omega arith in
    appends_two before c.loop-k.out.items c.push-3.new.self.items (40 ∷ joined texts 8) (41 ∷ []) whole
    (c.loop-k.invariant ∙ ap (λ y. before ++ 40 ∷ joined texts y) all) c.in_ok-push-4.ensures.items
    (text_of_split site c.args.level c.args.bodies.now deep some c.if-bodies-eq1.false)
