use Rattle.std.proofs.Common.{arith, ◌≡◌, ◌++◌, ◌∷◌, [], ◌+◌, ◌-◌, ◌*◌, ◌^◌, ◌≤◌, ◌⊎◌, add-one, inl, inr, length, sym, ◌∙◌, ap, append-nil}
use Rattle.std.proofs.Math.Nat.{pow-suc}
use Rattle.octant_code.specs.Points.{site_at}
use Rattle.bh_model.specs.Trees.{cell_keys_from, in_octant, octree_from}
use Rattle.bh_model.proofs.Lists.{joined}
use Rattle.bh_model.proofs.Splits.{joins_more, octants_within}
use Rattle.bh_plain.proofs.ListPieces.{child_key_fits}
use Rattle.bh_plain.proofs.ListUpdates.{cells_of_few, cells_of_split, octant_cells}
use Rattle.bh_plain.proofs.updates.+push_cell_keys.Goals.{then-bodies-le1-via-then-bodies-le1, then-bodies-le1-via-else-bodies-le1+then-level-eq-LEVELS}
use Rattle.bh_plain.proofs.updates.+push_cell_keys.Goals as goal

pub returns-then-bodies-le1 : goal.returns-then-bodies-le1
returns-then-bodies-le1 t c =
    let why : (length c.args.bodies.now ≤ 1) ⊎ (c.args.level ≡ 21) = elim c.then-bodies-le1.branch [
      | then-bodies-le1-via-then-bodies-le1 w ↦ inl (omega (arith, w.if-bodies-le1.true))
      | then-bodies-le1-via-else-bodies-le1+then-level-eq-LEVELS w ↦ inr (omega (arith, w.if-level-eq-LEVELS.true))
    ] in
    sym (append-nil c.args.out.now.items)
    ∙ ap (λ y. c.args.out.now.items ++ y) (sym (cells_of_few (site_at c.args.points.now) c.args.level c.args.key c.args.bodies.now why))

pub overflow_mul-child : goal.overflow_mul-child
overflow_mul-child t c = omega (arith, child_key_fits c.args.key c.args.level (omega arith) c.requires.key_small)

pub overflow_add-child : goal.overflow_add-child
overflow_add-child t c = omega (arith, child_key_fits c.args.key c.args.level (omega arith) c.requires.key_small, c.from.ensures, c.loop-k-test.true)

pub push_cell_keys-requires : goal.push_cell_keys-requires
push_cell_keys-requires t c =
    let part : c.deref.result.now ≡ in_octant (site_at c.args.points.now) c.args.level c.loop-k.k c.args.bodies.now = c.deref.ensures.value
    ∙ c.in_ok-part.ensures in
    let next : 8 ^ (c.args.level + 1) ≡ 8 ^ c.args.level * 8 = ap (λ y. 8 ^ y) (add-one c.args.level) ∙ pow-suc 8 c.args.level in (
      omega arith,
      (
        octants_within c.args.points.now c.args.level c.loop-k.k c.args.bodies.now c.deref.result.now (length c.args.points.now) part c.requires.within,
        (omega arith, omega (arith, next, c.requires.key_small, c.from.ensures, c.loop-k-test.true)),
      ),
    )

pub loop-k-preserved : goal.loop-k-preserved
loop-k-preserved t c =
    let site = site_at c.args.points.now in
    let deeper = c.args.level + 1 in
    let part : c.deref.result.now ≡ in_octant site c.args.level c.loop-k.k c.args.bodies.now = c.deref.ensures.value ∙ c.in_ok-part.ensures in
    joins_more (c.args.out.now.items ++ c.args.key ∷ []) c.loop-k.out.items c.push_cell_keys.new.out.items
    (octant_cells site c.args.level c.args.key c.args.bodies.now) c.loop-k.k c.loop-k.invariant
    (c.in_ok-push_cell_keys.ensures
    ∙ ap (λ y. c.loop-k.out.items ++ cell_keys_from (octree_from site (21 - deeper) deeper y) (8 * c.args.key + c.from.result)) part
    ∙ ap (λ y. c.loop-k.out.items ++ cell_keys_from (octree_from site (21 - deeper) deeper (in_octant site c.args.level c.loop-k.k c.args.bodies.now))
    (8 * c.args.key + y)) c.from.ensures)

pub returns : goal.returns
returns t c =
    let site = site_at c.args.points.now in
    let all : c.loop-k.k ≡ 8 = omega arith in
    cells_of_split site c.args.level c.args.key c.args.bodies.now c.args.out.now.items c.loop-k.out.items (omega arith) (omega (arith, c.if-bodies-le1.false))
    (c.loop-k.invariant
    ∙ ap (λ y. (c.args.out.now.items ++ c.args.key ∷ []) ++ joined (octant_cells site c.args.level c.args.key c.args.bodies.now) y) all)
