use Rattle.std.proofs.Common.{ℕ, List, [], ◌∷◌, arith, ◌≡◌, ◌++◌, ◌+◌, ◌-◌, ◌*◌, ◌^◌, add-one, length, sym, ◌∙◌, ap, append-nil}
use Rattle.std.proofs.Math.Nat.{pow-suc}
use Rattle.octant_code.specs.Points.{site_at}
use Rattle.bh_model.specs.Pieces.{cubes_from, octants_of}
use Rattle.bh_model.specs.Trees.{in_octant}
use Rattle.bh_model.proofs.Pieces.{cubes-few, cubes-last, cubes-none, nothing, rows}
use Rattle.bh_model.proofs.Splits.{octants_within}
use Rattle.bh_plain.proofs.ListPieces.{child_key_fits, cubes_more, cubes_of_split, octant_cubes, octant_few}
use Rattle.bh_plain.proofs.pieces.+push_cubes.Goals as goal
use Rattle.bh_plain.proofs.pieces.+push_cubes.Goals.{then-count-most-via-then-count-most, then-count-most-via-else-count-most+then-level-eq-LEVELS}

pub returns-then-count-eq0 : goal.returns-then-count-eq0
returns-then-count-eq0 t c =
    let none : c.args.bodies.now ≡ [] = nothing c.args.bodies.now c.if-count-eq0.true in
    let o = octants_of (site_at c.args.points.now) in
    sym (append-nil c.args.out.now.items)
    ∙ ap (λ y. c.args.out.now.items ++ y)
    (sym (ap (cubes_from o c.args.most (21 - c.args.level) c.args.level c.args.key) none
    ∙ cubes-none o c.args.most (21 - c.args.level) c.args.level c.args.key))

pub returns-then-count-most : goal.returns-then-count-most
returns-then-count-most t c =
    let o = octants_of (site_at c.args.points.now) in
    let bodies : List ℕ = c.args.bodies.now in
    let one : cubes_from o c.args.most (21 - c.args.level) c.args.level c.args.key bodies ≡ (c.args.key, length bodies) ∷ [] =
    elim c.then-count-most.branch [
      | then-count-most-via-then-count-most w ↦
          cubes-few o c.args.most (21 - c.args.level) c.args.level c.args.key bodies (λ e. omega (arith, e, c.if-count-eq0.false)) w.if-count-most.true
      | then-count-most-via-else-count-most+then-level-eq-LEVELS w ↦
          let last : 21 - c.args.level ≡ 0 = omega (arith, w.if-level-eq-LEVELS.true) in
          ap (λ y. cubes_from o c.args.most y c.args.level c.args.key bodies) last
          ∙ cubes-last o c.args.most c.args.level c.args.key bodies (λ e. omega (arith, e, c.if-count-eq0.false))
    ] in
    c.in_ok-push.ensures.items ∙ ap (λ y. c.args.out.now.items ++ y) (sym one)

pub overflow_mul-child : goal.overflow_mul-child
overflow_mul-child t c = omega (arith, child_key_fits c.args.key c.args.level (omega arith) c.requires.key_small)

pub overflow_add-child : goal.overflow_add-child
overflow_add-child t c = omega (arith, child_key_fits c.args.key c.args.level (omega arith) c.requires.key_small, c.from.ensures, c.loop-k-test.true)

pub push_cubes-requires : goal.push_cubes-requires
push_cubes-requires t c =
    let site = site_at c.args.points.now in
    let part : c.deref.result.now ≡ in_octant site c.args.level c.loop-k.k c.args.bodies.now = c.deref.ensures.value ∙ c.in_ok-part.ensures in
    let next : 8 ^ (c.args.level + 1) ≡ 8 ^ c.args.level * 8 = ap (λ y. 8 ^ y) (add-one c.args.level) ∙ pow-suc 8 c.args.level in (
      omega arith,
      (
        octants_within c.args.points.now c.args.level c.loop-k.k c.args.bodies.now c.deref.result.now (length c.args.points.now) part c.requires.within,
        (
          omega (arith, ap length part, octant_few site c.args.level c.loop-k.k c.args.bodies.now, c.requires.few),
          (omega arith, omega (arith, next, c.requires.key_small, c.from.ensures, c.loop-k-test.true)),
        ),
      ),
    )

pub loop-k-preserved : goal.loop-k-preserved
loop-k-preserved t c =
    let site = site_at c.args.points.now in
    let part : c.deref.result.now ≡ in_octant site c.args.level c.loop-k.k c.args.bodies.now = c.deref.ensures.value ∙ c.in_ok-part.ensures in
    cubes_more c.args.out.now.items c.loop-k.out.items c.push_cubes.new.out.items
    (octant_cubes site c.args.most c.args.level c.args.key c.args.bodies.now) c.loop-k.k
    c.loop-k.invariant
    (c.in_ok-push_cubes.ensures
    ∙ ap (λ y. c.loop-k.out.items ++ cubes_from (octants_of site) c.args.most (21 - (c.args.level + 1)) (c.args.level + 1)
    (8 * c.args.key + c.from.result) y) part
    ∙ ap (λ y. c.loop-k.out.items ++ cubes_from (octants_of site) c.args.most (21 - (c.args.level + 1)) (c.args.level + 1) (8 * c.args.key + y)
    (in_octant site c.args.level c.loop-k.k c.args.bodies.now)) c.from.ensures)

pub returns : goal.returns
returns t c =
    let site = site_at c.args.points.now in
    let all : c.loop-k.k ≡ 8 = omega arith in
    c.loop-k.invariant ∙ ap (λ y. c.args.out.now.items ++ rows (octant_cubes site c.args.most c.args.level c.args.key c.args.bodies.now) y) all
    ∙ ap (λ y. c.args.out.now.items ++ y)
    (sym (cubes_of_split site c.args.most c.args.level c.args.key c.args.bodies.now (omega arith) c.if-count-most.false))
