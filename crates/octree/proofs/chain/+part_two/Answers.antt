use Rattle.std.proofs.Common.{ℕ, arith, ◌≡◌, ◌+◌, ◌*◌, ◌∙◌, ap, subst, sym}
use Rattle.octant_code.specs.Space.{octant_of}
use Rattle.octant_code.specs.Points.{site_at}
use Rattle.octant_code.proofs.Keys.{key-next-fits}
use Rattle.octree.proofs.Chains.{forked, linked, pair_deeper}
use Rattle.octree.proofs.Locks.{unlocked_in_cell}
use Rattle.octree.proofs.Words.{at_set_other, set_length}
use Rattle.octree.specs.Chain.{ArePair, IsOneOf, IsTaken}
use Rattle.tree_rule.specs.Flat.{StandsFor}
use Rattle.tree_rule.specs.Words.{at_of, cell_word}
use Rattle.octree.proofs.chain.+part_two.Goals.{After-add_cell}
use Rattle.octree.proofs.chain.+part_two.Goals as goal

-- the octant of body `x`
octant_x : (t : ℕ) (c : After-add_cell t) → c.octant-a.result ≡ octant_of (site_at c.args.points.now c.args.x) c.args.cube.level
octant_x t c = c.octant-a.ensures.value ∙ ap (λ s. octant_of s c.args.cube.level) c.at-q.ensures.value

-- the octant of body `n`
octant_n : (t : ℕ) (c : After-add_cell t) → c.octant-b.result ≡ octant_of (site_at c.args.points.now c.args.n) c.args.cube.level
octant_n t c = c.octant-b.ensures.value ∙ ap (λ s. octant_of s c.args.cube.level) c.at-p.ensures.value

pub overflow_mul-inner : goal.overflow_mul-inner
overflow_mul-inner t c = omega (arith, key-next-fits (site_at c.args.points.now c.args.n) c.args.cube.level (omega arith), c.requires.pair.n_under)

pub overflow_add-inner : goal.overflow_add-inner
overflow_add-inner t c = omega (
  arith,
  key-next-fits (site_at c.args.points.now c.args.n) c.args.cube.level (omega arith),
  c.requires.pair.n_under,
  c.octant-b.ensures.small,
  c.from.ensures,
)

pub part_two-requires : goal.part_two-requires
part_two-requires t c =
    let d = goal.at.part_two-requires t c in
    let cell = c.add_cell.ensures.added in
    let pair = pair_deeper _ _ _ _ _ c.octant-b.result c.requires.rule c.requires.pair
    (sym c.if-a-b.true ∙ octant_x t d.After-add_cell) (octant_n t d.After-add_cell) in
    let unlocked = unlocked_in_cell c.add_cell.new.words.items _ _ c.octant-b.result c.place_of_child.result c.word_of_cell.result cell.unlocked
    c.place_of_child.ensures (omega (arith, c.octant-b.ensures.small)) in (
      omega (arith, pair.shallow),
      (
        omega (arith, c.requires.few, pair.shallow),
        (
          set_length _ c.place_of_child.result c.word_of_cell.result ∙ cell.len,
          (
            omega (arith, c.requires.room, c.add_cell.ensures.room, pair.shallow),
            (
              unlocked,
              (
                c.requires.rule,
                subst (λ (y : ℕ). ArePair c.args.points.now c.args.x c.args.n (8 * c.args.cube.key + y) (c.args.cube.level + 1))
                    (sym c.from.ensures) pair,
              ),
            ),
          ),
        ),
      ),
    )

pub returns-then-a-b-clause-kept : goal.returns-then-a-b-clause-kept
returns-then-a-b-clause-kept t c = λ i l.
    c.part_two.ensures.kept i (omega arith) ∙ at_set_other _ c.place_of_child.result i c.word_of_cell.result (λ e. omega (arith, e, c.place_of_child.ensures))
    ∙ c.add_cell.ensures.added.kept i l

pub returns-then-a-b-clause-stands : goal.returns-then-a-b-clause-stands
returns-then-a-b-clause-stands t c =
    linked _ _ _ _ _ _ c.octant-b.result _ _ _ _ _ _ c.add_cell.ensures.added c.place_of_child.ensures c.octant-b.ensures.small
    c.word_of_cell.ensures c.part_two.ensures.kept
    c.part_two.ensures.more c.requires.pair
    (subst (λ (y : ℕ). StandsFor (site_at c.args.points.now) (at_of c.part_two.new.words.items) (cell_word (c.args.used + 1)) (8 * c.args.cube.key + y)
    (IsTaken (c.args.used + 1) c.part_two.result) (IsOneOf c.args.x c.args.n))
    c.from.ensures c.part_two.ensures.stands)

pub returns-else-a-b-clause-kept : goal.returns-else-a-b-clause-kept
returns-else-a-b-clause-kept t c = λ i l.
    at_set_other _ _ i _ (λ e. omega (arith, e, c.place_of_child-else-a-b-2.ensures))
    ∙ at_set_other _ _ i _ (λ e. omega (arith, e, c.place_of_child-else-a-b.ensures))
    ∙ c.add_cell.ensures.added.kept i l

pub returns-else-a-b-clause-unlocked : goal.returns-else-a-b-clause-unlocked
returns-else-a-b-clause-unlocked t c =
    unlocked_in_cell _ _ _ c.octant-b.result _ _ (unlocked_in_cell _ _ _ c.octant-a.result _ _ c.add_cell.ensures.added.unlocked
    c.place_of_child-else-a-b.ensures (omega (arith, c.octant-a.ensures.small))) c.place_of_child-else-a-b-2.ensures
    (omega (arith, c.octant-b.ensures.small))

pub returns-else-a-b-clause-stands : goal.returns-else-a-b-clause-stands
returns-else-a-b-clause-stands t c =
    let d = goal.at.returns-else-a-b-clause-stands t c in
    forked _ _ _ _ c.octant-a.result c.octant-b.result _ _ _ _ _ _ _ _ c.add_cell.ensures.added
    c.place_of_child-else-a-b.ensures
    c.place_of_child-else-a-b-2.ensures c.word_of_body.ensures c.word_of_body-else-a-b.ensures c.requires.pair (octant_x t d.After-add_cell)
    (octant_n t d.After-add_cell) c.if-a-b.false
