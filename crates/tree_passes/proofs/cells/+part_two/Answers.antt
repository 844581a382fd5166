use Rattle.std.proofs.Common.{arith, ◌≡◌, ◌+◌, ◌-◌, ◌*◌, ◌<◌, ◌≤◌, ◌∙◌, ℕ, List, length, take, drop, get_or, set, ap, sym, subst}
use Rattle.octant_code.specs.declared.limits.TheConstants.{LEVELS}
use Rattle.octant_code.specs.Space.{octant_of}
use Rattle.octant_code.specs.Points.{site_at}
use Rattle.octant_code.proofs.Keys.{key-next-fits}
use Rattle.bh_model.specs.Bodies.{IsIn}
use Rattle.tree_rule.specs.Words.{at_of, cell_word, lock_place}
use Rattle.tree_rule.specs.Flat.{StandsFor}
use Rattle.octree.specs.Chain.{ArePair, IsOneOf}
use Rattle.octree.proofs.Laws.{pair_deeper}
use Rattle.tree_passes.specs.Making.{cells_between, HasWritten, IsReady}
use Rattle.tree_passes.proofs.Made.{eight, forked_first, length_rest, linked_first, one_child, parted_below, parted_here, ready_first, ready_rest, rest_is}
use Rattle.tree_passes.proofs.Made.{some_between, this_child, two_children, wrote_first, wrote_one}
use Rattle.tree_passes.proofs.cells.+part_two.Goals.{After-octant-b}
use Rattle.tree_passes.proofs.cells.+part_two.Goals as goal

-- the octant of body `x`
octant_x : (t : ℕ) (c : After-octant-b t) → c.octant-a.result ≡ octant_of (site_at c.args.points.now c.args.x) c.args.cube.level
octant_x t c = c.octant-a.ensures.value ∙ ap (λ s. octant_of s c.args.cube.level) c.at.ensures.value

-- the octant of body `n`
octant_n : (t : ℕ) (c : After-octant-b t) → c.octant-b.result ≡ octant_of (site_at c.args.points.now c.args.n) c.args.cube.level
octant_n t c = c.octant-b.ensures.value ∙ ap (λ s. octant_of s c.args.cube.level) c.at-2.ensures.value

-- there is a cell left
some_left : (t : ℕ) (c : After-octant-b t) → 1 ≤ length c.args.spare.now
some_left t c = omega (arith, c.requires.room, some_between (site_at c.args.points.now c.args.x) (site_at c.args.points.now c.args.n) _ c.requires.pair.shallow)

-- one more cell parts the bodies than in the octant of both
more_below : (t : ℕ) (c : After-octant-b t) → c.octant-a.result ≡ c.octant-b.result
    → cells_between (site_at c.args.points.now c.args.x) (site_at c.args.points.now c.args.n) c.args.cube.level (LEVELS - c.args.cube.level)
    ≡ cells_between (site_at c.args.points.now c.args.x) (site_at c.args.points.now c.args.n) (c.args.cube.level + 1) (LEVELS - (c.args.cube.level + 1)) + 1
more_below t c same = parted_below _ _ _ c.requires.pair.shallow (sym (octant_x t c) ∙ same ∙ octant_n t c)

-- the first cell is the pass's
first_cell : (t : ℕ) (c : After-octant-b t) → lock_place (get_or c.args.spare.now 0 0) < c.args.table.now.table_id.words
first_cell t c = (ready_first _ _ _ c.requires.ready (some_left t c)).1

-- where both lie in one octant they are a pair there
deeper : (t : ℕ) (c : After-octant-b t) → c.octant-a.result ≡ c.octant-b.result
    → ArePair c.args.points.now c.args.x c.args.n (8 * c.args.cube.key + c.octant-b.result) (c.args.cube.level + 1)
deeper t c same = pair_deeper c.args.points.now c.args.x c.args.n c.args.cube.key c.args.cube.level c.octant-b.result c.requires.rule c.requires.pair
    (sym same ∙ octant_x t c) (octant_n t c)

pub overflow_mul-inner : goal.overflow_mul-inner
overflow_mul-inner t c = omega (arith, key-next-fits (site_at c.args.points.now c.args.n) c.args.cube.level (omega arith), c.requires.pair.n_under)

pub overflow_add-inner : goal.overflow_add-inner
overflow_add-inner t c = omega (
  arith,
  key-next-fits (site_at c.args.points.now c.args.n) c.args.cube.level (omega arith),
  c.requires.pair.n_under,
  c.octant-b.ensures.small,
  c.from.ensures,
)

pub part_two-used-requires : goal.part_two-used-requires
part_two-used-requires t c =
    let d = (goal.at.part_two-used-requires t c).After-octant-b in
    let r = c.requires in
    let pair = deeper t d c.if-a-b.true in
    let rest = rest_is c.args.spare.now in (
      omega (arith, pair.shallow),
      (
        r.place,
        (
          subst (λ (z : List ℕ). IsReady c.args.pass.now.me.0 c.args.table.now.table_id.words z) (sym rest) (ready_rest _ _ _ r.ready),
          (
            (
                let e : length (take (length c.args.spare.now - 1) (drop 1 c.args.spare.now)) ≡ length c.args.spare.now - 1 =
                ap length rest ∙ length_rest c.args.spare.now in
                omega (arith, r.room, more_below t d c.if-a-b.true)
                ),
            (
              r.rule,
              subst (λ (y : ℕ). ArePair c.args.points.now c.args.x c.args.n (8 * c.args.cube.key + y) (c.args.cube.level + 1)) (sym c.from.ensures) pair,
            ),
          ),
        ),
      ),
    )

pub bounds-spare-1 : goal.bounds-spare-1
bounds-spare-1 t c =
    let d = (goal.at.bounds-spare-1 t c).After-octant-b in
    omega (arith, c.requires.room, more_below t d c.if-a-b.true, c.part_two-used.ensures.some, c.part_two-used.ensures.count)

pub write_cell-requires-else-a-b-clause-held : goal.write_cell-requires-else-a-b-clause-held
write_cell-requires-else-a-b-clause-held t c =
    let d = (goal.at.write_cell-requires-else-a-b-clause-held t c).After-octant-b in
    (ready_first _ _ _ c.requires.ready (some_left t d)).0

pub write_cell-requires-clause-inside : goal.write_cell-requires-clause-inside
write_cell-requires-clause-inside t c = first_cell t (goal.at.write_cell-requires-clause-inside t c).After-octant-b

pub write_cell-requires-else-a-b-clause-inside : goal.write_cell-requires-else-a-b-clause-inside
write_cell-requires-else-a-b-clause-inside t c = first_cell t (goal.at.write_cell-requires-else-a-b-clause-inside t c).After-octant-b

pub returns-then-a-b-clause-count : goal.returns-then-a-b-clause-count
returns-then-a-b-clause-count t c =
    let d = (goal.at.returns-then-a-b-clause-count t c).After-octant-b in
    omega (arith, more_below t d c.if-a-b.true, c.part_two-used.ensures.count)

pub returns-else-a-b-clause-count : goal.returns-else-a-b-clause-count
returns-else-a-b-clause-count t c =
    let d = (goal.at.returns-else-a-b-clause-count t c).After-octant-b in
    sym (parted_here _ _ _ c.requires.pair.shallow (λ e. c.if-a-b.false (octant_x t d ∙ e ∙ sym (octant_n t d))))

pub returns-then-a-b-clause-wrote : goal.returns-then-a-b-clause-wrote
returns-then-a-b-clause-wrote t c =
    let d = (goal.at.returns-then-a-b-clause-wrote t c).After-octant-b in
    wrote_first _ c.part_two-used.new.pass.me.0 _ c.args.spare.now c.part_two-used.result (some_left t d)
    (subst (λ (z : List ℕ). HasWritten c.args.pass.now.me.0 c.part_two-used.new.pass.me.0 (take c.part_two-used.result z)) (rest_is c.args.spare.now)
    c.part_two-used.ensures.wrote) c.write_cell.ensures.wrote

pub returns-then-a-b-clause-stands : goal.returns-then-a-b-clause-stands
returns-then-a-b-clause-stands t c =
    let d = (goal.at.returns-then-a-b-clause-stands t c).After-octant-b in
    linked_first c.args.points.now c.part_two-used.new.pass.me.0 c.write_cell.new.pass.me.0 c.args.spare.now c.part_two-used.result c.octant-a.result
    c.args.cube.key c.args.cube.level c.args.x c.args.n (set eight c.octant-a.result c.word_of_cell.result) c.requires.ready.once (some_left t d)
    c.write_cell.ensures.wrote c.write_cell.ensures.words (this_child c.octant-a.result _ c.octant-a.ensures.small ∙ c.word_of_cell.ensures)
    (λ k l n. one_child c.octant-a.result k _ n) c.octant-a.ensures.small c.requires.pair
    (subst (λ (y : ℕ). StandsFor (site_at c.args.points.now) (at_of c.part_two-used.new.pass.me.0.memory) (cell_word (get_or (drop 1 c.args.spare.now) 0 0))
    (8 * c.args.cube.key + y) (IsIn (take c.part_two-used.result (drop 1 c.args.spare.now))) (IsOneOf c.args.x c.args.n)) (c.from.ensures ∙ sym c.if-a-b.true)
    (subst (λ (z : List ℕ). StandsFor (site_at c.args.points.now) (at_of c.part_two-used.new.pass.me.0.memory) (cell_word (get_or z 0 0))
    (8 * c.args.cube.key + c.from.result) (IsIn (take c.part_two-used.result z)) (IsOneOf c.args.x c.args.n)) (rest_is c.args.spare.now)
    c.part_two-used.ensures.stands))

pub returns-else-a-b-clause-wrote : goal.returns-else-a-b-clause-wrote
returns-else-a-b-clause-wrote t c =
    let d = (goal.at.returns-else-a-b-clause-wrote t c).After-octant-b in
    wrote_one _ _ c.args.spare.now (some_left t d) c.write_cell-else-a-b.ensures.wrote

pub returns-else-a-b-clause-stands : goal.returns-else-a-b-clause-stands
returns-else-a-b-clause-stands t c =
    let d = (goal.at.returns-else-a-b-clause-stands t c).After-octant-b in
    let k = two_children c.octant-a.result c.octant-b.result c.word_of_body.result c.word_of_body-else-a-b.result
    c.octant-a.ensures.small c.octant-b.ensures.small
    c.if-a-b.false in
    forked_first c.args.points.now c.write_cell-else-a-b.new.pass.me.0.memory c.args.spare.now c.octant-a.result c.octant-b.result
    c.args.cube.key c.args.cube.level c.args.x c.args.n
    (set (set eight c.octant-a.result c.word_of_body.result) c.octant-b.result c.word_of_body-else-a-b.result)
    (some_left t d)
    c.write_cell-else-a-b.ensures.words (k.0 ∙ c.word_of_body.ensures) (k.1 ∙ c.word_of_body-else-a-b.ensures) k.2 (octant_x t d) (octant_n t d)
    c.if-a-b.false c.requires.pair
