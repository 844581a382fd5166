use Rattle.std.proofs.Common.{List, ℕ, ◌≡◌, arith, length, refl, subst, vec_len}
use Rattle.octree.proofs.Assembling.{all_zero, assembled_is, bodies_few, bodies_in_points, growing_none, stored}
use Rattle.octree.specs.ByKeys.{IsAssembled}
use Rattle.octree.specs.Growing.{cells_in}
use Rattle.octree.specs.Stored.{IsStored}
use Rattle.octree.proofs.octree.Octree.assembled.Goals as goal

pub make_places-requires-clause-growing : goal.make_places-requires-clause-growing
make_places-requires-clause-growing c =
    let words : List ℕ = c.resize.new.self.items in
    let is : vec_len c.resize.new.self ≡ length words = c.resize.new.self.ok.0 in
    (growing_none c.args.points.now c.args.parts.now words (bodies_few c.args.points.now c.args.parts.now c.requires.parts c.len-rule.ensures.rule)
    (omega (arith, is, c.in_ok-resize.ensures.len, c.words_of_cells-2.ensures))
    (all_zero words (λ i l. c.in_ok-resize.ensures.by_index.1 i 0 refl (omega (arith, c.in_ok-words.ensures.len))
    (omega (arith, l, is, c.in_ok-resize.ensures.len))))).0

pub invariant_of-result : goal.invariant_of-result
invariant_of-result c =
    let words : List ℕ = c.copy_parts.new.words.items in
    let is : vec_len c.copy_parts.new.words ≡ length words = c.copy_parts.new.words.ok.0 in
    let used : cells_in words ≡ c.cells_of_words-count.result = omega (arith, is, c.len.ensures, c.cells_of_words-count.ensures) in
    let filled = c.in_ok-copy_parts.ensures in (
      subst (λ (y : ℕ). IsStored (record { words = words; base = 1; level = 0; used = y; held = y })) used
          (stored c.args.points.now c.args.parts.now c.requires.parts.order words _ _ _ refl
          (bodies_in_points c.args.points.now c.args.parts.now c.requires.parts) filled),
      omega (arith, filled.grown.long, used, is, c.copy_parts.new.words.ok.1),
    )

pub returns : goal.returns
returns c =
    let words : List ℕ = c.copy_parts.new.words.items in
    let is : vec_len c.copy_parts.new.words ≡ length words = c.copy_parts.new.words.ok.0 in
    let used : cells_in words ≡ c.cells_of_words-count.result = omega (arith, is, c.len.ensures, c.cells_of_words-count.ensures) in
    subst (λ (y : ℕ). IsAssembled c.args.points.now c.args.parts.now (record { words = words; base = 1; level = 0; used = y; held = y })) used
    (assembled_is c.args.points.now c.args.parts.now c.requires.parts.order words _ _ _ refl
    (bodies_in_points c.args.points.now c.args.parts.now c.requires.parts) c.in_ok-copy_parts.ensures)
