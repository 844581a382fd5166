use Rattle.std.proofs.Common.{ℕ, List, arith, refl, true, false, ◌≡◌, ◌+◌, ◌*◌, ◌∙◌, ap, slice_set, subst, sym}
use Rattle.octree.proofs.Copying.{AreChildrenCopied, body_copied, cell_has, cell_positive, cell_shallow, cell_shared, child_free, child_source}
use Rattle.octree.proofs.Copying.{children_all, children_more}
use Rattle.octree.proofs.Copying.{children_none, none_copied, word_copied}
use Rattle.octree.proofs.ReadWords.{word_small}
use Rattle.octree.specs.Growing.{IsCopied, IsFreePlace, IsSource}
use Rattle.octree.specs.Stored.{root_word}
use Rattle.tree_rule.proofs.Laws.{forget}
use Rattle.tree_rule.specs.Words.{at_of, child_place}
use Rattle.octree.proofs.assemble.+copy_below.Goals.{After-place_of_child-there, else-names_cell, then-names_cell+in_ok-copy_below-in-Cell}
use Rattle.octree.proofs.assemble.+copy_below.Goals as goal

-- the word of the child
child_is : (t : ℕ) (c : After-place_of_child-there t) → c.word_at-child.result ≡ at_of c.args.from.now.words (child_place c.in-Cell.cell c.loop-k.k)
child_is t c = c.word_at-child.ensures ∙ ap (at_of c.args.from.now.words) c.place_of_child.ensures

-- what stands below it is to be copied
child_read : (t : ℕ) (c : After-place_of_child-there t)
    → IsSource c.args.points.now c.args.parts.now c.args.from.now (8 * c.args.key + c.loop-k.k) c.word_at-child.result
child_read t c =
    child_source c.args.points.now c.args.parts.now c.args.from.now c.args.key c.args.word c.in-Cell.cell c.held-held.ensures.rule
    c.requires.source c.in-Cell.ensures c.loop-k.k c.word_at-child.result c.loop-k-test.true (child_is t c)

-- to a place whose word is empty
child_there : (t : ℕ) (c : After-place_of_child-there t)
    → IsFreePlace c.loop-k.words.items (8 * c.args.key + c.loop-k.k) c.place_of_child-there.result
child_there t c =
    child_free c.args.points.now c.args.parts.now c.args.from.now c.args.key c.args.word c.in-Cell.cell c.held-held.ensures.rule
    c.requires.source c.in-Cell.ensures c.args.words.now.items c.args.place c.in_ok-copy-in-Cell.copy c.loop-k.words.items c.loop-k.k _ _
    c.requires.growing c.loop-k.invariant c.loop-k-test.true refl c.place_of_child-there.ensures

-- once it is copied, so are the first children with it
child_more : (t : ℕ) (c : After-place_of_child-there t) (next : List ℕ)
    → IsCopied c.args.points.now c.args.parts.now c.args.from.now (8 * c.args.key + c.loop-k.k) c.word_at-child.result c.loop-k.words.items next
    c.place_of_child-there.result
    → AreChildrenCopied c.args.points.now c.args.parts.now c.args.from.now c.args.key c.in-Cell.cell c.args.words.now.items next c.args.place
    c.in_ok-copy-in-Cell.copy (c.loop-k.k + 1)
child_more t c next copied =
    children_more c.args.points.now c.args.parts.now c.args.from.now c.args.key c.args.word c.in-Cell.cell c.held-held.ensures.rule
    c.requires.source c.in-Cell.ensures c.args.words.now.items c.args.place c.in_ok-copy-in-Cell.copy c.loop-k.words.items next c.loop-k.k
    c.word_at-child.result _ _ c.requires.growing c.loop-k.invariant c.loop-k-test.true refl c.place_of_child-there.ensures (child_is t c) copied

pub named_by-requires : goal.named_by-requires
named_by-requires t c =
    word_small c.args.from.now c.args.word c.held-held.ensures.rule
    (forget (at_of c.args.from.now.words) (root_word c.args.from.now) c.args.from.now.base c.args.key c.args.word c.requires.source.read)

pub put_cell-requires-clause-shared : goal.put_cell-requires-clause-shared
put_cell-requires-clause-shared t c =
    cell_shared c.args.points.now c.args.parts.now c.args.from.now c.args.key c.args.word c.in-Cell.cell c.held-held.ensures.rule c.requires.source
    c.in-Cell.ensures

pub loop-k-init : goal.loop-k-init
loop-k-init t c =
    children_none c.args.points.now c.args.parts.now c.args.from.now c.args.key c.args.word c.in-Cell.cell c.held-held.ensures.rule c.requires.source
    c.in-Cell.ensures
    c.args.words.now.items c.args.place c.in_ok-copy-in-Cell.copy c.put_cell.new.words.items c.requires.growing c.in_ok-copy-in-Cell.ensures

pub word_at-child-requires : goal.word_at-child-requires
word_at-child-requires t c =
    let has = cell_has c.args.points.now c.args.parts.now c.args.from.now c.args.key c.args.word c.in-Cell.cell c.held-held.ensures.rule c.requires.source
    c.in-Cell.ensures in
    omega (arith, c.held-held.ensures.rule.cells_used c.in-Cell.cell has, c.place_of_child.ensures, c.loop-k-test.true)

pub names_cell-requires : goal.names_cell-requires
names_cell-requires t c =
    let d = (goal.at.names_cell-requires t c).After-place_of_child-there in
    word_small c.args.from.now c.word_at-child.result c.held-held.ensures.rule
    (forget (at_of c.args.from.now.words) (root_word c.args.from.now) c.args.from.now.base _ c.word_at-child.result (child_read t d).read)

pub copy_below-requires : goal.copy_below-requires
copy_below-requires t c =
    let d = (goal.at.copy_below-requires t c).After-place_of_child-there in
    let some = cell_positive c.args.points.now c.args.parts.now c.args.from.now c.args.key c.args.word c.in-Cell.cell c.held-held.ensures.rule c.requires.source
    c.in-Cell.ensures in
    let low = cell_shallow c.args.points.now c.args.parts.now c.args.from.now c.args.key c.args.word c.in-Cell.cell c.held-held.ensures.rule c.requires.source
    c.in-Cell.ensures in
    let inner : 8 * c.args.key + c.from.result ≡ 8 * c.args.key + c.loop-k.k = ap (λ y. 8 * c.args.key + y) c.from.ensures in (
      omega (arith, some, low, c.from.ensures, c.loop-k-test.true),
      (
        subst (λ (y : ℕ). IsSource c.args.points.now c.args.parts.now c.args.from.now y c.word_at-child.result) (sym inner) (child_read t d),
        (
          c.loop-k.invariant.grown,
          subst (λ (y : ℕ). IsFreePlace c.loop-k.words.items y c.place_of_child-there.result) (sym inner) (child_there t d),
        ),
      ),
    )

pub loop-k-preserved : goal.loop-k-preserved
loop-k-preserved t c =
    let d = (goal.at.loop-k-preserved t c).After-place_of_child-there in
    elim c.if-names_cell.branch [
      | then-names_cell+in_ok-copy_below-in-Cell w ↦
          rw w.words-is (child_more t d _
          (subst (λ (y : ℕ). IsCopied c.args.points.now c.args.parts.now c.args.from.now y c.word_at-child.result c.loop-k.words.items
          w.copy_below.new.words.items c.place_of_child-there.result)
          (ap (λ y. 8 * c.args.key + y) w.from.ensures) w.in_ok-copy_below-in-Cell.ensures))
      | else-names_cell w ↦
          rw w.words-is (child_more t d _
          (word_copied c.args.points.now c.args.parts.now c.args.from.now _ _ _ _ c.loop-k.invariant.grown (child_there t d) (child_read t d)
          (λ e x. let y : true ≡ false = sym (c.names_cell.ensures.1 (e, x)) ∙ w.if-names_cell.false in cc)))
    ]

pub returns-in-Nothing : goal.returns-in-Nothing
returns-in-Nothing t c = none_copied c.args.points.now c.args.parts.now c.args.from.now _ _ _ _ c.requires.growing c.in-Nothing.ensures

pub returns-in-Body : goal.returns-in-Body
returns-in-Body t c =
    let word : c.args.word ≡ c.word_of_body.result = c.in-Body.ensures ∙ sym c.word_of_body.ensures in
    subst (λ (y : ℕ). IsCopied c.args.points.now c.args.parts.now c.args.from.now c.args.key c.args.word c.args.words.now.items
    (slice_set c.args.words.now.items c.args.place y) c.args.place) word
    (body_copied c.args.points.now c.args.parts.now c.args.from.now _ _ _ c.in-Body.n _ c.requires.growing c.requires.place c.requires.source c.in-Body.ensures)

pub returns-after-loop-k : goal.returns-after-loop-k
returns-after-loop-k t c =
    children_all c.args.points.now c.args.parts.now c.args.from.now c.args.key c.args.word c.in-Cell.cell c.held-held.ensures.rule
    c.requires.source c.in-Cell.ensures c.args.words.now.items c.args.place c.in_ok-copy-in-Cell.copy c.loop-k.words.items
    (subst (λ (y : ℕ). AreChildrenCopied c.args.points.now c.args.parts.now c.args.from.now c.args.key c.in-Cell.cell c.args.words.now.items
    c.loop-k.words.items c.args.place c.in_ok-copy-in-Cell.copy y) (omega arith) c.loop-k.invariant)
