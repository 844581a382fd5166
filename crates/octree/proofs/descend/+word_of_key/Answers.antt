use Rattle.std.proofs.Common.{ℕ, ◌∙◌, ap, arith}
use Rattle.std.proofs.lemmas.List.{get_or_read}
use Rattle.octree.proofs.KeyWords.{cell_there, names_no_cell, none_before, none_below, none_in, read_in}
use Rattle.tree_rule.proofs.Laws.{forget}
use Rattle.tree_rule.specs.Sound.{HereAs}
use Rattle.tree_rule.specs.Words.{HasCell, at_of}
use Rattle.octree.proofs.descend.+word_of_key.Goals.{In-Cell}
use Rattle.octree.proofs.descend.+word_of_key.Goals as goal

-- the cell of the key above is one of the words'
above : (t : ℕ) (c : In-Cell t) → HasCell c.args.words.now.items c.in-Cell.cell
above t c =
    cell_there (at_of c.args.words.now.items) (at_of c.args.words.now.items 0) c.args.base _ c.in-Some.above c.in-Cell.cell c.in-Some.ensures
    c.in-Cell.ensures

pub returns-then-key-base : goal.returns-then-key-base
returns-then-key-base t c =
    HereAs c.args.key _ c.if-key-base.true (get_or_read c.args.words.now.items 0 c.index.result.now (omega (arith, c.requires.first)) c.index.ensures 0)

pub returns-then-key-base-2 : goal.returns-then-key-base-2
returns-then-key-base-2 t c = none_before (at_of c.args.words.now.items) (at_of c.args.words.now.items 0) c.args.base c.args.key (omega arith)

pub returns-in_default : goal.returns-in_default
returns-in_default t c =
    none_below (at_of c.args.words.now.items) (at_of c.args.words.now.items 0) c.args.base c.args.key c.if-key-base.false c.in_default.ensures

pub named_by-requires : goal.named_by-requires
named_by-requires t c = c.requires.small c.in-Some.above (forget _ _ c.args.base _ c.in-Some.above c.in-Some.ensures)

pub index-requires-2 : goal.index-requires-2
index-requires-2 t c =
    omega (arith, c.requires.room c.in-Cell.cell (above t (goal.at.index-requires-2 t c).In-Cell), c.place_of_child.ensures)

pub returns : goal.returns
returns t c =
    let cell = (goal.at.returns t c).In-Cell in
    read_in (at_of c.args.words.now.items) (at_of c.args.words.now.items 0) c.args.base c.args.key c.in-Some.above c.in-Cell.cell _ c.in-Some.ensures
    c.in-Cell.ensures
    (get_or_read c.args.words.now.items c.place_of_child.result c.index-2.result.now
    (omega (arith, c.requires.room c.in-Cell.cell (above t cell), c.place_of_child.ensures)) c.index-2.ensures 0
    ∙ ap (at_of c.args.words.now.items) c.place_of_child.ensures)

pub returns-in_default-named_by : goal.returns-in_default-named_by
returns-in_default-named_by t c =
    none_in (at_of c.args.words.now.items) (at_of c.args.words.now.items 0) c.args.base c.args.key c.in-Some.above c.requires.positive c.if-key-base.false
    c.in-Some.ensures (names_no_cell c.in-Some.above c.named_by.result c.named_by.ensures c.in_default-named_by.not-Cell)
