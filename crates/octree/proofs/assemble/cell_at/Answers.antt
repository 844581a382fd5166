use Rattle.std.proofs.Common.{arith, ◌≡◌, ◌∙◌, sym}
use Rattle.std.proofs.lemmas.List.{get_or_read}
use Rattle.octree.proofs.Growing.{place_inside}
use Rattle.octree.proofs.Ways.{no_body_there, there_is, there_small}
use Rattle.tree_rule.specs.Words.{at_of}
use Rattle.octree.proofs.assemble.cell_at.Goals.{After-index}
use Rattle.octree.proofs.assemble.cell_at.Goals as goal

-- the word that is read
read : (c : After-index) → c.index.result.now ≡ at_of c.args.words.now.items c.args.place
read c = get_or_read c.args.words.now.items c.args.place c.index.result.now
    (place_inside c.args.words.now.items c.args.key c.args.place c.requires.growing.long c.requires.place) c.index.ensures 0

pub named_by-requires : goal.named_by-requires
named_by-requires c =
    omega (
      arith,
      read (goal.at.named_by-requires c).After-index,
      there_small c.args.points.now c.args.parts.now c.args.words.now.items c.args.key c.args.place c.requires.growing c.requires.bare c.requires.place,
    )

pub put_cell-requires-clause-place : goal.put_cell-requires-clause-place
put_cell-requires-clause-place c =
    let d = (goal.at.put_cell-requires-clause-place c).After-index in
    record { of_key = c.requires.place; empty = sym (read d) ∙ c.in-Nothing.ensures }

pub unreachable-requires : goal.unreachable-requires
unreachable-requires c =
    let d = (goal.at.unreachable-requires c).After-index in
    no_body_there c.args.points.now c.args.parts.now c.args.words.now.items c.args.key c.args.place c.requires.growing c.requires.bare c.requires.place
    c.in-Body.field-0 (sym (read d) ∙ c.in-Body.ensures)

pub returns-in-Cell : goal.returns-in-Cell
returns-in-Cell c =
    let d = (goal.at.returns-in-Cell c).After-index in
    there_is c.args.points.now c.args.parts.now c.args.words.now.items c.args.key c.args.place c.requires.growing c.requires.bare c.requires.place
    c.in-Cell.cell (sym (read d) ∙ c.in-Cell.ensures)
