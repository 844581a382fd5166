use Rattle.bh_model.specs.Bodies.{IsIn}
use Rattle.tree_rule.specs.Words.{at_of}
use Rattle.tree_rule.proofs.Noted.{body_note_stays, cell_note_stays}
use Rattle.tree_rule.proofs.notes.notes_stay.Goals as goal

pub returns-clause-cell : goal.returns-clause-cell
returns-clause-cell c =
    cell_note_stays (at_of c.args.words.now) (at_of c.args.later.now) 0 1 (IsIn c.args.cells.now)
    (IsIn c.args.later_cells.now) c.requires.later c.args.cell.cell c.args.cell.key c.requires.cell

pub returns-clause-body : goal.returns-clause-body
returns-clause-body c =
    body_note_stays (at_of c.args.words.now) (at_of c.args.later.now) 0 1 (IsIn c.args.cells.now)
    (IsIn c.args.later_cells.now) c.requires.later c.args.body.place c.args.body.body c.requires.body
