use Rattle.std.proofs.Common.{◌++◌, arith, slice_set}
use Rattle.bh_model.specs.Bodies.{IsIn}
use Rattle.bh_model.proofs.Lists.{in_right}
use Rattle.tree_rule.specs.Words.{at_of}
use Rattle.tree_rule.proofs.Names.{names_body, names_cell, word_of_cell}
use Rattle.tree_rule.proofs.Noted.{published_later}
use Rattle.tree_rule.proofs.Published.{changed_at}
use Rattle.tree_rule.proofs.notes.publication_goes_on.Goals as goal

pub returns : goal.returns
returns c =
    let at = at_of c.args.words.now in
    let place = c.args.place in
    published_later at (at_of (slice_set c.args.words.now place c.args.w)) 0 1 (IsIn c.args.cells.now)
    (IsIn (c.args.new_cells.now ++ c.args.cells.now)) c.args.key place c.args.w (omega arith)
    c.requires.published (λ d. in_right c.args.new_cells.now c.args.cells.now d) (λ d e. c.requires.no_cell d (names_cell (at place) d e))
    (λ n e. let f = c.requires.next n (names_body (at place) n e) in (f.0, word_of_cell c.args.w f.0 f.1))
    (changed_at c.args.words.now place c.args.w c.requires.inside)
