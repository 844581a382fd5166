use Rattle.nbody_cli.proofs.Rows.{list_stop, list_then}
use Rattle.nbody_cli.specs.Frames.{pieces_lines, update_lines}
use Rattle.nbody_cli.specs.Lines.{line_text}
use Rattle.nbody_cli.proofs.frame_text.put_told.Goals as goal

pub returns-in_err-put_pieces-clause-text : goal.returns-in_err-put_pieces-clause-text
returns-in_err-put_pieces-clause-text g c =
    list_stop line_text (pieces_lines c.args.told.pieces) (update_lines c.args.told.update) _ _ _ _ _ c.from_residual.ensures.0
    c.in_err-put_pieces.ensures.text

pub returns-clause-text : goal.returns-clause-text
returns-clause-text g c =
    list_then line_text (pieces_lines c.args.told.pieces) (update_lines c.args.told.update) _ _ _ _ _ _ _ c.in_ok-put_pieces.ensures.text
    c.put_update.ensures.text
