use Rattle.nbody_cli.proofs.Rows.{list_stop, list_then}
use Rattle.nbody_cli.specs.Frames.{body_lines, zone_lines}
use Rattle.nbody_cli.specs.Lines.{line_text}
use Rattle.nbody_cli.proofs.frame_text.put_rows.Goals as goal

pub returns-in_err-put_zones-clause-text : goal.returns-in_err-put_zones-clause-text
returns-in_err-put_zones-clause-text g c =
    list_stop line_text (zone_lines c.args.engine.now) (body_lines c.args.engine.now) _ _ _ _ _ c.from_residual.ensures.0 c.in_err-put_zones.ensures.text

pub returns-clause-text : goal.returns-clause-text
returns-clause-text g c =
    list_then line_text (zone_lines c.args.engine.now) (body_lines c.args.engine.now) _ _ _ _ _ _ _ c.in_ok-put_zones.ensures.text c.put_bodies.ensures.text
