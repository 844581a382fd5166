use Rattle.nbody_cli.proofs.frame_text.put_update.Goals as goal

pub returns-in-Some-clause-text : goal.returns-in-Some-clause-text
returns-in-Some-clause-text g c = rw c.in-Some.is c.put_lines.ensures.text
