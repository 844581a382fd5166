use Rattle.bh_outside.proofs.Takings.{whole_prefix}
use Rattle.nbody_cli.proofs.frames.show_and_move_on.Goals as goal

pub returns-in-Err-clause-shows : goal.returns-in-Err-clause-shows
returns-in-Err-clause-shows g c = whole_prefix (g.K.Sink.written c.args.sink.now) (g.K.Sink.written c.show.new.sink) _ c.in-Done.ensures.shows.0
