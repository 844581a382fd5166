use Rattle.scene_file.proofs.Gatherings.{reading_bodies}
use Rattle.scene_file.proofs.reading.Reading.end_pass.Goals as goal

pub returns-in-Err-clause-step : goal.returns-in-Err-clause-step
returns-in-Err-clause-step c = λ apart.
    let same = reading_bodies c.self.inside.gathering c.self.inside.passing c.self.invariant in
    let told = c.in-Err.ensures.fault (rw (← c.self.view_is, same) at apart) in
    rw told tt
