use Rattle.costzones.proofs.cut.zones.Given as goal

abbrev pub ghosts-zones_from : goal.ghosts-zones_from
ghosts-zones_from a = record { name = a.blank.name; parts = a.blank.parts }
