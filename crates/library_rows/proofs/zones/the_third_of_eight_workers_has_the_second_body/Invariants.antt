use Rattle.library_rows.proofs.zones.the_third_of_eight_workers_has_the_second_body.Given as goal

abbrev pub ghosts-zone_is_within : goal.ghosts-zone_is_within
ghosts-zone_is_within g a = record { name = a.blank.name; parts = a.blank.parts }
