use Rattle.library_rows.proofs.zones.the_second_of_eight_workers_has_no_body_of_three.Given as goal

abbrev pub ghosts-zone_is_within : goal.ghosts-zone_is_within
ghosts-zone_is_within g a = record { name = a.blank.name; parts = a.blank.parts }
