use Rattle.runq.proofs.Runq.first_behind.Given as goal

abbrev pub ghosts-first_behind_from : goal.ghosts-first_behind_from
ghosts-first_behind_from a = record { name = a.blank.name; parts = a.blank.parts }
