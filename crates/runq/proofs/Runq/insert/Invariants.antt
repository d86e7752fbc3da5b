use Rattle.runq.proofs.Runq.insert.Given as goal

abbrev pub ghosts-insert_from : goal.ghosts-insert_from
ghosts-insert_from a = record { name = a.blank.name; parts = a.blank.parts }
