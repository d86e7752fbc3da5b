use Rattle.runq.proofs.Runq.first_where.Given as goal

abbrev pub ghosts-first_where_from : goal.ghosts-first_where_from
ghosts-first_where_from a = record { name = a.blank.name; parts = a.blank.parts }
