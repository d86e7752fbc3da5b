use Rattle.runq.proofs.Runq.rekey.Given as goal

abbrev pub ghosts-rekey_from : goal.ghosts-rekey_from
ghosts-rekey_from a = record { name = a.blank.name; parts = a.blank.parts }
