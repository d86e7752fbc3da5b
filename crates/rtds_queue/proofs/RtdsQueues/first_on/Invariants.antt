use Rattle.rtds_queue.proofs.RtdsQueues.first_on.Given as goal

abbrev pub ghosts-first_on_from : goal.ghosts-first_on_from
ghosts-first_on_from a = record { name = a.blank.name; parts = a.blank.parts }
