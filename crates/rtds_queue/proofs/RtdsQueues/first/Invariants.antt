use Rattle.rtds_queue.proofs.RtdsQueues.first.Given as goal

abbrev pub ghosts-first_from : goal.ghosts-first_from
ghosts-first_from a = record { name = a.blank.name; parts = a.blank.parts }
