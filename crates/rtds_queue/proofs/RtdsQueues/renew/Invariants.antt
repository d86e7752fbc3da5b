use Rattle.rtds_queue.proofs.RtdsQueues.renew.Given as goal

abbrev pub ghosts-renew_from : goal.ghosts-renew_from
ghosts-renew_from a = record { name = a.blank.name; parts = a.blank.parts }
