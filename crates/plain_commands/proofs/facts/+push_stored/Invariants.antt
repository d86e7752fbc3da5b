use Rattle.plain_commands.proofs.facts.+push_stored.Given as goal

abbrev pub decreases-push_stored : goal.decreases-push_stored
decreases-push_stored l = l.count
