use Rattle.plain_commands.proofs.pools.+set_rtds.Given as goal

abbrev pub decreases-set_rtds : goal.decreases-set_rtds
decreases-set_rtds l = l.count
