use Rattle.pool_core.proofs.units.+set_units.Given as goal

abbrev pub decreases-set_units : goal.decreases-set_units
decreases-set_units g l = l.count
