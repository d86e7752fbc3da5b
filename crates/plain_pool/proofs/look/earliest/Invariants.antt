use Rattle.std.proofs.Common.{◌≡◌, drop}
use Rattle.sched_model.specs.Rtds.{is_unit_before}
use Rattle.plain_pool.specs.Looks.{best_from, has_left}
use Rattle.plain_pool.proofs.look.earliest.Given as goal

abbrev pub invariant-loop-u : goal.invariant-loop-u
invariant-loop-u l = best_from (has_left l.domains) (is_unit_before l.domains) l.found (drop l.u-index l.units) ≡ best_from (has_left l.domains) (is_unit_before l.domains) l.fn.best l.units
