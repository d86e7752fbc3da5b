use Rattle.std.proofs.Common.{◌≡◌, ◌++◌, map}
use Rattle.sched_base.specs.declared.UnitId.{UnitId}
use Rattle.sched_base.specs.Numbers.{domain}
use Rattle.sched_model.specs.Places.{numbers_from}
use Rattle.sched_report.proofs.names.push_units.Given as goal

abbrev pub invariant-loop-n : goal.invariant-loop-n
invariant-loop-n l = l.names.items ≡ l.initial.names.items ++ map (λ k. let u : UnitId = record { dom = domain l.d; n = k } in u) (numbers_from 0 l.n)
