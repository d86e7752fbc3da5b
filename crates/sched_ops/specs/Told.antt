-- What a scheduler tells of a unit.
use Rattle.sched_model.specs.declared.facts.Stored.{Stored}
use Rattle.sched_model.specs.declared.facts.Stored.TheVariants as stored
use Rattle.sched_ops.specs.Conditions.{IsSetTerm}

-- the set values of an RTDS unit are in range
abbrev pub IsInRange : Stored → Type 0
IsInRange (stored.Rtds period budget extra) = IsSetTerm period.0 budget.0
IsInRange _ = Unit {0}
