-- What is printed of a unit's replenishment.
use Rattle.std.specs.Prelude.{◌-◌, false, Option, Some, None}
use Rattle.sched_base.specs.Numbers.{moment, span}
use Rattle.sched_base.specs.declared.UnitId.{UnitId}
use Rattle.sched_model.specs.declared.event.Event.{Event}
use Rattle.sched_model.specs.declared.event.Event.TheVariants as event
use Rattle.sched_model.specs.declared.state.RtdsUnit.{RtdsUnit}

-- its new period, deadline and budget; zeros where there is no such unit
abbrev pub printed_event : UnitId → Option RtdsUnit → Event
printed_event u unit =
    event.Repl u
    (elim unit [ None ↦ moment 0 | Some x ↦ moment (x.deadline - x.period) ])
    (elim unit [ None ↦ moment 0 | Some x ↦ moment x.deadline ])
    (elim unit [ None ↦ span 0 | Some x ↦ span x.budget ])
    (elim unit [ None ↦ false | Some x ↦ x.extra ])
