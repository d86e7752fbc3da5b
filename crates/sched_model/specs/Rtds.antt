-- RTDS: the unit with the least level, and of those the least deadline, runs as long as its budget lasts.
use Rattle.sched_base.specs.Numbers.{moment}
use Rattle.std.specs.Prelude.{ℕ, ◌+◌, ◌-◌, ◌==◌, ◌&&◌, ◌||◌, Bool, false, List, [], ◌∷◌, Option, Some, None, nat_lt, replicate, if◌then◌else◌}
use Rattle.sched_base.specs.declared.UnitId.{UnitId}
use Rattle.sched_base.specs.RtdsNumbers.{burned_left, burned_level, next_deadline}
use Rattle.sched_model.specs.Places.{change_at, change_item}
use Rattle.sched_model.specs.State.{Scheduler, RtdsUnit}
use Rattle.sched_model.specs.declared.state.Records.TheVariants.{RtdsPool}
use Rattle.sched_model.specs.EligibleUnits.{Ask, Decision, is_unit_allowed, eligible_units, rtds_unit_at}

-- the unit charged for a span
abbrev pub unit_after_span : ℕ → RtdsUnit → RtdsUnit
unit_after_span elapsed u = record u { left = burned_left u.left u.budget u.extra elapsed; level = burned_level u.level u.left u.extra elapsed }

-- a running unit charged up to t
abbrev pub unit_burned_to : ℕ → RtdsUnit → RtdsUnit
unit_burned_to t u = elim u.burned [ None ↦ u | Some from ↦ unit_after_span (t - from) (record u { burned = Some t }) ]

-- the unit with the newest parameters and a full budget, and with the first deadline after t that is whole periods after the old one
abbrev pub renewed_unit : ℕ → RtdsUnit → RtdsUnit
renewed_unit t u =
    record u {
      period = u.next_period;
      budget = u.next_budget;
      extra = u.next_extra;
      deadline = next_deadline u.deadline u.next_period t;
      left = u.next_budget;
      level = 0;
    }

-- the replenishment of a unit at t
abbrev pub unit_after_replenish : ℕ → RtdsUnit → RtdsUnit
unit_after_replenish t u = renewed_unit t (unit_burned_to t u)

-- the unit changed by f
abbrev pub change_unit : UnitId → (RtdsUnit → RtdsUnit) → List (Option (List RtdsUnit)) → List (Option (List RtdsUnit))
change_unit u f domains = change_at u.dom.0 (change_item u.n f) domains

-- whether the first unit runs before the second
abbrev pub is_record_before : RtdsUnit → RtdsUnit → Bool
is_record_before a b = nat_lt a.level b.level || (a.level == b.level && nat_lt a.deadline b.deadline)

-- whether the first unit runs before the second, by their records
abbrev pub is_unit_before : List (Option (List RtdsUnit)) → UnitId → UnitId → Bool
is_unit_before domains u w = elim (rtds_unit_at domains u) [ None ↦ false | Some a ↦ elim (rtds_unit_at domains w) [ None ↦ false | Some b ↦ is_record_before a b ] ]

-- the unit that runs before the others: the best so far, or one of those that follow; among equals the earlier
abbrev pub first_of_units : List (Option (List RtdsUnit)) → Option UnitId → List UnitId → Option UnitId
first_of_units domains best [] = best
first_of_units domains None (u ∷ units) = first_of_units domains (Some u) units
first_of_units domains (Some best) (u ∷ units) = first_of_units domains (Some (if is_unit_before domains u best then u else best)) units

-- the budget that is left to the unit
abbrev pub unit_left_budget : List (Option (List RtdsUnit)) → UnitId → ℕ
unit_left_budget domains u = elim (rtds_unit_at domains u) [ None ↦ 0 | Some x ↦ x.left ]

-- the core's own unit, where it may go on
abbrev pub rtds_candidate : Ask → Scheduler → List (Option (List RtdsUnit)) → Option UnitId
rtds_candidate ask scheduler domains =
    elim ask.cur [
      | None ↦ None
      | Some u ↦ (if ask.runnable && is_unit_allowed scheduler ask.home.0 ask.core.0 u && nat_lt 0 (unit_left_budget domains u) then Some u else None)
    ]

-- the core's own unit charged up to t
abbrev pub own_burned_domains : Option UnitId → ℕ → List (Option (List RtdsUnit)) → List (Option (List RtdsUnit))
own_burned_domains None t domains = domains
own_burned_domains (Some u) t domains = change_unit u (unit_burned_to t) domains

-- the unit runs from a moment, or runs no more
abbrev pub running_domains : Option ℕ → UnitId → List (Option (List RtdsUnit)) → List (Option (List RtdsUnit))
running_domains from u domains = change_unit u (λ x. record x { burned = from }) domains

-- the core's own unit runs no more
abbrev pub off_domains : Option UnitId → List (Option (List RtdsUnit)) → List (Option (List RtdsUnit))
off_domains None domains = domains
off_domains (Some u) domains = running_domains None u domains

-- the choice, after the core's own unit was charged
abbrev pub rtds_choice : Ask → Scheduler → List (Option (List RtdsUnit)) → Option UnitId
rtds_choice ask scheduler domains =
    (if ask.leaving then None else first_of_units domains (rtds_candidate ask scheduler domains) (eligible_units (record scheduler { records = RtdsPool domains }) ask.home.0 ask.core.0 ask.at.0))

-- the decision for a choice
abbrev pub rtds_decision_for : Ask → List (Option (List RtdsUnit)) → Option UnitId → Decision
rtds_decision_for ask domains None = record { unit = None; due = None; reset = 0; records = RtdsPool (off_domains ask.cur domains) }
rtds_decision_for ask domains (Some u) =
    record {
      unit = Some u;
      due = Some (moment (ask.at.0 + unit_left_budget domains u));
      reset = 0;
      records = RtdsPool (running_domains (Some ask.at.0) u (off_domains ask.cur domains));
    }

-- the decision: the core's own unit is charged first, and then the choice is made
abbrev pub rtds_decision : Ask → Scheduler → List (Option (List RtdsUnit)) → Decision
rtds_decision ask scheduler domains =
    let burned : List (Option (List RtdsUnit)) = own_burned_domains ask.cur ask.at.0 domains in
    rtds_decision_for ask burned (rtds_choice ask scheduler burned)

-- the units of a domain that joins at t
abbrev pub fresh_rtds_units : ℕ → ℕ → Bool → ℕ → ℕ → List RtdsUnit
fresh_rtds_units period budget extra count t =
    replicate count (record {
      period = period;
      budget = budget;
      extra = extra;
      next_period = period;
      next_budget = budget;
      next_extra = extra;
      deadline = t + period;
      left = budget;
      level = 0;
      burned = None;
    })
