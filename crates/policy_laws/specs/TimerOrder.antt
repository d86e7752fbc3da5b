-- The moment at which a timer of a scheduler comes, and the order of timers by domain and unit.
use Rattle.std.specs.Prelude.{ℕ, ◌≡◌, ◌≤◌, ◌||◌, Option, Some, None, if◌then◌else◌}
use Rattle.sched_base.specs.Numbers.{moment}
use Rattle.sched_base.specs.declared.Moment.{Moment}
use Rattle.sched_model.specs.declared.state.Scheduler.{Scheduler}
use Rattle.sched_model.specs.Places.{has_listed_unit}
use Rattle.sched_model.specs.Policy.{unit_rtds_record, next_refill_moment}
use Rattle.sched_ops.specs.Conditions.{is_on}
use Rattle.sched_ops.specs.declared.timer.Timer.{Timer}
use Rattle.sched_ops.specs.declared.timer.Timer.TheVariants.{Repl, Refill}

-- the moment of a timer, where it is armed: a replenishment while its unit waits or is on, a refill while its domain has one to come
abbrev pub armed_at : Scheduler → Timer → Option Moment
armed_at scheduler (Repl u) =
    (if has_listed_unit scheduler.queue u || is_on scheduler.records u then (elim (unit_rtds_record scheduler.records u) [ None ↦ None | Some x ↦ Some (moment x.deadline) ]) else None)
armed_at scheduler (Refill d) = next_refill_moment scheduler.records d.0

-- the domain of a timer, and its unit in the domain; a refill is of the whole domain, and has the place of the first unit
abbrev pub domain_place : Timer → ℕ
domain_place (Repl u) = u.dom.0
domain_place (Refill d) = d.0

abbrev pub unit_place : Timer → ℕ
unit_place (Repl u) = u.n
unit_place (Refill d) = 0

-- the first timer does not come after the second: by domain, then by unit
pub record IsNotAfter (a b : Timer) : Type 0 where
  pub by_domain : domain_place a ≤ domain_place b
  pub then_by_unit : domain_place a ≡ domain_place b → unit_place a ≤ unit_place b
