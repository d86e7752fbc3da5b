-- RTDS pools, computed.
use Rattle.std.proofs.Common.{refl}
use Rattle.sched_examples.specs.Words.{RunsAs, IsSoundFor}
use Rattle.sched_examples.specs.Rtds.{machine_budgets_and_deadlines, entries_budgets_and_deadlines, machine_stall_past_the_due, entries_stall_past_the_due, machine_late_replenishment, entries_late_replenishment, machine_extra_time, entries_extra_time, machine_new_budget, entries_new_budget, machine_new_budget_while_running, entries_new_budget_while_running, machine_urgent_wake, entries_urgent_wake}

pub budgets_and_deadlines-run : RunsAs machine_budgets_and_deadlines entries_budgets_and_deadlines
unfolding machine_budgets_and_deadlines entries_budgets_and_deadlines
budgets_and_deadlines-run = refl

pub budgets_and_deadlines-sound : IsSoundFor 34 machine_budgets_and_deadlines
unfolding machine_budgets_and_deadlines
budgets_and_deadlines-sound = refl

pub stall_past_the_due-run : RunsAs machine_stall_past_the_due entries_stall_past_the_due
unfolding machine_stall_past_the_due entries_stall_past_the_due
stall_past_the_due-run = refl

pub stall_past_the_due-sound : IsSoundFor 13 machine_stall_past_the_due
unfolding machine_stall_past_the_due
stall_past_the_due-sound = refl

pub late_replenishment-run : RunsAs machine_late_replenishment entries_late_replenishment
unfolding machine_late_replenishment entries_late_replenishment
late_replenishment-run = refl

pub late_replenishment-sound : IsSoundFor 18 machine_late_replenishment
unfolding machine_late_replenishment
late_replenishment-sound = refl

pub extra_time-run : RunsAs machine_extra_time entries_extra_time
unfolding machine_extra_time entries_extra_time
extra_time-run = refl

pub extra_time-sound : IsSoundFor 31 machine_extra_time
unfolding machine_extra_time
extra_time-sound = refl

pub new_budget-run : RunsAs machine_new_budget entries_new_budget
unfolding machine_new_budget entries_new_budget
new_budget-run = refl

pub new_budget-sound : IsSoundFor 18 machine_new_budget
unfolding machine_new_budget
new_budget-sound = refl

pub new_budget_while_running-run : RunsAs machine_new_budget_while_running entries_new_budget_while_running
unfolding machine_new_budget_while_running entries_new_budget_while_running
new_budget_while_running-run = refl

pub new_budget_while_running-sound : IsSoundFor 26 machine_new_budget_while_running
unfolding machine_new_budget_while_running
new_budget_while_running-sound = refl

pub urgent_wake-run : RunsAs machine_urgent_wake entries_urgent_wake
unfolding machine_urgent_wake entries_urgent_wake
urgent_wake-run = refl

pub urgent_wake-sound : IsSoundFor 26 machine_urgent_wake
unfolding machine_urgent_wake
urgent_wake-sound = refl
