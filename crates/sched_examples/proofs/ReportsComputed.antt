-- Reports, computed.
use Rattle.std.proofs.Common.{refl}
use Rattle.std.specs.Fmt.{digits}
use Rattle.sched_examples.specs.Rtds.{machine_budgets_and_deadlines, entries_budgets_and_deadlines, machine_stall_past_the_due, entries_stall_past_the_due}
use Rattle.sched_examples.specs.Credit2.{machine_reset_after_a_stall, entries_reset_after_a_stall}
use Rattle.sched_examples.specs.Arinc.{machine_frames_by_command, entries_frames_by_command}
use Rattle.sched_examples.specs.Siblings.{machine_siblings_meet, entries_siblings_meet}
use Rattle.sched_examples.specs.Reports.{ReportsAs, Reads, report_budgets_and_deadlines, lines_budgets_and_deadlines, report_stall_past_the_due, report_reset_after_a_stall, report_frames_by_command, report_siblings_meet}

pub several_stays-report : ReportsAs machine_budgets_and_deadlines entries_budgets_and_deadlines report_budgets_and_deadlines
unfolding machine_budgets_and_deadlines entries_budgets_and_deadlines
several_stays-report = refl

pub several_stays-text : Reads report_budgets_and_deadlines lines_budgets_and_deadlines
unfolding digits
several_stays-text = refl

pub late_unit_leaves-report : ReportsAs machine_stall_past_the_due entries_stall_past_the_due report_stall_past_the_due
unfolding machine_stall_past_the_due entries_stall_past_the_due
late_unit_leaves-report = refl

pub late_unit_is_kept-report : ReportsAs machine_reset_after_a_stall entries_reset_after_a_stall report_reset_after_a_stall
unfolding machine_reset_after_a_stall entries_reset_after_a_stall
late_unit_is_kept-report = refl

pub free_core-report : ReportsAs machine_frames_by_command entries_frames_by_command report_frames_by_command
unfolding machine_frames_by_command entries_frames_by_command
free_core-report = refl

pub units_of_two-report : ReportsAs machine_siblings_meet entries_siblings_meet report_siblings_meet
unfolding machine_siblings_meet entries_siblings_meet
units_of_two-report = refl
