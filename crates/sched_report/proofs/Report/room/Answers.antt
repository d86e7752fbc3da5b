use Rattle.std.proofs.Common.{◌≡◌, List, sym, subst, rules, replicate}
use Rattle.sched_model.specs.declared.config.Config.{Config}
use Rattle.sched_model.specs.declared.event.Entry.{Entry}
use Rattle.sched_model.specs.Opening.{machine_core_count}
use Rattle.sched_report.specs.declared.tally.UnitTally.{UnitTally}
use Rattle.sched_report.specs.declared.tally.CoreTally.{CoreTally}
use Rattle.sched_report.specs.Tallies.{IsTally, nothing_done, undecided_core}
use Rattle.sched_report.proofs.Keeps.{kept_new}
use Rattle.sched_report.proofs.Report.room.Goals as goal

pub invariant_of-result : goal.invariant_of-result
invariant_of-result c =
    let config : Config = c.args.config.now in
    let units : c.in_ok-vec.field-0.items ≡ replicate {A = UnitTally} 2048 nothing_done = search rules in
    let cores : c.in_ok-vec-2.field-0.items ≡ replicate {A = CoreTally} (machine_core_count config) undecided_core = search rules in
    let kept = kept_new config c.in_ok-names.names.items c.requires c.in_ok-names.ensures in
    subst (λ (z : Config × (List Entry × (List UnitTally × List CoreTally))). IsTally z.0 z.1.0 c.in_ok-names.names.items z.1.1.0 z.1.1.1 0 0)
    (λ i. (sym c.of.ensures i, (sym c.nothing.ensures i, (sym units i, sym cores i)))) kept
