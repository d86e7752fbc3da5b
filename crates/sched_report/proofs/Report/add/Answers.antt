use Rattle.std.proofs.Common.{◌≡◌, ◌<◌, ◌+◌, ◌^◌, List, length, sym, subst, ◌∙◌, rules}
use Rattle.std.proofs.lemmas.List.{with_items_is}
use Rattle.sched_model.specs.declared.event.Entry.{Entry}
use Rattle.sched_report.specs.declared.tally.UnitTally.{UnitTally}
use Rattle.sched_report.specs.declared.tally.CoreTally.{CoreTally}
use Rattle.sched_report.specs.Pasts.{Told}
use Rattle.sched_report.specs.Stays.{entry_choice, replenished_by}
use Rattle.sched_report.specs.Tallies.{units_renewed, units_with, cores_with, IsTally}
use Rattle.sched_report.proofs.Keeps.{kept_more}
use Rattle.sched_report.proofs.Report.add.Goals as goal

pub invariant_of-self : goal.invariant_of-self
invariant_of-self c =
    let b = c.self.inside in
    let e : Entry = c.args.e.now in
    let many_units : length c.count_entry.new.units ≡ b.units.len = search rules in
    let many_cores : length c.count_entry.new.cores ≡ b.cores.len = search rules in
    let units = with_items_is b.units c.count_entry.new.units many_units ∙ c.count_entry.ensures.units
    ∙ (λ i. units_renewed (replenished_by e.event) (units_with (entry_choice e) (c.as_mut_slice.ensures.value i) (c.as_mut_slice-2.ensures.value i))) in
    let cores = with_items_is b.cores c.count_entry.new.cores many_cores ∙ c.count_entry.ensures.cores ∙ (λ i. cores_with (entry_choice e) (c.as_mut_slice.ensures.value i)) in
    let kept = kept_more b.config.value b.past.value e b.names.items b.units.items b.cores.items b.entries b.last.0 c.self.invariant c.count_entry.ensures.short
    (subst (λ (x : Told). length x.entries + 1 < 2 ^ 32) (sym c.self.view_is) c.requires) in
    subst (λ (z : List Entry × (List UnitTally × List CoreTally)). IsTally b.config.value z.0 b.names.items z.1.0 z.1.1 (b.entries + 1) e.at.0)
    (λ i. (sym c.push.ensures i, (sym units i, sym cores i))) kept
