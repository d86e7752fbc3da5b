use Rattle.std.proofs.Common.{◌≡◌, ◌<◌, ◌-◌, ℕ, arith, sym, ap, subst, ◌∙◌, length}
use Rattle.std.specs.Prelude.{Some, slice_get}
use Rattle.sched_report.specs.declared.tally.CoreTally.{CoreTally}
use Rattle.sched_report.specs.Pasts.{Told}
use Rattle.sched_report.specs.Reports.{report_of}
use Rattle.sched_report.specs.Lines.{text_of_unit, text_of_core, report_lines}
use Rattle.sched_report.specs.Tallies.{UnitsWithin, unit_line_by, core_line_by}
use Rattle.sched_report.proofs.Bounds.{within-more, core_within-more}
use Rattle.sched_report.proofs.Tells.{few-cores, all-lines, unit-line-at, core-line-at, last-line-at}
use Rattle.sched_report.proofs.Report.put_line.Goals as goal

pub unit_line-line-requires-clause-within : goal.unit_line-line-requires-clause-within
unit_line-line-requires-clause-within c =
    let b = c.self.inside in
    subst (UnitsWithin 4294967295 4294967295 4294967295) (sym c.as_slice-units.ensures.value) (within-more b.entries 4294967295 b.units.items c.self.invariant.few_entries c.self.invariant.units_within)

pub unit_line-line-requires-clause-cores : goal.unit_line-line-requires-clause-cores
unit_line-line-requires-clause-cores c = omega (arith, few-cores c.self.invariant, ap length c.as_slice.ensures.value)

pub overflow_cast-r : goal.overflow_cast-r
overflow_cast-r c = omega (arith, few-cores c.self.invariant)

pub core_line-line-requires : goal.core_line-line-requires
core_line-line-requires c =
    let b = c.self.inside in
    core_within-more b.entries 4294967295 b.cores.items (c.args.i - c.len-units.result) c.index-then-i-units-2.result.now c.self.invariant.few_entries c.self.invariant.cores_within (omega arith)
    c.index-then-i-units-2.ensures

pub returns-then-i-units : goal.returns-then-i-units
returns-then-i-units c =
    let b = c.self.inside in
    let written = c.put_unit_line.ensures ∙ ap text_of_unit (c.unit_line-line.ensures ∙ (λ j. unit_line_by (c.as_slice-units.ensures.value j) (c.as_slice.ensures.value j) b.last.0 (c.index.ensures j))) in
    subst (λ (x : Told). slice_get (report_lines (report_of x.config x.entries)) c.args.i ≡ Some c.put_unit_line.new.out) c.self.view_is
    (unit-line-at c.self.invariant c.args.i c.index.result.now (omega arith) ∙ ap Some (sym written))

pub returns-then-i-units-2 : goal.returns-then-i-units-2
returns-then-i-units-2 c =
    let b = c.self.inside in
    let r : ℕ = c.args.i - c.len-units.result in
    let written = c.put_core_line.ensures ∙ ap text_of_core (c.core_line-line.ensures ∙ ap (λ (k : CoreTally). core_line_by k b.last.0 r) c.index-then-i-units-2.ensures) in
    subst (λ (x : Told). slice_get (report_lines (report_of x.config x.entries)) c.args.i ≡ Some c.put_core_line.new.out) c.self.view_is
    (core-line-at c.self.invariant c.args.i r c.index-then-i-units-2.result.now (omega arith) (omega arith) ∙ ap Some (sym written))

pub returns-else-i-units-2 : goal.returns-else-i-units-2
returns-else-i-units-2 c =
    let below = subst (λ (x : Told). c.args.i < length (report_lines (report_of x.config x.entries))) (sym c.self.view_is) c.requires.below in
    subst (λ (x : Told). slice_get (report_lines (report_of x.config x.entries)) c.args.i ≡ Some c.put_last_line.new.out) c.self.view_is
    (last-line-at c.self.invariant c.args.i (omega (arith, below, all-lines c.self.invariant)) ∙ ap Some (sym c.put_last_line.ensures))
