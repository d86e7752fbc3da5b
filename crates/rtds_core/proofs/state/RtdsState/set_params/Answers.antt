use Rattle.std.proofs.Common.{◌≤◌, sym, subst, List, Option, refl}
use Rattle.sched_base.specs.declared.Cores.{Cores}
use Rattle.sched_model.specs.declared.config.ParamChange.{ParamChange}
use Rattle.sched_model.specs.declared.config.SchedKind.TheVariants as kinds
use Rattle.sched_model.specs.declared.state.RtdsUnit.{RtdsUnit}
use Rattle.sched_model.specs.Policy.{records_kind}
use Rattle.sched_ops.specs.Seen.{Seen}
use Rattle.sched_ops.specs.Conditions.{IsChange}
use Rattle.state_ranges.proofs.Rtds.{rtds_set}
use Rattle.rtds_core.specs.RtdsParts.{IsKept, seen_of}
use Rattle.rtds_core.proofs.Keeping.{queued_like}
use Rattle.rtds_core.proofs.Steps.{kept_later, kept_like}
use Rattle.rtds_core.proofs.Joining.{joined_low, unit_low, kept_pinned}
use Rattle.rtds_core.proofs.state.RtdsState.set_params.Goals as goal

pub invariant_of-self : goal.invariant_of-self
invariant_of-self c =
    let i = c.self.inside in
    let past : i.latest ≤ c.args.t.0 = subst (λ (s : Seen). s.latest ≤ c.args.t.0) (sym c.self.view_is) c.requires.now.after in
    let later = kept_later i.domains i.affinity i.queues i.masks i.alarms i.spare i.latest c.args.t.0 past c.requires.now.early c.self.invariant in
    let asked : IsChange kinds.Rtds (seen_of i.domains i.affinity i.queues i.spare i.latest).scheduler c.args.change.now = subst (λ (s : Seen). IsChange (records_kind s.scheduler.records) s.scheduler c.args.change.now) (sym c.self.view_is) c.requires.change in
    let change = subst (λ (x : ParamChange). IsChange kinds.Rtds (seen_of i.domains i.affinity i.queues i.spare i.latest).scheduler x) c.in-Unit.is asked in
    let term = change.1 in
    let f : RtdsUnit → RtdsUnit = λ x. record x { next_period = c.in-Unit.period.0; next_budget = c.in-Unit.budget.0; next_extra = c.in-Unit.extra } in
    subst (λ (ds : List (Option (List RtdsUnit))). IsKept ds i.affinity i.queues i.masks i.alarms i.spare c.args.t.0) (sym c.set_next.ensures)
    (kept_like i.domains i.affinity i.queues i.masks i.alarms i.spare c.args.t.0 c.in-Unit.unit f
    (λ x fit. rtds_set c.args.t.0 x c.in-Unit.period.0 c.in-Unit.budget.0 c.in-Unit.extra term.long term.share fit)
    (λ x. refl) (λ x. refl) (queued_like c.in-Unit.unit f i.domains (λ x. refl) (λ x. refl) (λ x. refl) i.queues later.queued) later)

pub set_masks-requires-clause-domain : goal.set_masks-requires-clause-domain
set_masks-requires-clause-domain c =
    let i = c.self.inside in
    let asked : IsChange kinds.Rtds (seen_of i.domains i.affinity i.queues i.spare i.latest).scheduler c.args.change.now = subst (λ (s : Seen). IsChange (records_kind s.scheduler.records) s.scheduler c.args.change.now) (sym c.self.view_is) c.requires.change in
    let change = subst (λ (x : ParamChange). IsChange kinds.Rtds (seen_of i.domains i.affinity i.queues i.spare i.latest).scheduler x) c.in-Pin.is asked in
    joined_low i.domains i.affinity c.in-Pin.dom.0 c.self.invariant.shape change.0

pub set_masks-requires-clause-unit : goal.set_masks-requires-clause-unit
set_masks-requires-clause-unit c =
    let i = c.self.inside in
    let asked : IsChange kinds.Rtds (seen_of i.domains i.affinity i.queues i.spare i.latest).scheduler c.args.change.now = subst (λ (s : Seen). IsChange (records_kind s.scheduler.records) s.scheduler c.args.change.now) (sym c.self.view_is) c.requires.change in
    let change = subst (λ (x : ParamChange). IsChange kinds.Rtds (seen_of i.domains i.affinity i.queues i.spare i.latest).scheduler x) c.in-Pin.is asked in
    λ n is. unit_low i.domains i.affinity c.in-Pin.dom.0 n c.self.invariant.shape (change.1 n is)

pub invariant_of-self-in-Pin : goal.invariant_of-self-in-Pin
invariant_of-self-in-Pin c =
    let i = c.self.inside in
    let past : i.latest ≤ c.args.t.0 = subst (λ (s : Seen). s.latest ≤ c.args.t.0) (sym c.self.view_is) c.requires.now.after in
    let later = kept_later i.domains i.affinity i.queues i.masks i.alarms i.spare i.latest c.args.t.0 past c.requires.now.early c.self.invariant in
    subst (λ (affinity : List (Option (List Cores))). IsKept i.domains affinity i.queues c.set_masks.new.masks i.alarms i.spare c.args.t.0) (sym c.pin.ensures)
    (kept_pinned i.domains i.affinity i.queues i.masks c.set_masks.new.masks i.alarms i.spare c.args.t.0 c.in-Pin.dom.0 c.in-Pin.unit c.in-Pin.cores c.set_masks.ensures later)
