use Rattle.std.proofs.Common.{◌/◌, ◌%◌, ◌∙◌, List, ap, arith, refl}
use Rattle.std.specs.Prelude.{Option}
use Rattle.sched_laws.proofs.SiblingsLaw.{some_processor}
use Rattle.sched_model.specs.declared.state.Processor.{Processor}
use Rattle.sched_model.specs.declared.state.Resource.{Resource}
use Rattle.core_state.specs.Seen.{Seen, changed_processor, processor_among, extended_stall_end, stalled_to, with_sibling}
use Rattle.core_state.proofs.ChangeLemmas.{may_rearm, core_change, changed_kept, seen_is, sibling_keeps}
use Rattle.core_state.proofs.Counting.{same_counted}
use Rattle.core_state.proofs.cores.CoreState.stall.Goals as goal

pub nonzero_div-r : goal.nonzero_div-r
nonzero_div-r c = let some = some_processor c.self.inside.granularity c.self.invariant.0.cores.granularity in omega (arith, some)

pub processor_at-requires : goal.processor_at-requires
processor_at-requires c = some_processor c.self.inside.granularity c.self.invariant.0.cores.granularity

pub end_stall-requires : goal.end_stall-requires
end_stall-requires c = some_processor c.self.inside.granularity c.self.invariant.0.cores.granularity

pub rearm-requires : goal.rearm-requires
rearm-requires c = may_rearm c.self.invariant.0 (core_change (c.args.p.0 / c.self.inside.granularity) (with_sibling (c.args.p.0 % c.self.inside.granularity) (stalled_to c.later_end-end.result)) (sibling_keeps (c.args.p.0 % c.self.inside.granularity) (stalled_to c.later_end-end.result)) c.self.invariant.0) c.end_stall.ensures refl

pub invariant_of-self : goal.invariant_of-self
invariant_of-self c = (changed_kept (c.args.p.0 / c.self.inside.granularity) (with_sibling (c.args.p.0 % c.self.inside.granularity) (stalled_to c.later_end-end.result)) c.self.invariant.0 (core_change (c.args.p.0 / c.self.inside.granularity) (with_sibling (c.args.p.0 % c.self.inside.granularity) (stalled_to c.later_end-end.result)) (sibling_keeps (c.args.p.0 % c.self.inside.granularity) (stalled_to c.later_end-end.result)) c.self.invariant.0) c.end_stall.ensures refl c.rearm.ensures, same_counted (c.args.p.0 / c.self.inside.granularity) (with_sibling (c.args.p.0 % c.self.inside.granularity) (stalled_to c.later_end-end.result)) c.self.inside.cores _ c.self.inside.counts (λ u x. refl) c.end_stall.ensures c.self.invariant.1)

pub returns-clause-end : goal.returns-clause-end
returns-clause-end c =
    c.later_end-end.ensures
    ∙ ap (λ (o : Option Processor). extended_stall_end o c.args.until) (c.processor_at.ensures ∙ ap (λ (xs : List (Option Resource)). processor_among c.self.inside.granularity xs c.args.p.0) c.as_slice.ensures)
    ∙ ap (λ (seen : Seen). extended_stall_end (processor_among seen.granularity seen.resources c.args.p.0) c.args.until) c.self.view_is

pub returns-clause-after : goal.returns-clause-after
returns-clause-after c = seen_is c.end_stall.ensures refl ∙ ap (λ (seen : Seen). changed_processor c.args.p.0 (stalled_to c.later_end-end.result) seen) c.self.view_is
