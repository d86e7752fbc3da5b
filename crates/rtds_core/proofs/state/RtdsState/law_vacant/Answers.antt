use Rattle.std.proofs.Common.{◌≡◌, subst, sym, true}
use Rattle.sched_model.specs.declared.config.PoolParams.TheVariants as pool_params
use Rattle.sched_ops.specs.Seen.{Seen, restarted_scheduler}
use Rattle.sched_ops.specs.Conditions.{is_vacant}
use Rattle.rtds_core.proofs.Vacant.{vacant_same}
use Rattle.rtds_core.proofs.state.RtdsState.law_vacant.Goals as goal

pub returns : goal.returns
returns c =
    let i = c.self.inside in
    subst (λ (s : Seen). restarted_scheduler pool_params.Rtds s.scheduler ≡ s.scheduler) c.self.view_is
    (vacant_same i.domains i.affinity i.queues i.masks i.alarms i.spare i.latest c.self.invariant (subst (λ (s : Seen). is_vacant s.scheduler ≡ true) (sym c.self.view_is) c.requires))
