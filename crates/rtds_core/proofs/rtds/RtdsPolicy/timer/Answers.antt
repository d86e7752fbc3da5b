use Rattle.std.proofs.Common.{◌≡◌, ℕ, subst, true}
use Rattle.sched_model.specs.declared.config.SchedKind.TheVariants as kinds
use Rattle.sched_model.specs.declared.state.Records.{Records}
use Rattle.sched_model.specs.declared.state.Records.TheVariants.{Credit2Pool}
use Rattle.sched_model.specs.Policy.{records_kind, next_refill_moment}
use Rattle.sched_base.specs.Numbers.{has_moment_come}
use Rattle.sched_ops.specs.Seen.{Seen}
use Rattle.sched_ops.specs.Timers.{is_due}
use Rattle.sched_ops.specs.declared.timer.Timer.{Timer}
use Rattle.rtds_core.proofs.rtds.RtdsPolicy.timer.Goals as goal

-- RTDS has no refill
no_refill : (records : Records) (t d : ℕ) → records_kind records ≡ kinds.Rtds → has_moment_come t (next_refill_moment records d) ≡ true → ⊥
no_refill (Credit2Pool records) t d kind come = cc
no_refill a t d kind come = cc

pub returns-in-Refill-clause-event : goal.returns-in-Refill-clause-event
returns-in-Refill-clause-event c =
    absurd (no_refill c.args.self.now.scheduler.records c.args.t.0 c.in-Refill.d.0 (subst (λ (s : Seen). records_kind s.scheduler.records ≡ kinds.Rtds) c.self.view_is c.law_kind.ensures)
    (subst (λ (w : Timer). is_due c.args.t.0 c.args.self.now.scheduler w ≡ true) c.in-Refill.is c.requires.due))

pub returns-in-Refill-clause-after : goal.returns-in-Refill-clause-after
returns-in-Refill-clause-after c =
    absurd (no_refill c.args.self.now.scheduler.records c.args.t.0 c.in-Refill.d.0 (subst (λ (s : Seen). records_kind s.scheduler.records ≡ kinds.Rtds) c.self.view_is c.law_kind.ensures)
    (subst (λ (w : Timer). is_due c.args.t.0 c.args.self.now.scheduler w ≡ true) c.in-Refill.is c.requires.due))
