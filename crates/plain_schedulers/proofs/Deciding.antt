-- A decision by the parts of a scheduler.
use Rattle.std.proofs.Common.{◌≡◌, ◌∙◌, List, sym, ap}
use Rattle.std.specs.Prelude.{Option, Some, None}
use Rattle.sched_base.specs.declared.UnitId.{UnitId}
use Rattle.sched_base.specs.declared.Cores.{Cores}
use Rattle.sched_model.specs.declared.ask.Ask.{Ask}
use Rattle.sched_model.specs.declared.state.Records.{Records}
use Rattle.sched_model.specs.declared.state.Scheduler.{Scheduler}
use Rattle.sched_model.specs.Places.{without_unit}
use Rattle.sched_model.specs.EligibleUnits.{Decision}
use Rattle.sched_model.specs.Policy.{decision_by, decision_of, after_decision}
use Rattle.scheduler_records.specs.Parts.{scheduler_of}

-- a decision of the parts is one of the scheduler
pub decision_by-parts : (ask : Ask) (scheduler : Scheduler) (queue : List UnitId) (affinity : List (Option (List Cores))) → queue ≡ scheduler.queue → affinity ≡ scheduler.affinity
    → decision_by scheduler.records ask (scheduler_of queue affinity scheduler.records) ≡ decision_of ask scheduler
decision_by-parts ask scheduler queue affinity same_queue same_affinity =
    ap (λ (q : List UnitId). decision_by scheduler.records ask (scheduler_of q affinity scheduler.records)) same_queue
    ∙ ap (λ (a : List (Option (List Cores))). decision_by scheduler.records ask (scheduler_of scheduler.queue a scheduler.records)) same_affinity

-- the scheduler after the choice of a unit
pub after_decision-some : (decision : Decision) (scheduler : Scheduler) (u : UnitId) (queue : List UnitId) (records : Records) → decision.unit ≡ Some u → queue ≡ without_unit u scheduler.queue → records ≡ decision.records
    → scheduler_of queue scheduler.affinity records ≡ after_decision decision scheduler
after_decision-some decision scheduler u queue records chosen left_queue left_records =
    ap (λ (q : List UnitId). scheduler_of q scheduler.affinity records) left_queue
    ∙ ap (λ (r : Records). scheduler_of (without_unit u scheduler.queue) scheduler.affinity r) left_records
    ∙ ap (λ (o : Option UnitId). scheduler_of (elim o as (λ _. List UnitId) [ None ↦ scheduler.queue | Some w ↦ without_unit w scheduler.queue ]) scheduler.affinity decision.records) (sym chosen)

-- the scheduler after a decision to idle
pub after_decision-none : (decision : Decision) (scheduler : Scheduler) (records : Records) → decision.unit ≡ None → records ≡ decision.records
    → scheduler_of scheduler.queue scheduler.affinity records ≡ after_decision decision scheduler
after_decision-none decision scheduler records chosen left_records =
    ap (λ (r : Records). scheduler_of scheduler.queue scheduler.affinity r) left_records
    ∙ ap (λ (o : Option UnitId). scheduler_of (elim o as (λ _. List UnitId) [ None ↦ scheduler.queue | Some w ↦ without_unit w scheduler.queue ]) scheduler.affinity decision.records) (sym chosen)
