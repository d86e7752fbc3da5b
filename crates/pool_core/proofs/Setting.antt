-- New RTDS parameters for units of a domain.
use Rattle.std.proofs.Common.{◌≡◌, ◌≤◌, ℕ, Bool, List, [], ◌∷◌, refl, sym, ap, subst, ◌∙◌, arith}
use Rattle.std.specs.Prelude.{Option, Some, None, unwrap_or}
use Rattle.sched_base.specs.Numbers.{span}
use Rattle.sched_base.specs.declared.Span.{Span}
use Rattle.sched_base.specs.declared.UnitId.{UnitId}
use Rattle.sched_model.specs.declared.config.ParamChange.{ParamChange}
use Rattle.sched_model.specs.declared.config.ParamChange.TheVariants as changes
use Rattle.sched_model.specs.declared.state.Pool.{Pool}
use Rattle.sched_model.specs.declared.state.RtdsUnit.{RtdsUnit}
use Rattle.sched_model.specs.declared.state.Scheduler.{Scheduler}
use Rattle.sched_model.specs.CheckedMachine.{most_span}
use Rattle.sched_model.specs.Commands.{pool_with_rtds, pool_with_rtds_unit}
use Rattle.sched_model.specs.Policy as policy
use Rattle.sched_model.specs.Policy.{unit_rtds_record}
use Rattle.sched_model.specs.Pool.{changed_pool}
use Rattle.sched_laws.proofs.EachPlace.{by_option}
use Rattle.sched_ops.specs.Seen.{Seen as SchedulerSeen}
use Rattle.unit_state.specs.Seen.{Seen as GuestsSeen}
use Rattle.core_state.specs.Seen.{Seen as CoresSeen}
use Rattle.policy_laws.specs.Holds.{Holds}
use Rattle.policy_laws.proofs.Kept.{changes as kept_changes, later}
use Rattle.sched_base.specs.Units.{unit_id}
use Rattle.pool_core.specs.PoolState.{AreWorks, IsKept}
use Rattle.pool_core.specs.Params.{unit_set, units_set}
use Rattle.pool_core.specs.Seen.{pool_of}
use Rattle.pool_core.proofs.Commanding.{works_changed}

module _ (t : ℕ) (period budget : Option Span) (extra : Option Bool) where
  -- a pool whose units get new parameters changes by its scheduler alone
  over_unit : (u : UnitId) (pool : Pool) → pool_with_rtds_unit t period budget extra u pool ≡ record pool { scheduler = unit_set t period budget extra u pool.scheduler }
  over_unit u pool = by_record (unit_rtds_record pool.scheduler.records u)
    where
      by_record : (o : Option RtdsUnit) → elim o as (λ _. Pool) [ None ↦ pool | Some x ↦ changed_pool (changes.«Unit» u (unwrap_or period (span x.next_period)) (unwrap_or budget (span x.next_budget)) (unwrap_or extra x.next_extra)) t pool ]
          ≡ record pool { scheduler = elim o as (λ _. Scheduler) [ None ↦ pool.scheduler | Some x ↦ policy.changed_scheduler (changes.«Unit» u (unwrap_or period (span x.next_period)) (unwrap_or budget (span x.next_budget)) (unwrap_or extra x.next_extra)) t pool.scheduler ] }
      by_record None = refl
      by_record (Some x) = refl

  pub over_units : (d : ℕ) (ns : List ℕ) (pool : Pool) → pool_with_rtds t d period budget extra ns pool ≡ record pool { scheduler = units_set t d period budget extra ns pool.scheduler }
  over_units d [] pool = refl
  over_units d (n ∷ ns) pool =
      ap (λ (p : Pool). pool_with_rtds t d period budget extra ns p) (over_unit (unit_id d n) pool)
      ∙ over_units d ns (record pool { scheduler = unit_set t period budget extra (unit_id d n) pool.scheduler })

  -- what every change of parameters keeps is kept
  kept_units : (I : Pool → Type 0) → ((change : ParamChange) (pool : Pool) → I pool → I (changed_pool change t pool)) → (d : ℕ) (ns : List ℕ) (pool : Pool) → I pool → I (pool_with_rtds t d period budget extra ns pool)
  kept_units I keeps d [] pool here = here
  kept_units I keeps d (n ∷ ns) pool here =
      kept_units I keeps d ns (pool_with_rtds_unit t period budget extra (unit_id d n) pool)
      (by_option I (unit_rtds_record pool.scheduler.records (unit_id d n)) _ _ (λ is. here) (λ x is. keeps (changes.«Unit» (unit_id d n) (unwrap_or period (span x.next_period)) (unwrap_or budget (span x.next_budget)) (unwrap_or extra x.next_extra)) pool here))

  -- the state after it
  pub set_kept : (t0 d : ℕ) (ns : List ℕ) (guests : GuestsSeen) (cores : CoresSeen) (s s2 : SchedulerSeen) → IsKept t0 guests cores s → t0 ≤ t → t ≤ most_span → pool_of guests cores s2 ≡ pool_with_rtds t d period budget extra ns (pool_of guests cores s)
      → s2.spare ≡ s.spare → s2.latest ≤ t → IsKept t guests cores s2
  set_kept t0 d ns guests cores s s2 keeps past early is spare latest = record {
    linked = record {
      granularity = keeps.linked.granularity;
      guests_latest = (let l = keeps.linked.guests_latest in omega (arith, l, past));
      scheduler_latest = latest;
      early = early;
      spare = (let a = keeps.linked.spare in omega (arith, a, spare));
      works = subst (AreWorks guests.granularity cores.works) (sym is) (kept_units (AreWorks guests.granularity cores.works) (λ change pool here. works_changed guests.granularity t change cores.works pool here) d ns (pool_of guests cores s) keeps.linked.works);
    };
    pool = subst (Holds guests.granularity t) (sym is) (kept_units (Holds guests.granularity t) (λ change pool here. kept_changes guests.granularity t change pool here) d ns (pool_of guests cores s) (later guests.granularity t0 t (pool_of guests cores s) past keeps.pool));
  }
