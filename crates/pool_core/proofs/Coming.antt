-- A pool without domains and cores, a core that comes, and the end of a stall.
use Rattle.std.proofs.Common.{◌≡◌, ◌≢◌, ◌≤◌, ◌<◌, ◌+◌, ◌-◌, ◌*◌, ◌/◌, ◌%◌, ◌⊎◌, ℕ, zero, suc, true, false, not, List, [], ◌∷◌, refl, sym, ap, subst, ◌∙◌, inl, inr, arith, length}
use Rattle.std.specs.Prelude.{Option, Some, None, is_some, map, option_map, replicate, slice_get}
use Rattle.std.specs.List.{list_any}
use Rattle.std.proofs.Math.Decide.{ℕ_discrete}
use Rattle.std.proofs.lemmas.Bool.{cases_lt}
use Rattle.std.proofs.lemmas.Nat.{div-add-mod', div-mul-add, mod_below}
use Rattle.sched_base.specs.declared.Moment.{Moment}
use Rattle.sched_base.specs.declared.Cores.{Cores}
use Rattle.sched_model.specs.declared.config.PoolParams.{PoolParams}
use Rattle.sched_model.specs.declared.state.Domain.{Domain}
use Rattle.sched_model.specs.declared.state.Scheduler.{Scheduler}
use Rattle.sched_model.specs.declared.state.Pool.{Pool}
use Rattle.sched_model.specs.declared.state.Processor.{Processor}
use Rattle.sched_model.specs.declared.state.Resource.{Resource}
use Rattle.sched_model.specs.CheckedMachine.{most_span}
use Rattle.sched_model.specs.Opening.{joined_core}
use Rattle.sched_model.specs.Places.{at_place, clear_at, put_at}
use Rattle.sched_model.specs.Pool.{domain_unit_count}
use Rattle.sched_laws.proofs.EachPlace.{at_place-clear_at, at_place-clear_at_other, at_place-put_at, at_place-put_at_other, at_place-replicate}
use Rattle.pool_records.specs.Cores.{fresh_processor}
use Rattle.core_state.specs.Seen.{Seen as CoresSeen, processor_among, stalled_to, vacant_cores, cleared_works}
use Rattle.core_state.proofs.ChangeLemmas.{without_works-other, without_works-own}
use Rattle.policy_laws.specs.Holds.{Holds}
use Rattle.policy_laws.proofs.Kept.{opened}
use Rattle.sched_ops.specs.Conditions.{is_vacant}
use Rattle.sched_ops.specs.Seen.{Seen as SchedulerSeen, core_places, restarted_scheduler, vacant_scheduler as vacant_scheduler}
use Rattle.unit_state.specs.Seen.{Seen as GuestsSeen, vacant_guests as vacant_guests}
use Rattle.pool_core.specs.PoolState.{AreWorks, IsKept}
use Rattle.pool_core.specs.Seen.{IsEmpty, guest_among, pool_of, with_core, with_stall, without_core}
use Rattle.pool_core.proofs.Processors.{processor_changed, processor_other, run_by}
use Rattle.pool_core.proofs.Works.{done_by}

-- places that are all empty
pub all_empty : {X : Type 0} (places : List (Option X)) → ((i : ℕ) → at_place places i ≡ None) → places ≡ replicate (length places) None
all_empty [] none = refl
all_empty (p ∷ places) none = let first : p ≡ None = none 0 in ap (λ o. o ∷ places) first ∙ ap (λ ps. None ∷ ps) (all_empty places (λ i. none (suc i)))

-- so nothing is there
pub nothing_there : {X : Type 0} (places : List (Option X)) → ((i : ℕ) → at_place places i ≡ None) → list_any is_some places ≡ false
nothing_there [] none = refl
nothing_there (p ∷ places) none = let first : p ≡ None = none 0 in rw first (nothing_there places (λ i. none (suc i)))

-- a processor of a core that has just come runs nothing
fresh_runs_none : (ends : List Moment) (i : ℕ) → run_by (slice_get (map fresh_processor ends) i) ≡ None
fresh_runs_none [] i = refl
fresh_runs_none (end ∷ ends) zero = refl
fresh_runs_none (end ∷ ends) (suc i) = fresh_runs_none ends i

-- a number is one of a core's processors, or not
in_core : (g r q : ℕ) → q / g ≢ r → (q < r * g) ⊎ (r * g + g ≤ q)
in_core g r q other = elim (cases_lt q (r * g)) [
  | inl low ↦ inl low
  | inr ge ↦ elim (cases_lt q (r * g + g)) [
    | inl below ↦ absurd (
        let e : r * g + (q - r * g) ≡ q = omega (arith, ge) in
        let core = div-mul-add r g (q - r * g) (omega (arith, ge, below)) in
        other (ap (λ (k : ℕ). k / g) (sym e) ∙ core))
    | inr past ↦ inr past
  ]
]

-- the moments at which the works are done after a core came
pub works_come : (g r : ℕ) (ends : List Moment) (works : List (Option Moment)) (pool : Pool) → 0 < g → r < length pool.resources → AreWorks g works pool → AreWorks g (cleared_works (r * g) g works) (with_core r ends pool)
works_come g r ends works pool some inside are q = elim (ℕ_discrete (q / g) r) [
  | yes core ↦
      let e : q / g * g + q % g ≡ q = div-add-mod' q g in
      let low : q % g < g = mod_below q g some in
      let place : r * g + q % g ≡ q = ap (λ (k : ℕ). k * g + q % g) (sym core) ∙ e in
      let at : at_place (put_at r (joined_core ends) pool.resources) (q / g) ≡ Some (joined_core ends) = subst (λ (k : ℕ). at_place (put_at r (joined_core ends) pool.resources) k ≡ Some (joined_core ends)) (sym core) (at_place-put_at r (joined_core ends) pool.resources inside) in
      let runs : guest_among g (with_core r ends pool).resources q ≡ None = ap (λ (o : Option Resource). run_by (elim o as (λ _. Option Processor) [ None ↦ None | Some c ↦ slice_get c.processors (q % g) ])) at ∙ fresh_runs_none ends (q % g) in
      without_works-own (r * g) g q works (omega (arith, place)) (omega (arith, place, low)) ∙ sym (ap (done_by pool.domains) runs)
  | no other ↦
      without_works-other (r * g) g q works (in_core g r q other) ∙ are q
      ∙ sym (ap (λ (o : Option Resource). done_by pool.domains (run_by (elim o as (λ _. Option Processor) [ None ↦ None | Some c ↦ slice_get c.processors (q % g) ]))) (at_place-put_at_other r (q / g) (joined_core ends) pool.resources other))
]

-- after a core went
pub works_go : (g r : ℕ) (works : List (Option Moment)) (pool : Pool) → 0 < g → AreWorks g works pool → AreWorks g (cleared_works (r * g) g works) (without_core r pool)
works_go g r works pool some are q = elim (ℕ_discrete (q / g) r) [
  | yes core ↦
      let e : q / g * g + q % g ≡ q = div-add-mod' q g in
      let low : q % g < g = mod_below q g some in
      let place : r * g + q % g ≡ q = ap (λ (k : ℕ). k * g + q % g) (sym core) ∙ e in
      let at : at_place (clear_at r pool.resources) (q / g) ≡ None = subst (λ (k : ℕ). at_place (clear_at r pool.resources) k ≡ None) (sym core) (at_place-clear_at r pool.resources) in
      let runs : guest_among g (without_core r pool).resources q ≡ None = ap (λ (o : Option Resource). run_by (elim o as (λ _. Option Processor) [ None ↦ None | Some c ↦ slice_get c.processors (q % g) ])) at in
      without_works-own (r * g) g q works (omega (arith, place)) (omega (arith, place, low)) ∙ sym (ap (done_by pool.domains) runs)
  | no other ↦
      without_works-other (r * g) g q works (in_core g r q other) ∙ are q
      ∙ sym (ap (λ (o : Option Resource). done_by pool.domains (run_by (elim o as (λ _. Option Processor) [ None ↦ None | Some c ↦ slice_get c.processors (q % g) ]))) (at_place-clear_at_other r (q / g) pool.resources other))
]

-- and after a processor is stalled
pub works_stalled : (g p : ℕ) (end : Moment) (works : List (Option Moment)) (pool : Pool) → AreWorks g works pool → AreWorks g works (with_stall g p end pool)
works_stalled g p end works pool are q = are q ∙ ap (done_by pool.domains) (elim (ℕ_discrete q p) [
  | yes e ↦ subst (λ (k : ℕ). guest_among g pool.resources k ≡ guest_among g (with_stall g p end pool).resources k) (sym e)
      (stalled_runs (processor_among g pool.resources p) ∙ ap run_by (sym (processor_changed g p (stalled_to end) pool.resources)))
  | no other ↦ ap run_by (sym (processor_other g p q (stalled_to end) pool.resources other))
])
  where
    stalled_runs : (o : Option Processor) → run_by o ≡ run_by (option_map (stalled_to end) o)
    stalled_runs None = refl
    stalled_runs (Some x) = refl

-- no processor of places without a core runs anything
pub works_vacant : (g n : ℕ) (pool : Pool) → pool.resources ≡ replicate n None → AreWorks g (replicate 64 None) pool
works_vacant g n pool none q =
    at_place-replicate 64 q
    ∙ sym (ap (λ (cores : List (Option Resource)). done_by pool.domains (guest_among g cores q)) none
    ∙ ap (λ (o : Option Resource). done_by pool.domains (run_by (elim o as (λ _. Option Processor) [ None ↦ None | Some c ↦ slice_get c.processors (q % g) ]))) (at_place-replicate n (q / g)))

-- a pool that has nothing yet
pub room_kept : (params : PoolParams) (g domains places units : ℕ) (guests : GuestsSeen) (cores : CoresSeen) (s : SchedulerSeen) → 0 < g → guests ≡ vacant_guests g domains units → cores ≡ vacant_cores g places
    → s.scheduler ≡ vacant_scheduler params domains places → units ≤ s.spare → s.latest ≤ 0 → IsKept 0 guests cores s
room_kept params g domains places units guests cores s some guests_are cores_are scheduler room latest =
    subst (λ (x : GuestsSeen). IsKept 0 x cores s) (sym guests_are) (subst (λ (x : CoresSeen). IsKept 0 (vacant_guests g domains units) x s) (sym cores_are) (record {
      linked = record {
        granularity = refl;
        guests_latest = omega arith;
        scheduler_latest = latest;
        early = omega arith;
        spare = room;
        works = works_vacant g places (pool_of (vacant_guests g domains units) (vacant_cores g places) s) refl;
      };
      pool = subst (λ (x : Scheduler). Holds g 0 (record { scheduler = x; domains = replicate domains None; resources = replicate places None })) (sym scheduler) (opened g 0 domains places places params some);
    }))

-- a pool without domains and cores that begins anew
pub open_kept : (t : ℕ) (params : PoolParams) (guests : GuestsSeen) (cores : CoresSeen) (s s2 : SchedulerSeen) → IsKept t guests cores s → IsEmpty (pool_of guests cores s) → s2 ≡ record s { scheduler = restarted_scheduler params s.scheduler } → IsKept t guests cores s2
open_kept t params guests cores s s2 keeps empty is =
    let g = guests.granularity in
    let places : length s.scheduler.affinity ≡ length guests.domains = keeps.pool.members.places in
    let next : Scheduler = restarted_scheduler params s.scheduler in
    let a : replicate (length s.scheduler.affinity) None ≡ guests.domains = ap (λ (n : ℕ). replicate n None) places ∙ sym (all_empty guests.domains empty.domains) in
    let b : replicate (length cores.resources) None ≡ cores.resources = sym (all_empty cores.resources empty.cores) in
    let holds : Holds g t (record { scheduler = next; domains = replicate (length s.scheduler.affinity) None; resources = replicate (length cores.resources) None }) = opened g t (length s.scheduler.affinity) (core_places s.scheduler.records) (length cores.resources) params keeps.pool.some in
    subst (λ (x : SchedulerSeen). IsKept t guests cores x) (sym is) (record {
      linked = record {
        granularity = keeps.linked.granularity;
        guests_latest = keeps.linked.guests_latest;
        scheduler_latest = keeps.linked.scheduler_latest;
        early = keeps.linked.early;
        spare = keeps.linked.spare;
        works = keeps.linked.works;
      };
      pool = subst (λ (ds : List (Option Domain)). Holds g t (record { scheduler = next; domains = ds; resources = cores.resources })) a
          (subst (λ (cs : List (Option Resource)). Holds g t (record { scheduler = next; domains = replicate (length s.scheduler.affinity) None; resources = cs })) b holds);
    })

-- no domain has joined the scheduler of a pool without domains
pub is_vacant_if : (t : ℕ) (guests : GuestsSeen) (cores : CoresSeen) (s : SchedulerSeen) → IsKept t guests cores s → IsEmpty (pool_of guests cores s) → is_vacant s.scheduler ≡ true
is_vacant_if t guests cores s keeps empty = ap not (nothing_there s.scheduler.affinity (λ d. by_units (at_place s.scheduler.affinity d) (keeps.pool.members.units d ∙ ap (option_map (domain_unit_count guests.granularity)) (empty.domains d))))
  where
    by_units : (o : Option (List Cores)) → option_map length o ≡ None → o ≡ None
    by_units None e = refl
    by_units (Some sets) e = absurd (cc)

-- a change of the cores alone, with works that fit
pub cores_kept : (t0 t : ℕ) (guests : GuestsSeen) (cores after : CoresSeen) (s : SchedulerSeen) (works : List (Option Moment)) (resources : List (Option Resource)) → IsKept t0 guests cores s → t0 ≤ t → t ≤ most_span
    → after ≡ record cores { resources = resources; works = works } → AreWorks guests.granularity works (record (pool_of guests cores s) { resources = resources }) → Holds guests.granularity t (record (pool_of guests cores s) { resources = resources }) → IsKept t guests after s
cores_kept t0 t guests cores after s works resources keeps past early is are holds =
    subst (λ (x : CoresSeen). IsKept t guests x s) (sym is) (record {
      linked = record {
        granularity = keeps.linked.granularity;
        guests_latest = (let l = keeps.linked.guests_latest in omega (arith, l, past));
        scheduler_latest = (let l = keeps.linked.scheduler_latest in omega (arith, l, past));
        early = early;
        spare = keeps.linked.spare;
        works = are;
      };
      pool = holds;
    })
