-- What the mark of a pool says, and what an event of a settled pool leaves to be looked at.
use Rattle.std.proofs.Common.{◌≡◌, ℕ, Bool, true, false, not, List, [], ◌∷◌, ◌++◌, refl, sym, ap, subst, ◌∙◌, cond, arith}
use Rattle.std.specs.Prelude.{Option, Some, None, is_some, unwrap_or, ◌||◌, ◌&&◌, ◌==◌, if◌then◌else◌}
use Rattle.std.specs.List.{list_any}
use Rattle.sched_base.specs.Numbers.{core}
use Rattle.sched_base.specs.declared.Moment.{Moment}
use Rattle.sched_base.specs.declared.ResId.{ResId}
use Rattle.sched_base.specs.declared.UnitId.{UnitId}
use Rattle.sched_base.specs.declared.VcpuId.{VcpuId}
use Rattle.sched_base.proofs.Bools.{and_left, and_right, or_left, or_right}
use Rattle.sched_model.specs.declared.action.Action.TheVariants.{Decide, Save, Wake}
use Rattle.sched_model.specs.declared.state.Pool.{Pool}
use Rattle.sched_model.specs.declared.state.Resource.{Resource}
use Rattle.sched_model.specs.Places.{at_place, has_listed_unit, same_unit, without_unit}
use Rattle.sched_model.specs.Pool as pools
use Rattle.sched_model.specs.Pool.{after_decide, after_in, change_core, change_vcpu, core_ask, enabled_in, event_in, is_held_back, is_unit_off, pool_core_set, queue_unit, saved_at, saved_core, vcpu_unit, woken_vcpu}
use Rattle.sched_model.specs.State.{may_unit_run}
use Rattle.sched_laws.proofs.Counts.{same_unit_refl}
use Rattle.sched_laws.proofs.Lists.{some-test_at}
use Rattle.sched_laws.specs.PoolFacts.{IsKnownPool}
use Rattle.pool_laws.specs.CoreLooks.{IsSettled}
use Rattle.settle_laws.specs.Frees.{is_decision_spared, may_free}
use Rattle.settle_laws.specs.Kept.{KeptOnce}
use Rattle.settle_laws.specs.Ready.{AreReadyBy}
use Rattle.settle_laws.specs.Wanted.{is_queued_by, reads_moment}
use Rattle.settle_laws.proofs.Decides.{decides}
use Rattle.settle_laws.proofs.Fixed.{none_wanted}
use Rattle.settle_laws.proofs.Freeing.{frees_nothing}
use Rattle.settle_laws.proofs.Moments.{settled_always}
use Rattle.settle_laws.proofs.Spared.{spared_core, spared_save, spared_wake}
use Rattle.settle_laws.proofs.Tests.{not_true}
use Rattle.policy_laws.specs.Holds.{Holds}
use Rattle.unit_state.specs.Seen.{Seen as GuestsSeen}
use Rattle.core_state.specs.Seen.{Seen as CoresSeen}
use Rattle.sched_ops.specs.Seen.{Seen as SchedulerSeen}
use Rattle.sched_ops.specs.WantedCores.{is_core_wanted}
use Rattle.pool_core.specs.declared.settling.Mark.{Mark}
use Rattle.pool_core.specs.CoreLooks.{IsNoneWanted, is_still_settled, pool_but}
use Rattle.pool_core.specs.PoolState.{IsAtRest, IsKept}
use Rattle.pool_core.specs.Wakes.{came_by_save, came_by_wake}
use Rattle.pool_core.proofs.Asking.{saved_away}

-- a pool whose mark says nothing
pub unsettled : (mark : Mark) {guests : GuestsSeen} {cores : CoresSeen} {s : SchedulerSeen} → IsKept mark.latest.0 guests cores s → IsAtRest (record mark { settled = false }) guests cores s
unsettled mark keeps = record { kept = keeps; settled = λ e. absurd (cc) }

pub unsettled_at : (t : Moment) {mark : Mark} {guests : GuestsSeen} {cores : CoresSeen} {s : SchedulerSeen} → mark ≡ record { latest = t; settled = false } → IsKept t.0 guests cores s → IsAtRest mark guests cores s
unsettled_at t {mark} {guests} {cores} {s} is keeps = subst (λ (m : Mark). IsAtRest m guests cores s) (sym is) (unsettled (record { latest = t; settled = false }) keeps)

-- a pool with the mark is settled at a moment for which that still holds
pub still_settled : (mark : Mark) (t : ℕ) (pool : Pool) → (mark.settled ≡ true → IsSettled mark.latest.0 pool) → is_still_settled mark t pool.scheduler.records ≡ true → IsSettled t pool
still_settled mark t pool before is = by_moment (mark.latest.0 == t) refl (and_right mark.settled (mark.latest.0 == t || not (reads_moment pool.scheduler.records)) is)
  where
    here : IsSettled mark.latest.0 pool
    here = before (and_left mark.settled (mark.latest.0 == t || not (reads_moment pool.scheduler.records)) is)

    by_moment : (b : Bool) → (mark.latest.0 == t) ≡ b → (b || not (reads_moment pool.scheduler.records)) ≡ true → IsSettled t pool
    by_moment true same e = (let at : mark.latest.0 ≡ t = grind (arith, same) in subst (λ (n : ℕ). IsSettled n pool) at here)
    by_moment false other e = settled_always mark.latest.0 t pool (not_true (reads_moment pool.scheduler.records) e) here

-- no core of a settled pool is wanted
pub unwanted_all : (t : ℕ) (pool : Pool) → IsSettled t pool → IsNoneWanted t pool.scheduler pool.resources
unwanted_all t pool settled r = by_place (at_place pool.resources r) refl
  where
    by_place : (o : Option Resource) → at_place pool.resources r ≡ o → is_core_wanted t (pool_core_set pool) pool.scheduler r o ≡ false
    by_place None at = refl
    by_place (Some c) at = none_wanted t pool settled r c at

-- the last of the waiting units, which waits nowhere else, taken away
without_last : (u : UnitId) (units : List UnitId) → has_listed_unit units u ≡ false → without_unit u (units ++ (u ∷ [])) ≡ units
without_last u [] none = ap (λ (b : Bool). cond (not b) (u ∷ []) []) (same_unit_refl u)
without_last u (w ∷ units) none =
    ap (λ (b : Bool). cond (not b) (w ∷ without_unit u (units ++ (u ∷ []))) (without_unit u (units ++ (u ∷ [])))) (or_left (same_unit u w) (has_listed_unit units u) none)
    ∙ ap (λ (ws : List UnitId). w ∷ ws) (without_last u units (or_right (same_unit u w) (has_listed_unit units u) none))

-- a unit that has just come to wait in a settled pool
queued_but : (t : ℕ) (u : UnitId) (pool : Pool) → has_listed_unit pool.scheduler.queue u ≡ false → IsSettled t pool → IsSettled t (pool_but (Some u) (queue_unit u pool))
queued_but t u pool none settled =
    subst (IsSettled t) (sym (ap (λ (units : List UnitId). record pool { scheduler = record pool.scheduler { queue = units } }) (without_last u pool.scheduler.queue none))) settled

-- a vCPU that wakes in a settled pool: but for its unit, where that comes to wait, the pool is settled
pub woken_but : (g t : ℕ) (pool : Pool) (v : VcpuId) → IsSettled t pool → IsSettled t (pool_but (came_by_wake g v pool) (after_in g t pool (Wake v)))
woken_but g t pool v before = by_queued (is_queued_by g v pool) refl
  where
    next : Pool
    next = change_vcpu v woken_vcpu pool

    u : UnitId
    u = vcpu_unit g v

    here : IsSettled t next
    here = ap (λ (x : Pool). record x { domains = next.domains }) before

    by_queued : (b : Bool) → is_queued_by g v pool ≡ b → IsSettled t (pool_but (if b then Some u else None) (after_in g t pool (Wake v)))
    by_queued false stays = spared_wake g t pool before v stays
    by_queued true comes =
        let off : is_unit_off next u ≡ true = and_right (may_unit_run g next u) (is_unit_off next u) comes in
        let is : after_in g t pool (Wake v) ≡ queue_unit u next =
        ap (λ (b : Bool). elim b as (λ _. Pool) [ false ↦ next | true ↦ cond (is_unit_off next u) (queue_unit u next) (pools.joined_siblings g t v next) ]) (and_left (may_unit_run g next u) (is_unit_off next u) comes)
        ∙ ap (λ (b : Bool). cond b (queue_unit u next) (pools.joined_siblings g t v next)) off in
        subst (λ (p : Pool). IsSettled t (pool_but (Some u) p)) (sym is)
        (queued_but t u next (not_true (has_listed_unit next.scheduler.queue u) (and_left (not (has_listed_unit next.scheduler.queue u)) _ off)) here)

-- a core that saves in a settled pool: but for its saved unit, where that comes to wait, the pool is settled
pub saved_but : (g t : ℕ) (pool : Pool) (r : ℕ) → Holds g t pool → enabled_in g t pool (Save (core r)) ≡ true → IsSettled t pool → IsSettled t (pool_but (came_by_save (event_in g t pool (Save (core r)))) (after_in g t pool (Save (core r))))
saved_but g t pool r holds on before =
    let found = some-test_at pool.resources r (λ c. is_some c.saving && not (list_any is_held_back c.processors) && pools.is_first_processor_up t c) on in
    by_saving found.0 found.1 found.0.saving refl
    (and_left (is_some found.0.saving) (not (list_any is_held_back found.0.processors)) (and_left (is_some found.0.saving && not (list_any is_held_back found.0.processors)) (pools.is_first_processor_up t found.0) found.2))
  where
    next : Pool
    next = change_core r saved_core pool

    here : IsSettled t next
    here = spared_core t r saved_core pool (λ x. record { cur = refl; since = refl; leaving = refl; pending = λ e. e }) before

    by_runs : (c : Resource) → at_place pool.resources r ≡ Some c → (u : UnitId) → c.saving ≡ Some u → saved_at pool r ≡ u → (b : Bool) → may_unit_run g pool (saved_at pool r) ≡ b
        → IsSettled t (pool_but (if b then Some (saved_at pool r) else None) (after_in g t pool (Save (core r))))
    by_runs c at u saving same false stays = spared_save g t pool before r stays
    by_runs c at u saving same true runs =
        let is : after_in g t pool (Save (core r)) ≡ queue_unit u next =
        ap (λ (o : Option Resource). elim o as (λ _. Pool) [ None ↦ pool | Some x ↦ elim x.saving [ None ↦ pool | Some w ↦ pools.after_save g r w pool ] ]) at
        ∙ ap (λ (o : Option UnitId). elim o as (λ _. Pool) [ None ↦ pool | Some w ↦ pools.after_save g r w pool ]) saving
        ∙ ap (λ (b : Bool). cond b (queue_unit u next) next) (subst (λ (w : UnitId). may_unit_run g pool w ≡ true) same runs) in
        subst (λ (w : UnitId). IsSettled t (pool_but (Some w) (after_in g t pool (Save (core r))))) (sym same)
        (subst (λ (p : Pool). IsSettled t (pool_but (Some u) p)) (sym is) (queued_but t u next (saved_away g t pool u r c holds at saving).waits_not here))

    by_saving : (c : Resource) → at_place pool.resources r ≡ Some c → (o : Option UnitId) → c.saving ≡ o → is_some c.saving ≡ true
        → IsSettled t (pool_but (came_by_save (event_in g t pool (Save (core r)))) (after_in g t pool (Save (core r))))
    by_saving c at None saving some = absurd (let clash : false ≡ true = sym (ap (λ (o : Option UnitId). is_some o) saving) ∙ some in cc)
    by_saving c at (Some u) saving some =
        let there : pools.saving_among pool.resources r ≡ Some u = ap (λ (o : Option Resource). elim o as (λ _. Option UnitId) [ None ↦ None | Some x ↦ x.saving ]) at ∙ saving in
        by_runs c at u saving (ap (λ (o : Option UnitId). unwrap_or o pools.no_unit) there) (may_unit_run g pool (saved_at pool r)) refl

-- a decision that frees nothing leaves a settled pool settled
pub decided_settled : (g t : ℕ) (r : ResId) (pool : Pool) → IsKnownPool g pool → AreReadyBy pool.scheduler.records pool → KeptOnce pool.scheduler.records → is_decision_spared pool.resources r.0 pool.scheduler.records ≡ true → IsSettled t pool
    → IsSettled t (after_in g t pool (Decide r))
decided_settled g t r pool known ready once is before = by_place (at_place pool.resources r.0) refl is
  where
    by_place : (o : Option Resource) → at_place pool.resources r.0 ≡ o → elim o as (λ _. Bool) [ None ↦ true | Some c ↦ not (may_free c.cur c.leaving pool.scheduler.records) ] ≡ true → IsSettled t (after_in g t pool (Decide r))
    by_place None at e = subst (λ (o : Option Resource). IsSettled t (elim o as (λ _. Pool) [ None ↦ pool | Some c ↦ after_decide g t r.0 c pool ])) (sym at) before
    by_place (Some c) at e = decides g t r.0 c pool at known ready once (frees_nothing (core_ask g t pool r.0 c) pool.scheduler (not_true (may_free c.cur c.leaving pool.scheduler.records) e)) before
