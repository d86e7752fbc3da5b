-- The least moment at which an event of a pool may come, from those of its guests, of its cores and of its timers.
use Rattle.std.proofs.Common.{◌≡◌, ◌≤◌, ◌⊎◌, ℕ, true, false, List, refl, sym, ap, subst, ◌∙◌, inl, inr, arith}
use Rattle.std.specs.Prelude.{IfNone, IfSome, Option, Some, None, nat_le, option_map}
use Rattle.std.proofs.lemmas.Bool.Decides.{nat_tests}
use Rattle.sched_base.specs.Numbers.{domain, processor, has_moment_come}
use Rattle.sched_base.specs.declared.Moment.{Moment}
use Rattle.sched_base.specs.declared.VcpuId.{VcpuId}
use Rattle.sched_model.specs.declared.action.Action.{Action}
use Rattle.sched_model.specs.declared.action.Action.TheVariants.{Stall, Xl, Moved, DomMoved, Wake, Block, Slice, Repl, Refill, Arrive, Decide, Leave, Save}
use Rattle.sched_model.specs.declared.state.Domain.{Domain}
use Rattle.sched_model.specs.declared.state.Pool.{Pool}
use Rattle.sched_model.specs.declared.state.Scheduler.{Scheduler}
use Rattle.sched_model.specs.Actions.{IsOfPool}
use Rattle.pool_laws.specs.ReadyMoments.{end_of, later_of, lowest_stall_end, ready_in, work_end}
use Rattle.pool_laws.proofs.Readiness.{ready, come_then}
use Rattle.policy_laws.specs.Holds.{AreOn}
use Rattle.sched_ops.specs.Seen.{Seen as SchedulerSeen}
use Rattle.sched_ops.specs.Timers.{Armed, timer_action, next_scheduler_timer}
use Rattle.sched_ops.specs.declared.timer.Timer.{Timer}
use Rattle.sched_ops.specs.declared.timer.Timer.TheVariants as timer
use Rattle.policy_laws.specs.TimerOrder.{armed_at}
use Rattle.policy_laws.proofs.TimerLaw as law
use Rattle.unit_state.specs.Seen.{Seen as GuestsSeen, wake_among}
use Rattle.core_state.specs.Ends.{ready_within}
use Rattle.core_state.specs.Firsts.{IsLeast, IsNotLater, earlier_of_both}
use Rattle.core_state.specs.Seen.{Seen as CoresSeen, processor_among}
use Rattle.core_state.proofs.Leasts.{both, least_earlier, late_some, least_same}
use Rattle.pool_core.specs.PoolState.{AreWorks}
use Rattle.pool_laws.specs.FirstEvents.{IsNextMoment}
use Rattle.pool_core.specs.Seen.{pool_of}
use Rattle.pool_core.proofs.Order.{timer_ready}

-- a moment that is no later than those that there are
none_later : (o : Option Moment) → o ≡ None → IsNotLater None o
none_later None is = tt
none_later (Some b) is = absurd (cc)

-- the least of the wakes
pub least_wake : (domains : List (Option Domain)) (o : Option Moment) → IfNone o ((v : VcpuId) → wake_among domains v ≡ None) → IfSome o (λ at. (v : VcpuId) × (wake_among domains v ≡ Some at))
    → IfSome o (λ at. (v : VcpuId) (other : Moment) → wake_among domains v ≡ Some other → at.0 ≤ other.0) → IsLeast (wake_among domains) o
least_wake domains None none some least = record { first = λ v. none_later (wake_among domains v) (none v); one = λ m e. absurd (cc) }
least_wake domains (Some at) none some least = record { first = λ v. late_some at (wake_among domains v) (least v); one = λ m e. (some.0, some.1 ∙ e) }

-- the least of the timers
least_armed : (s : Scheduler) (o : Option Armed) → next_scheduler_timer 0 s ≡ o → IsLeast (armed_at s) (option_map (λ (x : Armed). x.0) o)
least_armed s None is = record { first = λ x. none_later (armed_at s x) (law.none 0 s is x); one = λ m e. absurd (cc) }
least_armed s (Some x) is = record {
  first = λ other. late_some x.0 (armed_at s other) (λ at has. elim (law.least 0 s x is other at has) [ inl come ↦ omega (arith, come) | inr least ↦ least ]);
  one = λ m e. (x.1, law.armed 0 s x is ∙ e);
}

later_not_later : (a b low : Option Moment) → IsNotLater a b → IsNotLater (later_of a low) (later_of b low)
later_not_later None None low order = tt
later_not_later None (Some b) low order = absurd order
later_not_later (Some a) None None order = tt
later_not_later (Some a) None (Some low) order = tt
later_not_later (Some a) (Some b) None order = tt
later_not_later (Some a) (Some b) (Some low) order = omega (arith, order)

-- of moments of which each comes at another at the earliest
least_later : {X : Type 0} (f : X → Option Moment) (at low : Option Moment) → IsLeast f at → IsLeast (λ x. later_of (f x) low) (later_of at low)
least_later {X} f None low least = record { first = λ x. later_not_later None (f x) low (least.first x); one = λ m e. absurd (cc) }
least_later {X} f (Some at) low least = record {
  first = λ x. later_not_later (Some at) (f x) low (least.first x);
  one = λ m e. (let x = least.one at refl in (x.0, ap (λ (o : Option Moment). later_of o low) x.1 ∙ e));
}

pub least_timer : (g : ℕ) (pool : Pool) → AreOn pool → (o : Option Armed) → next_scheduler_timer 0 pool.scheduler ≡ o
    → IsLeast (λ (x : Timer). ready_in g pool (timer_action x)) (later_of (option_map (λ (x : Armed). x.0) o) (lowest_stall_end pool))
least_timer g pool on o is = least_same (λ (x : Timer). later_of (armed_at pool.scheduler x) (lowest_stall_end pool)) (λ (x : Timer). ready_in g pool (timer_action x)) _
    (λ x. (x, timer_ready g pool on x)) (λ x. inr (x, sym (timer_ready g pool on x)))
    (least_later (armed_at pool.scheduler) (option_map (λ (x : Armed). x.0) o) (lowest_stall_end pool) (least_armed pool.scheduler o is))

-- from when on an event may come that is one of the pool
abbrev ready_here : ℕ → Pool → Action → Option Moment
ready_here g pool (Moved r) = None
ready_here g pool (DomMoved d) = None
ready_here g pool action = ready_in g pool action

here : (g : ℕ) (pool : Pool) (a : Action) → IsOfPool a → ready_here g pool a ≡ ready_in g pool a
here g pool (Moved r) of = absurd of
here g pool (DomMoved d) of = absurd of
here g pool a of = refl

of_pool : (g : ℕ) (pool : Pool) (a : Action) (at : Moment) → ready_here g pool a ≡ Some at → IsOfPool a
of_pool g pool Stall at is = absurd (cc)
of_pool g pool Xl at is = absurd (cc)
of_pool g pool (Moved r) at is = absurd (cc)
of_pool g pool (DomMoved d) at is = absurd (cc)
of_pool g pool a at is = tt

not_before : (at : Moment) (t : ℕ) (o : Option Moment) → IsNotLater (Some at) o → has_moment_come t o ≡ true → at.0 ≤ t
not_before at t None order come = absurd (cc)
not_before at t (Some b) order come = let e : nat_le b.0 t ≡ true = come in grind (arith, nat_tests, order, e)

never_come : (t : ℕ) (o : Option Moment) → IsNotLater None o → has_moment_come t o ≡ false
never_come t None order = refl
never_come t (Some b) order = absurd order

-- the least of these moments is the next one of the pool
next_of : (g : ℕ) (pool : Pool) (next : Option Moment) → IsLeast (ready_here g pool) next → IsNextMoment g pool next
next_of g pool next least = record {
  some = λ at is.
      (let a = least.one at is in
      let of = of_pool g pool a.0 at a.1 in
      (a.0, of, ready g at.0 pool a.0 ∙ ap (has_moment_come at.0) (sym (here g pool a.0 of) ∙ a.1) ∙ come_then at));
  least = λ at is t a of may. not_before at t (ready_here g pool a) (subst (λ (o : Option Moment). IsNotLater o (ready_here g pool a)) is (least.first a)) (ap (has_moment_come t) (here g pool a of) ∙ sym (ready g t pool a) ∙ may);
  none = λ is t a of. ready g t pool a ∙ ap (has_moment_come t) (sym (here g pool a of)) ∙ never_come t (ready_here g pool a) (subst (λ (o : Option Moment). IsNotLater o (ready_here g pool a)) is (least.first a));
}

-- from when on the event of a timer may come
abbrev timed : ℕ → Pool → Timer → Option Moment
timed g pool x = ready_in g pool (timer_action x)

-- the next moment of the pool of these guests, these cores and this scheduler
pub next_is : (guests : GuestsSeen) (cores : CoresSeen) (s : SchedulerSeen) (wake core timers of_cores next : Option Moment) → cores.granularity ≡ guests.granularity → AreWorks guests.granularity cores.works (pool_of guests cores s)
    → IsLeast (wake_among guests.domains) wake → IsLeast (ready_within cores) core → IsLeast (λ (x : Timer). ready_in cores.granularity (pool_of guests cores s) (timer_action x)) timers
    → of_cores ≡ earlier_of_both core timers → next ≡ earlier_of_both wake of_cores → IsNextMoment guests.granularity (pool_of guests cores s) next
next_is guests cores s wake core timers of_cores next same works of_wake of_core of_timer is_cores is =
    subst (λ (g : ℕ). IsNextMoment g (pool_of guests cores s) next) same (next_of cores.granularity (pool_of guests cores s) next
    (least_same (both (wake_among guests.domains) (both (ready_within cores) (timed cores.granularity (pool_of guests cores s)))) (ready_here cores.granularity (pool_of guests cores s)) next among from
    (least_earlier (wake_among guests.domains) (both (ready_within cores) (timed cores.granularity (pool_of guests cores s))) wake of_cores next is of_wake
    (least_earlier (ready_within cores) (timed cores.granularity (pool_of guests cores s)) core timers of_cores is_cores of_core of_timer))))
  where
    block : (p : ℕ) → ready_within cores (Block (processor p)) ≡ ready_here cores.granularity (pool_of guests cores s) (Block (processor p))
    block p = ap (λ (o : Option Moment). later_of o (end_of (processor_among cores.granularity cores.resources p))) (works p) ∙ ap (λ (k : ℕ). later_of (work_end k (pool_of guests cores s) p) (end_of (processor_among cores.granularity cores.resources p))) (sym same)

    of_core_event : (a : Action) → (b : Action) × (ready_here cores.granularity (pool_of guests cores s) b ≡ ready_within cores a)
    of_core_event (Block p) = (Block p, sym (block p.0))
    of_core_event (Slice r) = (Slice r, refl)
    of_core_event (Arrive p) = (Arrive p, refl)
    of_core_event (Decide r) = (Decide r, refl)
    of_core_event (Leave p) = (Leave p, refl)
    of_core_event (Save r) = (Save r, refl)
    of_core_event a = (Stall, refl)

    among : (x : VcpuId ⊎ (Action ⊎ Timer)) → (a : Action) × (ready_here cores.granularity (pool_of guests cores s) a ≡ both (wake_among guests.domains) (both (ready_within cores) (timed cores.granularity (pool_of guests cores s))) x)
    among (inl v) = (Wake v, refl)
    among (inr (inl a)) = of_core_event a
    among (inr (inr (timer.Repl u))) = (Repl u, refl)
    among (inr (inr (timer.Refill d))) = (Refill d, refl)

    from : (a : Action) → (ready_here cores.granularity (pool_of guests cores s) a ≡ None) ⊎ ((x : VcpuId ⊎ (Action ⊎ Timer)) × (both (wake_among guests.domains) (both (ready_within cores) (timed cores.granularity (pool_of guests cores s))) x ≡ ready_here cores.granularity (pool_of guests cores s) a))
    from (Wake v) = inr (inl v, refl)
    from (Block p) = inr (inr (inl (Block p)), block p.0)
    from (Slice r) = inr (inr (inl (Slice r)), refl)
    from (Repl u) = inr (inr (inr (timer.Repl u)), refl)
    from (Refill d) = inr (inr (inr (timer.Refill (domain d.0))), refl)
    from (Arrive p) = inr (inr (inl (Arrive p)), refl)
    from (Decide r) = inr (inr (inl (Decide r)), refl)
    from (Leave p) = inr (inr (inl (Leave p)), refl)
    from (Save r) = inr (inr (inl (Save r)), refl)
    from a = inl refl
