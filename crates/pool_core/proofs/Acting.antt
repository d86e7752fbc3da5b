-- What a pool's state keeps after an event, and after its cores were looked at.
use Rattle.sched_base.specs.Numbers.{processor, has_moment_come}
use Rattle.std.proofs.Common.{◌≡◌, ◌≤◌, ℕ, Bool, true, false, List, refl, sym, ap, subst, ◌∙◌, arith}
use Rattle.std.specs.Prelude.{Option, Some, None}
use Rattle.sched_base.specs.declared.Moment.{Moment}
use Rattle.sched_base.specs.declared.VcpuId.{VcpuId}
use Rattle.sched_model.specs.declared.action.Action.{Action}
use Rattle.sched_model.specs.declared.action.Action.TheVariants.{Block, Wake}
use Rattle.sched_model.specs.declared.event.Event.{Event}
use Rattle.sched_model.specs.declared.state.Pool.{Pool}
use Rattle.sched_model.specs.declared.state.Resource.{Resource}
use Rattle.sched_model.specs.declared.state.Vcpu.{Vcpu}
use Rattle.sched_model.specs.CheckedMachine.{most_span}
use Rattle.sched_model.specs.Places.{change_each}
use Rattle.sched_model.specs.declared.state.Doing.TheVariants.{Held}
use Rattle.sched_model.specs.Pool.{after_arrive, after_block, after_in, change_processor, change_vcpu, with_doing, stopped_vcpu, cores_from, done_moment, enabled_in, event_in, running_guest, reconsidered_core, settled_pool, pool_vcpu, vcpu_among}
use Rattle.sched_base.proofs.Bools.{and_left}
use Rattle.sched_laws.proofs.EachPlace.{by_cond, vcpu_is}
use Rattle.sched_laws.proofs.Lists.{has_come-le}
use Rattle.pool_laws.specs.CoreLooks.{IsSettled}
use Rattle.policy_laws.specs.Holds.{Holds}
use Rattle.policy_laws.proofs.Kept as kept
use Rattle.unit_state.specs.Guests.{KeepsGuests}
use Rattle.unit_state.specs.Seen.{Seen as GuestsSeen, done_among, is_due_among}
use Rattle.core_state.specs.Seen.{Seen as CoresSeen}
use Rattle.sched_ops.specs.Seen.{Seen as SchedulerSeen}
use Rattle.pool_core.specs.declared.events.Outcome.{Outcome}
use Rattle.pool_core.specs.CoreLooks.{pool_but}
use Rattle.pool_core.specs.Events.{HasActed, MayAct}
use Rattle.pool_core.specs.ProcessorEvents.{IsMoved}
use Rattle.pool_core.specs.PoolState.{AreWorks, IsKept}
use Rattle.pool_core.specs.Seen.{Seen, seen_after, pool_of}
use Rattle.pool_core.proofs.Works.{works_each}

-- a core that is looked at keeps its processors
looked_same : (t home : ℕ) (s : SchedulerSeen) (r : ℕ) (c : Resource) → (reconsidered_core t home s.scheduler r c).processors ≡ c.processors
looked_same t home s r c = by_cond (λ (x : Resource). x.processors ≡ c.processors) c.leaving _ _ (λ is. refl) (λ is. refl)

-- after the cores were looked at
pub settled_kept : (t : ℕ) (guests : GuestsSeen) (cores after : CoresSeen) (s : SchedulerSeen) → IsKept t guests cores s
    → after ≡ record cores { resources = change_each 0 (reconsidered_core t (cores_from 0 cores.resources) s.scheduler) cores.resources } → IsKept t guests after s
settled_kept t guests cores after s keeps is =
    subst (λ (x : CoresSeen). IsKept t guests x s) (sym is) (record {
      linked = record {
        granularity = keeps.linked.granularity;
        guests_latest = keeps.linked.guests_latest;
        scheduler_latest = keeps.linked.scheduler_latest;
        early = keeps.linked.early;
        spare = keeps.linked.spare;
        works = works_each guests.granularity (reconsidered_core t (cores_from 0 cores.resources) s.scheduler) cores.works (pool_of guests cores s) (looked_same t (cores_from 0 cores.resources) s) keeps.linked.works;
      };
      pool = kept.settles guests.granularity t (pool_of guests cores s) keeps.pool;
    })

-- at a later moment
pub kept_later : (t0 t : ℕ) (guests : GuestsSeen) (cores : CoresSeen) (s : SchedulerSeen) → t0 ≤ t → t ≤ most_span → IsKept t0 guests cores s → IsKept t guests cores s
kept_later t0 t guests cores s past early keeps = record {
  linked = record {
    granularity = keeps.linked.granularity;
    guests_latest = (let l = keeps.linked.guests_latest in omega (arith, l, past));
    scheduler_latest = (let l = keeps.linked.scheduler_latest in omega (arith, l, past));
    early = early;
    spare = keeps.linked.spare;
    works = keeps.linked.works;
  };
  pool = kept.later guests.granularity t0 t (pool_of guests cores s) past keeps.pool;
}

-- after an event at t
pub acted : (t : ℕ) (guests next : GuestsSeen) (cores after : CoresSeen) (s s2 : SchedulerSeen) (action : Action) (works : List (Option Moment)) (written : Event) (outcome : Outcome)
    → MayAct t action guests cores s → written ≡ event_in guests.granularity t (pool_of guests cores s) action
    → pool_of next after s2 ≡ after_in guests.granularity t (pool_of guests cores s) action
    → IsMoved t guests next cores after → s2.latest ≤ t → s2.spare ≡ s.spare → after.works ≡ works
    → AreWorks guests.granularity works (after_in guests.granularity t (pool_of guests cores s) action)
    → (outcome.spares ≡ true → IsSettled t (pool_of guests cores s) → IsSettled t (pool_but outcome.came (after_in guests.granularity t (pool_of guests cores s) action)))
    → HasActed t action guests next cores after s s2 written outcome
acted t guests next cores after s s2 action works written outcome may event pool moved latest spare is are settled = record {
  event = event;
  pool = pool;
  kept = record {
    linked = record {
      granularity = moved.processors ∙ may.kept.linked.granularity ∙ sym moved.granularity;
      guests_latest = moved.latest;
      scheduler_latest = latest;
      early = may.kept.linked.early;
      spare = (let a = moved.spare in let b = may.kept.linked.spare in omega (arith, a, b, spare));
      works = subst (λ (g : ℕ). AreWorks g after.works (pool_of next after s2)) (sym moved.granularity)
          (subst (λ (p : Pool). AreWorks guests.granularity after.works p) (sym pool) (subst (λ (ws : List (Option Moment)). AreWorks guests.granularity ws (after_in guests.granularity t (pool_of guests cores s) action)) (sym is) are));
    };
    pool = subst (λ (g : ℕ). Holds g t (pool_of next after s2)) (sym moved.granularity)
        (subst (λ (p : Pool). Holds guests.granularity t p) (sym pool) (kept.acts guests.granularity t (pool_of guests cores s) action may.enabled may.kept.pool));
  };
  granularity = moved.granularity;
  spare = moved.spare;
  settled = λ spares before. subst (λ (p : Pool). IsSettled t (pool_but outcome.came p)) (sym pool) (settled spares before);
}

-- the guests as they are, and cores with as many processors
pub unmoved : (t : ℕ) (guests : GuestsSeen) (cores after : CoresSeen) (s : SchedulerSeen) → IsKept t guests cores s → after.granularity ≡ cores.granularity → IsMoved t guests guests cores after
unmoved t guests cores after s keeps same = record { granularity = refl; spare = refl; latest = keeps.linked.guests_latest; processors = same }

-- a vCPU that may block has done its work
pub block_done : (g t p : ℕ) (v : VcpuId) (pool : Pool) → enabled_in g t pool (Block (processor p)) ≡ true → running_guest g pool p ≡ Some v → has_moment_come t (done_among pool.domains v) ≡ true
block_done g t p v pool on guest =
    by_vcpu (pool_vcpu pool v)
    (subst (λ (o : Option VcpuId). elim o as (λ _. Bool) [ None ↦ false | Some w ↦ elim (pool_vcpu pool w) as (λ _. Bool) [ None ↦ false | Some x ↦ has_moment_come t (done_moment x) ] ] ≡ true) guest
    (and_left (elim (running_guest g pool p) as (λ _. Bool) [ None ↦ false | Some w ↦ elim (pool_vcpu pool w) as (λ _. Bool) [ None ↦ false | Some x ↦ has_moment_come t (done_moment x) ] ]) _ on))
  where
    by_vcpu : (o : Option Vcpu) → elim o as (λ _. Bool) [ None ↦ false | Some x ↦ has_moment_come t (done_moment x) ] ≡ true → has_moment_come t (elim o as (λ _. Option Moment) [ None ↦ None | Some x ↦ done_moment x ]) ≡ true
    by_vcpu None e = absurd (cc)
    by_vcpu (Some x) e = e

-- a processor that runs none may not block
pub idle_blocks_not : (g t p : ℕ) (pool : Pool) → enabled_in g t pool (Block (processor p)) ≡ true → running_guest g pool p ≡ None → ⊥
idle_blocks_not g t p pool on none =
    let both = and_left (elim (running_guest g pool p) as (λ _. Bool) [ None ↦ false | Some w ↦ elim (pool_vcpu pool w) as (λ _. Bool) [ None ↦ false | Some x ↦ has_moment_come t (done_moment x) ] ]) _ on in
    let clash : false ≡ true = subst (λ (o : Option VcpuId). elim o as (λ _. Bool) [ None ↦ false | Some w ↦ elim (pool_vcpu pool w) as (λ _. Bool) [ None ↦ false | Some x ↦ has_moment_come t (done_moment x) ] ] ≡ true) none both in
    absurd (cc)

-- a vCPU that may wake sleeps, and its wake moment has come
pub wake_due : (g t : ℕ) (v : VcpuId) (pool : Pool) → enabled_in g t pool (Wake v) ≡ true → is_due_among t pool.domains v ≡ true
wake_due g t v pool on = by_vcpu (pool_vcpu pool v) on
  where
    by_vcpu : (o : Option Vcpu) → elim o as (λ _. Bool) [ None ↦ false | Some x ↦ has_moment_come t x.asleep_until ] ≡ true → has_moment_come t (elim o as (λ _. Option Moment) [ None ↦ None | Some x ↦ x.asleep_until ]) ≡ true
    by_vcpu None e = absurd (cc)
    by_vcpu (Some x) e = e

-- it is not started
pub wake_still : (t : ℕ) (v : VcpuId) (guests : GuestsSeen) → KeepsGuests guests → is_due_among t guests.domains v ≡ true → (x : Vcpu) → vcpu_among guests.domains v ≡ Some x → x.started ≡ None
wake_still t v guests keeps due x there =
    let at = vcpu_is guests.domains v x there in
    let sleeps : has_moment_come t x.asleep_until ≡ true = subst (λ (o : Option Vcpu). has_moment_come t (elim o as (λ _. Option Moment) [ None ↦ None | Some y ↦ y.asleep_until ]) ≡ true) there due in
    let until = has_come-le t x.asleep_until sleeps in
    ((keeps.guests v.dom.0 at.0 at.1).vcpus v.n x at.2).still until.0 until.1

-- the event of a processor that runs the vCPU
pub block_happens : (g t p : ℕ) (v : VcpuId) (pool : Pool) → running_guest g pool p ≡ Some v → after_block g t p v pool ≡ after_in g t pool (Block (processor p))
block_happens g t p v pool guest = ap (λ (o : Option VcpuId). elim o as (λ _. Pool) [ None ↦ pool | Some w ↦ after_block g t p w pool ]) (sym guest)

-- what is seen after an event and after the cores were looked at
pub happened_is : (t latest : ℕ) (guests next : GuestsSeen) (cores after : CoresSeen) (s s2 : SchedulerSeen) (was : ℕ) (used : Bool) (action : Action) (written : Event) (outcome : Outcome) (before : Seen)
    → HasActed t action guests next cores after s s2 written outcome → latest ≡ t
    → ◌≡◌ {A = Seen} (record { pool = pool_of guests cores s; granularity = guests.granularity; spare = guests.spare; latest = was; in_use = used }) before
    → ◌≡◌ {A = Seen} (record { pool = settled_pool latest (pool_of next after s2); granularity = next.granularity; spare = next.spare; latest = latest; in_use = used }) (seen_after t action before)
happened_is t latest guests next cores after s s2 was used action written outcome before has now is =
    ap (λ (n : ℕ). made n (pool_of next after s2) next.granularity next.spare) now
    ∙ ap (λ (p : Pool). made t p next.granularity next.spare) has.pool
    ∙ ap (λ (k : ℕ). made t (after_in guests.granularity t (pool_of guests cores s) action) k next.spare) has.granularity
    ∙ ap (made t (after_in guests.granularity t (pool_of guests cores s) action) guests.granularity) has.spare
    ∙ ap (λ (x : Seen). seen_after t action x) is
  where
    made : ℕ → Pool → ℕ → ℕ → Seen
    made n p g spare = record { pool = settled_pool n p; granularity = g; spare = spare; latest = n; in_use = used }

-- a processor that arrives, where it ran nothing and where it ran a vCPU
pub arrived_alone : (g t p : ℕ) (pool : Pool) → running_guest g pool p ≡ None → change_processor g p (with_doing Held) pool ≡ after_arrive g t p pool
arrived_alone g t p pool guest = ap (λ (o : Option VcpuId). change_processor g p (with_doing Held) (elim o as (λ _. Pool) [ None ↦ pool | Some w ↦ change_vcpu w (stopped_vcpu t) pool ])) (sym guest)

pub arrived_with : (g t p : ℕ) (v : VcpuId) (pool : Pool) → running_guest g pool p ≡ Some v → change_processor g p (with_doing Held) (change_vcpu v (stopped_vcpu t) pool) ≡ after_arrive g t p pool
arrived_with g t p v pool guest = ap (λ (o : Option VcpuId). change_processor g p (with_doing Held) (elim o as (λ _. Pool) [ None ↦ pool | Some w ↦ change_vcpu w (stopped_vcpu t) pool ])) (sym guest)
