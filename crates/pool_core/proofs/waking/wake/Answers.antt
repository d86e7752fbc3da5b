use Rattle.std.proofs.Common.{◌≡◌, ℕ, Bool, true, false, not, sym, ap, subst, ◌∙◌}
use Rattle.std.specs.Prelude.{Some, None, ◌||◌, ◌&&◌, if◌then◌else◌}
use Rattle.sched_base.specs.declared.UnitId.{UnitId}
use Rattle.sched_model.specs.declared.state.Pool.{Pool}
use Rattle.sched_model.specs.Pool.{change_vcpu, is_unit_off, joined_siblings, queue_unit, vcpu_unit, woken_vcpu}
use Rattle.sched_model.specs.State.{may_unit_run, runnable_among}
use Rattle.sched_base.proofs.Bools.{or_left, or_right}
use Rattle.sched_ops.specs.Seen.{Seen as SchedulerSeen}
use Rattle.unit_state.specs.Seen.{Seen as GuestsSeen, is_awake_among}
use Rattle.pool_core.specs.Seen.{pool_of}
use Rattle.pool_core.specs.Wakes.{done_started, is_held_among, joined_works}
use Rattle.pool_core.proofs.Asking.{off_by, woken_away}
use Rattle.pool_core.proofs.Woken.{alone_works, beside_works, woke_alone, woke_beside, woken_awake}
use Rattle.pool_core.proofs.waking.wake.Goals as goal

pub join_siblings-requires-clause-awake : goal.join_siblings-requires-clause-awake
join_siblings-requires-clause-awake g c =
    subst (λ (x : GuestsSeen). is_awake_among x.domains c.args.v ≡ true) (sym c.wake.ensures) (woken_awake c.args.t.0 c.args.v c.args.guests.now.domains c.requires.due)

pub enqueue-requires : goal.enqueue-requires
enqueue-requires g c =
    let k = c.args.guests.now.granularity in
    let pool : Pool = pool_of c.args.guests.now c.args.cores.now (g.P.Policy.seen c.args.policy.now) in
    let u : UnitId = c.unit_of-u.result in
    let had : (may_unit_run k pool u || is_held_among pool.resources u) ≡ false = sym c.has_place-had_place.ensures ∙ c.if-had_place.false in
    let runs : may_unit_run k (change_vcpu c.args.v woken_vcpu pool) u ≡ true = ap (λ (x : GuestsSeen). runnable_among x.granularity x.domains u) (sym c.wake.ensures) ∙ sym c.if-not-runnable.ensures in
    record { away = woken_away k c.args.t.0 pool c.args.v woken_vcpu u c.requires.holds (or_left (may_unit_run k pool u) (is_held_among pool.resources u) had) (or_right (may_unit_run k pool u) (is_held_among pool.resources u) had) runs }

pub returns-then-had_place-clause-pool : goal.returns-then-had_place-clause-pool
returns-then-had_place-clause-pool g c =
    let k = c.args.guests.now.granularity in
    let s = g.P.Policy.seen c.args.policy.now in
    let pool : Pool = pool_of c.args.guests.now c.args.cores.now s in
    let unit : c.unit_of-u.result ≡ vcpu_unit k c.args.v = c.unit_of-u.ensures ∙ ap (λ (i : ℕ). vcpu_unit i c.args.v) c.granularity.ensures in
    let runs : may_unit_run k (change_vcpu c.args.v woken_vcpu pool) (vcpu_unit k c.args.v) ≡ true = subst (λ (u : UnitId). may_unit_run k (change_vcpu c.args.v woken_vcpu pool) u ≡ true) unit (ap (λ (x : GuestsSeen). runnable_among x.granularity x.domains c.unit_of-u.result) (sym c.wake.ensures) ∙ sym c.if-not-runnable.ensures) in
    let on : is_unit_off pool (vcpu_unit k c.args.v) ≡ false = subst (λ (u : UnitId). is_unit_off pool u ≡ false) unit (off_by k pool c.unit_of-u.result c.requires.holds.known.one ∙ ap not (sym c.has_place-had_place.ensures ∙ c.if-had_place.true)) in
    c.join_siblings.ensures.pool s ∙ ap (λ (x : GuestsSeen). joined_siblings x.granularity c.args.t.0 c.args.v (pool_of x c.args.cores.now s)) c.wake.ensures ∙ woke_beside k c.args.t.0 c.args.v pool runs on

pub returns-then-had_place-clause-works : goal.returns-then-had_place-clause-works
returns-then-had_place-clause-works g c =
    let k = c.args.guests.now.granularity in
    let s = g.P.Policy.seen c.args.policy.now in
    let pool : Pool = pool_of c.args.guests.now c.args.cores.now s in
    let unit : c.unit_of-u.result ≡ vcpu_unit k c.args.v = c.unit_of-u.ensures ∙ ap (λ (i : ℕ). vcpu_unit i c.args.v) c.granularity.ensures in
    let runs : may_unit_run k (change_vcpu c.args.v woken_vcpu pool) (vcpu_unit k c.args.v) ≡ true = subst (λ (u : UnitId). may_unit_run k (change_vcpu c.args.v woken_vcpu pool) u ≡ true) unit (ap (λ (x : GuestsSeen). runnable_among x.granularity x.domains c.unit_of-u.result) (sym c.wake.ensures) ∙ sym c.if-not-runnable.ensures) in
    let on : is_unit_off pool (vcpu_unit k c.args.v) ≡ false = subst (λ (u : UnitId). is_unit_off pool u ≡ false) unit (off_by k pool c.unit_of-u.result c.requires.holds.known.one ∙ ap not (sym c.has_place-had_place.ensures ∙ c.if-had_place.true)) in
    c.join_siblings.ensures.works
    ∙ ap (λ (x : GuestsSeen). joined_works x.granularity c.args.v (done_started c.args.t.0 c.args.v x.domains) c.args.cores.now.resources c.args.cores.now.works) c.wake.ensures
    ∙ beside_works k c.args.t.0 c.args.v pool runs c.args.cores.now.works on

pub returns-else-had_place-clause-pool : goal.returns-else-had_place-clause-pool
returns-else-had_place-clause-pool g c =
    let k = c.args.guests.now.granularity in
    let s = g.P.Policy.seen c.args.policy.now in
    let pool : Pool = pool_of c.args.guests.now c.args.cores.now s in
    let unit : c.unit_of-u.result ≡ vcpu_unit k c.args.v = c.unit_of-u.ensures ∙ ap (λ (i : ℕ). vcpu_unit i c.args.v) c.granularity.ensures in
    let runs : may_unit_run k (change_vcpu c.args.v woken_vcpu pool) (vcpu_unit k c.args.v) ≡ true = subst (λ (u : UnitId). may_unit_run k (change_vcpu c.args.v woken_vcpu pool) u ≡ true) unit (ap (λ (x : GuestsSeen). runnable_among x.granularity x.domains c.unit_of-u.result) (sym c.wake.ensures) ∙ sym c.if-not-runnable.ensures) in
    let off : is_unit_off pool (vcpu_unit k c.args.v) ≡ true = subst (λ (u : UnitId). is_unit_off pool u ≡ true) unit (off_by k pool c.unit_of-u.result c.requires.holds.known.one ∙ ap not (sym c.has_place-had_place.ensures ∙ c.if-had_place.false)) in
    ap (λ (x : SchedulerSeen). pool_of c.wake.new.self c.args.cores.now x) c.enqueue.ensures
    ∙ ap (λ (x : GuestsSeen). queue_unit c.unit_of-u.result (pool_of x c.args.cores.now s)) c.wake.ensures
    ∙ ap (λ (u : UnitId). queue_unit u (change_vcpu c.args.v woken_vcpu pool)) unit
    ∙ woke_alone k c.args.t.0 c.args.v pool runs off

pub returns-else-had_place-clause-works : goal.returns-else-had_place-clause-works
returns-else-had_place-clause-works g c =
    let k = c.args.guests.now.granularity in
    let s = g.P.Policy.seen c.args.policy.now in
    let pool : Pool = pool_of c.args.guests.now c.args.cores.now s in
    let unit : c.unit_of-u.result ≡ vcpu_unit k c.args.v = c.unit_of-u.ensures ∙ ap (λ (i : ℕ). vcpu_unit i c.args.v) c.granularity.ensures in
    let runs : may_unit_run k (change_vcpu c.args.v woken_vcpu pool) (vcpu_unit k c.args.v) ≡ true = subst (λ (u : UnitId). may_unit_run k (change_vcpu c.args.v woken_vcpu pool) u ≡ true) unit (ap (λ (x : GuestsSeen). runnable_among x.granularity x.domains c.unit_of-u.result) (sym c.wake.ensures) ∙ sym c.if-not-runnable.ensures) in
    let off : is_unit_off pool (vcpu_unit k c.args.v) ≡ true = subst (λ (u : UnitId). is_unit_off pool u ≡ true) unit (off_by k pool c.unit_of-u.result c.requires.holds.known.one ∙ ap not (sym c.has_place-had_place.ensures ∙ c.if-had_place.false)) in
    alone_works k c.args.t.0 c.args.v pool runs c.args.cores.now.works off

pub returns-then-had_place-clause-came : goal.returns-then-had_place-clause-came
returns-then-had_place-clause-came g c =
    let k = c.args.guests.now.granularity in
    let s = g.P.Policy.seen c.args.policy.now in
    let pool : Pool = pool_of c.args.guests.now c.args.cores.now s in
    let unit : c.unit_of-u.result ≡ vcpu_unit k c.args.v = c.unit_of-u.ensures ∙ ap (λ (i : ℕ). vcpu_unit i c.args.v) c.granularity.ensures in
    let runs : may_unit_run k (change_vcpu c.args.v woken_vcpu pool) (vcpu_unit k c.args.v) ≡ true = subst (λ (u : UnitId). may_unit_run k (change_vcpu c.args.v woken_vcpu pool) u ≡ true) unit (ap (λ (x : GuestsSeen). runnable_among x.granularity x.domains c.unit_of-u.result) (sym c.wake.ensures) ∙ sym c.if-not-runnable.ensures) in
    let on : is_unit_off pool (vcpu_unit k c.args.v) ≡ false = subst (λ (u : UnitId). is_unit_off pool u ≡ false) unit (off_by k pool c.unit_of-u.result c.requires.holds.known.one ∙ ap not (sym c.has_place-had_place.ensures ∙ c.if-had_place.true)) in
    ap (λ (b : Bool). if b then Some (vcpu_unit k c.args.v) else None) (sym (ap (λ (b : Bool). b && is_unit_off pool (vcpu_unit k c.args.v)) runs ∙ on))

pub returns-else-had_place-clause-came : goal.returns-else-had_place-clause-came
returns-else-had_place-clause-came g c =
    let k = c.args.guests.now.granularity in
    let s = g.P.Policy.seen c.args.policy.now in
    let pool : Pool = pool_of c.args.guests.now c.args.cores.now s in
    let unit : c.unit_of-u.result ≡ vcpu_unit k c.args.v = c.unit_of-u.ensures ∙ ap (λ (i : ℕ). vcpu_unit i c.args.v) c.granularity.ensures in
    let runs : may_unit_run k (change_vcpu c.args.v woken_vcpu pool) (vcpu_unit k c.args.v) ≡ true = subst (λ (u : UnitId). may_unit_run k (change_vcpu c.args.v woken_vcpu pool) u ≡ true) unit (ap (λ (x : GuestsSeen). runnable_among x.granularity x.domains c.unit_of-u.result) (sym c.wake.ensures) ∙ sym c.if-not-runnable.ensures) in
    let off : is_unit_off pool (vcpu_unit k c.args.v) ≡ true = subst (λ (u : UnitId). is_unit_off pool u ≡ true) unit (off_by k pool c.unit_of-u.result c.requires.holds.known.one ∙ ap not (sym c.has_place-had_place.ensures ∙ c.if-had_place.false)) in
    ap Some unit ∙ ap (λ (b : Bool). if b then Some (vcpu_unit k c.args.v) else None) (sym (ap (λ (b : Bool). b && is_unit_off pool (vcpu_unit k c.args.v)) runs ∙ off))
