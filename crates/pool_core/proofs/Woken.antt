-- A vCPU wakes, and its unit finds its place.
use Rattle.std.proofs.Common.{◌≡◌, ℕ, Bool, true, false, List, sym, ap, subst, ◌∙◌, cond}
use Rattle.std.specs.Prelude.{Option, Some, None, is_none, option_map}
use Rattle.sched_base.specs.declared.Moment.{Moment}
use Rattle.sched_base.specs.declared.VcpuId.{VcpuId}
use Rattle.sched_model.specs.declared.state.Domain.{Domain}
use Rattle.sched_model.specs.declared.state.Pool.{Pool}
use Rattle.sched_model.specs.declared.state.Vcpu.{Vcpu}
use Rattle.sched_model.specs.Pool.{after_wake, change_vcpu, is_unit_off, joined_siblings, queue_unit, vcpu_unit, woken_vcpu, vcpu_among, change_among}
use Rattle.sched_model.specs.State.{may_unit_run}
use Rattle.unit_state.specs.Seen.{is_awake_among, is_due_among}
use Rattle.unit_state.proofs.GuestLemmas.{come_among}
use Rattle.unit_state.proofs.PlaceLemmas.{vcpu_among-change_among}
use Rattle.pool_core.specs.Wakes.{done_started, joined_works, woken_works}

-- a vCPU that woke is awake
pub woken_awake : (t : ℕ) (v : VcpuId) (domains : List (Option Domain)) → is_due_among t domains v ≡ true → is_awake_among (change_among v woken_vcpu domains) v ≡ true
woken_awake t v domains due =
    let there = come_among (λ (x : Vcpu). x.asleep_until) t (vcpu_among domains v) due in
    ap (λ (o : Option Vcpu). elim o as (λ _. Bool) [ None ↦ false | Some x ↦ is_none x.asleep_until ]) (vcpu_among-change_among v woken_vcpu domains ∙ ap (option_map woken_vcpu) there.1)

module _ (g t : ℕ) (v : VcpuId) (pool : Pool) (runs : may_unit_run g (change_vcpu v woken_vcpu pool) (vcpu_unit g v) ≡ true) where
  abbrev pub next : Pool
  next = change_vcpu v woken_vcpu pool

  -- its unit has a place
  pub woke_beside : is_unit_off next (vcpu_unit g v) ≡ false → joined_siblings g t v next ≡ after_wake g t v pool
  woke_beside on =
      subst (λ (r : Bool). joined_siblings g t v next ≡ elim r as (λ _. Pool) [ false ↦ next | true ↦ cond (is_unit_off next (vcpu_unit g v)) (queue_unit (vcpu_unit g v) next) (joined_siblings g t v next) ]) (sym runs)
      (ap (λ (b : Bool). cond b (queue_unit (vcpu_unit g v) next) (joined_siblings g t v next)) (sym on))

  pub beside_works : (works : List (Option Moment)) → is_unit_off next (vcpu_unit g v) ≡ false → joined_works g v (done_started t v next.domains) pool.resources works ≡ woken_works g t v pool works
  beside_works works on =
      subst (λ (r : Bool). joined_works g v (done_started t v next.domains) pool.resources works ≡ elim r as (λ _. List (Option Moment)) [ false ↦ works | true ↦ cond (is_unit_off next (vcpu_unit g v)) works (joined_works g v (done_started t v next.domains) pool.resources works) ]) (sym runs)
      (ap (λ (b : Bool). cond b works (joined_works g v (done_started t v next.domains) pool.resources works)) (sym on))

  -- its unit was nowhere
  pub woke_alone : is_unit_off next (vcpu_unit g v) ≡ true → queue_unit (vcpu_unit g v) next ≡ after_wake g t v pool
  woke_alone off =
      subst (λ (r : Bool). queue_unit (vcpu_unit g v) next ≡ elim r as (λ _. Pool) [ false ↦ next | true ↦ cond (is_unit_off next (vcpu_unit g v)) (queue_unit (vcpu_unit g v) next) (joined_siblings g t v next) ]) (sym runs)
      (ap (λ (b : Bool). cond b (queue_unit (vcpu_unit g v) next) (joined_siblings g t v next)) (sym off))

  pub alone_works : (works : List (Option Moment)) → is_unit_off next (vcpu_unit g v) ≡ true → works ≡ woken_works g t v pool works
  alone_works works off =
      subst (λ (r : Bool). works ≡ elim r as (λ _. List (Option Moment)) [ false ↦ works | true ↦ cond (is_unit_off next (vcpu_unit g v)) works (joined_works g v (done_started t v next.domains) pool.resources works) ]) (sym runs)
      (ap (λ (b : Bool). cond b works (joined_works g v (done_started t v next.domains) pool.resources works)) (sym off))
