-- A wake and a save that put a unit behind those that wait.
use Rattle.std.proofs.Common.{◌≡◌, ℕ, Bool, true, false, refl, sym, ap, subst, ◌∙◌, cond}
use Rattle.std.specs.Prelude.{Option, Some, None}
use Rattle.sched_base.specs.Numbers.{core}
use Rattle.sched_base.specs.declared.UnitId.{UnitId}
use Rattle.sched_base.specs.declared.VcpuId.{VcpuId}
use Rattle.sched_base.proofs.Bools.{and_left, and_right}
use Rattle.sched_model.specs.declared.action.Action.TheVariants.{Save, Wake}
use Rattle.sched_model.specs.declared.state.Pool.{Pool}
use Rattle.sched_model.specs.declared.state.Resource.{Resource}
use Rattle.sched_model.specs.State.{may_unit_run}
use Rattle.sched_model.specs.Places.{at_place}
use Rattle.sched_model.specs.Pool as pools
use Rattle.sched_model.specs.Pool.{after_in, change_core, change_vcpu, is_unit_off, queue_unit, saved_core, settled_pool, vcpu_unit, woken_vcpu}
use Rattle.pool_laws.specs.CoreLooks.{IsSettled}
use Rattle.settle_laws.specs.Wanted.{is_queued_by, settled_for}
use Rattle.settle_laws.proofs.Spared.{spared_core}
use Rattle.settle_laws.proofs.Comes.{settled_alone}

module _ (g t : ℕ) (pool : Pool) (settled : IsSettled t pool) where
  pub woken : (v : VcpuId) → is_queued_by g v pool ≡ true → settled_pool t (after_in g t pool (Wake v)) ≡ settled_for t (vcpu_unit g v) (after_in g t pool (Wake v))
  woken v queues =
      subst (λ (p : Pool). settled_pool t p ≡ settled_for t u p) (sym is) (settled_alone t u next (ap (λ (x : Pool). record x { domains = next.domains }) settled))
    where
      next : Pool
      next = change_vcpu v woken_vcpu pool

      u : UnitId
      u = vcpu_unit g v

      is : after_in g t pool (Wake v) ≡ queue_unit u next
      is =
          ap (λ (b : Bool). elim b as (λ _. Pool) [ false ↦ next | true ↦ cond (is_unit_off next u) (queue_unit u next) (pools.joined_siblings g t v next) ]) (and_left (may_unit_run g next u) (is_unit_off next u) queues)
          ∙ ap (λ (b : Bool). cond b (queue_unit u next) (pools.joined_siblings g t v next)) (and_right (may_unit_run g next u) (is_unit_off next u) queues)

  pub saved : (r : ℕ) (c : Resource) (u : UnitId) → at_place pool.resources r ≡ Some c → c.saving ≡ Some u → may_unit_run g pool u ≡ true → settled_pool t (after_in g t pool (Save (core r))) ≡ settled_for t u (after_in g t pool (Save (core r)))
  saved r c u at saving runs =
      subst (λ (p : Pool). settled_pool t p ≡ settled_for t u p) (sym is) (settled_alone t u next (spared_core t r saved_core pool (λ x. record { cur = refl; since = refl; leaving = refl; pending = λ e. e }) settled))
    where
      next : Pool
      next = change_core r saved_core pool

      is : after_in g t pool (Save (core r)) ≡ queue_unit u next
      is =
          ap (λ (o : Option Resource). elim o as (λ _. Pool) [ None ↦ pool | Some x ↦ elim x.saving [ None ↦ pool | Some w ↦ pools.after_save g r w pool ] ]) at
          ∙ ap (λ (o : Option UnitId). elim o as (λ _. Pool) [ None ↦ pool | Some w ↦ pools.after_save g r w pool ]) saving
          ∙ ap (λ (b : Bool). cond b (queue_unit u next) next) runs
