-- Events after which no core is to be looked at, where that was done at the same moment before.
use Rattle.sched_base.specs.Numbers.{core, processor}
use Rattle.std.proofs.Common.{◌≡◌, ◌+◌, ◌*◌, ◌/◌, ◌%◌, ℕ, Bool, true, false, List, refl, sym, ap, subst, ◌∙◌, cond, arith}
use Rattle.std.specs.Prelude.{Option, Some, None, option_map, slice_set, unwrap_or, ◌||◌, ◌&&◌}
use Rattle.std.specs.List.{list_any}
use Rattle.sched_base.specs.declared.UnitId.{UnitId}
use Rattle.sched_base.specs.declared.VcpuId.{VcpuId}
use Rattle.sched_model.specs.declared.action.Action.TheVariants.{Arrive, Block, Leave, Save, Slice, Wake}
use Rattle.sched_model.specs.declared.state.Doing.{Doing}
use Rattle.sched_model.specs.declared.state.Doing.TheVariants.{Guest, Idle, Held}
use Rattle.sched_model.specs.declared.state.Domain.{Domain}
use Rattle.sched_model.specs.declared.state.Pool.{Pool}
use Rattle.sched_model.specs.declared.state.Resource.{Resource}
use Rattle.sched_model.specs.declared.state.Scheduler.{Scheduler}
use Rattle.sched_model.specs.declared.state.Vcpu.{Vcpu}
use Rattle.sched_model.specs.Places.{at_place}
use Rattle.sched_model.specs.Policy.{has_better_waiting}
use Rattle.sched_model.specs.Pool as pools
use Rattle.sched_model.specs.Pool.{after_in, change_core, change_processor, change_vcpu, cores_from, with_doing, running_guest, pool_core_set, is_held_back, is_unit_off, put_to_sleep, reconsidered_core, pending_core, settled_pool as settled, started_on, stopped_vcpu, vcpu_unit}
use Rattle.sched_model.specs.State.{may_unit_run}
use Rattle.sched_laws.proofs.EachPlace.{at_place-change_each, by_cond, by_option}
use Rattle.pool_laws.specs.CoreLooks.{IsSettled}
use Rattle.pool_laws.proofs.Settled.{settled_alone}
use Rattle.settle_laws.specs.Wanted.{is_queued_by}
use Rattle.settle_laws.proofs.Fixed.{looked}

-- a core for which its scheduler is asked as before, if at all
pub record AsksAsBefore (c d : Resource) : Type 0 where
  pub cur : d.cur ≡ c.cur
  pub since : d.since ≡ c.since
  pub leaving : d.leaving ≡ c.leaving
  pub pending : c.pending ≡ true → d.pending ≡ true

looked_same : (b : Bool) (c d : Resource) → d.leaving ≡ c.leaving → (c.pending ≡ true → d.pending ≡ true) → looked b c ≡ c → looked b d ≡ d
looked_same b c d leaving pending same = by_two d.leaving d.pending b refl refl refl
  where
    by_two : (l p x : Bool) → d.leaving ≡ l → d.pending ≡ p → b ≡ x → cond l d (record d { pending = p || x }) ≡ d
    by_two true p x e f is = refl
    by_two false true x e f is = ap (λ (y : Bool). record d { pending = y }) (sym f)
    by_two false false false e f is = ap (λ (y : Bool). record d { pending = y }) (sym f)
    by_two false false true e f is = absurd (
        let stays : c.leaving ≡ false = sym leaving ∙ e in
        let risen : (c.pending || b) ≡ c.pending = ap (λ (y : Resource). y.pending) (subst (λ (l : Bool). cond l c (record c { pending = c.pending || b }) ≡ c) stays same) in
        let was : c.pending ≡ true = by_pending c.pending b is risen in
        let now = pending was in
        cc)
      where
        by_pending : (q y : Bool) → y ≡ true → (q || y) ≡ q → q ≡ true
        by_pending true y e f = refl
        by_pending false true e f = sym f
        by_pending false false e f = e

asks_same : (t home : ℕ) (s : Scheduler) (r : ℕ) (c d : Resource) → AsksAsBefore c d → reconsidered_core t home s r c ≡ c → reconsidered_core t home s r d ≡ d
asks_same t home s r c d asks same =
    let question : has_better_waiting d.cur d.since.0 t r home s ≡ has_better_waiting c.cur c.since.0 t r home s =
    ap (λ cur. has_better_waiting cur d.since.0 t r home s) asks.cur ∙ ap (λ since. has_better_waiting c.cur since.0 t r home s) asks.since in
    ap (λ (b : Bool). looked b d) question ∙ looked_same (has_better_waiting c.cur c.since.0 t r home s) c d asks.leaving asks.pending same

-- other domains
spared_domains : (t : ℕ) (domains : List (Option Domain)) (pool : Pool) → IsSettled t pool → IsSettled t (record pool { domains = domains })
spared_domains t domains pool before = ap (λ (x : Pool). record x { domains = domains }) before

-- a core that changes, and asks as before
pub spared_core : (t r : ℕ) (f : Resource → Resource) (pool : Pool) → ((c : Resource) → AsksAsBefore c (f c)) → IsSettled t pool → IsSettled t (change_core r f pool)
spared_core t r f pool asks before =
    settled_alone t r f pool before ∙ ap (λ (o : Option Resource). record pool { resources = slice_set pool.resources r o }) (by_place (at_place pool.resources r) here)
  where
    home : ℕ
    home = pool_core_set pool

    here : option_map (reconsidered_core t home pool.scheduler r) (at_place pool.resources r) ≡ at_place pool.resources r
    here =
        let number : 0 + r ≡ r = omega arith in
        ap (λ (k : ℕ). option_map (reconsidered_core t home pool.scheduler k) (at_place pool.resources r)) (sym number)
        ∙ sym (at_place-change_each 0 r (reconsidered_core t home pool.scheduler) pool.resources)
        ∙ ap (λ (x : Pool). at_place x.resources r) before

    by_place : (o : Option Resource) → option_map (reconsidered_core t home pool.scheduler r) o ≡ o → option_map (λ c. reconsidered_core t home pool.scheduler r (f c)) o ≡ option_map f o
    by_place None e = refl
    by_place (Some c) e =
        let same : reconsidered_core t home pool.scheduler r c ≡ c = cc in
        ap Some (asks_same t home pool.scheduler r c (f c) (asks c) same)

-- a core that is to decide anew
to_decide : (c : Resource) → AsksAsBefore c (pending_core c)
to_decide c = record { cur = refl; since = refl; leaving = refl; pending = λ e. refl }

-- a processor that does something else
spared_processor : (g t p : ℕ) (doing : Doing) (pool : Pool) → IsSettled t pool → IsSettled t (change_processor g p (with_doing doing) pool)
spared_processor g t p doing pool before = spared_core t (p / g) _ pool (λ c. record { cur = refl; since = refl; leaving = refl; pending = λ e. e }) before

-- a vCPU that changes
spared_vcpu : (t : ℕ) (v : VcpuId) (f : Vcpu → Vcpu) (pool : Pool) → IsSettled t pool → IsSettled t (change_vcpu v f pool)
spared_vcpu t v f pool before = spared_domains t _ pool before

module _ (g t : ℕ) (pool : Pool) (before : IsSettled t pool) where
  pub spared_slice : (r : ℕ) → IsSettled t (after_in g t pool (Slice (core r)))
  spared_slice r = spared_core t r pending_core pool to_decide before

  pub spared_arrive : (p : ℕ) → IsSettled t (after_in g t pool (Arrive (processor p)))
  spared_arrive p =
      by_option (λ (next : Pool). IsSettled t (change_processor g p (with_doing Held) next)) (running_guest g pool p) _ _
      (λ is. spared_processor g t p Held pool before)
      (λ v is. spared_processor g t p Held (change_vcpu v (stopped_vcpu t) pool) (spared_vcpu t v (stopped_vcpu t) pool before))

  pub spared_block : (p : ℕ) → IsSettled t (after_in g t pool (Block (processor p)))
  spared_block p =
      by_option (IsSettled t) (running_guest g pool p) _ _ (λ is. before) (λ v is.
      let next : Pool = change_processor g p (with_doing Idle) (change_vcpu v (put_to_sleep t) pool) in
      let here : IsSettled t next = spared_processor g t p Idle (change_vcpu v (put_to_sleep t) pool) (spared_vcpu t v (put_to_sleep t) pool before) in
      by_cond (IsSettled t) (may_unit_run g next (vcpu_unit g v)) _ _ (λ runs. here) (λ runs. spared_core t (p / g) pending_core next to_decide here))

  -- a core whose last processor leaves
  opened : (c : Resource) → AsksAsBefore c (pools.reopened_core c)
  opened c = by_cond (AsksAsBefore c) (list_any is_held_back c.processors) _ _ (λ is. record { cur = refl; since = refl; leaving = refl; pending = λ e. e }) (λ is. record { cur = refl; since = refl; leaving = refl; pending = λ e. e })

  pub spared_leave : (p : ℕ) → IsSettled t (after_in g t pool (Leave (processor p)))
  spared_leave p =
      by_option (IsSettled t) (at_place pool.resources (p / g)) _ _ (λ is. before) (λ c is.
      by_option (λ (next : Pool). IsSettled t (change_core (p / g) pools.reopened_core next)) (pools.vcpu_to_run g pool c (p % g)) _ _
      (λ none. spared_core t (p / g) pools.reopened_core _ opened (spared_processor g t p Idle pool before))
      (λ v some. spared_core t (p / g) pools.reopened_core _ opened (spared_processor g t p (Guest v) _ (spared_vcpu t v _ pool before))))

  -- a vCPU that wakes, and whose unit does not join the queue
  pub spared_wake : (v : VcpuId) → is_queued_by g v pool ≡ false → IsSettled t (after_in g t pool (Wake v))
  spared_wake v stays =
      elim (may_unit_run g next u) as (λ runs. (runs && is_unit_off next u) ≡ false → IsSettled t (elim runs as (λ _. Pool) [ false ↦ next | true ↦ cond (is_unit_off next u) (pools.queue_unit u next) (pools.joined_siblings g t v next) ])) [
        | false ↦ λ e. here
        | true ↦ λ on. subst (λ (b : Bool). IsSettled t (cond b (pools.queue_unit u next) (pools.joined_siblings g t v next))) (sym on) joined
      ] stays
    where
      next : Pool
      next = change_vcpu v pools.woken_vcpu pool

      u : UnitId
      u = vcpu_unit g v

      here : IsSettled t next
      here = spared_vcpu t v pools.woken_vcpu pool before

      joined : IsSettled t (pools.joined_siblings g t v next)
      joined =
          by_option (IsSettled t) (pools.unit_core next u) _ _ (λ is. here) (λ r is.
          by_option (IsSettled t) (pools.pool_processor g next (r * g + v.n % g)) _ _ (λ none. here) (λ q some.
          by_cond (IsSettled t) (pools.is_idling q) _ _ (λ idles. spared_processor g t (r * g + v.n % g) (Guest v) _ (spared_vcpu t v _ next here)) (λ busy. here)))

  -- a core that puts away a unit that does not join the queue
  pub spared_save : (r : ℕ) → may_unit_run g pool (pools.saved_at pool r) ≡ false → IsSettled t (after_in g t pool (Save (core r)))
  spared_save r stays =
      by_option (IsSettled t) (at_place pool.resources r) _ _ (λ is. before) (λ c at.
      by_option (IsSettled t) c.saving _ _ (λ is. before) (λ u is.
      let saving : pools.saving_among pool.resources r ≡ Some u = ap (λ (o : Option Resource). elim o as (λ _. Option UnitId) [ None ↦ None | Some x ↦ x.saving ]) at ∙ is in
      let off : may_unit_run g pool u ≡ false = ap (λ (o : Option UnitId). may_unit_run g pool (unwrap_or o pools.no_unit)) (sym saving) ∙ stays in
      by_cond (IsSettled t) (may_unit_run g pool u) _ _ (λ runs. absurd (let clash : true ≡ false = sym runs ∙ off in cc)) (λ idles.
      spared_core t r pools.saved_core pool (λ x. record { cur = refl; since = refl; leaving = refl; pending = λ e. e }) before)))
