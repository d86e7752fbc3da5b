-- The moments at which the works in hand are done, after a change of a core, a processor or a vCPU.
use Rattle.std.proofs.Common.{◌≡◌, ◌≢◌, ◌<◌, ◌⊎◌, ℕ, List, refl, sym, ap, subst, ◌∙◌, inl, inr, length}
use Rattle.std.specs.Prelude.{Option, Some, None, option_map, slice_set}
use Rattle.std.proofs.Math.Decide.{ℕ_discrete}
use Rattle.std.proofs.lemmas.List.{get_or-set_same, get_or-set_other}
use Rattle.sched_base.specs.Numbers.{moment, domain as domain_number}
use Rattle.sched_base.specs.declared.Moment.{Moment}
use Rattle.sched_base.specs.declared.VcpuId.{VcpuId}
use Rattle.sched_model.specs.declared.state.Doing.{Doing}
use Rattle.sched_model.specs.declared.state.Doing.TheVariants.{Guest}
use Rattle.sched_model.specs.declared.state.Domain.{Domain}
use Rattle.sched_model.specs.declared.state.Pool.{Pool}
use Rattle.sched_model.specs.declared.state.Processor.{Processor}
use Rattle.sched_model.specs.declared.state.Resource.{Resource}
use Rattle.sched_model.specs.declared.state.Vcpu.{Vcpu}
use Rattle.sched_model.specs.Places.{at_place, change_each}
use Rattle.sched_model.specs.Pool.{change_core, change_processor, change_vcpu, with_doing, done_moment, running_guest, pool_processor, started_on, woken_vcpu, vcpu_among, change_among}
use Rattle.pool_laws.specs.ReadyMoments.{work_end}
use Rattle.sched_laws.proofs.EachPlace.{at_place-clear_at, at_place-clear_at_other}
use Rattle.core_state.specs.Seen.{processor_among}
use Rattle.unit_state.specs.Seen.{done_among}
use Rattle.unit_state.proofs.PlaceLemmas.{AreOthers, vcpu_among-change_among, vcpu_among-change_among_other}
use Rattle.pool_core.specs.PoolState.{AreWorks}
use Rattle.pool_core.specs.Seen.{guest_among}
use Rattle.pool_core.proofs.Processors.{run_by, processor_kept, processor_each, processor_changed, processor_other}

-- the moment at which the work of what a processor runs is done
abbrev pub done_by : List (Option Domain) → Option VcpuId → Option Moment
done_by domains o = elim o [ None ↦ None | Some v ↦ done_among domains v ]

-- the processors do what they did, and the domains are the same
pub works_same : (g : ℕ) (works : List (Option Moment)) (a b : Pool) → b.domains ≡ a.domains → ((p : ℕ) → processor_among g b.resources p ≡ processor_among g a.resources p) → AreWorks g works a → AreWorks g works b
works_same g works a b domains same are p = are p ∙ ap (λ o. done_by a.domains (run_by o)) (sym (same p)) ∙ ap (λ ds. done_by ds (guest_among g b.resources p)) (sym domains)

-- a core changed that keeps its processors
pub works_core : (g r : ℕ) (f : Resource → Resource) (works : List (Option Moment)) (pool : Pool) → ((c : Resource) → at_place pool.resources r ≡ Some c → (f c).processors ≡ c.processors) → AreWorks g works pool → AreWorks g works (change_core r f pool)
works_core g r f works pool same are = works_same g works pool (change_core r f pool) refl (λ p. processor_kept g p r f pool.resources same) are

-- each core changed so
pub works_each : (g : ℕ) (f : ℕ → Resource → Resource) (works : List (Option Moment)) (pool : Pool) → ((r : ℕ) (c : Resource) → (f r c).processors ≡ c.processors) → AreWorks g works pool → AreWorks g works (record pool { resources = change_each 0 f pool.resources })
works_each g f works pool same are = works_same g works pool (record pool { resources = change_each 0 f pool.resources }) refl (λ p. processor_each g p f pool.resources same) are

-- two vCPUs that are not the same
others : (v w : VcpuId) → v ≢ w → AreOthers v w
others v w apart = elim (ℕ_discrete w.dom.0 v.dom.0) [
  | no ne ↦ inl ne
  | yes e ↦ elim (ℕ_discrete w.n v.n) [
    | no ne ↦ inr ne
    | yes e2 ↦ absurd (apart (
        let a : ◌≡◌ {A = VcpuId} v (record { dom = domain_number w.dom.0; n = v.n }) = ap (λ (k : ℕ). record { dom = domain_number k; n = v.n }) (sym e) in
        let b : ◌≡◌ {A = VcpuId} (record { dom = domain_number w.dom.0; n = v.n }) w = ap (λ (k : ℕ). record { dom = domain_number w.dom.0; n = k }) (sym e2) in
        a ∙ b))
  ]
]

-- the work of another vCPU
pub done_other : (v w : VcpuId) (f : Vcpu → Vcpu) (domains : List (Option Domain)) → v ≢ w → done_among (change_among v f domains) w ≡ done_among domains w
done_other v w f domains apart = ap (λ (o : Option Vcpu). elim o as (λ _. Option Moment) [ None ↦ None | Some x ↦ done_moment x ]) (vcpu_among-change_among_other v w f domains (others v w apart))

-- the work of what another processor runs
done_elsewhere : (v : VcpuId) (f : Vcpu → Vcpu) (domains : List (Option Domain)) (o : Option VcpuId) → (o ≡ Some v → ⊥) → done_by (change_among v f domains) o ≡ done_by domains o
done_elsewhere v f domains None apart = refl
done_elsewhere v f domains (Some w) apart = done_other v w f domains (λ e. apart (ap Some (sym e)))

module _ (g p : ℕ) (works : List (Option Moment)) (pool : Pool) (are : AreWorks g works pool) where
  -- a processor that runs nothing any more
  pub works_freed : (doing : Doing) → ((o : Option Processor) → run_by (option_map (with_doing doing) o) ≡ None) → AreWorks g (slice_set works p None) (change_processor g p (with_doing doing) pool)
  works_freed doing none q = elim (ℕ_discrete q p) [
    | yes e ↦ subst (λ (k : ℕ). at_place (slice_set works p None) k ≡ work_end g (change_processor g p (with_doing doing) pool) k) (sym e)
        (at_place-clear_at p works ∙ sym (ap (λ o. done_by pool.domains (run_by o)) (processor_changed g p (with_doing doing) pool.resources) ∙ ap (done_by pool.domains) (none (processor_among g pool.resources p))))
    | no other ↦ at_place-clear_at_other p q works other ∙ are q ∙ ap (λ o. done_by pool.domains (run_by o)) (sym (processor_other g p q (with_doing doing) pool.resources other))
  ]

  -- the same, where the vCPU that it ran is changed
  pub works_stopped : (doing : Doing) → ((o : Option Processor) → run_by (option_map (with_doing doing) o) ≡ None) → (v : VcpuId) (f : Vcpu → Vcpu) → ((q : ℕ) → running_guest g pool q ≡ Some v → q ≡ p)
      → AreWorks g (slice_set works p None) (change_processor g p (with_doing doing) (change_vcpu v f pool))
  works_stopped doing none v f only q = elim (ℕ_discrete q p) [
    | yes e ↦ subst (λ (k : ℕ). at_place (slice_set works p None) k ≡ work_end g (change_processor g p (with_doing doing) (change_vcpu v f pool)) k) (sym e)
        (at_place-clear_at p works ∙ sym (ap (λ o. done_by (change_among v f pool.domains) (run_by o)) (processor_changed g p (with_doing doing) pool.resources) ∙ ap (done_by (change_among v f pool.domains)) (none (processor_among g pool.resources p))))
    | no other ↦
        at_place-clear_at_other p q works other ∙ are q
        ∙ sym (done_elsewhere v f pool.domains (guest_among g pool.resources q) (λ is. other (only q is)))
        ∙ ap (λ o. done_by (change_among v f pool.domains) (run_by o)) (sym (processor_other g p q (with_doing doing) pool.resources other))
  ]

  -- a processor that begins to run a vCPU, which no other runs
  pub works_started : (t : ℕ) (v : VcpuId) (x : Processor) → p < length works → pool_processor g pool p ≡ Some x → ((q : ℕ) → running_guest g pool q ≡ Some v → q ≡ p)
      → AreWorks g (slice_set works p (done_among (started_on g t p v pool).domains v)) (started_on g t p v pool)
  works_started t v x inside there only q =
      let f : Vcpu → Vcpu = λ (y : Vcpu). record y { started = Some (moment t) } in
      elim (ℕ_discrete q p) [
        | yes e ↦ subst (λ (k : ℕ). at_place (slice_set works p (done_among (change_among v f pool.domains) v)) k ≡ work_end g (started_on g t p v pool) k) (sym e)
            (get_or-set_same works p (done_among (change_among v f pool.domains) v) None inside
            ∙ sym (ap (λ o. done_by (change_among v f pool.domains) (run_by o)) (processor_changed g p (with_doing (Guest v)) pool.resources ∙ ap (option_map (with_doing (Guest v))) there)))
        | no other ↦
            get_or-set_other works p q (done_among (change_among v f pool.domains) v) None other ∙ are q
            ∙ sym (done_elsewhere v f pool.domains (guest_among g pool.resources q) (λ is. other (only q is)))
            ∙ ap (λ o. done_by (change_among v f pool.domains) (run_by o)) (sym (processor_other g p q (with_doing (Guest v)) pool.resources other))
      ]

-- a vCPU that is not started wakes
pub works_woken : (g : ℕ) (v : VcpuId) (works : List (Option Moment)) (pool : Pool) → ((x : Vcpu) → vcpu_among pool.domains v ≡ Some x → x.started ≡ None) → AreWorks g works pool → AreWorks g works (change_vcpu v woken_vcpu pool)
works_woken g v works pool still are q = are q ∙ by_guest (guest_among g pool.resources q)
  where
    none_done : (o : Option Vcpu) → ((x : Vcpu) → o ≡ Some x → x.started ≡ None) → elim o as (λ _. Option Moment) [ None ↦ None | Some x ↦ done_moment x ] ≡ elim (option_map woken_vcpu o) as (λ _. Option Moment) [ None ↦ None | Some x ↦ done_moment x ]
    none_done None none = refl
    none_done (Some x) none = let e = none x refl in rw (done_moment, e) refl

    by_guest : (o : Option VcpuId) → done_by pool.domains o ≡ done_by (change_among v woken_vcpu pool.domains) o
    by_guest None = refl
    by_guest (Some w) = elim (same_or_other w) [
      | inl e ↦ subst (λ (k : VcpuId). done_among pool.domains k ≡ done_among (change_among v woken_vcpu pool.domains) k) e
          (none_done (vcpu_among pool.domains v) still ∙ ap (λ (o : Option Vcpu). elim o as (λ _. Option Moment) [ None ↦ None | Some x ↦ done_moment x ]) (sym (vcpu_among-change_among v woken_vcpu pool.domains)))
      | inr ne ↦ sym (done_other v w woken_vcpu pool.domains ne)
    ]
      where
        same_or_other : (w : VcpuId) → (v ≡ w) ⊎ (v ≢ w)
        same_or_other w = elim (ℕ_discrete v.dom.0 w.dom.0) [
          | no ne ↦ inr (λ e. ne (ap (λ (k : VcpuId). k.dom.0) e))
          | yes e ↦ elim (ℕ_discrete v.n w.n) [
            | no ne ↦ inr (λ e2. ne (ap (λ (k : VcpuId). k.n) e2))
            | yes e2 ↦ inl (
                let a : ◌≡◌ {A = VcpuId} v (record { dom = domain_number w.dom.0; n = v.n }) = ap (λ (k : ℕ). record { dom = domain_number k; n = v.n }) e in
                let b : ◌≡◌ {A = VcpuId} (record { dom = domain_number w.dom.0; n = v.n }) w = ap (λ (k : ℕ). record { dom = domain_number w.dom.0; n = k }) e2 in
                a ∙ b)
          ]
        ]
