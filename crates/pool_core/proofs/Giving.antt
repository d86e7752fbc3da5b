-- A domain that comes into a pool.
use Rattle.std.proofs.Common.{◌≡◌, ℕ, List, [], ◌∷◌, refl, sym, ap, subst, ◌∙◌, inl, inr}
use Rattle.std.specs.Prelude.{Option, Some, None, slice_get, ◌&&◌}
use Rattle.std.proofs.Math.Decide.{ℕ_discrete}
use Rattle.sched_base.specs.Numbers.{domain as domain_number}
use Rattle.sched_base.specs.declared.Moment.{Moment}
use Rattle.sched_base.specs.declared.UnitId.{UnitId}
use Rattle.sched_base.specs.declared.VcpuId.{VcpuId}
use Rattle.sched_model.specs.declared.config.DomParams.{DomParams}
use Rattle.sched_model.specs.declared.config.DomParams.TheVariants as dom_params
use Rattle.sched_model.specs.declared.state.Domain.{Domain}
use Rattle.sched_model.specs.declared.state.Pool.{Pool}
use Rattle.sched_model.specs.declared.state.Records.{Records}
use Rattle.sched_model.specs.declared.state.Records.TheVariants.{Credit2Pool, RtdsPool}
use Rattle.sched_model.specs.declared.state.Vcpu.{Vcpu}
use Rattle.sched_model.specs.Places.{at_place, numbers_from, put_at}
use Rattle.sched_model.specs.Policy as policy
use Rattle.sched_model.specs.Policy.{records_kind}
use Rattle.sched_model.specs.Pool as pools
use Rattle.sched_model.specs.Pool.{done_moment, domain_unit_count, pool_with_domain}
use Rattle.sched_model.specs.State.{may_unit_run}
use Rattle.sched_laws.proofs.EachPlace.{at_place-put_at_other, by_cond, read_put_at}
use Rattle.state_ranges.specs.Counts.{Matches}
use Rattle.sched_ops.specs.Conditions.{AreDomParams}
use Rattle.unit_state.specs.Seen.{done_among}
use Rattle.pool_core.specs.PoolState.{AreWorks}
use Rattle.pool_core.specs.Seen.{guest_among}
use Rattle.pool_core.proofs.Works.{done_by}

-- parameters of a scheduler are those that its records take
pub matches : (records : Records) (params : DomParams) → AreDomParams (records_kind records) params → Matches records params
matches (Credit2Pool records) (dom_params.Credit2 weight cap) are = tt
matches (Credit2Pool records) params are = absurd are
matches (RtdsPool domains) (dom_params.Rtds period budget extra) are = tt
matches (RtdsPool domains) params are = absurd are
matches records params are = tt

-- what is queued changes neither domains nor cores
pub queued_same : (P : Pool → Type 0) → ((a b : Pool) → b.domains ≡ a.domains → b.resources ≡ a.resources → P a → P b) → (g d : ℕ) (ns : List ℕ) (pool : Pool) → P pool → P (pools.pool_with_queued_units g d ns pool)
queued_same P same g d [] pool here = here
queued_same P same g d (n ∷ ns) pool here =
    let u : UnitId = record { dom = domain_number d; n = n } in
    queued_same P same g d ns (pools.pool_with_queued_if_off g u pool) (by_cond P (may_unit_run g pool u && pools.is_unit_off pool u) (pools.queue_unit u pool) pool (λ is. same pool (pools.queue_unit u pool) refl refl here) (λ is. here))

-- the moments at which the works are done: no processor runs a vCPU of the domain that has a work
pub works_given : (g t d : ℕ) (domain : Domain) (params : DomParams) (works : List (Option Moment)) (pool : Pool) → at_place pool.domains d ≡ None → ((n : ℕ) (x : Vcpu) → slice_get domain.vcpus n ≡ Some x → x.started ≡ None) → AreWorks g works pool
    → AreWorks g works (pool_with_domain g t d domain params pool)
works_given g t d domain params works pool absent still are =
    queued_same (AreWorks g works) (λ a b domains cores here q. here q ∙ ap (λ rs. done_by a.domains (guest_among g rs q)) (sym cores) ∙ ap (λ ds. done_by ds (guest_among g b.resources q)) (sym domains)) g d (numbers_from 0 (domain_unit_count g domain))
    (record pool { domains = put_at d domain pool.domains; scheduler = policy.joined_scheduler d (domain_unit_count g domain) params t pool.scheduler }) (λ q. are q ∙ by_guest (guest_among g pool.resources q))
  where
    vcpu_in : ℕ → Option Domain → Option Vcpu
    vcpu_in n o = elim o as (λ _. Option Vcpu) [ None ↦ None | Some x ↦ slice_get x.vcpus n ]

    done_of : Option Vcpu → Option Moment
    done_of o = elim o as (λ _. Option Moment) [ None ↦ None | Some x ↦ done_moment x ]

    none_done : (n : ℕ) (o : Option Domain) → ((x : Domain) → o ≡ Some x → x ≡ domain) → done_of (vcpu_in n o) ≡ None
    none_done n None only = refl
    none_done n (Some x) only = subst (λ (y : Domain). done_of (slice_get y.vcpus n) ≡ None) (sym (only x refl)) (by_vcpu (slice_get domain.vcpus n) refl)
      where
        by_vcpu : (o : Option Vcpu) → slice_get domain.vcpus n ≡ o → done_of o ≡ None
        by_vcpu None there = refl
        by_vcpu (Some y) there = let e = still n y there in rw (done_moment, e) refl

    by_guest : (o : Option VcpuId) → done_by pool.domains o ≡ done_by (put_at d domain pool.domains) o
    by_guest None = refl
    by_guest (Some w) = elim (ℕ_discrete w.dom.0 d) [
      | no other ↦ ap (λ (o : Option Domain). done_of (vcpu_in w.n o)) (sym (at_place-put_at_other d w.dom.0 domain pool.domains other))
      | yes e ↦
          let before : done_among pool.domains w ≡ None = ap (λ (o : Option Domain). done_of (vcpu_in w.n o)) (subst (λ (k : ℕ). at_place pool.domains k ≡ None) (sym e) absent) in
          before ∙ sym (none_done w.n (at_place (put_at d domain pool.domains) w.dom.0) (λ x at. elim (read_put_at d w.dom.0 domain pool.domains x at) [
            | inl was ↦ absurd (let none : at_place pool.domains w.dom.0 ≡ None = subst (λ (k : ℕ). at_place pool.domains k ≡ None) (sym e) absent in cc)
            | inr r ↦ sym r.1
          ]))
    ]
