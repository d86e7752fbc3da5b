-- The events of a domain: none of an earlier kind than its floor may come.
use Rattle.std.proofs.Common.{◌≡◌, ◌≤◌, ◌<◌, ℕ, zero, suc, Bool, true, false, List, [], ◌∷◌, length, refl, sym, ap, subst, arith}
use Rattle.std.specs.Prelude.{Option, Some, None, slice_get}
use Rattle.std.proofs.Math.Decide.{dec_le}
use Rattle.sched_base.specs.Numbers.{domain, has_moment_come}
use Rattle.sched_base.specs.declared.DomId.{DomId}
use Rattle.sched_base.proofs.Bools.{clash}
use Rattle.sched_model.specs.declared.action.Action.{Action}
use Rattle.sched_model.specs.declared.action.Action.TheVariants.{DomMoved, Wake, Repl, Refill}
use Rattle.sched_model.specs.declared.state.Domain.{Domain}
use Rattle.sched_model.specs.declared.state.Pool.{Pool}
use Rattle.sched_model.specs.declared.state.Vcpu.{Vcpu}
use Rattle.sched_model.specs.Places.{at_place}
use Rattle.sched_model.specs.Pool.{enabled_in}
use Rattle.pool_laws.specs.Order.{kind_place}
use Rattle.sched_plain.specs.PoolFloors.{IsDomainFloor, IsOfDomain, NoneRenews, NoneWakes, unit_at, vcpu_at, vcpus_among}

-- behind the vCPUs of a domain there are none
pub no_vcpu_behind : (g t : ℕ) (pool : Pool) (d : DomId) (n : ℕ) → vcpus_among d.0 pool.domains ≤ n → enabled_in g t pool (Wake (vcpu_at d n)) ≡ false
no_vcpu_behind g t pool d n = by (at_place pool.domains d.0)
  where
    behind : (xs : List Vcpu) (k : ℕ) → length xs ≤ k → slice_get xs k ≡ None
    behind [] zero past = refl
    behind [] (suc k) past = refl
    behind (y ∷ xs) zero past = absurd (omega (arith, past))
    behind (y ∷ xs) (suc k) past = behind xs k (omega (arith, past))

    by : (o : Option Domain) → elim o as (λ _. ℕ) [ None ↦ 0 | Some x ↦ length x.vcpus ] ≤ n
        → elim (elim o as (λ _. Option Vcpu) [ None ↦ None | Some x ↦ slice_get x.vcpus n ]) as (λ _. Bool) [ None ↦ false | Some v ↦ has_moment_come t v.asleep_until ] ≡ false
    by None past = refl
    by (Some x) past = ap (λ (o : Option Vcpu). elim o as (λ _. Bool) [ None ↦ false | Some v ↦ has_moment_come t v.asleep_until ]) (behind x.vcpus n past)

-- the events of a domain, kind by kind
module _ (g t : ℕ) (pool : Pool) where
  at_most : (k : ℕ) (action : Action) → enabled_in g t pool action ≡ true → (kind_place action < k → enabled_in g t pool action ≡ false) → k ≤ kind_place action
  at_most k action on none = elim (dec_le k (kind_place action)) [
    | yes is ↦ is
    | no above ↦ absurd (clash (enabled_in g t pool action) on (none (omega (arith, above))))
  ]

  pub domain_bound : (d : DomId) (k : ℕ) → (3 < k → enabled_in g t pool (DomMoved d) ≡ false) → (4 < k → (n : ℕ) → enabled_in g t pool (Wake (vcpu_at d n)) ≡ false) → (7 < k → (n : ℕ) → enabled_in g t pool (Repl (unit_at d n)) ≡ false)
      → (8 < k → enabled_in g t pool (Refill d) ≡ false) → IsDomainFloor g t pool d.0 k
  domain_bound d k moved wake renew refill = by
    where
      by : (action : Action) → IsOfDomain d.0 action → enabled_in g t pool action ≡ true → k ≤ kind_place action
      by (DomMoved e) own on = at_most k (DomMoved e) on (λ above. subst (λ (n : ℕ). enabled_in g t pool (DomMoved (domain n)) ≡ false) (sym own) (moved above))
      by (Wake v) own on = at_most k (Wake v) on (λ above. subst (λ (n : ℕ). enabled_in g t pool (Wake (vcpu_at (domain n) v.n)) ≡ false) (sym own) (wake above v.n))
      by (Repl u) own on = at_most k (Repl u) on (λ above. subst (λ (n : ℕ). enabled_in g t pool (Repl (unit_at (domain n) u.n)) ≡ false) (sym own) (renew above u.n))
      by (Refill e) own on = at_most k (Refill e) on (λ above. subst (λ (n : ℕ). enabled_in g t pool (Refill (domain n)) ≡ false) (sym own) (refill above))
      by action own on = absurd own

module _ (g t : ℕ) (pool : Pool) (d : DomId) (count : ℕ) where
  pub all_wakes : ((n : ℕ) → count ≤ n → enabled_in g t pool (Wake (vcpu_at d n)) ≡ false) → NoneWakes g t pool d count → (n : ℕ) → enabled_in g t pool (Wake (vcpu_at d n)) ≡ false
  all_wakes behind none n = elim (dec_le count n) [ yes past ↦ behind n past | no inside ↦ none n (omega (arith, inside)) ]

  pub all_renews : ((n : ℕ) → count ≤ n → enabled_in g t pool (Repl (unit_at d n)) ≡ false) → NoneRenews g t pool d count → (n : ℕ) → enabled_in g t pool (Repl (unit_at d n)) ≡ false
  all_renews behind none n = elim (dec_le count n) [ yes past ↦ behind n past | no inside ↦ none n (omega (arith, inside)) ]
