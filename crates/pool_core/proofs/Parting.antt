-- A domain that goes out of a pool.
use Rattle.sched_base.specs.Numbers.{domain as domain_number}
use Rattle.std.proofs.Common.{◌≡◌, ◌≢◌, ◌+◌, ◌/◌, ℕ, Bool, true, List, refl, sym, ap, subst, ◌∙◌, arith}
use Rattle.std.specs.Prelude.{Option, Some, None, slice_get}
use Rattle.sched_base.specs.declared.Moment.{Moment}
use Rattle.sched_base.specs.declared.VcpuId.{VcpuId}
use Rattle.sched_model.specs.declared.action.Action.TheVariants.{DomMoved}
use Rattle.sched_model.specs.declared.state.Domain.{Domain}
use Rattle.sched_model.specs.declared.state.Pool.{Pool}
use Rattle.sched_model.specs.declared.state.Vcpu.{Vcpu}
use Rattle.sched_model.specs.Places.{at_place, clear_at}
use Rattle.sched_model.specs.Pool.{done_moment, enabled_in, is_domain_unit, domain_unit_count, vcpu_unit, pool_without_domain}
use Rattle.sched_base.proofs.Bools.{or_left}
use Rattle.sched_laws.proofs.EachPlace.{at_place-clear_at_other}
use Rattle.sched_laws.specs.PoolFacts.{IsKnownPool}
use Rattle.sched_ops.specs.Seen.{Seen as SchedulerSeen, units_of}
use Rattle.unit_state.specs.Seen.{Seen as GuestsSeen}
use Rattle.core_state.specs.Seen.{Seen as CoresSeen}
use Rattle.policy_laws.specs.Holds.{Holds}
use Rattle.policy_laws.proofs.Kept.{domain_goes}
use Rattle.policy_laws.proofs.Units.{none_of_domain, other_domain}
use Rattle.pool_core.specs.PoolState.{AreWorks, IsKept}
use Rattle.pool_core.specs.Seen.{Seen, guest_among, pool_of, with_spare}
use Rattle.pool_core.proofs.Asking.{guest_at}
use Rattle.pool_core.proofs.Withdrawing.{units_known}
use Rattle.pool_core.proofs.Works.{done_by}

-- no processor runs a vCPU of the domain
works_parted_from : (g t d : ℕ) (works : List (Option Moment)) (pool : Pool) → IsKnownPool g pool → enabled_in g t pool (DomMoved (domain_number d)) ≡ true → AreWorks g works pool → AreWorks g works (pool_without_domain d pool)
works_parted_from g t d works pool known on are q = are q ∙ by_guest (guest_among g pool.resources q) refl
  where
    done_in : ℕ → Option Domain → Option Moment
    done_in n o = elim (elim o as (λ _. Option Vcpu) [ None ↦ None | Some x ↦ slice_get x.vcpus n ]) as (λ _. Option Moment) [ None ↦ None | Some x ↦ done_moment x ]

    by_guest : (o : Option VcpuId) → guest_among g pool.resources q ≡ o → done_by pool.domains o ≡ done_by (clear_at d pool.domains) o
    by_guest None is = refl
    by_guest (Some w) is =
        let found = guest_at g pool q w known is in
        let other : w.dom.0 ≢ d = other_domain d found.0.cur (vcpu_unit g w) (or_left (is_domain_unit d found.0.cur) (is_domain_unit d found.0.saving) (none_of_domain g t d pool on (q / g) found.0 found.1)) found.2 in
        ap (done_in w.n) (sym (at_place-clear_at_other d w.dom.0 pool.domains other))

-- the state after the domain went
pub taken_kept : (t d : ℕ) (guests next : GuestsSeen) (cores : CoresSeen) (s s2 : SchedulerSeen) (domain : Domain) → IsKept t guests cores s → enabled_in guests.granularity t (pool_of guests cores s) (DomMoved (domain_number d)) ≡ true
    → at_place guests.domains d ≡ Some domain → pool_of next cores s2 ≡ pool_without_domain d (pool_of guests cores s) → next ≡ record guests { domains = clear_at d guests.domains; spare = guests.spare + domain_unit_count guests.granularity domain }
    → s2.spare ≡ s.spare + units_of s.scheduler d → s2.latest ≡ s.latest → IsKept t next cores s2
taken_kept t d guests next cores s s2 domain keeps on at is guests_are spare latest =
    let pool : Pool = pool_of guests cores s in
    let same : next.granularity ≡ guests.granularity = ap (λ (x : GuestsSeen). x.granularity) guests_are in
    let room : next.spare ≡ guests.spare + domain_unit_count guests.granularity domain = ap (λ (x : GuestsSeen). x.spare) guests_are in
    let now : next.latest ≡ guests.latest = ap (λ (x : GuestsSeen). x.latest) guests_are in
    let units : units_of s.scheduler d ≡ domain_unit_count guests.granularity domain = units_known guests.granularity d pool keeps.pool.members ∙ ap (λ (o : Option Domain). elim o as (λ _. ℕ) [ None ↦ 0 | Some x ↦ domain_unit_count guests.granularity x ]) at in
    record {
      linked = record {
        granularity = keeps.linked.granularity ∙ sym same;
        guests_latest = (let l = keeps.linked.guests_latest in omega (arith, now, l));
        scheduler_latest = (let l = keeps.linked.scheduler_latest in omega (arith, latest, l));
        early = keeps.linked.early;
        spare = (let a = keeps.linked.spare in omega (arith, a, room, spare, units));
        works = subst (λ (g : ℕ). AreWorks g cores.works (pool_of next cores s2)) (sym same) (subst (λ (p : Pool). AreWorks guests.granularity cores.works p) (sym is) (works_parted_from guests.granularity t d cores.works pool keeps.pool.known on keeps.linked.works));
      };
      pool = subst (λ (g : ℕ). Holds g t (pool_of next cores s2)) (sym same) (subst (λ (p : Pool). Holds guests.granularity t p) (sym is) (domain_goes guests.granularity t d pool on keeps.pool));
    }

-- what is seen of it
pub parted_seen : (d k latest : ℕ) (used : Bool) (guests next : GuestsSeen) (cores : CoresSeen) (s s2 : SchedulerSeen) (domain : Domain) (before : Seen) → pool_of next cores s2 ≡ pool_without_domain d (pool_of guests cores s)
    → next ≡ record guests { domains = clear_at d guests.domains; spare = guests.spare + domain_unit_count k domain }
    → ◌≡◌ {A = Seen} (record { pool = pool_of guests cores s; granularity = guests.granularity; spare = guests.spare; latest = latest; in_use = used }) before
    → ◌≡◌ {A = Seen} (record { pool = pool_of next cores s2; granularity = next.granularity; spare = next.spare; latest = latest; in_use = used }) (with_spare (before.spare + domain_unit_count k domain) (record before { pool = pool_without_domain d before.pool }))
parted_seen d k latest used guests next cores s s2 domain before pool guests_are is =
    let a : ◌≡◌ {A = Seen} (record { pool = pool_of next cores s2; granularity = next.granularity; spare = next.spare; latest = latest; in_use = used })
    (record { pool = pool_without_domain d (pool_of guests cores s); granularity = next.granularity; spare = next.spare; latest = latest; in_use = used }) =
    ap (λ (p : Pool). record { pool = p; granularity = next.granularity; spare = next.spare; latest = latest; in_use = used }) pool in
    let b : ◌≡◌ {A = Seen} (record { pool = pool_without_domain d (pool_of guests cores s); granularity = next.granularity; spare = next.spare; latest = latest; in_use = used })
    (record { pool = pool_without_domain d (pool_of guests cores s); granularity = guests.granularity; spare = guests.spare + domain_unit_count k domain; latest = latest; in_use = used }) =
    ap (λ (x : GuestsSeen). record { pool = pool_without_domain d (pool_of guests cores s); granularity = x.granularity; spare = x.spare; latest = latest; in_use = used }) guests_are in
    a ∙ b ∙ ap (λ (x : Seen). with_spare (x.spare + domain_unit_count k domain) (record x { pool = pool_without_domain d x.pool })) is
