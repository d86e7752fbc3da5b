-- What a pool's state keeps after its domains pause, go on or begin to move.
use Rattle.std.proofs.Common.{◌≡◌, ◌≤◌, ℕ, true, false, List, refl, sym, ap, subst, ◌∙◌, cond, arith}
use Rattle.std.specs.Prelude.{Option, Some, None, option_map, slice_get}
use Rattle.std.proofs.Math.Decide.{ℕ_discrete}
use Rattle.sched_base.specs.Numbers.{moment, pool as pool_number}
use Rattle.sched_model.specs.declared.config.ParamChange.{ParamChange}
use Rattle.sched_model.specs.declared.config.ParamChange.TheVariants as changes
use Rattle.sched_base.specs.declared.Moment.{Moment}
use Rattle.sched_base.specs.declared.VcpuId.{VcpuId}
use Rattle.sched_model.specs.declared.state.Domain.{Domain}
use Rattle.sched_model.specs.declared.state.Pool.{Pool}
use Rattle.sched_model.specs.declared.state.Resource.{Resource}
use Rattle.sched_model.specs.declared.state.Vcpu.{Vcpu}
use Rattle.sched_model.specs.CheckedMachine.{most_span}
use Rattle.sched_model.specs.Places.{at_place, change_at, numbers_from, test_at}
use Rattle.sched_model.specs.Policy as policy
use Rattle.sched_model.specs.Pool.{change_domain, done_moment, is_domain_unit, paused_pool, pool_with_moving, changed_pool, pending_core, domain_unit_count, unpaused_pool, withdrawn_pool}
use Rattle.sched_model.proofs.PlaceLemmas.{at_place-change_at_other}
use Rattle.sched_laws.proofs.EachPlace.{by_cond, by_option, at_place-change_at}
use Rattle.unit_state.specs.Seen.{Seen as GuestsSeen}
use Rattle.core_state.specs.Seen.{Seen as CoresSeen}
use Rattle.sched_ops.specs.Seen.{Seen as SchedulerSeen}
use Rattle.policy_laws.specs.Holds.{Holds}
use Rattle.policy_laws.proofs.Kept.{changes as kept_changes, later}
use Rattle.pool_core.specs.PoolState.{AreWorks, IsKept}
use Rattle.pool_core.specs.Seen.{guest_among, pool_of}
use Rattle.pool_core.specs.Wakes.{KeepsRoom}
use Rattle.pool_core.proofs.Giving.{queued_same}
use Rattle.pool_core.proofs.Works.{done_by, works_each}

-- the state after a change that leaves the parts' own numbers as they were
pub commanded : (t0 t : ℕ) (guests next : GuestsSeen) (cores after : CoresSeen) (s s2 : SchedulerSeen) (domains : List (Option Domain)) (resources : List (Option Resource)) (pool : Pool) → IsKept t0 guests cores s → t0 ≤ t → t ≤ most_span
    → pool_of next after s2 ≡ pool → next ≡ record guests { domains = domains } → after ≡ record cores { resources = resources } → KeepsRoom s s2 → AreWorks guests.granularity cores.works pool → Holds guests.granularity t pool → IsKept t next after s2
commanded t0 t guests next cores after s s2 domains resources pool keeps past early is guests_are cores_are room are holds =
    let same : next.granularity ≡ guests.granularity = ap (λ (x : GuestsSeen). x.granularity) guests_are in
    let spare : next.spare ≡ guests.spare = ap (λ (x : GuestsSeen). x.spare) guests_are in
    let latest : next.latest ≡ guests.latest = ap (λ (x : GuestsSeen). x.latest) guests_are in
    let works : after.works ≡ cores.works = ap (λ (x : CoresSeen). x.works) cores_are in
    record {
      linked = record {
        granularity = ap (λ (x : CoresSeen). x.granularity) cores_are ∙ keeps.linked.granularity ∙ sym same;
        guests_latest = (let l = keeps.linked.guests_latest in omega (arith, latest, l, past));
        scheduler_latest = (let l = keeps.linked.scheduler_latest in let r = room.latest in omega (arith, l, r, past));
        early = early;
        spare = (let a = keeps.linked.spare in let b = room.spare in omega (arith, spare, a, b));
        works = subst (λ (g : ℕ). AreWorks g after.works (pool_of next after s2)) (sym same) (subst (λ (p : Pool). AreWorks guests.granularity after.works p) (sym is) (subst (λ (ws : List (Option Moment)). AreWorks guests.granularity ws pool) (sym works) are));
      };
      pool = subst (λ (g : ℕ). Holds g t (pool_of next after s2)) (sym same) (subst (λ (p : Pool). Holds guests.granularity t p) (sym is) holds);
    }

-- a domain changed that keeps its vCPUs
works_domain : (g d : ℕ) (f : Domain → Domain) (works : List (Option Moment)) (pool : Pool) → ((x : Domain) → (f x).vcpus ≡ x.vcpus) → AreWorks g works pool → AreWorks g works (change_domain d f pool)
works_domain g d f works pool same are q = are q ∙ by_guest (guest_among g pool.resources q)
  where
    done_in : ℕ → Option Domain → Option Moment
    done_in n o = elim (elim o as (λ _. Option Vcpu) [ None ↦ None | Some x ↦ slice_get x.vcpus n ]) as (λ _. Option Moment) [ None ↦ None | Some x ↦ done_moment x ]

    by_domain : (n : ℕ) (o : Option Domain) → done_in n o ≡ done_in n (option_map f o)
    by_domain n None = refl
    by_domain n (Some x) = ap (λ (vcpus : List Vcpu). elim (slice_get vcpus n) as (λ _. Option Moment) [ None ↦ None | Some y ↦ done_moment y ]) (sym (same x))

    by_guest : (o : Option VcpuId) → done_by pool.domains o ≡ done_by (change_at d f pool.domains) o
    by_guest None = refl
    by_guest (Some w) = elim (ℕ_discrete w.dom.0 d) [
      | no other ↦ ap (done_in w.n) (sym (at_place-change_at_other d w.dom.0 f pool.domains other))
      | yes e ↦ subst (λ (k : ℕ). done_in w.n (at_place pool.domains k) ≡ done_in w.n (at_place (change_at d f pool.domains) k)) (sym e) (by_domain w.n (at_place pool.domains d) ∙ ap (done_in w.n) (sym (at_place-change_at d f pool.domains)))
    ]

works_withdrawn : (g d : ℕ) (works : List (Option Moment)) (pool : Pool) → AreWorks g works pool → AreWorks g works (withdrawn_pool d pool)
works_withdrawn g d works pool are =
    works_each g (λ (r : ℕ) (c : Resource). cond (is_domain_unit d c.cur) (pending_core c) c) works (record pool { scheduler = policy.scheduler_without_queued d pool.scheduler })
    (λ r c. by_cond (λ (x : Resource). x.processors ≡ c.processors) (is_domain_unit d c.cur) (pending_core c) c (λ is. refl) (λ is. refl)) are

pub works_pause : (g d : ℕ) (works : List (Option Moment)) (pool : Pool) → AreWorks g works pool → AreWorks g works (paused_pool d pool)
works_pause g d works pool are =
    by_cond (AreWorks g works) (test_at pool.domains d (λ domain. domain.paused)) _ _ (λ is. are)
    (λ is. works_withdrawn g d works (change_domain d (λ domain. record domain { paused = true }) pool) (works_domain g d (λ domain. record domain { paused = true }) works pool (λ x. refl) are))

pub works_moving : (g d i : ℕ) (works : List (Option Moment)) (pool : Pool) → AreWorks g works pool → AreWorks g works (pool_with_moving d i pool)
works_moving g d i works pool are =
    works_withdrawn g d works (change_domain d (λ domain. record domain { moving = Some (pool_number i) }) pool) (works_domain g d (λ domain. record domain { moving = Some (pool_number i) }) works pool (λ x. refl) are)

pub works_unpause : (g d : ℕ) (works : List (Option Moment)) (pool : Pool) → AreWorks g works pool → AreWorks g works (unpaused_pool g d pool)
works_unpause g d works pool are =
    by_option (AreWorks g works) (at_place pool.domains d) _ _ (λ is. are)
    (λ domain is. by_cond (AreWorks g works) domain.paused _ _
    (λ paused. queued_same (AreWorks g works) (λ a b domains cores here q. here q ∙ ap (λ rs. done_by a.domains (guest_among g rs q)) (sym cores) ∙ ap (λ ds. done_by ds (guest_among g b.resources q)) (sym domains)) g d (numbers_from 0 (domain_unit_count g domain))
    (change_domain d (λ x. record x { paused = false }) pool) (works_domain g d (λ x. record x { paused = false }) works pool (λ x. refl) are))
    (λ paused. are))

-- the cores that a change of parameters makes decide anew keep their processors
pub works_changed : (g t : ℕ) (change : ParamChange) (works : List (Option Moment)) (pool : Pool) → AreWorks g works pool → AreWorks g works (changed_pool change t pool)
works_changed g t (changes.Dom d weight None) works pool are = are
works_changed g t (changes.Dom d weight (Some cap)) works pool are =
    works_each g (λ (r : ℕ) (c : Resource). cond (is_domain_unit d.0 c.cur) (record c { pending = true; due = Some (moment t) }) c) works (record pool { scheduler = policy.changed_scheduler (changes.Dom d weight (Some cap)) t pool.scheduler })
    (λ r c. by_cond (λ (x : Resource). x.processors ≡ c.processors) (is_domain_unit d.0 c.cur) (record c { pending = true; due = Some (moment t) }) c (λ is. refl) (λ is. refl)) are
works_changed g t (changes.Rate limit) works pool are = are
works_changed g t (changes.«Unit» u period budget extra) works pool are = are
works_changed g t (changes.Frame frame) works pool are =
    works_each g (λ (r : ℕ) (c : Resource). pending_core c) works (record pool { scheduler = policy.changed_scheduler (changes.Frame frame) t pool.scheduler }) (λ r c. refl) are
works_changed g t (changes.Pin d unit cores) works pool are = are

-- the state after such a change at t
pub changed_kept : (t0 t : ℕ) (guests : GuestsSeen) (cores after : CoresSeen) (s s2 : SchedulerSeen) (change : ParamChange) → IsKept t0 guests cores s → t0 ≤ t → t ≤ most_span → pool_of guests after s2 ≡ changed_pool change t (pool_of guests cores s)
    → after ≡ record cores { resources = after.resources } → s2.spare ≡ s.spare → s2.latest ≡ t → IsKept t guests after s2
changed_kept t0 t guests cores after s s2 change keeps past early is cores_are spare latest = record {
  linked = record {
    granularity = ap (λ (x : CoresSeen). x.granularity) cores_are ∙ keeps.linked.granularity;
    guests_latest = (let l = keeps.linked.guests_latest in omega (arith, l, past));
    scheduler_latest = omega (arith, latest);
    early = early;
    spare = (let a = keeps.linked.spare in omega (arith, a, spare));
    works = subst (λ (p : Pool). AreWorks guests.granularity after.works p) (sym is) (subst (λ (ws : List (Option Moment)). AreWorks guests.granularity ws (changed_pool change t (pool_of guests cores s))) (sym (ap (λ (x : CoresSeen). x.works) cores_are)) (works_changed guests.granularity t change cores.works (pool_of guests cores s) keeps.linked.works));
  };
  pool = subst (λ (p : Pool). Holds guests.granularity t p) (sym is) (kept_changes guests.granularity t change (pool_of guests cores s) (later guests.granularity t0 t (pool_of guests cores s) past keeps.pool));
}
