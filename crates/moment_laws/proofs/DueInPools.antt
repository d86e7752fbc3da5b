-- What is to come of a pool falls by one with each wake, block, end of a slice, replenishment and refill, and grows with no event of the pool.
use Rattle.std.proofs.Common.{◌≡◌, ◌≤◌, ◌<◌, ◌+◌, ◌-◌, ◌*◌, ◌/◌, ◌%◌, ℕ, zero, suc, Bool, true, false, not, List, [], ◌∷◌, refl, arith, ap, subst, sym, ◌∙◌, inl, inr, length, mod-lt}
use Rattle.std.specs.Prelude.{Option, Some, None, is_some, nat_le, slice_get, slice_index_or, option_map, min, ◌==◌, ◌&&◌, ◌||◌}
use Rattle.std.specs.List.{AllByRecursion}
use Rattle.std.proofs.lemmas.List.Elements.{recursion_from_All}
use Rattle.std.proofs.lemmas.Nat.{div-add-mod'}
use Rattle.std.proofs.lemmas.Option.{slice_get_cases, slice_get_within}
use Rattle.std.proofs.lemmas.Bool.{and_from}
use Rattle.sched_base.specs.Credit2Numbers.{refill_span}
use Rattle.sched_base.specs.Numbers.{moment, span, core, processor, has_moment_come, one_if}
use Rattle.sched_base.specs.declared.Moment.{Moment}
use Rattle.sched_base.specs.declared.Span.{Span}
use Rattle.sched_base.specs.declared.UnitId.{UnitId}
use Rattle.sched_base.specs.declared.VcpuId.{VcpuId}
use Rattle.sched_model.specs.declared.action.Action.{Action}
use Rattle.sched_model.specs.declared.action.Action.TheVariants.{Wake, Block, Slice, Repl, Refill, Arrive, Decide, Leave, Save}
use Rattle.sched_model.specs.declared.machine.Machine.{Machine}
use Rattle.sched_model.specs.declared.state.Credit2Domain.{Credit2Domain}
use Rattle.sched_model.specs.declared.state.Doing.TheVariants.{Idle, Held}
use Rattle.sched_model.specs.declared.state.Domain.{Domain}
use Rattle.sched_model.specs.declared.state.Pool.{Pool}
use Rattle.sched_model.specs.declared.state.Records.{Records}
use Rattle.sched_model.specs.declared.state.Records.TheVariants.{Credit2Pool, RtdsPool}
use Rattle.sched_model.specs.declared.state.Resource.{Resource}
use Rattle.sched_model.specs.declared.state.RtdsUnit.{RtdsUnit}
use Rattle.sched_model.specs.declared.state.Vcpu.{Vcpu}
use Rattle.sched_model.specs.CheckedMachine.{IsChecked, IsCheckedDomain, IsCheckedScript, IsWithin, most_span}
use Rattle.sched_model.specs.Places.{at_place, change_item, has_listed_unit}
use Rattle.sched_model.specs.State.{may_unit_run}
use Rattle.sched_model.specs.Opening.{machine_core_count}
use Rattle.sched_model.specs.EligibleUnits.{Decision, rtds_unit_at}
use Rattle.sched_model.specs.Credit2 as credit2
use Rattle.sched_model.specs.Rtds as rtds
use Rattle.sched_model.specs.Policy as policy
use Rattle.sched_model.specs.Policy.{decision_of, unit_rtds_record}
use Rattle.sched_model.specs.Pool as pools
use Rattle.sched_model.specs.Pool.{enabled_in, after_in, settled_pool, change_core, change_processor, change_vcpu, with_doing, is_first_processor_up, pool_vcpu, running_guest, pool_processor, done_moment, core_ask, decided_core, same_choice}
use Rattle.sched_laws.proofs.Events.{kept_opened}
use Rattle.sched_base.proofs.Bools.{and_left, and_right, clash}
use Rattle.sched_base.proofs.Lists.{each_get}
use Rattle.sched_laws.proofs.Counts.{total-change_at, total-put_at}
use Rattle.sched_laws.specs.Counts.{total}
use Rattle.sched_laws.proofs.EachPlace.{by_cond, by_option, by_test}
use Rattle.sched_laws.proofs.Lists.{some-test_at}
use Rattle.state_ranges.proofs.Rtds.{fit_unit}
use Rattle.state_ranges.specs.Fits.{RtdsFits}
use Rattle.state_ranges.proofs.RecordRanges.{RecordsFit, replenish_fits}
use Rattle.state_ranges.proofs.Vcpus.{VcpuFits}
use Rattle.state_ranges.proofs.RangesWalk.{DomFits, PoolFits}
use Rattle.moment_laws.proofs.Sums.{how_many_changed}
use Rattle.moment_laws.proofs.DueEvents.{of_pool, of_core, of_domain, of_credit2, of_rtds, of_records, is_overdue, is_ripe, ends_by, is_deadline_due, is_refill_due, less_commands, less_core, less_processor, less_settled, less_started_on, less_stopped, pending_none}
use Rattle.moment_laws.proofs.LaterDues.{DecidesLater, IsReady, decides_later, burned_deadline}
use Rattle.moment_laws.proofs.Tests.{or_later}

-- what an event takes away at least
abbrev pub takes : Action → ℕ
takes (Wake v) = 1
takes (Block p) = 1
takes (Slice r) = 1
takes (Repl u) = 1
takes (Refill d) = 1
takes _ = 0

-- a vCPU of the pool, with its script
pub record Scripted (t : ℕ) (pool : Pool) (v : VcpuId) (x : Vcpu) : Type 0 where
  domain : Domain
  at : at_place pool.domains v.dom.0 ≡ Some domain
  get : slice_get domain.vcpus v.n ≡ Some x
  script : List Span
  is_checked : IsCheckedScript script
  fits : VcpuFits t script x

pub span_there : (script : List Span) → IsCheckedScript script → (n : ℕ) → n < length script → 1 ≤ (slice_index_or script n (span 0)).0
span_there script is n low = of_spans script n low (recursion_from_All (λ (s : Span). IsWithin 1 most_span s.0) script is.spans)
  where
    of_spans : (xs : List Span) (n : ℕ) → n < length xs → AllByRecursion (λ (s : Span). IsWithin 1 most_span s.0) xs → 1 ≤ (slice_index_or xs n (span 0)).0
    of_spans [] n low each = absurd (omega (arith, low))
    of_spans (x ∷ xs) zero low each = each.0.least
    of_spans (x ∷ xs) (suc n) low each = of_spans xs n (omega (arith, low)) each.1

module _ (m : Machine) (checked : IsChecked m) (t : ℕ) (pool : Pool) (fits : PoolFits m t pool) where
  scripted : (v : VcpuId) (x : Vcpu) → pool_vcpu pool v ≡ Some x → Scripted t pool v x
  scripted v x = by_option (λ (o : Option Vcpu). o ≡ Some x → Scripted t pool v x) (at_place pool.domains v.dom.0) _ _ (λ none e. absurd (cc))
      (λ d at get. (
      let here : DomFits m t v.dom.0 d = fits.domains v.dom.0 d at in
      let same = here.count in
      let domain : IsCheckedDomain m.config here.config = each_get (IsCheckedDomain m.config) m.config.domains v.dom.0 here.config (recursion_from_All (IsCheckedDomain m.config) m.config.domains checked.config.domains) here.at in
      elim (slice_get_cases here.config.guests v.n).1 [
        | inl script ↦ record {
          domain = d;
          at = at;
          get = get;
          script = script.0;
          is_checked = each_get IsCheckedScript here.config.guests v.n script.0 (recursion_from_All IsCheckedScript here.config.guests domain.scripts) script.2;
          fits = here.vcpus v.n x script.0 get script.2;
        }
        | inr past ↦ absurd (
            let low = slice_get_within d.vcpus v.n x get in
            let p = past.0 in
            omega (arith, low, p, same))
      ]))

  -- a ripe vCPU that is ripe no more
  lower_vcpu : (v : VcpuId) (f : Vcpu → Vcpu) (x : Vcpu) → Scripted t pool v x → is_ripe t x ≡ true → is_ripe t (f x) ≡ false → of_pool t (change_vcpu v f pool) + 1 ≤ of_pool t pool
  lower_vcpu v f x s ripe no_more =
      let h : Domain → Domain = λ d. record d { vcpus = change_item v.n f d.vcpus } in
      let d : Domain = s.domain in
      let a = total-change_at (of_domain t) v.dom.0 h pool.domains d s.at in
      let b = how_many_changed (is_ripe t) v.n f d.vcpus x s.get in
      let c = ap one_if ripe in
      let e = ap one_if no_more in
      omega (arith, a, b, c, e)

  span_some : (script : List Span) → IsCheckedScript script → (n : ℕ) (w : Span) → slice_get script n ≡ Some w → 1 ≤ w.0
  span_some script is n w get = (each_get (λ (s : Span). IsWithin 1 most_span s.0) script n w (recursion_from_All (λ (s : Span). IsWithin 1 most_span s.0) script is.spans) get).least

  -- a sleeper that wakes, and a vCPU that falls asleep
  wakes_ripe : (v : VcpuId) (x : Vcpu) → Scripted t pool v x → has_moment_come t x.asleep_until ≡ true → (is_ripe t x ≡ true) × (is_ripe t (pools.woken_vcpu x) ≡ false)
  wakes_ripe v x s come = by_sleep x.asleep_until refl
    where
      not_ripe : (o : Option Span) → ((w : Span) → o ≡ Some w → 1 ≤ w.0) → ends_by t None o ≡ false
      not_ripe None some = refl
      not_ripe (Some w) some = (let a = some w refl in grind (arith, a))

      by_sleep : (o : Option Moment) → x.asleep_until ≡ o → (is_ripe t x ≡ true) × (is_ripe t (pools.woken_vcpu x) ≡ false)
      by_sleep None is = absurd (let e : has_moment_come t None ≡ true = subst (λ (o : Option Moment). has_moment_come t o ≡ true) is come in cc)
      by_sleep (Some until) is = (
        ap (λ (o : Option Moment). elim o as (λ _. Bool) [ None ↦ ends_by t x.started x.work_left | Some k ↦ nat_le k.0 t ]) is ∙ sym (ap (has_moment_come t) is) ∙ come,
        ap (λ (o : Option Moment). ends_by t o (slice_get x.script ((x.place + 1) % length x.script))) (s.fits.still until is)
            ∙ not_ripe (slice_get x.script ((x.place + 1) % length x.script)) (λ w get. span_some s.script s.is_checked ((x.place + 1) % length x.script) w (subst (λ (xs : List Span). slice_get xs ((x.place + 1) % length x.script) ≡ Some w) s.fits.follows get)),
      )

  sleeps_ripe : (v : VcpuId) (x : Vcpu) → Scripted t pool v x → has_moment_come t (done_moment x) ≡ true → (is_ripe t x ≡ true) × (is_ripe t (pools.put_to_sleep t x) ≡ false)
  sleeps_ripe v x s come = by_start x.started refl x.work_left refl x.asleep_until refl
    where
      Goal : Type 0
      Goal = (is_ripe t x ≡ true) × (is_ripe t (pools.put_to_sleep t x) ≡ false)

      by_start : (from : Option Moment) → x.started ≡ from → (work : Option Span) → x.work_left ≡ work → (sleep : Option Moment) → x.asleep_until ≡ sleep → Goal
      by_start None is work is2 sleep is3 = absurd (let e : has_moment_come t (done_moment x) ≡ false = ap (λ (o : Option Moment). has_moment_come t (elim o as (λ _. Option Moment) [ None ↦ None | Some from ↦ elim x.work_left as (λ _. Option Moment) [ None ↦ None | Some w ↦ Some (moment (from.0 + w.0)) ] ])) is in cc)
      by_start (Some from) is None is2 sleep is3 = absurd (
          let e : has_moment_come t (done_moment x) ≡ false = ap (λ (o : Option Moment). has_moment_come t (elim o as (λ _. Option Moment) [ None ↦ None | Some from ↦ elim x.work_left as (λ _. Option Moment) [ None ↦ None | Some w ↦ Some (moment (from.0 + w.0)) ] ])) is
          ∙ ap (λ (o : Option Span). has_moment_come t (elim o as (λ _. Option Moment) [ None ↦ None | Some w ↦ Some (moment (from.0 + w.0)) ])) is2 in cc)
      by_start (Some from) is (Some work) is2 (Some until) is3 = absurd (let e : None ≡ Some from = sym (s.fits.still until is3) ∙ is in cc)
      by_start (Some from) is (Some work) is2 None is3 = (
          let done : has_moment_come t (done_moment x) ≡ nat_le (from.0 + work.0) t = ap (λ (o : Option Moment). has_moment_come t (elim o as (λ _. Option Moment) [ None ↦ None | Some from ↦ elim x.work_left as (λ _. Option Moment) [ None ↦ None | Some w ↦ Some (moment (from.0 + w.0)) ] ])) is
          ∙ ap (λ (o : Option Span). has_moment_come t (elim o as (λ _. Option Moment) [ None ↦ None | Some w ↦ Some (moment (from.0 + w.0)) ])) is2 in
          let ripe : is_ripe t x ≡ (work.0 == 0 || nat_le (from.0 + work.0) t) = ap (λ (o : Option Moment). elim o as (λ _. Bool) [ None ↦ ends_by t x.started x.work_left | Some k ↦ nat_le k.0 t ]) is3 ∙ ap (λ (o : Option Moment). ends_by t o x.work_left) is ∙ ap (ends_by t (Some from)) is2 in
          let some = s.fits.worth work is2 in
          let place : (x.place % 2 ≡ 0) × (x.place < length s.script) = elim (s.fits.awake is3) [ inl none ↦ (let z = none.0 in absurd (omega (arith, z, some))) | inr even ↦ even ] in
          let even = s.is_checked.even in
          let p = place.0 in
          let q = place.1 in
          let there = span_there s.script s.is_checked (x.place + 1) (omega (arith, p, q, even)) in
          let there2 : 1 ≤ (slice_index_or x.script (x.place + 1) (span 0)).0 = subst (λ (xs : List Span). 1 ≤ (slice_index_or xs (x.place + 1) (span 0)).0) (sym s.fits.follows) there in
          (ripe ∙ or_later (work.0 == 0) (sym done ∙ come), not_come (slice_index_or x.script (x.place + 1) (span 0)).0 there2))
        where
          not_come : (k : ℕ) → 1 ≤ k → nat_le (t + k) t ≡ false
          not_come k some = grind (arith, some)

  abbrev g : ℕ
  g = m.config.granularity

  less_siblings : (v : VcpuId) (old : Pool) → of_pool t (pools.joined_siblings g t v old) ≤ of_pool t old
  less_siblings v old =
      let Q : Pool → Type 0 = λ next. of_pool t next ≤ of_pool t old in
      by_option Q (pools.unit_core old (pools.vcpu_unit g v)) _ _ (λ is. omega arith)
      (λ r is. by_option Q (pool_processor g old (r * g + v.n % g)) _ _ (λ is2. omega arith)
      (λ q is2. by_cond Q (pools.is_idling q) _ _ (λ idle. less_started_on t g (r * g + v.n % g) v old) (λ idle. omega arith)))

  wakes : (v : VcpuId) → enabled_in g t pool (Wake v) ≡ true → of_pool t (pools.after_wake g t v pool) + 1 ≤ of_pool t pool
  wakes v = by_option (λ (b : Bool). b ≡ true → of_pool t (pools.after_wake g t v pool) + 1 ≤ of_pool t pool) (pool_vcpu pool v) _ _ (λ none e. absurd (cc))
      (λ x at come. (
      let s = scripted v x at in
      let r = wakes_ripe v x s come in
      let next : Pool = change_vcpu v pools.woken_vcpu pool in
      let here : of_pool t next + 1 ≤ of_pool t pool = lower_vcpu v pools.woken_vcpu x s r.0 r.1 in
      let Q : Pool → Type 0 = λ (p : Pool). of_pool t p + 1 ≤ of_pool t pool in
      by_test Q (may_unit_run g next (pools.vcpu_unit g v)) _ _
      (λ runs. by_cond Q (pools.is_unit_off next (pools.vcpu_unit g v)) _ _ (λ off. here) (λ off. (let a = less_siblings v next in omega (arith, a, here)))) (λ runs. here)))

  blocks : (p : ℕ) → enabled_in g t pool (Block (processor p)) ≡ true → of_pool t (after_in g t pool (Block (processor p))) + 1 ≤ of_pool t pool
  blocks p on = by_guest (running_guest g pool p) refl (and_left (elim (running_guest g pool p) as (λ _. Bool) [ None ↦ false | Some v ↦ elim (pool_vcpu pool v) as (λ _. Bool) [ None ↦ false | Some x ↦ has_moment_come t (done_moment x) ] ]) _ on)
    where
      with_guest : (v : VcpuId) (o : Option Vcpu) → pool_vcpu pool v ≡ o → elim o as (λ _. Bool) [ None ↦ false | Some x ↦ has_moment_come t (done_moment x) ] ≡ true → of_pool t (pools.after_block g t p v pool) + 1 ≤ of_pool t pool
      with_guest v None at e = absurd (cc)
      with_guest v (Some x) at come =
          let s = scripted v x at in
          let r = sleeps_ripe v x s come in
          let slept : Pool = change_vcpu v (pools.put_to_sleep t) pool in
          let next : Pool = change_processor g p (with_doing Idle) slept in
          let here = lower_vcpu v (pools.put_to_sleep t) x s r.0 r.1 in
          let idle = less_processor t g p (with_doing Idle) slept in
          by_cond (λ (q : Pool). of_pool t q + 1 ≤ of_pool t pool) (may_unit_run g next (pools.vcpu_unit g v)) next _ (λ runs. omega (arith, here, idle))
          (λ runs. (let marked = less_core t (p / g) (λ c. record c { pending = true }) next (λ c e. absurd (clash _ e (pending_none t (record c { pending = true }) refl))) in omega (arith, here, idle, marked)))

      by_guest : (o : Option VcpuId) → running_guest g pool p ≡ o → elim o as (λ _. Bool) [ None ↦ false | Some v ↦ elim (pool_vcpu pool v) as (λ _. Bool) [ None ↦ false | Some x ↦ has_moment_come t (done_moment x) ] ] ≡ true
          → of_pool t (elim o as (λ _. Pool) [ None ↦ pool | Some v ↦ pools.after_block g t p v pool ]) + 1 ≤ of_pool t pool
      by_guest None is e = absurd (cc)
      by_guest (Some v) is e = with_guest v (pool_vcpu pool v) refl e

  slices : (r : ℕ) → enabled_in g t pool (Slice (core r)) ≡ true → of_pool t (after_in g t pool (Slice (core r))) + 1 ≤ of_pool t pool
  slices r on =
      let found = some-test_at pool.resources r (λ c. has_moment_come t c.due && not c.pending && is_first_processor_up t c) on in
      let c : Resource = found.0 in
      let f : Resource → Resource = λ x. record x { pending = true } in
      let a = total-change_at (of_core t) r f pool.resources c found.1 in
      let before = ap one_if (and_left (is_overdue t c) (is_first_processor_up t c) found.2) in
      let after = ap one_if (pending_none t (f c) refl) in
      omega (arith, a, before, after)

  -- a replenishment: the unit's next deadline is later, and its core asks again no sooner
  next_later : (deadline period : ℕ) → 0 < period → t < deadline + period * ((t - deadline) / period + 1)
  next_later deadline period some =
      let q : ℕ = (t - deadline) / period in
      let d : q * period + (t - deadline) % period ≡ t - deadline = div-add-mod' (t - deadline) period in
      let low : (t - deadline) % period < period = mod-lt (t - deadline) some in
      let e : period * (q + 1) ≡ q * period + period = grind arith in
      omega (arith, d, low, e)

  burned_next : (x : RtdsUnit) → (rtds.unit_burned_to t x).next_period ≡ x.next_period
  burned_next x = by_option (λ (y : RtdsUnit). y.next_period ≡ x.next_period) x.burned _ _ (λ is. refl) (λ from is. refl)

  renewed_later : (x : RtdsUnit) → RtdsFits t x → is_deadline_due t (rtds.unit_after_replenish t x) ≡ false
  renewed_later x fit =
      let least = fit.next_period.least in
      let later : t < x.deadline + x.next_period * ((t - x.deadline) / x.next_period + 1) = next_later x.deadline x.next_period (omega (arith, least)) in
      let same : (rtds.unit_after_replenish t x).deadline ≡ x.deadline + x.next_period * ((t - x.deadline) / x.next_period + 1) =
      ap (λ (n : ℕ). n + (rtds.unit_burned_to t x).next_period * ((t - n) / (rtds.unit_burned_to t x).next_period + 1)) (burned_deadline t x) ∙ ap (λ (n : ℕ). x.deadline + n * ((t - x.deadline) / n + 1)) (burned_next x) in
      ap (λ n. nat_le n t) same ∙ not_yet _ later
    where
      not_yet : (n : ℕ) → t < n → nat_le n t ≡ false
      not_yet n low = grind arith

  renews : (xs : List (Option (List RtdsUnit))) → pool.scheduler.records ≡ RtdsPool xs → (u : UnitId) (o : Option RtdsUnit) → rtds_unit_at xs u ≡ o → elim o as (λ _. Bool) [ None ↦ false | Some x ↦ nat_le x.deadline t ] ≡ true
      → total (of_rtds t) (rtds.change_unit u (rtds.unit_after_replenish t) xs) + 1 ≤ total (of_rtds t) xs
  renews xs is u None at due = absurd (cc)
  renews xs is u (Some x) at due =
      let records : RecordsFit (length m.config.domains) (machine_core_count m.config) t (RtdsPool xs) = subst (RecordsFit (length m.config.domains) (machine_core_count m.config) t) is fits.records in
      let fit : RtdsFits t x = fit_unit t xs u x at records.units in
      by_option (λ (o : Option RtdsUnit). o ≡ Some x → total (of_rtds t) (rtds.change_unit u (rtds.unit_after_replenish t) xs) + 1 ≤ total (of_rtds t) xs) (at_place xs u.dom.0) _ _ (λ none e. absurd (cc))
      (λ units at2 get. (
      let a = total-change_at (of_rtds t) u.dom.0 (change_item u.n (rtds.unit_after_replenish t)) xs units at2 in
      let b = how_many_changed (is_deadline_due t) u.n (rtds.unit_after_replenish t) units x get in
      let before = ap one_if due in
      let after = ap one_if (renewed_later x fit) in
      omega (arith, a, b, before, after))) at

  replenishes : (u : UnitId) (records : Records) → pool.scheduler.records ≡ records → policy.is_replenish_due records t u ≡ true → of_records t (policy.records_after_replenish records t u) + 1 ≤ of_records t records
  replenishes u (RtdsPool xs) is due = renews xs is u (rtds_unit_at xs u) refl due
  replenishes u records is due = absurd (cc)

  -- the budget of a record
  budget_some : (u : UnitId) (x : RtdsUnit) (records : Records) → RecordsFit (length m.config.domains) (machine_core_count m.config) t records → unit_rtds_record records u ≡ Some x → 0 < x.budget
  budget_some u x (RtdsPool xs) fit is = (let a = (fit_unit t xs u x is fit.units).budget.least in omega (arith, a))
  budget_some u x records fit is = absurd (cc)

  within_overdue : (budget : ℕ) (c : Resource) → 0 < budget → is_overdue t (pools.due_within t budget c) ≡ true → is_overdue t c ≡ true
  within_overdue budget c some = by_due c.due
    where
      sooner : (due : ℕ) → nat_le (min (t + budget) due) t ≡ true → nat_le due t ≡ true
      sooner due is = grind (arith, some, is)

      by_due : (o : Option Moment) → (has_moment_come t (option_map (λ (due : Moment). moment (min (t + budget) due.0)) o) && not c.pending) ≡ true → (has_moment_come t o && not c.pending) ≡ true
      by_due None is = is
      by_due (Some due) is = and_from (nat_le due.0 t) (not c.pending) (sooner due.0 (and_left (nat_le (min (t + budget) due.0) t) _ is)) (and_right (nat_le (min (t + budget) due.0) t) _ is)

  repls : (u : UnitId) → enabled_in g t pool (Repl u) ≡ true → of_pool t (pools.after_replenish t u pool) + 1 ≤ of_pool t pool
  repls u on =
      let due : policy.is_replenish_due pool.scheduler.records t u ≡ true = and_right (has_listed_unit pool.scheduler.queue u || is_some (pools.unit_core pool u)) _ (and_left ((has_listed_unit pool.scheduler.queue u || is_some (pools.unit_core pool u)) && policy.is_replenish_due pool.scheduler.records t u) _ on) in
      let records : Records = policy.records_after_replenish pool.scheduler.records t u in
      let next : Pool = pools.with_records records pool in
      let a = replenishes u pool.scheduler.records refl due in
      let here : of_pool t next + 1 ≤ of_pool t pool = omega (arith, a) in
      let fit : RecordsFit (length m.config.domains) (machine_core_count m.config) t records = replenish_fits (length m.config.domains) (machine_core_count m.config) t pool.scheduler.records u due fits.records in
      let Q : Pool → Type 0 = λ (p : Pool). of_pool t p + 1 ≤ of_pool t pool in
      by_option Q (pools.unit_core pool u) _ _ (λ is. here)
      (λ r is. by_option Q (unit_rtds_record records u) _ _ (λ is2. here)
      (λ x is2. (let b = less_core t r (pools.due_within t x.budget) next (λ c e. within_overdue x.budget c (budget_some u x records fit is2) e) in omega (arith, here, b))))

  -- a refill
  refilled_later : (most : ℕ) (d : Credit2Domain) (o : Option ℕ) → d.refill ≡ o → has_moment_come t (option_map moment o) ≡ true → (is_refill_due t d.refill ≡ true) × (is_refill_due t (credit2.domain_after_refill most t d).refill ≡ false)
  refilled_later most d None is come = absurd (cc)
  refilled_later most d (Some due) is come = (
    ap (is_refill_due t) is ∙ come,
    ap (λ (o : Option ℕ). is_refill_due t (elim o as (λ _. Option ℕ) [ None ↦ None | Some k ↦ Some (k + elim o as (λ _. ℕ) [ None ↦ 0 | Some from ↦ (t - from) / refill_span + 1 ] * refill_span) ])) is ∙ not_yet,
  )
    where
      not_yet : nat_le (due + ((t - due) / 10000000 + 1) * 10000000) t ≡ false
      not_yet =
          let q : ℕ = (t - due) / 10000000 in
          let d : q * 10000000 + (t - due) % 10000000 ≡ t - due = div-add-mod' (t - due) 10000000 in
          let low : (t - due) % 10000000 < 10000000 = mod-lt (t - due) (omega arith) in
          let e : t < due + (q + 1) * 10000000 = omega (arith, d, low) in
          is_later (due + (q + 1) * 10000000) e
        where
          is_later : (n : ℕ) → t < n → nat_le n t ≡ false
          is_later n low = grind arith

  refills_by : (d : ℕ) (records : Records) → has_moment_come t (policy.next_refill_moment records d) ≡ true → of_records t (policy.records_after_refill records t d) + 1 ≤ of_records t records
  refills_by d (Credit2Pool rs) come =
      by_option (λ (o : Option Moment). has_moment_come t o ≡ true → of_records t (policy.records_after_refill (Credit2Pool rs) t d) + 1 ≤ of_records t (Credit2Pool rs)) (at_place rs.domains d) _ _ (λ none e. absurd (cc))
      (λ x at e. (
      let r = refilled_later (credit2.most_weight rs) x x.refill refl e in
      let a = total-change_at (of_credit2 t) d (credit2.domain_after_refill (credit2.most_weight rs) t) rs.domains x at in
      let before = ap one_if r.0 in
      let after = ap one_if r.1 in
      omega (arith, a, before, after))) come
  refills_by d records come = absurd (cc)

  -- the other events
  arrives : (p : ℕ) → of_pool t (pools.after_arrive g t p pool) ≤ of_pool t pool
  arrives p =
      by_option (λ (next : Pool). of_pool t (change_processor g p (with_doing Held) next) ≤ of_pool t pool) (running_guest g pool p) _ _
      (λ is. less_processor t g p (with_doing Held) pool)
      (λ v is. (let a = less_stopped t v pool in let b = less_processor t g p (with_doing Held) (change_vcpu v (pools.stopped_vcpu t) pool) in omega (arith, a, b)))

  leaves : (p : ℕ) (c : Resource) → of_pool t (pools.after_leave g t p c pool) ≤ of_pool t pool
  leaves p c =
      let opened : (old : Pool) → of_pool t (change_core (p / g) pools.reopened_core old) ≤ of_pool t old = λ old. kept_opened (less_commands t g (of_pool t old)) (p / g) old (omega arith) in
      by_option (λ (next : Pool). of_pool t (change_core (p / g) pools.reopened_core next) ≤ of_pool t pool) (pools.vcpu_to_run g pool c (p % g)) _ _
      (λ is. (let next : Pool = change_processor g p (with_doing Idle) pool in let a = less_processor t g p (with_doing Idle) pool in let b = opened next in omega (arith, a, b)))
      (λ v is. (let next : Pool = pools.started_on g t p v pool in let a = less_started_on t g p v pool in let b = opened next in omega (arith, a, b)))

  saves : (r : ℕ) (u : UnitId) → of_pool t (pools.after_save g r u pool) ≤ of_pool t pool
  saves r u =
      let next : Pool = change_core r pools.saved_core pool in
      let a = less_core t r pools.saved_core pool (λ c e. e) in
      by_cond (λ (p : Pool). of_pool t p ≤ of_pool t pool) (may_unit_run g pool u) (pools.queue_unit u next) next (λ is. omega (arith, a)) (λ is. omega (arith, a))

  decides : (r : ℕ) (c : Resource) → at_place pool.resources r ≡ Some c → IsReady (core_ask g t pool r c) pool.scheduler.queue pool.scheduler.records → of_pool t (pools.after_decide g t r c pool) ≤ of_pool t pool
  decides r c at ready =
      let decision : Decision = decision_of (core_ask g t pool r c) pool.scheduler in
      let d : DecidesLater t pool.scheduler.records decision = decides_later (core_ask g t pool r c) pool.scheduler ready in
      let next : Resource = decided_core t decision c in
      let none : is_overdue t next ≡ false = by_test (λ (x : Resource). is_overdue t x ≡ false) (same_choice decision.unit c.cur) _ _ (λ is. ap (λ b. b && true) d.due) (λ is. ap (λ b. b && true) d.due) in
      let a = total-put_at (of_core t) r next c pool.resources at in
      let zero_is = ap one_if none in
      let records = d.records in
      omega (arith, a, zero_is, records)

  -- whatever happens in the pool
  pub acts : ((r : ℕ) (c : Resource) → at_place pool.resources r ≡ Some c → IsReady (core_ask g t pool r c) pool.scheduler.queue pool.scheduler.records)
      → (action : Action) → enabled_in g t pool action ≡ true → of_pool t (after_in g t pool action) + takes action ≤ of_pool t pool
  acts ready (Wake v) on = wakes v on
  acts ready (Block p) on = blocks p.0 on
  acts ready (Slice r) on = slices r.0 on
  acts ready (Repl u) on = repls u on
  acts ready (Refill d) on = (let a = refills_by d.0 pool.scheduler.records (and_left (has_moment_come t (policy.next_refill_moment pool.scheduler.records d.0)) _ on) in omega (arith, a))
  acts ready (Arrive p) on = (let a = arrives p.0 in omega (arith, a))
  acts ready (Decide r) on = by_option (λ (next : Pool). of_pool t next + 0 ≤ of_pool t pool) (at_place pool.resources r.0) _ _ (λ is. omega arith) (λ c at. (let a = decides r.0 c at (ready r.0 c at) in omega (arith, a)))
  acts ready (Leave p) on = by_option (λ (next : Pool). of_pool t next + 0 ≤ of_pool t pool) (at_place pool.resources (p.0 / g)) _ _ (λ is. omega arith) (λ c at. (let a = leaves p.0 c in omega (arith, a)))
  acts ready (Save r) on = by_option (λ (next : Pool). of_pool t next + 0 ≤ of_pool t pool) (at_place pool.resources r.0) _ _ (λ is. omega arith)
      (λ c at. by_option (λ (next : Pool). of_pool t next + 0 ≤ of_pool t pool) c.saving _ _ (λ is. omega arith) (λ u is. (let a = saves r.0 u in omega (arith, a))))
  acts ready action on = omega arith

  pub acts_settled : ((r : ℕ) (c : Resource) → at_place pool.resources r ≡ Some c → IsReady (core_ask g t pool r c) pool.scheduler.queue pool.scheduler.records)
      → (action : Action) → enabled_in g t pool action ≡ true → of_pool t (settled_pool t (after_in g t pool action)) + takes action ≤ of_pool t pool
  acts_settled ready action on = (let a = acts ready action on in let b = less_settled t (after_in g t pool action) in omega (arith, a, b))
