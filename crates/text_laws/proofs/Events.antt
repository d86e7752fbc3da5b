-- The numbers of the events of a pool.
use Rattle.std.proofs.Common.{◌≡◌, ◌<◌, ◌≤◌, ◌+◌, ◌*◌, ◌/◌, ◌%◌, ◌^◌, ℕ, Bool, true, false, not, refl, arith, subst, sym, length, inl, inr}
use Rattle.std.specs.Prelude.{Option, Some, None, is_some, is_none, unwrap_or, slice_get, ◌&&◌, ◌||◌}
use Rattle.std.specs.List.{list_any, list_all}
use Rattle.std.specs.Option.{IfSome}
use Rattle.std.proofs.lemmas.Bool.{or_cases}
use Rattle.sched_base.specs.Numbers.{span, core, pool as pool_number, domain, has_moment_come}
use Rattle.sched_base.specs.declared.Span.{Span}
use Rattle.sched_base.specs.declared.PoolId.{PoolId}
use Rattle.sched_base.specs.declared.UnitId.{UnitId}
use Rattle.sched_base.specs.declared.VcpuId.{VcpuId}
use Rattle.sched_model.specs.declared.machine.Machine.{Machine}
use Rattle.sched_model.specs.declared.action.Action.{Action}
use Rattle.sched_model.specs.declared.action.Action.TheVariants.{Stall, Xl, Moved, DomMoved, Wake, Block, Slice, Repl, Refill, Arrive, Decide, Leave, Save}
use Rattle.sched_model.specs.declared.ask.Ask.{Ask}
use Rattle.sched_model.specs.declared.event.Event.{Event}
use Rattle.sched_model.specs.declared.event.Event.TheVariants as event
use Rattle.sched_model.specs.declared.state.Pool.{Pool}
use Rattle.sched_model.specs.declared.state.Domain.{Domain}
use Rattle.sched_model.specs.declared.state.Resource.{Resource}
use Rattle.sched_model.specs.declared.state.Processor.{Processor}
use Rattle.sched_model.specs.declared.state.Vcpu.{Vcpu}
use Rattle.sched_model.specs.declared.state.RtdsUnit.{RtdsUnit}
use Rattle.sched_model.specs.Places.{at_place, numbered_items, test_at, is_unit, has_listed_unit}
use Rattle.sched_model.specs.State.{may_unit_run, is_awake, is_not_stalled}
use Rattle.sched_model.specs.Opening.{machine_core_count}
use Rattle.sched_model.specs.EligibleUnits.{Decision}
use Rattle.sched_model.specs.Policy as policy
use Rattle.sched_model.specs.Policy.{decision_of}
use Rattle.sched_model.specs.Pool as pools
use Rattle.sched_model.specs.Pool.{enabled_in, event_in, core_ask, running_guest, pool_processor, pool_vcpu, is_gathering, is_held_back, is_first_processor_up, is_lowest_processor_up, lateness, saving_among, done_moment, is_domain_unit}
use Rattle.sched_model.specs.CheckedMachine.{IsChecked, most_span}
use Rattle.sched_base.proofs.Bools.{and_left, and_right}
use Rattle.sched_laws.proofs.EachPlace.{by_option, by_cond, found_at}
use Rattle.sched_laws.proofs.Lists.{some-test_at, some_is}
use Rattle.sched_laws.proofs.Choices.{at_unit, is_unit_same, decision_has}
use Rattle.sched_laws.specs.PoolFacts.{IfUnit}
use Rattle.state_ranges.specs.Ranges.{IsUnitOf, PoolInRange}
use Rattle.state_ranges.specs.Fits.{RtdsFits}
use Rattle.state_ranges.proofs.RecordRanges.{DecisionFits, decision_fits, replenish_fits}
use Rattle.state_ranges.proofs.RangesWalk.{CoreFits, PoolFits}
use Rattle.sched_print.specs.Ranges.{IsMoment, IsPool, IsUnit, IsVcpu, IsPrintableEvent}
use Rattle.text_laws.proofs.Numbers.{processor_low, unit_low, if_unit_low, domain_low, core_inside, core_low, vcpu_low}
use Rattle.text_laws.proofs.Judged.{record_fits}
use Rattle.text_laws.proofs.Decided.{decision_resets, refill_low}

or_other : {X : Type 0} (P : X → Type 0) (o : Option X) (other : X) → IfSome o P → P other → P (unwrap_or o other)
or_other P None other here there = there
or_other P (Some x) other here there = here

if_some : {X : Type 0} (P : X → Type 0) (o : Option X) → ((x : X) → o ≡ Some x → P x) → IfSome o P
if_some P None all = tt
if_some P (Some x) all = all x refl

module _ (m : Machine) (checked : IsChecked m) (t : ℕ) (pool : Pool) (low : t ≤ most_span) (range : PoolInRange m t pool) (fits : PoolFits m t pool) (movers : (d : ℕ) (x : Domain) (j : PoolId) → at_place pool.domains d ≡ Some x → x.moving ≡ Some j → IsPool j) where
  abbrev g : ℕ
  g = m.config.granularity

  -- a core that passes a test, and the core of a processor
  tested_low : (r : ℕ) (test : Resource → Bool) → test_at pool.resources r test ≡ true → r < 64
  tested_low r test passes = let x = some-test_at pool.resources r test passes in core_low m checked t pool range r x.0 x.1

  tested_processor : (p : ℕ) (test : Resource → Bool) → test_at pool.resources (p / g) test ≡ true → p < 64
  tested_processor p test passes = let x = some-test_at pool.resources (p / g) test passes in processor_low m checked p (core_inside m checked t pool range (p / g) x.0 x.1)

  there_processor : (p : ℕ) → elim (pool_processor g pool p) as (λ _. Bool) [ None ↦ false | Some q ↦ is_not_stalled t q ] ≡ true → p < 64
  there_processor p up = by_core (at_place pool.resources (p / g)) refl up
    where
      by_core : (o : Option Resource) → at_place pool.resources (p / g) ≡ o → elim (elim o as (λ _. Option Processor) [ None ↦ None | Some c ↦ slice_get c.processors (p % g) ]) as (λ _. Bool) [ None ↦ false | Some q ↦ is_not_stalled t q ] ≡ true → p < 64
      by_core None at is = absurd (cc)
      by_core (Some c) at is = processor_low m checked p (core_inside m checked t pool range (p / g) c at)

  -- a vCPU of which something is known
  there_vcpu : (v : VcpuId) (test : Vcpu → Bool) → elim (pool_vcpu pool v) as (λ _. Bool) [ None ↦ false | Some x ↦ test x ] ≡ true → IsVcpu v
  there_vcpu v test passes = by_vcpu (pool_vcpu pool v) refl passes
    where
      by_vcpu : (o : Option Vcpu) → pool_vcpu pool v ≡ o → elim o as (λ _. Bool) [ None ↦ false | Some x ↦ test x ] ≡ true → IsVcpu v
      by_vcpu None at is = absurd (cc)
      by_vcpu (Some x) at is = vcpu_low m checked t pool range v x at

  guest_low : (o : Option VcpuId) → elim o as (λ _. Bool) [ None ↦ false | Some v ↦ elim (pool_vcpu pool v) [ None ↦ false | Some x ↦ has_moment_come t (done_moment x) ] ] ≡ true → IsVcpu (unwrap_or o pools.absent_vcpu)
  guest_low None is = absurd (cc)
  guest_low (Some v) is = there_vcpu v (λ x. has_moment_come t (done_moment x)) is

  -- the vCPU that a processor takes
  taken_low : (p : ℕ) → IfSome (pools.taken_at g pool p) IsVcpu
  taken_low p =
      let Q : Option VcpuId → Type 0 = λ o. IfSome o IsVcpu in
      by_option Q (at_place pool.resources (p / g)) _ _ (λ none. tt)
      (λ c at. by_option Q c.cur _ _ (λ none. tt)
      (λ u own.
      let v : VcpuId = record { dom = u.dom; n = u.n * g + p % g } in
      by_option Q (pool_vcpu pool v) _ _ (λ none. tt)
      (λ x has. by_cond Q (may_unit_run g pool u && is_awake x) (Some v) None (λ may. vcpu_low m checked t pool range v x has) (λ may. tt))))

  -- the unit that a core saves
  saved_low : (r : ℕ) → IsUnit (pools.saved_at pool r)
  saved_low r =
      or_other IsUnit (saving_among pool.resources r) pools.no_unit
      (by_option (λ (o : Option UnitId). IfSome o IsUnit) (at_place pool.resources r) _ _ (λ none. tt) (λ c at. if_unit_low m checked c.saving (fits.cores r c at).saving))
      (omega arith, omega arith)

  -- a unit that is replenished
  queued_low : (u : UnitId) → (has_listed_unit pool.scheduler.queue u || is_some (pools.unit_core pool u)) ≡ true → IsUnit u
  queued_low u is = unit_low m checked u (elim (or_cases (has_listed_unit pool.scheduler.queue u) (is_some (pools.unit_core pool u)) is) [
    | inl waits ↦ at_unit (IsUnitOf m) u pool.scheduler.queue waits fits.queue
    | inr runs ↦ (
        let r = some_is (pools.unit_core pool u) runs in
        let c = found_at r.0 (λ (c : Resource). is_unit c.cur u) pool.resources r.1 in
        subst (IfUnit (IsUnitOf m)) (is_unit_same c.0.cur u c.2) (fits.cores r.0 c.0 c.1).cur)
  ])

  repl_printable : (u : UnitId) → enabled_in g t pool (Repl u) ≡ true → IsPrintableEvent (event_in g t pool (Repl u))
  repl_printable u on =
      let first = and_left ((has_listed_unit pool.scheduler.queue u || is_some (pools.unit_core pool u)) && policy.is_replenish_due pool.scheduler.records t u) (is_lowest_processor_up t pool) on in
      let due = and_right (has_listed_unit pool.scheduler.queue u || is_some (pools.unit_core pool u)) (policy.is_replenish_due pool.scheduler.records t u) first in
      let records = replenish_fits (length m.config.domains) (machine_core_count m.config) t pool.scheduler.records u due fits.records in
      let next : (x : RtdsUnit) → pools.replenished_unit t u pool ≡ Some x → RtdsFits t x = λ x is. record_fits (length m.config.domains) (machine_core_count m.config) t (policy.records_after_replenish pool.scheduler.records t u) u x records is in (
        queued_low u (and_left (has_listed_unit pool.scheduler.queue u || is_some (pools.unit_core pool u)) (policy.is_replenish_due pool.scheduler.records t u) first),
        by_option IsMoment (pools.replenished_unit t u pool) _ _ (λ none. omega arith) (λ x is. (let l = (next x is).deadline in omega (arith, l, low))),
        by_option IsMoment (pools.replenished_unit t u pool) _ _ (λ none. omega arith) (λ x is. (let l = (next x is).deadline in omega (arith, l, low))),
        by_option (λ (s : Span). s.0 < 2 ^ 63) (pools.replenished_unit t u pool) _ _ (λ none. omega arith) (λ x is. (let l = (next x is).budget.most in omega (arith, l))),
      )

  refill_printable : (d : ℕ) → enabled_in g t pool (Refill (domain d)) ≡ true → IsPrintableEvent (event_in g t pool (Refill (domain d)))
  refill_printable d on =
      let here = refill_low m checked t d pool.scheduler.records low range.records (and_left (has_moment_come t (policy.next_refill_moment pool.scheduler.records d)) (is_lowest_processor_up t pool) on) in
      (here.domain, here.periods, here.budget)

  -- the decision of a core, and its event, by what stands at its place
  abbrev decision_by_core : ℕ → Option Resource → Decision
  decision_by_core r o = elim o [ None ↦ record { unit = None; due = None; reset = 0; records = pool.scheduler.records } | Some c ↦ decision_of (core_ask g t pool r c) pool.scheduler ]

  abbrev decided_by_core : ℕ → Option Resource → Event
  decided_by_core r o =
      event.Decide (core r) (decision_by_core r o).unit (decision_by_core r o).due (elim o [ None ↦ span 0 | Some c ↦ span (lateness t c) ]) (decision_by_core r o).reset

  decide_printable : (r : ℕ) → enabled_in g t pool (Decide (core r)) ≡ true → IsPrintableEvent (event_in g t pool (Decide (core r)))
  decide_printable r on =
      let x = some-test_at pool.resources r (λ c. list_all is_held_back c.processors && is_gathering c && is_first_processor_up t c) on in
      let c : Resource = x.0 in
      let ask : Ask = core_ask g t pool r c in
      let here : CoreFits m t c = fits.cores r c x.1 in
      let good : DecisionFits (length m.config.domains) (machine_core_count m.config) t (decision_of ask pool.scheduler) = decision_fits (length m.config.domains) (machine_core_count m.config) pool.scheduler.records ask pool.scheduler refl fits.records in
      let unit : IfUnit (IsUnitOf m) (decision_of ask pool.scheduler).unit = decision_has (IsUnitOf m) ask pool.scheduler fits.queue (λ u own runs. subst (IfUnit (IsUnitOf m)) own here.cur) in
      let late : lateness t c < 2 ^ 63 = by_option (λ (n : ℕ). n < 2 ^ 63) c.due _ _ (λ none. omega arith) (λ due is. omega (arith, low)) in
      subst (λ (o : Option Resource). IsPrintableEvent (decided_by_core r o)) (sym x.1) (
        core_low m checked t pool range r c x.1,
        if_unit_low m checked (decision_of ask pool.scheduler).unit unit,
        if_some IsMoment (decision_of ask pool.scheduler).due (λ a is. (let l = good.due a is in omega (arith, l, low))),
        late,
        decision_resets (length m.config.domains) (machine_core_count m.config) pool.scheduler.records ask pool.scheduler low fits.records,
      )

  -- each event of the pool that may come
  pub pool_printable : (action : Action) → enabled_in g t pool action ≡ true → IsPrintableEvent (event_in g t pool action)
  pool_printable Stall on = absurd (cc)
  pool_printable Xl on = absurd (cc)
  pool_printable (Moved r) on = (tested_low r.0 _ on, tt)
  pool_printable (DomMoved d) on =
      let moves = some-test_at pool.domains d.0 (λ x. is_some x.moving) (and_left (test_at pool.domains d.0 (λ x. is_some x.moving)) (not (list_any (λ e. is_domain_unit d.0 e.1.cur || is_domain_unit d.0 e.1.saving) (numbered_items 0 pool.resources))) on) in (
        domain_low m checked t pool range d.0 moves.0 moves.1,
        by_option IsPool (at_place pool.domains d.0) _ _ (λ none. omega arith) (λ x at. or_other IsPool x.moving (pool_number 0) (if_some IsPool x.moving (λ j is. movers d.0 x j at is)) (omega arith)),
      )
  pool_printable (Wake v) on = there_vcpu v (λ x. has_moment_come t x.asleep_until) on
  pool_printable (Block p) on =
      let guest = elim (running_guest g pool p.0) as (λ _. Bool) [ None ↦ false | Some v ↦ elim (pool_vcpu pool v) [ None ↦ false | Some x ↦ has_moment_come t (done_moment x) ] ] in
      let up = elim (pool_processor g pool p.0) as (λ _. Bool) [ None ↦ false | Some q ↦ is_not_stalled t q ] in
      (there_processor p.0 (and_right guest up on), guest_low (running_guest g pool p.0) (and_left guest up on))
  pool_printable (Slice r) on = tested_low r.0 _ on
  pool_printable (Repl u) on = repl_printable u on
  pool_printable (Refill d) on = refill_printable d.0 on
  pool_printable (Arrive p) on = tested_processor p.0 _ (and_left (test_at pool.resources (p.0 / g) (λ c. c.pending && is_gathering c && is_none c.saving)) _ on)
  pool_printable (Decide r) on = decide_printable r.0 on
  pool_printable (Leave p) on = (tested_processor p.0 _ (and_left (test_at pool.resources (p.0 / g) (λ c. not (is_gathering c))) _ on), taken_low p.0)
  pool_printable (Save r) on = (tested_low r.0 _ on, saved_low r.0)
