-- A unit that comes to wait and is not the first makes no core decide anew, where none was pinned.
use Rattle.std.proofs.Common.{◌≡◌, ◌<◌, ◌≤◌, ℕ, Bool, true, false, List, length, refl, ap, sym, subst, ◌∙◌, arith}
use Rattle.std.specs.Prelude.{Option, Some, None, filter, ◌&&◌}
use Rattle.std.specs.List.{AllByRecursion}
use Rattle.sched_base.proofs.Bools.{and_right}
use Rattle.sched_base.specs.declared.UnitId.{UnitId}
use Rattle.sched_model.specs.declared.state.Resource.{Resource}
use Rattle.sched_model.specs.Places.{at_place, has_listed_unit, is_unit}
use Rattle.sched_model.specs.EligibleUnits.{is_allowed_by, is_unit_eligible}
use Rattle.sched_model.specs.Credit2.{has_domain_budget, richest_unit}
use Rattle.sched_laws.specs.PoolFacts.{IfUnit}
use Rattle.sched_laws.proofs.Choices.{at_unit, greatest_has}
use Rattle.sched_laws.proofs.EachPlace.{place_below}
use Rattle.record_laws.proofs.Best.{is_best, none_listed}
use Rattle.record_laws.proofs.Orders.{credit_order, greatest_scan}
use Rattle.settle_laws.proofs.Waiting.{Filtered, filter_has, has_filter}
use Rattle.sched_ops.specs.Affinity.{is_member_among}
use Rattle.sched_ops.specs.Seen.{scheduler_without_unit}
use Rattle.sched_ops.specs.WantedCores.{is_core_wanted}
use Rattle.sched_ops.proofs.Coming.{IsBehind, none_alone}
use Rattle.queue_laws.specs.Arrivals.{arrivals}
use Rattle.credit2_core.specs.declared.state.Credit2State.{Credit2State}
use Rattle.credit2_core.specs.declared.run_queue.Ready.{Ready}
use Rattle.credit2_core.specs.Credit2State.{IsSound, scheduler_in}
use Rattle.credit2_core.specs.Whole.{IsReadyIn}
use Rattle.credit2_core.proofs.Kept.{free_allows}
use Rattle.credit2_core.proofs.Lists.{each_has, same_unit-swap}
use Rattle.credit2_core.proofs.Waiting.{IsOrdered, first_greatest}

-- none was pinned, and the unit is not the first of a domain that may run
pub record IsLater (h : Credit2State) (ready : Ready) (u : UnitId) : Type 0 where
  pub sound : IsSound h
  pub kept : IsReadyIn h ready
  pub ordered : IsOrdered h.queue.units
  pub free : h.unpinned ≡ true
  pub other : is_unit ready.first u ≡ false

module _ (h : Credit2State) (ready : Ready) (u : UnitId) (later : IsLater h ready u) where
  abbrev may_run : UnitId → Bool
  may_run = has_domain_budget h.records

  -- the units that wait of domains that may run
  abbrev units : List UnitId
  units = filter may_run (arrivals h.queue.units)

  first_is : ready.first ≡ richest_unit h.records None units
  first_is = later.kept.first ∙ first_greatest h.records may_run h.queue.units later.ordered later.sound.line.keys

  each_waits : AllByRecursion (Filtered may_run (arrivals h.queue.units)) units
  each_waits = each_has units (Filtered may_run (arrivals h.queue.units)) (filter_has may_run (arrivals h.queue.units))

  behind : (home core t : ℕ) → core < 64 → has_listed_unit (arrivals h.queue.units) u ≡ true → is_unit_eligible (scheduler_in h) home core t u ≡ true → IsBehind (scheduler_in h) home core t u
  behind home core t low waits may = by_first ready.first refl
    where
      there : has_listed_unit units u ≡ true
      there = has_filter may_run (arrivals h.queue.units) u waits (and_right (is_allowed_by h.affinity home core u) (may_run u) may)

      by_first : (o : Option UnitId) → ready.first ≡ o → IsBehind (scheduler_in h) home core t u
      by_first None none = absurd (none_listed (credit_order h.records) (greatest_scan h.records) None u units there (sym first_is ∙ none))
      by_first (Some w) some =
          let best : richest_unit h.records None units ≡ Some w = sym first_is ∙ some in
          let found : Filtered may_run (arrivals h.queue.units) w = subst (IfUnit (Filtered may_run (arrivals h.queue.units))) best (greatest_has (Filtered may_run (arrivals h.queue.units)) h.records None units tt each_waits) in
          let joined : is_member_among h.affinity w ≡ true = at_unit (λ x. is_member_among h.affinity x ≡ true) w (arrivals h.queue.units) found.waits later.sound.line.joined in
          record {
            other = w;
            waits = found.waits;
            apart = same_unit-swap w u (sym (ap (λ (o : Option UnitId). is_unit o u) some) ∙ later.other);
            may = ap (λ (b : Bool). b && may_run w) (free_allows h.unpinned h.affinity home core w later.sound.free later.free joined low) ∙ found.passes;
            after = (is_best (credit_order h.records) (greatest_scan h.records) None units w best).none_better u there;
          }

  pub none_comes : (cores : List (Option Resource)) (t home r : ℕ) → length cores ≤ 64 → is_core_wanted t home (scheduler_without_unit u (scheduler_in h)) r (at_place cores r) ≡ false → is_core_wanted t home (scheduler_in h) r (at_place cores r) ≡ false
  none_comes cores t home r few none =
      none_alone t home (scheduler_in h) u r (at_place cores r) none (λ c at waits may. behind home r t (let below = place_below cores r c at in omega (arith, below, few)) waits may)
