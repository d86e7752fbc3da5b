-- Where no unit waits of a domain that may run, and none was pinned, no core is to decide anew.
use Rattle.std.proofs.Common.{◌≡◌, ◌<◌, ◌≤◌, ◌+◌, ◌-◌, ◌*◌, ℕ, zero, suc, Bool, true, false, not, List, length, refl, ap, sym, ◌∙◌, arith}
use Rattle.std.specs.Prelude.{Option, Some, None, is_some, ◌&&◌, ◌||◌, int_lt}
use Rattle.std.specs.List.{list_any}
use Rattle.sched_base.specs.declared.UnitId.{UnitId}
use Rattle.sched_model.specs.declared.state.Resource.{Resource}
use mir.Val.{bool_byte}
use Rattle.sched_model.specs.State.{has_core_bit}
use Rattle.sched_model.specs.Places.{at_place}
use Rattle.sched_model.specs.Policy.{has_better_waiting}
use Rattle.sched_model.specs.EligibleUnits.{is_allowed_by}
use Rattle.sched_model.specs.Credit2.{is_rate_limited, most_weight, change_unit, burned_unit, unit_credit, has_domain_budget, has_more_credit}
use Rattle.sched_laws.specs.EachPlace.{EachPlace}
use Rattle.sched_laws.proofs.EachPlace.{place_below}
use Rattle.sched_ops.specs.Conditions.{IsOwnOf}
use Rattle.sched_ops.specs.WantedCores.{MayAsk, is_core_wanted}
use Rattle.sched_ops.proofs.Bits.{front_first, front_rest}
use Rattle.queue_laws.specs.Arrivals.{arrivals}
use Rattle.credit2_core.specs.declared.state.Credit2State.{Credit2State}
use Rattle.credit2_core.specs.declared.run_queue.Ready.{Ready}
use Rattle.credit2_core.specs.Choice.{may_take, best_of}
use Rattle.credit2_core.specs.Credit2State.{IsSound, scheduler_in}
use Rattle.credit2_core.specs.Whole.{IsReadyIn}
use Rattle.credit2_core.proofs.Choosing.{some_passes, better_passes}
use Rattle.credit2_core.proofs.Kept.{free_allows}
use Rattle.credit2_core.proofs.Waiting.{IsOrdered, first_greatest, first_of_none}
use Rattle.std.proofs.Math.Bool.{and-false}

-- no unit is ready, and each may be on every core
pub record IsQuiet (h : Credit2State) (ready : Ready) : Type 0 where
  pub sound : IsSound h
  pub kept : IsReadyIn h ready
  pub ordered : IsOrdered h.queue.units
  pub none : ready.first ≡ None
  pub free : h.unpinned ≡ true

module _ (h : Credit2State) (ready : Ready) (quiet : IsQuiet h ready) where
  best_none : (home core : ℕ) → best_of (arrivals h.queue.units) h.affinity home core h.records ≡ None
  best_none home core =
      sym (first_greatest h.records (may_take h.affinity home core h.records) h.queue.units quiet.ordered quiet.sound.line.keys)
      ∙ first_of_none (is_allowed_by h.affinity home core) (has_domain_budget h.records) h.queue.units (sym quiet.kept.first ∙ quiet.none)

  none_better : (cur : Option UnitId) (since t core home : ℕ) → core < 64 → IsOwnOf (scheduler_in h) cur → has_better_waiting cur since t core home (scheduler_in h) ≡ false
  none_better None since t core home low own = sym (some_passes h.records (may_take h.affinity home core h.records) (arrivals h.queue.units)) ∙ ap is_some (best_none home core)
  none_better (Some u) since t core home low own =
      let p : UnitId → Bool = may_take h.affinity home core h.records in
      let within : Bool = not (is_rate_limited h.records since t) in
      let burned = unit_credit (change_unit u (burned_unit (most_weight h.records) t) h.records) u in
      let any : Bool = list_any (λ w. p w && has_more_credit h.records u since t w) (arrivals h.queue.units) in
      let allowed : is_allowed_by h.affinity home core u ≡ true = free_allows h.unpinned h.affinity home core u quiet.sound.free quiet.free (own u refl).member low in
      ap (λ (b : Bool). not b || any) allowed
      ∙ sym (better_passes h.records within burned p (arrivals h.queue.units))
      ∙ ap (λ (o : Option UnitId). elim o as (λ _. Bool) [ None ↦ false | Some w ↦ within && int_lt burned (unit_credit h.records w) ]) (best_none home core)

  pub none_wanted : (cores : List (Option Resource)) (t home r : ℕ) → length cores ≤ 64 → EachPlace (MayAsk t (scheduler_in h)) cores → is_core_wanted t home (scheduler_in h) r (at_place cores r) ≡ false
  none_wanted cores t home r few asks = by_place (at_place cores r) refl
    where
      by_place : (o : Option Resource) → at_place cores r ≡ o → is_core_wanted t home (scheduler_in h) r o ≡ false
      by_place None is = refl
      by_place (Some c) is =
          let below = place_below cores r c is in
          ap (λ (b : Bool). not c.leaving && not c.pending && b) (none_better c.cur c.since.0 t r home (omega (arith, below, few)) (asks r c is).own)
          ∙ and-false (not c.leaving && not c.pending)

-- one place more at the front of a set
pub bits_before : (is : ℕ → Bool) (r set : ℕ) (b : Bool) → ((k : ℕ) → has_core_bit set k ≡ is (r + k)) → 0 < r → b ≡ is (r - 1) → (k : ℕ) → has_core_bit (2 * set + bool_byte b) k ≡ is (r - 1 + k)
bits_before is r set b rest some here zero = (let same : r - 1 ≡ r - 1 + 0 = omega arith in front_first set b ∙ here ∙ ap is same)
bits_before is r set b rest some here (suc k) = (let same : r + k ≡ r - 1 + suc k = omega (arith, some) in front_rest set b k ∙ rest k ∙ ap is same)
