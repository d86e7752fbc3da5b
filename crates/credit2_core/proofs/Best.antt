-- Where none was pinned, the first unit that may run is the best for each core.
use Rattle.std.proofs.Common.{◌≡◌, ◌<◌, ◌≤◌, ◌+◌, ◌-◌, ℕ, Bool, true, false, not, List, refl, ap, sym, ◌∙◌, arith}
use Rattle.std.specs.Prelude.{Option, Some, None, is_some, option_map, ◌&&◌, ◌||◌, int_lt, nat_lt, ℤ}
use Rattle.std.specs.List.{list_any}
use Rattle.sched_base.specs.declared.UnitId.{UnitId}
use Rattle.sched_model.specs.declared.state.Credit2Records.{Credit2Records}
use Rattle.sched_model.specs.Policy.{has_better_waiting}
use Rattle.sched_model.specs.EligibleUnits.{is_allowed_by}
use Rattle.sched_model.specs.Credit2.{is_rate_limited, most_weight, change_unit, burned_unit, unit_credit, has_domain_budget, has_more_credit}
use Rattle.arrival_queue.specs.Queues.{Queued}
use Rattle.queue_laws.specs.Arrivals.{arrivals}
use Rattle.sched_ops.specs.Affinity.{is_member_among}
use Rattle.credit2_core.specs.declared.state.Credit2State.{Credit2State}
use Rattle.credit2_core.specs.declared.run_queue.Ready.{Ready}
use Rattle.credit2_core.specs.Choice.{may_take, best_of, HasBest}
use Rattle.credit2_core.specs.Credit2State.{IsSound, scheduler_in}
use Rattle.credit2_core.specs.Whole.{IsReadyIn}
use Rattle.credit2_core.proofs.Choosing.{some_passes, better_passes}
use Rattle.credit2_core.proofs.Kept.{free_allows, first_has}
use Rattle.credit2_core.proofs.Lists.{queued_have}
use Rattle.credit2_core.proofs.Waiting.{IsOrdered, first_greatest, first_of_both}

-- the first has this credit, and each core may take it
pub has_best : (h : Credit2State) (ready : Ready) (u : UnitId) → IsSound h → IsReadyIn h ready → IsOrdered h.queue.units → h.unpinned ≡ true → ready.first ≡ Some u → HasBest (arrivals h.queue.units) h.affinity h.records (unit_credit h.records u)
has_best h ready u sound kept ordered free first core home low =
    let es : List Queued = h.queue.units in
    let found = sym kept.first ∙ first in
    let joined : is_member_among h.affinity u ≡ true =
    first_has (λ w. is_member_among h.affinity w ≡ true) (has_domain_budget h.records) es u (queued_have (λ w. is_member_among h.affinity w ≡ true) es sound.line.joined) found
    in
    let best : best_of (arrivals es) h.affinity home core h.records ≡ Some u =
    sym (first_greatest h.records (may_take h.affinity home core h.records) es ordered sound.line.keys)
    ∙ first_of_both (is_allowed_by h.affinity home core) (has_domain_budget h.records) es u found (free_allows h.unpinned h.affinity home core u sound.free free joined low)
    in
    ap (option_map (unit_credit h.records)) best

some_there : (records : Credit2Records) (credit : ℤ) (o : Option UnitId) → option_map (unit_credit records) o ≡ Some credit → is_some o ≡ true
some_there records credit None is = absurd cc
some_there records credit (Some u) is = refl

less_than_best : (records : Credit2Records) (within : Bool) (burned credit : ℤ) (o : Option UnitId) → option_map (unit_credit records) o ≡ Some credit → elim o as (λ _. Bool) [ None ↦ false | Some u ↦ within && int_lt burned (unit_credit records u) ] ≡ (within && int_lt burned credit)
less_than_best records within burned credit None is = absurd cc
less_than_best records within burned credit (Some u) is = ap (λ (c : ℤ). within && int_lt burned c) (same_some is)
  where
    same_some : {a b : ℤ} → Some a ≡ Some b → a ≡ b
    same_some same = cc

module _ (h : Credit2State) (credit : ℤ) (best : HasBest (arrivals h.queue.units) h.affinity h.records credit) where
  -- a core without a unit
  pub some_waits : (since t core home : ℕ) → core < 64 → true ≡ has_better_waiting None since t core home (scheduler_in h)
  some_waits since t core home low =
      sym (some_there h.records credit (best_of (arrivals h.queue.units) h.affinity home core h.records) (best core home low))
      ∙ some_passes h.records (may_take h.affinity home core h.records) (arrivals h.queue.units)

  -- a core with a unit that may be there
  pub better_waits_by : (own : UnitId) (since t core home : ℕ) → core < 64 → IsSound h → h.unpinned ≡ true → is_member_among h.affinity own ≡ true
      → (not (is_rate_limited h.records since t) && int_lt (unit_credit (change_unit own (burned_unit (most_weight h.records) t) h.records) own) credit) ≡ has_better_waiting (Some own) since t core home (scheduler_in h)
  better_waits_by own since t core home low sound free joined =
      let p : UnitId → Bool = may_take h.affinity home core h.records in
      let within : Bool = not (is_rate_limited h.records since t) in
      let burned : ℤ = unit_credit (change_unit own (burned_unit (most_weight h.records) t) h.records) own in
      let any : Bool = list_any (λ w. p w && has_more_credit h.records own since t w) (arrivals h.queue.units) in
      let allowed : is_allowed_by h.affinity home core own ≡ true = free_allows h.unpinned h.affinity home core own sound.free free joined low in
      sym (less_than_best h.records within burned credit (best_of (arrivals h.queue.units) h.affinity home core h.records) (best core home low))
      ∙ better_passes h.records within burned p (arrivals h.queue.units)
      ∙ ap (λ (b : Bool). not b || any) (sym allowed)

-- a unit that started so early has run for the rate limit
pub has_run : (since t started limit : ℕ) → started ≡ (t + 1) - limit → since ≤ t → since < started → nat_lt (t - since) limit ≡ false
has_run since t started limit is past early = grind (arith, is, past, early)

-- and one that did not has not
pub has_not_run : (since t started limit : ℕ) → started ≡ (t + 1) - limit → since ≤ t → started ≤ since → nat_lt (t - since) limit ≡ true
has_not_run since t started limit is past late = grind (arith, is, past, late)
