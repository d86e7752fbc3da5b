-- Where nothing may come in the machine, no pool has a first event, so the next moment of each is kept.
use Rattle.std.proofs.Common.{◌≡◌, ◌∙◌, ℕ, true, false, List, refl, sym, ap, subst, arith}
use Rattle.std.specs.Prelude.{Option, Some, None, IfNone}
use Rattle.sched_base.specs.declared.Moment.{Moment}
use Rattle.sched_model.specs.declared.action.Action.{Action}
use Rattle.sched_model.specs.declared.event.Entry.{Entry}
use Rattle.sched_model.specs.declared.machine.Machine.{Machine}
use Rattle.sched_model.specs.declared.state.State.{State}
use Rattle.sched_model.specs.Actions.{candidates}
use Rattle.sched_model.specs.CheckedMachine.{IsChecked}
use Rattle.sched_model.specs.Machine.{first_enabled_action, is_action_enabled}
use Rattle.sched_model.specs.Places.{at_place}
use Rattle.sched_model.specs.Pool.{enabled_in}
use Rattle.sched_model.specs.Runs.{IsRun}
use Rattle.sched_laws.specs.StateLaws.{state_after}
use Rattle.composition_laws.specs.OrderLaws.{ComesInPool}
use Rattle.composition_laws.proofs.Candidates.{is_candidate}
use Rattle.composition_laws.proofs.Home.{pool_is_home}
use Rattle.composition_laws.proofs.Members.{Has-from_contains}
use Rattle.composition_laws.proofs.Sorted.{none_if_none_found}
use Rattle.cpupool.specs.Tool.{Tool}
use Rattle.pool_laws.specs.FirstEvents.{IsFirst, IsFirstEnabled}
use Rattle.pool_core.specs.Seen.{Seen}
use Rattle.machine_parts.specs.Places.{SlotSuits, state_of}
use Rattle.machine_parts.specs.Told.{Told}
use Rattle.sched_laws.proofs.EachPlace.{place_below}
use Rattle.machine_parts.proofs.Going.{range-of, state_of-is}
use Rattle.machine_parts.proofs.Standing.{pool_at}
use Rattle.machine_parts.proofs.AtPlaces.{pool-anywhere}
use Rattle.machine_parts.specs.Parts.{AreFirsts, AreNexts, AreParts, IsNextOfPlace}

-- no event of a pool may come where no action may
nothing-comes : (m : Machine) (checked : IsChecked m) (entries : List Entry) (run : IsRun m entries) (t i : ℕ) (action : Action) → ComesInPool m (state_after m entries) t i action → first_enabled_action m (state_after m entries) t ≡ None → ⊥
nothing-comes m checked entries run t i action comes quiet =
    let on : is_action_enabled m (state_after m entries) t action ≡ true = ((pool_is_home m checked entries run i t action).0 comes).enabled in
    let off : is_action_enabled m (state_after m entries) t action ≡ false = none_if_none_found (is_action_enabled m (state_after m entries) t) (candidates m.config) quiet action (Has-from_contains action (candidates m.config) (is_candidate m checked entries run t action on)) in
    (let bad : true ≡ false = sym on ∙ off in absurd (cc bad))

module _ (w : Told) (slots : List (Option Seen)) (tool : Tool) (parts : AreParts w slots tool) (t : ℕ) (now : t ≡ (state_of w).now) (firsts : List (Option Action)) (are : AreFirsts t slots firsts) (quiet : first_enabled_action w.input (state_of w) (state_of w).now ≡ None) where
  suits-at : (k : ℕ) (seen : Seen) → at_place slots k ≡ Some seen → at_place (state_of w).pools k ≡ Some seen.pool → SlotSuits w.input (state_of w).now seen
  suits-at k seen is there = (parts.stand.each k (let low = place_below (state_of w).pools k seen.pool there in let places = (range-of w parts.goes).pool_places in omega (arith, low, places))).suits seen is

  pub quiet-firsts : (k : ℕ) → at_place firsts k ≡ None
  quiet-firsts k = by_first (at_place firsts k) refl
    where
      by_slot : (action : Action) (o : Option Seen) → at_place firsts k ≡ Some action → at_place slots k ≡ o → ⊥
      by_slot action None first is = (let none = are.nothing k is in let bad : (let x : Option Action = Some action in x) ≡ None = sym first ∙ none in absurd (cc bad))
      by_slot action (Some seen) first is =
          let found : IsFirst seen.granularity t seen.pool action = subst (λ (o : Option Action). IsFirstEnabled seen.granularity t seen.pool o) first (are.pool k seen is) in
          let there : at_place (state_of w).pools k ≡ Some seen.pool = pool-anywhere w slots tool parts k ∙ ap pool_at is in
          let g : seen.granularity ≡ w.input.config.granularity = (suits-at k seen is there).granularity in
          let on : enabled_in w.input.config.granularity (state_of w).now seen.pool action ≡ true = subst (λ (n : ℕ). enabled_in w.input.config.granularity n seen.pool action ≡ true) now (subst (λ (n : ℕ). enabled_in n t seen.pool action ≡ true) g found.enabled) in
          subst (λ (s : State). ComesInPool w.input s s.now k action → first_enabled_action w.input s s.now ≡ None → ⊥) (sym (state_of-is w))
          (nothing-comes w.input parts.goes.checked w.history parts.goes.run _ k action) (record { pool = seen.pool; at = there; enabled = on }) quiet

      by_first : (o : Option Action) → at_place firsts k ≡ o → at_place firsts k ≡ None
      by_first None is = is
      by_first (Some action) is = absurd (by_slot action (at_place slots k) is refl)

  -- so the next moment of each pool is kept
  pub quiet-nexts : (nexts : List (Option Moment)) → ((k : ℕ) → at_place firsts k ≡ None → IsNextOfPlace (at_place slots k) (at_place nexts k)) → AreNexts slots nexts
  quiet-nexts nexts kept = record {
    pool = λ k seen is. subst (λ (o : Option Seen). IsNextOfPlace o (at_place nexts k)) is (kept k (quiet-firsts k));
    nothing = λ k is. subst (λ (o : Option Seen). IsNextOfPlace o (at_place nexts k)) is (kept k (quiet-firsts k));
  }

-- what is said where nothing was found says something else
pub none-of : {X : Type 0} (found : Option X) (P Q : Type 0) → (P → Q) → IfNone found P → IfNone found Q
none-of None P Q then is = then is
none-of (Some x) P Q then is = tt
