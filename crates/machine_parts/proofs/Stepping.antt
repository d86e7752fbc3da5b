-- All places of a machine, of which one pool has done an event.
use mathlib.Core.Logic.{dite}
use native.Mathlib.Decide.{ℕ_discrete}
use Rattle.std.proofs.Common.{◌≡◌, ◌∙◌, ℕ, ◌<◌, true, List, length, sym, ap, subst, arith, length-set, get_or-set_other}
use Rattle.std.specs.Prelude.{Option, Some, None, slice_set}
use Rattle.std.proofs.lemmas.Grind.{get_or-set_at}
use Rattle.sched_base.specs.Numbers.{moment}
use Rattle.sched_model.specs.declared.action.Action.{Action}
use Rattle.sched_model.specs.declared.event.Event.{Event}
use Rattle.sched_model.specs.declared.event.Entry.{Entry}
use Rattle.sched_model.specs.Actions.{IsOfPool, home_pool_of_action}
use Rattle.sched_model.specs.Machine.{is_action_enabled, event_of, after}
use Rattle.sched_model.specs.Places.{at_place}
use Rattle.sched_laws.proofs.EachPlace.{place_below}
use Rattle.journal_core.specs.Parts.{pool_part, part_of}
use Rattle.pool_core.specs.Seen.{Seen}
use Rattle.machine_parts.specs.Told.{Told, told_more}
use Rattle.machine_parts.specs.Places.{AllStand, GoesOn, HasStepped, SlotSuits, StandsAt, state_of}
use Rattle.machine_parts.proofs.Going.{entry-is, range-of, state-on}
use Rattle.machine_parts.proofs.AtHome.{comes-there}
use Rattle.machine_parts.proofs.Standing.{here-on, other-on, stepped}
use Rattle.machine_parts.proofs.Rooming.{some-out}

module _ (w : Told) (goes : GoesOn w) (t : ℕ) (now : t ≡ (state_of w).now) (action : Action) (own : IsOfPool action) (on : is_action_enabled w.input (state_of w) (state_of w).now action ≡ true) (i : ℕ) (home : home_pool_of_action w.input.config.granularity (state_of w) action ≡ Some i) where
  -- the pool is one of the 16
  pub few-pools : i < 16
  few-pools = (let comes = comes-there w goes action i on home in let below = place_below (state_of w).pools i comes.pool comes.at in let places = (range-of w goes).pool_places in omega (arith, below, places))

  module _ (event : Event) (ev : event ≡ event_of w.input (state_of w) (state_of w).now action) where
    abbrev pub done : Entry
    done = record { at = moment t; event = event }

    is-done : done ≡ record { at = moment (state_of w).now; event = event_of w.input (state_of w) (state_of w).now action }
    is-done = entry-is w action done (ap moment now) ev

    pub state-done : state_of (told_more w done) ≡ after w.input (state_of w) (state_of w).now action
    state-done = state-on w goes action on done is-done

    pub step-done : HasStepped w i (told_more w done)
    step-done = stepped w goes action own on i home done is-done

    pub here-done : (new : Seen) → i < 16 → pool_part (Some new.pool) ≡ part_of (after w.input (state_of w) (state_of w).now action) i → SlotSuits w.input (state_of w).now new → StandsAt (told_more w done) i (Some new)
    here-done new low part suits = here-on w goes action own on i home done is-done (Some new) low part (λ x at. some-out (SlotSuits w.input (state_of w).now) new x at suits)

    pub stand-done : (slots : List (Option Seen)) (new : Option Seen) → AllStand w slots → StandsAt (told_more w done) i new → AllStand (told_more w done) (slice_set slots i new)
    stand-done slots new all here = record {
      count = length-set slots i new ∙ all.count;
      each = λ k low. dite (ℕ_discrete k i)
          (λ (is : k ≡ i).
          let low_here : i < length slots = (let count = all.count in omega (arith, low, is, count)) in
          let same : new ≡ at_place (slice_set slots i new) k = sym (get_or-set_at slots i k new None is low_here) in
          subst (λ (x : Option Seen). StandsAt (told_more w done) k x) same (subst (λ (n : ℕ). StandsAt (told_more w done) n new) (sym is) here))
          (λ ne.
          let same : at_place slots k ≡ at_place (slice_set slots i new) k = sym (get_or-set_other slots i k new None ne) in
          subst (λ (x : Option Seen). StandsAt (told_more w done) k x) same (other-on w goes action own on i home done is-done k (at_place slots k) ne (all.each k low)));
    }
