-- The event of a pool that is a part of the state.
use Rattle.std.proofs.Common.{◌≡◌, ◌≢◌, ◌∙◌, ℕ, ◌<◌, true, refl, sym, ap, subst, ne_eqb, cond, arith}
use Rattle.std.specs.Prelude.{Option, Some, None, option_map}
use Rattle.std.specs.Option.{ForSome}
use Rattle.sched_base.specs.Numbers.{moment}
use Rattle.sched_model.specs.declared.action.Action.{Action}
use Rattle.sched_model.specs.declared.event.Event.{Event}
use Rattle.sched_model.specs.declared.event.Entry.{Entry}
use Rattle.sched_model.specs.declared.machine.Machine.{Machine}
use Rattle.sched_model.specs.declared.state.Pool.{Pool}
use Rattle.sched_model.specs.declared.state.State.{State}
use Rattle.sched_model.specs.Places.{at_place}
use Rattle.sched_model.specs.Pool.{enabled_in, event_in, after_in, settled_pool}
use Rattle.sched_model.specs.Actions.{IsOfPool, home_pool_of_action}
use Rattle.sched_model.specs.Machine.{is_action_enabled, event_of, after}
use Rattle.journal_core.specs.Parts.{StatePart, pool_part, tool_part, tool_of, part_of}
use Rattle.journal_core.specs.Histories.{part_at}
use Rattle.pool_core.specs.Seen.{Seen, IsNow, seen_after}
use Rattle.composition_laws.specs.PoolSteps as steps
use Rattle.composition_laws.proofs.PoolSteps.{pool_step}
use Rattle.composition_laws.specs.OrderLaws.{ComesInPool}
use Rattle.machine_parts.specs.Told.{Told, told_more}
use Rattle.machine_parts.specs.Places.{GoesOn, HasStepped, SlotSuits, StandsAt, slot_part, state_of}
use Rattle.machine_parts.proofs.Going.{part_of-is, early, goes-on, state-on}
use Rattle.machine_parts.proofs.AtHome.{event-there, comes-there}

abbrev pool_in : StatePart → Option Pool
pool_in (pool_part o) = o
pool_in (tool_part t) = None

-- the pool of a place
abbrev pub pool_at : Option Seen → Option Pool
pool_at slot = option_map (λ (seen : Seen). seen.pool) slot

pub slot_part-is : (slot : Option Seen) → slot_part slot ≡ pool_part (pool_at slot)
slot_part-is None = refl
slot_part-is (Some seen) = refl

pub part_below : (s : State) (i : ℕ) → i < 16 → part_of s i ≡ pool_part (at_place s.pools i)
part_below s i low = ap (λ b. cond b (tool_part (tool_of s)) (pool_part (at_place s.pools i))) (ne_eqb i 16 (λ is. omega (arith, is, low)))

-- what the state has at the place
pub stands-there : (w : Told) (i : ℕ) (slot : Option Seen) → StandsAt w i slot → at_place (state_of w).pools i ≡ pool_at slot
stands-there w i slot stands = sym (ap pool_in (sym (slot_part-is slot) ∙ stands.part ∙ part_of-is w i ∙ part_below (state_of w) i stands.place))

module _ (w : Told) (goes : GoesOn w) (i t : ℕ) (now : t ≡ (state_of w).now) (slot : Option Seen) (stands : StandsAt w i slot) where
  abbrev m : Machine
  m = w.input

  abbrev s : State
  s = state_of w

  module _ (action : Action) (own : IsOfPool action) (on : is_action_enabled m s s.now action ≡ true) (home : home_pool_of_action m.config.granularity s action ≡ Some i) where
    comes : ComesInPool m s s.now i action
    comes = comes-there w goes action i on home

    -- there is a pool
    pub has-pool : slot ≡ None → ⊥
    has-pool none = (let at = comes.at in let there : at_place s.pools i ≡ None = stands-there w i slot stands ∙ ap pool_at none in cc)

    module _ (seen : Seen) (here : slot ≡ Some seen) where
      there : at_place s.pools i ≡ Some seen.pool
      there = stands-there w i slot stands ∙ ap pool_at here

      suits : SlotSuits m s.now seen
      suits = stands.suits seen here

      pub is-now : IsNow seen t
      is-now = record { after = (let late = suits.latest in omega (arith, late, now)); early = (let limit = early w goes in omega (arith, limit, now)) }

      pub enabled-slot : enabled_in seen.granularity t seen.pool action ≡ true
      enabled-slot =
          let same : comes.pool ≡ seen.pool = (let at = comes.at in let here = there in cc) in
          subst (λ g. enabled_in g t seen.pool action ≡ true) (sym suits.granularity)
          (subst (λ n. enabled_in m.config.granularity n seen.pool action ≡ true) (sym now) (subst (λ (p : Pool). enabled_in m.config.granularity s.now p action ≡ true) same comes.enabled))

      pub event-slot : (event : Event) → event ≡ event_in seen.granularity t seen.pool action → event ≡ event_of m s s.now action
      event-slot event is =
          is ∙ ap (λ g. event_in g t seen.pool action) suits.granularity ∙ ap (λ n. event_in m.config.granularity n seen.pool action) now
          ∙ sym (event-there m s s.now action i seen.pool own home there)

      left-there : at_place (after m s s.now action).pools i ≡ Some (settled_pool t (after_in seen.granularity t seen.pool action))
      left-there =
          (pool_step m s s.now action i own home).own
          ∙ ap (option_map (λ pool. settled_pool s.now (after_in m.config.granularity s.now pool action))) there
          ∙ ap (λ n. Some (settled_pool n (after_in m.config.granularity n seen.pool action))) (sym now)
          ∙ ap (λ g. Some (settled_pool t (after_in g t seen.pool action))) (sym suits.granularity)

      module _ (new : Seen) (is : new ≡ seen_after t action seen) where
        pub part-slot : pool_part (Some new.pool) ≡ part_of (after m s s.now action) i
        part-slot = ap (λ (x : Seen). pool_part (Some x.pool)) is ∙ ap pool_part (sym left-there) ∙ sym (part_below (after m s s.now action) i stands.place)

        pub suits-slot : SlotSuits m s.now new
        suits-slot = subst (SlotSuits m s.now) (sym is) (record { granularity = suits.granularity; latest = (omega (arith, now)) })

-- after an entry of a pool's event each place is its part
module _ (w : Told) (goes : GoesOn w) (action : Action) (own : IsOfPool action) (on : is_action_enabled w.input (state_of w) (state_of w).now action ≡ true) (i : ℕ) (home : home_pool_of_action w.input.config.granularity (state_of w) action ≡ Some i) (e : Entry) (is : e ≡ record { at = moment (state_of w).now; event = event_of w.input (state_of w) (state_of w).now action }) where
  abbrev next : Told
  next = told_more w e

  changes : steps.ChangesPool w.input (state_of w) (state_of w).now action i
  changes = pool_step w.input (state_of w) (state_of w).now action i own home

  now-on : (state_of w).now ≡ (state_of next).now
  now-on = sym (ap (λ (x : State). x.now) (state-on w goes action on e is) ∙ changes.now)

  part-on : (k : ℕ) → part_at next.input next.history k ≡ part_of (after w.input (state_of w) (state_of w).now action) k
  part-on k = part_of-is next k ∙ ap (λ (x : State). part_of x k) (state-on w goes action on e is)

  pub stepped : HasStepped w i next
  stepped = record { goes = goes-on w goes action on e is; now = sym now-on; others = λ k other. part-on k ∙ changes.others k other ∙ sym (part_of-is w k) }

  suits-on : (slot : Option Seen) → ForSome slot (SlotSuits w.input (state_of w).now) → ForSome slot (SlotSuits w.input (state_of next).now)
  suits-on slot suits = subst (λ n. ForSome slot (SlotSuits w.input n)) now-on suits

  pub here-on : (slot : Option Seen) → i < 16 → slot_part slot ≡ part_of (after w.input (state_of w) (state_of w).now action) i → ForSome slot (SlotSuits w.input (state_of w).now) → StandsAt next i slot
  here-on slot low part suits = record { place = low; part = part ∙ sym (part-on i); suits = suits-on slot suits }

  pub other-on : (k : ℕ) (slot : Option Seen) → k ≢ i → StandsAt w k slot → StandsAt next k slot
  other-on k slot other stands = record { place = stands.place; part = stands.part ∙ sym (stepped.others k other); suits = suits-on slot stands.suits }
