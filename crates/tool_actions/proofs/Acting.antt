-- From what an action of the tool changes in the state to what it leaves of the parts.
use mathlib.Core.Logic.{dite}
use native.Mathlib.Decide.{ℕ_discrete}
use Rattle.std.proofs.Common.{◌≡◌, ◌≢◌, ◌∙◌, ℕ, zero, suc, ◌<◌, List, [], ◌∷◌, length, refl, sym, ap, subst, arith, ne_eqb, cond, length-set, get_or-set_other}
use Rattle.std.proofs.lemmas.Grind.{get_or-set_at}
use Rattle.std.specs.Prelude.{Option, None, Some, option_map, slice_set}
use Rattle.std.specs.Option.{ForSome}
use Rattle.sched_base.specs.Numbers.{moment}
use Rattle.sched_model.specs.declared.action.Action.{Action}
use Rattle.sched_model.specs.declared.event.Event.{Event}
use Rattle.sched_model.specs.declared.event.Entry.{Entry}
use Rattle.sched_model.specs.declared.machine.Machine.{Machine}
use Rattle.sched_model.specs.declared.state.Pool.{Pool}
use Rattle.sched_model.specs.declared.state.State.{State}
use Rattle.sched_model.specs.Machine.{event_of, after}
use Rattle.sched_model.specs.Places.{at_place}
use Rattle.sched_laws.proofs.Lists.{some_same}
use Rattle.journal_core.specs.Parts.{part_of, pool_part, tool_part, tool_lock, tool_of as part_of_tool}
use Rattle.journal_core.specs.Histories.{part_at}
use Rattle.cpupool.specs.Tool.{Tool, tool_of}
use Rattle.composition_laws.specs.ToolSteps.{ChangesNoPool, ChangesPlace}
use Rattle.pool_core.specs.Seen.{Seen, seen_at}
use Rattle.machine_parts.specs.Told.{Told}
use Rattle.machine_parts.specs.Places.{AllStand, GoesOn, SlotSuits, StandsAt, state_of}
use Rattle.machine_parts.proofs.Going.{entry-is, goes-on, part_of-is, state-on}
use Rattle.machine_parts.proofs.Standing.{pool_at, slot_part-is, stands-there}
use Rattle.machine_parts.specs.Parts.{AreParts}
use Rattle.tool_actions.specs.Acts.{Begins, HasActed, HasActedAlone, HasActedOn, told_event}

-- a part that is not the tool's is the pool of its number
pub part-pool : (s : State) (k : ℕ) → k ≢ tool_lock → part_of s k ≡ pool_part (at_place s.pools k)
part-pool s k other = ap (λ b. cond b (tool_part (part_of_tool s)) (pool_part (at_place s.pools k))) (ne_eqb k 16 other)

-- the act, its entry, and the state after it
module _ (w : Told) (tool : Tool) (t : ℕ) (action : Action) (begins : Begins w tool t action) (event : Event) (is : event ≡ event_of w.input (state_of w) (state_of w).now action) where
  abbrev pub next : Told
  next = told_event w t event

  abbrev pub left : State
  left = after w.input (state_of w) (state_of w).now action

  abbrev entry : Entry
  entry = record { at = moment t; event = event }

  is-entry : entry ≡ record { at = moment (state_of w).now; event = event_of w.input (state_of w) (state_of w).now action }
  is-entry = entry-is w action entry (ap moment begins.now) is

  pub goes-next : GoesOn next
  goes-next = goes-on w begins.goes action begins.enabled entry is-entry

  pub state-next : state_of next ≡ left
  state-next = state-on w begins.goes action begins.enabled entry is-entry

  pub part-next : (k : ℕ) → part_at next.input next.history k ≡ part_of left k
  part-next k = part_of-is next k ∙ ap (λ (s : State). part_of s k) state-next

  -- each pool but those of these two numbers is as before
  pub acted : (i j : ℕ) (new : Tool) → left.now ≡ (state_of w).now → ((k : ℕ) → k ≢ i → k ≢ j → at_place left.pools k ≡ at_place (state_of w).pools k) → tool_of w.input left ≡ new → HasActed w i j next new
  acted i j new now others known = record {
    goes = goes-next;
    now = ap (λ (s : State). s.now) state-next ∙ now;
    known = ap (tool_of w.input) state-next ∙ known;
    others = λ k first second no_tool. part-next k ∙ part-pool left k no_tool ∙ ap pool_part (others k first second) ∙ sym (part-pool (state_of w) k no_tool) ∙ sym (part_of-is w k);
  }

  pub acted-alone : (new : Tool) → ChangesNoPool (state_of w) left → tool_of w.input left ≡ new → HasActedAlone w next new
  acted-alone new changes known = acted tool_lock tool_lock new changes.now (λ k first second. changes.pools k) known

  pub acted-on : (i : ℕ) (f : Option Pool → Option Pool) (new : Tool) → ChangesPlace (state_of w) left i f → tool_of w.input left ≡ new → HasActedOn w i next new
  acted-on i f new changes known = acted i i new changes.now (λ k first second. changes.others k first) known

  -- a place that is what the state after it has there
  pub stands-next : (i : ℕ) (slot : Option Seen) → i < 16 → pool_at slot ≡ at_place left.pools i → ForSome slot (SlotSuits w.input (state_of w).now) → left.now ≡ (state_of w).now → StandsAt next i slot
  stands-next i slot low there suits now = record {
    place = low;
    part = slot_part-is slot ∙ ap pool_part there ∙ sym (part-pool left i (λ is. omega (arith, is, low))) ∙ sym (part-next i);
    suits = subst (λ n. ForSome slot (SlotSuits w.input n)) (sym (ap (λ (s : State). s.now) state-next ∙ now)) suits;
  }

  pub stands-changed : (i : ℕ) (f : Option Pool → Option Pool) (old new : Option Seen) → ChangesPlace (state_of w) left i f → StandsAt w i old → pool_at new ≡ f (pool_at old) → ForSome new (SlotSuits w.input (state_of w).now) → StandsAt next i new
  stands-changed i f old new changes stands made suits = stands-next i new stands.place (made ∙ ap f (sym (stands-there w i old stands)) ∙ sym changes.own) suits changes.now

-- a place whose pool is changed at the moment that is now
pub suits-seen : (m : Machine) (now t : ℕ) (f : Seen → Pool) → t ≡ now → (o : Option Seen) → ForSome o (SlotSuits m now) → ForSome (option_map (λ (seen : Seen). seen_at t (f seen) seen) o) (SlotSuits m now)
suits-seen m now t f is None suits x at = absurd (cc)
suits-seen m now t f is (Some seen) suits x at = (let was = suits seen refl in subst (SlotSuits m now) (some_same at) (record { granularity = was.granularity; latest = omega (arith, is) }))

-- a place that is written twice
set-twice : {X : Type 0} (xs : List X) (i : ℕ) (x : X) → slice_set (slice_set xs i x) i x ≡ slice_set xs i x
set-twice [] i x = refl
set-twice (y ∷ xs) zero x = refl
set-twice (y ∷ xs) (suc i) x = ap (λ ys. y ∷ ys) (set-twice xs i x)

-- a place that an act leaves as it was
pub stays-there : (w : Told) (i j : ℕ) (next : Told) (tool : Tool) → HasActed w i j next tool → next.input ≡ w.input → (k : ℕ) (slot : Option Seen) → k ≢ i → k ≢ j → StandsAt w k slot → StandsAt next k slot
stays-there w i j next tool acted input k slot first second stands = record {
  place = stands.place;
  part = stands.part ∙ sym (acted.others k first second (λ is. let low = stands.place in omega (arith, is, low)));
  suits = subst (λ (m : Machine). ForSome slot (SlotSuits m (state_of next).now)) (sym input) (subst (λ n. ForSome slot (SlotSuits w.input n)) (sym acted.now) stands.suits);
}

-- the places of all pools after an act on one of them; on none; on two
module _ (w : Told) (slots : List (Option Seen)) (all : AllStand w slots) (next : Told) (tool : Tool) (input : next.input ≡ w.input) where
  pub parts-alone : HasActedAlone w next tool → AreParts next slots tool
  parts-alone acted = record {
    goes = acted.goes;
    known = acted.known;
    stand = record {
      count = all.count;
      each = λ k low. stays-there w tool_lock tool_lock next tool acted input k (at_place slots k) (λ is. omega (arith, is, low)) (λ is. omega (arith, is, low)) (all.each k low);
    };
  }

  pub parts-both : (i j : ℕ) (a b : Option Seen) → HasActed w i j next tool → StandsAt next i a → StandsAt next j b → (i ≡ j → a ≡ b) → AreParts next (slice_set (slice_set slots i a) j b) tool
  parts-both i j a b acted first second same = record {
    goes = acted.goes;
    known = acted.known;
    stand = record {
      count = length-set (slice_set slots i a) j b ∙ length-set slots i a ∙ all.count;
      each = λ k low. dite (ℕ_discrete k j)
          (λ (is : k ≡ j).
          let inside : j < length (slice_set slots i a) = (let count = all.count in let length = length-set slots i a in omega (arith, low, is, count, length)) in
          let there : b ≡ at_place (slice_set (slice_set slots i a) j b) k = sym (get_or-set_at (slice_set slots i a) j k b None is inside) in
          subst (λ (x : Option Seen). StandsAt next k x) there (subst (λ (n : ℕ). StandsAt next n b) (sym is) second))
          (λ other. subst (λ (x : Option Seen). StandsAt next k x) (sym (get_or-set_other (slice_set slots i a) j k b None other))
          (dite (ℕ_discrete k i)
          (λ (is : k ≡ i).
          let inside : i < length slots = (let count = all.count in omega (arith, low, is, count)) in
          let there : a ≡ at_place (slice_set slots i a) k = sym (get_or-set_at slots i k a None is inside) in
          subst (λ (x : Option Seen). StandsAt next k x) there (subst (λ (n : ℕ). StandsAt next n a) (sym is) first))
          (λ ne. subst (λ (x : Option Seen). StandsAt next k x) (sym (get_or-set_other slots i k a None ne)) (stays-there w i j next tool acted input k (at_place slots k) ne other (all.each k low)))));
    };
  }

  pub parts-on : (i : ℕ) (a : Option Seen) → HasActedOn w i next tool → StandsAt next i a → AreParts next (slice_set slots i a) tool
  parts-on i a acted here = subst (λ (xs : List (Option Seen)). AreParts next xs tool) (set-twice slots i a) (parts-both i i a a acted here here (λ is. refl))
