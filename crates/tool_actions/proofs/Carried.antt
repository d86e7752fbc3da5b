-- The parts of the machine after the next command.
use Rattle.std.proofs.Common.{◌≡◌, ◌∙◌, ◌<◌, ℕ, suc, true, List, refl, sym, ap, subst}
use Rattle.std.specs.Prelude.{Option, Some, None, Result, Ok, Err, option_map, slice_get, slice_set}
use Rattle.std.specs.Option.{ForSome}
use Rattle.sched_base.specs.Numbers.{pool as pool_number}
use Rattle.sched_base.specs.declared.PoolId.{PoolId}
use Rattle.sched_model.specs.declared.action.Action.TheVariants.{Xl}
use Rattle.sched_model.specs.declared.event.Event.{Event}
use Rattle.sched_model.specs.declared.event.Event.TheVariants as event
use Rattle.sched_model.specs.declared.event.Refusal.{Refusal}
use Rattle.sched_model.specs.declared.event.Reply.{Reply}
use Rattle.sched_model.specs.declared.event.Reply.TheVariants as reply
use Rattle.sched_model.specs.declared.machine.Machine.{Machine}
use Rattle.sched_model.specs.declared.plan.Plan.{Plan}
use Rattle.sched_model.specs.declared.plan.Plan.TheVariants as plan
use Rattle.sched_model.specs.declared.state.Pool.{Pool}
use Rattle.sched_model.specs.declared.state.State.{State}
use Rattle.sched_model.specs.declared.work.CommandLine.{CommandLine}
use Rattle.sched_model.specs.Commands.{plan_pool, plan_reply}
use Rattle.sched_model.specs.Machine.{after, after_command, answer_of, event_of, is_action_enabled, line_verdict}
use Rattle.sched_model.specs.Places.{at_place}
use Rattle.sched_model.specs.Pool.{settled_pool}
use Rattle.cpupool.specs.Tool.{Tool, tool_of}
use Rattle.pool_core.specs.Seen.{Seen}
use Rattle.machine_parts.specs.Told.{Told}
use Rattle.machine_parts.specs.Places.{SlotSuits, StandsAt, state_of}
use Rattle.machine_parts.proofs.Standing.{pool_at}
use Rattle.composition_laws.specs.ToolSteps.{ChangesPlace, CommandSteps, carried_at, changed_by}
use Rattle.composition_laws.proofs.ToolSteps.{tool_steps}
use Rattle.machine_parts.specs.Parts.{AreParts}
use Rattle.machine_parts.proofs.AtPlaces.{no-number, number-of}
use Rattle.tool_actions.specs.Acts.{Begins, told_event}
use Rattle.tool_actions.specs.CarriedPlans.{HasCarried, KeepsPools, carried_slot, changed_slot, xl_told}
use Rattle.tool_actions.proofs.Acting.{acted-alone, acted-on, parts-alone, parts-on, stands-changed, suits-seen}

module _ (w : Told) (slots : List (Option Seen)) (tool : Tool) (parts : AreParts w slots tool) (enabled : is_action_enabled w.input (state_of w) (state_of w).now Xl ≡ true) where
  abbrev m : Machine
  m = w.input

  abbrev s : State
  s = state_of w

  begins : Begins w tool s.now Xl
  begins = record { goes = parts.goes; now = refl; known = parts.known; enabled = enabled }

  module _ (line : CommandLine) (is : slice_get m.work.commands s.next_command ≡ Some line) where
    -- the state after the command
    pub left-is : after_command m s.now line s ≡ after m s s.now Xl
    left-is = sym (ap (λ (o : Option CommandLine). elim o as (λ _. State) [ None ↦ s | Some x ↦ after_command m s.now x s ]) is)

    known : (new : Tool) → new ≡ tool_of m (after_command m s.now line s) → tool_of m (after m s s.now Xl) ≡ new
    known new told = sym (told ∙ ap (tool_of m) left-is)

    steps : CommandSteps m s s.now line
    steps = (tool_steps m s s.now).command line is

    pub parts-refused : (fault : Refusal) (new : Tool) → line_verdict m s line ≡ Err fault → new ≡ tool_of m (after_command m s.now line s) → AreParts (xl_told w) slots new
    parts-refused fault new says told = parts-alone w slots parts.stand (xl_told w) new refl (acted-alone w tool s.now Xl begins _ refl new (steps.refused fault says) (known new told))

    parts-homeless : (p : Plan) (new : Tool) → line_verdict m s line ≡ Ok p → plan_pool s p ≡ None → new ≡ tool_of m (after_command m s.now line s) → AreParts (xl_told w) slots new
    parts-homeless p new says home told = parts-alone w slots parts.stand (xl_told w) new refl (acted-alone w tool s.now Xl begins _ refl new (steps.none p says home) (known new told))

    pub parts-carried : (p : Plan) (i : ℕ) (next : List (Option Seen)) (new : Tool) → i < 16 → line_verdict m s line ≡ Ok p → plan_pool s p ≡ Some i → HasCarried w s.now p i slots next → new ≡ tool_of m (after_command m s.now line s)
        → AreParts (xl_told w) next new
    parts-carried p i next new low says home carried told =
        let changes : ChangesPlace s (after m s s.now Xl) i (carried_at m s.now p) = steps.own p i says home in
        let stands : StandsAt (xl_told w) i carried.slot =
        stands-changed w tool s.now Xl begins _ refl i (carried_at m s.now p) (at_place slots i) carried.slot changes (parts.stand.each i low) carried.made carried.suits in
        subst (λ (xs : List (Option Seen)). AreParts (xl_told w) xs new) (sym carried.only)
        (parts-on w slots parts.stand (xl_told w) new refl i carried.slot (acted-on w tool s.now Xl begins _ refl i (carried_at m s.now p) new changes (known new told)) stands)

    -- the same where the plan may have a home, of which this is told
    pub parts-changed : (p : Plan) (home : Option PoolId) (next : List (Option Seen)) (new : Tool) → ((i : ℕ) → plan_pool s p ≡ Some i → i < 16) → line_verdict m s line ≡ Ok p → home ≡ option_map pool_number (plan_pool s p)
        → ForSome home (λ i. HasCarried w s.now p i.0 slots next) → (home ≡ None → next ≡ slots) → new ≡ tool_of m (after_command m s.now line s) → AreParts (xl_told w) next new
    parts-changed p None next new low says lives carried stays told = subst (λ (xs : List (Option Seen)). AreParts (xl_told w) xs new) (sym (stays refl)) (parts-homeless p new says (no-number _ (sym lives)) told)
    parts-changed p (Some i) next new low says lives carried stays told = (let home = number-of _ i (sym lives) in parts-carried p i.0 next new (low i.0 home) says home (carried i refl) told)

-- what is printed of the next command
module _ (m : Machine) (s : State) (line : CommandLine) (is : slice_get m.work.commands s.next_command ≡ Some line) (k : ℕ) (next : k ≡ suc s.next_command) where
  pub told-answer : (answer : Result Reply Refusal) → answer ≡ answer_of m s line → event.Xl k answer ≡ event_of m s s.now Xl
  told-answer answer same =
      let of_line : Option CommandLine → Event = λ o. event.Xl (suc s.next_command) (elim o as (λ _. Result Reply Refusal) [ None ↦ Ok reply.Done | Some x ↦ answer_of m s x ]) in
      ap (λ n. event.Xl n answer) next ∙ ap (λ a. event.Xl (suc s.next_command) a) same ∙ sym (ap of_line is)

-- the answer to a line, by its verdict
pub answer-is : (m : Machine) (s : State) (line : CommandLine) (v : Result Plan Refusal) → line_verdict m s line ≡ v → answer_of m s line ≡ (elim v as (λ _. Result Reply Refusal) [ Err fault ↦ Err fault | Ok p ↦ Ok (plan_reply p) ])
answer-is m s line v says = ap (λ (r : Result Plan Refusal). elim r as (λ _. Result Reply Refusal) [ Err fault ↦ Err fault | Ok p ↦ Ok (plan_reply p) ]) says

-- what a plan that keeps the pools makes of what stands at its place
carried-keeps : (m : Machine) (t : ℕ) (p : Plan) → KeepsPools p → (o : Option Pool) → carried_at m t p o ≡ option_map (λ (pool : Pool). settled_pool t (changed_by m t p pool)) o
carried-keeps m t (plan.PoolCreate i name kind answer) keeps o = absurd keeps
carried-keeps m t (plan.PoolDestroy i answer) keeps o = absurd keeps
carried-keeps m t p keeps o = refl

-- a place whose pool was changed and looked at
looked-pool : (t : ℕ) (f : Pool → Pool) (o : Option Seen) → pool_at (changed_slot t (λ seen. f seen.pool) o) ≡ option_map (λ (pool : Pool). settled_pool t (f pool)) (pool_at o)
looked-pool t f None = refl
looked-pool t f (Some seen) = refl

pub has-carried : (w : Told) (t : ℕ) (p : Plan) (i : ℕ) (slots : List (Option Seen)) (read new : Option Seen) → KeepsPools p → t ≡ (state_of w).now → at_place slots i ≡ read → ForSome (at_place slots i) (SlotSuits w.input (state_of w).now)
    → new ≡ carried_slot w.input t p read → HasCarried w t p i slots (slice_set slots i new)
has-carried w t p i slots read new keeps now at suits made =
    let same : new ≡ carried_slot w.input t p (at_place slots i) = made ∙ ap (carried_slot w.input t p) (sym at) in
    record {
      slot = new;
      only = refl;
      made = ap pool_at same ∙ looked-pool t (changed_by w.input t p) (at_place slots i) ∙ sym (carried-keeps w.input t p keeps (pool_at (at_place slots i)));
      suits = subst (λ (o : Option Seen). ForSome o (SlotSuits w.input (state_of w).now)) (sym same) (suits-seen w.input (state_of w).now t (λ seen. settled_pool t (changed_by w.input t p seen.pool)) now (at_place slots i) suits);
    }

-- the same with an entry of that event at that moment
pub parts-told : (w : Told) (t : ℕ) (e : Event) (slots : List (Option Seen)) (tool : Tool) → t ≡ (state_of w).now → e ≡ event_of w.input (state_of w) (state_of w).now Xl → AreParts (xl_told w) slots tool → AreParts (told_event w t e) slots tool
parts-told w t e slots tool now is parts =
    subst (λ (x : Event). AreParts (told_event w t x) slots tool) (sym is)
    (subst (λ n. AreParts (told_event w n (event_of w.input (state_of w) (state_of w).now Xl)) slots tool) (sym now) parts)
