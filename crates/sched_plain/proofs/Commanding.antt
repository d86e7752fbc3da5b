-- What is in range after an accepted command is carried out, before the cores of its pool are looked at.
use Rattle.std.proofs.Common.{◌≡◌, ◌≢◌, ◌+◌, ◌∙◌, ◌⊎◌, ℕ, zero, suc, true, inl, inr, refl, sym, ap, subst, arith}
use Rattle.std.specs.Prelude.{Option, Some, None, Result, Ok, Err, option_map, slice_get}
use Rattle.sched_model.specs.declared.action.Action.TheVariants.{Xl}
use Rattle.sched_model.specs.declared.event.Event.{Event}
use Rattle.sched_model.specs.declared.event.Event.TheVariants as event
use Rattle.sched_model.specs.declared.event.Refusal.{Refusal}
use Rattle.sched_model.specs.declared.event.Reply.{Reply}
use Rattle.sched_model.specs.declared.event.Reply.TheVariants as reply
use Rattle.sched_model.specs.declared.machine.Machine.{Machine}
use Rattle.sched_model.specs.declared.plan.Plan.{Plan}
use Rattle.sched_model.specs.declared.state.State.{State}
use Rattle.sched_model.specs.declared.work.CommandLine.{CommandLine}
use Rattle.sched_model.specs.Commands.{carried_out, plan_pool, plan_reply}
use Rattle.sched_model.specs.Machine.{after, after_command, answer_of, event_of, is_action_enabled, settled_at, line_verdict}
use Rattle.sched_model.specs.Places.{at_place}
use Rattle.sched_model.specs.Pool.{settled_pool}
use Rattle.sched_model.proofs.PlaceLemmas.{at_place-change_at, at_place-change_at_other}
use Rattle.sched_laws.specs.EachPlace.{EachPlace}
use Rattle.sched_laws.proofs.EachPlace.{place_below}
use Rattle.sched_plain.specs.CommandList.{IsAccepted}
use Rattle.sched_plain.specs.Fits.{PoolFitsAt}
use Rattle.sched_plain.specs.ReachedStates.{Stands}
use Rattle.sched_plain.proofs.Reaching.{stands-after}
use Rattle.sched_plain.proofs.Bridges.{stands-pool}
use Rattle.sched_plain.proofs.Performing.{settled-back}
use Rattle.sched_laws.proofs.Clock.{carried_clock, settled_clock}

-- two numbers are one or two
same_or_other : (j i : ℕ) → (j ≡ i) ⊎ (j ≢ i)
same_or_other zero zero = inl refl
same_or_other zero (suc i) = inr (λ e. omega (arith, e))
same_or_other (suc j) zero = inr (λ e. omega (arith, e))
same_or_other (suc j) (suc i) = elim (same_or_other j i) [ inl same ↦ inl (ap suc same) | inr other ↦ inr (λ e. other (omega (arith, e))) ]

-- what holds once the cores of a pool are looked at holds before
unsettled : (t : ℕ) (o : Option ℕ) (s : State) → EachPlace (PoolFitsAt t) (settled_at t o s).pools → EachPlace (PoolFitsAt t) s.pools
unsettled t None s each = each
unsettled t (Some i) s each = λ j pool at.
    elim (same_or_other j i) [
      | inl same ↦ (
          let there : at_place s.pools i ≡ Some pool = subst (λ k. at_place s.pools k ≡ Some pool) same at in
          settled-back t pool (each i (settled_pool t pool) (at_place-change_at i (settled_pool t) s.pools (place_below s.pools i pool there) ∙ ap (option_map (settled_pool t)) there)))
      | inr other ↦ each j pool (at_place-change_at_other i j (settled_pool t) s.pools other ∙ at)
    ]

-- the state after an accepted command
pub command-state : (m : Machine) (s : State) (t : ℕ) (line : CommandLine) (p : Plan) → slice_get m.work.commands s.next_command ≡ Some line → line_verdict m s line ≡ Ok p
    → settled_at t (plan_pool s p) (carried_out m t p (record s { next_command = suc s.next_command })) ≡ after m s t Xl
command-state m s t line p is accepted =
    let next : State = record s { next_command = suc s.next_command } in
    let done : State = settled_at t (plan_pool s p) (carried_out m t p next) in
    let of_verdict : Result Plan Refusal → State = λ r. elim r as (λ _. State) [ Err fault ↦ next | Ok q ↦ settled_at t (plan_pool s q) (carried_out m t q next) ] in
    let of_line : Option CommandLine → State = λ o. elim o as (λ _. State) [ None ↦ s | Some x ↦ after_command m t x s ] in
    sym (ap of_line is ∙ ap of_verdict accepted)

-- what is printed of the next command, where it is refused
pub refusal-told : (m : Machine) (s : State) (line : CommandLine) (fault : Refusal) (k : ℕ) → slice_get m.work.commands s.next_command ≡ Some line → line_verdict m s line ≡ Err fault → k ≡ suc s.next_command
    → event.Xl k (Err fault) ≡ event_of m s s.now Xl
refusal-told m s line fault k is refused next =
    let of_verdict : Result Plan Refusal → Event = λ r. event.Xl (suc s.next_command) (elim r as (λ _. Result Reply Refusal) [ Err f ↦ Err f | Ok q ↦ Ok (plan_reply q) ]) in
    let of_line : Option CommandLine → Event = λ o. event.Xl (suc s.next_command) (elim o as (λ _. Result Reply Refusal) [ None ↦ Ok reply.Done | Some x ↦ answer_of m s x ]) in
    ap (λ n. event.Xl n (Err fault)) next ∙ sym (ap of_line is ∙ ap of_verdict refused)

-- the same, where it is accepted
pub reply-told : (m : Machine) (s : State) (line : CommandLine) (p : Plan) (k : ℕ) (answer : Reply) → slice_get m.work.commands s.next_command ≡ Some line → line_verdict m s line ≡ Ok p → k ≡ suc s.next_command
    → answer ≡ plan_reply p → event.Xl k (Ok answer) ≡ event_of m s s.now Xl
reply-told m s line p k answer is accepted next replied =
    let of_verdict : Result Plan Refusal → Event = λ r. event.Xl (suc s.next_command) (elim r as (λ _. Result Reply Refusal) [ Err f ↦ Err f | Ok q ↦ Ok (plan_reply q) ]) in
    let of_line : Option CommandLine → Event = λ o. event.Xl (suc s.next_command) (elim o as (λ _. Result Reply Refusal) [ None ↦ Ok reply.Done | Some x ↦ answer_of m s x ]) in
    ap (λ n. event.Xl n (Ok answer)) next ∙ ap (λ a. event.Xl (suc s.next_command) (Ok a)) replied ∙ sym (ap of_line is ∙ ap of_verdict accepted)

-- the state after a refused command
pub refused-state : (m : Machine) (s : State) (line : CommandLine) (fault : Refusal) (k : ℕ) → slice_get m.work.commands s.next_command ≡ Some line → line_verdict m s line ≡ Err fault → k ≡ suc s.next_command
    → record s { next_command = k } ≡ after m s s.now Xl
refused-state m s line fault k is refused next =
    let over : State = record s { next_command = suc s.next_command } in
    let of_verdict : Result Plan Refusal → State = λ r. elim r as (λ _. State) [ Err f ↦ over | Ok q ↦ settled_at s.now (plan_pool s q) (carried_out m s.now q over) ] in
    let of_line : Option CommandLine → State = λ o. elim o as (λ _. State) [ None ↦ s | Some x ↦ after_command m s.now x s ] in
    ap (λ (n : ℕ). record s { next_command = n }) next ∙ sym (ap of_line is ∙ ap of_verdict refused)

pub carried-fits : (m : Machine) (s : State) (line : CommandLine) (p : Plan) → Stands m s → is_action_enabled m s s.now Xl ≡ true → slice_get m.work.commands s.next_command ≡ Some line → line_verdict m s line ≡ Ok p
    → EachPlace (PoolFitsAt s.now) (carried_out m s.now p (record s { next_command = suc s.next_command })).pools
carried-fits m s line p stands enabled is accepted =
    let next : State = carried_out m s.now p (record s { next_command = suc s.next_command }) in
    let done : State = settled_at s.now (plan_pool s p) next in
    let there : Stands m done = subst (Stands m) (sym (command-state m s s.now line p is accepted)) (stands-after m s Xl stands enabled) in
    let now : done.now ≡ s.now = (settled_clock s.now (plan_pool s p) next).0 ∙ (carried_clock m s.now p (record s { next_command = suc s.next_command })).0 in
    unsettled s.now (plan_pool s p) next (subst (λ n. EachPlace (PoolFitsAt n) done.pools) now (stands-pool m done there))

-- the command is over
pub command-over : (m : Machine) (s : State) (t : ℕ) (line : CommandLine) (p : Plan) → slice_get m.work.commands s.next_command ≡ Some line → line_verdict m s line ≡ Ok p → (after m s t Xl).next_command ≡ suc s.next_command
command-over m s t line p is accepted =
    let first : State = record s { next_command = suc s.next_command } in
    let next : State = carried_out m t p first in
    ap (λ (x : State). x.next_command) (sym (command-state m s t line p is accepted)) ∙ (settled_clock t (plan_pool s p) next).2 ∙ (carried_clock m t p first).2

-- the state with one command more over
abbrev pub one_over : State → State
one_over s = record s { next_command = s.next_command + 1 }

-- the same of an accepted command, in the words of the code
module _ (m : Machine) (s : State) (p : Plan) (stands : Stands m s) (enabled : is_action_enabled m s s.now Xl ≡ true) (accepted : IsAccepted m s p) where
  more : s.next_command + 1 ≡ suc s.next_command
  more = omega arith

  next-same : one_over s ≡ record s { next_command = suc s.next_command }
  next-same = ap (λ n. let next : State = record s { next_command = n } in next) more

  pub carried-fit : EachPlace (PoolFitsAt s.now) (carried_out m s.now p (one_over s)).pools
  carried-fit = subst (λ (x : State). EachPlace (PoolFitsAt s.now) (carried_out m s.now p x).pools) (sym next-same) (carried-fits m s accepted.line p stands enabled accepted.next accepted.accepted)

  pub accepted-state : (done left : State) → done ≡ carried_out m s.now p (one_over s) → left ≡ settled_at s.now (plan_pool s p) done → left ≡ after m s s.now Xl
  accepted-state done left carried settles =
      settles ∙ ap (settled_at s.now (plan_pool s p)) (carried ∙ ap (carried_out m s.now p) next-same) ∙ command-state m s s.now accepted.line p accepted.next accepted.accepted
