-- A stall of the workload: what it prints, and what it leaves.
use Rattle.std.proofs.Common.{◌≡◌, ◌≤◌, ◌<◌, ◌+◌, ◌/◌, ◌∙◌, ℕ, zero, suc, List, [], ◌∷◌, length, refl, sym, ap, subst, arith}
use Rattle.std.specs.Prelude.{Option, Some, None, slice_get, slice_index_or}
use Rattle.std.proofs.lemmas.List.Elements.{recursion_from_All}
use Rattle.sched_base.specs.Numbers.{moment, processor}
use Rattle.sched_base.specs.declared.ProcId.{ProcId}
use Rattle.sched_base.specs.declared.Moment.{Moment}
use Rattle.sched_base.proofs.Lists.{each_get}
use Rattle.sched_model.specs.declared.action.Action.TheVariants.{Stall}
use Rattle.sched_model.specs.declared.event.Event.TheVariants as event
use Rattle.sched_model.specs.declared.machine.Machine.{Machine}
use Rattle.sched_model.specs.declared.state.State.{State}
use Rattle.sched_model.specs.declared.work.StallLine.{StallLine}
use Rattle.sched_model.specs.Actions.{home_pool_of_core}
use Rattle.sched_model.specs.CheckedMachine.{IsCheckedStall, most_span}
use Rattle.sched_model.specs.Machine.{after, after_stall, event_of, later_stall_end, state_with_stall}
use Rattle.sched_laws.proofs.EachPlace.{by_option}
use Rattle.sched_plain.specs.ReachedStates.{Stands}

-- a stall changes no count of lines
stalled-lines : (g p end : ℕ) (s : State) → (state_with_stall g p end s).next_stall ≡ s.next_stall
stalled-lines g p end s = by_option (λ (x : State). x.next_stall ≡ s.next_stall) (home_pool_of_core s (p / g)) _ _ (λ none. refl) (λ i is. refl)

-- the span of a line
pub stall-span : (m : Machine) (s : State) (line : StallLine) → Stands m s → slice_get m.work.stalls s.next_stall ≡ Some line → line.span.0 ≤ most_span
stall-span m s line stands is = (each_get (IsCheckedStall m.config) m.work.stalls s.next_stall line (recursion_from_All (IsCheckedStall m.config) m.work.stalls stands.checked.work.stalls) is).span.most

module _ (m : Machine) (s : State) (line : StallLine) (is : slice_get m.work.stalls s.next_stall ≡ Some line) (until : ℕ) (ends : until ≡ later_stall_end m.config.granularity s line.cpu.0 (s.now + line.span.0)) where
  pub stall-event : event.Stall line.cpu (moment until) ≡ event_of m s s.now Stall
  stall-event =
      subst (λ (o : Option StallLine). event.Stall line.cpu (moment until) ≡ event.Stall
      (elim o as (λ _. ProcId) [ None ↦ processor 0 | Some x ↦ x.cpu ])
      (elim o as (λ _. Moment) [ None ↦ moment 0 | Some x ↦ moment (later_stall_end m.config.granularity s x.cpu.0 (s.now + x.span.0)) ])) (sym is)
      (ap (λ k. event.Stall line.cpu (moment k)) ends)

  pub stall-state : (next : State) → next ≡ state_with_stall m.config.granularity line.cpu.0 until s → let left : State = record next { next_stall = next.next_stall + 1 } in left ≡ after m s s.now Stall
  stall-state next leaves =
      let g : ℕ = m.config.granularity in
      let first : ◌≡◌ {A = State} (record next { next_stall = next.next_stall + 1 }) (record (state_with_stall g line.cpu.0 until s) { next_stall = (state_with_stall g line.cpu.0 until s).next_stall + 1 }) = ap (λ (x : State). let left : State = record x { next_stall = x.next_stall + 1 } in left) leaves in
      let count : (state_with_stall g line.cpu.0 until s).next_stall + 1 ≡ suc s.next_stall = (let e = stalled-lines g line.cpu.0 until s in omega (arith, e)) in
      let second : ◌≡◌ {A = State} (record (state_with_stall g line.cpu.0 until s) { next_stall = (state_with_stall g line.cpu.0 until s).next_stall + 1 }) (record (state_with_stall g line.cpu.0 until s) { next_stall = suc s.next_stall }) = ap (λ k. let left : State = record (state_with_stall g line.cpu.0 until s) { next_stall = k } in left) count in
      let third : ◌≡◌ {A = State} (record (state_with_stall g line.cpu.0 until s) { next_stall = suc s.next_stall }) (after_stall g s.now line s) = ap (λ k. let left : State = record (state_with_stall g line.cpu.0 k s) { next_stall = suc s.next_stall } in left) ends in
      let last : after_stall g s.now line s ≡ after m s s.now Stall = subst (λ (o : Option StallLine). after_stall g s.now line s ≡ elim o as (λ _. State) [ None ↦ s | Some x ↦ after_stall g s.now x s ]) (sym is) refl in
      first ∙ second ∙ third ∙ last

-- what was read at a place inside is the item there
pub slice_get-read : {X : Type 0} (xs : List X) (i : ℕ) (x : X) → i < length xs → x ≡ slice_index_or xs i x → slice_get xs i ≡ Some x
slice_get-read [] i x inside read = absurd (omega (arith, inside))
slice_get-read (y ∷ xs) zero x inside read = (let same : y ≡ x = sym read in ap (λ z. Some z) same)
slice_get-read (y ∷ xs) (suc i) x inside read = slice_get-read xs i x (omega (arith, inside)) read
