-- An action leaves the moment as it is, and how many lines of the workload are left to do but for its own.
use Rattle.std.proofs.Common.{◌≡◌, ◌≤◌, ◌+◌, ◌-◌, ◌/◌, ◌∙◌, ℕ, suc, Bool, true, false, List, [], ◌∷◌, refl, arith, ap, length}
use Rattle.std.specs.Prelude.{Option, Some, None, Result, Ok, Err, slice_get, nat_le, ◌&&◌, not}
use Rattle.std.proofs.lemmas.Option.{slice_get_within}
use Rattle.sched_model.specs.declared.action.Action.{Action}
use Rattle.sched_model.specs.declared.action.Action.TheVariants.{Stall, Xl}
use Rattle.sched_model.specs.declared.event.Event.{Event}
use Rattle.sched_model.specs.declared.event.Event.TheVariants as event
use Rattle.sched_model.specs.declared.event.Entry.{Entry}
use Rattle.sched_model.specs.declared.event.Refusal.{Refusal}
use Rattle.sched_model.specs.declared.machine.Machine.{Machine}
use Rattle.sched_model.specs.declared.plan.Plan.{Plan}
use Rattle.sched_model.specs.declared.state.State.{State}
use Rattle.sched_model.specs.declared.work.CommandLine.{CommandLine}
use Rattle.sched_model.specs.declared.work.StallLine.{StallLine}
use Rattle.sched_model.specs.Actions.{home_pool_of_action, home_pool_of_core, home_pool_of_domain}
use Rattle.sched_model.specs.Commands.{carried_out, plan_pool}
use Rattle.sched_model.specs.Machine.{is_action_enabled, has_move_under_way, after, after_at_home, after_command, after_dom_moved, state_after_moved, after_stall, settled_at, line_verdict}
use Rattle.sched_model.specs.Places.{at_place}
use Rattle.sched_model.specs.Runs.{Reached, IsNextEvent, IsRunFrom, event_action, after_entry, after_event}
use Rattle.sched_laws.proofs.EachPlace.{by_option}
use Rattle.moment_laws.specs.Turns.{how_many}
use Rattle.sched_base.specs.Numbers.{one_if}
use Rattle.moment_laws.proofs.LegRuns.{action_in}
use Rattle.moment_laws.specs.Moments.{is_end, is_line}
use Rattle.sched_laws.proofs.Clock.{SameClock, same_clock, carried_clock, settled_clock}

-- a command is one line more
command_clock : (m : Machine) (t : ℕ) (line : CommandLine) (s : State) → SameClock (after_command m t line s) (record s { next_command = suc s.next_command })
command_clock m t line s = by_verdict (line_verdict m s line)
  where
    next : State
    next = record s { next_command = suc s.next_command }

    by_verdict : (v : Result Plan Refusal) → SameClock (elim v as (λ _. State) [ Err fault ↦ next | Ok p ↦ settled_at t (plan_pool s p) (carried_out m t p next) ]) next
    by_verdict (Err fault) = same_clock next
    by_verdict (Ok p) =
        let a = settled_clock t (plan_pool s p) (carried_out m t p next) in
        let b = carried_clock m t p next in
        (a.0 ∙ b.0, a.1 ∙ b.1, a.2 ∙ b.2)

-- and so is a stall
stall_clock : (g t : ℕ) (line : StallLine) (s : State) → SameClock (after_stall g t line s) (record s { next_stall = suc s.next_stall })
stall_clock g t line s =
    let a = by_option (λ (x : State). SameClock x s) (home_pool_of_core s (line.cpu.0 / g)) _ _ (λ none. (refl, refl, refl)) (λ i is. (refl, refl, refl)) in
    (a.0, refl, a.2)

moved_clock : (t r : ℕ) (s : State) → SameClock (state_after_moved t r s) s
moved_clock t r s =
    let Q : State → Type 0 = λ next. SameClock next s in
    by_option Q (at_place s.free r) _ _
    (λ is. by_option Q (home_pool_of_core s r) _ _ (λ is2. same_clock s)
    (λ i is2. by_option Q (at_place s.pools i) _ _ (λ is3. same_clock s)
    (λ pool is3. by_option Q (at_place pool.resources r) _ _ (λ is4. same_clock s) (λ c is4. (refl, refl, refl)))))
    (λ c is. by_option Q c.target _ _ (λ is2. same_clock s) (λ i is2. (refl, refl, refl)))

dom_moved_clock : (g t d : ℕ) (s : State) → SameClock (after_dom_moved g t d s) s
dom_moved_clock g t d s =
    let Q : State → Type 0 = λ next. SameClock next s in
    by_option Q (home_pool_of_domain s d) _ _ (λ is. same_clock s)
    (λ i is. by_option Q (at_place s.pools i) _ _ (λ is2. same_clock s)
    (λ pool is2. by_option Q (at_place pool.domains d) _ _ (λ is3. same_clock s)
    (λ domain is3. by_option Q domain.moving _ _ (λ is4. same_clock s) (λ j is4. (refl, refl, refl)))))

inside_clock : (g t : ℕ) (s : State) (action : Action) → SameClock (after_at_home g s t action) s
inside_clock g t s action = by_option (λ (x : State). SameClock x s) (home_pool_of_action g s action) _ _ (λ none. same_clock s) (λ i is. (refl, refl, refl))

-- how many lines are left to do
abbrev pub lines_left : Machine → State → ℕ
lines_left m s = (length m.work.stalls - s.next_stall) + (length m.work.commands - s.next_command)

-- the same clock has as many lines left
same_left : (m : Machine) (a b : State) → SameClock a b → (a.now ≡ b.now) × (lines_left m a + 0 ≤ lines_left m b)
same_left m a b same = (
  same.0,
  (
      let x : length m.work.stalls - a.next_stall ≡ length m.work.stalls - b.next_stall = ap (λ n. length m.work.stalls - n) same.1 in
      let y : length m.work.commands - a.next_command ≡ length m.work.commands - b.next_command = ap (λ n. length m.work.commands - n) same.2 in
      omega (arith, x, y)),
)

-- an action that may come leaves the moment, and a line takes one from those that are left
abbrev Goes : Machine → State → State → ℕ → Type 0
Goes m s next drop = (next.now ≡ s.now) × (lines_left m next + drop ≤ lines_left m s)

stall_goes : (m : Machine) (s : State) (t : ℕ) → is_action_enabled m s t Stall ≡ true → Goes m s (after m s t Stall) 1
stall_goes m s t on = by_line (slice_get m.work.stalls s.next_stall) refl on
  where
    by_line : (o : Option StallLine) → slice_get m.work.stalls s.next_stall ≡ o → elim o as (λ _. Bool) [ None ↦ false | Some line ↦ nat_le line.at.0 t ] ≡ true → Goes m s (elim o as (λ _. State) [ None ↦ s | Some line ↦ after_stall m.config.granularity t line s ]) 1
    by_line None is on = absurd (cc)
    by_line (Some line) is on = (
        let same = stall_clock m.config.granularity t line s in
        let low = slice_get_within m.work.stalls s.next_stall line is in
        let x : length m.work.stalls - (after_stall m.config.granularity t line s).next_stall ≡ length m.work.stalls - suc s.next_stall = ap (λ n. length m.work.stalls - n) same.1 in
        let y : length m.work.commands - (after_stall m.config.granularity t line s).next_command ≡ length m.work.commands - s.next_command = ap (λ n. length m.work.commands - n) same.2 in
        (same.0, omega (arith, x, y, low)))

command_goes : (m : Machine) (s : State) (t : ℕ) → is_action_enabled m s t Xl ≡ true → Goes m s (after m s t Xl) 1
command_goes m s t on = by_line (slice_get m.work.commands s.next_command) refl on
  where
    by_line : (o : Option CommandLine) → slice_get m.work.commands s.next_command ≡ o → elim o as (λ _. Bool) [ None ↦ false | Some line ↦ nat_le line.at.0 t && not (has_move_under_way s) ] ≡ true → Goes m s (elim o as (λ _. State) [ None ↦ s | Some line ↦ after_command m t line s ]) 1
    by_line None is on = absurd (cc)
    by_line (Some line) is on = (
        let same = command_clock m t line s in
        let low = slice_get_within m.work.commands s.next_command line is in
        let x : length m.work.stalls - (after_command m t line s).next_stall ≡ length m.work.stalls - s.next_stall = ap (λ n. length m.work.stalls - n) same.1 in
        let y : length m.work.commands - (after_command m t line s).next_command ≡ length m.work.commands - suc s.next_command = ap (λ n. length m.work.commands - n) same.2 in
        (same.0, omega (arith, x, y, low)))

inside_goes : (m : Machine) (s : State) (action : Action) → Goes m s (after_at_home m.config.granularity s s.now action) 0
inside_goes m s action = same_left m (after_at_home m.config.granularity s s.now action) s (inside_clock m.config.granularity s.now s action)

moved_goes : (m : Machine) (s : State) (r : ℕ) → Goes m s (state_after_moved s.now r s) 0
moved_goes m s r = same_left m (state_after_moved s.now r s) s (moved_clock s.now r s)

dom_moved_goes : (m : Machine) (s : State) (d : ℕ) → Goes m s (after_dom_moved m.config.granularity s.now d s) 0
dom_moved_goes m s d = same_left m (after_dom_moved m.config.granularity s.now d s) s (dom_moved_clock m.config.granularity s.now d s)

-- after an event that may come and ends no moment, the moment is the same; and each line takes one of those that are left
pub event_goes : (m : Machine) (from : Reached) (ev : Event) → IsNextEvent m from.state ev (event_action ev) → (is_end ev ≡ false → (after_event m ev (event_action ev) from).state.now ≡ from.state.now) × (lines_left m (after_event m ev (event_action ev) from).state + one_if (is_line ev) ≤ lines_left m from.state)
event_goes m from (event.Stall p until) next = (let a = stall_goes m from.state from.state.now next.0 in (λ e. a.0, a.1))
event_goes m from (event.Xl k answer) next = (let a = command_goes m from.state from.state.now next.0 in (λ e. a.0, a.1))
event_goes m from (event.Moved r to) next = (let a = moved_goes m from.state r.0 in (λ e. a.0, a.1))
event_goes m from (event.DomMoved d to) next = (let a = dom_moved_goes m from.state d.0 in (λ e. a.0, a.1))
event_goes m from (event.End k) next = (λ e. absurd (cc), omega arith)
event_goes m from event.Finish next = (λ e. absurd (cc), omega arith)
event_goes m from ev next = (let a = inside_goes m from.state (action_in ev) in (λ e. a.0, a.1))

-- no more lines are done than are left
pub lines_few : (m : Machine) (entries : List Entry) (from : Reached) → IsRunFrom m from entries → how_many (λ (e : Entry). is_line e.event) entries ≤ lines_left m from.state
lines_few m [] from run = omega arith
lines_few m (e ∷ entries) from run = (
    let a = (event_goes m from e.event run.0.event).1 in
    let rest = lines_few m entries (after_entry m from e) run.1 in
    omega (arith, a, rest))
