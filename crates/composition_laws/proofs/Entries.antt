-- The entry of an action, and the entries without one.
use Rattle.std.proofs.Common.{◌≡◌, ℕ, Bool, true, false, List, [], ◌∷◌, ◌++◌, refl, sym, subst, ap, ◌∙◌}
use Rattle.std.specs.Prelude.{◌↔◌, Option, Some, None}
use Rattle.sched_model.specs.declared.action.Action.{Action}
use Rattle.sched_model.specs.declared.config.Config.{Config}
use Rattle.sched_model.specs.declared.event.Event.{Event}
use Rattle.sched_model.specs.declared.event.Event.TheVariants as event
use Rattle.sched_model.specs.declared.event.Entry.{Entry}
use Rattle.sched_model.specs.declared.machine.Machine.{Machine}
use Rattle.sched_model.specs.declared.state.State.{State}
use Rattle.sched_model.specs.Machine.{after, is_action_enabled}
use Rattle.sched_model.specs.Runs.{action_entry, Reached, IsNext, IsNextEvent, IsRun, IsRunFrom, event_action, after_entries, after_entry, after_event, after_quiet, run_start, named_next_moment}
use Rattle.sched_model.proofs.RunLemmas.{IsNext-action, after_entries-append}
use Rattle.sched_laws.specs.StateLaws.{state_after}
use Rattle.run_laws.specs.RunLaws.{IsOver}
use Rattle.run_laws.proofs.Grows.{run-goes_on}
use Rattle.journal_core.specs.Parts.{part_of, home_in}
use Rattle.journal_core.specs.Histories.{reached_by, state_at, part_at, home_at}
use Rattle.composition_laws.specs.EntryLaws.{IsAtRest, LeadsAsBefore, LeadsTo}

-- an entry that may come next and ends the run is a Finish, and leaves a state at rest
record Ends (m : Machine) (from : Reached) (e : Event) : Type 0 where
  finish : e ≡ event.Finish
  rest : IsAtRest m (after_event m e (event_action e) from).state

ends : (m : Machine) (from : Reached) (e : Event) → IsNextEvent m from.state e (event_action e) → from.over ≡ false → (after_event m e (event_action e) from).over ≡ true → Ends m from e
ends m from event.Finish next goes_on over = record { finish = refl; rest = record { now = next.0; later = next.1 } }
ends m from e next goes_on over = absurd (cc)

finish_ends : (m : Machine) (from : Reached) (e : Event) → e ≡ event.Finish → (after_event m e (event_action e) from).over ≡ true
finish_ends m from e is = subst (λ (v : Event). (after_event m v (event_action v) from).over ≡ true) (sym is) refl

-- a run that is over ends with Finish
pub over_at_finish : (m : Machine) (before : List Entry) (last : Entry) → IsRun m (before ++ last ∷ []) → IsOver m (before ++ last ∷ []) ↔ (last.event ≡ event.Finish)
over_at_finish m before last run =
    let from : Reached = after_entries m (run_start m) before in
    let next : IsNext m from last = (run-goes_on m before last run).next in
    let leads : after_entries m (run_start m) (before ++ last ∷ []) ≡ after_entry m from last = after_entries-append m (run_start m) before last in (
      λ over. (ends m from last.event next.event next.goes_on (subst (λ (r : Reached). r.over ≡ true) leads over)).finish,
      λ is. subst (λ (r : Reached). r.over ≡ true) (sym leads) (finish_ends m from last.event is),
    )

-- and then nothing may come
rest_from : (m : Machine) (from : Reached) (entries : List Entry) → IsRunFrom m from entries → from.over ≡ false → (after_entries m from entries).over ≡ true → IsAtRest m (after_entries m from entries).state
rest_from m from [] run goes_on over = absurd (cc)
rest_from m from (entry ∷ []) run goes_on over = (ends m from entry.event run.0.event goes_on over).rest
rest_from m from (entry ∷ next ∷ entries) run goes_on over = rest_from m (after_entry m from entry) (next ∷ entries) run.1 run.1.0.goes_on over

pub rest_when_over : (m : Machine) (entries : List Entry) → IsRun m entries → IsOver m entries → IsAtRest m (state_after m entries)
rest_when_over m entries run over = rest_from m (run_start m) entries run refl over

-- the entry of an action that may come
pub action_comes_next : (m : Machine) (h : List Entry) (action : Action) → (reached_by m h).over ≡ false → is_action_enabled m (state_at m h) (state_at m h).now action ≡ true → IsNext m (reached_by m h) (action_entry m (state_at m h) action)
action_comes_next m h action goes_on on =
    subst (λ (b : Bool). IsNext m (record { state = state_at m h; over = b }) (action_entry m (state_at m h) action)) (sym goes_on) (IsNext-action m (state_at m h) action on)

-- where it leads to
after_action : (m : Machine) (from : Reached) (action : Action) (e : Event) → event_action e ≡ Some action → (after_event m e (event_action e) from).state ≡ after m from.state from.state.now action
after_action m from action e is = rw is refl

state_leads_to : (m : Machine) (h : List Entry) (s : State) → state_at m h ≡ s → LeadsTo m h s
unfolding part_at home_at
state_leads_to m h s is = record { parts = λ k. ap (λ (x : State). part_of x k) is; homes = λ n. ap (λ (x : State). home_in m.config x n) is }

pub action_leads : (m : Machine) (h : List Entry) (entry : Entry) (action : Action) → event_action entry.event ≡ Some action → LeadsTo m (h ++ entry ∷ []) (after m (state_at m h) (state_at m h).now action)
action_leads m h entry action is =
    state_leads_to m (h ++ entry ∷ []) (after m (state_at m h) (state_at m h).now action)
    (ap (λ (r : Reached). r.state) (after_entries-append m (run_start m) h entry) ∙ after_action m (reached_by m h) action entry.event is)

-- an entry without an action changes the moment alone
part_of_later : (s : State) (t k : ℕ) → part_of (record s { now = t }) k ≡ part_of s k
part_of_later s t k = refl

home_in_later : (config : Config) (s : State) (t n : ℕ) → home_in config (record s { now = t }) n ≡ home_in config s n
home_in_later config s t n = refl

record SameParts (config : Config) (s next : State) : Type 0 where
  parts : (k : ℕ) → part_of next k ≡ part_of s k
  homes : (n : ℕ) → home_in config next n ≡ home_in config s n

after_none : (config : Config) (from : Reached) (o : Option ℕ) → SameParts config from.state (after_quiet o from).state
after_none config from None = record { parts = λ k. refl; homes = λ n. refl }
after_none config from (Some t) = record { parts = part_of_later from.state t; homes = home_in_later config from.state t }

after_no_action : (m : Machine) (from : Reached) (e : Event) → event_action e ≡ None → SameParts m.config from.state (after_event m e (event_action e) from).state
after_no_action m from e is = subst (λ (o : Option Action). SameParts m.config from.state (after_event m e o from).state) (sym is) (after_none m.config from (named_next_moment e))

as_before : (m : Machine) (h before : List Entry) → SameParts m.config (state_at m before) (state_at m h) → LeadsAsBefore m h before
unfolding part_at home_at
as_before m h before same = record { parts = same.parts; homes = same.homes }

pub quiet_leads : (m : Machine) (h : List Entry) (entry : Entry) → event_action entry.event ≡ None → LeadsAsBefore m (h ++ entry ∷ []) h
quiet_leads m h entry is =
    as_before m (h ++ entry ∷ []) h
    (subst (λ (r : Reached). SameParts m.config (state_at m h) r.state) (sym (after_entries-append m (run_start m) h entry)) (after_no_action m (reached_by m h) entry.event is))
