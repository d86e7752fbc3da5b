-- In a moment each cause but a line takes one away of what is to come at its first state, and a command adds one at most.
use Rattle.sched_base.specs.Numbers.{core, domain as domain_number, one_if}
use Rattle.std.proofs.Common.{◌≡◌, ◌≤◌, ◌<◌, ◌+◌, ◌*◌, ℕ, Bool, true, List, [], ◌∷◌, ◌++◌, refl, arith, ap, subst, sym, ◌∙◌, ◌⊎◌, inl, inr}
use Rattle.std.specs.Prelude.{Option, Some, is_some, slice_get, ◌==◌}
use Rattle.std.specs.Option.{IfSome}
use Rattle.std.proofs.lemmas.Bool.{eqb-true}
use Rattle.sched_base.specs.declared.UnitId.{UnitId}
use Rattle.sched_model.specs.declared.action.Action.{Action}
use Rattle.sched_model.specs.declared.action.Action.TheVariants.{Stall, Xl, Moved, DomMoved}
use Rattle.sched_model.specs.declared.config.Frame.{Frame}
use Rattle.sched_model.specs.declared.event.Entry.{Entry}
use Rattle.sched_model.specs.declared.event.Event.{Event}
use Rattle.sched_model.specs.declared.event.Event.TheVariants as event
use Rattle.sched_model.specs.declared.machine.Machine.{Machine}
use Rattle.sched_model.specs.declared.state.ArincRecords.{ArincRecords}
use Rattle.sched_model.specs.declared.state.Credit2Records.{Credit2Records}
use Rattle.sched_model.specs.declared.state.Pool.{Pool}
use Rattle.sched_model.specs.declared.state.Records.TheVariants.{Credit2Pool, ArincPool}
use Rattle.sched_model.specs.declared.state.Resource.{Resource}
use Rattle.sched_model.specs.declared.state.State.{State}
use Rattle.sched_model.specs.Places.{at_place, has_listed_unit}
use Rattle.sched_model.specs.Machine.{is_action_enabled, after, after_at_home, enabled_at_home}
use Rattle.sched_model.specs.Runs.{Reached, IsRun, IsNextEvent, event_action, run_start, after_entry, after_event, after_entries}
use Rattle.sched_model.specs.CheckedMachine.{IsChecked}
use Rattle.sched_model.proofs.RunLemmas.{after_entries-append}
use Rattle.sched_laws.specs.EachPlace.{EachPlace}
use Rattle.sched_laws.specs.StateLaws.{state_after}
use Rattle.sched_base.proofs.Bools.{and_left, and_right}
use Rattle.sched_laws.proofs.EachPlace.{by_option}
use Rattle.sched_laws.proofs.Kept.{IsApart}
use Rattle.sched_laws.proofs.Lists.{is_some_at}
use Rattle.sched_laws.proofs.Reached.{is_apart}
use Rattle.sched_laws.proofs.StillWaits.{split_run}
use Rattle.state_ranges.specs.Ranges.{IsFrame, PoolInRange, RecordsInRange}
use Rattle.state_ranges.proofs.Done.{in_range}
use Rattle.state_ranges.proofs.RangesLaw.{fits_in_runs}
use Rattle.composition_laws.proofs.Counted.{in_all}
use Rattle.composition_laws.proofs.Staying.{same_home, same_stall, adds_line}
use Rattle.composition_laws.proofs.Ending.{moved_ends, dom_moved_ends}
use Rattle.moment_laws.specs.Turns.{how_many}
use Rattle.moment_laws.proofs.StretchFalls.{push_assoc}
use Rattle.moment_laws.proofs.Credit2Steps.{Has}
use Rattle.moment_laws.proofs.LegRuns.{action_in}
use Rattle.moment_laws.specs.Moments.{is_cause, is_line, are_at}
use Rattle.moment_laws.proofs.DueInPools.{takes}
use Rattle.moment_laws.proofs.DueInStates.{of_pools, IsReadyPool, command_less, stall_less, moved_less, dom_moved_less, home_lowers}
use Rattle.moment_laws.specs.Credit2Turns.{HasUnit}
use Rattle.moment_laws.proofs.ReachedDecisions.{PoolOf, cur_unit, cur_there, has_record, waiting_unit, waiting_there}

-- the pools of a reached state are such that decisions are late enough
module _ (m : Machine) (checked : IsChecked m) (before : List Entry) (run : IsRun m before) (i : ℕ) (pool : Pool) (at : at_place (state_after m before).pools i ≡ Some pool) where
  abbrev s : State
  s = state_after m before

  ranges : PoolInRange m s.now pool
  ranges = (in_range m checked before run).pools i pool at

  -- the core's own unit has a record, and so have those that wait
  of : PoolOf m before pool
  of = record { run = run; i = i; at = at }

  in_domain : (rs : Credit2Records) (u : UnitId) → HasUnit rs u → Has (λ d. is_some (slice_get d.units u.n) ≡ true) rs.domains u.dom.0
  in_domain rs u has = record { domain = has.domain; at = has.at; fact = is_some_at (slice_get has.domain.units u.n) has.record_of has.get }

  has_units : (rs : Credit2Records) → pool.scheduler.records ≡ Credit2Pool rs → (r : ℕ) (c : Resource) → at_place pool.resources r ≡ Some c → (w : UnitId) → (c.cur ≡ Some w) ⊎ (has_listed_unit pool.scheduler.queue w ≡ true) → Has (λ d. is_some (slice_get d.units w.n) ≡ true) rs.domains w.dom.0
  has_units rs is r c at_r w (inl cur) = in_domain rs w (has_record m checked before pool of rs is w (cur_unit m checked before pool of r c w at_r cur) (cur_there m checked before pool of r c w at_r cur))
  has_units rs is r c at_r w (inr waits) = in_domain rs w (has_record m checked before pool of rs is w (waiting_unit m checked before pool of w waits) (waiting_there m checked before pool of w waits))

  some_major : (arinc : ArincRecords) (frame : Frame) → pool.scheduler.records ≡ ArincPool arinc → arinc.frame ≡ Some frame → 0 < frame.major.0
  some_major arinc frame is has =
      let r : RecordsInRange m s.now (ArincPool arinc) = subst (RecordsInRange m s.now) is ranges.records in
      let f : IsFrame frame = subst (λ (o : Option Frame). IfSome o IsFrame) has r.1 in
      f.some_span

  ready_pool : IsReadyPool m s.now pool
  ready_pool = record {
    fits = ((fits_in_runs m checked before run).pools i pool at).fits;
    ready = λ r c at_r. record { frame = some_major; units = λ rs is w from. has_units rs is r c at_r w from };
  }

pub ready_pools : (m : Machine) → IsChecked m → (before : List Entry) → IsRun m before → EachPlace (IsReadyPool m (state_after m before).now) (state_after m before).pools
ready_pools m checked before run i pool at = ready_pool m checked before run i pool at

-- what is to come of the state, with what is on its way
abbrev pub to_come : ℕ → State → ℕ
to_come t s = of_pools t s + in_all s

module _ (m : Machine) (checked : IsChecked m) (s : State) (apart : IsApart s) (each : EachPlace (IsReadyPool m s.now) s.pools) where
  at_home : (action : Action) → enabled_at_home m s s.now action ≡ true → to_come s.now (after_at_home m.config.granularity s s.now action) + takes action ≤ to_come s.now s
  at_home action on =
      let a = home_lowers m s.now checked s each action on in
      let b = same_home m.config.granularity s.now action s in
      omega (arith, a, b)

  stalls : to_come s.now (after m s s.now Stall) ≤ to_come s.now s
  stalls =
      let a = stall_less m s.now s in
      let b : in_all (after m s s.now Stall) ≡ in_all s = by_option (λ (x : State). in_all x ≡ in_all s) (slice_get m.work.stalls s.next_stall) _ _ (λ is. refl) (λ l is. same_stall m.config.granularity s.now l s) in
      omega (arith, a, b)

  commands : to_come s.now (after m s s.now Xl) ≤ 1 + to_come s.now s
  commands =
      let a = command_less m s.now s in
      let b : in_all (after m s s.now Xl) ≤ 1 + in_all s = by_option (λ (x : State). in_all x ≤ 1 + in_all s) (slice_get m.work.commands s.next_command) _ _ (λ is. omega arith) (λ l is. adds_line m s.now l s) in
      omega (arith, a, b)

  core_moves : (r : ℕ) → is_action_enabled m s s.now (Moved (core r)) ≡ true → 1 + to_come s.now (after m s s.now (Moved (core r))) ≤ to_come s.now s
  core_moves r on =
      let a = moved_less m s.now r s in
      let b = moved_ends m s s.now r apart on in
      omega (arith, a, b)

  domain_moves : (d : ℕ) → is_action_enabled m s s.now (DomMoved (domain_number d)) ≡ true → 1 + to_come s.now (after m s s.now (DomMoved (domain_number d))) ≤ to_come s.now s
  domain_moves d on =
      let a = dom_moved_less m s.now d s in
      let b = dom_moved_ends m s s.now d on in
      omega (arith, a, b)

  event_lowers : (e : Event) (over : Bool) → IsNextEvent m s e (event_action e) → one_if (is_cause e) + to_come s.now (after_event m e (event_action e) (record { state = s; over = over })).state ≤ 2 * one_if (is_line e) + to_come s.now s
  event_lowers (event.Stall p until) over next = (let a = stalls in omega (arith, a))
  event_lowers (event.Xl k answer) over next = (let a = commands in omega (arith, a))
  event_lowers (event.Moved r to) over next = (let a = core_moves r.0 next.0 in omega (arith, a))
  event_lowers (event.DomMoved d to) over next = (let a = domain_moves d.0 next.0 in omega (arith, a))
  event_lowers (event.End k) over next = omega arith
  event_lowers event.Finish over next = omega arith
  event_lowers e over next = (let a = at_home (action_in e) next.0 in omega (arith, a))

pub moment_lowers : (m : Machine) → IsChecked m → (t : ℕ) (moment before : List Entry) → IsRun m (before ++ moment) → are_at t moment ≡ true
    → how_many (λ (e : Entry). is_cause e.event) moment ≤ 2 * how_many (λ (e : Entry). is_line e.event) moment + to_come t (state_after m before)
moment_lowers m checked t [] before run at = omega arith
moment_lowers m checked t (e ∷ moment) before run at =
    let s : State = state_after m before in
    let parts = split_run m (run_start m) before (e ∷ moment) run in
    let next = parts.1.0 in
    let now : s.now ≡ t = sym next.moment ∙ eqb-true e.at.0 t (and_left (e.at.0 == t) _ at) in
    let here = event_lowers m checked s (is_apart m checked before parts.0) (ready_pools m checked before parts.0) e.event (after_entries m (run_start m) before).over next.event in
    let here_t = subst (λ k. one_if (is_cause e.event) + to_come k (after_entry m (after_entries m (run_start m) before) e).state ≤ 2 * one_if (is_line e.event) + to_come k s) now here in
    let rest = moment_lowers m checked t moment (before ++ e ∷ []) (subst (IsRun m) (sym (push_assoc before e moment)) run) (and_right (e.at.0 == t) _ at) in
    let same : to_come t (state_after m (before ++ e ∷ [])) ≡ to_come t (after_entry m (after_entries m (run_start m) before) e).state = ap (λ (x : Reached). to_come t x.state) (after_entries-append m (run_start m) before e) in
    omega (arith, here_t, rest, same)
