-- The law of entries, from what is known of the states of a run.
use Rattle.std.proofs.lemmas.Option.{slice_get_within}
use Rattle.std.proofs.Common.{◌≡◌, ◌<◌, ◌≤◌, ◌+◌, ◌/◌, ◌%◌, ◌^◌, ℕ, suc, Bool, true, false, List, [], ◌∷◌, ◌++◌, refl, arith, subst, sym, ◌∙◌, ap, inl, inr}
use Rattle.std.specs.Prelude.{Option, Some, None, Result, Ok, Err, unwrap_or, option_map, slice_get, nat_le, ◌&&◌, not, cond}
use Rattle.std.specs.List.{All, AllByRecursion}
use Rattle.std.specs.Option.{IfSome}
use Rattle.std.proofs.lemmas.List.Elements.{recursion_from_All, All-from_recursion}
use Rattle.std.proofs.lemmas.Bool.{or_cases}
use Rattle.sched_base.specs.Numbers.{pool as pool_number, core}
use Rattle.sched_base.specs.declared.Moment.{Moment}
use Rattle.sched_base.specs.declared.ProcId.{ProcId}
use Rattle.sched_base.specs.declared.PoolId.{PoolId}
use Rattle.sched_base.proofs.Lists.{each_get}
use Rattle.sched_model.specs.declared.machine.Machine.{Machine}
use Rattle.sched_model.specs.declared.action.Action.{Action}
use Rattle.sched_model.specs.declared.action.Action.TheVariants.{Stall, Xl, Moved}
use Rattle.sched_model.specs.declared.event.Entry.{Entry}
use Rattle.sched_model.specs.declared.event.Event.{Event}
use Rattle.sched_model.specs.declared.event.Event.TheVariants as event
use Rattle.sched_model.specs.declared.event.Refusal.{Refusal}
use Rattle.sched_model.specs.declared.event.Reply.{Reply}
use Rattle.sched_model.specs.declared.event.Reply.TheVariants as reply
use Rattle.sched_model.specs.declared.state.State.{State}
use Rattle.sched_model.specs.declared.state.Pool.{Pool}
use Rattle.sched_model.specs.declared.state.FreeCore.{FreeCore}
use Rattle.sched_model.specs.declared.work.StallLine.{StallLine}
use Rattle.sched_model.specs.declared.work.CommandLine.{CommandLine}
use Rattle.sched_model.specs.Places.{at_place, test_at}
use Rattle.sched_model.specs.Opening.{absent_pool}
use Rattle.sched_model.specs.CheckedMachine.{IsChecked, IsCheckedStall, IsCheckedCommandLine, most_span}
use Rattle.sched_model.specs.Actions.{home_pool_of_action, home_pool_of_core}
use Rattle.sched_model.specs.Pool.{enabled_in, event_in}
use Rattle.sched_model.specs.Machine.{is_action_enabled, has_move_under_way, enabled_at_home, is_free_core_ready, home_pool, event_of, answer_of, later_stall_end, next_in_horizon, least_later_moment}
use Rattle.sched_model.specs.Runs.{Reached, IsNext, IsNextEvent, IsRun, IsRunFrom, event_action, named_next_moment, run_start, after_entry, after_entries}
use Rattle.sched_model.proofs.RunLemmas.{IsRunFrom-append, after_entries-append}
use Rattle.sched_laws.proofs.EachPlace.{by_option, place_below}
use Rattle.sched_laws.proofs.Lists.{some-test_at}
use Rattle.state_ranges.specs.Ranges.{IsNear}
use Rattle.state_ranges.proofs.RangesWalk.{NearProcessor}
use Rattle.state_ranges.proofs.RangesLaw.{fits_in_runs, max_low}
use Rattle.state_ranges.proofs.Done.{in_range}
use Rattle.composition_laws.proofs.Begun.{housed_opening}
use Rattle.composition_laws.proofs.NamesLaw.{housed_from}
use Rattle.sched_print.specs.Ranges.{IsPrintable, IsPrintableEvent, IsCommandNumber, IsPool}
use Rattle.text_laws.proofs.Numbers.{Known, cores_few, now_low, target_low, mover_low}
use Rattle.text_laws.proofs.Judged.{SaysAnswer, answered}
use Rattle.text_laws.proofs.Events.{pool_printable}

answer_printable : (k : ℕ) (answer : Result Reply Refusal) → IsCommandNumber k → SaysAnswer answer → IsPrintableEvent (event.Xl k answer)
answer_printable k (Ok r) number says = (number, says)
answer_printable k (Err fault) number says = (number, says)

module _ (m : Machine) (checked : IsChecked m) where
  knows : (entries : List Entry) → IsRun m entries → Known m (after_entries m (run_start m) entries).state
  knows entries run = record {
    range = in_range m checked entries run;
    fits = fits_in_runs m checked entries run;
    housed = housed_from m checked [] entries (run_start m) refl tt run (housed_opening m checked);
  }

  module _ (s : State) (known : Known m s) where
    abbrev t : ℕ
    t = s.now

    -- the pool of the subject of an action that may come
    record Home (action : Action) : Type 0 where
      i : ℕ
      pool : Pool
      at : at_place s.pools i ≡ Some pool
      enabled : enabled_in m.config.granularity t pool action ≡ true
      is : home_pool m s action ≡ pool

    abbrev pool_by_home : Option ℕ → Pool
    pool_by_home o = elim o [ None ↦ absent_pool m.config | Some i ↦ unwrap_or (at_place s.pools i) (absent_pool m.config) ]

    home_of_action : (action : Action) → enabled_at_home m s t action ≡ true → Home action
    home_of_action action on = by_home (home_pool_of_action m.config.granularity s action) refl on
      where
        by_home : (o : Option ℕ) → home_pool_of_action m.config.granularity s action ≡ o → elim o as (λ _. Bool) [ None ↦ false | Some i ↦ test_at s.pools i (λ pool. enabled_in m.config.granularity t pool action) ] ≡ true → Home action
        by_home None same may = absurd (cc)
        by_home (Some i) same may =
            let x = some-test_at s.pools i (λ pool. enabled_in m.config.granularity t pool action) may in
            record { i = i; pool = x.0; at = x.1; enabled = x.2; is = ap pool_by_home same ∙ ap (λ (o : Option Pool). unwrap_or o (absent_pool m.config)) x.1 }

    home_printable : (action : Action) → enabled_at_home m s t action ≡ true → IsPrintableEvent (event_in m.config.granularity t (home_pool m s action) action)
    home_printable action on =
        let h = home_of_action action on in
        subst (λ (pool : Pool). IsPrintableEvent (event_in m.config.granularity t pool action)) (sym h.is)
        (pool_printable m checked t h.pool (now_low m checked s known) (known.range.pools h.i h.pool h.at) (known.fits.pools h.i h.pool h.at).fits (λ d x j has moves. mover_low m checked s known h.i h.pool d x j h.at has moves) action h.enabled)

    -- the end of a stall
    end_low : (p end : ℕ) → end ≤ t + most_span → later_stall_end m.config.granularity s p end ≤ t + most_span
    end_low p end near =
        let g : ℕ = m.config.granularity in
        let Q : ℕ → Type 0 = λ n. n ≤ t + most_span in
        by_option Q (home_pool_of_core s (p / g)) _ _
        (λ none. by_option Q (at_place s.free (p / g)) _ _ (λ none2. near)
        (λ c at. by_option Q (slice_get c.stall_ends (p % g)) _ _ (λ none3. near)
        (λ old has. max_low old.0 end (t + most_span) (each_get (IsNear t) c.stall_ends (p % g) old (recursion_from_All (IsNear t) c.stall_ends (known.range.free (p / g) c at).stalls) has) near)))
        (λ i is. by_option Q (at_place s.pools i) _ _ (λ none. near)
        (λ pool at. by_option Q (at_place pool.resources (p / g)) _ _ (λ none. near)
        (λ c has. by_option Q (slice_get c.processors (p % g)) _ _ (λ none. near)
        (λ q is_q. max_low q.stall_end.0 end (t + most_span) (each_get (NearProcessor t) c.processors (p % g) q ((known.fits.pools i pool at).fits.cores (p / g) c has).stalls is_q) near))))

    stall_printable : IsPrintableEvent (event_of m s t Stall)
    stall_printable = (
      by_option (λ (p : ProcId). p.0 < 64) (slice_get m.work.stalls s.next_stall) _ _ (λ none. omega arith) (λ line is. (let a = (line_is line is).cpu in let b = checked.config.processors.most in omega (arith, a, b))),
      by_option (λ (a : Moment). a.0 < 2 ^ 63) (slice_get m.work.stalls s.next_stall) _ _ (λ none. omega arith)
          (λ line is. (let a = (line_is line is).span.most in let e = end_low line.cpu.0 (t + line.span.0) (omega (arith, a)) in let l = now_low m checked s known in omega (arith, e, l))),
    )
      where
        line_is : (line : StallLine) → slice_get m.work.stalls s.next_stall ≡ Some line → IsCheckedStall m.config line
        line_is line is = each_get (IsCheckedStall m.config) m.work.stalls s.next_stall line (recursion_from_All (IsCheckedStall m.config) m.work.stalls checked.work.stalls) is

    command_printable : is_action_enabled m s t Xl ≡ true → IsPrintableEvent (event_of m s t Xl)
    command_printable on = by_line (slice_get m.work.commands s.next_command) refl on
      where
        by_line : (o : Option CommandLine) → slice_get m.work.commands s.next_command ≡ o → elim o as (λ _. Bool) [ None ↦ false | Some line ↦ nat_le line.at.0 t && not (has_move_under_way s) ] ≡ true
            → IsPrintableEvent (event.Xl (suc s.next_command) (elim o as (λ _. Result Reply Refusal) [ None ↦ Ok reply.Done | Some line ↦ answer_of m s line ]))
        by_line None at may = absurd (cc)
        by_line (Some line) at may =
            let inside = slice_get_within m.work.commands s.next_command line at in
            let few = checked.work.few_commands in
            let good = each_get IsCheckedCommandLine m.work.commands s.next_command line (recursion_from_All IsCheckedCommandLine m.work.commands checked.work.commands) at in
            answer_printable (suc s.next_command) (answer_of m s line) (omega arith, omega (arith, inside, few)) (answered m checked s known line good.command good.place)

    moved_printable : (r : ℕ) → is_action_enabled m s t (Moved (core r)) ≡ true → IsPrintableEvent (event_of m s t (Moved (core r)))
    moved_printable r on = (
      elim (or_cases (test_at s.free r (is_free_core_ready t)) (enabled_at_home m s t (Moved (core r))) on) [
        | inl free ↦ (let x = some-test_at s.free r (is_free_core_ready t) free in let b = place_below s.free r x.0 x.1 in let e = known.range.free_places in let few = cores_few m checked in omega (arith, b, e, few))
        | inr home ↦ (home_printable (Moved (core r)) home).0
      ],
      by_option (λ (o : Option PoolId). IfSome o IsPool) (at_place s.free r) _ _ (λ none. tt) (λ c at. aimed c at c.target refl),
    )
      where
        aimed : (c : FreeCore) → at_place s.free r ≡ Some c → (o : Option ℕ) → c.target ≡ o → IfSome (option_map pool_number o) IsPool
        aimed c at None is = tt
        aimed c at (Some i) is = target_low m checked s known r c i at is

    action_printable : (action : Action) → is_action_enabled m s t action ≡ true → IsPrintableEvent (event_of m s t action)
    action_printable Stall on = stall_printable
    action_printable Xl on = command_printable on
    action_printable (Moved r) on = moved_printable r.0 on
    action_printable action on = home_printable action on

    -- the next moment that an End names is within the horizon
    next_low : (next : ℕ) → next_in_horizon m s ≡ Some next → next < 2 ^ 63
    next_low next is =
        by_option (λ (o : Option ℕ). o ≡ Some next → next < 2 ^ 63) (least_later_moment m s s.now) None (λ n. cond (nat_le n m.config.horizon.0) (Some n) None)
        (λ none e. absurd (cc))
        (λ n at e. within n (nat_le n m.config.horizon.0) refl e) is
      where
        within : (n : ℕ) (b : Bool) → nat_le n m.config.horizon.0 ≡ b → cond b (Some n) None ≡ Some next → next < 2 ^ 63
        within n true passes e = (let same : n ≡ next = cc in let most = checked.config.horizon.most in let l : n ≤ m.config.horizon.0 = grind (arith, passes) in omega (arith, same, most, l))
        within n false fails e = absurd (cc)

    quiet_printable : (e : Event) → event_action e ≡ None → next_in_horizon m s ≡ named_next_moment e → IsPrintableEvent e
    quiet_printable (event.End next) quiet is = next_low next.0 is
    quiet_printable event.Finish quiet is = tt
    quiet_printable (event.Stall p until) quiet is = absurd (cc)
    quiet_printable (event.Xl k answer) quiet is = absurd (cc)
    quiet_printable (event.Moved r to) quiet is = absurd (cc)
    quiet_printable (event.DomMoved d to) quiet is = absurd (cc)
    quiet_printable (event.Wake v) quiet is = absurd (cc)
    quiet_printable (event.Block p v) quiet is = absurd (cc)
    quiet_printable (event.Slice r) quiet is = absurd (cc)
    quiet_printable (event.Repl u start deadline budget extra) quiet is = absurd (cc)
    quiet_printable (event.Refill d periods budget) quiet is = absurd (cc)
    quiet_printable (event.Arrive p) quiet is = absurd (cc)
    quiet_printable (event.Decide r unit due late reset) quiet is = absurd (cc)
    quiet_printable (event.Leave p v) quiet is = absurd (cc)
    quiet_printable (event.Save r u queued) quiet is = absurd (cc)

    event_printable : (e : Event) (o : Option Action) → event_action e ≡ o → IsNextEvent m s e o → IsPrintableEvent e
    event_printable e None quiet next = quiet_printable e quiet next.1
    event_printable e (Some action) is next = subst IsPrintableEvent (sym next.1) (action_printable action next.0)

  entry_printable : (from : Reached) (entry : Entry) → Known m from.state → IsNext m from entry → IsPrintable entry
  entry_printable from entry known next =
      let at = next.moment in
      let low = now_low m checked from.state known in
      (omega (arith, at, low), event_printable from.state known entry.event (event_action entry.event) refl next.event)

  rest_printable : (done rest : List Entry) (from : Reached) → after_entries m (run_start m) done ≡ from → IsRun m done → IsRunFrom m from rest → AllByRecursion IsPrintable rest
  rest_printable done [] from is run goes = tt
  rest_printable done (e ∷ rest) from is run goes = (
    entry_printable from e (subst (λ (r : Reached). Known m r.state) is (knows done run)) goes.0,
    rest_printable (done ++ e ∷ []) rest (after_entry m from e) (after_entries-append m (run_start m) done e ∙ ap (λ r. after_entry m r e) is)
        (IsRunFrom-append m (run_start m) done e run (subst (λ r. IsNext m r e) (sym is) goes.0)) goes.1,
  )

  pub printable_entries : (entries : List Entry) → IsRun m entries → All IsPrintable entries
  printable_entries entries run = All-from_recursion IsPrintable entries (rest_printable [] entries (run_start m) refl tt run)
