-- In every state of a run the core keeps its pace, so no choice is kept by the rate limit.
use Rattle.std.proofs.Common.{◌≡◌, ◌<◌, ◌≤◌, ◌+◌, ◌-◌, ◌*◌, ℕ, Bool, true, false, List, [], ◌∷◌, refl, arith, subst, sym, ap, ◌∙◌, ◌⊎◌, inl, inr}
use Rattle.std.specs.Prelude.{Option, Some, None, option_map, is_some, nat_lt, ◌&&◌}
use Rattle.std.specs.List.{list_all}
use Rattle.std.proofs.Math.Decide.{ℕ_discrete}
use Rattle.sched_base.specs.Numbers.{moment}
use Rattle.sched_base.specs.declared.Moment.{Moment}
use Rattle.sched_base.specs.declared.UnitId.{UnitId}
use Rattle.sched_base.proofs.Bools.{and_left, and_right}
use Rattle.sched_model.specs.declared.action.Action.{Action}
use Rattle.sched_model.specs.declared.action.Action.TheVariants.{Block}
use Rattle.sched_model.specs.declared.ask.Ask.{Ask}
use Rattle.sched_model.specs.declared.event.Entry.{Entry}
use Rattle.sched_model.specs.declared.machine.Machine.{Machine}
use Rattle.sched_model.specs.declared.state.Credit2Records.{Credit2Records}
use Rattle.sched_model.specs.declared.state.Pool.{Pool}
use Rattle.sched_model.specs.declared.state.Records.TheVariants.{Credit2Pool}
use Rattle.sched_model.specs.declared.state.Resource.{Resource}
use Rattle.sched_model.specs.declared.state.State.{State}
use Rattle.sched_model.specs.Actions.{home_pool_of_action, change_pool}
use Rattle.sched_model.specs.CheckedMachine.{IsChecked}
use Rattle.sched_model.specs.Credit2.{credit2_candidate, has_domain_budget, is_rate_limited, own_burned_records}
use Rattle.sched_model.specs.EligibleUnits.{is_unit_allowed}
use Rattle.sched_model.specs.Machine.{is_action_enabled, after}
use Rattle.sched_model.specs.Opening.{opening}
use Rattle.sched_model.specs.Places.{at_place, test_at}
use Rattle.sched_model.specs.Pool.{after_in, core_ask, enabled_in, is_first_processor_up, is_gathering, is_held_back, settled_pool}
use Rattle.sched_model.specs.Runs.{Reached, IsNext, IsNextEvent, IsRunFrom, after_entries, after_entry, after_event, after_quiet, event_action, named_next_moment, run_start}
use Rattle.sched_model.specs.State.{may_unit_run}
use Rattle.sched_model.proofs.PlaceLemmas.{at_place-change_at_other}
use Rattle.sched_laws.specs.PoolFacts.{UnitsAreOwn}
use Rattle.sched_laws.proofs.EachPlace.{at_place-change_at, by_cond, by_option}
use Rattle.sched_laws.proofs.Kept.{passes_at}
use Rattle.sched_laws.proofs.Reached.{units_are_own}
use Rattle.sched_laws.proofs.Sound.{some_if_all}
use Rattle.state_ranges.proofs.RangesLaw.{fits_in_runs}
use Rattle.state_ranges.proofs.RangesWalk.{PoolFits}
use Rattle.term_laws.proofs.ReachedStates.{IsReached, reached_next, reached_opening}
use Rattle.service_laws.specs.OnTime.{IsOnTime}
use Rattle.service_laws.proofs.ChosenInRuns.{fresh_core}
use Rattle.service_laws.proofs.EndsSums.{next_rises}
use Rattle.service_laws.proofs.Passing.{NextMomentLaw}
use Rattle.undisturbed_laws.proofs.Opened.{configured_opening}
use Rattle.undisturbed_laws.proofs.Runs.{after_pool, enabled_pool, only_pools}
use Rattle.undisturbed_laws.proofs.Steps.{stays_after}
use Rattle.undisturbed_laws.proofs.Units.{core_there}
use Rattle.record_laws.proofs.Credit2Seen.{own_limit}
use Rattle.share_laws.specs.Shares.{IsPlainCredit2, NobodySleeps}
use Rattle.share_laws.proofs.Paced.{SeenFor, Gone, IsKnown, Paced, gone_stops}
use Rattle.share_laws.proofs.PacedSteps.{paced_after, paced_settled}
use Rattle.share_laws.proofs.Runs.{KeepsNobody, OnTimeLaw, configured, core_on_time, of_reached, one, passes_before, pool_stays, sound}
use Rattle.share_laws.proofs.Start.{first_books}

module _ (m : Machine) (checked : IsChecked m) (i r rate : ℕ) (plain : IsPlainCredit2 m i r rate) (law : NextMomentLaw m) (on_time : OnTimeLaw m) where
  known : (s : State) → IsReached m s → (pool : Pool) → at_place s.pools i ≡ Some pool → IsKnown m checked i r rate plain s.now pool
  known s reached pool at = record {
    stays = pool_stays m checked i r rate plain s reached pool at;
    one = one m checked i r rate plain s reached pool at;
    own = of_reached m (λ (x : State). (p : Pool) → at_place x.pools i ≡ Some p → UnitsAreOwn p) (λ entries run p at_p. units_are_own m checked entries run i p at_p) s reached pool at;
    sound = sound m checked i r rate plain s reached pool at;
    fits = of_reached m (λ (x : State). (p : Pool) → at_place x.pools i ≡ Some p → PoolFits m x.now p) (λ entries run p at_p. ((fits_in_runs m checked entries run).pools i p at_p).fits) s reached pool at;
  }

  -- the pool, whose core keeps its pace
  pub record PacedAt (s : State) : Type 0 where
    pub pool : Pool
    pub at : at_place s.pools i ≡ Some pool
    pub is : Paced m checked i r rate plain s.now pool

  module _ (s : State) (reached : IsReached m s) (here : PacedAt s) where
    own : (action : Action) → SeenFor m checked i r rate plain s.now here.pool action → enabled_in m.config.granularity s.now here.pool action ≡ true → PacedAt (change_pool i (λ pool. settled_pool s.now (after_in m.config.granularity s.now pool action)) s)
    own action seen on =
        let g : ℕ = m.config.granularity in
        let f : Pool → Pool = λ pool. settled_pool s.now (after_in g s.now pool action) in
        let k = known s reached here.pool here.at in
        record {
          pool = f here.pool;
          at = at_place-change_at i f s.pools ∙ ap (option_map f) here.at;
          is = paced_settled m checked i r rate plain s.now (after_in g s.now here.pool action) (stays_after m i plain.config g s.now here.pool action on k.stays) (paced_after m checked i r rate plain s.now here.pool k action seen on here.is);
        }

    at_home : (action : Action) (home : Option ℕ) → SeenFor m checked i r rate plain s.now here.pool action → elim home as (λ _. Bool) [ None ↦ false | Some j ↦ test_at s.pools j (λ pool. enabled_in m.config.granularity s.now pool action) ] ≡ true
        → PacedAt (elim home as (λ _. State) [ None ↦ s | Some j ↦ change_pool j (λ pool. settled_pool s.now (after_in m.config.granularity s.now pool action)) s ])
    at_home action None seen on = absurd (cc)
    at_home action (Some j) seen on =
        elim (ℕ_discrete i j) [
          | yes e ↦ subst (λ k. PacedAt (change_pool k (λ pool. settled_pool s.now (after_in m.config.granularity s.now pool action)) s)) e
              (own action seen (passes_at s.pools i (λ p. enabled_in m.config.granularity s.now p action) here.pool here.at (subst (λ k. test_at s.pools k (λ pool. enabled_in m.config.granularity s.now pool action) ≡ true) (sym e) on)))
          | no ne ↦ record { pool = here.pool; at = at_place-change_at_other j i (λ pool. settled_pool s.now (after_in m.config.granularity s.now pool action)) s.pools ne ∙ here.at; is = here.is }
        ]

    acted : (action : Action) → SeenFor m checked i r rate plain s.now here.pool action → is_action_enabled m s s.now action ≡ true → PacedAt (after m s s.now action)
    acted action seen on =
        let of = only_pools m plain.calm s s.now (configured m checked i r rate plain s reached) action on in
        subst PacedAt (sym (after_pool m s s.now action of)) (at_home action (home_pool_of_action m.config.granularity s action) seen (sym (enabled_pool m s s.now action of) ∙ on))

  -- what a block needs, of the state before an entry
  abbrev pub SeenBefore : Reached → Entry → Type 0
  SeenBefore from entry = (action : Action) → event_action entry.event ≡ Some action → (pool : Pool) → at_place from.state.pools i ≡ Some pool → SeenFor m checked i r rate plain from.state.now pool action

  pub step : (from : Reached) (entry : Entry) → IsNext m from entry → IsReached m from.state → SeenBefore from entry → PacedAt from.state → PacedAt (after_entry m from entry).state
  step from entry next reached seen here = by_action (event_action entry.event) refl next.event
    where
      by_end : (end : Option ℕ) → named_next_moment entry.event ≡ end → event_action entry.event ≡ None → IsNextEvent m from.state entry.event None → PacedAt (after_quiet end from).state
      by_end None is quiet ev = here
      by_end (Some later) is quiet ev =
          let rise : from.state.now < later = (next_rises m law from.state ev.0 later (ev.1 ∙ is)).0 in
          let core = here.is in
          let punctual : IsOnTime (later - 1) core.core = core_on_time m checked i r rate plain law on_time from entry next reached (later - 1) (passes_before m checked i r rate plain law on_time from.state entry.event later quiet is rise) here.pool here.at core.core core.has in
          let calm = punctual.decided in
          record {
            pool = here.pool;
            at = here.at;
            is = record {
              core = core.core;
              has = core.has;
              past = (let p = core.past in omega (arith, p, rise));
              due_late = core.due_late;
              pends = λ w cur pending. absurd (cc);
            };
          }

      by_action : (o : Option Action) → event_action entry.event ≡ o → IsNextEvent m from.state entry.event o → PacedAt (after_event m entry.event o from).state
      by_action None is ev = by_end (named_next_moment entry.event) refl is ev
      by_action (Some action) is ev = acted from.state reached here action (seen action is here.pool here.at) ev.0

  pub opened : PacedAt (opening m)
  opened =
      let first = (configured_opening m checked).pools i plain.config plain.there in
      let core = core_there m i r plain.config first.item first.meets plain.core in
      let fresh = fresh_core m i first.item first.at r core.0 core.1 in
      let idle : core.0.cur ≡ None = sym (ap (λ (c : Resource). c.cur) fresh) in
      let since : core.0.since ≡ moment 0 = sym (ap (λ (c : Resource). c.since) fresh) in
      record {
        pool = first.item;
        at = first.at;
        is = record {
          core = core.0;
          has = core.1;
          past = subst (λ (k : Moment). k.0 ≤ 0) (sym since) (omega arith);
          due_late = λ w due cur is. absurd (cc);
          pends = λ w cur pending. absurd (cc);
        };
      }

  -- a core whose unit, if it may go on, ran for the rate limit
  kept_off : (t : ℕ) (pool : Pool) (c : Resource) (books : Credit2Records) → ((w : UnitId) → c.cur ≡ Some w → may_unit_run m.config.granularity pool w ≡ true → is_rate_limited books c.since.0 t ≡ false)
      → (is_some (credit2_candidate (core_ask m.config.granularity t pool r c) pool.scheduler books) && is_rate_limited books c.since.0 t) ≡ false
  kept_off t pool c books ran =
      let ask : Ask = core_ask m.config.granularity t pool r c in
      by_option (λ (o : Option UnitId). (is_some o && is_rate_limited books c.since.0 t) ≡ false) c.cur None _ (λ none. refl)
      (λ u is. by_cond (λ (o : Option UnitId). (is_some o && is_rate_limited books c.since.0 t) ≡ false) (ask.runnable && is_unit_allowed pool.scheduler ask.home.0 ask.core.0 u && has_domain_budget books u) (Some u) None
      (λ all. ran u is (subst (λ (o : Option UnitId). elim o as (λ _. Bool) [ None ↦ false | Some w ↦ may_unit_run m.config.granularity pool w ] ≡ true) is
      (and_left ask.runnable (is_unit_allowed pool.scheduler ask.home.0 ask.core.0 u) (and_left (ask.runnable && is_unit_allowed pool.scheduler ask.home.0 ask.core.0 u) (has_domain_budget books u) all))))
      (λ off. refl))

  -- so the rate limit keeps nobody
  pub keeps_nobody : (s : State) → IsReached m s → PacedAt s → KeepsNobody m checked i r rate plain s
  keeps_nobody s reached here pool at c has on books is =
      let g : ℕ = m.config.granularity in
      let may = passes_at pool.resources r (λ (x : Resource). list_all is_held_back x.processors && is_gathering x && is_first_processor_up s.now x) c has on in
      let two = and_left (list_all is_held_back c.processors && is_gathering c) (is_first_processor_up s.now c) may in
      let all : list_all is_held_back c.processors ≡ true = and_left (list_all is_held_back c.processors) (is_gathering c) two in
      let open_c : is_gathering c ≡ true = and_right (list_all is_held_back c.processors) (is_gathering c) two in
      let any = some_if_all s.now c.processors (and_right (list_all is_held_back c.processors && is_gathering c) (is_first_processor_up s.now c) may) all in
      let pending : c.pending ≡ true = ((sound m checked i r rate plain s reached pool at c has).gathers open_c any).0 in
      let at_here = here.at in
      let same_pool : here.pool ≡ pool = cc in
      let pace : Paced m checked i r rate plain s.now pool = subst (Paced m checked i r rate plain s.now) same_pool here.is in
      let has_here = pace.has in
      let same : pace.core ≡ c = cc in
      let pends = subst (λ (x : Resource). (w : UnitId) → x.cur ≡ Some w → x.pending ≡ true → (x.since.0 + rate * 1000 ≤ s.now) ⊎ Gone m.config.granularity s.now pool.domains w) same pace.pends in
      let b = first_books m checked i r rate plain pool (pool_stays m checked i r rate plain s reached pool at) in
      let same_books : b.0 ≡ books = records_same b.0 books (sym b.1 ∙ is) in
      let limit : (own_burned_records c.cur s.now books).limit ≡ rate = own_limit s.now c.cur books ∙ ap (λ (x : Credit2Records). x.limit) (sym same_books) ∙ b.2.limit in
      kept_off s.now pool c (own_burned_records c.cur s.now books) (λ w cur runs. elim (pends w cur pending) [
        | inl late ↦ free c.since.0 s.now (own_burned_records c.cur s.now books).limit rate limit late
        | inr gone ↦ absurd (gone_stops m.config.granularity s.now pool w gone runs)
      ])
    where
      records_same : (a b : Credit2Records) → Credit2Pool a ≡ Credit2Pool b → a ≡ b
      records_same a b same = cc

      free : (since t limit rate : ℕ) → limit ≡ rate → since + rate * 1000 ≤ t → nat_lt (t - since) (limit * 1000) ≡ false
      free since t limit rate same late = (let low : limit * 1000 ≤ t - since = omega (arith, same, late) in grind (arith, low))

  -- where a unit is one vCPU, or nobody sleeps, every run is seen
  module _ (always : (m.config.granularity ≡ 1) ⊎ NobodySleeps m i) where
    seen_always : (t : ℕ) (pool : Pool) (action : Action) → SeenFor m checked i r rate plain t pool action
    seen_always t pool (Block p) = elim always [ inl single ↦ inl single | inr nobody ↦ inr (inl nobody) ]
    seen_always t pool action = tt

    walk : (from : Reached) (entries : List Entry) → IsRunFrom m from entries → IsReached m from.state → PacedAt from.state → PacedAt (after_entries m from entries).state
    walk from [] run reached here = here
    walk from (entry ∷ entries) run reached here = walk (after_entry m from entry) entries run.1 (reached_next m from entry run.0 reached) (step from entry run.0 reached (λ action is pool at. seen_always from.state.now pool action) here)

    pub always_keeps_nobody : (s : State) → IsReached m s → KeepsNobody m checked i r rate plain s
    always_keeps_nobody s reached = keeps_nobody s reached (subst PacedAt (ap (λ (x : Reached). x.state) reached.leads) (walk (run_start m) reached.before reached.run (reached_opening m) opened))
