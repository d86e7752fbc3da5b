-- Each entry of a run follows the units of an RTDS pool of one core, on an undisturbed machine whose reservations fit and whose guests never sleep.
use Rattle.std.proofs.Common.{◌≡◌, ◌≤◌, ◌<◌, ◌+◌, ◌-◌, ◌*◌, ◌/◌, ◌^◌, ℕ, zero, suc, Bool, true, false, List, [], ◌∷◌, ◌++◌, refl, arith, cond, subst, sym, ◌∙◌, ap, length, inl, inr}
use Rattle.std.specs.Prelude.{Option, Some, None, is_some, option_map, slice_get, replicate, nat_le, unwrap_or, ◌==◌, ◌&&◌, take, drop, ◌||◌}
use Rattle.std.specs.List.{list_any}
use Rattle.std.proofs.lemmas.Bool.{cases_Bool, eq-eqb}
use Rattle.std.proofs.lemmas.List.Elements.{recursion_from_All}
use Rattle.std.proofs.lemmas.Nat.{mul-le, div-mul-add}
use Rattle.std.proofs.Math.Nat.{div-mul-le_self}
use Rattle.std.proofs.lemmas.Option.{slice_get_within}
use Rattle.sched_base.specs.Numbers.{moment, span, core as core_number}
use Rattle.sched_base.specs.declared.Moment.{Moment}
use Rattle.sched_base.specs.declared.Span.{Span}
use Rattle.sched_base.specs.declared.UnitId.{UnitId}
use Rattle.sched_base.proofs.Bools.{and_left, and_right, clash, not_false}
use Rattle.sched_base.proofs.Lists.{AllByRecursion-map, each_get}
use Rattle.sched_model.specs.declared.action.Action.{Action}
use Rattle.sched_model.specs.declared.action.Action.TheVariants.{Stall, Xl, Moved, DomMoved, Wake, Block, Slice, Repl, Refill, Arrive, Decide, Leave, Save}
use Rattle.sched_model.specs.declared.config.Config.{Config}
use Rattle.sched_model.specs.declared.config.DomConfig.{DomConfig}
use Rattle.sched_model.specs.declared.config.PoolConfig.{PoolConfig}
use Rattle.sched_model.specs.declared.config.PoolParams.{PoolParams}
use Rattle.sched_model.specs.declared.config.PoolParams.TheVariants as pool_params
use Rattle.sched_model.specs.declared.config.SchedKind.{SchedKind}
use Rattle.sched_model.specs.declared.config.SchedKind.TheVariants as kinds
use Rattle.sched_model.specs.declared.event.Entry.{Entry}
use Rattle.sched_model.specs.declared.event.Event.{Event}
use Rattle.sched_model.specs.declared.event.Event.TheVariants as event
use Rattle.sched_model.specs.declared.machine.Machine.{Machine}
use Rattle.sched_model.specs.declared.state.Domain.{Domain}
use Rattle.sched_model.specs.declared.state.Pool.{Pool}
use Rattle.sched_model.specs.declared.state.Records.{Records}
use Rattle.sched_model.specs.declared.state.Records.TheVariants.{RtdsPool}
use Rattle.sched_model.specs.declared.state.Resource.{Resource}
use Rattle.sched_model.specs.declared.state.RtdsUnit.{RtdsUnit}
use Rattle.sched_model.specs.declared.state.State.{State}
use Rattle.sched_model.specs.Actions.{IsOfPool, configured_units, home_pool_of_action, home_pool_of_core, home_pool_of_domain, units_from}
use Rattle.sched_model.specs.CheckedMachine.{IsChecked, IsCheckedDomain, IsCheckedPool, DomParamsPass, PoolParamsPass}
use Rattle.sched_model.specs.EligibleUnits.{rtds_unit_at}
use Rattle.sched_model.specs.Machine.{after, event_of, home_pool, is_action_enabled}
use Rattle.sched_model.specs.Opening.{absent_pool, opening, most_pools, machine_core_count, pool_at_opening}
use Rattle.sched_model.specs.Places.{at_place, is_unit, test_at}
use Rattle.sched_model.specs.Policy.{empty_records, is_replenish_due, records_after_replenish, unit_rtds_record}
use Rattle.sched_model.specs.Pool.{after_in, decision_at, enabled_in, settled_pool, replenished_unit}
use Rattle.sched_model.specs.Rtds.{change_unit, unit_after_replenish}
use Rattle.sched_model.specs.Runs.{Reached, IsNext, IsNextEvent, IsRun, after_entries, after_entry, after_event, after_quiet, event_action, named_next_moment, run_start}
use Rattle.sched_model.specs.State.{may_unit_run}
use Rattle.sched_model.proofs.RunLemmas.{IsRunFrom-append}
use Rattle.sched_laws.specs.Counts.{times}
use Rattle.sched_laws.specs.StateLaws.{state_after}
use Rattle.sched_laws.proofs.Choices.{same_unit_same}
use Rattle.sched_laws.proofs.Counts.{is_that_unit, same_unit_refl}
use Rattle.sched_laws.proofs.EachPlace.{by_cond, found_at}
use Rattle.sched_laws.proofs.Lists.{is_some_at, some_is, test_at-some}
use Rattle.sched_laws.proofs.Kept.{passes_at}
use Rattle.sched_laws.proofs.Opened.{read_pools}
use Rattle.sched_laws.proofs.Reached.{core_is_whole, home_of_its_core, home_of_its_domain, one_place}
use Rattle.sched_laws.proofs.RtdsUnits.{rtds_same, rtds_unit-same}
use Rattle.sched_laws.proofs.SiblingsLaw.{some_processor}
use Rattle.state_ranges.proofs.Queue.{unit_is_there}
use Rattle.term_laws.specs.Term.{late_of}
use Rattle.term_laws.specs.RtdsTerm.{taken_by}
use Rattle.term_laws.proofs.UnitTracks.{renews}
use Rattle.service_laws.specs.Demand.{Job}
use Rattle.service_laws.specs.Passing.{IsBeforeNext, Passes, at_moment}
use Rattle.service_laws.proofs.ChosenInRuns.{fresh_core}
use Rattle.service_laws.proofs.EndsSums.{next_rises}
use Rattle.service_laws.proofs.OnTimeCores.{on_time_in}
use Rattle.service_laws.proofs.Passing.{NextMomentLaw, quiet_at}
use Rattle.service_laws.proofs.UrgentRuns.{urgent_run_in}
use Rattle.undisturbed_laws.specs.Undisturbed.{IsAtHome, IsUndisturbed, NeverSleeps, PoolStays, KeepsDomains, RecordsStay, RtdsDomainStays}
use Rattle.undisturbed_laws.proofs.Opened.{configured_opening}
use Rattle.undisturbed_laws.proofs.Runs.{configured_in_runs, only_pools, pool_as_configured}
use Rattle.undisturbed_laws.proofs.Units.{core_there, never_sleeps, only_core}
use Rattle.reservation_laws.specs.Reservations.{reservation}
use Rattle.reservation_laws.specs.Sleepers.{claims, may_sleep}
use Rattle.reservation_laws.proofs.Jobs.{job}
use Rattle.reservation_laws.proofs.Openings.{AreRtds, IsFresh, claims_from, fresh_in, homes, homes_base, period_in, records_from}
use Rattle.reservation_laws.proofs.UnitSums.{number}
use Rattle.reservation_laws.proofs.Quiets.{Facts, calm}
use Rattle.reservation_laws.proofs.StateJobs.{At, Stepped, stepped}
use Rattle.reservation_laws.proofs.Ticks.{IsCalm, idle_job, tick}
use Rattle.reservation_laws.proofs.Tracks.{Tracks, Watch, face, renewed_job, rooms}
use Rattle.reservation_laws.proofs.RunJobs.{IsReachedBy, quiet_late, quiet_renews, faced, left_falls, LeftGoes, IsRenewed, Goes, pool_after, decided_now, renewed_records}

params_are : (config : PoolConfig) (kind : SchedKind) (params : PoolParams) (c : Config) → kind ≡ kinds.Rtds → PoolParamsPass c kind params → params ≡ pool_params.Rtds
params_are config kinds.Credit2 params c is pass = absurd (cc)
params_are config kinds.Rtds (pool_params.Credit2 limit) c is pass = absurd pass
params_are config kinds.Rtds pool_params.Rtds c is pass = refl
params_are config kinds.Rtds (pool_params.Arinc653 frame) c is pass = absurd pass
params_are config kinds.Rtds pool_params.Null c is pass = absurd pass
params_are config kinds.Arinc653 params c is pass = absurd (cc)
params_are config kinds.Null params c is pass = absurd (cc)

-- a unit's first vCPU is one of its domain
pub first_vcpu : (n g count : ℕ) → 0 < g → n < (count + g - 1) / g → n * g < count
first_vcpu n g count some low =
    let a : (count + g - 1) / g * g ≤ count + g - 1 = div-mul-le_self (count + g - 1) g in
    let b : suc n * g ≤ (count + g - 1) / g * g = mul-le (suc n) g ((count + g - 1) / g) g (omega (arith, low)) (omega arith) in
    let c : suc n * g ≡ n * g + g = grind arith in
    omega (arith, a, b, c, some)

-- where a record is found
units_at : (domains : List (Option (List RtdsUnit))) (u : UnitId) (o : Option (List RtdsUnit)) (x : RtdsUnit) → at_place domains u.dom.0 ≡ o → elim o as (λ _. Option RtdsUnit) [ None ↦ None | Some units ↦ slice_get units u.n ] ≡ Some x
    → (units : List RtdsUnit) × (at_place domains u.dom.0 ≡ Some units) × (slice_get units u.n ≡ Some x)
units_at domains u None x at is = absurd (cc)
units_at domains u (Some units) x at is = (units, at, is)

-- a part of a list that has what passes a test
part_found : {X : Type 0} (test : X → Bool) (a b : ℕ) (xs : List X) → list_any test (take a (drop b xs)) ≡ true → (j : ℕ) × (x : X) × (slice_get xs j ≡ Some x) × (test x ≡ true) × (b ≤ j) × (j < b + a)
part_found test zero zero [] some = absurd (cc)
part_found test (suc a) zero [] some = absurd (cc)
part_found test zero (suc b) [] some = absurd (cc)
part_found test (suc a) (suc b) [] some = absurd (cc)
part_found test zero zero (x ∷ xs) some = absurd (cc)
part_found test (suc a) zero (x ∷ xs) some =
    elim (cases_Bool (test x)) [
      | inl is ↦ (0, x, refl, is, omega arith, omega arith)
      | inr other ↦ (
          let rest : list_any test (take a (drop 0 xs)) ≡ true = or_later (test x) (list_any test (take a xs)) other some in
          let r = part_found test a 0 xs rest in
          let high = r.5 in
          (suc r.0, r.1, r.2, r.3, omega arith, omega (arith, high)))
    ]
  where
    or_later : (p q : Bool) → p ≡ false → (p || q) ≡ true → q ≡ true
    or_later true q is some2 = absurd (cc)
    or_later false q is some2 = some2
part_found test zero (suc b) (x ∷ xs) some =
    let r = part_found test zero b xs some in
    let low = r.4 in
    let high = r.5 in
    (suc r.0, r.1, r.2, r.3, omega (arith, low), omega (arith, high))
part_found test (suc a) (suc b) (x ∷ xs) some =
    let r = part_found test (suc a) b xs some in
    let low = r.4 in
    let high = r.5 in
    (suc r.0, r.1, r.2, r.3, omega (arith, low), omega (arith, high))

-- a unit that never sleeps has a vCPU with an empty script
empty_script : (script : List Span) → (length script == 0) ≡ true → script ≡ []
empty_script [] is = refl
empty_script (x ∷ xs) is = absurd (grind (arith, is))

wakes_for_ever : (m : Machine) → 0 < m.config.granularity → (u : UnitId) (c : DomConfig) → slice_get m.config.domains u.dom.0 ≡ Some c → may_sleep m.config.granularity c u.n ≡ false → NeverSleeps m u
wakes_for_ever m some u c there wakes =
    let any : list_any (λ (script : List Span). length script == 0) (take m.config.granularity (drop (u.n * m.config.granularity) c.guests)) ≡ true = not_false (list_any (λ (script : List Span). length script == 0) (take m.config.granularity (drop (u.n * m.config.granularity) c.guests))) wakes in
    let f = part_found (λ (script : List Span). length script == 0) m.config.granularity (u.n * m.config.granularity) c.guests any in
    let low = f.4 in
    let high = f.5 in
    let split : f.0 ≡ u.n * m.config.granularity + (f.0 - u.n * m.config.granularity) = omega (arith, low) in
    let place : f.0 / m.config.granularity ≡ u.n = ap (λ (k : ℕ). k / m.config.granularity) split ∙ div-mul-add u.n m.config.granularity (f.0 - u.n * m.config.granularity) (omega (arith, low, high)) in
    record { config = c; there = there; n = f.0; script = f.2 ∙ ap (λ (y : List Span). Some y) (empty_script f.1 f.3); place = place }

module _ (m : Machine) (checked : IsChecked m) (undisturbed : IsUndisturbed m) (law : NextMomentLaw m) (i r : ℕ) (config : PoolConfig) (there : slice_get m.config.pools i ≡ Some config) (one : config.cores ≡ 2 ^ r) (kind : config.kind ≡ kinds.Rtds)
    (fs : Watch) (sleeps_is : (u : UnitId) (c : DomConfig) → slice_get m.config.domains u.dom.0 ≡ Some c → fs.sleeps u ≡ may_sleep m.config.granularity c u.n)
    (room : (span : ℕ) → fs.period ≤ span → claims m.config.granularity i m.config.domains span ≤ span) (period_is : (c : DomConfig) → slice_get m.config.domains fs.unit.dom.0 ≡ Some c → (reservation c.params).1 ≡ fs.period) where
  g_some : 0 < m.config.granularity
  g_some = some_processor m.config.granularity checked.config.granularity

  params : config.params ≡ pool_params.Rtds
  params =
      let pool = each_get (IsCheckedPool m.config) m.config.pools i config (recursion_from_All (IsCheckedPool m.config) m.config.pools checked.config.pools) there in
      params_are config config.kind config.params m.config kind pool.params

  pass : AreRtds m.config.granularity i m.config.domains
  pass =
      AllByRecursion-map (IsCheckedDomain m.config) (λ (c : DomConfig). c.home.0 ≡ i → DomParamsPass kinds.Rtds c.params)
      (λ c good home. subst (λ (k : SchedKind). DomParamsPass k c.params) kind (good.home_pool config (subst (λ (n : ℕ). slice_get m.config.pools n ≡ Some config) (sym home) there)).1)
      m.config.domains (recursion_from_All (IsCheckedDomain m.config) m.config.domains checked.config.domains)

  -- at the opening the core has no unit, and each unit begins its first term
  pub record Begins : Type 0 where
    pub at : At i r fs (opening m)
    pub nobody : at.core.cur ≡ None
    pub fresh : (u : UnitId) (x : RtdsUnit) → rtds_unit_at at.domains u ≡ Some x → IsFresh m.config.granularity x
    pub low : (u : UnitId) (x : RtdsUnit) → rtds_unit_at at.domains u ≡ Some x → (c : DomConfig) → slice_get m.config.domains u.dom.0 ≡ Some c → u.n < configured_units m.config.granularity c

  room_here : (span : ℕ) → fs.period ≤ span → rooms fs span (homes m.config.granularity i m.config.domains) ≤ span
  room_here span low =
      let e = claims_from m.config.granularity fs span i 0 m.config.domains pass (λ j c at k. sleeps_is (number (0 + j) k) c (let z : j ≡ 0 + j = omega arith in subst (λ (n : ℕ). slice_get m.config.domains n ≡ Some c) z at)) in
      let r = room span low in
      omega (arith, e, r)

  pub begins : Begins
  begins =
      let stands = (configured_opening m checked).pools i config there in
      let pool : Pool = stands.item in
      let read = read_pools m.config 0 (most_pools - length m.config.pools) m.config.pools i pool stands.at in
      let found = read.1 in
      let here = there in
      let same : read.0 ≡ config = cc in
      let zero_i : 0 + i ≡ i = omega arith in
      let is : pool ≡ pool_at_opening m.config i config = read.2 ∙ ap (λ (n : ℕ). pool_at_opening m.config n read.0) zero_i ∙ ap (λ (c : PoolConfig). pool_at_opening m.config i c) same in
      let empty : empty_records config.params (length m.config.domains) (machine_core_count m.config) ≡ RtdsPool (replicate (length m.config.domains) None) = ap (λ (p : PoolParams). empty_records p (length m.config.domains) (machine_core_count m.config)) params in
      let records : pool.scheduler.records ≡ RtdsPool (homes m.config.granularity i m.config.domains) = ap (λ (p : Pool). p.scheduler.records) is ∙ records_from m.config.granularity i 0 m.config.domains _ [] pass refl empty in
      let core = core_there m i r config pool stands.meets one in
      let none : core.0.cur ≡ None = sym (ap (λ (c : Resource). c.cur) (fresh_core m i pool stands.at r core.0 core.1)) in
      record {
        at = record {
          pool = pool;
          at = stands.at;
          domains = homes m.config.granularity i m.config.domains;
          records = records;
          core = core.0;
          has = core.1;
          only = only_core m i r config pool stands.meets one;
          tracks = record {
            base = homes_base m.config.granularity fs i m.config.domains pass room_here (λ x at_x. (let p = period_in m.config.granularity i m.config.domains pass fs.unit x at_x in p.2 ∙ period_is p.0 p.1));
            own = λ u is_u. absurd (let e : None ≡ Some u = sym none ∙ is_u in cc);
            idle = λ u x at_x not. (fresh_in m.config.granularity i m.config.domains pass u x at_x).burned;
          };
        };
        nobody = none;
        fresh = fresh_in m.config.granularity i m.config.domains pass;
        low = λ u x at_x c at_c. (
            let p = period_in m.config.granularity i m.config.domains pass u x at_x in
            let here_c = p.1 in
            let same_c : p.0 ≡ c = cc in
            subst (λ (e : DomConfig). u.n < configured_units m.config.granularity e) same_c p.3);
      }

  -- what is known of a unit with a record, in a state of a run
  record UnitKnown (s : State) (pool : Pool) (u : UnitId) : Type 0 where
    runs : fs.sleeps u ≡ false → may_unit_run m.config.granularity pool u ≡ true
    home : home_pool_of_domain s u.dom.0 ≡ Some i
    listed : 1 ≤ times u (units_from m.config.granularity 0 m.config.domains)

  unit_known : (before : List Entry) → IsRun m before → (a : At i r fs (state_after m before)) → (u : UnitId) (x : RtdsUnit) → rtds_unit_at a.domains u ≡ Some x → UnitKnown (state_after m before) a.pool u
  unit_known before run a u x at =
      let s : State = state_after m before in
      let stays : PoolStays m i config a.pool = pool_as_configured m s (configured_in_runs m checked undisturbed before run) i a.pool a.at config there in
      let kept : KeepsDomains m i (RtdsDomainStays m.config.granularity) a.domains = subst (λ (x : Records). RecordsStay m i pool_params.Rtds x) a.records (subst (λ (p : PoolParams). RecordsStay m i p a.pool.scheduler.records) params stays.records) in
      let found = units_at a.domains u (at_place a.domains u.dom.0) x refl at in
      let home : IsAtHome m i u.dom.0 = kept.others u.dom.0 found.0 found.1 in
      let c : DomConfig = home.0 in
      let own = kept.own u.dom.0 c home.1 in
      let there_own = own.at in
      let there_units = found.1 in
      let same : own.item ≡ found.0 = cc in
      let count : length found.0 ≡ configured_units m.config.granularity c = subst (λ (units : List RtdsUnit). length units ≡ configured_units m.config.granularity c) same own.meets.count in
      let low : u.n < configured_units m.config.granularity c = (let l = slice_get_within found.0 u.n x found.2 in omega (arith, l, count)) in
      let inside : u.n * m.config.granularity < length c.guests = first_vcpu u.n m.config.granularity (length c.guests) g_some low in
      let domain = stays.domains.own u.dom.0 c home.1 in
      record {
        runs = λ wakes. never_sleeps m checked i config a.pool stays u (wakes_for_ever m g_some u c home.1.there (sym (sleeps_is u c home.1.there) ∙ wakes)) c home.1;
        home = home_of_its_domain m checked before run i u.dom.0 (test_at-some s.pools i (λ p. is_some (at_place p.domains u.dom.0)) a.pool a.at (is_some_at (at_place a.pool.domains u.dom.0) domain.item domain.at));
        listed = unit_is_there m g_some u (record { config = c; at = home.1.there; inside = inside });
      }

  facts_after : (before : List Entry) → IsRun m before → (last : Entry) → IsNext m (after_entries m (run_start m) before) last → (a : At i r fs (state_after m before)) → (t : ℕ) → Passes m (state_after m before) last.event t
      → Facts fs m (at_moment t (state_after m before)) i r a.pool a.domains a.core
  facts_after before run last next a t passes =
      let s : State = state_after m before in
      let more : IsRun m (before ++ last ∷ []) = IsRunFrom-append m (run_start m) before last run next in
      let quiet = quiet_at m checked law before last more t passes in
      let stays : PoolStays m i config a.pool = pool_as_configured m s (configured_in_runs m checked undisturbed before run) i a.pool a.at config there in
      record {
        at = a.at;
        records = a.records;
        has = a.has;
        only = a.only;
        stays = stays.cores_stay r a.core a.has;
        whole = (let w = core_is_whole m checked before run i a.pool a.at r a.core a.has in let p = g_some in omega (arith, w, p));
        one = one_place m checked before run i a.pool a.at;
        runs = λ u x at. (unit_known before run a u x at).runs;
        home = λ u x at. (unit_known before run a u x at).home;
        listed = λ u x at. (unit_known before run a u x at).listed;
        off = quiet.off;
        urgent = urgent_run_in m checked (at_moment t s) quiet;
        on_time = on_time_in m checked (at_moment t s) quiet;
      }

  calm_at : (f : Reached) → IsReachedBy m f → (last : Entry) → IsNext m f last → (a : At i r fs f.state) → (t : ℕ) → Passes m f.state last.event t → IsCalm fs t a.core.cur a.core.due a.domains
  calm_at f by = subst (λ (x : Reached). (last : Entry) → IsNext m x last → (a : At i r fs x.state) → (t : ℕ) → Passes m x.state last.event t → IsCalm fs t a.core.cur a.core.due a.domains) by.leads
      (λ last next a t passes. calm fs m (at_moment t (state_after m by.before)) i r a.pool a.domains a.core (facts_after by.before by.run last next a t passes))

  home_at : (f : Reached) → IsReachedBy m f → (a : At i r fs f.state) → (u : UnitId) (x : RtdsUnit) → rtds_unit_at a.domains u ≡ Some x → home_pool_of_domain f.state u.dom.0 ≡ Some i
  home_at f by = subst (λ (y : Reached). (a : At i r fs y.state) → (u : UnitId) (x : RtdsUnit) → rtds_unit_at a.domains u ≡ Some x → home_pool_of_domain y.state u.dom.0 ≡ Some i) by.leads (λ a u x at. (unit_known by.before by.run a u x at).home)

  core_home_at : (f : Reached) → IsReachedBy m f → (a : At i r fs f.state) → home_pool_of_core f.state r ≡ Some i
  core_home_at f by = subst (λ (y : Reached). (a : At i r fs y.state) → home_pool_of_core y.state r ≡ Some i) by.leads
      (λ a. home_of_its_core m checked by.before by.run i r (test_at-some (state_after m by.before).pools i (λ p. is_some (at_place p.resources r)) a.pool a.at (is_some_at (at_place a.pool.resources r) a.core a.has)))

  -- a domain of a pool has its home there
  domain_home : (f : Reached) → IsReachedBy m f → (k : ℕ) (pool : Pool) → at_place f.state.pools k ≡ Some pool → (d : ℕ) (x : Domain) → at_place pool.domains d ≡ Some x → IsAtHome m k d
  domain_home f by = subst (λ (y : Reached). (k : ℕ) (pool : Pool) → at_place y.state.pools k ≡ Some pool → (d : ℕ) (x : Domain) → at_place pool.domains d ≡ Some x → IsAtHome m k d) by.leads
      (λ k pool at d x has.
      let s : State = state_after m by.before in
      let here = configured_in_runs m checked undisturbed by.before by.run in
      let c = here.others k pool at in
      (pool_as_configured m s here k pool at c.0 c.1).domains.others d x has)

  -- and so has the domain of a unit whose home at the opening is the pool
  pub home_from : (u : UnitId) → home_pool_of_domain (opening m) u.dom.0 ≡ Some i → IsAtHome m i u.dom.0
  home_from u is =
      let there_i = found_at i (λ p. is_some (at_place p.domains u.dom.0)) (opening m).pools is in
      let domain = some_is (at_place there_i.0.domains u.dom.0) there_i.2 in
      domain_home (run_start m) (record { before = []; run = tt; leads = refl }) i there_i.0 there_i.1 u.dom.0 domain.0 domain.1

  pub of_pool : (f : Reached) → IsReachedBy m f → (action : Action) → is_action_enabled m f.state f.state.now action ≡ true → IsOfPool action
  of_pool f by = subst (λ (y : Reached). (action : Action) → is_action_enabled m y.state y.state.now action ≡ true → IsOfPool action) by.leads
      (λ action on. only_pools m undisturbed (state_after m by.before) (state_after m by.before).now (configured_in_runs m checked undisturbed by.before by.run) action on)

  -- nanoseconds pass
  ticks : (cur : Option UnitId) (due : Option Moment) (domains : List (Option (List RtdsUnit))) (k t : ℕ) → ((t2 : ℕ) → t ≤ t2 → t2 < t + k → IsCalm fs t2 cur due domains) → Tracks fs t cur due domains → Tracks fs (t + k) cur due domains
  ticks cur due domains zero t calms here = (let e : t ≡ t + 0 = omega arith in subst (λ (n : ℕ). Tracks fs n cur due domains) e here)
  ticks cur due domains (suc k) t calms here =
      let e : suc t + k ≡ t + suc k = omega arith in
      subst (λ (n : ℕ). Tracks fs n cur due domains) e
      (ticks cur due domains k (suc t) (λ t2 low high. calms t2 (omega (arith, low)) (omega (arith, high))) (tick fs t due domains cur here (calms t (omega arith) (omega arith))))

  -- an event without an action
  goes_quiet : (f : Reached) → IsReachedBy m f → (e : Entry) → IsNext m f e → event_action e.event ≡ None → (a : At i r fs f.state) (u : UnitId) → fs.sleeps u ≡ false → Goes m i r fs u f.state a e.event (after_quiet (named_next_moment e.event) f).state
  goes_quiet f by e next none a u wakes = go (named_next_moment e.event) refl
    where
      late : {X : Type 0} (k : ℕ) → late_of r e.event ≡ Some k → X
      late k is = (let no : None ≡ Some k = sym (quiet_late r e.event none) ∙ is in absurd (cc))

      renewal : {X : Type 0} → renews u e.event ≡ true → X
      renewal is = absurd (clash (renews u e.event) is (quiet_renews u e.event none))

      go : (o : Option ℕ) → named_next_moment e.event ≡ o → Goes m i r fs u f.state a e.event (after_quiet o f).state
      go None named = record {
        new = a;
        stays = λ is. refl;
        decides = λ k is. late k is;
        left = λ is j at. record { job = j; is = at; deadline = refl; few = omega arith; in_time = inl refl };
        none = λ v at_home no. (quiet_renews v e.event none, no);
        renewed = λ is j at. renewal is;
      }
      go (Some n) named =
          let ev = subst (λ (o : Option Action). IsNextEvent m f.state e.event o) none next.event in
          let low : f.state.now < n = (next_rises m law f.state ev.0 n (ev.1 ∙ named)).0 in
          let step : ℕ = n - f.state.now in
          let sum : f.state.now + step ≡ n = omega (arith, low) in
          let tracks : Tracks fs n a.core.cur a.core.due a.domains = subst (λ (k : ℕ). Tracks fs k a.core.cur a.core.due a.domains) sum
          (ticks a.core.cur a.core.due a.domains step f.state.now (λ t from until. calm_at f by e next a t (record { quiet = none; from = from; until = subst (λ (o : Option ℕ). IsBeforeNext m.config.horizon.0 o t) (sym named) (omega (arith, until, sum)) })) a.tracks) in
          record {
            new = record { pool = a.pool; at = a.at; domains = a.domains; records = a.records; core = a.core; has = a.has; only = a.only; tracks = tracks };
            stays = λ is. refl;
            decides = λ k is. late k is;
            left = λ is j at. (
                let x = faced f.state.now a.domains u (rtds_unit_at a.domains u) j refl at in
                let record_at : rtds_unit_at a.domains u ≡ Some x.0 = x.1 in
                let deadline : (job n x.0).deadline ≡ j.deadline = ap (λ (k : Job). k.deadline) x.2 in
                let on_time : n ≤ x.0.deadline = (tracks.base.fit u x.0 x.1).on_time wakes in
                record {
                  job = job n x.0;
                  is = ap (option_map (job n)) record_at;
                  deadline = deadline;
                  few = subst (λ (k : Job). k.left ≤ (job n x.0).left + cond (is_unit a.core.cur u) (n - f.state.now) 0) x.2 (few x.0 x.1);
                  in_time = inr (omega (arith, deadline, on_time));
                });
            none = λ v at_home no. (quiet_renews v e.event none, no);
            renewed = λ is j at. renewal is;
          }
        where
          low : f.state.now ≤ n
          low = (let ev = subst (λ (o : Option Action). IsNextEvent m f.state e.event o) none next.event in let h = (next_rises m law f.state ev.0 n (ev.1 ∙ named)).0 in omega (arith, h))

          few : (x : RtdsUnit) → rtds_unit_at a.domains u ≡ Some x → (job f.state.now x).left ≤ (job n x).left + cond (is_unit a.core.cur u) (n - f.state.now) 0
          few x at =
              elim (cases_Bool (is_unit a.core.cur u)) [
                | inl own ↦ subst (λ (b : Bool). (job f.state.now x).left ≤ (job n x).left + cond b (n - f.state.now) 0) (sym own) (left_falls f.state.now n x low)
                | inr other ↦ (
                    let not : a.core.cur ≡ Some u → ⊥ = λ is. clash (is_unit a.core.cur u) (is_that_unit a.core.cur u is) other in
                    let same = ap (λ (k : Job). k.left) (idle_job f.state.now n x (a.tracks.idle u x at not)) in
                    omega (arith, same))
              ]

  -- what tells of a decision of the core, and of a replenishment of the unit
  decision_late : (f : Reached) (action : Action) → IsOfPool action → (k : ℕ) → late_of r (event_of m f.state f.state.now action) ≡ Some k → action ≡ Decide (core_number r)
  decision_late f Stall of k is = absurd of
  decision_late f Xl of k is = absurd of
  decision_late f (Moved c) of k is = absurd of
  decision_late f (DomMoved d) of k is = absurd of
  decision_late f (Wake v) of k is = absurd (cc)
  decision_late f (Block p) of k is = absurd (cc)
  decision_late f (Slice c) of k is = absurd (cc)
  decision_late f (Repl w) of k is = absurd (cc)
  decision_late f (Refill d) of k is = absurd (cc)
  decision_late f (Arrive p) of k is = absurd (cc)
  decision_late f (Decide c) of k is =
      by_cond (λ (o : Option ℕ). o ≡ Some k → Decide c ≡ Decide (core_number r)) (c.0 == r) (Some _) None
      (λ same some. (let e : c.0 ≡ r = grind (arith, same) in ap (λ (n : ℕ). Decide (core_number n)) e)) (λ other some. absurd (cc)) is
  decision_late f (Leave p) of k is = absurd (cc)
  decision_late f (Save c) of k is = absurd (cc)

  renewal_of : (f : Reached) (u : UnitId) (action : Action) → IsOfPool action → renews u (event_of m f.state f.state.now action) ≡ true → action ≡ Repl u
  renewal_of f u Stall of is = absurd of
  renewal_of f u Xl of is = absurd of
  renewal_of f u (Moved c) of is = absurd of
  renewal_of f u (DomMoved d) of is = absurd of
  renewal_of f u (Wake v) of is = absurd (cc)
  renewal_of f u (Block p) of is = absurd (cc)
  renewal_of f u (Slice c) of is = absurd (cc)
  renewal_of f u (Repl w) of is = ap Repl (same_unit_same w u is)
  renewal_of f u (Refill d) of is = absurd (cc)
  renewal_of f u (Arrive p) of is = absurd (cc)
  renewal_of f u (Decide c) of is = absurd (cc)
  renewal_of f u (Leave p) of is = absurd (cc)
  renewal_of f u (Save c) of is = absurd (cc)

  -- a unit without a record is not replenished
  no_renewal : (f : Reached) → IsReachedBy m f → (a : At i r fs f.state) (u : UnitId) → IsAtHome m i u.dom.0 → rtds_unit_at a.domains u ≡ None → is_action_enabled m f.state f.state.now (Repl u) ≡ true → ⊥
  no_renewal f by a u at_home none on = go (home_pool_of_domain f.state u.dom.0) refl on
    where
      go : (o : Option ℕ) → home_pool_of_domain f.state u.dom.0 ≡ o → elim o as (λ _. Bool) [ None ↦ false | Some k ↦ test_at f.state.pools k (λ p. enabled_in m.config.granularity f.state.now p (Repl u)) ] ≡ true → ⊥
      go None is enabled = absurd (cc)
      go (Some k) is enabled =
          let there_k = found_at k (λ p. is_some (at_place p.domains u.dom.0)) f.state.pools is in
          let domain = some_is (at_place there_k.0.domains u.dom.0) there_k.2 in
          let home_k : IsAtHome m k u.dom.0 = domain_home f by k there_k.0 there_k.1 u.dom.0 domain.0 domain.1 in
          let one_config = at_home.1.there in
          let other_config = home_k.1.there in
          let same : home_k.0 ≡ at_home.0 = cc in
          let e : k ≡ i = sym home_k.1.home ∙ ap (λ (c : DomConfig). c.home.0) same ∙ at_home.1.home in
          let enabled_pool : enabled_in m.config.granularity f.state.now a.pool (Repl u) ≡ true = passes_at f.state.pools i (λ p. enabled_in m.config.granularity f.state.now p (Repl u)) a.pool a.at (subst (λ (n : ℕ). test_at f.state.pools n (λ p. enabled_in m.config.granularity f.state.now p (Repl u)) ≡ true) e enabled) in
          let due : is_replenish_due a.pool.scheduler.records f.state.now u ≡ true = and_right _ (is_replenish_due a.pool.scheduler.records f.state.now u) (and_left (_ && is_replenish_due a.pool.scheduler.records f.state.now u) _ enabled_pool) in
          let due_here : is_replenish_due (RtdsPool a.domains) f.state.now u ≡ true = subst (λ (y : Records). is_replenish_due y f.state.now u ≡ true) a.records due in
          let late : false ≡ true = sym (ap (λ (o : Option RtdsUnit). elim o as (λ _. Bool) [ None ↦ false | Some y ↦ nat_le y.deadline f.state.now ]) none) ∙ due_here in
          cc

  -- an action
  module _ (f : Reached) (by : IsReachedBy m f) (action : Action) (on : is_action_enabled m f.state f.state.now action ≡ true) (a : At i r fs f.state) (u : UnitId) where
    abbrev s : State
    s = f.state

    abbrev s2 : State
    s2 = after m f.state f.state.now action

    abbrev e : Event
    e = event_of m f.state f.state.now action

    of : IsOfPool action
    of = of_pool f by action on

    moved : Stepped m i r fs s action a s2
    moved = stepped m i r fs s a action of on

    home_pool_is : (w : Action) → home_pool_of_action m.config.granularity s w ≡ Some i → home_pool m s w ≡ a.pool
    home_pool_is w home =
        ap (λ (o : Option ℕ). elim o as (λ _. Pool) [ None ↦ absent_pool m.config | Some k ↦ unwrap_or (at_place s.pools k) (absent_pool m.config) ]) home
        ∙ ap (λ (o : Option Pool). unwrap_or o (absent_pool m.config)) a.at

    unit_stays : late_of r e ≡ None → moved.new.core.cur ≡ a.core.cur
    unit_stays none =
        elim moved.cur [
          | inl same ↦ same
          | inr told ↦ absurd (
              let is : e ≡ event_of m s s.now (Decide (core_number r)) = ap (λ (w : Action). event_of m s s.now w) told.0 in
              let no : late_of r (event_of m s s.now (Decide (core_number r))) ≡ None = subst (λ (x : Event). late_of r x ≡ None) is none in
              some_late _ (r == r) (eq-eqb r r refl) no)
        ]
      where
        some_late : (k : ℕ) (b : Bool) → b ≡ true → cond b (Some k) None ≡ None → ⊥
        some_late k true is gone = absurd (cc)
        some_late k false is gone = absurd (cc)

    core_decides : (k : ℕ) → late_of r e ≡ Some k → (s2.now ≡ s.now) × (taken_by u e ≡ cond (is_unit moved.new.core.cur u) (Some r) None)
    core_decides k late =
        let w : Action = Decide (core_number r) in
        let is : action ≡ w = decision_late f action of k late in
        let home : home_pool_of_action m.config.granularity s w ≡ Some i = core_home_at f by a in
        let pool : home_pool m s w ≡ a.pool = home_pool_is w home in
        let there : at_place (after m s s.now w).pools i ≡ Some (settled_pool s.now (after_in m.config.granularity s.now a.pool w)) = pool_after m i r fs s a w tt home in
        let there2 : at_place s2.pools i ≡ Some (settled_pool s.now (after_in m.config.granularity s.now a.pool w)) = subst (λ (x : Action). at_place (after m s s.now x).pools i ≡ Some (settled_pool s.now (after_in m.config.granularity s.now a.pool w))) (sym is) there in
        let both : Some moved.new.pool ≡ Some (settled_pool s.now (after_in m.config.granularity s.now a.pool w)) = sym moved.new.at ∙ there2 in
        let same : moved.new.pool ≡ settled_pool s.now (after_in m.config.granularity s.now a.pool w) = cc in
        let chosen : moved.new.core.cur ≡ (decision_at m.config.granularity s.now a.pool r).unit = decided_now m.config.granularity s.now r a.pool a.core moved.new.core a.has (subst (λ (p : Pool). at_place p.resources r ≡ Some moved.new.core) same moved.new.has) in
        let told : taken_by u e ≡ cond (is_unit (decision_at m.config.granularity s.now (home_pool m s w) r).unit u) (Some r) None = ap (λ (x : Action). taken_by u (event_of m s s.now x)) is in
        (moved.now, told ∙ ap (λ (p : Pool). cond (is_unit (decision_at m.config.granularity s.now p r).unit u) (Some r) None) pool ∙ ap (λ (o : Option UnitId). cond (is_unit o u) (Some r) None) (sym chosen))

    unit_left : renews u e ≡ false → (j : Job) → face s.now a.domains u ≡ Some j → LeftGoes u s.now s2.now a.core.cur j (face s2.now moved.new.domains u)
    unit_left none j at =
        let not : action ≡ Repl u → ⊥ = λ is. clash (renews u (event_of m s s.now (Repl u))) (same_unit_refl u) (subst (λ (x : Action). renews u (event_of m s s.now x) ≡ false) is none) in
        record {
          job = j;
          is = ap (λ (n : ℕ). face n moved.new.domains u) moved.now ∙ moved.faces u not ∙ at;
          deadline = refl;
          few = omega arith;
          in_time = inl moved.now;
        }

    unit_renewed : renews u e ≡ true → (j : Job) → face s.now a.domains u ≡ Some j → IsRenewed u e s.now s2.now j (face s2.now moved.new.domains u)
    unit_renewed renewal j at =
        let w : Action = Repl u in
        let is : action ≡ w = renewal_of f u action of renewal in
        let x = faced s.now a.domains u (rtds_unit_at a.domains u) j refl at in
        let record_at : rtds_unit_at a.domains u ≡ Some x.0 = x.1 in
        let home : home_pool_of_action m.config.granularity s w ≡ Some i = home_at f by a u x.0 x.1 in
        let pool : home_pool m s w ≡ a.pool = home_pool_is w home in
        let there : at_place (after m s s.now w).pools i ≡ Some (settled_pool s.now (after_in m.config.granularity s.now a.pool w)) = pool_after m i r fs s a w tt home in
        let there2 : at_place s2.pools i ≡ Some (settled_pool s.now (after_in m.config.granularity s.now a.pool w)) = subst (λ (y : Action). at_place (after m s s.now y).pools i ≡ Some (settled_pool s.now (after_in m.config.granularity s.now a.pool w))) (sym is) there in
        let both : Some moved.new.pool ≡ Some (settled_pool s.now (after_in m.config.granularity s.now a.pool w)) = sym moved.new.at ∙ there2 in
        let same : moved.new.pool ≡ settled_pool s.now (after_in m.config.granularity s.now a.pool w) = cc in
        let records : RtdsPool moved.new.domains ≡ RtdsPool (change_unit u (unit_after_replenish s.now) a.domains) =
        sym moved.new.records ∙ ap (λ (p : Pool). p.scheduler.records) same ∙ renewed_records m.config.granularity s.now u a.pool ∙ ap (λ (y : Records). records_after_replenish y s.now u) a.records in
        let domains : moved.new.domains ≡ change_unit u (unit_after_replenish s.now) a.domains = rtds_same moved.new.domains (change_unit u (unit_after_replenish s.now) a.domains) records in
        let z : RtdsUnit = unit_after_replenish s.now x.0 in
        let now : rtds_unit_at (change_unit u (unit_after_replenish s.now) a.domains) u ≡ Some z = rtds_unit-same u (unit_after_replenish s.now) a.domains x.0 x.1 in
        let enabled : is_action_enabled m s s.now w ≡ true = subst (λ (y : Action). is_action_enabled m s s.now y ≡ true) is on in
        let enabled_home : test_at s.pools i (λ p. enabled_in m.config.granularity s.now p w) ≡ true = subst (λ (o : Option ℕ). elim o as (λ _. Bool) [ None ↦ false | Some k ↦ test_at s.pools k (λ p. enabled_in m.config.granularity s.now p w) ] ≡ true) home enabled in
        let enabled_pool : enabled_in m.config.granularity s.now a.pool w ≡ true = passes_at s.pools i (λ p. enabled_in m.config.granularity s.now p w) a.pool a.at enabled_home in
        let due : is_replenish_due a.pool.scheduler.records s.now u ≡ true = and_right _ (is_replenish_due a.pool.scheduler.records s.now u) (and_left (_ && is_replenish_due a.pool.scheduler.records s.now u) _ enabled_pool) in
        let due_here : is_replenish_due (RtdsPool a.domains) s.now u ≡ true = subst (λ (y : Records). is_replenish_due y s.now u ≡ true) a.records due in
        let late : nat_le x.0.deadline s.now ≡ true = sym (ap (λ (o : Option RtdsUnit). elim o as (λ _. Bool) [ None ↦ false | Some y ↦ nat_le y.deadline s.now ]) record_at) ∙ due_here in
        let over : x.0.deadline ≤ s.now = le_from x.0.deadline s.now late in
        let full = renewed_job fs s.now u x.0 a.domains x.1 over (a.tracks.base.fit u x.0 x.1) in
        let deadline_is : x.0.deadline ≡ j.deadline = ap (λ (k : Job). k.deadline) x.2 in
        let seen : replenished_unit s.now u (home_pool m s w) ≡ Some z = ap (λ (p : Pool). replenished_unit s.now u p) pool ∙ ap (λ (y : Records). unit_rtds_record (records_after_replenish y s.now u) u) a.records ∙ now in
        let told : event_of m s s.now w ≡ event.Repl u (moment (z.deadline - z.period)) (moment z.deadline) (span z.budget) z.extra = ap (λ (o : Option RtdsUnit). event.Repl u (elim o as (λ _. Moment) [ None ↦ moment 0 | Some y ↦ moment (y.deadline - y.period) ]) (elim o as (λ _. Moment) [ None ↦ moment 0 | Some y ↦ moment y.deadline ])
        (elim o as (λ _. Span) [ None ↦ span 0 | Some y ↦ span y.budget ]) (elim o as (λ _. Bool) [ None ↦ false | Some y ↦ y.extra ])) seen in
        record {
          over = omega (arith, over, deadline_is);
          same = moved.now;
          job = job s.now z;
          is = ap (λ (n : ℕ). face n moved.new.domains u) moved.now ∙ ap (λ (d : List (Option (List RtdsUnit))). face s.now d u) domains ∙ ap (option_map (job s.now)) now;
          full = ap (λ (k : Job). k.left) full ∙ sym (ap (λ (k : Job). k.budget) full);
          start = moment (z.deadline - z.period);
          extra = z.extra;
          prints = ap (λ (y : Action). event_of m s s.now y) is ∙ told;
        }
      where
        le_from : (n k : ℕ) → nat_le n k ≡ true → n ≤ k
        le_from n k is = grind (arith, is)

    unit_none : (v : UnitId) → IsAtHome m i v.dom.0 → rtds_unit_at a.domains v ≡ None → (renews v e ≡ false) × (rtds_unit_at moved.new.domains v ≡ None)
    unit_none v at_home none =
        let not : action ≡ Repl v → ⊥ = λ is. no_renewal f by a v at_home none (subst (λ (y : Action). is_action_enabled m s s.now y ≡ true) is on) in
        (false_if (renews v e) (λ renewal. not (renewal_of f v action of renewal)), none_mapped (rtds_unit_at moved.new.domains v) (moved.faces v not ∙ ap (option_map (job s.now)) none))
      where
        false_if : (b : Bool) → (b ≡ true → ⊥) → b ≡ false
        false_if true never = absurd (never refl)
        false_if false never = refl

        none_mapped : (o : Option RtdsUnit) → option_map (job s.now) o ≡ None → o ≡ None
        none_mapped None is = refl
        none_mapped (Some x) is = absurd (cc)

    goes_action : Goes m i r fs u s a e s2
    goes_action = record { new = moved.new; stays = unit_stays; decides = core_decides; left = unit_left; none = unit_none; renewed = unit_renewed }

  -- each entry of a run
  pub goes : (u : UnitId) → fs.sleeps u ≡ false → (f : Reached) → IsReachedBy m f → (e : Entry) → IsNext m f e → (a : At i r fs f.state) → Goes m i r fs u f.state a e.event (after_entry m f e).state
  goes u wakes f by e next a = go (event_action e.event) refl next.event
    where
      go : (o : Option Action) → event_action e.event ≡ o → IsNextEvent m f.state e.event o → Goes m i r fs u f.state a e.event (after_event m e.event o f).state
      go None is ev = goes_quiet f by e next is a u wakes
      go (Some action) is ev = subst (λ (x : Event). Goes m i r fs u f.state a x (after m f.state f.state.now action)) (sym ev.1) (goes_action f by action ev.0 a u)
