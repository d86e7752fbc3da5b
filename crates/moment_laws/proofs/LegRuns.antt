-- In every state of a run each core with a unit has an open leg, and its unit was charged since the leg began. So the unit of a core whose leg began at this
-- moment was charged at this moment, and has some budget left, or holds what it took.
use Rattle.std.proofs.Common.{◌≡◌, ◌≢◌, ◌≤◌, ◌<◌, ◌+◌, ℕ, suc, Bool, true, false, List, [], ◌∷◌, ◌++◌, refl, arith, ap, cond, subst, sym, ◌∙◌, length, inl, inr}
use Rattle.std.specs.Prelude.{Option, Some, None, is_some, slice_get, map, replicate, option_map, unwrap_or, int_lt, ◌&&◌, ◌==◌, ℤ, pos, ◌-ℤ◌, ◌≤ℤ◌}
use Rattle.std.specs.List.{list_all}
use Rattle.std.specs.Option.{IfSome}
use Rattle.std.proofs.lemmas.Int.{ints}
use Rattle.std.proofs.lemmas.List.{length-replicate}
use Rattle.sched_base.specs.Numbers.{moment, span, domain as domain_number, core as core_number}
use Rattle.sched_base.specs.Credit2Numbers.{budget_quota, cap_budget}
use Rattle.sched_base.specs.declared.Span.{Span}
use Rattle.sched_base.specs.declared.UnitId.{UnitId}
use Rattle.sched_base.proofs.Lists.{each_get}
use Rattle.sched_model.specs.declared.config.DomConfig.{DomConfig}
use Rattle.sched_model.specs.declared.config.SchedKind.{SchedKind}
use Rattle.sched_model.specs.declared.config.ParamChange.TheVariants as changes
use Rattle.sched_model.specs.declared.event.Event.{Event}
use Rattle.sched_model.specs.declared.event.Event.TheVariants as event
use Rattle.sched_model.specs.declared.event.Entry.{Entry}
use Rattle.sched_model.specs.declared.machine.Machine.{Machine}
use Rattle.sched_model.specs.declared.state.State.{State}
use Rattle.sched_model.specs.declared.state.Pool.{Pool}
use Rattle.sched_model.specs.declared.state.Resource.{Resource}
use Rattle.sched_model.specs.declared.state.Records.{Records}
use Rattle.sched_model.specs.declared.state.Records.TheVariants.{Credit2Pool, RtdsPool}
use Rattle.sched_model.specs.declared.state.RtdsUnit.{RtdsUnit}
use Rattle.sched_model.specs.declared.state.Credit2Records.{Credit2Records}
use Rattle.sched_model.specs.declared.state.Credit2Domain.{Credit2Domain}
use Rattle.sched_model.specs.declared.state.Credit2Unit.{Credit2Unit}
use Rattle.sched_model.specs.declared.action.Action.{Action}
use Rattle.sched_model.specs.declared.action.Action.TheVariants.{Stall, Decide}
use Rattle.sched_model.specs.Places.{at_place, numbers_from, test_at}
use Rattle.sched_model.specs.State.{has_core_bit}
use Rattle.sched_model.specs.Opening.{machine_core_count, joined_core, pool_with_configured, pool_with_domains, fresh_pool, absent_pool}
use Rattle.sched_model.specs.EligibleUnits.{Decision, rtds_unit_at}
use Rattle.sched_model.specs.Policy.{decision_of, standard_pool_params, standard_dom_params, empty_records, unit_rtds_record}
use Rattle.sched_model.specs.Commands.{pool_with_rtds_unit}
use Rattle.sched_model.specs.Pool as pools
use Rattle.sched_model.specs.Pool.{core_ask, decision_at, enabled_in, after_in, settled_pool, is_held_back, is_gathering, is_first_processor_up}
use Rattle.sched_model.specs.Actions.{home_pool_of_core, change_pool}
use Rattle.sched_model.specs.Machine.{after, is_action_enabled, event_of, home_pool}
use Rattle.sched_model.specs.Runs.{Reached, IsRun, IsNextEvent, event_action, run_start, after_event, after_entries}
use Rattle.sched_model.specs.CheckedMachine.{IsChecked}
use Rattle.sched_model.proofs.RunLemmas.{after_entries-append}
use Rattle.sched_laws.specs.EachPlace.{EachPlace}
use Rattle.sched_laws.specs.StateLaws.{state_after}
use Rattle.sched_laws.proofs.EachPlace.{EachAt-change_to, EachPlace-empty, length_set, place_below, by_option, by_cond}
use Rattle.sched_laws.proofs.Free.{now_after}
use Rattle.sched_laws.proofs.Kept.{IsKept}
use Rattle.sched_laws.proofs.Lists.{some-test_at, test_at-some, is_some_at}
use Rattle.sched_laws.proofs.Opened.{read_map, read_pools, with_configured-resources}
use Rattle.sched_laws.proofs.OwnUnits.{units_are_own}
use Rattle.sched_laws.specs.PoolFacts.{UnitsAreOwn}
use Rattle.sched_laws.proofs.Reached as reached
use Rattle.sched_laws.proofs.Ready.{next_later}
use Rattle.sched_laws.proofs.Steps.{IsKeptTo, step_after}
use Rattle.sched_laws.proofs.StillWaits.{split_run}
use Rattle.state_ranges.proofs.BudgetWalk.{CreditFits, n_fresh}
use Rattle.state_ranges.proofs.RangesLaw.{StateFits, fits_in_runs}
use Rattle.state_ranges.proofs.RecordRanges.{RecordsFit}
use Rattle.state_ranges.specs.Fits.{RtdsFits}
use Rattle.moment_laws.specs.Stretches.{Legs, cores, open_legs, legs_after, legs_with, leg_of, has_no_older_leg, units}
use Rattle.moment_laws.proofs.Changed.{at_place-change_at}
use Rattle.moment_laws.proofs.StretchFalls.{legs_push, push_assoc}
use Rattle.moment_laws.proofs.ReachedDecisions.{PoolOf, stands}
use Rattle.moment_laws.proofs.LegCharges.{Lasts, limit}
use Rattle.moment_laws.proofs.LegDecides.{FreeHolds, w_after_decide, legs_other}
use Rattle.sched_laws.proofs.Events.{kept_settled, kept_processor, kept_by_parts, kept_set_leaving, kept_pause, kept_unpause}
use Rattle.moment_laws.proofs.LegWalk.{OnSince, Charged, charged_less, charged_later, IsLegged, Sound, w_parts, w_commands, w_set_moving, w_set_params, w_set_rtds_unit, w_with_domain, w_without_domain, w_core_comes, w_core_goes, w_idle}
use Rattle.sched_laws.specs.NullLaws.{chosen_by}

-- the action of an event that is one of an action
abbrev pub action_in : Event → Action
action_in e = unwrap_or (event_action e) Stall

-- all but the decisions
abbrev IsNoDecision : Action → Type 0
IsNoDecision (Decide r) = ⊥
IsNoDecision _ = Unit {0}

-- what is used of the records of reached states
sound_of : (m : Machine) (domains count t : ℕ) (records : Records) (resources : List (Option Resource)) → CreditFits m t records resources → RecordsFit domains count t records → Sound records
sound_of m domains count t (Credit2Pool records) resources credit fits = λ d x at n y get none. elim ((((credit records refl).budgets d x at).units n y get).idle none) [ inl zero_held ↦ zero_held | inr ex ↦ absurd ex ]
sound_of m domains count t (RtdsPool units) resources credit fits = λ d xs at n y get. (let least = (each_get (RtdsFits t) xs n y (fits.units d xs at) get).next_budget.least in omega (arith, least))
sound_of m domains count t any resources credit fits = tt

free_of : (m : Machine) (t : ℕ) (records : Records) (resources : List (Option Resource)) → CreditFits m t records resources → FreeHolds records
free_of m t (Credit2Pool records) resources credit = λ d x at n y get none. (((credit records refl).budgets d x at).units n y get).free none
free_of m t records resources credit = tt

-- where no core has a unit, none runs, and none holds anything
charged_idle : (m : Machine) (t : ℕ) (records : Records) (resources : List (Option Resource)) → ((r : ℕ) (c : Resource) → at_place resources r ≡ Some c → c.cur ≡ None) → CreditFits m t records resources → Charged (λ d n b. ⊥) t records
charged_idle m t (Credit2Pool records) resources idle credit = λ d x at n y get. record {
  lasts = λ b on. absurd on;
  within = (
      let none : y.burned ≡ None = elim ((credit records refl).runs d x at n y get) [ inl off ↦ off | inr on ↦ absurd (let e : None ≡ Some (record { dom = domain_number d; n = n }) = sym (idle on.0 on.1 on.2) ∙ on.3 in cc) ] in
      let held : y.held ≡ pos 0 = elim ((((credit records refl).budgets d x at).units n y get).idle none) [ inl zero_held ↦ zero_held | inr ex ↦ absurd ex ] in
      omega (arith, ints, held));
}
charged_idle m t (RtdsPool units) resources idle credit = λ d xs at n y get b on. absurd on
charged_idle m t any resources idle credit = tt

-- other legs that are the same for the cores of the pool
w_legs : (g t : ℕ) (legs next : Legs) (pool : Pool) → ((k : ℕ) (x : Resource) → at_place pool.resources k ≡ Some x → at_place next k ≡ at_place legs k) → IsLegged g t legs pool → IsLegged g t next pool
w_legs g t legs next pool same w = record {
  have = λ r c u at own. (let b = w.have r c u at own in (b.0, same r c at ∙ b.1));
  charged = charged_less (OnSince legs pool.resources) (OnSince next pool.resources) t pool.scheduler.records (λ d n b on. (on.0, on.1, on.2, on.3, sym (same on.0 on.1 on.2) ∙ on.4)) w.charged;
}

w_later : (g t next : ℕ) (legs : Legs) (pool : Pool) → t ≤ next → IsLegged g t legs pool → IsLegged g next legs pool
w_later g t next legs pool past w = record { have = w.have; charged = charged_later (OnSince legs pool.resources) t next pool.scheduler.records past w.charged }

-- there is a place for the leg of each core
legs_count : (t : ℕ) (e : Event) (legs : Legs) → length (legs_with t e legs) ≡ length legs
legs_count t (event.Decide r None due late reset) legs = length_set r.0 None legs
legs_count t (event.Decide r (Some u) due late reset) legs = length_set r.0 (Some t) legs
legs_count t e legs = refl

pub legs_after_count : (entries : List Entry) (legs : Legs) → length (legs_after legs entries) ≡ length legs
legs_after_count [] legs = refl
legs_after_count (e ∷ entries) legs = legs_after_count entries (legs_with e.at.0 e.event legs) ∙ legs_count e.at.0 e.event legs

open_legs_count : (m : Machine) (entries : List Entry) → length (open_legs m entries) ≡ cores m
open_legs_count m entries = legs_after_count entries (replicate (cores m) None) ∙ length-replicate (cores m) None

-- what is kept of the pools of the state that the entries lead to
abbrev AreLegged : Machine → List Entry → Type 0
AreLegged m before = EachPlace (IsLegged m.config.granularity (state_after m before).now (open_legs m before)) (state_after m before).pools

-- what is kept of a pool from step to step
record IsKeptLeg (g t : ℕ) (legs : Legs) (pool : Pool) : Type 0 where
  own : UnitsAreOwn pool
  legged : IsLegged g t legs pool

module _ (m : Machine) (checked : IsChecked m) where
  abbrev g : ℕ
  g = m.config.granularity

  -- what is known of a pool of a reached state
  record IsSoundLeg (t : ℕ) (legs : Legs) (pool : Pool) : Type 0 where
    leg : IsKeptLeg g t legs pool
    sound : Sound pool.scheduler.records

  -- the steps from a reached state
  leg_steps : (t : ℕ) (legs : Legs) → IsKeptTo m t (λ e. Unit {0}) (λ es. Unit {0}) (λ d x. Unit {0}) IsNoDecision (IsSoundLeg t legs) (IsKeptLeg g t legs) (IsKeptLeg g t legs)
  leg_steps t legs =
      let own : IsKept g UnitsAreOwn = units_are_own g in
      record {
        stays = λ pool w. w.leg;
        weakens = λ pool w. w;
        settles = λ pool w. record { own = own.inside.settles t pool w.own; legged = kept_settled (w_commands g t legs) t pool w.legged };
        stalls = λ p end pool near w. record { own = own.inside.stalls p end pool w.leg.own; legged = kept_processor (w_parts g t legs) p (λ q. record q { stall_end = moment end }) pool w.leg.legged };
        acts = λ pool action other on w. record { own = own.inside.acts t pool action on w.leg.own; legged = kept_by_parts (w_parts g t legs) pool action (no_decision action other, w.sound) w.leg.legged };
        leaves = λ r pool w. record { own = own.inside.leaves r pool w.own; legged = kept_set_leaving (w_commands g t legs) r pool w.legged };
        moves = λ d i pool w. record { own = own.inside.moves d i pool w.own; legged = w_set_moving g t legs d i pool w.legged };
        pauses = λ d pool w. record { own = own.inside.pauses d pool w.own; legged = kept_pause (w_commands g t legs) d pool w.legged };
        unpauses = λ d pool w. record { own = own.inside.unpauses d pool w.own; legged = kept_unpause (w_commands g t legs) d pool w.legged };
        changes = λ change pool good w. record { own = own.inside.changes change t pool w.leg.own; legged = w_set_params g t legs change pool w.sound w.leg.legged };
        core_comes = λ r ends pool none good w. record { own = own.core_comes r ends pool none w.leg.own; legged = w_core_comes g t legs r ends pool w.leg.legged };
        rtds = λ period budget extra u pool good w. record { own = own_rtds period budget extra u pool w.own; legged = w_set_rtds_unit g t legs period budget extra u pool w.legged };
        ends_stall = λ k end ends e es. tt;
        ends_go = λ r c pool at w. tt;
        core_goes = λ r pool on w. record { own = own.core_goes t r pool on w.leg.own; legged = w_core_goes g t legs r pool w.leg.legged };
        domain_is = λ d domain pool at w. tt;
        domain_comes = λ d domain pool stays none comes w. record {
          own = own.domain_comes t d domain (standard_dom_params pool.scheduler.records) pool stays none w.own;
          legged = w_with_domain g t legs d domain (standard_dom_params pool.scheduler.records) pool (other_domain d pool none w.own) w.legged;
        };
        domain_goes = λ d pool on w. record { own = own.domain_goes t d pool on w.leg.own; legged = w_without_domain g t legs d pool w.leg.legged };
        domain_leaves = λ d pool null on w. record { own = own.domain_goes t d pool on w.leg.own; legged = w_without_domain g t legs d pool w.leg.legged };
        empty = λ kind. record { own = own.empty m.config (standard_pool_params kind); legged = empty_legged kind };
      }
    where
      no_decision : (action : Action) → IsNoDecision action → (r : ℕ) → action ≡ Decide (core_number r) → ⊥
      no_decision action other r is = subst IsNoDecision is other

      own_rtds : (period budget : Option Span) (extra : Option Bool) (u : UnitId) (pool : Pool) → UnitsAreOwn pool → UnitsAreOwn (pool_with_rtds_unit t period budget extra u pool)
      own_rtds period budget extra u pool w =
          by_option UnitsAreOwn (unit_rtds_record pool.scheduler.records u) _ _ (λ is. w)
          (λ x is. (units_are_own g).inside.changes (changes.«Unit» u (unwrap_or period (span x.next_period)) (unwrap_or budget (span x.next_budget)) (unwrap_or extra x.next_extra)) t pool w)

      other_domain : (d : ℕ) (pool : Pool) → at_place pool.domains d ≡ None → UnitsAreOwn pool → (r : ℕ) (c : Resource) (u : UnitId) → at_place pool.resources r ≡ Some c → c.cur ≡ Some u → u.dom.0 ≢ d
      other_domain d pool none w r c u at cur same =
          let there : test_at pool.domains u.dom.0 (λ x. true) ≡ true = subst (λ (o : Option UnitId). IfSome o (λ w. test_at pool.domains w.dom.0 (λ x. true) ≡ true)) cur (w.cores r c at).cur in
          let has = some-test_at pool.domains u.dom.0 (λ x. true) there in
          let here : at_place pool.domains d ≡ Some has.0 = subst (λ k. at_place pool.domains k ≡ Some has.0) same has.1 in
          (let e : None ≡ Some has.0 = sym none ∙ here in cc)

      empty_legged : (kind : SchedKind) → IsLegged g t legs (fresh_pool m.config (standard_pool_params kind))
      empty_legged kind =
          let none : (r : ℕ) (c : Resource) → at_place (replicate (machine_core_count m.config) None) r ≡ Some c → c.cur ≡ None = λ r c at. absurd (EachPlace-empty {X = Resource} (λ y. ⊥) (machine_core_count m.config) r c at) in
          w_idle g t legs (fresh_pool m.config (standard_pool_params kind)) none
          (charged_idle m t (empty_records (standard_pool_params kind) (length m.config.domains) (machine_core_count m.config)) (replicate (machine_core_count m.config) None) none (n_fresh m t (standard_pool_params kind) (length m.config.domains) (machine_core_count m.config) (replicate (machine_core_count m.config) None)))

  -- the opening: no core has a unit
  opened_cores : (i d : ℕ) (domains : List DomConfig) (pool : Pool) → (pool_with_domains m.config.granularity i d domains pool).resources ≡ pool.resources
  opened_cores i d [] pool = refl
  opened_cores i d (joining ∷ domains) pool =
      opened_cores i (suc d) domains (cond (joining.home.0 == i) (pool_with_configured m.config.granularity d joining pool) pool)
      ∙ by_cond (λ (next : Pool). next.resources ≡ pool.resources) (joining.home.0 == i) (pool_with_configured m.config.granularity d joining pool) pool (λ is. with_configured-resources m.config.granularity d joining pool) (λ is. refl)

  legged_opening : AreLegged m []
  legged_opening i pool at =
      let r = read_pools m.config 0 _ m.config.pools i pool at in
      let first : Pool = record (fresh_pool m.config r.0.params) { resources = map (λ k. cond (has_core_bit r.0.cores k) (Some (joined_core (replicate m.config.granularity (moment 0)))) None) (numbers_from 0 (machine_core_count m.config)) } in
      let same : pool.resources ≡ first.resources = ap (λ (p : Pool). p.resources) r.2 ∙ opened_cores (0 + i) 0 m.config.domains first in
      let idle : (k : ℕ) (c : Resource) → at_place pool.resources k ≡ Some c → c.cur ≡ None = λ k c at_k. (
      let read = read_map (λ j. cond (has_core_bit r.0.cores j) (Some (joined_core (replicate m.config.granularity (moment 0)))) None) 0 (machine_core_count m.config) k c (subst (λ (x : List (Option Resource)). at_place x k ≡ Some c) same at_k) in
      by_cond (λ (o : Option Resource). o ≡ Some c → c.cur ≡ None) (has_core_bit r.0.cores (0 + k)) (Some (joined_core (replicate m.config.granularity (moment 0)))) None
      (λ has e. (let f : ◌≡◌ {A = Resource} (joined_core (replicate m.config.granularity (moment 0))) c = cc in sym (ap (λ (x : Resource). x.cur) f))) (λ none e. absurd (cc)) read) in
      w_idle m.config.granularity (state_after m []).now (open_legs m []) pool idle
      (charged_idle m (state_after m []).now pool.scheduler.records pool.resources idle ((fits_in_runs m checked [] tt).pools i pool at).credit)

  module _ (before : List Entry) (e : Entry) (run : IsRun m (before ++ e ∷ [])) (each : AreLegged m before) where
    abbrev s : State
    s = state_after m before

    abbrev legs : Legs
    legs = open_legs m before

    run_before : IsRun m before
    run_before = (split_run m (run_start m) before (e ∷ []) run).0

    fits : StateFits m s
    fits = fits_in_runs m checked before run_before

    abbrev Then : Legs → State → Type 0
    Then next from = EachPlace (IsLegged m.config.granularity from.now next) from.pools

    -- an action that is no decision
    acted : (action : Action) → IsNoDecision action → is_action_enabled m s s.now action ≡ true → Then legs (after m s s.now action)
    acted action other on =
        let steps = step_after (leg_steps s.now legs) s action other fits.apart (λ r c at. tt) (λ l is. tt) on known in
        λ i pool at. subst (λ t. IsLegged m.config.granularity t legs pool) (sym (now_after m s s.now action)) (steps i pool at).legged
      where
        known : EachPlace (IsSoundLeg s.now legs) s.pools
        known i pool at = (let w = fits.pools i pool at in record {
          leg = record { own = reached.units_are_own m checked before run_before i pool at; legged = each i pool at };
          sound = sound_of m (length m.config.domains) (machine_core_count m.config) s.now pool.scheduler.records pool.resources w.credit w.fits.records;
        })

    -- a decision
    decided_in : (r i : ℕ) (pool : Pool) (c : Resource) → home_pool_of_core s r ≡ Some i → at_place s.pools i ≡ Some pool → at_place pool.resources r ≡ Some c → FreeHolds (decision_of (core_ask m.config.granularity s.now pool r c) pool.scheduler).records
        → Then (leg_of s.now r (decision_of (core_ask m.config.granularity s.now pool r c) pool.scheduler).unit legs) (change_pool i (λ p. settled_pool s.now (after_in m.config.granularity s.now p (Decide (core_number r)))) s)
    decided_in r i pool c home at has free =
        let of : PoolOf m before pool = record { run = run_before; i = i; at = at } in
        let unit : Option UnitId = (decision_of (core_ask m.config.granularity s.now pool r c) pool.scheduler).unit in
        let next : Legs = leg_of s.now r unit legs in
        let low : r < length legs = (
        let inside = place_below pool.resources r c has in
        let places = reached.places_for_cores m checked before run_before i pool at in
        let count = open_legs_count m before in
        omega (arith, inside, places, count)) in
        let after_one : IsLegged m.config.granularity s.now next (after_in m.config.granularity s.now pool (Decide (core_number r))) =
        subst (λ (o : Option Resource). IsLegged m.config.granularity s.now next (elim o as (λ _. Pool) [ None ↦ pool | Some x ↦ pools.after_decide m.config.granularity s.now r x pool ])) (sym has)
        (w_after_decide m.config.granularity s.now legs r c pool has (stands m checked before pool of r c has).others low free (each i pool at)) in
        EachAt-change_to (λ j p. (at_place s.pools j ≡ Some p) × IsLegged m.config.granularity s.now legs p) (λ j. IsLegged m.config.granularity s.now next) i (λ p. settled_pool s.now (after_in m.config.granularity s.now p (Decide (core_number r)))) s.pools (λ j p at_j. (at_j, each j p at_j))
        (λ j p other here. w_legs m.config.granularity s.now legs next p (λ k x at_k. legs_other m.config.granularity s.now legs r c pool has unit k (λ same. other (fits.apart.cores j i r
        (test_at-some s.pools j (λ y. is_some (at_place y.resources r)) p here.0 (is_some_at (at_place p.resources r) x (subst (λ n. at_place p.resources n ≡ Some x) same at_k)))
        (test_at-some s.pools i (λ y. is_some (at_place y.resources r)) pool at (is_some_at (at_place pool.resources r) c has))))) here.1)
        (λ p at_p here. (let e2 : pool ≡ p = cc in subst (λ (x : Pool). IsLegged m.config.granularity s.now next (settled_pool s.now (after_in m.config.granularity s.now x (Decide (core_number r))))) e2 (kept_settled (w_commands m.config.granularity s.now next) s.now (after_in m.config.granularity s.now pool (Decide (core_number r))) after_one)))

    -- what the event of a decision prints as the unit
    printed_unit : (r i : ℕ) (pool : Pool) (c : Resource) (ev : Event) → ev ≡ event_of m s s.now (Decide (core_number r)) → home_pool_of_core s r ≡ Some i → at_place s.pools i ≡ Some pool → at_place pool.resources r ≡ Some c
        → chosen_by ev ≡ (decision_of (core_ask m.config.granularity s.now pool r c) pool.scheduler).unit
    printed_unit r i pool c ev is home at has =
        let home_is : home_pool m s (Decide (core_number r)) ≡ pool = ap (λ (o : Option ℕ). elim o as (λ _. Pool) [ None ↦ absent_pool m.config | Some j ↦ unwrap_or (at_place s.pools j) (absent_pool m.config) ]) home ∙ ap (λ (o : Option Pool). unwrap_or o (absent_pool m.config)) at in
        let asks : decision_at m.config.granularity s.now pool r ≡ decision_of (core_ask m.config.granularity s.now pool r c) pool.scheduler =
        ap (λ (o : Option Resource). elim o as (λ _. Decision) [ None ↦ record { unit = None; due = None; reset = 0; records = pool.scheduler.records } | Some x ↦ decision_of (core_ask m.config.granularity s.now pool r x) pool.scheduler ]) has in
        ap chosen_by is ∙ ap (λ (p : Pool). (decision_at m.config.granularity s.now p r).unit) home_is ∙ ap (λ (d : Decision). d.unit) asks

    -- the state after a decision, and what is known of the pool's records then
    decided_state : (r : ℕ) (unit : Option UnitId) → is_action_enabled m s s.now (Decide (core_number r)) ≡ true → ((i : ℕ) (pool : Pool) (c : Resource) → home_pool_of_core s r ≡ Some i → at_place s.pools i ≡ Some pool → at_place pool.resources r ≡ Some c → unit ≡ (decision_of (core_ask m.config.granularity s.now pool r c) pool.scheduler).unit)
        → StateFits m (after m s s.now (Decide (core_number r))) → Then (leg_of s.now r unit legs) (after m s s.now (Decide (core_number r)))
    decided_state r unit on printed later = by_home (home_pool_of_core s r) refl on later
      where
        -- the state after a decision at the home
        made : Option ℕ → State
        made home = elim home [ None ↦ s | Some i ↦ change_pool i (λ p. settled_pool s.now (after_in m.config.granularity s.now p (Decide (core_number r)))) s ]

        by_home : (home : Option ℕ) → home_pool_of_core s r ≡ home → elim home as (λ _. Bool) [ None ↦ false | Some i ↦ test_at s.pools i (λ pool. enabled_in m.config.granularity s.now pool (Decide (core_number r))) ] ≡ true → StateFits m (made home) → Then (leg_of s.now r unit legs) (made home)
        by_home None home none fit = absurd (cc)
        by_home (Some i) home may fit =
            let there = some-test_at s.pools i (λ pool. enabled_in m.config.granularity s.now pool (Decide (core_number r))) may in
            let pool : Pool = there.0 in
            let core = some-test_at pool.resources r (λ (x : Resource). list_all is_held_back x.processors && is_gathering x && is_first_processor_up s.now x) there.2 in
            let c : Resource = core.0 in
            let next : Pool = settled_pool s.now (after_in m.config.granularity s.now pool (Decide (core_number r))) in
            let at_next : at_place (made (Some i)).pools i ≡ Some next = at_place-change_at i (λ p. settled_pool s.now (after_in m.config.granularity s.now p (Decide (core_number r)))) s.pools ∙ ap (option_map (λ p. settled_pool s.now (after_in m.config.granularity s.now p (Decide (core_number r))))) there.1 in
            let records : next.scheduler.records ≡ (decision_of (core_ask m.config.granularity s.now pool r c) pool.scheduler).records =
            ap (λ (o : Option Resource). (elim o as (λ _. Pool) [ None ↦ pool | Some x ↦ pools.after_decide m.config.granularity s.now r x pool ]).scheduler.records) core.1 in
            let free : FreeHolds next.scheduler.records = free_of m s.now next.scheduler.records next.resources (fit.pools i next at_next).credit in
            subst (λ (o : Option UnitId). Then (leg_of s.now r o legs) (made (Some i))) (sym (printed i pool c home there.1 core.1))
            (decided_in r i pool c home there.1 core.1 (subst FreeHolds records free))

    -- an entry
    by_event : (ev : Event) → IsNextEvent m s ev (event_action ev) → StateFits m (after_event m ev (event_action ev) (after_entries m (run_start m) before)).state → Then (legs_with s.now ev legs) (after_event m ev (event_action ev) (after_entries m (run_start m) before)).state
    by_event (event.Decide r unit due late reset) next later =
        decided_state r.0 unit next.0 (λ i pool c home at has. printed_unit r.0 i pool c (event.Decide r unit due late reset) next.1 home at has) later
    by_event (event.End n) next later = λ i pool at. w_later m.config.granularity s.now n.0 legs pool (next_later m s n.0 next.1) (each i pool at)
    by_event event.Finish next later = each
    by_event ev next later = acted (action_in ev) tt next.0

    legged_entry : AreLegged m (before ++ e ∷ [])
    legged_entry =
        let parts = split_run m (run_start m) before (e ∷ []) run in
        let now : e.at.0 ≡ s.now = parts.1.0.moment in
        let same : after_entries m (run_start m) (before ++ e ∷ []) ≡ after_event m e.event (event_action e.event) (after_entries m (run_start m) before) = after_entries-append m (run_start m) before e in
        let later : StateFits m (after_event m e.event (event_action e.event) (after_entries m (run_start m) before)).state = subst (λ (x : Reached). StateFits m x.state) same (fits_in_runs m checked (before ++ e ∷ []) run) in
        let next_legs : open_legs m (before ++ e ∷ []) ≡ legs_with s.now e.event legs = legs_push (replicate (cores m) None) before e ∙ ap (λ t. legs_with t e.event legs) now in
        subst (λ (x : Reached). Then (open_legs m (before ++ e ∷ [])) x.state) (sym same) (subst (λ (l : Legs). Then l (after_event m e.event (event_action e.event) (after_entries m (run_start m) before)).state) (sym next_legs) (by_event e.event parts.1.0.event later))

  legged_from : (entries before : List Entry) → IsRun m (before ++ entries) → AreLegged m before → AreLegged m (before ++ entries)
  legged_from [] before run each = subst (AreLegged m) (sym (push_none before)) each
    where
      push_none : (xs : List Entry) → xs ++ [] ≡ xs
      push_none [] = refl
      push_none (x ∷ xs) = ap (λ ys. x ∷ ys) (push_none xs)
  legged_from (e ∷ entries) before run each =
      let run2 : IsRun m ((before ++ e ∷ []) ++ entries) = subst (IsRun m) (sym (push_assoc before e entries)) run in
      subst (AreLegged m) (push_assoc before e entries) (legged_from entries (before ++ e ∷ []) run2 (legged_entry before e (split_run m (run_start m) (before ++ e ∷ []) entries run2).0 each))

  pub legged_in_runs : (before : List Entry) → IsRun m before → AreLegged m before
  legged_in_runs before run = legged_from before [] run legged_opening

  module _ (before : List Entry) (pool : Pool) (of : PoolOf m before pool) where
    abbrev t : ℕ
    t = (state_after m before).now

    legged : IsLegged m.config.granularity t (open_legs m before) pool
    legged = legged_in_runs before of.run of.i pool of.at

    -- a core with a unit has a leg, and one that began now where it has none of an earlier moment
    begun_now : (r : ℕ) (c : Resource) (u : UnitId) → at_place pool.resources r ≡ Some c → c.cur ≡ Some u → has_no_older_leg t (open_legs m before) r ≡ true → at_place (open_legs m before) r ≡ Some t
    begun_now r c u at cur none =
        let leg = legged.have r c u at cur in
        let now : (leg.0 == t) ≡ true = sym (ap (λ (o : Option ℕ). elim o as (λ _. Bool) [ None ↦ true | Some b ↦ b == t ]) leg.1) ∙ none in
        let same : leg.0 ≡ t = grind (arith, now) in
        leg.1 ∙ ap (λ b. Some b) same

    -- charged now, with no less than 0 left
    left_now : (burned : Option ℕ) (left : ℤ) → Lasts t t burned left → (burned ≡ Some t) × (pos 0 ≤ℤ left)
    left_now burned left lasts =
        let since = lasts.since in
        let past = lasts.past in
        let most = lasts.most in
        let same : lasts.from ≡ t = omega (arith, since, past) in
        (lasts.is ∙ ap (λ b. Some b) same, omega (arith, ints, most, past))

    pub rtds_left : (xs : List (Option (List RtdsUnit))) → pool.scheduler.records ≡ RtdsPool xs → (r : ℕ) (c : Resource) → at_place pool.resources r ≡ Some c → has_no_older_leg t (open_legs m before) r ≡ true
        → (u : UnitId) (x : RtdsUnit) → c.cur ≡ Some u → rtds_unit_at xs u ≡ Some x → (x.burned ≡ Some t) × (0 < x.left)
    rtds_left xs is r c at none u x cur has =
        let kept : Charged (OnSince (open_legs m before) pool.resources) t (RtdsPool xs) = subst (Charged (OnSince (open_legs m before) pool.resources) t) is legged.charged in
        let leg = begun_now r c u at cur none in
        let lasts : Lasts t t x.burned (pos x.left -ℤ pos 1) =
        by_option (λ (o : Option RtdsUnit). o ≡ Some x → Lasts t t x.burned (pos x.left -ℤ pos 1)) (at_place xs u.dom.0) _ _ (λ empty e. absurd (cc)) (λ units at_d e. kept u.dom.0 units at_d u.n x e t (r, c, at, cur, leg)) has in
        let now = left_now x.burned (pos x.left -ℤ pos 1) lasts in
        let low = now.1 in
        (now.0, omega (arith, ints, low))

    pub credit2_holds : (rs : Credit2Records) → pool.scheduler.records ≡ Credit2Pool rs → (r : ℕ) (c : Resource) → at_place pool.resources r ≡ Some c → has_no_older_leg t (open_legs m before) r ≡ true
        → (u : UnitId) (d : Credit2Domain) (x : Credit2Unit) → c.cur ≡ Some u → at_place rs.domains u.dom.0 ≡ Some d → slice_get d.units u.n ≡ Some x
        → (x.burned ≡ Some t) × (int_lt x.held (pos 0) ≡ false) × (int_lt (pos (budget_quota (cap_budget d.cap) (length d.units))) x.held ≡ false)
    credit2_holds rs is r c at none u d x cur at_d get =
        let kept : Charged (OnSince (open_legs m before) pool.resources) t (Credit2Pool rs) = subst (Charged (OnSince (open_legs m before) pool.resources) t) is legged.charged in
        let unit = kept u.dom.0 d at_d u.n x get in
        let now = left_now x.burned x.held (unit.lasts t (r, c, at, cur, begun_now r c u at cur none)) in
        (now.0, not_below x.held now.1, not_above (limit d) x.held unit.within)
      where
        not_below : (h : ℤ) → pos 0 ≤ℤ h → int_lt h (pos 0) ≡ false
        not_below h low = grind (arith, ints)

        not_above : (q : ℕ) (h : ℤ) → h ≤ℤ pos q → int_lt (pos q) h ≡ false
        not_above q h low = grind (arith, ints)
