-- Which cores are in pools whose records pass a test: each action brings such a pool no core but one that is moved to it.
use Rattle.std.proofs.Common.{◌≡◌, ℕ, suc, Bool, true, false, List, [], ◌∷◌, refl, ◌⊎◌, inl, inr}
use Rattle.std.specs.Prelude.{Option, Some, None, Ok, Err, is_some, slice_get, unwrap_or, ◌==◌, ◌&&◌, ◌+◌, ◌/◌}
use Rattle.std.proofs.lemmas.Bool.{and_from}
use Rattle.sched_base.specs.Numbers.{moment, span, domain as domain_number, core as core_number}
use Rattle.sched_base.specs.declared.Span.{Span}
use Rattle.sched_base.specs.declared.UnitId.{UnitId}
use Rattle.sched_model.specs.declared.config.DomParams.{DomParams}
use Rattle.sched_model.specs.declared.config.DomParams.TheVariants as dom_params
use Rattle.sched_model.specs.declared.config.ParamChange.{ParamChange}
use Rattle.sched_model.specs.declared.config.ParamChange.TheVariants as changes
use Rattle.sched_model.specs.declared.machine.Machine.{Machine}
use Rattle.sched_model.specs.declared.plan.Plan.{Plan}
use Rattle.sched_model.specs.declared.plan.Plan.TheVariants as plan
use Rattle.sched_model.specs.declared.state.Domain.{Domain}
use Rattle.sched_model.specs.declared.state.FreeCore.{FreeCore}
use Rattle.sched_model.specs.declared.state.Pool.{Pool}
use Rattle.sched_model.specs.declared.state.Records.{Records}
use Rattle.sched_model.specs.declared.state.Records.TheVariants.{Credit2Pool, RtdsPool, ArincPool, NullPool}
use Rattle.sched_model.specs.declared.state.Resource.{Resource}
use Rattle.sched_model.specs.declared.state.Scheduler.{Scheduler}
use Rattle.sched_model.specs.declared.state.State.{State}
use Rattle.sched_model.specs.declared.work.CommandLine.{CommandLine}
use Rattle.sched_model.specs.declared.work.StallLine.{StallLine}
use Rattle.sched_model.specs.declared.action.Action.{Action}
use Rattle.sched_model.specs.declared.action.Action.TheVariants.{Stall, Xl, Moved, DomMoved}
use Rattle.sched_model.specs.Places.{at_place, put_at, clear_at, test_at, numbers_from}
use Rattle.sched_model.specs.declared.ask.Ask.{Ask}
use Rattle.sched_model.specs.Opening.{joined_core, fresh_pool, machine_core_count}
use Rattle.sched_model.specs.Policy as policy
use Rattle.sched_model.specs.Policy.{decision_of, records_kind, unit_rtds_record, standard_pool_params, standard_dom_params}
use Rattle.sched_model.specs.Pool as pools
use Rattle.sched_model.specs.Pool.{enabled_in, after_in, settled_pool, change_processor, pool_with_leaving, pool_with_moving, paused_pool, unpaused_pool, changed_pool, pool_with_domain, pool_without_domain, core_ask}
use Rattle.sched_model.specs.Actions.{home_pool_of_action, home_pool_of_core, home_pool_of_domain, change_pool}
use Rattle.sched_model.specs.Commands.{carried_out, change_home, pool_with_rtds, plan_pool}
use Rattle.sched_model.specs.Machine.{is_action_enabled, after, after_stall, after_command, state_after_moved, after_dom_moved, line_verdict, settled_at, later_stall_end, left_by, joined_by, is_null_pool}
use Rattle.sched_laws.specs.EachPlace.{EachAt}
use Rattle.sched_base.proofs.Bools.{and_left, and_right}
use Rattle.sched_laws.proofs.Events.{Anyway, KeptByParts, commands_of, kept_by_parts, kept_pause, kept_unpause, kept_marked, kept_queue_units}
use Rattle.sched_laws.proofs.Apart.{HasOnly, only_inside, only_with_domain}
use Rattle.sched_laws.proofs.EachPlace.{EachAt-change_at, EachAt-put_at, EachAt-clear_at, EachPlace-empty, by_option, by_cond}
use Rattle.sched_laws.proofs.Kept.{passes_at}
use Rattle.sched_laws.proofs.Lists.{some_is, is_some_at, test_at-some, some-test_at}
use Rattle.moment_laws.specs.Turns.{keeps}

-- the moment of a Credit2 pool's last reset
abbrev pub last_of : Records → Option ℕ
last_of (Credit2Pool records) = records.last_reset
last_of records = None

-- two records of one scheduler, with the last reset at the same moment
pub record IsAlike (a b : Records) : Type 0 where
  pub kind : records_kind a ≡ records_kind b
  pub last : last_of a ≡ last_of b

-- the test sees nothing else of the records, and passes after a decision at the moment t only where it passed before it
pub record IsKeptTest (t : ℕ) (test : Records → Bool) : Type 0 where
  pub sees : (a b : Records) → IsAlike a b → test a ≡ true → test b ≡ true
  pub decides : (ask : Ask) (scheduler : Scheduler) → ask.at.0 ≡ t → test (decision_of ask scheduler).records ≡ true → test scheduler.records ≡ true

-- all other changes leave it
alike_changed : (t : ℕ) (change : ParamChange) (records : Records) → IsAlike (policy.changed_records records change t) records
alike_changed t (changes.Dom d weight percent) (Credit2Pool records) = record { kind = refl; last = refl }
alike_changed t (changes.Rate limit) (Credit2Pool records) = record { kind = refl; last = refl }
alike_changed t (changes.«Unit» u period budget extra) (RtdsPool domains) = record { kind = refl; last = refl }
alike_changed t (changes.Frame frame) (ArincPool records) = record { kind = refl; last = refl }
alike_changed t (changes.Pin d unit cores) (NullPool kept) = record { kind = refl; last = refl }
alike_changed t change records = record { kind = refl; last = refl }

alike_joined : (t d count : ℕ) (params : DomParams) (records : Records) → IsAlike (policy.joined_records records params d count t) records
alike_joined t d count (dom_params.Credit2 weight percent) (Credit2Pool records) = record { kind = refl; last = refl }
alike_joined t d count (dom_params.Rtds period budget extra) (RtdsPool domains) = record { kind = refl; last = refl }
alike_joined t d count dom_params.Arinc653 (ArincPool records) = record { kind = refl; last = refl }
alike_joined t d count dom_params.Null (NullPool kept) = record { kind = refl; last = refl }
alike_joined t d count params records = record { kind = refl; last = refl }

alike_parted : (d : ℕ) (records : Records) → IsAlike (policy.parted_records records d) records
alike_parted d (Credit2Pool records) = record { kind = refl; last = refl }
alike_parted d records = record { kind = refl; last = refl }

alike_replenished : (t : ℕ) (u : UnitId) (records : Records) → IsAlike (policy.records_after_replenish records t u) records
alike_replenished t u (Credit2Pool records) = record { kind = refl; last = refl }
alike_replenished t u records = record { kind = refl; last = refl }

alike_refilled : (t d : ℕ) (records : Records) → IsAlike (policy.records_after_refill records t d) records
alike_refilled t d (Credit2Pool records) = record { kind = refl; last = refl }
alike_refilled t d records = record { kind = refl; last = refl }

-- whatever follows from the test of a pool's records follows from it after each step
module _ (g t : ℕ) (test : Records → Bool) (kept : IsKeptTest t test) (A : Type 0) where
  abbrev Gives : Pool → Type 0
  Gives pool = test pool.scheduler.records ≡ true → A

  gives_parts : KeptByParts g t Anyway Gives
  gives_parts = record {
    cores = λ cores pool like here. here;
    domains = λ d f pool count moving here. here;
    queues = λ u pool runs here. here;
    dequeues = λ d pool here. here;
    decides = λ r c pool at on here passes. here (kept.decides (core_ask g t pool r c) pool.scheduler refl passes);
    saves = λ r c u pool at is on here. here;
    replenishes = λ u pool on here passes. here (kept.sees _ pool.scheduler.records (alike_replenished t u pool.scheduler.records) passes);
    dues = λ r u x old pool on is here. here;
    refills = λ d pool on here passes. here (kept.sees _ pool.scheduler.records (alike_refilled t d pool.scheduler.records) passes);
  }

  gives_changed : (change : ParamChange) (pool : Pool) → Gives pool → test (policy.changed_records pool.scheduler.records change t) ≡ true → A
  gives_changed change pool here passes = here (kept.sees _ pool.scheduler.records (alike_changed t change pool.scheduler.records) passes)

  pub gives_params : (change : ParamChange) (pool : Pool) → Gives pool → Gives (changed_pool change t pool)
  gives_params change pool here = kept_marked (commands_of gives_parts) t (λ d next now. now) change (record pool { scheduler = policy.changed_scheduler change t pool.scheduler }) (gives_changed change pool here)

  pub gives_with_domain : (d : ℕ) (domain : Domain) (params : DomParams) (pool : Pool) → Gives pool → Gives (pool_with_domain g t d domain params pool)
  gives_with_domain d domain params pool here = kept_queue_units (commands_of gives_parts) d (numbers_from 0 (pools.domain_unit_count g domain)) (record pool { domains = put_at d domain pool.domains; scheduler = policy.joined_scheduler d (pools.domain_unit_count g domain) params t pool.scheduler }) (λ passes. here (kept.sees _ pool.scheduler.records (alike_joined t d (pools.domain_unit_count g domain) params pool.scheduler.records) passes))

-- where the pool's records pass the test, it has no core but these
pub record HasWhere (test : Records → Bool) (C : ℕ → Type 0) (pool : Pool) : Type 0 where
  pub cores : EachAt (λ r (c : Resource). test pool.scheduler.records ≡ true → C r) pool.resources

-- a step that brings no core, and after which the test passes only where it passed
has_next : (test : Records → Bool) (C : ℕ → Type 0) (pool next : Pool) → HasWhere test C pool
    → (HasOnly (λ r. is_some (at_place pool.resources r) ≡ true) (λ d. is_some (at_place pool.domains d) ≡ true) pool → HasOnly (λ r. is_some (at_place pool.resources r) ≡ true) (λ d. is_some (at_place pool.domains d) ≡ true) next)
    → ((test pool.scheduler.records ≡ true → test pool.scheduler.records ≡ true) → test next.scheduler.records ≡ true → test pool.scheduler.records ≡ true) → HasWhere test C next
has_next test C pool next has only gives =
    let brings = only (record { cores = λ r c at. is_some_at (at_place pool.resources r) c at; domains = λ d x at. is_some_at (at_place pool.domains d) x at }) in
    record { cores = λ r c at passes. (let old = some_is (at_place pool.resources r) (brings.cores r c at) in has.cores r old.0 old.1 (gives (λ is. is) passes)) }

module _ (m : Machine) (t : ℕ) (test : Records → Bool) (kept : IsKeptTest t test) (C : ℕ → ℕ → Type 0) where
  abbrev g : ℕ
  g = m.config.granularity

  abbrev Has : ℕ → Pool → Type 0
  Has i pool = HasWhere test (C i) pool

  has_settled : (i : ℕ) (pool : Pool) → Has i pool → Has i (settled_pool t pool)
  has_settled i pool has = has_next test (C i) pool (settled_pool t pool) has (λ only. (only_inside _ _ g).settles t pool only) (λ here. here)

  has_stalled : (i p end : ℕ) (pool : Pool) → Has i pool → Has i (change_processor g p (λ q. record q { stall_end = moment end }) pool)
  has_stalled i p end pool has = has_next test (C i) pool (change_processor g p (λ q. record q { stall_end = moment end }) pool) has (λ only. (only_inside _ _ g).stalls p end pool only) (λ here. here)

  has_acts : (i : ℕ) (pool : Pool) (action : Action) → enabled_in g t pool action ≡ true → Has i pool → Has i (after_in g t pool action)
  has_acts i pool action on has = has_next test (C i) pool (after_in g t pool action) has (λ only. (only_inside _ _ g).acts t pool action on only) (kept_by_parts (gives_parts g t test kept (test pool.scheduler.records ≡ true)) pool action tt)

  has_leaves : (i r : ℕ) (pool : Pool) → Has i pool → Has i (pool_with_leaving r pool)
  has_leaves i r pool has = has_next test (C i) pool (pool_with_leaving r pool) has (λ only. (only_inside _ _ g).leaves r pool only) (λ here. here)

  has_moves : (i d j : ℕ) (pool : Pool) → Has i pool → Has i (pool_with_moving d j pool)
  has_moves i d j pool has = has_next test (C i) pool (pool_with_moving d j pool) has (λ only. (only_inside _ _ g).moves d j pool only) (λ here. here)

  has_pause : (i d : ℕ) (pool : Pool) → Has i pool → Has i (paused_pool d pool)
  has_pause i d pool has = has_next test (C i) pool (paused_pool d pool) has (λ only. (only_inside _ _ g).pauses d pool only) (kept_pause (commands_of (gives_parts g t test kept (test pool.scheduler.records ≡ true))) d pool)

  has_unpause : (i d : ℕ) (pool : Pool) → Has i pool → Has i (unpaused_pool g d pool)
  has_unpause i d pool has = has_next test (C i) pool (unpaused_pool g d pool) has (λ only. (only_inside _ _ g).unpauses d pool only) (kept_unpause (commands_of (gives_parts g t test kept (test pool.scheduler.records ≡ true))) d pool)

  has_params : (i : ℕ) (change : ParamChange) (pool : Pool) → Has i pool → Has i (changed_pool change t pool)
  has_params i change pool has = has_next test (C i) pool (changed_pool change t pool) has (λ only. (only_inside _ _ g).changes change t pool only) (λ here. gives_params g t test kept _ change pool here)

  has_rtds : (i d : ℕ) (period budget : Option Span) (extra : Option Bool) (units : List ℕ) (pool : Pool) → Has i pool → Has i (pool_with_rtds t d period budget extra units pool)
  has_rtds i d period budget extra [] pool has = has
  has_rtds i d period budget extra (n ∷ ns) pool has =
      has_rtds i d period budget extra ns _ (by_option (Has i) (unit_rtds_record pool.scheduler.records (record { dom = domain_number d; n = n })) _ _ (λ is. has)
      (λ x is. has_params i (changes.«Unit» (record { dom = domain_number d; n = n }) (unwrap_or period (span x.next_period)) (unwrap_or budget (span x.next_budget)) (unwrap_or extra x.next_extra)) pool has))

  has_joined : (i d : ℕ) (domain : Domain) (pool : Pool) → Has i pool → Has i (joined_by g t d domain pool)
  has_joined i d domain pool has =
      let domain_there : Domain = record domain { moving = None } in
      has_settled i _ (record {
        cores = λ r c at passes. (
            let only = only_with_domain (λ q. is_some (at_place pool.resources q) ≡ true) (λ e. Unit {0}) g t d domain_there (standard_dom_params pool.scheduler.records) pool tt (record { cores = λ q x at2. is_some_at (at_place pool.resources q) x at2; domains = λ e x at2. tt }) in
            let old = some_is (at_place pool.resources r) (only.cores r c at) in
            has.cores r old.0 old.1 (gives_with_domain g t test kept (test pool.scheduler.records ≡ true) d domain_there (standard_dom_params pool.scheduler.records) pool (λ is. is) passes));
      })

  has_left : (i d : ℕ) (pool : Pool) → Has i pool → Has i (left_by t d pool)
  has_left i d pool has =
      let out : Has i (pool_without_domain d pool) = record { cores = λ r c at passes. has.cores r c at (kept.sees _ pool.scheduler.records (alike_parted d pool.scheduler.records) passes) } in
      by_cond (Has i) (is_null_pool pool.scheduler.records) (settled_pool t (pool_without_domain d pool)) (pool_without_domain d pool) (λ is. has_settled i _ out) (λ is. out)

  -- all pools
  abbrev EachHas : State → Type 0
  EachHas s = EachAt (λ i. Has i) s.pools

  each_change : (i : ℕ) (f : Pool → Pool) (s : State) → ((pool : Pool) → at_place s.pools i ≡ Some pool → Has i pool → Has i (f pool)) → EachHas s → EachHas (change_pool i f s)
  each_change i f s keeps each = EachAt-change_at (λ j. Has j) i f s.pools each keeps

  each_at : (s : State) (action : Action) (home : Option ℕ) → elim home [ None ↦ false | Some i ↦ test_at s.pools i (λ pool. enabled_in g t pool action) ] ≡ true
      → EachHas s → EachHas (elim home as (λ _. State) [ None ↦ s | Some i ↦ change_pool i (λ pool. settled_pool t (after_in g t pool action)) s ])
  each_at s action None on each = each
  each_at s action (Some i) on each =
      each_change i (λ pool. settled_pool t (after_in g t pool action)) s (λ pool at has. has_settled i _ (has_acts i pool action (passes_at s.pools i (λ p. enabled_in g t p action) pool at on) has)) each

  each_home : (d : ℕ) (f : Pool → Pool) (s : State) → ((i : ℕ) (pool : Pool) → Has i pool → Has i (f pool)) → EachHas s → EachHas (change_home d f s)
  each_home d f s keeps each = by_option EachHas (home_pool_of_domain s d) _ _ (λ is. each) (λ i is. each_change i f s (λ pool at. keeps i pool) each)

  each_settled : (home : Option ℕ) (s : State) → EachHas s → EachHas (settled_at t home s)
  each_settled None s each = each
  each_settled (Some i) s each = each_change i (settled_pool t) s (λ pool at. has_settled i pool) each

  each_carried_out : (p : Plan) (s : State) → EachHas s → EachHas (carried_out m t p s)
  each_carried_out (plan.PoolCreate i name kind answer) s each =
      EachAt-put_at (λ j. Has j) i.0 (fresh_pool m.config (standard_pool_params kind)) s.pools each (record { cores = λ r c at. absurd (EachPlace-empty {X = Resource} (λ y. ⊥) (machine_core_count m.config) r c at) })
  each_carried_out (plan.PoolDestroy i answer) s each = EachAt-clear_at (λ j. Has j) i.0 s.pools each
  each_carried_out (plan.CpuRemove i core answer) s each = each_change i.0 (pool_with_leaving core.0) s (λ pool at. has_leaves i.0 core.0 pool) each
  each_carried_out (plan.Migrate d i j answer) s each = by_cond EachHas (i.0 == j.0) s _ (λ is. each) (λ is. each_change i.0 (pool_with_moving d.0 j.0) s (λ pool at. has_moves i.0 d.0 j.0 pool) each)
  each_carried_out (plan.Credit2Dom d weight percent answer) s each = each_home d.0 (changed_pool (changes.Dom d weight percent) t) s (λ i. has_params i (changes.Dom d weight percent)) each
  each_carried_out (plan.Credit2Pool i (Some us) answer) s each = each_change i.0 (changed_pool (changes.Rate us) t) s (λ pool at. has_params i.0 (changes.Rate us) pool) each
  each_carried_out (plan.RtdsDom d first count period budget extra answer) s each = each_home d.0 _ s (λ i. has_rtds i d.0 period budget extra (numbers_from first count)) each
  each_carried_out (plan.Pause d answer) s each = each_home d.0 (paused_pool d.0) s (λ i. has_pause i d.0) each
  each_carried_out (plan.Unpause d answer) s each = each_home d.0 (unpaused_pool g d.0) s (λ i. has_unpause i d.0) each
  each_carried_out (plan.ArincSet i frame answer) s each = each_change i.0 (changed_pool (changes.Frame frame) t) s (λ pool at. has_params i.0 (changes.Frame frame) pool) each
  each_carried_out (plan.Pin d unit cores answer) s each = each_home d.0 (changed_pool (changes.Pin d unit cores) t) s (λ i. has_params i (changes.Pin d unit cores)) each
  each_carried_out p s each = each

  each_command : (line : CommandLine) (s : State) → EachHas s → EachHas (after_command m t line s)
  each_command line s each =
      elim (line_verdict m s line) as (λ v. EachHas (elim v as (λ _. State) [ Err fault ↦ record s { next_command = suc s.next_command } | Ok p ↦ settled_at t (plan_pool s p) (carried_out m t p (record s { next_command = suc s.next_command })) ])) [
        | Err fault ↦ each
        | Ok p ↦ each_settled (plan_pool s p) _ (each_carried_out p (record s { next_command = suc s.next_command }) each)
      ]

  each_stall : (line : Option StallLine) (s : State) → EachHas s → EachHas (elim line as (λ _. State) [ None ↦ s | Some l ↦ after_stall g t l s ])
  each_stall None s each = each
  each_stall (Some l) s each =
      by_option EachHas (home_pool_of_core s (l.cpu.0 / g)) _ _ (λ is. each)
      (λ i is. each_change i _ s (λ pool at. has_stalled i l.cpu.0 (later_stall_end g s l.cpu.0 (t + l.span.0)) pool) each)

  each_moved : (r : ℕ) (s : State) → ((c : FreeCore) (i : ℕ) → at_place s.free r ≡ Some c → c.target ≡ Some i → C i r) → EachHas s → EachHas (state_after_moved t r s)
  each_moved r s comes each =
      by_option EachHas (at_place s.free r) _ _
      (λ is. by_option EachHas (home_pool_of_core s r) _ _ (λ is2. each)
      (λ i is2. by_option EachHas (at_place s.pools i) _ _ (λ is3. each)
      (λ pool is3. by_option EachHas (at_place pool.resources r) _ _ (λ is4. each)
      (λ c is4. each_change i (λ x. settled_pool t (record x { resources = clear_at r x.resources })) s
      (λ x at has. has_settled i _ (record { cores = EachAt-clear_at (λ q c2. test x.scheduler.records ≡ true → C i q) r x.resources has.cores })) each))))
      (λ c is. by_option EachHas c.target _ _ (λ is2. each)
      (λ i is2. each_change i (λ x. settled_pool t (record x { resources = put_at r (joined_core c.stall_ends) x.resources })) (record s { free = clear_at r s.free })
      (λ x at has. has_settled i _ (record { cores = EachAt-put_at (λ q c2. test x.scheduler.records ≡ true → C i q) r (joined_core c.stall_ends) x.resources has.cores (λ passes. comes c i is is2) })) each))

  each_dom_moved : (d : ℕ) (s : State) → EachHas s → EachHas (after_dom_moved g t d s)
  each_dom_moved d s each =
      by_option EachHas (home_pool_of_domain s d) _ _ (λ is. each)
      (λ i is. by_option EachHas (at_place s.pools i) _ _ (λ is2. each)
      (λ pool is2. by_option EachHas (at_place pool.domains d) _ _ (λ is3. each)
      (λ domain is3. by_option EachHas domain.moving _ _ (λ is4. each)
      (λ j is4. each_change j.0 (joined_by g t d domain) (change_pool i (left_by t d) s) (λ x at. has_joined j.0 d domain x) (each_change i (left_by t d) s (λ x at. has_left i d x) each)))))

  -- each action: a core that is moved comes to its target
  each_after : (s : State) (action : Action) → is_action_enabled m s t action ≡ true → ((r : ℕ) (c : FreeCore) (i : ℕ) → action ≡ Moved (core_number r) → at_place s.free r ≡ Some c → c.target ≡ Some i → C i r) → EachHas s → EachHas (after m s t action)
  each_after s Stall on comes each = each_stall (slice_get m.work.stalls s.next_stall) s each
  each_after s Xl on comes each = by_option EachHas (slice_get m.work.commands s.next_command) _ _ (λ is. each) (λ line is. each_command line s each)
  each_after s (Moved r) on comes each = each_moved r.0 s (λ c i. comes r.0 c i refl) each
  each_after s (DomMoved d) on comes each = each_dom_moved d.0 s each
  each_after s action on comes each = each_at s action (home_pool_of_action g s action) on each

-- whether the pool has the core, and its records pass the test
abbrev pub counts : (Records → Bool) → ℕ → Pool → Bool
counts test r pool = test pool.scheduler.records && is_some (at_place pool.resources r)

abbrev pub Counted : (Records → Bool) → State → ℕ → ℕ → Type 0
Counted test s i r = test_at s.pools i (counts test r) ≡ true

-- the free core is to join the pool i
pub record Aims (s : State) (r i : ℕ) : Type 0 where
  pub core : FreeCore
  pub at : at_place s.free r ≡ Some core
  pub target : core.target ≡ Some i

-- the action moves the free core to the pool i
pub record Comes (s : State) (action : Action) (i r : ℕ) : Type 0 where
  pub moves : action ≡ Moved (core_number r)
  pub aims : Aims s r i

-- the core that a counted one is
pub counted_core : (test : Records → Bool) (s : State) (i r : ℕ) → Counted test s i r → (pool : Pool) × (c : Resource) × (at_place s.pools i ≡ Some pool) × (at_place pool.resources r ≡ Some c) × (test pool.scheduler.records ≡ true)
counted_core test s i r counted =
    let p = some-test_at s.pools i (counts test r) counted in
    let c = some_is (at_place p.0.resources r) (and_right (test p.0.scheduler.records) _ p.2) in
    (p.0, c.0, p.1, c.1, and_left (test p.0.scheduler.records) _ p.2)

pub core_counted : (test : Records → Bool) (s : State) (i r : ℕ) (pool : Pool) (c : Resource) → at_place s.pools i ≡ Some pool → at_place pool.resources r ≡ Some c → test pool.scheduler.records ≡ true → Counted test s i r
core_counted test s i r pool c at has passes = test_at-some s.pools i (counts test r) pool at (and_from (test pool.scheduler.records) _ passes (is_some_at (at_place pool.resources r) c has))

-- a core that is counted after an action was counted before it, or came
pub counted_after : (m : Machine) (t : ℕ) (test : Records → Bool) → IsKeptTest t test → (s : State) (action : Action) → is_action_enabled m s t action ≡ true → (i r : ℕ) → Counted test (after m s t action) i r → Counted test s i r ⊎ Comes s action i r
counted_after m t test kept s action on i r counted =
    let C : ℕ → ℕ → Type 0 = λ j q. Counted test s j q ⊎ Comes s action j q in
    let now = counted_core test (after m s t action) i r counted in
    let each = each_after m t test kept C s action on (λ q c j moves at target. inr (record { moves = moves; aims = record { core = c; at = at; target = target } }))
    (λ j pool at. record { cores = λ q c has passes. inl (core_counted test s j q pool c at has passes) }) in
    (each i now.0 now.2).cores r now.1 now.3 now.4
