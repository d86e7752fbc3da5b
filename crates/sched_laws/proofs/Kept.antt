-- From what each step keeps in one pool to what each enabled action keeps in every pool.
use Rattle.std.proofs.Common.{◌≡◌, ℕ, suc, Bool, true, false, List, [], ◌∷◌}
use Rattle.std.specs.Prelude.{Option, Some, None, Ok, Err, ◌==◌, ◌/◌, unwrap_or, slice_get, is_some, length}
use Rattle.sched_base.specs.Numbers.{moment, span, core as core_number, domain as domain_number}
use Rattle.sched_base.specs.declared.Moment.{Moment}
use Rattle.sched_base.specs.declared.Span.{Span}
use Rattle.sched_model.specs.declared.config.Config.{Config}
use Rattle.sched_model.specs.declared.config.DomParams.{DomParams}
use Rattle.sched_model.specs.declared.config.PoolParams.{PoolParams}
use Rattle.sched_model.specs.declared.config.ParamChange.{ParamChange}
use Rattle.sched_model.specs.declared.state.Domain.{Domain}
use Rattle.sched_model.specs.declared.state.Resource.{Resource}
use Rattle.sched_model.specs.declared.plan.Plan.{Plan}
use Rattle.sched_model.specs.declared.plan.Plan.TheVariants as plan
use Rattle.sched_model.specs.Places.{at_place, put_at, clear_at, test_at, numbers_from}
use Rattle.sched_model.specs.declared.machine.Machine.{Machine}
use Rattle.sched_model.specs.declared.state.State.{State}
use Rattle.sched_model.specs.declared.state.Pool.{Pool}
use Rattle.sched_model.specs.Opening.{joined_core, fresh_pool, machine_core_count}
use Rattle.sched_model.specs.declared.action.Action.{Action}
use Rattle.sched_model.specs.Pool.{enabled_in, after_in, settled_pool, change_processor, pool_with_leaving, pool_with_moving, paused_pool, unpaused_pool, changed_pool, pool_without_domain, pool_with_domain}
use Rattle.sched_model.specs.declared.action.Action.TheVariants.{Stall, Xl, Moved, DomMoved}
use Rattle.sched_model.specs.Actions.{home_pool_of_action, home_pool_of_core, home_pool_of_domain, change_pool}
use Rattle.sched_model.specs.Commands.{carried_out, change_home, pool_with_rtds, pool_with_rtds_unit, plan_pool}
use Rattle.sched_model.specs.Policy.{unit_rtds_record, standard_pool_params}
use Rattle.sched_base.specs.declared.UnitId.{UnitId}
use Rattle.sched_base.specs.Numbers.{domain as domain_number}
use Rattle.sched_model.specs.declared.config.ParamChange.TheVariants as changes
use Rattle.sched_model.specs.declared.work.CommandLine.{CommandLine}
use Rattle.sched_model.specs.declared.work.StallLine.{StallLine}
use Rattle.sched_model.specs.Machine.{is_action_enabled, after, after_at_home, after_stall, after_command, state_with_stall, line_verdict, settled_at}
use Rattle.sched_laws.specs.StateLaws.{has_core_at, has_domain_at, MovesNothing}
use Rattle.sched_laws.specs.EachPlace.{EachAt, EachPlace}
use Rattle.sched_laws.proofs.EachPlace.{EachAt-change_at, EachAt-put_at, EachAt-clear_at, by_option, by_cond}

-- a core that has just joined
abbrev pub IsFresh : Resource → Type 0
IsFresh c = (ends : List Moment) × (c ≡ joined_core ends)

-- kept by each step inside of a pool
pub record IsKeptInside (g : ℕ) (I : Pool → Type 0) : Type 0 where
  pub settles : (t : ℕ) (pool : Pool) → I pool → I (settled_pool t pool)
  pub stalls : (p end : ℕ) (pool : Pool) → I pool → I (change_processor g p (λ q. record q { stall_end = moment end }) pool)
  pub acts : (t : ℕ) (pool : Pool) (action : Action) → enabled_in g t pool action ≡ true → I pool → I (after_in g t pool action)
  pub leaves : (r : ℕ) (pool : Pool) → I pool → I (pool_with_leaving r pool)
  pub moves : (d i : ℕ) (pool : Pool) → I pool → I (pool_with_moving d i pool)
  pub pauses : (d : ℕ) (pool : Pool) → I pool → I (paused_pool d pool)
  pub unpauses : (d : ℕ) (pool : Pool) → I pool → I (unpaused_pool g d pool)
  pub changes : (change : ParamChange) (t : ℕ) (pool : Pool) → I pool → I (changed_pool change t pool)

-- kept where cores and domains come and go, and true of every pool without them
pub record IsKept (g : ℕ) (I : Pool → Type 0) : Type 0 where
  pub inside : IsKeptInside g I
  pub core_comes : (r : ℕ) (ends : List Moment) (pool : Pool) → at_place pool.resources r ≡ None → I pool → I (record pool { resources = put_at r (joined_core ends) pool.resources })
  pub core_goes : (t r : ℕ) (pool : Pool) → enabled_in g t pool (Moved (core_number r)) ≡ true → I pool → I (record pool { resources = clear_at r pool.resources })
  pub domain_comes : (t d : ℕ) (domain : Domain) (params : DomParams) (pool : Pool) → domain.moving ≡ None → at_place pool.domains d ≡ None → I pool → I (pool_with_domain g t d domain params pool)
  pub domain_goes : (t d : ℕ) (pool : Pool) → enabled_in g t pool (DomMoved (domain_number d)) ≡ true → I pool → I (pool_without_domain d pool)
  pub empty : (config : Config) (params : PoolParams) → I (fresh_pool config params)
  pub opens : (config : Config) (params : PoolParams) (cores : List (Option Resource)) → length cores ≡ machine_core_count config → EachPlace IsFresh cores → I (record (fresh_pool config params) { resources = cores })

-- no core and no domain is in two pools, and no free core is in one
pub record IsApart (s : State) : Type 0 where
  pub cores : (i j r : ℕ) → has_core_at s i r ≡ true → has_core_at s j r ≡ true → i ≡ j
  pub domains : (i j d : ℕ) → has_domain_at s i d ≡ true → has_domain_at s j d ≡ true → i ≡ j
  pub free : (i r : ℕ) → is_some (at_place s.free r) ≡ true → has_core_at s i r ≡ true → ⊥

-- what passes the test at a place
pub passes_at : {X : Type 0} (places : List (Option X)) (i : ℕ) (test : X → Bool) (x : X) → at_place places i ≡ Some x → test_at places i test ≡ true → test x ≡ true
passes_at places i test x at passes = rw (at, test_at) at passes

module _ (g : ℕ) (I : ℕ → Pool → Type 0) (kept : (i : ℕ) → IsKeptInside g (I i)) where
  -- one pool changed
  pub kept_change : (i : ℕ) (f : Pool → Pool) (s : State) → ((pool : Pool) → at_place s.pools i ≡ Some pool → I i pool → I i (f pool)) → EachAt I s.pools → EachAt I (change_pool i f s).pools
  kept_change i f s here each = EachAt-change_at I i f s.pools each here

  -- an event in its home
  kept_at : (s : State) (t : ℕ) (action : Action) (home : Option ℕ) → elim home [ None ↦ false | Some i ↦ test_at s.pools i (λ pool. enabled_in g t pool action) ] ≡ true
      → EachAt I s.pools → EachAt I (elim home as (λ _. State) [ None ↦ s | Some i ↦ change_pool i (λ pool. settled_pool t (after_in g t pool action)) s ]).pools
  kept_at s t action None on each = each
  kept_at s t action (Some i) on each =
      kept_change i (λ pool. settled_pool t (after_in g t pool action)) s (λ pool at here. (kept i).settles t _ ((kept i).acts t pool action (passes_at s.pools i (λ p. enabled_in g t p action) pool at on) here)) each

  pub kept_at_home : (s : State) (t : ℕ) (action : Action) → elim (home_pool_of_action g s action) [ None ↦ false | Some i ↦ test_at s.pools i (λ pool. enabled_in g t pool action) ] ≡ true
      → EachAt I s.pools → EachAt I (after_at_home g s t action).pools
  kept_at_home s t action on each = kept_at s t action (home_pool_of_action g s action) on each

  -- a stall
  pub kept_stalled : (p end : ℕ) (s : State) → EachAt I s.pools → EachAt I (state_with_stall g p end s).pools
  kept_stalled p end s each =
      by_option (λ (next : State). EachAt I next.pools) (home_pool_of_core s (p / g)) _ _
      (λ is. each)
      (λ i is. kept_change i (change_processor g p (λ q. record q { stall_end = moment end })) s (λ pool at here. (kept i).stalls p end pool here) each)

  -- a command that changes the home of a domain
  pub kept_change_home : (d : ℕ) (f : Pool → Pool) (s : State) → ((i : ℕ) (pool : Pool) → I i pool → I i (f pool)) → EachAt I s.pools → EachAt I (change_home d f s).pools
  kept_change_home d f s keeps each =
      by_option (λ (next : State). EachAt I next.pools) (home_pool_of_domain s d) _ _ (λ is. each) (λ i is. kept_change i f s (λ pool at. keeps i pool) each)

  pub kept_settled_at : (t : ℕ) (home : Option ℕ) (s : State) → EachAt I s.pools → EachAt I (settled_at t home s).pools
  kept_settled_at t None s each = each
  kept_settled_at t (Some i) s each = kept_change i (settled_pool t) s (λ pool at. (kept i).settles t pool) each

  kept_set_rtds_unit : (i t : ℕ) (period budget : Option Span) (extra : Option Bool) (u : UnitId) (pool : Pool) → I i pool → I i (pool_with_rtds_unit t period budget extra u pool)
  kept_set_rtds_unit i t period budget extra u pool here = by_option (I i) (unit_rtds_record pool.scheduler.records u) _ _ (λ is. here) (λ x is. (kept i).changes (changes.«Unit» u (unwrap_or period (span x.next_period)) (unwrap_or budget (span x.next_budget)) (unwrap_or extra x.next_extra)) t pool here)

  kept_set_rtds : (i t d : ℕ) (period budget : Option Span) (extra : Option Bool) (units : List ℕ) (pool : Pool) → I i pool → I i (pool_with_rtds t d period budget extra units pool)
  kept_set_rtds i t d period budget extra [] pool here = here
  kept_set_rtds i t d period budget extra (n ∷ ns) pool here =
      kept_set_rtds i t d period budget extra ns _ (kept_set_rtds_unit i t period budget extra (record { dom = domain_number d; n = n }) pool here)

module _ (m : Machine) (I : ℕ → Pool → Type 0) (kept : (i : ℕ) → IsKeptInside m.config.granularity (I i)) (empty : (i : ℕ) (config : Config) (params : PoolParams) → I i (fresh_pool config params)) where
  -- an accepted command
  pub kept_carried_out : (t : ℕ) (p : Plan) (s : State) → EachAt I s.pools → EachAt I (carried_out m t p s).pools
  kept_carried_out t (plan.PoolCreate i name kind answer) s each = EachAt-put_at I i.0 _ s.pools each (empty i.0 m.config (standard_pool_params kind))
  kept_carried_out t (plan.PoolDestroy i answer) s each = EachAt-clear_at I i.0 s.pools each
  kept_carried_out t (plan.CpuRemove i core answer) s each = kept_change m.config.granularity I kept i.0 (pool_with_leaving core.0) s (λ pool at. (kept i.0).leaves core.0 pool) each
  kept_carried_out t (plan.Migrate d i j answer) s each =
      by_cond (λ (next : State). EachAt I next.pools) (i.0 == j.0) s _ (λ is. each) (λ is. kept_change m.config.granularity I kept i.0 (pool_with_moving d.0 j.0) s (λ pool at. (kept i.0).moves d.0 j.0 pool) each)
  kept_carried_out t (plan.Credit2Dom d weight cap answer) s each = kept_change_home m.config.granularity I kept d.0 (changed_pool (changes.Dom d weight cap) t) s (λ i. (kept i).changes (changes.Dom d weight cap) t) each
  kept_carried_out t (plan.Credit2Pool i (Some us) answer) s each = kept_change m.config.granularity I kept i.0 (changed_pool (changes.Rate us) t) s (λ pool at. (kept i.0).changes (changes.Rate us) t pool) each
  kept_carried_out t (plan.RtdsDom d first count period budget extra answer) s each =
      kept_change_home m.config.granularity I kept d.0 _ s (λ i. kept_set_rtds m.config.granularity I kept i t d.0 period budget extra (numbers_from first count)) each
  kept_carried_out t (plan.Pause d answer) s each = kept_change_home m.config.granularity I kept d.0 (paused_pool d.0) s (λ i. (kept i).pauses d.0) each
  kept_carried_out t (plan.Unpause d answer) s each = kept_change_home m.config.granularity I kept d.0 (unpaused_pool m.config.granularity d.0) s (λ i. (kept i).unpauses d.0) each
  kept_carried_out t (plan.ArincSet i frame answer) s each = kept_change m.config.granularity I kept i.0 (changed_pool (changes.Frame frame) t) s (λ pool at. (kept i.0).changes (changes.Frame frame) t pool) each
  kept_carried_out t (plan.Pin d unit cores answer) s each = kept_change_home m.config.granularity I kept d.0 (changed_pool (changes.Pin d unit cores) t) s (λ i. (kept i).changes (changes.Pin d unit cores) t) each
  kept_carried_out t p s each = each

  pub kept_command : (t : ℕ) (line : CommandLine) (s : State) → EachAt I s.pools → EachAt I (after_command m t line s).pools
  kept_command t line s each =
      elim (line_verdict m s line) as (λ v. EachAt I (elim v as (λ _. State) [ Err fault ↦ record s { next_command = suc s.next_command } | Ok plan ↦ settled_at t (plan_pool s plan) (carried_out m t plan (record s { next_command = suc s.next_command })) ]).pools) [
        | Err fault ↦ each
        | Ok p ↦ kept_settled_at m.config.granularity I kept t (plan_pool s p) _ (kept_carried_out t p (record s { next_command = suc s.next_command }) each)
      ]

  pub kept_stall : (t : ℕ) (line : Option StallLine) (s : State) → EachAt I s.pools → EachAt I (elim line as (λ _. State) [ None ↦ s | Some l ↦ after_stall m.config.granularity t l s ]).pools
  kept_stall t None s each = each
  kept_stall t (Some l) s each = kept_stalled m.config.granularity I kept l.cpu.0 _ s each

  -- an action after which each pool has the cores and domains that it had
  pub kept_staying : (s : State) (t : ℕ) (action : Action) → MovesNothing action → is_action_enabled m s t action ≡ true → EachAt I s.pools → EachAt I (after m s t action).pools
  kept_staying s t Stall stays on each = kept_stall t (slice_get m.work.stalls s.next_stall) s each
  kept_staying s t Xl stays on each = by_option (λ (next : State). EachAt I next.pools) (slice_get m.work.commands s.next_command) _ _ (λ is. each) (λ line is. kept_command t line s each)
  kept_staying s t (Moved r) stays on each = absurd stays
  kept_staying s t (DomMoved d) stays on each = absurd stays
  kept_staying s t action stays on each = kept_at_home m.config.granularity I kept s t action on each
