-- What holds of each pool after an action, where looking at the cores of a pool makes more of what each step keeps.
use Rattle.std.proofs.Common.{◌≡◌, ◌≢◌, ℕ, suc, Bool, true, false, List, [], ◌∷◌, refl, arith, subst, inl, inr, ap, sym, zero, ◌⊎◌, ◌∙◌}
use Rattle.std.specs.Prelude.{unwrap_or, Option, Some, None, Ok, Err, ◌==◌, ◌/◌, slice_get, is_some, map, ◌+◌}
use Rattle.sched_base.specs.Numbers.{moment, span, domain as domain_number, core as core_number}
use Rattle.sched_base.specs.declared.Moment.{Moment}
use Rattle.sched_base.specs.declared.Span.{Span}
use Rattle.sched_base.specs.declared.UnitId.{UnitId}
use Rattle.sched_model.specs.declared.config.SchedKind.{SchedKind}
use Rattle.sched_model.specs.declared.config.ParamChange.{ParamChange}
use Rattle.sched_model.specs.declared.config.ParamChange.TheVariants as changes
use Rattle.sched_model.specs.declared.state.Domain.{Domain}
use Rattle.sched_model.specs.declared.plan.Plan.{Plan}
use Rattle.sched_model.specs.declared.plan.Plan.TheVariants as plan
use Rattle.sched_model.specs.declared.work.CommandLine.{CommandLine}
use Rattle.sched_model.specs.declared.work.StallLine.{StallLine}
use Rattle.sched_model.specs.Places.{at_place, put_at, clear_at, test_at, numbers_from, change_item}
use Rattle.sched_model.specs.declared.machine.Machine.{Machine}
use Rattle.sched_model.specs.declared.state.State.{State}
use Rattle.sched_model.specs.declared.state.Pool.{Pool}
use Rattle.sched_model.specs.declared.state.FreeCore.{FreeCore}
use Rattle.sched_model.specs.Opening.{joined_core, fresh_pool}
use Rattle.sched_model.specs.Policy.{unit_rtds_record, standard_pool_params, standard_dom_params}
use Rattle.sched_model.specs.declared.action.Action.{Action}
use Rattle.sched_model.specs.Pool.{enabled_in, after_in, settled_pool, change_processor, pool_with_leaving, pool_with_moving, paused_pool, unpaused_pool, changed_pool, pool_without_domain, pool_with_domain}
use Rattle.sched_model.specs.declared.action.Action.TheVariants.{Stall, Xl, Moved, DomMoved}
use Rattle.sched_model.specs.Actions.{home_pool_of_action, home_pool_of_core, home_pool_of_domain, change_pool}
use Rattle.sched_model.specs.Commands.{carried_out, pool_with_rtds, pool_with_rtds_unit, plan_pool, rtds_units}
use Rattle.sched_model.specs.Machine.{is_action_enabled, after, after_stall, after_command, state_after_moved, line_verdict, settled_at, with_core_in, without_core_in, left_by, joined_by, is_null_pool, later_stall_end}
use Rattle.sched_laws.specs.EachPlace.{EachAt, EachPlace}
use Rattle.sched_laws.proofs.EachPlace.{EachAt-change_at, EachAt-change_to, EachAt-put_at, EachAt-clear_at, read_change_at, at_place-clear_at, is_empty, by_option, by_cond}
use Rattle.sched_laws.proofs.Lists.{test_at-some, is_some_at, get_later}
use Rattle.sched_laws.proofs.Kept.{IsApart, IsKept, passes_at}
use Rattle.sched_laws.proofs.Judged.{Fits, verdict_fits_next}
use Rattle.sched_laws.proofs.Fits.{ChangeFits, RtdsFits}
use Rattle.sched_model.specs.declared.state.Records.{Records}
use Rattle.sched_model.specs.declared.state.RtdsUnit.{RtdsUnit}
use Rattle.sched_model.specs.declared.state.Processor.{Processor}
use Rattle.sched_model.specs.declared.state.Records.TheVariants.{RtdsPool}
use Rattle.sched_model.specs.declared.state.Resource.{Resource}

-- of what is known of the pools before, B, each step leaves the weaker fact H, and looking at the cores makes the fact I of it, which B says too. The moment is t;
-- End is what is known of the end of a stall, Ends of the ends of a free core, Comes of a domain that comes, and Acts of the events of pools
pub record IsKeptTo (m : Machine) (t : ℕ) (End : ℕ → Type 0) (Ends : List Moment → Type 0) (Comes : ℕ → Domain → Type 0) (Acts : Action → Type 0) (B I H : Pool → Type 0) : Type 0 where
  pub stays : (pool : Pool) → B pool → I pool
  pub weakens : (pool : Pool) → I pool → H pool
  pub settles : (pool : Pool) → H pool → I (settled_pool t pool)
  pub stalls : (p end : ℕ) (pool : Pool) → End end → B pool → I (change_processor m.config.granularity p (λ q. record q { stall_end = moment end }) pool)
  pub acts : (pool : Pool) (action : Action) → Acts action → enabled_in m.config.granularity t pool action ≡ true → B pool → H (after_in m.config.granularity t pool action)
  pub leaves : (r : ℕ) (pool : Pool) → H pool → H (pool_with_leaving r pool)
  pub moves : (d i : ℕ) (pool : Pool) → H pool → H (pool_with_moving d i pool)
  pub pauses : (d : ℕ) (pool : Pool) → H pool → H (paused_pool d pool)
  pub unpauses : (d : ℕ) (pool : Pool) → H pool → H (unpaused_pool m.config.granularity d pool)
  pub changes : (change : ParamChange) (pool : Pool) → ChangeFits change → B pool → H (changed_pool change t pool)
  pub core_comes : (r : ℕ) (ends : List Moment) (pool : Pool) → at_place pool.resources r ≡ None → Ends ends → B pool → H (record pool { resources = put_at r (joined_core ends) pool.resources })
  pub rtds : (period budget : Option Span) (extra : Option Bool) (u : UnitId) (pool : Pool) → RtdsFits period budget → H pool → H (pool_with_rtds_unit t period budget extra u pool)
  pub ends_stall : (k end : ℕ) (ends : List Moment) → End end → Ends ends → Ends (change_item k (λ old. moment end) ends)
  pub ends_go : (r : ℕ) (c : Resource) (pool : Pool) → at_place pool.resources r ≡ Some c → B pool → Ends (map (λ (p : Processor). p.stall_end) c.processors)
  pub core_goes : (r : ℕ) (pool : Pool) → enabled_in m.config.granularity t pool (Moved (core_number r)) ≡ true → B pool → H (record pool { resources = clear_at r pool.resources })
  pub domain_is : (d : ℕ) (domain : Domain) (pool : Pool) → at_place pool.domains d ≡ Some domain → B pool → Comes d (record domain { moving = None })
  pub domain_comes : (d : ℕ) (domain : Domain) (pool : Pool) → domain.moving ≡ None → at_place pool.domains d ≡ None → Comes d domain → H pool → H (pool_with_domain m.config.granularity t d domain (standard_dom_params pool.scheduler.records) pool)
  pub domain_goes : (d : ℕ) (pool : Pool) → enabled_in m.config.granularity t pool (DomMoved (domain_number d)) ≡ true → B pool → H (pool_without_domain d pool)
  pub domain_leaves : (d : ℕ) (pool : Pool) → is_null_pool pool.scheduler.records ≡ false → enabled_in m.config.granularity t pool (DomMoved (domain_number d)) ≡ true → B pool → I (pool_without_domain d pool)
  pub empty : (kind : SchedKind) → I (fresh_pool m.config (standard_pool_params kind))

-- the same, where the fact I is known of the pools before, and of all events
abbrev pub IsKeptAt : (m : Machine) → ℕ → (ℕ → Type 0) → (List Moment → Type 0) → (ℕ → Domain → Type 0) → (Pool → Type 0) → (Pool → Type 0) → Type 0
IsKeptAt m t End Ends Comes I H = IsKeptTo m t End Ends Comes (λ action. Unit {0}) I I H

-- what is known of the ends of each free core
abbrev pub FreeFits : (List Moment → Type 0) → State → Type 0
FreeFits Ends s = EachPlace (λ (c : FreeCore). Ends c.stall_ends) s.free

module _ {m : Machine} {t : ℕ} {End : ℕ → Type 0} {Ends : List Moment → Type 0} {Comes : ℕ → Domain → Type 0} {Acts : Action → Type 0} {B I H : Pool → Type 0} (kept : IsKeptTo m t End Ends Comes Acts B I H) where
  -- what is known of the end of the next stall
  abbrev pub NextEnds : State → Type 0
  NextEnds s = (l : StallLine) → slice_get m.work.stalls s.next_stall ≡ Some l → End (later_stall_end m.config.granularity s l.cpu.0 (t + l.span.0))

  -- the stronger fact of all pools but the pool i
  abbrev Half : ℕ → ℕ → Pool → Type 0
  Half i j pool = H pool × (j ≢ i → I pool)

  -- what is known before, of a pool and of all pools
  lessens : (pool : Pool) → B pool → H pool
  lessens pool here = kept.weakens pool (kept.stays pool here)

  stay : (s : State) → EachPlace B s.pools → EachPlace I s.pools
  stay s each i pool at = kept.stays pool (each i pool at)

  step_change : (i : ℕ) (f : Pool → Pool) (s : State) → ((pool : Pool) → at_place s.pools i ≡ Some pool → B pool → I (f pool)) → EachPlace B s.pools → EachPlace I (change_pool i f s).pools
  step_change i f s keeps each = EachAt-change_to (λ j. B) (λ j. I) i f s.pools each (λ j pool other here. kept.stays pool here) keeps

  step_at : (s : State) (action : Action) (home : Option ℕ) → Acts action → elim home [ None ↦ false | Some i ↦ test_at s.pools i (λ pool. enabled_in m.config.granularity t pool action) ] ≡ true
      → EachPlace B s.pools → EachPlace I (elim home as (λ _. State) [ None ↦ s | Some i ↦ change_pool i (λ pool. settled_pool t (after_in m.config.granularity t pool action)) s ]).pools
  step_at s action None of on each = stay s each
  step_at s action (Some i) of on each =
      step_change i (λ pool. settled_pool t (after_in m.config.granularity t pool action)) s
      (λ pool at here. kept.settles (after_in m.config.granularity t pool action) (kept.acts pool action of (passes_at s.pools i (λ p. enabled_in m.config.granularity t p action) pool at on) here)) each

  half_all : (i : ℕ) (pools : List (Option Pool)) → EachPlace I pools → EachAt (Half i) pools
  half_all i pools each j pool at = (kept.weakens pool (each j pool at), λ e. each j pool at)

  half_change : (i : ℕ) (f : Pool → Pool) (s : State) → ((pool : Pool) → at_place s.pools i ≡ Some pool → B pool → H (f pool)) → EachPlace B s.pools → EachAt (Half i) (change_pool i f s).pools
  half_change i f s keeps each =
      EachAt-change_to (λ j. B) (Half i) i f s.pools each (λ j pool other here. (lessens pool here, λ e. kept.stays pool here)) (λ pool at here. (keeps pool at here, λ e. absurd (e refl)))

  settle_half : (i : ℕ) (s : State) → EachAt (Half i) s.pools → EachPlace I (change_pool i (settled_pool t) s).pools
  settle_half i s half = EachAt-change_to (Half i) (λ j. I) i (settled_pool t) s.pools half (λ j pool other here. here.1 other) (λ pool at here. kept.settles pool here.0)

  settle_home : (home : Option ℕ) (f : Pool → Pool) (s : State) → ((i : ℕ) (pool : Pool) → home ≡ Some i → at_place s.pools i ≡ Some pool → B pool → H (f pool)) → EachPlace B s.pools → EachPlace I (settled_at t home (elim home as (λ _. State) [ None ↦ s | Some i ↦ change_pool i f s ])).pools
  settle_home None f s keeps each = stay s each
  settle_home (Some i) f s keeps each = settle_half i (change_pool i f s) (half_change i f s (λ pool at. keeps i pool refl at) each)

  half_rtds : (d : ℕ) (period budget : Option Span) (extra : Option Bool) (units : List ℕ) (pool : Pool) → RtdsFits period budget → H pool → H (pool_with_rtds t d period budget extra units pool)
  half_rtds d period budget extra [] pool good here = here
  half_rtds d period budget extra (n ∷ ns) pool good here = half_rtds d period budget extra ns _ good (kept.rtds period budget extra (record { dom = domain_number d; n = n }) pool good here)

  -- a domain without records of RTDS
  rtds_later : (records : Records) (d n : ℕ) → unit_rtds_record records (record { dom = domain_number d; n = n }) ≡ None → unit_rtds_record records (record { dom = domain_number d; n = suc n }) ≡ None
  rtds_later (RtdsPool domains) d n none = by_units (at_place domains d) none
    where
      by_units : (o : Option (List RtdsUnit)) → elim o as (λ _. Option RtdsUnit) [ None ↦ None | Some units ↦ slice_get units n ] ≡ None → elim o as (λ _. Option RtdsUnit) [ None ↦ None | Some units ↦ slice_get units (suc n) ] ≡ None
      by_units None is = refl
      by_units (Some units) is = get_later units n is
  rtds_later any d n none = refl

  rtds_none : (d : ℕ) (period budget : Option Span) (extra : Option Bool) (first count : ℕ) (pool : Pool) → unit_rtds_record pool.scheduler.records (record { dom = domain_number d; n = first }) ≡ None → pool_with_rtds t d period budget extra (numbers_from first count) pool ≡ pool
  rtds_none d period budget extra first zero pool none = refl
  rtds_none d period budget extra first (suc count) pool none =
      let same : pool_with_rtds_unit t period budget extra (record { dom = domain_number d; n = first }) pool ≡ pool = by_option (λ (p : Pool). p ≡ pool) (unit_rtds_record pool.scheduler.records (record { dom = domain_number d; n = first })) _ _ (λ is. refl) (λ x is. absurd (cc)) in
      ap (λ (p : Pool). pool_with_rtds t d period budget extra (numbers_from (suc first) count) p) same ∙ rtds_none d period budget extra (suc first) count pool (rtds_later pool.scheduler.records d first none)

  rtds_empty : (d first count : ℕ) (pool : Pool) → rtds_units pool d first (suc count) ≡ [] → unit_rtds_record pool.scheduler.records (record { dom = domain_number d; n = first }) ≡ None
  rtds_empty d first count pool = by_option (λ (xs : List RtdsUnit). xs ≡ [] → unit_rtds_record pool.scheduler.records (record { dom = domain_number d; n = first }) ≡ None) (unit_rtds_record pool.scheduler.records (record { dom = domain_number d; n = first })) _ _ (λ is none. is) (λ x is none. absurd (cc))

  half_set_rtds : (d : ℕ) (period budget : Option Span) (extra : Option Bool) (first count : ℕ) (pool : Pool) → RtdsFits period budget ⊎ (rtds_units pool d first count ≡ []) → H pool → H (pool_with_rtds t d period budget extra (numbers_from first count) pool)
  half_set_rtds d period budget extra first count pool (inl good) here = half_rtds d period budget extra (numbers_from first count) pool good here
  half_set_rtds d period budget extra first zero pool (inr none) here = here
  half_set_rtds d period budget extra first (suc count) pool (inr none) here = subst H (sym (rtds_none d period budget extra first (suc count) pool (rtds_empty d first count pool none))) here

  step_plan : (p : Plan) (s : State) → Fits s p → EachPlace B s.pools → EachPlace I (settled_at t (plan_pool s p) (carried_out m t p s)).pools
  step_plan (plan.PoolList None answer) s good each = stay s each
  step_plan (plan.PoolList (Some i) answer) s good each = settle_half i.0 s (half_all i.0 s.pools (stay s each))
  step_plan (plan.PoolCreate i name kind answer) s good each =
      settle_half i.0 (carried_out m t (plan.PoolCreate i name kind answer) s) (half_all i.0 _ (EachAt-put_at (λ j. I) i.0 (fresh_pool m.config (standard_pool_params kind)) s.pools (stay s each) (kept.empty kind)))
  step_plan (plan.PoolDestroy i answer) s good each = settle_half i.0 (carried_out m t (plan.PoolDestroy i answer) s) (half_all i.0 _ (EachAt-clear_at (λ j. I) i.0 s.pools (stay s each)))
  step_plan (plan.PoolRename i name answer) s good each = settle_half i.0 (carried_out m t (plan.PoolRename i name answer) s) (half_all i.0 s.pools (stay s each))
  step_plan (plan.CpuAdd i core answer) s good each = settle_half i.0 (carried_out m t (plan.CpuAdd i core answer) s) (half_all i.0 s.pools (stay s each))
  step_plan (plan.CpuRemove i core answer) s good each = settle_half i.0 (change_pool i.0 (pool_with_leaving core.0) s) (half_change i.0 (pool_with_leaving core.0) s (λ pool at here. kept.leaves core.0 pool (lessens pool here)) each)
  step_plan (plan.Migrate d i j answer) s good each =
      by_cond (λ (next : State). EachPlace I (change_pool i.0 (settled_pool t) next).pools) (i.0 == j.0) s (change_pool i.0 (pool_with_moving d.0 j.0) s)
      (λ is. settle_half i.0 s (half_all i.0 s.pools (stay s each))) (λ is. settle_half i.0 (change_pool i.0 (pool_with_moving d.0 j.0) s) (half_change i.0 (pool_with_moving d.0 j.0) s (λ pool at here. kept.moves d.0 j.0 pool (lessens pool here)) each))
  step_plan (plan.Credit2Dom d weight percent answer) s good each = settle_home (home_pool_of_domain s d.0) (changed_pool (changes.Dom d weight percent) t) s (λ i pool is at. kept.changes (changes.Dom d weight percent) pool good.0) each
  step_plan (plan.Credit2Pool i None answer) s good each = settle_half i.0 s (half_all i.0 s.pools (stay s each))
  step_plan (plan.Credit2Pool i (Some us) answer) s good each = settle_half i.0 (change_pool i.0 (changed_pool (changes.Rate us) t) s) (half_change i.0 (changed_pool (changes.Rate us) t) s (λ pool at. kept.changes (changes.Rate us) pool good) each)
  step_plan (plan.RtdsDom d first count period budget extra answer) s good each = settle_home (home_pool_of_domain s d.0) (pool_with_rtds t d.0 period budget extra (numbers_from first count)) s (λ i pool is at here. half_set_rtds d.0 period budget extra first count pool (good i pool is at) (lessens pool here)) each
  step_plan (plan.Pause d answer) s good each = settle_home (home_pool_of_domain s d.0) (paused_pool d.0) s (λ i pool is at here. kept.pauses d.0 pool (lessens pool here)) each
  step_plan (plan.Unpause d answer) s good each = settle_home (home_pool_of_domain s d.0) (unpaused_pool m.config.granularity d.0) s (λ i pool is at here. kept.unpauses d.0 pool (lessens pool here)) each
  step_plan (plan.ArincSet i frame answer) s good each = settle_half i.0 (change_pool i.0 (changed_pool (changes.Frame frame) t) s) (half_change i.0 (changed_pool (changes.Frame frame) t) s (λ pool at. kept.changes (changes.Frame frame) pool good) each)
  step_plan (plan.Pin d unit cores answer) s good each = settle_home (home_pool_of_domain s d.0) (changed_pool (changes.Pin d unit cores) t) s (λ i pool is at. kept.changes (changes.Pin d unit cores) pool tt) each

  same_home : (s : State) (k : ℕ) (p : Plan) → plan_pool (record s { next_command = k }) p ≡ plan_pool s p
  same_home s k (plan.PoolList pool answer) = refl
  same_home s k p = refl

  step_command : (line : CommandLine) (s : State) → EachPlace B s.pools → EachPlace I (after_command m t line s).pools
  step_command line s each =
      elim (line_verdict m s line) as (λ v. line_verdict m s line ≡ v → EachPlace I (elim v as (λ _. State) [ Err fault ↦ record s { next_command = suc s.next_command } | Ok p ↦ settled_at t (plan_pool s p) (carried_out m t p (record s { next_command = suc s.next_command })) ]).pools) [
        | Err fault ↦ λ is. stay s each
        | Ok p ↦ λ is. subst (λ (home : Option ℕ). EachPlace I (settled_at t home (carried_out m t p (record s { next_command = suc s.next_command }))).pools) (same_home s (suc s.next_command) p) (step_plan p (record s { next_command = suc s.next_command }) (verdict_fits_next m s line (suc s.next_command) p is) each)
      ] refl

  step_stall : (line : Option StallLine) (s : State) → ((l : StallLine) → line ≡ Some l → End (later_stall_end m.config.granularity s l.cpu.0 (t + l.span.0))) → EachPlace B s.pools
      → EachPlace I (elim line as (λ _. State) [ None ↦ s | Some l ↦ after_stall m.config.granularity t l s ]).pools
  step_stall None s ends each = stay s each
  step_stall (Some l) s ends each =
      by_option (λ (next : State). EachPlace I next.pools) (home_pool_of_core s (l.cpu.0 / m.config.granularity)) _ _ (λ is. stay s each)
      (λ j is. step_change j _ s (λ pool at here. kept.stalls l.cpu.0 (later_stall_end m.config.granularity s l.cpu.0 (t + l.span.0)) pool (ends l refl) here) each)

  step_moved_home : (r : ℕ) (home : Option ℕ) (s : State) → elim home [ None ↦ false | Some i ↦ test_at s.pools i (λ pool. enabled_in m.config.granularity t pool (Moved (core_number r))) ] ≡ true → EachPlace B s.pools
      → EachPlace I (elim home as (λ _. State) [ None ↦ s | Some i ↦ elim (at_place s.pools i) [ None ↦ s | Some pool ↦ elim (at_place pool.resources r) [ None ↦ s | Some c ↦ without_core_in t r i c s ] ] ]).pools
  step_moved_home r None s on each = stay s each
  step_moved_home r (Some i) s on each =
      by_option (λ (next : State). EachPlace I next.pools) (at_place s.pools i) _ _ (λ is. stay s each)
      (λ pool is. by_option (λ (next : State). EachPlace I next.pools) (at_place pool.resources r) _ _ (λ is2. stay s each)
      (λ c is2. step_change i (λ x. settled_pool t (record x { resources = clear_at r x.resources })) s
      (λ x at here. kept.settles (record x { resources = clear_at r x.resources }) (kept.core_goes r x (passes_at s.pools i (λ p. enabled_in m.config.granularity t p (Moved (core_number r))) x at on) here)) each))

  step_attached : (r i : ℕ) (c : FreeCore) (s : State) → at_place s.free r ≡ Some c → IsApart s → FreeFits Ends s → EachPlace B s.pools → EachPlace I (with_core_in t r i c s).pools
  step_attached r i c s is apart fits each =
      step_change i (λ pool. settled_pool t (record pool { resources = put_at r (joined_core c.stall_ends) pool.resources })) (record s { free = clear_at r s.free })
      (λ pool at here. kept.settles (record pool { resources = put_at r (joined_core c.stall_ends) pool.resources }) (kept.core_comes r c.stall_ends pool
      (is_empty (at_place pool.resources r) (λ x has. apart.free i r (is_some_at (at_place s.free r) c is) (test_at-some s.pools i (λ p. is_some (at_place p.resources r)) pool at (is_some_at (at_place pool.resources r) x has)))) (fits r c is) here)) each

  step_moved : (r : ℕ) (s : State) → IsApart s → FreeFits Ends s → is_action_enabled m s t (Moved (core_number r)) ≡ true → EachPlace B s.pools → EachPlace I (state_after_moved t r s).pools
  step_moved r s apart fits on each =
      by_option (λ (next : State). EachPlace I next.pools) (at_place s.free r) _ _
      (λ is. step_moved_home r (home_pool_of_core s r) s (grind (arith, is, on)) each)
      (λ c is. by_option (λ (next : State). EachPlace I next.pools) c.target _ _ (λ is2. stay s each) (λ i is2. step_attached r i c s is apart fits each))

  step_left : (d : ℕ) (pool : Pool) → enabled_in m.config.granularity t pool (DomMoved (domain_number d)) ≡ true → B pool → I (left_by t d pool)
  step_left d pool on here =
      by_cond I (is_null_pool pool.scheduler.records) (settled_pool t (pool_without_domain d pool)) (pool_without_domain d pool) (λ is. kept.settles (pool_without_domain d pool) (kept.domain_goes d pool on here)) (λ is. kept.domain_leaves d pool is on here)

  left_without : (d : ℕ) (pool : Pool) → at_place (left_by t d pool).domains d ≡ None
  left_without d pool =
      by_cond (λ (next : Pool). at_place next.domains d ≡ None) (is_null_pool pool.scheduler.records) (settled_pool t (pool_without_domain d pool)) (pool_without_domain d pool) (λ is. at_place-clear_at d pool.domains) (λ is. at_place-clear_at d pool.domains)

  step_move : (d i j : ℕ) (pool : Pool) (domain : Domain) (s : State) → IsApart s → at_place s.pools i ≡ Some pool → at_place pool.domains d ≡ Some domain → enabled_in m.config.granularity t pool (DomMoved (domain_number d)) ≡ true
      → EachPlace B s.pools → EachPlace I (change_pool j (joined_by m.config.granularity t d domain) (change_pool i (left_by t d) s)).pools
  step_move d i j pool domain s apart at has on each =
      EachAt-change_at (λ k. I) j (joined_by m.config.granularity t d domain) (change_pool i (left_by t d) s).pools each_left
      (λ q at_q here. kept.settles (pool_with_domain m.config.granularity t d (record domain { moving = None }) (standard_dom_params q.scheduler.records) q) (kept.domain_comes d (record domain { moving = None }) q refl
      (elim (read_change_at i j (left_by t d) s.pools q at_q) [
        | inl was ↦ is_empty (at_place q.domains d) (λ y has_y. was.0 (apart.domains j i d (test_at-some s.pools j (λ p. is_some (at_place p.domains d)) q was.1 (rw has_y refl)) (test_at-some s.pools i (λ p. is_some (at_place p.domains d)) pool at (rw has refl))))
        | inr r ↦ subst (λ (p : Pool). at_place p.domains d ≡ None) r.3 (left_without d r.0)
      ]) (kept.domain_is d domain pool has (each i pool at)) (kept.weakens q here)))
    where
      each_left : EachPlace I (change_pool i (left_by t d) s).pools
      each_left = step_change i (left_by t d) s (λ p at_p here. step_left d p (let same : pool ≡ p = cc in subst (λ (x : Pool). enabled_in m.config.granularity t x (DomMoved (domain_number d)) ≡ true) same on) here) each

  step_dom_moved : (d : ℕ) (home : Option ℕ) (s : State) → IsApart s → elim home [ None ↦ false | Some i ↦ test_at s.pools i (λ pool. enabled_in m.config.granularity t pool (DomMoved (domain_number d))) ] ≡ true → EachPlace B s.pools
      → EachPlace I (elim home as (λ _. State) [
        | None ↦ s
        | Some i ↦ elim (at_place s.pools i) [
          | None ↦ s
          | Some pool ↦ elim (at_place pool.domains d) [
            | None ↦ s
            | Some domain ↦ elim domain.moving [ None ↦ s | Some j ↦ change_pool j.0 (joined_by m.config.granularity t d domain) (change_pool i (left_by t d) s) ]
          ]
        ]
      ]).pools
  step_dom_moved d None s apart on each = stay s each
  step_dom_moved d (Some i) s apart on each =
      let Q : State → Type 0 = λ next. EachPlace I next.pools in
      by_option Q (at_place s.pools i) _ _ (λ is. stay s each)
      (λ pool is. by_option Q (at_place pool.domains d) _ _ (λ is2. stay s each)
      (λ domain has. by_option Q domain.moving _ _ (λ is3. stay s each)
      (λ j is3. step_move d i j.0 pool domain s apart is has (passes_at s.pools i (λ p. enabled_in m.config.granularity t p (DomMoved (domain_number d))) pool is on) each)))

  pub step_after : (s : State) (action : Action) → Acts action → IsApart s → FreeFits Ends s → NextEnds s → is_action_enabled m s t action ≡ true → EachPlace B s.pools → EachPlace I (after m s t action).pools
  step_after s Stall of apart fits ends on each = step_stall (slice_get m.work.stalls s.next_stall) s ends each
  step_after s Xl of apart fits ends on each = by_option (λ (next : State). EachPlace I next.pools) (slice_get m.work.commands s.next_command) _ _ (λ is. stay s each) (λ line is. step_command line s each)
  step_after s (Moved r) of apart fits ends on each = step_moved r.0 s apart fits on each
  step_after s (DomMoved d) of apart fits ends on each = step_dom_moved d.0 (home_pool_of_domain s d.0) s apart on each
  step_after s action of apart fits ends on each = step_at s action (home_pool_of_action m.config.granularity s action) of on each

-- the same of what each step keeps at any moment
pub kept_after : (m : Machine) (I : Pool → Type 0) → IsKept m.config.granularity I → (s : State) (t : ℕ) (action : Action) → IsApart s → is_action_enabled m s t action ≡ true → EachPlace I s.pools → EachPlace I (after m s t action).pools
kept_after m I kept s t action apart on each = step_after at_t s action tt apart (λ r c at. tt) (λ l is. tt) on each
  where
    at_t : IsKeptAt m t (λ end. Unit {0}) (λ ends. Unit {0}) (λ d x. Unit {0}) I I
    at_t = record {
      stays = λ pool here. here;
      weakens = λ pool here. here;
      settles = kept.inside.settles t;
      stalls = λ p end pool any. kept.inside.stalls p end pool;
      acts = λ pool action of. kept.inside.acts t pool action;
      leaves = kept.inside.leaves;
      moves = kept.inside.moves;
      pauses = kept.inside.pauses;
      unpauses = kept.inside.unpauses;
      changes = λ change pool good. kept.inside.changes change t pool;
      core_comes = λ r ends pool none any. kept.core_comes r ends pool none;
      rtds = λ period budget extra u pool good here. by_option I (unit_rtds_record pool.scheduler.records u) _ _ (λ is. here)
          (λ x is. kept.inside.changes (changes.«Unit» u (unwrap_or period (span x.next_period)) (unwrap_or budget (span x.next_budget)) (unwrap_or extra x.next_extra)) t pool here);
      ends_stall = λ k end ends any any2. tt;
      ends_go = λ r c pool at here. tt;
      core_goes = kept.core_goes t;
      domain_is = λ d domain pool at here. tt;
      domain_comes = λ d domain pool stays none any. kept.domain_comes t d domain (standard_dom_params pool.scheduler.records) pool stays none;
      domain_goes = kept.domain_goes t;
      domain_leaves = λ d pool null. kept.domain_goes t d pool;
      empty = λ kind. kept.empty m.config (standard_pool_params kind);
    }
