-- The law of processors that wait, from what an entry keeps.
use Rattle.std.proofs.Common.{◌≡◌, ℕ, zero, suc, Bool, true, false, not, List, [], ◌∷◌, ◌++◌, refl, arith, subst, sym, ◌∙◌, ap}
use Rattle.std.specs.Prelude.{Option, Some, None, Ok, Err, is_some, is_none, slice_get, length, ◌&&◌, ◌==◌, ◌/◌, ◌%◌}
use Rattle.std.specs.List.{list_any, AllByRecursion}
use Rattle.sched_base.specs.Numbers.{moment, domain as domain_number, pool as pool_number, core as core_number, processor}
use Rattle.sched_base.specs.declared.Span.{Span}
use Rattle.sched_base.specs.declared.UnitId.{UnitId}
use Rattle.sched_model.specs.declared.plan.Plan.{Plan}
use Rattle.sched_model.specs.declared.plan.Plan.TheVariants as plan
use Rattle.sched_model.specs.declared.event.Event.{Event}
use Rattle.sched_model.specs.declared.event.Entry.{Entry}
use Rattle.sched_model.specs.declared.work.CommandLine.{CommandLine}
use Rattle.sched_model.specs.declared.work.StallLine.{StallLine}
use Rattle.sched_model.specs.declared.config.ParamChange.TheVariants as changes
use Rattle.sched_model.specs.declared.state.Resource.{Resource}
use Rattle.sched_model.specs.declared.state.Doing.{Doing}
use Rattle.sched_model.specs.declared.state.Doing.TheVariants.{Guest, Idle, Held}
use Rattle.sched_model.specs.declared.state.Processor.{Processor}
use Rattle.sched_model.specs.Places.{at_place, put_at, clear_at, change_at, change_item, test_at, numbers_from, numbered_items}
use Rattle.sched_model.specs.declared.machine.Machine.{Machine}
use Rattle.sched_model.specs.declared.state.State.{State}
use Rattle.sched_model.specs.declared.state.Pool.{Pool}
use Rattle.sched_model.specs.declared.state.FreeCore.{FreeCore}
use Rattle.sched_model.specs.State.{is_not_stalled}
use Rattle.sched_model.specs.Opening.{joined_core, fresh_pool}
use Rattle.sched_model.specs.Policy.{unit_rtds_record, standard_dom_params}
use Rattle.sched_model.specs.declared.action.Action.{Action}
use Rattle.sched_model.specs.Pool.{enabled_in, after_in, settled_pool, change_processor, change_domain, pool_with_leaving, pool_with_moving, paused_pool, unpaused_pool, changed_pool, pool_without_domain, pool_with_domain, is_held_back, is_gathering, is_first_processor_up, with_doing, pool_processor, running_guest}
use Rattle.sched_model.specs.declared.action.Action.TheVariants.{Stall, Xl, Moved, DomMoved, Block, Arrive, Decide, Leave}
use Rattle.sched_model.specs.Actions.{home_pool_of_action, home_pool_of_core, home_pool_of_domain, change_pool}
use Rattle.sched_model.specs.Commands.{carried_out, change_home, pool_with_rtds, pool_with_rtds_unit, plan_pool}
use Rattle.sched_model.specs.Machine.{is_action_enabled, after, after_stall, after_command, state_after_moved, after_dom_moved, line_verdict, settled_at, with_core_in, without_core_in, left_by, joined_by, is_null_pool}
use Rattle.sched_model.specs.Runs.{Reached, event_action, named_next_moment, after_quiet, after_event, IsNextEvent, IsRunFrom, IsRun, run_start, after_entry, after_entries}
use Rattle.sched_model.specs.CheckedMachine.{IsChecked}
use Rattle.std.proofs.Math.Bool.{and-false}
use Rattle.std.proofs.lemmas.Bool.{not-true, and_from}
use Rattle.sched_laws.specs.RunLaws.{core_waits, waits_in, waits, IsNoDecideOf, StillWaits}
use Rattle.sched_laws.specs.StateLaws.{state_after}
use Rattle.sched_laws.proofs.EachPlace.{by_option, by_cond, none_found, found_at}
use Rattle.sched_laws.proofs.Lists.{test_at-change_at_keeps, test_at-some, some-test_at, test_at-put_at_other, test_at-clear_at, is_some_at}
use Rattle.sched_laws.proofs.Kept.{IsApart, passes_at}
use Rattle.sched_laws.proofs.Steps.{kept_after}
use Rattle.sched_laws.specs.StateLaws.{has_core_at}
use Rattle.sched_laws.proofs.ApartKept.{apart_after}
use Rattle.sched_laws.proofs.Sound.{cores_are_sound, list_any_get, processor_of_is}
use Rattle.sched_laws.specs.PoolFacts.{AreSound}
use Rattle.sched_laws.proofs.PoolsLaw.{IsKnown, known_in_runs}
use Rattle.sched_laws.proofs.SiblingsLaw.{some_processor}
use Rattle.sched_laws.proofs.Judged.{Fits, verdict_fits_next}
use Rattle.sched_laws.proofs.Waits.{w_change_processor, w_commands, w_steps, w_set_params, w_with_domain}
use Rattle.sched_laws.proofs.Events.{kept_settled, kept_by_event, kept_set_leaving, kept_withdrawn, kept_pause, kept_unpause}
use Rattle.sched_base.proofs.Bools.{and_left, and_right}

-- a pool with a core has one
some_core : {X : Type 0} (n i : ℕ) (x : X) (places : List (Option X)) → at_place places i ≡ Some x → (length (numbered_items n places) == 0) ≡ true → ⊥
some_core n i x [] at none = absurd (cc)
some_core n zero x (None ∷ places) at none = absurd (cc)
some_core n zero x (Some y ∷ places) at none = absurd (let e : (suc (length (numbered_items (suc n) places)) == 0) ≡ false = grind arith in let f : true ≡ false = sym none ∙ e in cc)
some_core n (suc i) x (None ∷ places) at none = some_core (suc n) i x places at none
some_core n (suc i) x (Some y ∷ places) at none = absurd (let e : (suc (length (numbered_items (suc n) places)) == 0) ≡ false = grind arith in let f : true ≡ false = sym none ∙ e in cc)

module _ (g p i : ℕ) where
  abbrev W : Pool → Type 0
  W pool = waits_in g p pool ≡ true

  -- the processor waits in the pool i
  abbrev pub WaitsAt : State → Type 0
  WaitsAt s = test_at s.pools i (waits_in g p) ≡ true

  wait_change : (j : ℕ) (f : Pool → Pool) (s : State) → ((pool : Pool) → at_place s.pools j ≡ Some pool → W pool → W (f pool)) → WaitsAt s → WaitsAt (change_pool j f s)
  wait_change j f s keeps w = test_at-change_at_keeps j i f (waits_in g p) s.pools (λ pool e at. keeps pool at) w

  wait_at : (s : State) (t : ℕ) (action : Action) → (action ≡ Decide (core_number (p / g)) → ⊥) → (home : Option ℕ) → elim home [ None ↦ false | Some j ↦ test_at s.pools j (λ pool. enabled_in g t pool action) ] ≡ true
      → WaitsAt s → WaitsAt (elim home as (λ _. State) [ None ↦ s | Some j ↦ change_pool j (λ pool. settled_pool t (after_in g t pool action)) s ])
  wait_at s t action other None on w = w
  wait_at s t action other (Some j) on w =
      wait_change j (λ pool. settled_pool t (after_in g t pool action)) s (λ pool at here. kept_settled (w_commands g p) t (after_in g t pool action) (kept_by_event (w_steps g p t) pool action (other, passes_at s.pools j (λ x. enabled_in g t x action) pool at on) here)) w

  wait_change_home : (d : ℕ) (f : Pool → Pool) (s : State) → ((pool : Pool) → W pool → W (f pool)) → WaitsAt s → WaitsAt (change_home d f s)
  wait_change_home d f s keeps w = by_option WaitsAt (home_pool_of_domain s d) _ _ (λ is. w) (λ j is. wait_change j f s (λ pool at. keeps pool) w)

  wait_set_rtds_unit : (t : ℕ) (period budget : Option Span) (extra : Option Bool) (u : UnitId) (pool : Pool) → W pool → W (pool_with_rtds_unit t period budget extra u pool)
  wait_set_rtds_unit t period budget extra u pool w = by_option W (unit_rtds_record pool.scheduler.records u) _ _ (λ is. w) (λ x is. w)

  wait_set_rtds : (t d : ℕ) (period budget : Option Span) (extra : Option Bool) (units : List ℕ) (pool : Pool) → W pool → W (pool_with_rtds t d period budget extra units pool)
  wait_set_rtds t d period budget extra [] pool w = w
  wait_set_rtds t d period budget extra (n ∷ ns) pool w = wait_set_rtds t d period budget extra ns _ (wait_set_rtds_unit t period budget extra (record { dom = domain_number d; n = n }) pool w)

  -- the pool of the core is neither made anew nor destroyed
  wait_carried_out : (m : Machine) → m.config.granularity ≡ g → (t : ℕ) (plan : Plan) (s : State) → Fits s plan → WaitsAt s → WaitsAt (carried_out m t plan s)
  wait_carried_out m same t (plan.PoolCreate j name kind answer) s fits w =
      test_at-put_at_other j.0 i (fresh_pool m.config _) (waits_in g p) s.pools (λ e. (let f = some-test_at s.pools i (waits_in g p) w in let none : at_place s.pools i ≡ None = subst (λ k. at_place s.pools k ≡ None) (sym e) fits.0 in absurd (cc))) ∙ w
  wait_carried_out m same t (plan.PoolDestroy j answer) s fits w =
      test_at-clear_at j.0 i (waits_in g p) s.pools (λ e. (
      let f = some-test_at s.pools i (waits_in g p) w in
      let c = some-test_at f.0.resources (p / g) (core_waits (p % g)) f.2 in
      some_core 0 (p / g) c.0 f.0.resources c.1 (fits f.0 (subst (λ k. at_place s.pools k ≡ Some f.0) e f.1)).0)) ∙ w
  wait_carried_out m same t (plan.CpuRemove j core answer) s fits w = wait_change j.0 (pool_with_leaving core.0) s (λ pool at. kept_set_leaving (w_commands g p) core.0 pool) w
  wait_carried_out m same t (plan.Migrate d j k answer) s fits w =
      by_cond WaitsAt (j.0 == k.0) s _ (λ is. w) (λ is. wait_change j.0 (pool_with_moving d.0 k.0) s (λ pool at here. kept_withdrawn (w_commands g p) d.0 (change_domain d.0 (λ x. record x { moving = Some (pool_number k.0) }) pool) here) w)
  wait_carried_out m same t (plan.Credit2Dom d weight percent answer) s fits w = wait_change_home d.0 (changed_pool (changes.Dom d weight percent) t) s (w_set_params g p (changes.Dom d weight percent) t) w
  wait_carried_out m same t (plan.Credit2Pool j (Some us) answer) s fits w = wait_change j.0 (changed_pool (changes.Rate us) t) s (λ pool at. w_set_params g p (changes.Rate us) t pool) w
  wait_carried_out m same t (plan.RtdsDom d first count period budget extra answer) s fits w = wait_change_home d.0 (pool_with_rtds t d.0 period budget extra (numbers_from first count)) s (wait_set_rtds t d.0 period budget extra (numbers_from first count)) w
  wait_carried_out m same t (plan.Pause d answer) s fits w = wait_change_home d.0 (paused_pool d.0) s (kept_pause (w_commands g p) d.0) w
  wait_carried_out m same t (plan.Unpause d answer) s fits w = wait_change_home d.0 (unpaused_pool m.config.granularity d.0) s (subst (λ k. (pool : Pool) → W pool → W (unpaused_pool k d.0 pool)) (sym same) (kept_unpause (w_commands g p) d.0)) w
  wait_carried_out m same t (plan.ArincSet j frame answer) s fits w = wait_change j.0 (changed_pool (changes.Frame frame) t) s (λ pool at. w_set_params g p (changes.Frame frame) t pool) w
  wait_carried_out m same t (plan.Pin d unit cores answer) s fits w = wait_change_home d.0 (changed_pool (changes.Pin d unit cores) t) s (w_set_params g p (changes.Pin d unit cores) t) w
  wait_carried_out m same t pl s fits w = w

  wait_settled_at : (t : ℕ) (home : Option ℕ) (s : State) → WaitsAt s → WaitsAt (settled_at t home s)
  wait_settled_at t None s w = w
  wait_settled_at t (Some j) s w = wait_change j (settled_pool t) s (λ pool at. kept_settled (w_commands g p) t pool) w

  wait_command : (m : Machine) → m.config.granularity ≡ g → (t : ℕ) (line : CommandLine) (s : State) → WaitsAt s → WaitsAt (after_command m t line s)
  wait_command m same t line s w =
      elim (line_verdict m s line) as (λ v. line_verdict m s line ≡ v → WaitsAt (elim v as (λ _. State) [ Err fault ↦ record s { next_command = suc s.next_command } | Ok q ↦ settled_at t (plan_pool s q) (carried_out m t q (record s { next_command = suc s.next_command })) ])) [
        | Err fault ↦ λ is. w
        | Ok q ↦ λ is. wait_settled_at t (plan_pool s q) _ (wait_carried_out m same t q (record s { next_command = suc s.next_command }) (verdict_fits_next m s line (suc s.next_command) q is) w)
      ] refl

  wait_stall : (t : ℕ) (line : Option StallLine) (s : State) → WaitsAt s → WaitsAt (elim line as (λ _. State) [ None ↦ s | Some l ↦ after_stall g t l s ])
  wait_stall t None s w = w
  wait_stall t (Some l) s w =
      by_option WaitsAt (home_pool_of_core s (l.cpu.0 / g)) _ _ (λ is. w)
      (λ j is. wait_change j _ s (λ pool at. w_change_processor g p l.cpu.0 (λ q. record q { stall_end = moment _ }) pool (λ x at2 held. held)) w)

-- a change whose result passes
test_at-change_at_here : {X : Type 0} (i : ℕ) (f : X → X) (test : X → Bool) (places : List (Option X)) (x : X) → at_place places i ≡ Some x → test (f x) ≡ true → test_at (change_at i f places) i test ≡ true
test_at-change_at_here zero f test [] x at passes = absurd (cc)
test_at-change_at_here (suc i) f test [] x at passes = absurd (cc)
test_at-change_at_here zero f test (None ∷ places) x at passes = absurd (cc)
test_at-change_at_here zero f test (Some y ∷ places) x at passes = (let e : x ≡ y = cc in subst (λ z. test (f z) ≡ true) e passes)
test_at-change_at_here (suc i) f test (p ∷ places) x at passes = test_at-change_at_here i f test places x at passes

held_here : (i : ℕ) (ps : List Processor) (q : Processor) → slice_get ps i ≡ Some q → elim (slice_get (change_item i (with_doing Held) ps) i) as (λ _. Bool) [ None ↦ false | Some x ↦ is_held_back x ] ≡ true
held_here i [] q at = absurd (cc)
held_here zero (x ∷ ps) q at = refl
held_here (suc i) (x ∷ ps) q at = held_here i ps q at

-- a pool that has the core is its home
pub core_home : (s : State) (i r : ℕ) → IsApart s → has_core_at s i r ≡ true → home_pool_of_core s r ≡ Some i
core_home s i r apart has =
    elim (home_pool_of_core s r) as (λ o. home_pool_of_core s r ≡ o → home_pool_of_core s r ≡ Some i) [
      | None ↦ λ is. (let p = some-test_at s.pools i (λ p. is_some (at_place p.resources r)) has in let no = none_found 0 i (λ p. is_some (at_place p.resources r)) s.pools p.0 is p.1 in absurd (let e : true ≡ false = sym p.2 ∙ no in cc))
      | Some j ↦ λ is. (let f = found_at j (λ p. is_some (at_place p.resources r)) s.pools is in let e = apart.cores j i r (test_at-some s.pools j (λ p. is_some (at_place p.resources r)) f.0 f.1 f.2) has in is ∙ subst (λ k. Some j ≡ Some k) e refl)
    ] refl

module _ (m : Machine) (p : ℕ) where
  abbrev G : ℕ
  G = m.config.granularity

  abbrev Known : State → Type 0
  Known s = IsKnown (AreSound m.config.granularity) s

  wait_detached : (i t r j : ℕ) (c : Resource) (s : State) → Known s → test_at s.pools j (λ pool. enabled_in m.config.granularity t pool (Moved (core_number r))) ≡ true → WaitsAt m.config.granularity p i s → WaitsAt m.config.granularity p i (without_core_in t r j c s)
  wait_detached i t r j c s known on w =
      wait_change m.config.granularity p i j (λ pool. settled_pool t (record pool { resources = clear_at r pool.resources })) s
      (λ pool at here. kept_settled (w_commands m.config.granularity p) t (record pool { resources = clear_at r pool.resources })
      (test_at-clear_at r (p / m.config.granularity) (core_waits (p % m.config.granularity)) pool.resources (λ e. (
      let here_on = passes_at s.pools j (λ x. enabled_in m.config.granularity t x (Moved (core_number r))) pool at on in
      let f = some-test_at pool.resources (p / m.config.granularity) (core_waits (p % m.config.granularity)) here in
      let d : Resource = f.0 in
      let at_r : at_place pool.resources r ≡ Some d = subst (λ k. at_place pool.resources k ≡ Some d) e f.1 in
      let may = passes_at pool.resources r (λ (x : Resource). x.leaving && is_none x.cur && is_none x.saving && not x.pending && is_gathering x && is_first_processor_up t x) d at_r here_on in
      let four = and_left (d.leaving && is_none d.cur && is_none d.saving && not d.pending) (is_gathering d) (and_left (d.leaving && is_none d.cur && is_none d.saving && not d.pending && is_gathering d) (is_first_processor_up t d) may) in
      let free : d.pending ≡ false = not-true d.pending (and_right (d.leaving && is_none d.cur && is_none d.saving) (not d.pending) four) in
      let held = held_any (p % m.config.granularity) d.processors (and_right (is_gathering d) _ f.2) in
      let g2 = (known.pools j pool at r d at_r).gathers (and_left (is_gathering d) _ f.2) held in
      (let e2 : true ≡ false = sym g2.0 ∙ free in absurd (cc)))) ∙ here)) w
    where
      held_any : (k : ℕ) (ps : List Processor) → elim (slice_get ps k) as (λ _. Bool) [ None ↦ false | Some x ↦ is_held_back x ] ≡ true → list_any is_held_back ps ≡ true
      held_any k ps held = elim (slice_get ps k) as (λ o. slice_get ps k ≡ o → elim o as (λ _. Bool) [ None ↦ false | Some x ↦ is_held_back x ] ≡ true → list_any is_held_back ps ≡ true) [
        | None ↦ λ is h. absurd (cc)
        | Some x ↦ λ is h. list_any_get is_held_back ps k x is h
      ] refl held

  wait_attached : (i t r j : ℕ) (c : FreeCore) (s : State) → at_place s.free r ≡ Some c → IsApart s → WaitsAt m.config.granularity p i s → WaitsAt m.config.granularity p i (with_core_in t r j c s)
  wait_attached i t r j c s is apart w =
      wait_change m.config.granularity p i j (λ pool. settled_pool t (record pool { resources = put_at r (joined_core c.stall_ends) pool.resources })) (record s { free = clear_at r s.free })
      (λ pool at here. kept_settled (w_commands m.config.granularity p) t (record pool { resources = put_at r (joined_core c.stall_ends) pool.resources })
      (test_at-put_at_other r (p / m.config.granularity) (joined_core c.stall_ends) (core_waits (p % m.config.granularity)) pool.resources (λ e. (
      let f = some-test_at pool.resources (p / m.config.granularity) (core_waits (p % m.config.granularity)) here in
      let at_r : at_place pool.resources r ≡ Some f.0 = subst (λ k. at_place pool.resources k ≡ Some f.0) e f.1 in
      apart.free j r (is_some_at (at_place s.free r) c is) (test_at-some s.pools j (λ x. is_some (at_place x.resources r)) pool at (is_some_at (at_place pool.resources r) f.0 at_r)))) ∙ here)) w

  wait_moved_home : (i t r : ℕ) (home : Option ℕ) (s : State) → Known s → elim home [ None ↦ false | Some j ↦ test_at s.pools j (λ pool. enabled_in m.config.granularity t pool (Moved (core_number r))) ] ≡ true → WaitsAt m.config.granularity p i s
      → WaitsAt m.config.granularity p i (elim home as (λ _. State) [ None ↦ s | Some j ↦ elim (at_place s.pools j) [ None ↦ s | Some pool ↦ elim (at_place pool.resources r) [ None ↦ s | Some c ↦ without_core_in t r j c s ] ] ])
  wait_moved_home i t r None s known on w = w
  wait_moved_home i t r (Some j) s known on w =
      by_option (WaitsAt m.config.granularity p i) (at_place s.pools j) _ _ (λ is. w)
      (λ pool is. by_option (WaitsAt m.config.granularity p i) (at_place pool.resources r) _ _ (λ is2. w) (λ c is2. wait_detached i t r j c s known on w))

  wait_moved : (i t r : ℕ) (s : State) → Known s → is_action_enabled m s t (Moved (core_number r)) ≡ true → WaitsAt m.config.granularity p i s → WaitsAt m.config.granularity p i (state_after_moved t r s)
  wait_moved i t r s known on w =
      by_option (WaitsAt m.config.granularity p i) (at_place s.free r) _ _
      (λ is. wait_moved_home i t r (home_pool_of_core s r) s known (grind (arith, is, on)) w)
      (λ c is. by_option (WaitsAt m.config.granularity p i) c.target _ _ (λ is2. w) (λ j is2. wait_attached i t r j c s is known.apart w))

  wait_dom_moved : (i t d : ℕ) (s : State) → WaitsAt m.config.granularity p i s → WaitsAt m.config.granularity p i (after_dom_moved m.config.granularity t d s)
  wait_dom_moved i t d s w =
      let Q : State → Type 0 = WaitsAt m.config.granularity p i in
      by_option Q (home_pool_of_domain s d) _ _ (λ is. w)
      (λ k is. by_option Q (at_place s.pools k) _ _ (λ is2. w)
      (λ pool is2. by_option Q (at_place pool.domains d) _ _ (λ is3. w)
      (λ domain is3. by_option Q domain.moving _ _ (λ is4. w)
      (λ j is4. wait_change m.config.granularity p i j.0 (joined_by m.config.granularity t d domain) (change_pool k (left_by t d) s)
      (λ x at here. kept_settled (w_commands m.config.granularity p) t (pool_with_domain m.config.granularity t d (record domain { moving = None }) (standard_dom_params x.scheduler.records) x) (w_with_domain m.config.granularity p t d (record domain { moving = None }) (standard_dom_params x.scheduler.records) x here))
      (wait_change m.config.granularity p i k (left_by t d) s
      (λ x at here. by_cond (λ (y : Pool). waits_in m.config.granularity p y ≡ true) (is_null_pool x.scheduler.records) (settled_pool t (pool_without_domain d x)) (pool_without_domain d x) (λ null. kept_settled (w_commands m.config.granularity p) t (pool_without_domain d x) here) (λ null. here)) w)))))

  wait_after : (i t : ℕ) (s : State) (action : Action) → Known s → (action ≡ Decide (core_number (p / m.config.granularity)) → ⊥) → is_action_enabled m s t action ≡ true → WaitsAt m.config.granularity p i s → WaitsAt m.config.granularity p i (after m s t action)
  wait_after i t s Stall known other on w = wait_stall m.config.granularity p i t (slice_get m.work.stalls s.next_stall) s w
  wait_after i t s Xl known other on w = by_option (WaitsAt m.config.granularity p i) (slice_get m.work.commands s.next_command) _ _ (λ is. w) (λ line is. wait_command m.config.granularity p i m refl t line s w)
  wait_after i t s (Moved r) known other on w = wait_moved i t r.0 s known on w
  wait_after i t s (DomMoved d) known other on w = wait_dom_moved i t d.0 s w
  wait_after i t s action known other on w = wait_at m.config.granularity p i s t action other (home_pool_of_action m.config.granularity s action) on w

-- a run in two parts
pub split_run : (m : Machine) (from : Reached) (before rest : List Entry) → IsRunFrom m from (before ++ rest) → IsRunFrom m from before × IsRunFrom m (after_entries m from before) rest
split_run m from [] rest run = (tt, run)
split_run m from (entry ∷ before) rest run = (let r = split_run m (after_entry m from entry) before rest run.1 in ((run.0, r.0), r.1))

after_both : (m : Machine) (from : Reached) (before rest : List Entry) → after_entries m from (before ++ rest) ≡ after_entries m (after_entries m from before) rest
after_both m from [] rest = refl
after_both m from (entry ∷ before) rest = after_both m (after_entry m from entry) before rest

held_doing : (q : Processor) → is_held_back q ≡ true → q.doing ≡ Held
held_doing q held = by_doing q.doing held
  where
    by_doing : (doing : Doing) → elim doing as (λ _. Bool) [ Guest v ↦ false | Idle ↦ false | Held ↦ true ] ≡ true → doing ≡ Held
    by_doing (Guest v) e = absurd (cc)
    by_doing Idle e = absurd (cc)
    by_doing Held e = refl

module _ (m : Machine) (checked : IsChecked m) (p : ℕ) where
  -- what is known of the state, and that the processor waits in a pool
  record Here (s : State) : Type 0 where
    known : IsKnown (AreSound m.config.granularity) s
    pool : ℕ
    waits : WaitsAt m.config.granularity p pool s

  known_after : (s : State) (action : Action) → is_action_enabled m s s.now action ≡ true → IsKnown (AreSound m.config.granularity) s → IsKnown (AreSound m.config.granularity) (after m s s.now action)
  known_after s action on known = record {
    apart = apart_after m s s.now action on known.apart;
    pools = kept_after m (AreSound m.config.granularity) (cores_are_sound m.config.granularity (some_processor m.config.granularity checked.config.granularity)) s s.now action known.apart on known.pools;
  }

  here_event : (e : Event) (action : Option Action) (from : Reached) → (action ≡ Some (Decide (core_number (p / m.config.granularity))) → ⊥) → IsNextEvent m from.state e action → Here from.state → Here (after_event m e action from).state
  here_event e None from other next here = here_quiet (named_next_moment e)
    where
      here_quiet : (end : Option ℕ) → Here (after_quiet end from).state
      here_quiet None = here
      here_quiet (Some later) = record { known = record { apart = record { cores = here.known.apart.cores; domains = here.known.apart.domains; free = here.known.apart.free }; pools = here.known.pools }; pool = here.pool; waits = here.waits }
  here_event e (Some action) from other next here = record {
    known = known_after from.state action next.0 here.known;
    pool = here.pool;
    waits = wait_after m p here.pool from.state.now from.state action here.known (λ is. other (ap (λ a. Some a) is)) next.0 here.waits;
  }

  here_from : (from : Reached) (entries : List Entry) → AllByRecursion (IsNoDecideOf (p / m.config.granularity)) entries → IsRunFrom m from entries → Here from.state → Here (after_entries m from entries).state
  here_from from [] none run here = here
  here_from from (entry ∷ entries) none run here =
      here_from (after_entry m from entry) entries none.1 run.1 (here_event entry.event (event_action entry.event) from none.0 run.0.event here)

  -- the processor arrives
  arrives_in : (t : ℕ) (pool : Pool) → enabled_in m.config.granularity t pool (Arrive (processor p)) ≡ true → waits_in m.config.granularity p (after_in m.config.granularity t pool (Arrive (processor p))) ≡ true
  arrives_in t pool on =
      let G : ℕ = m.config.granularity in
      let f = some-test_at pool.resources (p / G) (λ (c : Resource). c.pending && is_gathering c && is_none c.saving) (and_left (test_at pool.resources (p / G) (λ (c : Resource). c.pending && is_gathering c && is_none c.saving)) (elim (pool_processor G pool p) [ None ↦ false | Some q ↦ not (is_held_back q) && is_not_stalled t q ]) on) in
      let c : Resource = f.0 in
      let open_c : is_gathering c ≡ true = and_right c.pending (is_gathering c) (and_left (c.pending && is_gathering c) (is_none c.saving) f.2) in
      let q = some_processor_of (pool_processor G pool p) (λ q. not (is_held_back q) && is_not_stalled t q) (and_right (test_at pool.resources (p / G) (λ (c : Resource). c.pending && is_gathering c && is_none c.saving)) (elim (pool_processor G pool p) [ None ↦ false | Some q ↦ not (is_held_back q) && is_not_stalled t q ]) on) in
      let r = processor_of_is G pool p q.0 q.1 in
      let same : r.0 ≡ c = (let e1 = r.1 in let e2 = f.1 in cc) in
      let at_q : slice_get c.processors (p % G) ≡ Some q.0 = subst (λ (x : Resource). slice_get x.processors (p % G) ≡ Some q.0) same r.2 in
      let waits_c : core_waits (p % G) (record c { processors = change_item (p % G) (with_doing Held) c.processors }) ≡ true = and_from (is_gathering c) _ open_c (held_here (p % G) c.processors q.0 at_q) in
      by_option (λ (next : Pool). waits_in G p (change_processor G p (with_doing Held) next) ≡ true) (running_guest G pool p) _ _
      (λ is. test_at-change_at_here (p / G) (λ (x : Resource). record x { processors = change_item (p % G) (with_doing Held) x.processors }) (core_waits (p % G)) pool.resources c f.1 waits_c)
      (λ v is. test_at-change_at_here (p / G) (λ (x : Resource). record x { processors = change_item (p % G) (with_doing Held) x.processors }) (core_waits (p % G)) pool.resources c f.1 waits_c)
    where
      some_processor_of : (o : Option Processor) (test : Processor → Bool) → elim o as (λ _. Bool) [ None ↦ false | Some q ↦ test q ] ≡ true → (q : Processor) × (o ≡ Some q) × (test q ≡ true)
      some_processor_of None test is = absurd (cc)
      some_processor_of (Some q) test is = (q, refl, is)

  arrives_at : (s : State) (t : ℕ) (home : Option ℕ) → elim home [ None ↦ false | Some j ↦ test_at s.pools j (λ pool. enabled_in m.config.granularity t pool (Arrive (processor p))) ] ≡ true
      → (i : ℕ) × WaitsAt m.config.granularity p i (elim home as (λ _. State) [ None ↦ s | Some j ↦ change_pool j (λ pool. settled_pool t (after_in m.config.granularity t pool (Arrive (processor p)))) s ])
  arrives_at s t None on = absurd (cc)
  arrives_at s t (Some i) on =
      let f = some-test_at s.pools i (λ pool. enabled_in m.config.granularity t pool (Arrive (processor p))) on in
      (i, test_at-change_at_here i (λ pool. settled_pool t (after_in m.config.granularity t pool (Arrive (processor p)))) (waits_in m.config.granularity p) s.pools f.0 f.1 (kept_settled (w_commands m.config.granularity p) t (after_in m.config.granularity t f.0 (Arrive (processor p))) (arrives_in t f.0 f.2)))

  here_arrived : (e : Event) (action : Option Action) (from : Reached) → action ≡ Some (Arrive (processor p)) → IsNextEvent m from.state e action → IsKnown (AreSound m.config.granularity) from.state → Here (after_event m e action from).state
  here_arrived e None from is next known = absurd (cc)
  here_arrived e (Some action) from is next known = by_arrive action (cc) next.0
    where
      by_arrive : (a : Action) → a ≡ Arrive (processor p) → is_action_enabled m from.state from.state.now a ≡ true → Here (after m from.state from.state.now a)
      by_arrive a same on =
          let on2 : is_action_enabled m from.state from.state.now (Arrive (processor p)) ≡ true = subst (λ (x : Action). is_action_enabled m from.state from.state.now x ≡ true) same on in
          let w = arrives_at from.state from.state.now (home_pool_of_action m.config.granularity from.state (Arrive (processor p))) on2 in
          let here : Here (after m from.state from.state.now (Arrive (processor p))) = record { known = known_after from.state (Arrive (processor p)) on2 known; pool = w.0; waits = w.1 } in
          subst (λ (x : Action). Here (after m from.state from.state.now x)) (sym same) here

  -- what cannot come while it waits
  none_enabled : (s : State) (t i : ℕ) (pool : Pool) (action : Action) (home : Option ℕ) → home ≡ Some i → at_place s.pools i ≡ Some pool → enabled_in m.config.granularity t pool action ≡ false
      → elim home as (λ _. Bool) [ None ↦ false | Some j ↦ test_at s.pools j (λ x. enabled_in m.config.granularity t x action) ] ≡ false
  none_enabled s t i pool action home is at off = rw (is, at, test_at) off

  still_waits : (s : State) → Here s → StillWaits m p s
  still_waits s here =
      let G : ℕ = m.config.granularity in
      let i : ℕ = here.pool in
      let f = some-test_at s.pools i (waits_in G p) here.waits in
      let pool : Pool = f.0 in
      let h = some-test_at pool.resources (p / G) (core_waits (p % G)) f.2 in
      let c : Resource = h.0 in
      let open_c : is_gathering c ≡ true = and_left (is_gathering c) _ h.2 in
      let q = held_processor (slice_get c.processors (p % G)) (and_right (is_gathering c) _ h.2) in
      let is_q : pool_processor G pool p ≡ Some q.0 = rw (pool_processor, h.1) q.1 in
      let no_guest : running_guest G pool p ≡ None = rw (running_guest, is_q, held_doing q.0 q.2) refl in
      let home : home_pool_of_core s (p / G) ≡ Some i = core_home s i (p / G) here.known.apart (test_at-some s.pools i (λ x. is_some (at_place x.resources (p / G))) pool f.1 (is_some_at (at_place pool.resources (p / G)) c h.1)) in
      record {
        waits = rw (waits, home) here.waits;
        no_block = λ t. none_enabled s t i pool (Block (processor p)) (home_pool_of_core s (p / G)) home f.1 (rw no_guest refl);
        no_arrive = λ t. none_enabled s t i pool (Arrive (processor p)) (home_pool_of_core s (p / G)) home f.1 (rw (is_q, q.2) (and-false (test_at pool.resources (p / G) (λ (x : Resource). x.pending && is_gathering x && is_none x.saving))));
        no_leave = λ t. none_enabled s t i pool (Leave (processor p)) (home_pool_of_core s (p / G)) home f.1 (rw (test_at, h.1, open_c) refl);
      }
    where
      held_processor : (o : Option Processor) → elim o as (λ _. Bool) [ None ↦ false | Some x ↦ is_held_back x ] ≡ true → (q : Processor) × (o ≡ Some q) × (is_held_back q ≡ true)
      held_processor None is = absurd (cc)
      held_processor (Some x) is = (x, refl, is)

  pub law : (before : List Entry) (arrive : Entry) (later : List Entry) → IsRun m (before ++ arrive ∷ later) → event_action arrive.event ≡ Some (Arrive (processor p)) → AllByRecursion (IsNoDecideOf (p / m.config.granularity)) later → StillWaits m p (state_after m (before ++ arrive ∷ later))
  law before arrive later run is none =
      let parts = split_run m (run_start m) before (arrive ∷ later) run in
      let from : Reached = after_entries m (run_start m) before in
      let known : IsKnown (AreSound m.config.granularity) from.state = known_in_runs m (AreSound m.config.granularity) (cores_are_sound m.config.granularity (some_processor m.config.granularity checked.config.granularity)) checked before parts.0 in
      let here : Here (after_entry m from arrive).state = here_arrived arrive.event (event_action arrive.event) from is parts.1.0.event known in
      subst (λ (r : Reached). StillWaits m p r.state) (sym (after_both m (run_start m) before (arrive ∷ later)))
      (still_waits (after_entries m (after_entry m from arrive) later).state (here_from (after_entry m from arrive) later none parts.1.1 here))
