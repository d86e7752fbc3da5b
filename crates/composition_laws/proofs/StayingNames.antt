-- An action that moves nothing leaves the names that each part lists.
use Rattle.std.proofs.Common.{◌≡◌, ◌==◌, ◌-◌, ◌+◌, ◌/◌, ℕ, suc, true, false, refl, ap, sym, subst, ◌∙◌}
use Rattle.std.specs.Prelude.{Option, Some, None, Result, Ok, Err, option_map, is_some, slice_get}
use mathlib.Core.Logic.{dite}
use native.Mathlib.Decide.{ℕ_discrete}
use Rattle.sched_base.specs.Numbers.{pool as pool_number}
use Rattle.sched_model.specs.declared.action.Action.{Action}
use Rattle.sched_model.specs.declared.action.Action.TheVariants.{Stall, Xl, Moved, DomMoved}
use Rattle.sched_model.specs.declared.config.ParamChange.{ParamChange}
use Rattle.sched_model.specs.declared.config.ParamChange.TheVariants as changes
use Rattle.sched_model.specs.declared.event.Refusal.{Refusal}
use Rattle.sched_model.specs.declared.machine.Machine.{Machine}
use Rattle.sched_model.specs.declared.plan.Plan.{Plan}
use Rattle.sched_model.specs.declared.plan.Plan.TheVariants as plan
use Rattle.sched_model.specs.declared.state.Domain.{Domain}
use Rattle.sched_model.specs.declared.state.FreeCore.{FreeCore}
use Rattle.sched_model.specs.declared.state.Pool.{Pool}
use Rattle.sched_model.specs.declared.state.State.{State}
use Rattle.sched_model.specs.declared.work.CommandLine.{CommandLine}
use Rattle.sched_model.specs.declared.work.StallLine.{StallLine}
use Rattle.sched_model.specs.Places.{at_place, numbers_from}
use Rattle.sched_model.specs.Policy.{standard_pool_params}
use Rattle.sched_model.specs.Pool.{settled_pool, change_domain, paused_pool, unpaused_pool, pool_with_moving, pool_with_leaving, changed_pool}
use Rattle.sched_model.specs.Actions.{home_pool_of_core, home_pool_of_domain, change_pool}
use Rattle.sched_model.specs.Commands.{pool_with_rtds, plan_pool, carried_out, change_home, cores_in, domains_in}
use Rattle.sched_model.specs.Machine.{after, after_stall, after_command, after_at_home, settled_at, line_verdict, state_with_stall, later_stall_end}
use Rattle.sched_laws.proofs.EachPlace.{by_option, by_cond}
use Rattle.journal_core.specs.Parts.{pool_part, part_of, lists, pool_lists}
use Rattle.composition_laws.proofs.Places.{some_change_at}
use Rattle.composition_laws.proofs.Looks.{has_core_in, moving_in, looks_change_core, looks_withdrawn, looks_pause, looks_unpause, looks_set_params}
use Rattle.composition_laws.proofs.Alike.{Alike, looks_itself, looks_rtds, alike_stall, alike_at_home}
use Rattle.composition_laws.proofs.Housed.{empty_numbered}
use Rattle.sched_laws.proofs.Judged.{Fits, verdict_fits}
use Rattle.composition_laws.specs.ToolSteps.{ChangesPlace, changed_by, carried_at}
use Rattle.composition_laws.specs.ListedNames.{ListsAsBefore}
use Rattle.sched_laws.specs.StateLaws.{MovesNothing}
use Rattle.composition_laws.proofs.ToolSteps.{command_steps, answered, at_plan}
use Rattle.composition_laws.proofs.ListedNames.{same_lists, names_at, names_looks, names_settled, names_none, names_empty, names_changed, names_alike}

-- a change of parameters and the like
module _ (n : ℕ) where
  abbrev Keeps : (Pool → Pool) → Type 0
  Keeps f = (pool : Pool) → pool_lists n (f pool) ≡ pool_lists n pool

  keeps_params : (change : ParamChange) (t : ℕ) → Keeps (changed_pool change t)
  keeps_params change t pool = names_looks n (changed_pool change t pool) pool (looks_set_params (has_core_in pool) (moving_in pool) change t pool (looks_itself pool))

  keeps_moving : (d i : ℕ) → Keeps (pool_with_moving d i)
  keeps_moving d i pool =
      let mid : Pool = change_domain d (λ domain. record domain { moving = Some (pool_number i) }) pool in
      names_looks n (pool_with_moving d i pool) mid (looks_withdrawn (has_core_in mid) (moving_in mid) d mid (looks_itself mid))
      ∙ names_at n mid pool (λ low. refl) (λ high. some_change_at d (n - 64) (λ (domain : Domain). record domain { moving = Some (pool_number i) }) pool.domains)

  keeps_changed : (m : Machine) (t : ℕ) (p : Plan) → Keeps (changed_by m t p)
  keeps_changed m t (plan.CpuRemove i core answer) pool = names_looks n (pool_with_leaving core.0 pool) pool (looks_change_core (has_core_in pool) (moving_in pool) core.0 _ pool (looks_itself pool))
  keeps_changed m t (plan.Migrate d i j answer) pool = by_cond (λ (q : Pool). pool_lists n q ≡ pool_lists n pool) (i.0 == j.0) pool (pool_with_moving d.0 j.0 pool) (λ is. refl) (λ is. keeps_moving d.0 j.0 pool)
  keeps_changed m t (plan.Credit2Dom d weight percent answer) pool = keeps_params (changes.Dom d weight percent) t pool
  keeps_changed m t (plan.Credit2Pool i (Some us) answer) pool = keeps_params (changes.Rate us) t pool
  keeps_changed m t (plan.RtdsDom d first count period budget extra answer) pool =
      names_looks n (pool_with_rtds t d.0 period budget extra (numbers_from first count) pool) pool (looks_rtds (has_core_in pool) (moving_in pool) t d.0 period budget extra (numbers_from first count) pool (looks_itself pool))
  keeps_changed m t (plan.Pause d answer) pool = names_looks n (paused_pool d.0 pool) pool (looks_pause (has_core_in pool) (moving_in pool) d.0 pool (looks_itself pool))
  keeps_changed m t (plan.Unpause d answer) pool = names_looks n (unpaused_pool m.config.granularity d.0 pool) pool (looks_unpause (has_core_in pool) (moving_in pool) m.config.granularity d.0 pool (looks_itself pool))
  keeps_changed m t (plan.ArincSet i frame answer) pool = keeps_params (changes.Frame frame) t pool
  keeps_changed m t (plan.Pin d unit cores answer) pool = keeps_params (changes.Pin d unit cores) t pool
  keeps_changed m t p pool = refl

  module _ (m : Machine) (s : State) (t : ℕ) where
    -- the pool of a plan that neither makes nor destroys it
    kept : (p : Plan) (i : ℕ) → lists (pool_part (option_map (λ (pool : Pool). settled_pool t (changed_by m t p pool)) (at_place s.pools i))) n ≡ lists (pool_part (at_place s.pools i)) n
    kept p i = names_changed n (λ (pool : Pool). settled_pool t (changed_by m t p pool)) (at_place s.pools i) (λ pool. names_settled t n (changed_by m t p pool) ∙ keeps_changed m t p pool)

    destroyed : (i : ℕ) (o : Option Pool) → at_place s.pools i ≡ o → ((pool : Pool) → at_place s.pools i ≡ Some pool → ((cores_in pool == 0) ≡ true) × ((domains_in pool == 0) ≡ true)) → false ≡ lists (pool_part o) n
    destroyed i None at meets = refl
    destroyed i (Some pool) at meets = let e = meets pool at in
        sym (names_none n pool (ap is_some (empty_numbered 0 n pool.resources e.0)) (ap is_some (empty_numbered 0 (n - 64) pool.domains e.1)))

    at_pool : (p : Plan) (i : ℕ) → Fits s p → plan_pool s p ≡ Some i → lists (pool_part (carried_at m t p (at_place s.pools i))) n ≡ lists (pool_part (at_place s.pools i)) n
    at_pool (plan.PoolCreate k name kind answer) i meets is =
        let e : k.0 ≡ i = cc in
        names_empty n m.config (standard_pool_params kind) ∙ sym (ap (λ (o : Option Pool). lists (pool_part o) n) (subst (λ (j : ℕ). at_place s.pools j ≡ None) e meets.0))
    at_pool (plan.PoolDestroy k answer) i meets is = let e : k.0 ≡ i = cc in subst (λ (j : ℕ). false ≡ lists (pool_part (at_place s.pools j)) n) e (destroyed k.0 (at_place s.pools k.0) refl meets)
    at_pool other i meets is = kept other i

    -- the cores of no pool
    abbrev SameFree : State → Type 0
    SameFree next = is_some (at_place next.free n) ≡ is_some (at_place s.free n)

    abbrev counted : State
    counted = record s { next_command = suc s.next_command }

    free_home : (d : ℕ) (f : Pool → Pool) → SameFree (change_home d f counted)
    free_home d f = by_option SameFree (home_pool_of_domain s d) _ _ (λ is. refl) (λ i is. refl)

    free_carried : (p : Plan) → SameFree (carried_out m t p counted)
    free_carried (plan.CpuAdd i core answer) = some_change_at core.0 n (λ (c : FreeCore). record c { target = Some i.0 }) s.free
    free_carried (plan.Migrate d i j answer) = by_cond SameFree (i.0 == j.0) counted (change_pool i.0 (pool_with_moving d.0 j.0) counted) (λ is. refl) (λ is. refl)
    free_carried (plan.Credit2Dom d weight percent answer) = free_home d.0 (changed_pool (changes.Dom d weight percent) t)
    free_carried (plan.Credit2Pool i None answer) = refl
    free_carried (plan.RtdsDom d first count period budget extra answer) = free_home d.0 (pool_with_rtds t d.0 period budget extra (numbers_from first count))
    free_carried (plan.Pause d answer) = free_home d.0 (paused_pool d.0)
    free_carried (plan.Unpause d answer) = free_home d.0 (unpaused_pool m.config.granularity d.0)
    free_carried (plan.Pin d unit cores answer) = free_home d.0 (changed_pool (changes.Pin d unit cores) t)
    free_carried p = refl

    free_settled : (home : Option ℕ) (p : Plan) → SameFree (settled_at t home (carried_out m t p counted))
    free_settled None p = free_carried p
    free_settled (Some i) p = free_carried p

    -- a line with a command
    by_plan : (k : ℕ) (line : CommandLine) (p : Plan) (home : Option ℕ) → slice_get m.work.commands s.next_command ≡ Some line → line_verdict m s line ≡ Ok p → plan_pool s p ≡ home → lists (part_of (after m s t Xl) k) n ≡ lists (part_of s k) n
    by_plan k line p None is says at =
        same_lists s (after m s t Xl) k n (ap (λ (o : Option Pool). lists (pool_part o) n) (((command_steps m s t line is).none p says at).pools k))
        (ap (λ (next : State). is_some (at_place next.free n)) (at_plan m s t line p None is says at) ∙ free_settled None p)
    by_plan k line p (Some i) is says at =
        let c : ChangesPlace s (after m s t Xl) i (carried_at m t p) = (command_steps m s t line is).own p i says at in
        same_lists s (after m s t Xl) k n
        (dite (ℕ_discrete k i)
        (λ e. subst (λ (j : ℕ). lists (pool_part (at_place (after m s t Xl).pools j)) n ≡ lists (pool_part (at_place s.pools j)) n) (sym e)
        (ap (λ (o : Option Pool). lists (pool_part o) n) c.own ∙ at_pool p i (verdict_fits m s line p says) at))
        (λ ne. ap (λ (o : Option Pool). lists (pool_part o) n) (c.others k ne)))
        (ap (λ (next : State). is_some (at_place next.free n)) (at_plan m s t line p (Some i) is says at) ∙ free_settled (Some i) p)

    by_verdict : (k : ℕ) (line : CommandLine) (v : Result Plan Refusal) → slice_get m.work.commands s.next_command ≡ Some line → line_verdict m s line ≡ v → lists (part_of (after m s t Xl) k) n ≡ lists (part_of s k) n
    by_verdict k line (Err fault) is says = ap (λ (next : State). lists (part_of next k) n) (answered m s t line (Err fault) is says) ∙ same_lists s counted k n refl refl
    by_verdict k line (Ok p) is says = by_plan k line p (plan_pool s p) is says refl

    by_line : (k : ℕ) (o : Option CommandLine) → slice_get m.work.commands s.next_command ≡ o → lists (part_of (after m s t Xl) k) n ≡ lists (part_of s k) n
    by_line k None is = ap (λ (next : State). lists (part_of next k) n) (ap (λ (o : Option CommandLine). elim o as (λ _. State) [ None ↦ s | Some l ↦ after_command m t l s ]) is)
    by_line k (Some line) is = by_verdict k line (line_verdict m s line) is refl

    -- an event of a pool, and a stall
    by_alike : (next : State) (k : ℕ) → Alike s next → SameFree next → lists (part_of next k) n ≡ lists (part_of s k) n
    by_alike next k a free = same_lists s next k n (names_alike n (at_place s.pools k) (at_place next.pools k) (a.pools k)) free

    at_home : (k : ℕ) (action : Action) → lists (part_of (after_at_home m.config.granularity s t action) k) n ≡ lists (part_of s k) n
    at_home k action = by_alike (after_at_home m.config.granularity s t action) k (alike_at_home m.config.granularity t action s) (by_option SameFree _ _ _ (λ is. refl) (λ i is. refl))

    free_stalled : (p end : ℕ) → SameFree (state_with_stall m.config.granularity p end s)
    free_stalled p end = by_option SameFree (home_pool_of_core s (p / m.config.granularity)) _ _ (λ is. some_change_at (p / m.config.granularity) n _ s.free) (λ i is. refl)

    by_stall : (k : ℕ) (o : Option StallLine) → lists (part_of (elim o as (λ _. State) [ None ↦ s | Some l ↦ after_stall m.config.granularity t l s ]) k) n ≡ lists (part_of s k) n
    by_stall k None = refl
    by_stall k (Some l) = by_alike (after_stall m.config.granularity t l s) k (alike_stall m.config.granularity t l s) (free_stalled l.cpu.0 (later_stall_end m.config.granularity s l.cpu.0 (t + l.span.0)))

pub lists_stay : (m : Machine) (s : State) (t : ℕ) (action : Action) → MovesNothing action → ListsAsBefore s (after m s t action)
lists_stay m s t Stall none k n = by_stall n m s t k (slice_get m.work.stalls s.next_stall)
lists_stay m s t Xl none k n = by_line n m s t k (slice_get m.work.commands s.next_command) refl
lists_stay m s t (Moved r) none k n = absurd none
lists_stay m s t (DomMoved d) none k n = absurd none
lists_stay m s t action none k n = at_home n m s t k action
