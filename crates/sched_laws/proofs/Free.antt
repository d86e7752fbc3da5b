-- The moment and the free cores after an action.
use Rattle.std.proofs.Common.{◌≡◌, ℕ, suc, List, refl}
use Rattle.std.specs.Prelude.{Option, Some, None, Ok, Err, slice_get, map, ◌==◌, ◌+◌, ◌/◌, ◌%◌}
use Rattle.sched_base.specs.Numbers.{moment}
use Rattle.sched_base.specs.declared.Moment.{Moment}
use Rattle.sched_model.specs.declared.plan.Plan.{Plan}
use Rattle.sched_model.specs.declared.plan.Plan.TheVariants as plan
use Rattle.sched_model.specs.declared.work.CommandLine.{CommandLine}
use Rattle.sched_model.specs.declared.work.StallLine.{StallLine}
use Rattle.sched_model.specs.declared.machine.Machine.{Machine}
use Rattle.sched_model.specs.declared.state.State.{State}
use Rattle.sched_model.specs.declared.state.Pool.{Pool}
use Rattle.sched_model.specs.declared.state.Domain.{Domain}
use Rattle.sched_model.specs.declared.state.FreeCore.{FreeCore}
use Rattle.sched_model.specs.declared.state.Processor.{Processor}
use Rattle.sched_model.specs.declared.state.Resource.{Resource}
use Rattle.sched_model.specs.declared.action.Action.{Action}
use Rattle.sched_model.specs.declared.action.Action.TheVariants.{Stall, Xl, Moved, DomMoved}
use Rattle.sched_model.specs.Places.{at_place, change_item}
use Rattle.sched_model.specs.Actions.{home_pool_of_action, home_pool_of_core, home_pool_of_domain}
use Rattle.sched_model.specs.Commands.{carried_out, change_home, plan_pool}
use Rattle.sched_model.specs.Machine.{after, after_at_home, after_stall, after_command, state_after_moved, after_dom_moved, line_verdict, settled_at, later_stall_end}
use Rattle.sched_laws.specs.EachPlace.{EachPlace}
use Rattle.sched_laws.proofs.EachPlace.{EachPlace-change_at, EachPlace-put_at, EachPlace-clear_at, by_option, by_cond}
use Rattle.sched_laws.proofs.Steps.{IsKeptAt, IsKeptTo, FreeFits, NextEnds}

module _ (g : ℕ) (Ends : List Moment → Type 0) (s : State) (fits : FreeFits Ends s) where
  abbrev FreeNow : State → Type 0
  FreeNow next = (next.now ≡ s.now) × FreeFits Ends next

  free_home : (d : ℕ) (f : Pool → Pool) (k : ℕ) → FreeNow (change_home d f (record s { next_command = k }))
  free_home d f k = by_option FreeNow (home_pool_of_domain s d) _ _ (λ is. (refl, fits)) (λ i is. (refl, fits))

  free_plan : (m : Machine) (t k : ℕ) (p : Plan) → FreeNow (carried_out m t p (record s { next_command = k }))
  free_plan m t k (plan.CpuAdd i core answer) = (refl, EachPlace-change_at (λ (c : FreeCore). Ends c.stall_ends) core.0 _ s.free fits (λ c at here. here))
  free_plan m t k (plan.Migrate d i j answer) = by_cond FreeNow (i.0 == j.0) (record s { next_command = k }) _ (λ is. (refl, fits)) (λ is. (refl, fits))
  free_plan m t k (plan.Credit2Dom d weight percent answer) = free_home d.0 _ k
  free_plan m t k (plan.Credit2Pool i None answer) = (refl, fits)
  free_plan m t k (plan.RtdsDom d first count period budget extra answer) = free_home d.0 _ k
  free_plan m t k (plan.Pause d answer) = free_home d.0 _ k
  free_plan m t k (plan.Unpause d answer) = free_home d.0 _ k
  free_plan m t k (plan.Pin d unit cores answer) = free_home d.0 _ k
  free_plan m t k p = (refl, fits)

  free_settled : (t : ℕ) (home : Option ℕ) (next : State) → FreeNow next → FreeNow (settled_at t home next)
  free_settled t None next here = here
  free_settled t (Some i) next here = here

  free_command : (m : Machine) (t : ℕ) (line : CommandLine) → FreeNow (after_command m t line s)
  free_command m t line =
      elim (line_verdict m s line) as (λ v. FreeNow (elim v as (λ _. State) [ Err fault ↦ record s { next_command = suc s.next_command } | Ok p ↦ settled_at t (plan_pool s p) (carried_out m t p (record s { next_command = suc s.next_command })) ])) [
        | Err fault ↦ (refl, fits)
        | Ok p ↦ free_settled t (plan_pool s p) _ (free_plan m t (suc s.next_command) p)
      ]

  free_stall : (t : ℕ) (line : Option StallLine) → ((l : StallLine) (k : ℕ) (ends : List Moment) → line ≡ Some l → Ends ends → Ends (change_item k (λ old. moment (later_stall_end g s l.cpu.0 (t + l.span.0))) ends)) → FreeNow (elim line as (λ _. State) [ None ↦ s | Some l ↦ after_stall g t l s ])
  free_stall t None stalls = (refl, fits)
  free_stall t (Some l) stalls =
      by_option FreeNow (home_pool_of_core s (l.cpu.0 / g)) _ _
      (λ is. (refl, EachPlace-change_at (λ (c : FreeCore). Ends c.stall_ends) (l.cpu.0 / g) _ s.free fits (λ c at here. stalls l (l.cpu.0 % g) c.stall_ends refl here)))
      (λ i is. (refl, fits))

  free_at_home : (t : ℕ) (action : Action) → FreeNow (after_at_home g s t action)
  free_at_home t action = by_option FreeNow (home_pool_of_action g s action) _ _ (λ is. (refl, fits)) (λ i is. (refl, fits))

  free_moved : (t r : ℕ) → EachPlace (λ (pool : Pool). EachPlace (λ (c : Resource). Ends (map (λ (p : Processor). p.stall_end) c.processors)) pool.resources) s.pools → FreeNow (state_after_moved t r s)
  free_moved t r whole =
      by_option FreeNow (at_place s.free r) _ _
      (λ is. by_option FreeNow (home_pool_of_core s r) _ _ (λ is2. (refl, fits))
      (λ i is2. by_option FreeNow (at_place s.pools i) _ _ (λ is3. (refl, fits))
      (λ pool is3. by_option FreeNow (at_place pool.resources r) _ _ (λ is4. (refl, fits))
      (λ c is4. (refl, EachPlace-put_at (λ (x : FreeCore). Ends x.stall_ends) r (record { target = None; stall_ends = map (λ p. p.stall_end) c.processors }) s.free fits (whole i pool is3 r c is4))))))
      (λ c is. by_option FreeNow c.target _ _ (λ is2. (refl, fits)) (λ i is2. (refl, EachPlace-clear_at (λ (x : FreeCore). Ends x.stall_ends) r s.free fits)))

  free_dom_moved : (t d : ℕ) → FreeNow (after_dom_moved g t d s)
  free_dom_moved t d =
      by_option FreeNow (home_pool_of_domain s d) _ _ (λ is. (refl, fits))
      (λ i is. by_option FreeNow (at_place s.pools i) _ _ (λ is2. (refl, fits))
      (λ pool is2. by_option FreeNow (at_place pool.domains d) _ _ (λ is3. (refl, fits))
      (λ domain is3. by_option FreeNow domain.moving _ _ (λ is4. (refl, fits)) (λ j is4. (refl, fits)))))

module _ {m : Machine} {t : ℕ} {End : ℕ → Type 0} {Ends : List Moment → Type 0} {Comes : ℕ → Domain → Type 0} {Acts : Action → Type 0} {B I H : Pool → Type 0} (kept : IsKeptTo m t End Ends Comes Acts B I H) where
  -- an action leaves the moment, and keeps what is known of the free cores
  pub free_after : (s : State) (action : Action) → FreeFits Ends s → NextEnds kept s → EachPlace B s.pools → ((after m s t action).now ≡ s.now) × FreeFits Ends (after m s t action)
  free_after s Stall fits ends each = free_stall m.config.granularity Ends s fits t (slice_get m.work.stalls s.next_stall) (λ l k old is here. kept.ends_stall k (later_stall_end m.config.granularity s l.cpu.0 (t + l.span.0)) old (ends l is) here)
  free_after s Xl fits ends each = by_option (FreeNow m.config.granularity Ends s fits) (slice_get m.work.commands s.next_command) _ _ (λ is. (refl, fits)) (λ line is. free_command m.config.granularity Ends s fits m t line)
  free_after s (Moved r) fits ends each = free_moved m.config.granularity Ends s fits t r.0 (λ i pool at r2 c has. kept.ends_go r2 c pool has (each i pool at))
  free_after s (DomMoved d) fits ends each = free_dom_moved m.config.granularity Ends s fits t d.0
  free_after s action fits ends each = free_at_home m.config.granularity Ends s fits t action

-- an action leaves the moment
pub now_after : (m : Machine) (s : State) (t : ℕ) (action : Action) → (after m s t action).now ≡ s.now
now_after m s t action = (free_after nothing s action (λ r c at. tt) (λ l is. tt) (λ i pool at. tt)).0
  where
    nothing : IsKeptAt m t (λ e. Unit {0}) (λ es. Unit {0}) (λ d x. Unit {0}) (λ p. Unit {0}) (λ p. Unit {0})
    nothing = record {
      stays = λ pool w. tt;
      weakens = λ pool w. tt;
      settles = λ pool w. tt;
      stalls = λ p end pool near w. tt;
      acts = λ pool action of on w. tt;
      leaves = λ r pool w. tt;
      moves = λ d i pool w. tt;
      pauses = λ d pool w. tt;
      unpauses = λ d pool w. tt;
      changes = λ change pool good w. tt;
      core_comes = λ r ends pool none good w. tt;
      rtds = λ period budget extra u pool good w. tt;
      ends_stall = λ k end ends e es. tt;
      ends_go = λ r c pool at w. tt;
      core_goes = λ r pool on w. tt;
      domain_is = λ d domain pool at w. tt;
      domain_comes = λ d domain pool stays none comes w. tt;
      domain_goes = λ d pool on w. tt;
      domain_leaves = λ d pool null on w. tt;
      empty = λ kind. tt;
    }
