-- A state has as many places as before for names, pools and free cores, and goes on in the lines of the work file.
use Rattle.std.proofs.lemmas.Option.{slice_get_within}
use Rattle.std.proofs.Common.{◌≡◌, ◌≤◌, ℕ, suc, List, [], ◌∷◌, refl, arith, ◌∙◌, length}
use Rattle.std.specs.Prelude.{Option, Some, None, Ok, Err, slice_get, true, map, replicate, ◌-◌, ◌==◌, ◌/◌}
use Rattle.sched_model.specs.declared.event.Entry.{Entry}
use Rattle.sched_model.specs.declared.plan.Plan.{Plan}
use Rattle.sched_model.specs.declared.plan.Plan.TheVariants as plan
use Rattle.sched_model.specs.declared.work.CommandLine.{CommandLine}
use Rattle.sched_model.specs.declared.work.StallLine.{StallLine}
use Rattle.sched_model.specs.declared.config.Config.{Config}
use Rattle.sched_model.specs.declared.config.PoolConfig.{PoolConfig}
use Rattle.sched_model.specs.declared.machine.Machine.{Machine}
use Rattle.sched_model.specs.declared.state.State.{State}
use Rattle.sched_model.specs.declared.state.Pool.{Pool}
use Rattle.sched_model.specs.declared.action.Action.{Action}
use Rattle.sched_model.specs.declared.action.Action.TheVariants.{Stall, Xl, Moved, DomMoved}
use Rattle.sched_model.specs.Places.{at_place, change_at}
use Rattle.sched_model.specs.Opening.{opening, pools_at_opening, machine_core_count, most_pools}
use Rattle.sched_model.specs.Actions.{home_pool_of_action, home_pool_of_core, home_pool_of_domain}
use Rattle.sched_model.specs.Commands.{carried_out, change_home, plan_pool}
use Rattle.sched_model.specs.Machine.{is_action_enabled, after, after_at_home, after_stall, after_command, state_after_moved, after_dom_moved, line_verdict, settled_at}
use Rattle.sched_model.specs.Runs.{IsRun}
use Rattle.sched_model.specs.CheckedMachine.{IsChecked}
use Rattle.sched_laws.specs.StateLaws.{state_after}
use Rattle.sched_laws.proofs.EachPlace.{by_option, by_cond, length_set}
use Rattle.sched_laws.proofs.Opened.{length_map_numbers}
use Rattle.sched_laws.proofs.Induction.{kept_by_runs}
use Rattle.std.proofs.lemmas.List.{length-replicate, length-append, length-map}

pub record StatePlaces (m : Machine) (s : State) : Type 0 where
  pub names : length s.names ≡ most_pools
  pub pools : length s.pools ≡ most_pools
  pub free : length s.free ≡ machine_core_count m.config
  pub stalls : s.next_stall ≤ length m.work.stalls
  pub commands : s.next_command ≤ length m.work.commands

-- the next state has as many places, and these lines next
pub record Same (s next : State) (stall command : ℕ) : Type 0 where
  pub names : length next.names ≡ length s.names
  pub pools : length next.pools ≡ length s.pools
  pub free : length next.free ≡ length s.free
  pub stalled : next.next_stall ≡ stall
  pub commanded : next.next_command ≡ command

module _ (s : State) where
  same_pool : (i : ℕ) (f : Pool → Pool) (next : State) (stall command : ℕ) → Same s next stall command → Same s (record next { pools = change_at i f next.pools }) stall command
  same_pool i f next stall command same = record { names = same.names; pools = length_set i _ next.pools ∙ same.pools; free = same.free; stalled = same.stalled; commanded = same.commanded }

  same_home : (d : ℕ) (f : Pool → Pool) (next : State) (stall command : ℕ) → Same s next stall command → Same s (change_home d f next) stall command
  same_home d f next stall command same = by_option (λ (x : State). Same s x stall command) (home_pool_of_domain next d) _ _ (λ is. same) (λ i is. same_pool i f next stall command same)

  same_plan : (m : Machine) (t : ℕ) (p : Plan) (next : State) (stall command : ℕ) → Same s next stall command → Same s (carried_out m t p next) stall command
  same_plan m t (plan.PoolList pool answer) next stall command same = same
  same_plan m t (plan.PoolCreate i name kind answer) next stall command same = record { names = length_set i.0 _ next.names ∙ same.names; pools = length_set i.0 _ next.pools ∙ same.pools; free = same.free; stalled = same.stalled; commanded = same.commanded }
  same_plan m t (plan.PoolDestroy i answer) next stall command same = record { names = length_set i.0 None next.names ∙ same.names; pools = length_set i.0 None next.pools ∙ same.pools; free = same.free; stalled = same.stalled; commanded = same.commanded }
  same_plan m t (plan.PoolRename i name answer) next stall command same = record { names = length_set i.0 _ next.names ∙ same.names; pools = same.pools; free = same.free; stalled = same.stalled; commanded = same.commanded }
  same_plan m t (plan.CpuAdd i core answer) next stall command same = record { names = same.names; pools = same.pools; free = length_set core.0 _ next.free ∙ same.free; stalled = same.stalled; commanded = same.commanded }
  same_plan m t (plan.CpuRemove i core answer) next stall command same = same_pool i.0 _ next stall command same
  same_plan m t (plan.Migrate d i j answer) next stall command same = by_cond (λ (x : State). Same s x stall command) (i.0 == j.0) next _ (λ is. same) (λ is. same_pool i.0 _ next stall command same)
  same_plan m t (plan.Credit2Dom d weight percent answer) next stall command same = same_home d.0 _ next stall command same
  same_plan m t (plan.Credit2Pool i None answer) next stall command same = same
  same_plan m t (plan.Credit2Pool i (Some us) answer) next stall command same = same_pool i.0 _ next stall command same
  same_plan m t (plan.RtdsDom d first count period budget extra answer) next stall command same = same_home d.0 _ next stall command same
  same_plan m t (plan.Pause d answer) next stall command same = same_home d.0 _ next stall command same
  same_plan m t (plan.Unpause d answer) next stall command same = same_home d.0 _ next stall command same
  same_plan m t (plan.ArincSet i frame answer) next stall command same = same_pool i.0 _ next stall command same
  same_plan m t (plan.Pin d unit cores answer) next stall command same = same_home d.0 _ next stall command same

  same_settled : (t : ℕ) (home : Option ℕ) (next : State) (stall command : ℕ) → Same s next stall command → Same s (settled_at t home next) stall command
  same_settled t None next stall command same = same
  same_settled t (Some i) next stall command same = same_pool i _ next stall command same

  itself : Same s s s.next_stall s.next_command
  itself = record { names = refl; pools = refl; free = refl; stalled = refl; commanded = refl }

  same_command : (m : Machine) (t : ℕ) (line : CommandLine) → Same s (after_command m t line s) s.next_stall (suc s.next_command)
  same_command m t line =
      let counted : Same s (record s { next_command = suc s.next_command }) s.next_stall (suc s.next_command) = record { names = refl; pools = refl; free = refl; stalled = refl; commanded = refl } in
      elim (line_verdict m s line) as (λ v. Same s (elim v as (λ _. State) [ Err fault ↦ record s { next_command = suc s.next_command } | Ok p ↦ settled_at t (plan_pool s p) (carried_out m t p (record s { next_command = suc s.next_command })) ]) s.next_stall (suc s.next_command)) [
        | Err fault ↦ counted
        | Ok p ↦ same_settled t (plan_pool s p) _ s.next_stall (suc s.next_command) (same_plan m t p (record s { next_command = suc s.next_command }) s.next_stall (suc s.next_command) counted)
      ]

  same_stall : (g t : ℕ) (l : StallLine) → Same s (after_stall g t l s) (suc s.next_stall) s.next_command
  same_stall g t l =
      by_option (λ (x : State). Same s (record x { next_stall = suc s.next_stall }) (suc s.next_stall) s.next_command) (home_pool_of_core s (l.cpu.0 / g)) _ _
      (λ is. record { names = refl; pools = refl; free = length_set (l.cpu.0 / g) _ s.free; stalled = refl; commanded = refl })
      (λ i is. record { names = refl; pools = length_set i _ s.pools; free = refl; stalled = refl; commanded = refl })

  same_at_home : (g t : ℕ) (action : Action) → Same s (after_at_home g s t action) s.next_stall s.next_command
  same_at_home g t action = by_option (λ (x : State). Same s x s.next_stall s.next_command) (home_pool_of_action g s action) _ _ (λ is. itself) (λ i is. same_pool i _ s s.next_stall s.next_command itself)

  same_moved : (t r : ℕ) → Same s (state_after_moved t r s) s.next_stall s.next_command
  same_moved t r =
      let Q : State → Type 0 = λ x. Same s x s.next_stall s.next_command in
      by_option Q (at_place s.free r) _ _
      (λ is. by_option Q (home_pool_of_core s r) _ _ (λ is2. itself)
      (λ i is2. by_option Q (at_place s.pools i) _ _ (λ is3. itself)
      (λ pool is3. by_option Q (at_place pool.resources r) _ _ (λ is4. itself)
      (λ c is4. record { names = refl; pools = length_set i _ s.pools; free = length_set r _ s.free; stalled = refl; commanded = refl }))))
      (λ c is. by_option Q c.target _ _ (λ is2. itself) (λ i is2. record { names = refl; pools = length_set i _ s.pools; free = length_set r None s.free; stalled = refl; commanded = refl }))

  same_dom_moved : (g t d : ℕ) → Same s (after_dom_moved g t d s) s.next_stall s.next_command
  same_dom_moved g t d =
      let Q : State → Type 0 = λ x. Same s x s.next_stall s.next_command in
      by_option Q (home_pool_of_domain s d) _ _ (λ is. itself)
      (λ i is. by_option Q (at_place s.pools i) _ _ (λ is2. itself)
      (λ pool is2. by_option Q (at_place pool.domains d) _ _ (λ is3. itself)
      (λ domain is3. by_option Q domain.moving _ _ (λ is4. itself)
      (λ j is4. same_pool j.0 _ (record s { pools = change_at i _ s.pools }) s.next_stall s.next_command (same_pool i _ s s.next_stall s.next_command itself)))))

module _ (m : Machine) where
  places_of : (s next : State) (stall command : ℕ) → Same s next stall command → stall ≤ length m.work.stalls → command ≤ length m.work.commands → StatePlaces m s → StatePlaces m next
  places_of s next stall command same a b fits = record {
    names = same.names ∙ fits.names;
    pools = same.pools ∙ fits.pools;
    free = same.free ∙ fits.free;
    stalls = (let e = same.stalled in omega (arith, e, a));
    commands = (let e = same.commanded in omega (arith, e, b));
  }

  places_after : (s : State) (action : Action) → is_action_enabled m s s.now action ≡ true → StatePlaces m s → StatePlaces m (after m s s.now action)
  places_after s Stall on fits =
      by_option (StatePlaces m) (slice_get m.work.stalls s.next_stall) _ _ (λ is. fits)
      (λ l is. places_of s (after_stall m.config.granularity s.now l s) (suc s.next_stall) s.next_command (same_stall s m.config.granularity s.now l) (let i = slice_get_within m.work.stalls s.next_stall l is in omega (arith, i)) fits.commands fits)
  places_after s Xl on fits =
      by_option (StatePlaces m) (slice_get m.work.commands s.next_command) _ _ (λ is. fits)
      (λ line is. places_of s (after_command m s.now line s) s.next_stall (suc s.next_command) (same_command s m s.now line) fits.stalls (let i = slice_get_within m.work.commands s.next_command line is in omega (arith, i)) fits)
  places_after s (Moved r) on fits = places_of s (state_after_moved s.now r.0 s) s.next_stall s.next_command (same_moved s s.now r.0) fits.stalls fits.commands fits
  places_after s (DomMoved d) on fits = places_of s (after_dom_moved m.config.granularity s.now d.0 s) s.next_stall s.next_command (same_dom_moved s m.config.granularity s.now d.0) fits.stalls fits.commands fits
  places_after s action on fits = places_of s (after_at_home m.config.granularity s s.now action) s.next_stall s.next_command (same_at_home s m.config.granularity s.now action) fits.stalls fits.commands fits

  length_pools : (config : Config) (i : ℕ) (pools : List PoolConfig) → length (pools_at_opening config i pools) ≡ length pools
  length_pools config i [] = refl
  length_pools config i (p ∷ pools) = (let r = length_pools config (suc i) pools in omega (arith, r))

  places_opening : IsChecked m → StatePlaces m (opening m)
  places_opening checked =
      let few = checked.config.few_pools in
      let spare : ℕ = most_pools - length m.config.pools in
      record {
        names = (let a = length-append (map (λ (pool : PoolConfig). Some pool.name) m.config.pools) (replicate spare None) in let b = length-map m.config.pools (λ (pool : PoolConfig). Some pool.name) in let c = length-replicate {A = Option (List ℕ)} spare None in omega (arith, a, b, c, few));
        pools = (let a = length-append (pools_at_opening m.config 0 m.config.pools) (replicate spare None) in let b = length_pools m.config 0 m.config.pools in let c = length-replicate {A = Option Pool} spare None in omega (arith, a, b, c, few));
        free = length_map_numbers _ 0 (machine_core_count m.config);
        stalls = omega arith;
        commands = omega arith;
      }

  pub places_in_runs : IsChecked m → (entries : List Entry) → IsRun m entries → StatePlaces m (state_after m entries)
  places_in_runs checked entries run =
      kept_by_runs m (StatePlaces m) places_after (λ s next fits. record { names = fits.names; pools = fits.pools; free = fits.free; stalls = fits.stalls; commands = fits.commands }) entries run (places_opening checked)
