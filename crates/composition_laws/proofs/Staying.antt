-- A step that is no move leaves what is on its way, but for a command, which may send one thing on its way.
use Rattle.std.proofs.Common.{◌≡◌, ◌≤◌, ◌+◌, ◌/◌, ◌%◌, ℕ, suc, refl, arith, ap}
use Rattle.std.specs.Prelude.{Option, Some, None, Ok, Err, ◌==◌}
use Rattle.sched_base.specs.Numbers.{moment}
use Rattle.sched_model.specs.declared.action.Action.{Action}
use Rattle.sched_model.specs.declared.config.ParamChange.TheVariants as changes
use Rattle.sched_model.specs.declared.machine.Machine.{Machine}
use Rattle.sched_model.specs.declared.plan.Plan.{Plan}
use Rattle.sched_model.specs.declared.plan.Plan.TheVariants as plan
use Rattle.sched_model.specs.declared.work.CommandLine.{CommandLine}
use Rattle.sched_model.specs.declared.work.StallLine.{StallLine}
use Rattle.sched_model.specs.declared.state.FreeCore.{FreeCore}
use Rattle.sched_model.specs.declared.state.Pool.{Pool}
use Rattle.sched_model.specs.declared.state.State.{State}
use Rattle.sched_model.specs.Places.{change_item, numbers_from}
use Rattle.sched_model.specs.Actions.{home_pool_of_action, home_pool_of_core, home_pool_of_domain, change_pool}
use Rattle.sched_model.specs.Opening.{fresh_pool}
use Rattle.sched_model.specs.Policy.{standard_pool_params}
use Rattle.sched_model.specs.Pool.{after_in, settled_pool, change_processor, paused_pool, unpaused_pool, changed_pool, pool_with_leaving, pool_with_moving}
use Rattle.sched_model.specs.Commands.{carried_out, change_home, pool_with_rtds, plan_pool}
use Rattle.sched_model.specs.Machine.{after_at_home, after_stall, state_with_stall, later_stall_end, after_command, settled_at, line_verdict}
use Rattle.sched_laws.proofs.Counts.{total-change_at_same}
use Rattle.sched_laws.specs.Counts.{total}
use Rattle.sched_laws.proofs.EachPlace.{by_option, by_cond}
use Rattle.composition_laws.proofs.Totals.{total-change_at_more, total-put_at_more, total-clear_at_less}
use Rattle.composition_laws.proofs.Counted.{from_pool, joins, in_all}
use Rattle.composition_laws.proofs.Inside.{same_core, same_settled, same_event, same_pause, same_unpause, same_params, same_rtds, more_leaving, more_moving, from_empty}

-- one pool is changed
same_change : (i : ℕ) (f : Pool → Pool) (s : State) → ((pool : Pool) → from_pool (f pool) ≡ from_pool pool) → in_all (change_pool i f s) ≡ in_all s
same_change i f s same = ap (λ n. n + total joins s.free) (total-change_at_same from_pool i f s.pools (λ pool at. same pool))

more_change : (i : ℕ) (f : Pool → Pool) (s : State) → ((pool : Pool) → from_pool (f pool) ≤ 1 + from_pool pool) → in_all (change_pool i f s) ≤ 1 + in_all s
more_change i f s more = let a = total-change_at_more from_pool 1 i f s.pools more in omega (arith, a)

-- an event of a pool, and a stall
pub same_home : (g t : ℕ) (action : Action) (s : State) → in_all (after_at_home g s t action) ≡ in_all s
same_home g t action s = by_option (λ (next : State). in_all next ≡ in_all s) (home_pool_of_action g s action) _ _ (λ is. refl)
    (λ i is. same_change i (λ pool. settled_pool t (after_in g t pool action)) s (λ pool. same_event g t pool action))

same_stalled : (g p end : ℕ) (s : State) → in_all (state_with_stall g p end s) ≡ in_all s
same_stalled g p end s = by_option (λ (next : State). in_all next ≡ in_all s) (home_pool_of_core s (p / g)) _ _
    (λ is. ap (λ n. total from_pool s.pools + n) (total-change_at_same joins (p / g) (λ (c : FreeCore). record c { stall_ends = change_item (p % g) (λ old. moment end) c.stall_ends }) s.free (λ c at. refl)))
    (λ i is. same_change i (change_processor g p (λ q. record q { stall_end = moment end })) s (λ pool. same_core (p / g) _ pool (λ c. refl)))

pub same_stall : (g t : ℕ) (line : StallLine) (s : State) → in_all (after_stall g t line s) ≡ in_all s
same_stall g t line s = same_stalled g line.cpu.0 (later_stall_end g s line.cpu.0 (t + line.span.0)) s

-- a command adds at most one
abbrev Adds : State → State → Type 0
Adds s next = in_all next ≤ 1 + in_all s

adds_none : (s next : State) → in_all next ≡ in_all s → Adds s next
adds_none s next same = omega (arith, same)

adds_home : (d : ℕ) (f : Pool → Pool) (s : State) → ((pool : Pool) → from_pool (f pool) ≡ from_pool pool) → Adds s (change_home d f s)
adds_home d f s same = adds_none s (change_home d f s) (by_option (λ (next : State). in_all next ≡ in_all s) (home_pool_of_domain s d) _ _ (λ is. refl) (λ i is. same_change i f s same))

adds_pool : (i : ℕ) (f : Pool → Pool) (s : State) → ((pool : Pool) → from_pool (f pool) ≡ from_pool pool) → Adds s (change_pool i f s)
adds_pool i f s same = adds_none s (change_pool i f s) (same_change i f s same)

adds_plan : (m : Machine) (t : ℕ) (p : Plan) (s : State) → Adds s (carried_out m t p s)
adds_plan m t (plan.PoolCreate i name kind answer) s =
    let a = total-put_at_more from_pool i.0 (fresh_pool m.config (standard_pool_params kind)) s.pools in
    let none = from_empty m.config (standard_pool_params kind) in
    omega (arith, a, none)
adds_plan m t (plan.PoolDestroy i answer) s = let a = total-clear_at_less from_pool i.0 s.pools in omega (arith, a)
adds_plan m t (plan.PoolRename i name answer) s = adds_none s (carried_out m t (plan.PoolRename i name answer) s) refl
adds_plan m t (plan.CpuAdd i core answer) s =
    let a = total-change_at_more joins 1 core.0 (λ (c : FreeCore). record c { target = Some i.0 }) s.free (λ c. omega arith) in
    omega (arith, a)
adds_plan m t (plan.CpuRemove i core answer) s = more_change i.0 (pool_with_leaving core.0) s (more_leaving core.0)
adds_plan m t (plan.Migrate d i j answer) s =
    by_cond (Adds s) (i.0 == j.0) s (change_pool i.0 (pool_with_moving d.0 j.0) s) (λ is. adds_none s s refl) (λ is. more_change i.0 (pool_with_moving d.0 j.0) s (more_moving d.0 j.0))
adds_plan m t (plan.Credit2Dom d weight cap answer) s = adds_home d.0 (changed_pool (changes.Dom d weight cap) t) s (same_params (changes.Dom d weight cap) t)
adds_plan m t (plan.Credit2Pool i (Some us) answer) s = adds_pool i.0 (changed_pool (changes.Rate us) t) s (same_params (changes.Rate us) t)
adds_plan m t (plan.RtdsDom d first count period budget extra answer) s =
    adds_home d.0 (pool_with_rtds t d.0 period budget extra (numbers_from first count)) s (same_rtds t d.0 period budget extra (numbers_from first count))
adds_plan m t (plan.Pause d answer) s = adds_home d.0 (paused_pool d.0) s (same_pause d.0)
adds_plan m t (plan.Unpause d answer) s = adds_home d.0 (unpaused_pool m.config.granularity d.0) s (same_unpause m.config.granularity d.0)
adds_plan m t (plan.ArincSet i frame answer) s = adds_pool i.0 (changed_pool (changes.Frame frame) t) s (same_params (changes.Frame frame) t)
adds_plan m t (plan.Pin d unit cores answer) s = adds_home d.0 (changed_pool (changes.Pin d unit cores) t) s (same_params (changes.Pin d unit cores) t)
adds_plan m t other s = adds_none s s refl

same_settled_at : (t : ℕ) (home : Option ℕ) (s : State) → in_all (settled_at t home s) ≡ in_all s
same_settled_at t None s = refl
same_settled_at t (Some i) s = same_change i (settled_pool t) s (same_settled t)

pub adds_line : (m : Machine) (t : ℕ) (line : CommandLine) (s : State) → in_all (after_command m t line s) ≤ 1 + in_all s
adds_line m t line s =
    let next : State = record s { next_command = suc s.next_command } in
    elim (line_verdict m s line) as (λ v. Adds s (elim v as (λ _. State) [ Err fault ↦ next | Ok p ↦ settled_at t (plan_pool s p) (carried_out m t p next) ])) [
      | Err fault ↦ adds_none s next refl
      | Ok p ↦ (
          let same : in_all (settled_at t (plan_pool s p) (carried_out m t p next)) ≡ in_all (carried_out m t p next) = same_settled_at t (plan_pool s p) (carried_out m t p next) in
          let a : in_all (carried_out m t p next) ≤ 1 + in_all s = adds_plan m t p next in
          omega (arith, same, a))
    ]
