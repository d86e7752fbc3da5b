-- Which actor does an action of the machine, and the first action of an actor.
use Rattle.std.specs.Prelude.{ℕ, ◌/◌, ◌&&◌, Bool, true, false, Option, Some, None, find, is_some}
use Rattle.sched_model.specs.declared.action.Action.{Action}
use Rattle.sched_model.specs.declared.action.Action.TheVariants.{Stall, Xl, Moved, DomMoved}
use Rattle.sched_model.specs.declared.action.Actor.{Actor}
use Rattle.sched_model.specs.declared.action.Actor.TheVariants.{Proc, Dom, Tool}
use Rattle.sched_model.specs.declared.machine.Machine.{Machine}
use Rattle.sched_model.specs.declared.state.Pool.{Pool}
use Rattle.sched_model.specs.declared.state.State.{State}
use Rattle.sched_model.specs.Places.{at_place, test_at}
use Rattle.sched_model.specs.Actions.{candidates, home_pool_of_action}
use Rattle.sched_model.specs.Machine.{is_action_enabled}
use Rattle.pool_laws.specs.Actors.{is_by}

-- whether it is the tool
abbrev pub is_tool : Actor → Bool
is_tool (Proc p) = false
is_tool (Dom d) = false
is_tool Tool = true

-- whether the actor does the event in its home
abbrev pub is_by_at_home : Machine → State → Actor → Action → Bool
is_by_at_home m s actor action =
    elim (home_pool_of_action m.config.granularity s action) [ None ↦ false | Some i ↦ test_at s.pools i (λ pool. is_by m.config.granularity pool actor action) ]

-- whether the actor does the action: stalls, commands and moves are the tool's, and an event of a pool is by the actor that does it there
abbrev pub is_by_actor : Machine → State → Actor → Action → Bool
is_by_actor m s actor Stall = is_tool actor
is_by_actor m s actor Xl = is_tool actor
is_by_actor m s actor (Moved r) = is_tool actor
is_by_actor m s actor (DomMoved d) = is_tool actor
is_by_actor m s actor action = is_by_at_home m s actor action

-- the first action of the actor that may come now
abbrev pub first_by : Machine → State → Actor → Option Action
first_by m s actor = find (λ action. is_by_actor m s actor action && is_action_enabled m s s.now action) (candidates m.config)

-- whether the pool has the actor: the core of a processor, or the domain
abbrev pub has_actor : ℕ → Pool → Actor → Bool
has_actor g pool (Proc p) = is_some (at_place pool.resources (p.0 / g))
has_actor g pool (Dom d) = is_some (at_place pool.domains d.0)
has_actor g pool Tool = false
