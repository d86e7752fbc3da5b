-- What the end of a move does to the tool's part.
use Rattle.sched_base.specs.Numbers.{core, domain}
use Rattle.std.specs.Prelude.{◌≡◌, ℕ, Bool, true, false, List, Option, Some, None, slice_set}
use Rattle.std.specs.Option.{ForSome}
use Rattle.sched_base.specs.declared.Moment.{Moment}
use Rattle.sched_model.specs.declared.action.Action.{Action}
use Rattle.sched_model.specs.declared.action.Action.TheVariants.{Moved, DomMoved}
use Rattle.sched_model.specs.declared.machine.Machine.{Machine}
use Rattle.sched_model.specs.declared.state.State.{State}
use Rattle.sched_model.specs.Places.{at_place, put_at, clear_at, change_at}
use Rattle.sched_model.specs.Actions.{home_pool_of_core}
use Rattle.sched_model.specs.Machine.{after, has_move_under_way}
use Rattle.journal_core.specs.Parts.{Outline, UnderWay, core_to, domain_to}
use Rattle.cpupool.specs.Verdicts.{outlined_core_home, outlined_domain_home}
use Rattle.cpupool.specs.Tool.{Tool}

-- the pool, which has the core r from now on, or has it no more
abbrev pub with_core : ℕ → Bool → Outline → Outline
with_core r there o = record o { cores = slice_set o.cores r there }

-- the pool, which has the domain d with so many vCPUs from now on; which has it no more
abbrev pub outline_with_domain : ℕ → ℕ → Outline → Outline
outline_with_domain d vcpus o = record o { domains = put_at d vcpus o.domains }

abbrev pub outline_without_domain : ℕ → Outline → Outline
outline_without_domain d o = record o { domains = clear_at d o.domains }

-- how many vCPUs the domain d has, where the pool i has it
abbrev pub outlined_size : List (Option Outline) → ℕ → ℕ → Option ℕ
outlined_size pools i d = elim (at_place pools i) [ None ↦ None | Some o ↦ at_place o.domains d ]

-- the domain d in the pool j in place of the pool i
abbrev pub handed_over : ℕ → ℕ → ℕ → List (Option Outline) → List (Option Outline)
handed_over d i j pools = elim (outlined_size pools i d) [ None ↦ pools | Some vcpus ↦ change_at j (outline_with_domain d vcpus) (change_at i (outline_without_domain d) pools) ]

-- the pools once the core r has no pool
abbrev pub core_freed : ℕ → List (Option Outline) → List (Option Outline)
core_freed r pools = elim (outlined_core_home pools r) [ None ↦ pools | Some i ↦ change_at i (with_core r false) pools ]

-- the pools once the core r is at its target
abbrev pub core_arrived : ℕ → Option ℕ → List (Option Outline) → List (Option Outline)
core_arrived r None pools = core_freed r pools
core_arrived r (Some i) pools = change_at i (with_core r true) pools

-- the pools once the domain d is in the pool j
abbrev pub domain_arrived : ℕ → ℕ → List (Option Outline) → List (Option Outline)
domain_arrived d j pools = elim (outlined_domain_home pools d) [ None ↦ pools | Some i ↦ handed_over d i j pools ]

-- the pools once what is on its way is there
abbrev pub pools_after : List (Option Outline) → UnderWay → List (Option Outline)
pools_after pools (core_to r to) = core_arrived r to pools
pools_after pools (domain_to d j) = domain_arrived d j pools

-- the home of what is on its way is its target, and nothing is on its way any more
abbrev pub after_arrival : Tool → Tool
after_arrival tool = elim tool.part.under_way [ None ↦ tool | Some way ↦ record tool { part = record tool.part { pools = pools_after tool.part.pools way; under_way = None } } ]

-- the move of what is on its way
abbrev pub action_of : UnderWay → Action
action_of (core_to r to) = Moved (core r)
action_of (domain_to d i) = DomMoved (domain d)

-- what the tool knows, but for the cores of no pool, of which it has these ends of stalls
abbrev pub but_for_free : List (Option (List Moment)) → Tool → Tool
but_for_free free tool = record tool { part = record tool.part { free = free } }

-- the action ends the only move: a core of no pool is in none, and nothing is on its way after the action
pub record EndsTheMove (m : Machine) (s : State) (t : ℕ) (action : Action) : Type 0 where
  pub free : (r : ℕ) → ForSome (at_place s.free r) (λ c. home_pool_of_core s r ≡ None)
  pub last : has_move_under_way (after m s t action) ≡ false
