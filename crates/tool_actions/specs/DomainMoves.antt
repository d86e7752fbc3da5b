-- The move of a domain from its pool to another.
use Rattle.std.specs.Prelude.{ℕ, ◌≡◌, Some, Bool, Option, option_map, if◌then◌else◌, true}
use Rattle.std.specs.Option.{ForSome}
use Rattle.sched_model.specs.declared.action.Action.TheVariants.{DomMoved}
use Rattle.sched_model.specs.Actions.{home_pool_of_domain}
use Rattle.sched_model.specs.Machine.{is_action_enabled, event_of}
use Rattle.sched_model.specs.Places.{at_place}
use Rattle.sched_model.specs.Pool.{settled_pool}
use Rattle.journal_core.specs.Parts.{domain_to, tool_of as part_of_tool, state_under_way}
use Rattle.cpupool.specs.Steps.{outlined_kind}
use Rattle.unit_state.specs.Parts.{IsPart}
use Rattle.unit_state.specs.declared.part.DomPart.{DomPart}
use Rattle.pool_core.specs.Seen.{Seen, seen_at}
use Rattle.machine_parts.specs.Told.{Told}
use Rattle.machine_parts.specs.Places.{GoesOn, state_of}
use Rattle.tool_actions.specs.Acts.{told_event}
use Rattle.tool_actions.specs.declared.domains.DomainRoute.{DomainRoute}

-- the domain of the route may be moved at t in the state that the trail leads to: it is in the one pool, is on its way to the other, and
-- that pool has the scheduler of the route
pub record MovesDomain (w : Told) (t : ℕ) (route : DomainRoute) : Type 0 where
  pub goes : GoesOn w
  pub now : t ≡ (state_of w).now
  pub enabled : is_action_enabled w.input (state_of w) (state_of w).now (DomMoved route.d) ≡ true
  pub home : home_pool_of_domain (state_of w) route.d.0 ≡ Some route.from.0
  pub way : state_under_way (state_of w) ≡ Some (domain_to route.d.0 route.to.0)
  pub kind_is : route.kind ≡ outlined_kind (part_of_tool (state_of w)) route.to.0

-- the trail with the entry of the domain's move at t
abbrev pub told_moved : Told → ℕ → DomainRoute → Told
told_moved w t route = told_event w t (event_of w.input (state_of w) (state_of w).now (DomMoved route.d))

-- what has left its pool: the domain of the route, as the pool had it
pub record HasLeft (w : Told) (route : DomainRoute) (part : DomPart) : Type 0 where
  pub number : part.d ≡ route.d
  pub granularity : part.granularity ≡ w.input.config.granularity
  pub domain : ForSome (at_place (state_of w).pools route.from.0) (λ pool. at_place pool.domains route.d.0 ≡ Some part.domain)
  pub is_part : IsPart part

-- the place with the cores of its pool looked at, where that is asked
abbrev pub looked_at : Bool → ℕ → Option Seen → Option Seen
looked_at looks t slot = (if looks then option_map (λ (seen : Seen). seen_at t (settled_pool t seen.pool) seen) slot else slot)
