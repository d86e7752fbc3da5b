-- The next moment of the machine, from the next moments of its pools, the tool's due and the moment of the core that leaves.
use Rattle.sched_base.specs.Numbers.{core}
use Rattle.std.specs.Prelude.{◌≡◌, ◌≤◌, ℕ, List, Option, Some, None, option_map, nat_le, if◌then◌else◌}
use Rattle.sched_base.specs.declared.Moment.{Moment}
use Rattle.sched_model.specs.declared.action.Action.TheVariants.{Moved}
use Rattle.sched_model.specs.declared.machine.Machine.{Machine}
use Rattle.sched_model.specs.declared.state.Pool.{Pool}
use Rattle.sched_model.specs.declared.state.State.{State}
use Rattle.sched_model.specs.Places.{at_place}
use Rattle.sched_model.specs.Actions.{home_pool_of_core}
use Rattle.sched_model.specs.Machine.{least_later_moment, next_in_horizon}
use Rattle.journal_core.specs.Parts.{UnderWay, core_to, domain_to}
use Rattle.pool_laws.specs.ReadyMoments.{ready_in}
use Rattle.pool_laws.specs.FirstEvents.{IsNextMoment}

-- at each place stands the least moment at which an event of the pool with that number may come; nothing where there is no pool
pub record ArePoolsNexts (g : ℕ) (pools : List (Option Pool)) (nexts : List (Option Moment)) : Type 0 where
  pub pool : (i : ℕ) (pool : Pool) → at_place pools i ≡ Some pool → IsNextMoment g pool (at_place nexts i)
  pub nothing : (i : ℕ) → at_place pools i ≡ None → at_place nexts i ≡ None

-- from when on the core may leave its pool
abbrev pub leaves_at : ℕ → State → ℕ → Option Moment
leaves_at g s r = elim (home_pool_of_core s r) [ None ↦ None | Some i ↦ elim (at_place s.pools i) [ None ↦ None | Some pool ↦ ready_in g pool (Moved (core r)) ] ]

-- from when on the core that is on its way out of its pool may leave it
abbrev pub leaving_at : ℕ → State → Option UnderWay → Option Moment
leaving_at g s None = None
leaving_at g s (Some (core_to r None)) = leaves_at g s r
leaving_at g s (Some (core_to r (Some i))) = None
leaving_at g s (Some (domain_to d i)) = None

-- the moment stands at a place, and none that stands at one is less
pub record ComesSoonest (moments : List (Option Moment)) (at : Moment) : Type 0 where
  pub place : ℕ
  pub there : at_place moments place ≡ Some at
  pub least : (i : ℕ) (other : Moment) → at_place moments i ≡ Some other → at.0 ≤ other.0

-- the least of the moments; none where there are none
abbrev pub IsSoonest : List (Option Moment) → Option Moment → Type 0
IsSoonest moments None = (i : ℕ) → at_place moments i ≡ None
IsSoonest moments (Some at) = ComesSoonest moments at

-- the moment as a number, where it is not past the horizon
abbrev pub number_within : ℕ → Option Moment → Option ℕ
number_within horizon None = None
number_within horizon (Some at) = (if nat_le at.0 horizon then Some at.0 else None)

-- it is the next moment of the machine, and within the horizon the next of the run
pub record IsWholeNext (m : Machine) (s : State) (next : Option Moment) : Type 0 where
  pub moment : least_later_moment m s s.now ≡ option_map (λ (at : Moment). at.0) next
  pub in_horizon : next_in_horizon m s ≡ number_within m.config.horizon.0 next
