-- What holds between the entries of a run.
use Rattle.sched_base.specs.Numbers.{core, processor}
use Rattle.std.specs.Prelude.{◌≡◌, ℕ, Bool, true, false, ◌/◌, ◌%◌, ◌&&◌, Some, None, slice_get}
use Rattle.sched_model.specs.declared.event.Entry.{Entry}
use Rattle.sched_model.specs.Places.{test_at}
use Rattle.sched_model.specs.declared.machine.Machine.{Machine}
use Rattle.sched_model.specs.declared.state.State.{State}
use Rattle.sched_model.specs.declared.state.Pool.{Pool}
use Rattle.sched_model.specs.declared.state.Resource.{Resource}
use Rattle.sched_model.specs.Pool.{is_held_back, is_gathering}
use Rattle.sched_model.specs.declared.action.Action.TheVariants.{Block, Arrive, Decide, Leave}
use Rattle.sched_model.specs.Actions.{home_pool_of_core}
use Rattle.sched_model.specs.Machine.{is_action_enabled}
use Rattle.sched_model.specs.Runs.{event_action}
use Rattle.sched_laws.specs.Laws.{keeps_none_waiting}
use Rattle.sched_laws.specs.EachPlace.{EachAt, EachPlace}

-- whether the core's siblings still gather, and its i-th processor is held
abbrev pub core_waits : ℕ → Resource → Bool
core_waits i c = is_gathering c && elim (slice_get c.processors i) as (λ _. Bool) [ None ↦ false | Some q ↦ is_held_back q ]

-- whether the processor waits for its siblings, in the pool that has its core
abbrev pub waits_in : ℕ → ℕ → Pool → Bool
waits_in g p pool = test_at pool.resources (p / g) (core_waits (p % g))

-- the same in the machine
abbrev pub waits : ℕ → ℕ → State → Bool
waits g p s = elim (home_pool_of_core s (p / g)) as (λ _. Bool) [ None ↦ false | Some i ↦ test_at s.pools i (waits_in g p) ]

-- the entry is not a Decide of the core
abbrev pub IsNoDecideOf : ℕ → Entry → Type 0
IsNoDecideOf r entry = event_action entry.event ≡ Some (Decide (core r)) → ⊥

-- the processor is held and its core's stage is open, and it can neither block nor arrive nor leave
pub record StillWaits (m : Machine) (p : ℕ) (s : State) : Type 0 where
  pub waits : waits m.config.granularity p s ≡ true
  pub no_block : (t : ℕ) → is_action_enabled m s t (Block (processor p)) ≡ false
  pub no_arrive : (t : ℕ) → is_action_enabled m s t (Arrive (processor p)) ≡ false
  pub no_leave : (t : ℕ) → is_action_enabled m s t (Leave (processor p)) ≡ false

-- nobody waits for a core without need: where it is not leaving and has no stalled processor it does not idle while a unit is eligible for it,
-- its own unit is allowed there, and in an RTDS pool no eligible unit runs before its own
abbrev pub NobodyWaits : State → Type 0
NobodyWaits s = EachPlace (λ (pool : Pool). EachAt (λ r c. keeps_none_waiting s.now pool (r, c) ≡ true) pool.resources) s.pools
