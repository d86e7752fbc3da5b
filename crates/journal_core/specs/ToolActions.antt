-- When the tool may do something, in the words of the machine.
use Rattle.std.specs.Prelude.{ℕ, ◌||◌, Bool, false, Option, Some, None, ◌≡◌, ◌<◌, true}
use Rattle.sched_model.specs.declared.action.Action.TheVariants.{Stall, Xl}
use Rattle.sched_model.specs.declared.machine.Machine.{Machine}
use Rattle.sched_model.specs.declared.state.State.{State}
use Rattle.sched_model.specs.Places.{test_at}
use Rattle.sched_model.specs.Machine.{is_action_enabled, is_free_core_ready}
use Rattle.journal_core.specs.Parts.{UnderWay, core_to, domain_to, state_under_way}
use Rattle.sched_base.specs.declared.Moment.{Moment}

-- whether that is a core of no pool which is on its way to a pool, and its first processor is up at t
abbrev pub joins_at : State → ℕ → Option UnderWay → Bool
joins_at s t None = false
joins_at s t (Some (core_to r None)) = false
joins_at s t (Some (core_to r (Some i))) = test_at s.free r (is_free_core_ready t)
joins_at s t (Some (domain_to d i)) = false

-- whether a core of no pool may join a pool at t
abbrev pub may_join : State → ℕ → Bool
may_join s t = joins_at s t (state_under_way s)

-- whether a stall, a command or the move of a core of no pool may come at t
abbrev pub tool_may_act : Machine → State → ℕ → Bool
tool_may_act m s t = is_action_enabled m s t Stall || is_action_enabled m s t Xl || may_join s t

-- the answer is the least moment after t at which the test passes, or none where it passes at no later moment
abbrev pub IsLeastLater : ℕ → (ℕ → Bool) → Option Moment → Type 0
IsLeastLater t test None = (later : ℕ) → t < later → test later ≡ false
IsLeastLater t test (Some least) = (t < least.0) × (test least.0 ≡ true) × ((later : ℕ) → t < later → later < least.0 → test later ≡ false)
