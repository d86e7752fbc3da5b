-- An accepted command on the place of its pool.
use Rattle.std.specs.Prelude.{◌≡◌, ◌≤◌, ◌<◌, ◌+◌, ℕ, List, Option, Some, Ok, option_map, slice_get, slice_set}
use Rattle.std.specs.Option.{ForSome}
use Rattle.sched_model.specs.declared.action.Action.TheVariants.{Xl}
use Rattle.sched_model.specs.declared.config.ParamChange.{ParamChange}
use Rattle.sched_model.specs.declared.config.ParamChange.TheVariants as changes
use Rattle.sched_model.specs.declared.machine.Machine.{Machine}
use Rattle.sched_model.specs.declared.plan.Plan.{Plan}
use Rattle.sched_model.specs.declared.plan.Plan.TheVariants as plan
use Rattle.sched_model.specs.declared.state.Pool.{Pool}
use Rattle.sched_model.specs.declared.work.CommandLine.{CommandLine}
use Rattle.sched_model.specs.Machine.{event_of, line_verdict}
use Rattle.sched_model.specs.Places.{at_place}
use Rattle.sched_model.specs.Policy.{records_kind}
use Rattle.sched_model.specs.Pool.{settled_pool}
use Rattle.sched_ops.specs.Conditions.{IsChange}
use Rattle.unit_state.specs.Seen.{units_at}
use Rattle.pool_core.specs.Params.{AreGiven}
use Rattle.pool_core.specs.Seen.{Seen, seen_at}
use Rattle.machine_parts.specs.Told.{Told}
use Rattle.machine_parts.specs.Places.{SlotSuits, state_of}
use Rattle.composition_laws.specs.ToolSteps.{carried_at, changed_by}
use Rattle.tool_actions.specs.Acts.{told_event}

-- with the entry of the next command
abbrev pub xl_told : Told → Told
xl_told w = told_event w (state_of w).now (event_of w.input (state_of w) (state_of w).now Xl)

-- the next command is accepted with this plan
pub record IsAccepted (w : Told) (p : Plan) : Type 0 where
  pub line : CommandLine
  pub next : slice_get w.input.work.commands (state_of w).next_command ≡ Some line
  pub accepted : line_verdict w.input (state_of w) line ≡ Ok p

-- the place with its pool changed at t, and its cores looked at
abbrev pub changed_slot : ℕ → (Seen → Pool) → Option Seen → Option Seen
changed_slot t f slot = option_map (λ (seen : Seen). seen_at t (settled_pool t (f seen)) seen) slot

-- the place with its pool as a plan leaves it that neither makes nor destroys it
abbrev pub carried_slot : Machine → ℕ → Plan → Option Seen → Option Seen
carried_slot m t p slot = changed_slot t (λ seen. changed_by m t p seen.pool) slot

-- the change is one that the pool's scheduler takes
abbrev pub TakesChange : Seen → ParamChange → Type 0
TakesChange seen change = IsChange (records_kind seen.pool.scheduler.records) seen.pool.scheduler change

-- the units are some of the domain's, and what is given to them is in range
pub record TakesUnits (seen : Seen) (d first count : ℕ) (InRange : Type 0) : Type 0 where
  pub units : first + count ≤ units_at seen.granularity (at_place seen.pool.domains d)
  pub given : 0 < count → InRange

-- what the plan changes is in the pool, and its values are in range
abbrev pub Takes : Seen → Plan → Type 0
Takes seen (plan.Credit2Dom d weight cap answer) = TakesChange seen (changes.Dom d weight cap)
Takes seen (plan.Credit2Pool i limit answer) = ForSome limit (λ (us : ℕ). TakesChange seen (changes.Rate us))
Takes seen (plan.RtdsDom d first count period budget extra answer) = TakesUnits seen d.0 first count (AreGiven period budget)
Takes seen (plan.ArincSet i frame answer) = TakesChange seen (changes.Frame frame)
Takes seen (plan.Pin d unit cores answer) = TakesChange seen (changes.Pin d unit cores)
Takes seen _ = Unit {0}

-- the plan makes no pool and destroys none
abbrev pub KeepsPools : Plan → Type 0
KeepsPools (plan.PoolCreate i name kind answer) = ⊥
KeepsPools (plan.PoolDestroy i answer) = ⊥
KeepsPools _ = Unit {0}

-- the place i has now what the accepted plan makes of what it had, and suits the state; the other places are as before
pub record HasCarried (w : Told) (t : ℕ) (p : Plan) (i : ℕ) (slots next : List (Option Seen)) : Type 0 where
  pub slot : Option Seen
  pub only : next ≡ slice_set slots i slot
  pub made : option_map (λ (seen : Seen). seen.pool) slot ≡ carried_at w.input t p (option_map (λ (seen : Seen). seen.pool) (at_place slots i))
  pub suits : ForSome slot (SlotSuits w.input (state_of w).now)
