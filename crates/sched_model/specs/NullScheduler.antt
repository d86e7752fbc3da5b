-- The null scheduler: each core is given to one unit for good.
use Rattle.std.specs.Prelude.{ℕ, ◌&&◌, Bool, List, [], ◌∷◌, Option, Some, None, map, if◌then◌else◌}
use Rattle.sched_base.specs.declared.UnitId.{UnitId}
use Rattle.sched_model.specs.Places.{put_at, clear_at, same_unit}
use Rattle.sched_model.specs.State.{Scheduler}
use Rattle.sched_model.specs.declared.state.Records.TheVariants.{NullPool}
use Rattle.sched_model.specs.EligibleUnits.{Ask, Decision, is_unit_placed, eligible_units}

-- the units kept for the cores, without those that pass the test
abbrev pub kept_without : (UnitId → Bool) → List (Option UnitId) → List (Option UnitId)
kept_without test kept = map (λ o. elim o [ None ↦ None | Some u ↦ (if test u then None else Some u) ]) kept

-- the unit kept for the core, and for no other
abbrev pub kept_for : ℕ → UnitId → List (Option UnitId) → List (Option UnitId)
kept_for core u kept = put_at core u (kept_without (same_unit u) kept)

-- the first of the units
abbrev pub earliest_unit : List UnitId → Option UnitId
earliest_unit [] = None
earliest_unit (u ∷ units) = Some u

-- the unit that the core was given, where it waits; else, where the core is given to none, the earliest unit that may have it
abbrev pub placed_or_earliest : Ask → Scheduler → List (Option UnitId) → Option UnitId
placed_or_earliest ask scheduler kept = earliest_unit (eligible_units scheduler ask.home.0 ask.core.0 ask.at.0)

-- the choice: the core's own unit, where it was given the core and may go on, or one that waits
abbrev pub null_choice : Ask → Scheduler → List (Option UnitId) → Option UnitId
null_choice ask scheduler kept =
    elim ask.cur [
      | None ↦ placed_or_earliest ask scheduler kept
      | Some u ↦ (if ask.runnable && is_unit_placed scheduler kept ask.home.0 ask.core.0 u then Some u else placed_or_earliest ask scheduler kept)
    ]

-- the decision for a choice; the chosen unit keeps the core
abbrev pub null_decision_for : ℕ → List (Option UnitId) → Option UnitId → Decision
null_decision_for core kept None = record { unit = None; due = None; reset = 0; records = NullPool kept }
null_decision_for core kept (Some u) = record { unit = Some u; due = None; reset = 0; records = NullPool (kept_for core u kept) }

-- the decision; a core that is leaving keeps no unit
abbrev pub null_decision : Ask → Scheduler → List (Option UnitId) → Decision
null_decision ask scheduler kept =
    (if ask.leaving then null_decision_for ask.core.0 (clear_at ask.core.0 kept) None else null_decision_for ask.core.0 kept (null_choice ask scheduler kept))
