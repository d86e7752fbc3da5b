-- What an ARINC 653 pool decides, by the unit of the present window alone.
use Rattle.std.proofs.Common.{◌≡◌, ℕ, Bool, true, false, ◌&&◌, refl, sym, ◌∙◌, ap, cond}
use Rattle.std.specs.Prelude.{Option, Some, None, not, is_some}
use Rattle.std.specs.List.{list_any}
use Rattle.sched_base.specs.declared.UnitId.{UnitId}
use Rattle.sched_model.specs.declared.state.ArincRecords.{ArincRecords}
use Rattle.sched_model.specs.declared.state.Records.TheVariants.{ArincPool}
use Rattle.sched_model.specs.Arinc.{current_window_unit}
use Rattle.sched_model.specs.Places.{has_listed_unit, is_unit, same_unit}
use Rattle.sched_model.specs.EligibleUnits.{is_allowed_by, is_unit_eligible}
use Rattle.sched_laws.proofs.Choices.{same_unit_same}
use Rattle.sched_laws.proofs.Counts.{same_unit_refl}
use Rattle.scheduler_records.specs.Parts.{scheduler_of}
use Rattle.pool_units.specs.Units.{Units}
use Rattle.pool_units.proofs.Waiting.{any_of_one, any_of_none}
use Rattle.arinc_frame.specs.WaitingUnits.{eligible_window_unit, is_another_unit}
use Rattle.std.proofs.Math.Bool.{and-false, and-true}
use Rattle.sched_base.proofs.Bools.{and_left, and_right}

is_some_cond : (b : Bool) (u : UnitId) → is_some (cond b (Some u) None) ≡ b
is_some_cond true u = refl
is_some_cond false u = refl

is_other_cond : (b : Bool) (u own : UnitId) → (b && not (same_unit u own)) ≡ is_another_unit (cond b (Some u) None) own
is_other_cond true u own = refl
is_other_cond false u own = refl

and_assoc : (a b c : Bool) → (a && (b && c)) ≡ ((a && b) && c)
and_assoc true b c = refl
and_assoc false b c = refl

-- the test of a waiting unit, at a window with this unit
abbrev passes_window : Units → ℕ → ℕ → Option UnitId → UnitId → Bool
passes_window units home core window u = is_allowed_by units.affinity home core u && is_unit window u

passes_own : (units : Units) (home core : ℕ) (w : UnitId) → passes_window units home core (Some w) w ≡ is_allowed_by units.affinity home core w
passes_own units home core w = ap (λ b. is_allowed_by units.affinity home core w && b) (same_unit_refl w) ∙ and-true (is_allowed_by units.affinity home core w)

is_window_unit : (units : Units) (home core : ℕ) (w u : UnitId) → passes_window units home core (Some w) u ≡ true → u ≡ w
is_window_unit units home core w u passes = sym (same_unit_same w u (and_right (is_allowed_by units.affinity home core u) (same_unit w u) passes))

-- some unit is eligible where the window's unit waits and may have the core
pub some_eligible : (units : Units) (records : ArincRecords) (t home core : ℕ) → list_any (is_unit_eligible (scheduler_of units.queue units.affinity (ArincPool records)) home core t) units.queue ≡ is_some (eligible_window_unit units (current_window_unit records t) home core)
some_eligible units records t home core =
    elim (current_window_unit records t) as (λ o. list_any (passes_window units home core o) units.queue ≡ is_some (eligible_window_unit units o home core)) [
      | None ↦ any_of_none (passes_window units home core None) units.queue (λ u. and-false (is_allowed_by units.affinity home core u))
      | Some w ↦
          any_of_one w (passes_window units home core (Some w)) units.queue (is_window_unit units home core w)
          ∙ ap (λ b. has_listed_unit units.queue w && b) (passes_own units home core w)
          ∙ sym (is_some_cond (has_listed_unit units.queue w && is_allowed_by units.affinity home core w) w)
    ]

-- some unit is eligible and better than the core's own where the window's unit is another, waits and may have the core
pub some_better : (units : Units) (records : ArincRecords) (t home core : ℕ) (own : UnitId)
    → list_any (λ u. is_unit_eligible (scheduler_of units.queue units.affinity (ArincPool records)) home core t u && not (same_unit u own)) units.queue ≡ is_another_unit (eligible_window_unit units (current_window_unit records t) home core) own
some_better units records t home core own =
    elim (current_window_unit records t) as (λ o. list_any (λ u. passes_window units home core o u && not (same_unit u own)) units.queue ≡ is_another_unit (eligible_window_unit units o home core) own) [
      | None ↦ any_of_none (λ u. passes_window units home core None u && not (same_unit u own)) units.queue (λ u. ap (λ b. b && not (same_unit u own)) (and-false (is_allowed_by units.affinity home core u)))
      | Some w ↦
          any_of_one w (λ u. passes_window units home core (Some w) u && not (same_unit u own)) units.queue (λ u passes. is_window_unit units home core w u (and_left (passes_window units home core (Some w) u) (not (same_unit u own)) passes))
          ∙ ap (λ b. has_listed_unit units.queue w && (b && not (same_unit w own))) (passes_own units home core w)
          ∙ and_assoc (has_listed_unit units.queue w) (is_allowed_by units.affinity home core w) (not (same_unit w own))
          ∙ is_other_cond (has_listed_unit units.queue w && is_allowed_by units.affinity home core w) w own
    ]
