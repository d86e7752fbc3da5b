use Rattle.std.proofs.Common.{◌≡◌, ℕ, true, false, refl, sym, ◌∙◌, ap}
use Rattle.std.specs.Prelude.{Option, Some, None, is_some, ◌&&◌, if◌then◌else◌}
use Rattle.sched_base.specs.declared.UnitId.{UnitId}
use Rattle.sched_model.specs.Arinc.{current_window_unit}
use Rattle.sched_model.specs.EligibleUnits.{is_allowed_by}
use Rattle.sched_model.specs.Places.{has_listed_unit}
use Rattle.pool_units.specs.Units.{Units}
use Rattle.arinc_frame.specs.WaitingUnits.{eligible_window_unit, allowed_unit, queued_window_unit, is_another_unit}
use Rattle.arinc_frame.proofs.Deciding.{some_eligible, some_better}
use Rattle.arinc_frame.proofs.arinc.is_wanted.Goals as goal

-- a unit that waits, where it may have the core
waits_here : (units : Units) (unit : Option UnitId) (home core : ℕ) → allowed_unit units (queued_window_unit units unit) home core ≡ eligible_window_unit units unit home core
waits_here units None home core = refl
waits_here units (Some u) home core =
    elim (has_listed_unit units.queue u) as (λ b. allowed_unit units (if b then Some u else None) home core ≡ (if b && is_allowed_by units.affinity home core u then Some u else None)) [ true ↦ refl | false ↦ refl ]

pub returns-in-None : goal.returns-in-None
returns-in-None c records since t is =
    let u = c.args.units.now in
    let here = c.if_allowed-here.ensures ∙ ap (λ (o : Option UnitId). allowed_unit u o c.args.home.0 c.args.core.0) is ∙ waits_here u (current_window_unit records t) c.args.home.0 c.args.core.0 in
    rw c.in-None.is (c.is_some.ensures ∙ ap is_some here ∙ sym (some_eligible u records t c.args.home.0 c.args.core.0))

pub returns-else-not-is_allowed : goal.returns-else-not-is_allowed
returns-else-not-is_allowed c records since t is =
    let u = c.args.units.now in
    let here = c.if_allowed-here.ensures ∙ ap (λ (o : Option UnitId). allowed_unit u o c.args.home.0 c.args.core.0) is ∙ waits_here u (current_window_unit records t) c.args.home.0 c.args.core.0 in
    let allowed : is_allowed_by u.affinity c.args.home.0 c.args.core.0 c.in-Some.own ≡ true = sym c.is_allowed.ensures ∙ c.if-not-is_allowed.false in
    rw (c.in-Some.is, allowed) (c.is_other.ensures ∙ ap (λ (o : Option UnitId). is_another_unit o c.in-Some.own) here ∙ sym (some_better u records t c.args.home.0 c.args.core.0 c.in-Some.own))
