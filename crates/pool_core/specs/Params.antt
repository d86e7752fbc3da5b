-- What a pool tells of the units of a domain, and their new parameters.
use Rattle.std.specs.Prelude.{ℕ, ◌≡◌, Bool, List, [], ◌∷◌, Option, Some, None, map, unwrap_or}
use Rattle.std.specs.Option.{ForSome, IfSome}
use Rattle.sched_base.specs.Numbers.{span}
use Rattle.sched_base.specs.declared.DomId.{DomId}
use Rattle.sched_base.specs.declared.Span.{Span}
use Rattle.sched_base.specs.declared.UnitId.{UnitId}
use Rattle.sched_model.specs.declared.config.ParamChange.TheVariants as changes
use Rattle.sched_model.specs.declared.facts.Stored.{Stored}
use Rattle.sched_model.specs.declared.state.Domain.{Domain}
use Rattle.sched_model.specs.declared.state.Records.{Records}
use Rattle.sched_model.specs.declared.state.Scheduler.{Scheduler}
use Rattle.sched_model.specs.CheckedMachine.{IsWithin}
use Rattle.sched_model.specs.Places.{at_place, numbers_from}
use Rattle.sched_model.specs.Policy.{unit_rtds_record, changed_scheduler}
use Rattle.sched_ops.specs.Seen.{units_of}
use Rattle.sched_model.specs.Policy.{unit_stored}
use Rattle.unit_state.specs.Seen.{units_at}
use Rattle.sched_base.specs.Units.{unit_id}

-- the set values of the units of the domain d with these indices
abbrev pub stored_units : Records → ℕ → List ℕ → List (Option Stored)
stored_units records d ns = map (λ (n : ℕ). unit_stored records (unit_id d n)) ns

-- those of all units of the domain, where these are the domains and a unit has g vCPUs; none where no domain is named
abbrev pub stored_in : ℕ → List (Option Domain) → Records → Option DomId → List (Option Stored)
stored_in g domains records None = []
stored_in g domains records (Some d) = stored_units records d.0 (numbers_from 0 (units_at g (at_place domains d.0)))

-- the scheduler knows as many units of the domain as are there, if a domain is named
abbrev pub AreKnown : ℕ → List (Option Domain) → Scheduler → Option DomId → Type 0
AreKnown g domains scheduler d = ForSome d (λ (x : DomId). units_of scheduler x.0 ≡ units_at g (at_place domains x.0))

-- the period and the budget, where they are given: each of 10 microseconds to 1000 seconds
pub record AreGiven (period budget : Option Span) : Type 0 where
  pub long : IfSome period (λ (p : Span). IsWithin 10000 1000000000000 p.0)
  pub share : IfSome budget (λ (b : Span). IsWithin 10000 1000000000000 b.0)

-- the scheduler with new RTDS parameters of the unit; what is not given stays
abbrev pub unit_set : ℕ → Option Span → Option Span → Option Bool → UnitId → Scheduler → Scheduler
unit_set t period budget extra u scheduler =
    elim (unit_rtds_record scheduler.records u) [
      | None ↦ scheduler
      | Some x ↦ changed_scheduler (changes.«Unit» u (unwrap_or period (span x.next_period)) (unwrap_or budget (span x.next_budget)) (unwrap_or extra x.next_extra)) t scheduler
    ]

-- the same for the units of the domain with these indices
abbrev pub units_set : ℕ → ℕ → Option Span → Option Span → Option Bool → List ℕ → Scheduler → Scheduler
units_set t d period budget extra [] scheduler = scheduler
units_set t d period budget extra (n ∷ ns) scheduler = units_set t d period budget extra ns (unit_set t period budget extra (unit_id d n) scheduler)
