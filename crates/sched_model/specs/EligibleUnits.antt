-- Which waiting units a core may take.
use Rattle.sched_base.specs.Numbers.{core_set}
use Rattle.std.specs.Prelude.{ℕ, ◌==◌, ◌&&◌, ◌||◌, Bool, false, not, List, Option, Some, None, filter, bit_and, slice_index_or, nat_lt, int_lt, pos}
use Rattle.std.specs.List.{list_any}
use Rattle.sched_base.specs.declared.UnitId.{UnitId}
use Rattle.sched_base.specs.declared.Cores.{Cores}
use Rattle.sched_base.specs.declared.Moment.{Moment}
use Rattle.sched_model.specs.Places.{at_place, is_unit, numbered_items}
use Rattle.sched_model.specs.State.{Scheduler, Records, Credit2Domain, RtdsUnit, has_core_bit}
use Rattle.sched_model.specs.declared.state.Records.TheVariants.{Credit2Pool, RtdsPool, ArincPool, NullPool}
pub use Rattle.sched_model.specs.declared.ask.Ask.{Ask}
use Rattle.sched_model.specs.Arinc.{current_window_unit}
use Rattle.std.specs.Prelude.{slice_get}

-- the unit's set of cores, where these are the sets of each domain's units
abbrev pub unit_cores : List (Option (List Cores)) → UnitId → ℕ
unit_cores affinity u = elim (at_place affinity u.dom.0) [ None ↦ 0 | Some units ↦ (slice_index_or units u.n (core_set 0)).0 ]

-- whether the unit may be on the core: its set has the core, or has none of the pool's cores
abbrev pub is_allowed_by : List (Option (List Cores)) → ℕ → ℕ → UnitId → Bool
is_allowed_by affinity home core u = has_core_bit (unit_cores affinity u) core || bit_and (unit_cores affinity u) home == 0

-- the same, of a unit of the scheduler
abbrev pub is_unit_allowed : Scheduler → ℕ → ℕ → UnitId → Bool
is_unit_allowed scheduler home core u = is_allowed_by scheduler.affinity home core u

-- whether the cap lets the unit's domain run
abbrev pub has_cap_budget : Credit2Domain → Bool
has_cap_budget d = d.cap == 0 || int_lt (pos 0) d.budget

-- the unit's record
abbrev pub rtds_unit_at : List (Option (List RtdsUnit)) → UnitId → Option RtdsUnit
rtds_unit_at domains u = elim (at_place domains u.dom.0) [ None ↦ None | Some units ↦ slice_get units u.n ]

-- whether the null scheduler has given the core to the unit: the core is kept for it, is one of the pool, and is allowed
abbrev pub is_unit_placed : Scheduler → List (Option UnitId) → ℕ → ℕ → UnitId → Bool
is_unit_placed scheduler kept home core u = is_unit (at_place kept core) u && has_core_bit home core && is_unit_allowed scheduler home core u

-- whether some unit is given this core
abbrev pub is_core_given : Scheduler → List (Option UnitId) → ℕ → ℕ → Bool
is_core_given scheduler kept home core = elim (at_place kept core) [ None ↦ false | Some u ↦ is_unit_placed scheduler kept home core u ]

-- whether the unit is given some core
abbrev pub has_given_core : Scheduler → List (Option UnitId) → ℕ → UnitId → Bool
has_given_core scheduler kept home u = list_any (λ e. is_unit_placed scheduler kept home e.0 u) (numbered_items 0 kept)

-- whether the scheduler's own rule lets the unit have the core at t
abbrev pub may_have_core : Records → Scheduler → ℕ → ℕ → ℕ → UnitId → Bool
may_have_core (Credit2Pool records) scheduler home core t u = elim (at_place records.domains u.dom.0) [ None ↦ false | Some d ↦ has_cap_budget d ]
may_have_core (RtdsPool domains) scheduler home core t u = elim (rtds_unit_at domains u) [ None ↦ false | Some unit ↦ nat_lt 0 unit.left ]
may_have_core (ArincPool records) scheduler home core t u = is_unit (current_window_unit records t) u
may_have_core (NullPool kept) scheduler home core t u = is_unit_placed scheduler kept home core u || (not (has_given_core scheduler kept home u) && not (is_core_given scheduler kept home core))

-- whether a waiting unit is eligible for the core
abbrev pub is_unit_eligible : Scheduler → ℕ → ℕ → ℕ → UnitId → Bool
is_unit_eligible scheduler home core t u = is_unit_allowed scheduler home core u && may_have_core scheduler.records scheduler home core t u

-- the units that are eligible for the core, in order of arrival
abbrev pub eligible_units : Scheduler → ℕ → ℕ → ℕ → List UnitId
eligible_units scheduler home core t = filter (is_unit_eligible scheduler home core t) scheduler.queue

-- the answer to a core: its unit, the moment at which to ask again, how many resets there were, and the scheduler's records then
pub record Decision : Type 0 where
  pub unit : Option UnitId
  pub due : Option Moment
  pub reset : ℕ
  pub records : Records
