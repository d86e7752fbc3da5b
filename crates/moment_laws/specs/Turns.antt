-- How many entries the cores of a machine still have before them in a stretch, at most: a number of the state alone.
use Rattle.std.specs.Prelude.{◌≡◌, ◌≤◌, ◌+◌, ◌-◌, ◌*◌, ℕ, suc, Bool, true, false, cond, not, List, [], ◌∷◌, length, Option, Some, None, is_some, ◌&&◌, ◌||◌, ◌==◌, int_lt, nat_lt, pos, slice_get}
use Rattle.sched_base.specs.declared.UnitId.{UnitId}
use Rattle.sched_model.specs.declared.machine.Machine.{Machine}
use Rattle.sched_model.specs.declared.state.State.{State}
use Rattle.sched_model.specs.declared.state.Pool.{Pool}
use Rattle.sched_model.specs.declared.state.Resource.{Resource}
use Rattle.sched_model.specs.declared.state.Scheduler.{Scheduler}
use Rattle.sched_model.specs.declared.state.Records.{Records}
use Rattle.sched_model.specs.declared.state.Records.TheVariants.{Credit2Pool, RtdsPool, ArincPool, NullPool}
use Rattle.sched_model.specs.declared.state.Credit2Domain.{Credit2Domain}
use Rattle.sched_model.specs.declared.state.Credit2Unit.{Credit2Unit}
use Rattle.sched_model.specs.declared.state.RtdsUnit.{RtdsUnit}
use Rattle.sched_model.specs.Places.{at_place, is_unit}
use Rattle.sched_model.specs.State.{may_unit_run}
use Rattle.sched_model.specs.Actions.{home_pool_of_core}
use Rattle.sched_model.specs.Arinc.{current_window_unit}
use Rattle.sched_model.specs.Credit2.{unit_credit}
use Rattle.sched_model.specs.Rtds.{is_record_before, unit_left_budget}
use Rattle.sched_model.specs.EligibleUnits.{is_unit_allowed, is_unit_placed, rtds_unit_at}
use Rattle.sched_model.specs.Policy.{has_better_waiting}
use Rattle.sched_model.specs.Pool.{pool_core_set, is_held_back, is_gathering}
use Rattle.sched_laws.specs.EachPlace.{EachPlace}
use Rattle.sched_laws.specs.Counts.{total, total_over}
use Rattle.moment_laws.specs.Stretches.{cores, units}
use Rattle.sched_base.specs.Numbers.{one_if}

-- how many of the list pass the test
abbrev pub how_many : {X : Type 0} → (X → Bool) → List X → ℕ
how_many test [] = 0
how_many test (x ∷ xs) = one_if (test x) + how_many test xs

-- whether the core is to decide, or would be marked to as soon as it is looked at
abbrev pub is_stirred : ℕ → ℕ → Scheduler → ℕ → Resource → Bool
is_stirred t home scheduler r c = c.pending || (not c.leaving && has_better_waiting c.cur c.since.0 t r home scheduler)

-- whether the unit holds something of its domain's budget, and the domain does not owe anything
abbrev pub is_funded : Credit2Domain → ℕ → Bool
is_funded d n = d.cap == 0 || (not (int_lt d.budget (pos 0)) && elim (slice_get d.units n) as (λ _. Bool) [ None ↦ false | Some x ↦ int_lt (pos 0) x.held ])

-- whether the scheduler's own rule leaves the unit on the core, unless a better one waits
abbrev pub keeps : Records → Scheduler → ℕ → ℕ → ℕ → UnitId → Bool
keeps (Credit2Pool records) scheduler home r t u = elim (at_place records.domains u.dom.0) as (λ _. Bool) [ None ↦ false | Some d ↦ is_funded d u.n ]
keeps (RtdsPool domains) scheduler home r t u = nat_lt 0 (unit_left_budget domains u)
keeps (ArincPool records) scheduler home r t u = is_unit (current_window_unit records t) u
keeps (NullPool kept) scheduler home r t u = is_unit_placed scheduler kept home r u

-- whether the unit on the core is secure: it is one of those that run, and only a better one can take the core from it
abbrev pub is_secure : (UnitId → Bool) → ℕ → ℕ → Scheduler → ℕ → UnitId → Bool
is_secure runs t home scheduler r u = runs u && is_unit_allowed scheduler home r u && keeps scheduler.records scheduler home r t u

-- whether the first unit's record runs before the second's
abbrev pub goes_before : Option RtdsUnit → RtdsUnit → Bool
goes_before None x = false
goes_before (Some y) x = is_record_before x y

-- how many units of the pool run before this one
abbrev pub ahead : Records → UnitId → ℕ
ahead (Credit2Pool records) u = total (λ (d : Credit2Domain). how_many (λ (x : Credit2Unit). int_lt (unit_credit records u) x.credit) d.units) records.domains
ahead (RtdsPool domains) u = total (λ (xs : List RtdsUnit). how_many (goes_before (rtds_unit_at domains u)) xs) domains
ahead (ArincPool records) u = 0
ahead (NullPool kept) u = 0

-- how often the core may still change its unit, where a pool has so many units at most: to each unit that runs before its own where that is secure,
-- and else to any unit; a core that is leaving and to decide may give up its unit besides
abbrev pub chances : ℕ → (UnitId → Bool) → ℕ → ℕ → Scheduler → ℕ → Resource → ℕ
chances most runs t home scheduler r c =
    elim c.cur as (λ _. ℕ) [
      | None ↦ cond (c.leaving && c.pending) (suc most) most
      | Some u ↦ cond (not c.leaving && is_secure runs t home scheduler r u) (ahead scheduler.records u) (suc most)
    ]

-- how many entries the core has before it, until it has decided once more if it is to, and all its processors have left
abbrev pub meeting : ℕ → Bool → Resource → ℕ
meeting g stirred c =
    elim (is_gathering c) as (λ _. ℕ) [
      | true ↦ cond stirred (2 * g + 1 - how_many is_held_back c.processors) 0
      | false ↦ how_many is_held_back c.processors + cond stirred (2 * g + 1) 0
    ]

-- the core's changes and saves to come: each change may bring a save of its own
abbrev pub changes_left : ℕ → (UnitId → Bool) → ℕ → ℕ → Scheduler → ℕ → Resource → ℕ
changes_left most runs t home scheduler r c = chances most runs t home scheduler r c + chances most runs t home scheduler r c + one_if (is_some c.saving)

-- the core's turns: each change and each save may stir every core of the machine once more, and the weight pays for that
abbrev pub turns : ℕ → ℕ → ℕ → (UnitId → Bool) → ℕ → ℕ → Scheduler → ℕ → Resource → ℕ
turns g weight most runs t home scheduler r c = weight * changes_left most runs t home scheduler r c + meeting g (is_stirred t home scheduler r c) c

-- what a change or a save weighs: one, and a whole meeting of each core
abbrev pub weight_of : Machine → ℕ
weight_of m = (2 * m.config.granularity + 1) * cores m + 1

-- the turns of a core of the pool
abbrev pub turns_in : Machine → ℕ → Pool → ℕ → ℕ
turns_in m t pool r =
    elim (at_place pool.resources r) as (λ _. ℕ) [ None ↦ 0 | Some c ↦ turns m.config.granularity (weight_of m) (units m) (may_unit_run m.config.granularity pool) t (pool_core_set pool) pool.scheduler r c ]

-- the turns of a core of the machine, and of all its cores
abbrev pub core_turns : Machine → State → ℕ → ℕ
core_turns m s r = elim (home_pool_of_core s r) as (λ _. ℕ) [ None ↦ 0 | Some i ↦ elim (at_place s.pools i) as (λ _. ℕ) [ None ↦ 0 | Some pool ↦ turns_in m s.now pool r ] ]

abbrev pub turns_left : Machine → State → ℕ
turns_left m s = total_over (cores m) (core_turns m s)

-- the most turns that the cores of a machine have: to each core as many changes as there are units, and one more, a save for each
-- of these and one besides, and a last meeting
abbrev pub most_turns : Machine → ℕ
most_turns m = cores m * (weight_of m * (2 * units m + 3) + (3 * m.config.granularity + 1))

-- no unit of the pool has more units before it than the machine has, and each core has all its processors
pub record IsBounded (m : Machine) (pool : Pool) : Type 0 where
  pub few : (u : UnitId) → ahead pool.scheduler.records u ≤ units m
  pub whole : EachPlace (λ (c : Resource). length c.processors ≡ m.config.granularity) pool.resources
