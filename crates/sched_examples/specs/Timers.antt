-- Worked examples of timers: a pool of four RTDS units, of which three wait or are on.
use Rattle.std.specs.Prelude.{ℕ, List, [], ◌∷◌, Option, Some, None, false}
use Rattle.sched_base.specs.Numbers.{moment, core_set}
use Rattle.sched_base.specs.Units.{unit_id}
use Rattle.sched_base.specs.declared.Cores.{Cores}
use Rattle.sched_model.specs.declared.state.Records.TheVariants.{RtdsPool}
use Rattle.sched_model.specs.declared.state.RtdsUnit.{RtdsUnit}
use Rattle.sched_model.specs.declared.state.Scheduler.{Scheduler}
use Rattle.sched_ops.specs.declared.timer.Timer.TheVariants.{Repl}
use Rattle.sched_ops.specs.Timers.{Armed}

-- the replenishment of the unit n of the domain d at a moment
abbrev pub replenishment : ℕ → ℕ → ℕ → Armed
replenishment at d n = (moment at, Repl (unit_id d n))

-- a unit with 4 of each 10 milliseconds: its deadline, what is left of its budget, and the moment up to which it was charged where it is on
abbrev pub rtds_unit : ℕ → ℕ → Option ℕ → RtdsUnit
rtds_unit deadline left burned =
    record {
      period = 10000000;
      budget = 4000000;
      extra = false;
      next_period = 10000000;
      next_budget = 4000000;
      next_extra = false;
      deadline = deadline;
      left = left;
      level = 0;
      burned = burned;
    }

-- a unit that waits with its whole budget, the latest deadline of the four
abbrev pub fresh_unit : RtdsUnit
fresh_unit = rtds_unit 30000000 4000000 None

-- a unit that is neither waiting nor on, the earliest deadline of the four
abbrev pub away : RtdsUnit
away = rtds_unit 10000000 4000000 None

-- a unit that is on since 18 milliseconds, and one that waits for its budget; they have one deadline
abbrev pub running_unit : RtdsUnit
running_unit = rtds_unit 20000000 3000000 (Some 18000000)

abbrev pub spent_unit : RtdsUnit
spent_unit = rtds_unit 20000000 0 None

-- two units that may have the first core
abbrev pub two_sets : List Cores
two_sets = core_set 1 ∷ core_set 1 ∷ []

-- a scheduler with these units of the domains 0 and 2; the first unit of the domain 0 and the last one of the domain 2 wait
abbrev pub scheduler_of : RtdsUnit → RtdsUnit → RtdsUnit → RtdsUnit → Scheduler
scheduler_of a b c d =
    record {
      queue = unit_id 2 1 ∷ unit_id 0 0 ∷ [];
      affinity = Some two_sets ∷ None ∷ Some two_sets ∷ [];
      records = RtdsPool (Some (a ∷ b ∷ []) ∷ None ∷ Some (c ∷ d ∷ []) ∷ []);
    }

-- the pool of the four
abbrev pub four_units : Scheduler
four_units = scheduler_of fresh_unit away running_unit spent_unit
