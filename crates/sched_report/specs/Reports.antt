-- The report of a history: for each unit and each core of the machine what it did.
use Rattle.sched_base.specs.Numbers.{core as core_number}
use Rattle.std.specs.Prelude.{ℕ, ◌≤◌, ◌-◌, List, map, filter, flat_map, length, sum_by}
use Rattle.std.specs.List.{All}
use Rattle.sched_base.specs.declared.UnitId.{UnitId}
use Rattle.sched_model.specs.declared.config.Config.{Config}
use Rattle.sched_model.specs.declared.config.DomConfig.{DomConfig}
use Rattle.sched_model.specs.CheckedMachine.{IsGranularity}
use Rattle.sched_model.specs.declared.event.Entry.{Entry}
use Rattle.sched_model.specs.Places.{numbers_from, is_unit, same_unit}
use Rattle.sched_model.specs.Opening.{machine_core_count}
use Rattle.sched_model.specs.Actions.{units_from}
use Rattle.sched_report.specs.declared.line.UnitLine.{UnitLine}
use Rattle.sched_report.specs.declared.line.CoreLine.{CoreLine}
use Rattle.sched_report.specs.Stays.{Stay, Decision, stays, decisions, choices, renewals, last_moment, span}

-- the numbers of the cores
abbrev pub cores : Config → List ℕ
cores config = numbers_from 0 (machine_core_count config)

-- the units, in order of domain and index
abbrev pub units : Config → List UnitId
units config = units_from config.granularity 0 config.domains

-- the stays of the unit, on whichever core
abbrev pub stays_of : Config → List Entry → UnitId → List Stay
stays_of config entries u = filter (λ (s : Stay). same_unit s.unit u) (flat_map (λ r. stays r entries) (cores config))

-- the decisions that find the unit on their core
abbrev pub decisions_on : Config → List Entry → UnitId → List Decision
decisions_on config entries u = filter (λ (d : Decision). is_unit d.before u) (flat_map (λ r. decisions r entries) (cores config))

-- a unit: the time of its stays and their number, how often it was replenished, and how late the decisions were that found it
abbrev pub line_of_unit : Config → List Entry → UnitId → UnitLine
line_of_unit config entries u =
    record {
      unit = u;
      run = sum_by span (stays_of config entries u);
      picks = length (stays_of config entries u);
      repl = length (filter (λ w. same_unit w u) (renewals entries));
      late = sum_by (λ (d : Decision). d.choice.late.0) (decisions_on config entries u);
    }

-- a core: the time of the stays on it, the rest of the time up to the last moment, and the number of its decisions
abbrev pub line_of_core : List Entry → ℕ → CoreLine
line_of_core entries r =
    record {
      core = core_number r;
      run = sum_by span (stays r entries);
      idle = last_moment entries - sum_by span (stays r entries);
      decides = length (choices r entries);
    }

-- what is reported: a line for each unit and for each core, the number of entries, and the moment of the last of them
pub record Figures : Type 0 where
  pub units : List UnitLine
  pub cores : List CoreLine
  pub entries : ℕ
  pub end : ℕ

-- the report of the entries on the machine with that config
abbrev pub report_of : Config → List Entry → Figures
report_of config entries =
    record {
      units = map (line_of_unit config entries) (units config);
      cores = map (line_of_core entries) (cores config);
      entries = length entries;
      end = last_moment entries;
    }

-- the machine is of a size that there is: cores of 1, 2 or 4 processors, up to 64 processors, and up to 64 domains of up to 32 vCPUs;
-- of a config nothing else is looked at
pub record IsSized (config : Config) : Type 0 where
  pub granularity : IsGranularity config.granularity
  pub few_processors : config.processors ≤ 64
  pub few_domains : length config.domains ≤ 64
  pub few_guests : All (λ (d : DomConfig). length d.guests ≤ 32) config.domains
