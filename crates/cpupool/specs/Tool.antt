-- What the tool knows: of the machine what commands are judged by, its workload, and the tool's part of the state.
use Rattle.std.specs.Prelude.{◌≡◌, ◌≤◌, ℕ, List, length, map, option_map}
use Rattle.sched_model.specs.declared.config.DomConfig.{DomConfig}
use Rattle.sched_model.specs.declared.work.StallLine.{StallLine}
use Rattle.sched_model.specs.declared.work.CommandLine.{CommandLine}
use Rattle.sched_base.specs.declared.DomId.{DomId}
use Rattle.sched_base.specs.declared.Moment.{Moment}
use Rattle.sched_base.specs.declared.PoolId.{PoolId}
use Rattle.sched_model.specs.declared.state.Domain.{Domain}
use Rattle.sched_model.specs.declared.machine.Machine.{Machine}
use Rattle.sched_model.specs.declared.state.FreeCore.{FreeCore}
use Rattle.sched_model.specs.declared.state.State.{State}
use Rattle.journal_core.specs.Parts.{ToolPart, UnderWay, core_to, domain_to, tool_of as part_of_tool}
use Rattle.cpupool.specs.declared.outline.DomainEntry.{DomainEntry}
use Rattle.cpupool.specs.declared.outline.MoveUnderWay.{MoveUnderWay}
use Rattle.cpupool.specs.declared.outline.MoveUnderWay.TheVariants as way

-- what the tool knows: the processors of a core, all processors, the domains' names and how many vCPUs they have, the workload,
-- and the tool's part of the state
pub record Tool : Type 0 where
  pub granularity : ℕ
  pub processors : ℕ
  pub domains : List DomainEntry
  pub stalls : List StallLine
  pub commands : List CommandLine
  pub part : ToolPart

-- a domain's name and how many vCPUs it has
abbrev pub domain_entry : DomConfig → DomainEntry
domain_entry d = record { name = d.name; vcpus = length d.guests }

-- what the tool knows of a machine that stands in this state
abbrev pub tool_of : Machine → State → Tool
tool_of m s =
    record {
      granularity = m.config.granularity;
      processors = m.config.processors;
      domains = map domain_entry m.config.domains;
      stalls = m.work.stalls;
      commands = m.work.commands;
      part = part_of_tool s;
    }

-- the tool knows this machine: with the tool's part of any state it is all that the tool knows of the machine in that state
abbrev pub KnowsMachine : Machine → Tool → Type 0
KnowsMachine m tool = (s : State) → record tool { part = part_of_tool s } ≡ tool_of m s

-- how many vCPUs a domain has
abbrev pub domain_size : Domain → ℕ
domain_size d = length d.vcpus

-- the ends of the stalls of a core's processors
abbrev pub free_core_ends : FreeCore → List Moment
free_core_ends c = c.stall_ends

-- the number of a pool, and of a domain
abbrev pub number_of_pool : PoolId → ℕ
number_of_pool i = i.0

abbrev pub number_of_domain : DomId → ℕ
number_of_domain d = d.0

-- what is on its way
abbrev pub way_of : MoveUnderWay → UnderWay
way_of (way.Core r to) = core_to r.0 (option_map number_of_pool to)
way_of (way.Domain d to) = domain_to d.0 to.0

-- a core has 1 to 4 processors, there are at most 64 of these and at most 64 domains, and at most 4096 stalls and commands
pub record IsKnown (granularity processors domains stalls commands : ℕ) : Type 0 where
  pub some_processor : 1 ≤ granularity
  pub few_siblings : granularity ≤ 4
  pub few_processors : processors ≤ 64
  pub few_domains : domains ≤ 64
  pub few_stalls : stalls ≤ 4096
  pub few_commands : commands ≤ 4096
