-- The machines whose values pass the checks of the domain file and of the work file. Both readers promise it, and every law needs it.
use Rattle.std.specs.Prelude.{◌≡◌, ◌≤◌, ◌<◌, ◌⊎◌, ◌*◌, ◌%◌, ◌^◌, ℕ, true, List, [], ◌∷◌, ◌-◌, Option, Some, slice_get, length, sum_by, ⊤}
pub use Rattle.sched_base.specs.Numbers.{most_span}
use Rattle.std.specs.List.{All}
use Rattle.std.specs.Option.{IfSome}
use Rattle.std.specs.Result.{IfOk, IfErr}
use Rattle.sched_base.specs.Names.{is_valid_name}
use Rattle.sched_base.specs.declared.Span.{Span}
use Rattle.sched_base.specs.declared.Cores.{Cores}
use Rattle.sched_model.specs.declared.config.Config.{Config}
use Rattle.sched_model.specs.declared.config.PoolConfig.{PoolConfig}
use Rattle.sched_model.specs.declared.config.DomConfig.{DomConfig}
use Rattle.sched_model.specs.declared.config.Frame.{Frame}
use Rattle.sched_model.specs.declared.config.FrameEntry.{FrameEntry}
use Rattle.sched_model.specs.declared.config.SchedKind.{SchedKind}
use Rattle.sched_model.specs.declared.config.SchedKind.TheVariants as kinds
use Rattle.sched_model.specs.declared.config.PoolParams.{PoolParams}
use Rattle.sched_model.specs.declared.config.PoolParams.TheVariants as pool_params
use Rattle.sched_model.specs.declared.config.DomParams.{DomParams}
use Rattle.sched_model.specs.declared.config.DomParams.TheVariants as dom_params
use Rattle.sched_model.specs.declared.command.ArincEntry.{ArincEntry}
use Rattle.sched_model.specs.declared.command.Syntax.{Syntax}
use Rattle.sched_model.specs.declared.command.Command.{Command}
use Rattle.sched_model.specs.declared.command.Command.TheVariants as command
use Rattle.sched_model.specs.declared.command.Which.{Which}
use Rattle.sched_model.specs.declared.command.Which.TheVariants.{Name, Number}
use Rattle.sched_model.specs.declared.work.Work.{Work}
use Rattle.sched_model.specs.declared.work.StallLine.{StallLine}
use Rattle.sched_model.specs.declared.work.CommandLine.{CommandLine}
use Rattle.sched_model.specs.State.{Machine, has_core_bit}
use Rattle.sched_model.specs.Opening.{machine_core_count}
use Rattle.sched_model.specs.Actions.{units_from}

-- the number is in the range
pub record IsWithin (low high n : ℕ) : Type 0 where
  pub least : low ≤ n
  pub most : n ≤ high

-- a core has one, two or four processors
abbrev pub IsGranularity : ℕ → Type 0
IsGranularity g = (g ≡ 1) ⊎ (g ≡ 2) ⊎ (g ≡ 4)

-- the unit is one of a domain of the machine
abbrev pub HasUnit : Config → FrameEntry → Type 0
HasUnit config e = (domain : DomConfig) × (slice_get config.domains e.dom.0 ≡ Some domain) × (e.unit * config.granularity < length domain.guests)

-- a frame has 1 to 64 entries of units that are there, and their runs fit its major span
pub record IsCheckedFrame (config : Config) (frame : Frame) : Type 0 where
  pub major : IsWithin 1 most_span frame.major.0
  pub some_entry : 1 ≤ length frame.entries
  pub few_entries : length frame.entries ≤ 64
  pub runs : All (λ (e : FrameEntry). IsWithin 1 most_span e.run.0) frame.entries
  pub fits : sum_by (λ (e : FrameEntry). e.run.0) frame.entries ≤ frame.major.0
  pub units : All (HasUnit config) frame.entries

-- the parameters are of this scheduler, and in range
abbrev pub PoolParamsPass : Config → SchedKind → PoolParams → Type 0
PoolParamsPass config kinds.Credit2 (pool_params.Credit2 limit) = (limit ≡ 0) ⊎ IsWithin 100 500000 limit
PoolParamsPass config kinds.Rtds pool_params.Rtds = ⊤
PoolParamsPass config kinds.Arinc653 (pool_params.Arinc653 frame) = IfSome frame (IsCheckedFrame config)
PoolParamsPass config kinds.Null pool_params.Null = ⊤
PoolParamsPass config kind params = ⊥

-- a pool of the file: an ARINC 653 pool has one core at most
pub record IsCheckedPool (config : Config) (pool : PoolConfig) : Type 0 where
  pub name : is_valid_name pool.name ≡ true
  pub cores : pool.cores < 2 ^ machine_core_count config
  pub params : PoolParamsPass config pool.kind pool.params
  pub one_core : pool.kind ≡ kinds.Arinc653 → (r s : ℕ) → has_core_bit pool.cores r ≡ true → has_core_bit pool.cores s ≡ true → r ≡ s

-- a script has an even count of spans, at most 64
pub record IsCheckedScript (script : List Span) : Type 0 where
  pub few : length script ≤ 64
  pub even : length script % 2 ≡ 0
  pub spans : All (λ (s : Span). IsWithin 1 most_span s.0) script

-- the parameters are of this scheduler, and in range; spans are in nanoseconds
abbrev pub DomParamsPass : SchedKind → DomParams → Type 0
DomParamsPass kinds.Credit2 (dom_params.Credit2 weight cap) = IsWithin 1 65535 weight × (cap ≤ 6400)
DomParamsPass kinds.Rtds (dom_params.Rtds period budget extra) = IsWithin 10000 1000000000000 period.0 × IsWithin 10000 period.0 budget.0
DomParamsPass kinds.Arinc653 dom_params.Arinc653 = ⊤
DomParamsPass kinds.Null dom_params.Null = ⊤
DomParamsPass kind params = ⊥

-- no sets of cores at all, or one for each unit, each with a core of the machine
pub record IsCheckedPins (config : Config) (domain : DomConfig) : Type 0 where
  pub count : (domain.pins ≡ []) ⊎ (length domain.pins ≡ length (units_from config.granularity 0 (domain ∷ [])))
  pub cores : All (λ (c : Cores). IsWithin 1 (2 ^ machine_core_count config - 1) c.0) domain.pins

-- a domain of the file: its home is a pool with a core, and it has 1 to 32 vCPUs
pub record IsCheckedDomain (config : Config) (domain : DomConfig) : Type 0 where
  pub name : is_valid_name domain.name ≡ true
  pub home : domain.home.0 < length config.pools
  pub home_pool : (pool : PoolConfig) → slice_get config.pools domain.home.0 ≡ Some pool → (0 < pool.cores) × DomParamsPass pool.kind domain.params
  pub some_guest : 1 ≤ length domain.guests
  pub few_guests : length domain.guests ≤ 32
  pub scripts : All IsCheckedScript domain.guests
  pub pins : IsCheckedPins config domain

-- all values of the domain file
pub record IsCheckedConfig (config : Config) : Type 0 where
  pub granularity : IsGranularity config.granularity
  pub processors : IsWithin 1 64 config.processors
  pub whole_cores : config.processors % config.granularity ≡ 0
  pub horizon : IsWithin 1 most_span config.horizon.0
  pub some_pool : 1 ≤ length config.pools
  pub few_pools : length config.pools ≤ 16
  pub few_domains : length config.domains ≤ 64
  pub pools : All (IsCheckedPool config) config.pools
  pub cores_apart : (i j r : ℕ) (p q : PoolConfig) → slice_get config.pools i ≡ Some p → slice_get config.pools j ≡ Some q → has_core_bit p.cores r ≡ true → has_core_bit q.cores r ≡ true → i ≡ j
  pub pool_names_apart : (i j : ℕ) (p q : PoolConfig) → slice_get config.pools i ≡ Some p → slice_get config.pools j ≡ Some q → p.name ≡ q.name → i ≡ j
  pub domains : All (IsCheckedDomain config) config.domains
  pub domain_names_apart : (i j : ℕ) (d e : DomConfig) → slice_get config.domains i ≡ Some d → slice_get config.domains j ≡ Some e → d.name ≡ e.name → i ≡ j
  pub few_units : length (units_from config.granularity 0 config.domains) ≤ 256

-- a number of the work file has up to 15 digits
abbrev pub IsNumber : ℕ → Type 0
IsNumber n = n < 10 ^ 15

-- the same of one that is given
abbrev pub IsGivenNumber : Option ℕ → Type 0
IsGivenNumber n = IfSome n IsNumber

-- a pool or a domain as a command names it
abbrev pub IsCheckedWhich : Which → Type 0
IsCheckedWhich (Name name) = is_valid_name name ≡ true
IsCheckedWhich (Number n) = IsNumber n

-- an entry of the frame that a command sets
pub record IsCheckedEntry (e : ArincEntry) : Type 0 where
  pub dom : IsCheckedWhich e.dom
  pub unit : IsNumber e.unit
  pub run : IsNumber e.run

-- a range of processors
abbrev pub IsCheckedRange : ℕ × ℕ → Type 0
IsCheckedRange range = (range.0 ≤ range.1) × IsNumber range.1

-- a command that has a reading
abbrev pub IsCheckedCommand : Command → Type 0
IsCheckedCommand (command.PoolList pool) = IfSome pool IsCheckedWhich
IsCheckedCommand (command.PoolCreate name sched) = is_valid_name name ≡ true
IsCheckedCommand (command.PoolDestroy pool) = IsCheckedWhich pool
IsCheckedCommand (command.PoolRename pool name) = IsCheckedWhich pool × (is_valid_name name ≡ true)
IsCheckedCommand (command.CpuAdd pool cpu) = IsCheckedWhich pool × IsNumber cpu
IsCheckedCommand (command.CpuRemove pool cpu) = IsCheckedWhich pool × IsNumber cpu
IsCheckedCommand (command.Migrate dom pool) = IsCheckedWhich dom × IsCheckedWhich pool
IsCheckedCommand (command.Credit2Dom dom weight cap) = IsCheckedWhich dom × IsGivenNumber weight × IsGivenNumber cap
IsCheckedCommand (command.Credit2Pool pool limit) = IsCheckedWhich pool × IsGivenNumber limit
IsCheckedCommand (command.RtdsDom dom vcpu period budget extra) = IsCheckedWhich dom × IsGivenNumber vcpu × IsGivenNumber period × IsGivenNumber budget
IsCheckedCommand (command.Pause dom) = IsCheckedWhich dom
IsCheckedCommand (command.Unpause dom) = IsCheckedWhich dom
IsCheckedCommand (command.ArincSet pool major entries) = IsCheckedWhich pool × IsNumber major × (1 ≤ length entries) × (length entries ≤ 64) × All IsCheckedEntry entries
IsCheckedCommand (command.Pin dom vcpu cpus) = IsCheckedWhich dom × IsGivenNumber vcpu × (length cpus ≤ 64) × All IsCheckedRange cpus

-- a line with a stall
pub record IsCheckedStall (config : Config) (line : StallLine) : Type 0 where
  pub at : line.at.0 ≤ most_span
  pub cpu : line.cpu.0 < config.processors
  pub span : IsWithin 1 most_span line.span.0

-- a line with a command; where its words are none, the place of their fault is a number of 32 bits
pub record IsCheckedCommandLine (line : CommandLine) : Type 0 where
  pub at : line.at.0 ≤ most_span
  pub command : IfOk line.command IsCheckedCommand
  pub place : IfErr line.command (λ (fault : Syntax). fault.place < 2 ^ 32)

-- all values of the work file: at most 4096 lines of each kind, in order of their moments
pub record IsCheckedWork (config : Config) (work : Work) : Type 0 where
  pub few_stalls : length work.stalls ≤ 4096
  pub stalls : All (IsCheckedStall config) work.stalls
  pub stalls_in_order : (i j : ℕ) (a b : StallLine) → i ≤ j → slice_get work.stalls i ≡ Some a → slice_get work.stalls j ≡ Some b → a.at.0 ≤ b.at.0
  pub few_commands : length work.commands ≤ 4096
  pub commands : All IsCheckedCommandLine work.commands
  pub commands_in_order : (i j : ℕ) (a b : CommandLine) → i ≤ j → slice_get work.commands i ≡ Some a → slice_get work.commands j ≡ Some b → a.at.0 ≤ b.at.0

-- all values of both files
pub record IsChecked (m : Machine) : Type 0 where
  pub config : IsCheckedConfig m.config
  pub work : IsCheckedWork m.config m.work
