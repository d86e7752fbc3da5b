-- Words for the examples: short forms of the parts of a machine, and what is said of its run.
use Rattle.std.specs.Prelude.{◌≡◌, ℕ, suc, Bool, true, List, [], Option, Result, Err, length}
use Rattle.sched_base.specs.Numbers.{moment, span, processor, domain as domain_number, pool as pool_number}
use Rattle.sched_base.specs.declared.UnitId.{UnitId}
use Rattle.sched_base.specs.Units.{unit_id}
use Rattle.sched_base.specs.declared.VcpuId.{VcpuId}
use Rattle.sched_base.specs.declared.Span.{Span}
use Rattle.sched_base.specs.declared.Cores.{Cores}
use Rattle.sched_model.specs.declared.config.Frame.{Frame}
use Rattle.sched_model.specs.declared.config.FrameEntry.{FrameEntry}
use Rattle.sched_model.specs.declared.config.PoolConfig.{PoolConfig}
use Rattle.sched_model.specs.declared.config.DomConfig.{DomConfig}
use Rattle.sched_model.specs.declared.config.SchedKind.TheVariants as kinds
use Rattle.sched_model.specs.declared.config.PoolParams.TheVariants as pool_params
use Rattle.sched_model.specs.declared.config.DomParams.TheVariants as dom_params
use Rattle.sched_model.specs.declared.command.Command.{Command}
use Rattle.sched_model.specs.declared.command.ArincEntry.{ArincEntry}
use Rattle.sched_model.specs.declared.command.Which.{Which}
use Rattle.sched_model.specs.declared.command.Syntax.{Syntax}
use Rattle.sched_model.specs.declared.work.StallLine.{StallLine}
use Rattle.sched_model.specs.declared.work.CommandLine.{CommandLine}
use Rattle.sched_model.specs.declared.event.Event.{Event}
use Rattle.sched_model.specs.declared.event.Entry.{Entry}
use Rattle.sched_model.specs.declared.machine.Machine.{Machine}
use Rattle.sched_model.specs.Opening.{opening}
use Rattle.sched_model.specs.Machine.{ordered_run}
use Rattle.sched_laws.specs.Laws.{ordered_run_is_sound}

-- the unit n of the domain d
abbrev pub unit : ℕ → ℕ → UnitId
unit = unit_id

-- the vCPU n of the domain d
abbrev pub vcpu : ℕ → ℕ → VcpuId
vcpu d n = record { dom = domain_number d; n = n }

-- the script of a vCPU that always runs
abbrev pub endless_script : List Span
endless_script = []

-- a window of a frame: the unit n of the domain d runs for a span
abbrev pub window : ℕ → ℕ → ℕ → FrameEntry
window d n run = record { dom = domain_number d; unit = n; run = span run }

-- a frame of windows
abbrev pub frame : ℕ → List FrameEntry → Frame
frame major windows = record { major = span major; entries = windows }

-- a window of the frame that a command sets
abbrev pub new_window : Which → ℕ → ℕ → ArincEntry
new_window d n run = record { dom = d; unit = n; run = run }

-- a Credit2 pool with a set of cores and a rate limit in microseconds
abbrev pub credit2_pool : List ℕ → ℕ → ℕ → PoolConfig
credit2_pool name cores limit = record { name = name; kind = kinds.Credit2; cores = cores; params = pool_params.Credit2 limit }

-- an RTDS pool with a set of cores
abbrev pub rtds_pool : List ℕ → ℕ → PoolConfig
rtds_pool name cores = record { name = name; kind = kinds.Rtds; cores = cores; params = pool_params.Rtds }

-- an ARINC 653 pool with a set of cores and a frame
abbrev pub arinc_pool : List ℕ → ℕ → Option Frame → PoolConfig
arinc_pool name cores frame = record { name = name; kind = kinds.Arinc653; cores = cores; params = pool_params.Arinc653 frame }

-- a null pool with a set of cores
abbrev pub null_pool : List ℕ → ℕ → PoolConfig
null_pool name cores = record { name = name; kind = kinds.Null; cores = cores; params = pool_params.Null }

-- a domain of a Credit2 pool, with its weight and its cap
abbrev pub credit2_domain : List ℕ → ℕ → ℕ → ℕ → List (List Span) → DomConfig
credit2_domain name home weight cap guests = record { name = name; home = pool_number home; guests = guests; params = dom_params.Credit2 weight cap; pins = [] }

-- a domain of an RTDS pool, with its period, its budget and whether it has extra time
abbrev pub rtds_domain : List ℕ → ℕ → ℕ → ℕ → Bool → List (List Span) → DomConfig
rtds_domain name home period budget extra guests = record { name = name; home = pool_number home; guests = guests; params = dom_params.Rtds (span period) (span budget) extra; pins = [] }

-- a domain of an ARINC 653 pool
abbrev pub arinc_domain : List ℕ → ℕ → List (List Span) → DomConfig
arinc_domain name home guests = record { name = name; home = pool_number home; guests = guests; params = dom_params.Arinc653; pins = [] }

-- a domain of a null pool
abbrev pub null_domain : List ℕ → ℕ → List (List Span) → DomConfig
null_domain name home guests = record { name = name; home = pool_number home; guests = guests; params = dom_params.Null; pins = [] }

-- a domain with a set of cores for each of its units
abbrev pub pinned_domain : List Cores → DomConfig → DomConfig
pinned_domain pins domain = record domain { pins = pins }

-- a processor stalls at a moment for a span
abbrev pub stall : ℕ → ℕ → ℕ → StallLine
stall t p long = record { at = moment t; cpu = processor p; span = span long }

-- a command at a moment
abbrev pub xl : ℕ → Result Command Syntax → CommandLine
xl t command = record { at = moment t; command = command }

-- words that are no command: none goes on with the word at this place
abbrev pub no_reading : ℕ → Result Command Syntax
no_reading place = Err (record { place = place })

-- an entry
abbrev pub at : ℕ → Event → Entry
at t event = record { at = moment t; event = event }

-- the entries of an ordered run that has fewer than a hundred
abbrev pub run_of : Machine → List Entry
run_of m = ordered_run 100 m (opening m)

-- the ordered run of the machine has these entries, and no more
abbrev pub RunsAs : Machine → List Entry → Type 0
RunsAs m entries = ordered_run (suc (length entries)) m (opening m) ≡ entries

-- the ordered run of the machine begins with these entries
abbrev pub BeginsWith : Machine → List Entry → Type 0
BeginsWith m entries = ordered_run (length entries) m (opening m) ≡ entries

-- each of the first states of the ordered run, so many entries in, is sound, and nobody waits there without need before an entry that ends the moment
abbrev pub IsSoundFor : ℕ → Machine → Type 0
IsSoundFor entries m = ordered_run_is_sound entries m (opening m) ≡ true
