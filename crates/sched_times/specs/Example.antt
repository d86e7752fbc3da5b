-- The machine of examples/measures, of which docs/MEASURES.md works out the figures by hand: one processor, and two domains of a vCPU each.
use Rattle.std.specs.Prelude.{ℕ, List, [], ◌∷◌, Some, None}
use Rattle.sched_base.specs.Numbers.{moment, span, processor, core, domain}
use Rattle.sched_base.specs.Units.{unit_id}
use Rattle.sched_base.specs.declared.VcpuId.{VcpuId}
use Rattle.sched_model.specs.declared.config.Config.{Config}
use Rattle.sched_model.specs.declared.event.Event.{Event}
use Rattle.sched_model.specs.declared.event.Event.TheVariants as event
use Rattle.sched_model.specs.declared.event.Entry.{Entry}
use Rattle.sched_times.specs.declared.range.Range.{Range}
use Rattle.sched_times.specs.Figures.{run_of_vcpu, wait_of_vcpu, sleep_of_vcpu, run_of_unit, run_of_core, idle_of_core}

-- of the config only this is read
abbrev pub one_processor : Config
one_processor = record { granularity = 1; processors = 1; horizon = moment 32000000; pools = []; domains = [] }

abbrev pub vcpu : ℕ → VcpuId
vcpu d = record { dom = domain d; n = 0 }

abbrev pub at : ℕ → Event → Entry
at t e = record { at = moment t; event = e }

abbrev pub arrive : Event
arrive = event.Arrive (processor 0)

abbrev pub decide : ℕ → Event
decide d = event.Decide (core 0) (Some (unit_id d 0)) None (span 0) 0

abbrev pub leave : ℕ → Event
leave d = event.Leave (processor 0) (Some (vcpu d))

abbrev pub block : ℕ → Event
block d = event.Block (processor 0) (vcpu d)

abbrev pub wake : ℕ → Event
wake d = event.Wake (vcpu d)

-- the lines of examples/measures/schedule.txt that times are read from
unfoldable pub measured : List Entry
measured =
    at 0 arrive ∷
    at 0 (decide 0) ∷
    at 0 (leave 0) ∷
    at 2000000 (block 0) ∷
    at 2000000 arrive ∷
    at 2000000 (decide 1) ∷
    at 2000000 (leave 1) ∷
    at 8000000 arrive ∷
    at 8000000 (decide 1) ∷
    at 8000000 (leave 1) ∷
    at 10000000 (wake 0) ∷
    at 10000000 arrive ∷
    at 10000000 (decide 0) ∷
    at 10000000 (leave 0) ∷
    at 12000000 (block 0) ∷
    at 12000000 arrive ∷
    at 12000000 (decide 1) ∷
    at 12000000 (leave 1) ∷
    at 16000000 arrive ∷
    at 16000000 (decide 1) ∷
    at 16000000 (leave 1) ∷
    at 20000000 (wake 0) ∷
    at 20000000 arrive ∷
    at 20000000 (decide 1) ∷
    at 20000000 (leave 1) ∷
    at 21000000 arrive ∷
    at 21000000 (decide 0) ∷
    at 21000000 (leave 0) ∷
    at 23000000 (block 0) ∷
    at 23000000 arrive ∷
    at 23000000 (decide 1) ∷
    at 23000000 (leave 1) ∷
    at 29000000 arrive ∷
    at 29000000 (decide 1) ∷
    at 29000000 (leave 1) ∷
    at 31000000 (wake 0) ∷
    at 31000000 arrive ∷
    at 31000000 (decide 0) ∷
    at 31000000 (leave 0) ∷
    at 31000000 event.Finish ∷
    []

abbrev pub part : ℕ → ℕ → Range
part from until = record { from = moment from; until = moment until }

-- for how long the vCPU of the domain runs, waits and sleeps
abbrev pub states_of : Range → ℕ → List ℕ
states_of range d =
    run_of_vcpu range one_processor measured (vcpu d) ∷
    wait_of_vcpu range one_processor measured (vcpu d) ∷
    sleep_of_vcpu range one_processor measured (vcpu d) ∷ []

-- for how long its unit has the core
abbrev pub run_of : Range → ℕ → ℕ
run_of range d = run_of_unit range one_processor measured (unit_id d 0)

-- for how long the core has a unit, and has none
abbrev pub core_times : Range → List ℕ
core_times range = run_of_core range one_processor measured (core 0) ∷ idle_of_core range one_processor measured (core 0) ∷ []

-- a core of two processors, whose unit has two vCPUs. The second one sleeps for 5 of 10 ns and then wakes: its processor idles, and its unit
-- has the core, so that it runs at once
abbrev pub two_processors : Config
two_processors = record { granularity = 2; processors = 2; horizon = moment 10; pools = []; domains = [] }

abbrev pub second : VcpuId
second = record { dom = domain 0; n = 1 }

unfoldable pub woken_at_once : List Entry
woken_at_once =
    at 0 (event.Arrive (processor 0)) ∷
    at 0 (event.Arrive (processor 1)) ∷
    at 0 (decide 0) ∷
    at 0 (leave 0) ∷
    at 0 (event.Leave (processor 1) (Some second)) ∷
    at 4 (event.Block (processor 1) second) ∷
    at 9 (event.Wake second) ∷
    at 9 event.Finish ∷
    []

abbrev pub states_of_second : List ℕ
states_of_second =
    run_of_vcpu (part 0 10) two_processors woken_at_once second ∷
    wait_of_vcpu (part 0 10) two_processors woken_at_once second ∷
    sleep_of_vcpu (part 0 10) two_processors woken_at_once second ∷ []
