-- Sets of cores of units.
use Rattle.std.specs.Prelude.{List, [], ◌∷◌, Some, None, Ok, Err, true, codes}
use Rattle.sched_base.specs.Numbers.{moment, span, processor, core, core_set}
use Rattle.sched_model.specs.declared.event.Entry.{Entry}
use Rattle.sched_model.specs.declared.machine.Machine.{Machine}
use Rattle.sched_examples.specs.Words.{unit, vcpu, endless_script, credit2_pool, credit2_domain, pinned_domain, xl, no_reading, at}
use Rattle.sched_model.specs.declared.event.Event.TheVariants as event
use Rattle.sched_model.specs.declared.event.Refusal.TheVariants as refusal
use Rattle.sched_model.specs.declared.event.Reply.TheVariants as reply
use Rattle.sched_model.specs.declared.command.Command.TheVariants as command
use Rattle.sched_model.specs.declared.command.Which.TheVariants as which

-- two units that may only be on the first of two cores
unfoldable pub machine_pins_of_the_file : Machine
machine_pins_of_the_file = record {
  config = record {
    granularity = 1;
    processors = 2;
    horizon = moment 1000000;
    pools = credit2_pool (codes "Pool-0") 3 1000 ∷ [];
    domains = pinned_domain (core_set 1 ∷ core_set 1 ∷ []) (credit2_domain (codes "a") 0 256 0 (endless_script ∷ endless_script ∷ [])) ∷ [];
  };
  work = record {
    stalls = [];
    commands = [];
  };
}

-- its ordered run
unfoldable pub entries_pins_of_the_file : List Entry
entries_pins_of_the_file =
    at 0 (event.Arrive (processor 0)) ∷
    at 0 (event.Arrive (processor 1)) ∷
    at 0 (event.Decide (core 0) (Some (unit 0 0)) (Some (moment 1000000)) (span 0) 0) ∷
    at 0 (event.Decide (core 1) None None (span 0) 0) ∷
    at 0 (event.Leave (processor 0) (Some (vcpu 0 0))) ∷
    at 0 (event.Leave (processor 1) None) ∷
    at 0 (event.End (moment 1000000)) ∷
    at 1000000 (event.Slice (core 0)) ∷
    at 1000000 (event.Arrive (processor 0)) ∷
    at 1000000 (event.Decide (core 0) (Some (unit 0 1)) (Some (moment 11000000)) (span 0) 0) ∷
    at 1000000 (event.Leave (processor 0) (Some (vcpu 0 1))) ∷
    at 1000000 (event.Save (core 0) (unit 0 0) true) ∷
    at 1000000 event.Finish ∷
    []

-- two units on two cores, and a command that pins the second to the first core
unfoldable pub machine_pin_by_command : Machine
machine_pin_by_command = record {
  config = record {
    granularity = 1;
    processors = 2;
    horizon = moment 1000000;
    pools = credit2_pool (codes "Pool-0") 3 1000 ∷ [];
    domains = credit2_domain (codes "a") 0 256 0 (endless_script ∷ endless_script ∷ []) ∷ [];
  };
  work = record {
    stalls = [];
    commands = xl 500000 (Ok (command.Pin (which.Name (codes "a")) (Some 1) ((0, 0) ∷ []))) ∷ [];
  };
}

-- its ordered run
unfoldable pub entries_pin_by_command : List Entry
entries_pin_by_command =
    at 0 (event.Arrive (processor 0)) ∷
    at 0 (event.Arrive (processor 1)) ∷
    at 0 (event.Decide (core 0) (Some (unit 0 0)) (Some (moment 1000000)) (span 0) 0) ∷
    at 0 (event.Decide (core 1) (Some (unit 0 1)) (Some (moment 10000000)) (span 0) 0) ∷
    at 0 (event.Leave (processor 0) (Some (vcpu 0 0))) ∷
    at 0 (event.Leave (processor 1) (Some (vcpu 0 1))) ∷
    at 0 (event.End (moment 500000)) ∷
    at 500000 (event.Xl 1 (Ok (reply.Done))) ∷
    at 500000 (event.Arrive (processor 1)) ∷
    at 500000 (event.Decide (core 1) None None (span 0) 0) ∷
    at 500000 (event.Leave (processor 1) None) ∷
    at 500000 (event.Save (core 1) (unit 0 1) true) ∷
    at 500000 (event.End (moment 1000000)) ∷
    at 1000000 (event.Slice (core 0)) ∷
    at 1000000 (event.Arrive (processor 0)) ∷
    at 1000000 (event.Decide (core 0) (Some (unit 0 1)) (Some (moment 10500000)) (span 0) 0) ∷
    at 1000000 (event.Leave (processor 0) (Some (vcpu 0 1))) ∷
    at 1000000 (event.Save (core 0) (unit 0 0) true) ∷
    at 1000000 (event.Arrive (processor 1)) ∷
    at 1000000 (event.Decide (core 1) (Some (unit 0 0)) (Some (moment 10000000)) (span 0) 0) ∷
    at 1000000 (event.Leave (processor 1) (Some (vcpu 0 0))) ∷
    at 1000000 event.Finish ∷
    []

-- two units, and commands that pin them to what is not there
unfoldable pub machine_pins_are_refused : Machine
machine_pins_are_refused = record {
  config = record {
    granularity = 1;
    processors = 3;
    horizon = moment 1000000;
    pools = credit2_pool (codes "Pool-0") 3 1000 ∷ [];
    domains = credit2_domain (codes "a") 0 256 0 (endless_script ∷ endless_script ∷ []) ∷ [];
  };
  work = record {
    stalls = [];
    commands =
        xl 500000 (Ok (command.Pin (which.Name (codes "zed")) (Some 0) ((0, 0) ∷ []))) ∷
        xl 500000 (Ok (command.Pin (which.Name (codes "a")) (Some 5) ((0, 0) ∷ []))) ∷
        xl 500000 (Ok (command.Pin (which.Name (codes "a")) (Some 0) ((1, 7) ∷ []))) ∷
        xl 500000 (Ok (command.Pin (which.Name (codes "a")) None ((2, 2) ∷ []))) ∷
        xl 500000 (no_reading 3) ∷
        [];
  };
}

-- its ordered run
unfoldable pub entries_pins_are_refused : List Entry
entries_pins_are_refused =
    at 0 (event.Arrive (processor 0)) ∷
    at 0 (event.Arrive (processor 1)) ∷
    at 0 (event.Decide (core 0) (Some (unit 0 0)) (Some (moment 1000000)) (span 0) 0) ∷
    at 0 (event.Decide (core 1) (Some (unit 0 1)) (Some (moment 10000000)) (span 0) 0) ∷
    at 0 (event.Leave (processor 0) (Some (vcpu 0 0))) ∷
    at 0 (event.Leave (processor 1) (Some (vcpu 0 1))) ∷
    at 0 (event.End (moment 500000)) ∷
    at 500000 (event.Xl 1 (Err (refusal.NoDomain))) ∷
    at 500000 (event.Xl 2 (Err (refusal.NoVcpu))) ∷
    at 500000 (event.Xl 3 (Err (refusal.NoCpu 3))) ∷
    at 500000 (event.Xl 4 (Err (refusal.CpuElsewhere 2))) ∷
    at 500000 (event.Xl 5 (Err (refusal.Syntax 3))) ∷
    at 500000 (event.End (moment 1000000)) ∷
    at 1000000 (event.Slice (core 0)) ∷
    at 1000000 (event.Arrive (processor 0)) ∷
    at 1000000 (event.Decide (core 0) (Some (unit 0 0)) (Some (moment 10000000)) (span 0) 0) ∷
    at 1000000 (event.Leave (processor 0) (Some (vcpu 0 0))) ∷
    at 1000000 event.Finish ∷
    []

-- two units, a command that pins one, and others that are refused
unfoldable pub machine_pin_and_refusals : Machine
machine_pin_and_refusals = record {
  config = record {
    granularity = 1;
    processors = 3;
    horizon = moment 1000000;
    pools = credit2_pool (codes "Pool-0") 3 1000 ∷ [];
    domains = credit2_domain (codes "a") 0 256 0 (endless_script ∷ endless_script ∷ []) ∷ [];
  };
  work = record {
    stalls = [];
    commands =
        xl 500000 (Ok (command.Pin (which.Name (codes "a")) (Some 1) ((0, 0) ∷ []))) ∷
        xl 500000 (Ok (command.Pin (which.Name (codes "zed")) (Some 0) ((0, 0) ∷ []))) ∷
        xl 500000 (Ok (command.Pin (which.Name (codes "a")) (Some 5) ((0, 0) ∷ []))) ∷
        xl 500000 (Ok (command.Pin (which.Name (codes "a")) (Some 0) ((1, 7) ∷ []))) ∷
        xl 500000 (Ok (command.Pin (which.Name (codes "a")) None ((2, 2) ∷ []))) ∷
        xl 500000 (no_reading 3) ∷
        [];
  };
}

-- its ordered run
unfoldable pub entries_pin_and_refusals : List Entry
entries_pin_and_refusals =
    at 0 (event.Arrive (processor 0)) ∷
    at 0 (event.Arrive (processor 1)) ∷
    at 0 (event.Decide (core 0) (Some (unit 0 0)) (Some (moment 1000000)) (span 0) 0) ∷
    at 0 (event.Decide (core 1) (Some (unit 0 1)) (Some (moment 10000000)) (span 0) 0) ∷
    at 0 (event.Leave (processor 0) (Some (vcpu 0 0))) ∷
    at 0 (event.Leave (processor 1) (Some (vcpu 0 1))) ∷
    at 0 (event.End (moment 500000)) ∷
    at 500000 (event.Xl 1 (Ok (reply.Done))) ∷
    at 500000 (event.Xl 2 (Err (refusal.NoDomain))) ∷
    at 500000 (event.Xl 3 (Err (refusal.NoVcpu))) ∷
    at 500000 (event.Xl 4 (Err (refusal.NoCpu 3))) ∷
    at 500000 (event.Xl 5 (Err (refusal.CpuElsewhere 2))) ∷
    at 500000 (event.Xl 6 (Err (refusal.Syntax 3))) ∷
    at 500000 (event.Arrive (processor 1)) ∷
    at 500000 (event.Decide (core 1) None None (span 0) 0) ∷
    at 500000 (event.Leave (processor 1) None) ∷
    at 500000 (event.Save (core 1) (unit 0 1) true) ∷
    at 500000 (event.End (moment 1000000)) ∷
    at 1000000 (event.Slice (core 0)) ∷
    at 1000000 (event.Arrive (processor 0)) ∷
    at 1000000 (event.Decide (core 0) (Some (unit 0 1)) (Some (moment 10500000)) (span 0) 0) ∷
    at 1000000 (event.Leave (processor 0) (Some (vcpu 0 1))) ∷
    at 1000000 (event.Save (core 0) (unit 0 0) true) ∷
    at 1000000 (event.Arrive (processor 1)) ∷
    at 1000000 (event.Decide (core 1) (Some (unit 0 0)) (Some (moment 10000000)) (span 0) 0) ∷
    at 1000000 (event.Leave (processor 1) (Some (vcpu 0 0))) ∷
    at 1000000 event.Finish ∷
    []
