-- Credit2 pools.
use Rattle.std.specs.Prelude.{List, [], ◌∷◌, Some, None, Ok, true, codes}
use Rattle.sched_base.specs.Numbers.{moment, span, processor, core}
use Rattle.sched_model.specs.declared.event.Entry.{Entry}
use Rattle.sched_model.specs.declared.machine.Machine.{Machine}
use Rattle.sched_examples.specs.Words.{unit, vcpu, endless_script, credit2_pool, credit2_domain, stall, xl, at}
use Rattle.sched_model.specs.declared.event.Event.TheVariants as event
use Rattle.sched_model.specs.declared.event.Reply.TheVariants as reply
use Rattle.sched_model.specs.declared.command.Command.TheVariants as command
use Rattle.sched_model.specs.declared.command.Which.TheVariants as which

-- a machine without domains
unfoldable pub machine_no_domains : Machine
machine_no_domains = record {
  config = record {
    granularity = 1;
    processors = 1;
    horizon = moment 1000;
    pools = credit2_pool (codes "Pool-0") 1 1000 ∷ [];
    domains = [];
  };
  work = record {
    stalls = [];
    commands = [];
  };
}

-- its ordered run
unfoldable pub entries_no_domains : List Entry
entries_no_domains =
    at 0 (event.Arrive (processor 0)) ∷
    at 0 (event.Decide (core 0) None None (span 0) 0) ∷
    at 0 (event.Leave (processor 0) None) ∷
    at 0 event.Finish ∷
    []

-- two units, one with twice the weight of the other
unfoldable pub machine_two_weights : Machine
machine_two_weights = record {
  config = record {
    granularity = 1;
    processors = 1;
    horizon = moment 16000000;
    pools = credit2_pool (codes "Pool-0") 1 1000 ∷ [];
    domains = credit2_domain (codes "a") 0 256 0 (endless_script ∷ []) ∷ credit2_domain (codes "b") 0 512 0 (endless_script ∷ []) ∷ [];
  };
  work = record {
    stalls = [];
    commands = [];
  };
}

-- its ordered run
unfoldable pub entries_two_weights : List Entry
entries_two_weights =
    at 0 (event.Arrive (processor 0)) ∷
    at 0 (event.Decide (core 0) (Some (unit 0 0)) (Some (moment 1000000)) (span 0) 0) ∷
    at 0 (event.Leave (processor 0) (Some (vcpu 0 0))) ∷
    at 0 (event.End (moment 1000000)) ∷
    at 1000000 (event.Slice (core 0)) ∷
    at 1000000 (event.Arrive (processor 0)) ∷
    at 1000000 (event.Decide (core 0) (Some (unit 1 0)) (Some (moment 11000000)) (span 0) 0) ∷
    at 1000000 (event.Leave (processor 0) (Some (vcpu 1 0))) ∷
    at 1000000 (event.Save (core 0) (unit 0 0) true) ∷
    at 1000000 (event.End (moment 11000000)) ∷
    at 11000000 (event.Slice (core 0)) ∷
    at 11000000 (event.Arrive (processor 0)) ∷
    at 11000000 (event.Decide (core 0) (Some (unit 0 0)) (Some (moment 15000000)) (span 0) 0) ∷
    at 11000000 (event.Leave (processor 0) (Some (vcpu 0 0))) ∷
    at 11000000 (event.Save (core 0) (unit 1 0) true) ∷
    at 11000000 (event.End (moment 15000000)) ∷
    at 15000000 (event.Slice (core 0)) ∷
    at 15000000 (event.Arrive (processor 0)) ∷
    at 15000000 (event.Decide (core 0) (Some (unit 0 0)) (Some (moment 16000000)) (span 0) 1) ∷
    at 15000000 (event.Leave (processor 0) (Some (vcpu 0 0))) ∷
    at 15000000 (event.End (moment 16000000)) ∷
    at 16000000 (event.Slice (core 0)) ∷
    at 16000000 (event.Arrive (processor 0)) ∷
    at 16000000 (event.Decide (core 0) (Some (unit 1 0)) (Some (moment 26000000)) (span 0) 0) ∷
    at 16000000 (event.Leave (processor 0) (Some (vcpu 1 0))) ∷
    at 16000000 (event.Save (core 0) (unit 0 0) true) ∷
    at 16000000 event.Finish ∷
    []

-- a unit whose processor stalls for 34.5 milliseconds
unfoldable pub machine_reset_after_a_stall : Machine
machine_reset_after_a_stall = record {
  config = record {
    granularity = 1;
    processors = 1;
    horizon = moment 35000000;
    pools = credit2_pool (codes "Pool-0") 1 1000 ∷ [];
    domains = credit2_domain (codes "a") 0 256 0 (endless_script ∷ []) ∷ [];
  };
  work = record {
    stalls = stall 500000 0 34500000 ∷ [];
    commands = [];
  };
}

-- its ordered run
unfoldable pub entries_reset_after_a_stall : List Entry
entries_reset_after_a_stall =
    at 0 (event.Arrive (processor 0)) ∷
    at 0 (event.Decide (core 0) (Some (unit 0 0)) (Some (moment 10000000)) (span 0) 0) ∷
    at 0 (event.Leave (processor 0) (Some (vcpu 0 0))) ∷
    at 0 (event.End (moment 500000)) ∷
    at 500000 (event.Stall (processor 0) (moment 35000000)) ∷
    at 500000 (event.End (moment 35000000)) ∷
    at 35000000 (event.Slice (core 0)) ∷
    at 35000000 (event.Arrive (processor 0)) ∷
    at 35000000 (event.Decide (core 0) (Some (unit 0 0)) (Some (moment 40000000)) (span 25000000) 3) ∷
    at 35000000 (event.Leave (processor 0) (Some (vcpu 0 0))) ∷
    at 35000000 event.Finish ∷
    []

-- two units, and commands that set both weights
unfoldable pub machine_weight_in_mid_run : Machine
machine_weight_in_mid_run = record {
  config = record {
    granularity = 1;
    processors = 1;
    horizon = moment 20000000;
    pools = credit2_pool (codes "Pool-0") 1 1000 ∷ [];
    domains =
        credit2_domain (codes "a") 0 45001 0 (endless_script ∷ []) ∷
        credit2_domain (codes "b") 0 60000 0 (endless_script ∷ []) ∷
        [];
  };
  work = record {
    stalls = [];
    commands =
        xl 2000000 (Ok (command.Credit2Dom (which.Name (codes "a")) (Some 1) None)) ∷
        xl 2000000 (Ok (command.Credit2Dom (which.Name (codes "b")) (Some 1) None)) ∷
        [];
  };
}

-- its ordered run
unfoldable pub entries_weight_in_mid_run : List Entry
entries_weight_in_mid_run =
    at 0 (event.Arrive (processor 0)) ∷
    at 0 (event.Decide (core 0) (Some (unit 0 0)) (Some (moment 1000000)) (span 0) 0) ∷
    at 0 (event.Leave (processor 0) (Some (vcpu 0 0))) ∷
    at 0 (event.End (moment 1000000)) ∷
    at 1000000 (event.Slice (core 0)) ∷
    at 1000000 (event.Arrive (processor 0)) ∷
    at 1000000 (event.Decide (core 0) (Some (unit 1 0)) (Some (moment 11000000)) (span 0) 0) ∷
    at 1000000 (event.Leave (processor 0) (Some (vcpu 1 0))) ∷
    at 1000000 (event.Save (core 0) (unit 0 0) true) ∷
    at 1000000 (event.End (moment 2000000)) ∷
    at 2000000 (event.Xl 1 (Ok (reply.Done))) ∷
    at 2000000 (event.Xl 2 (Ok (reply.Done))) ∷
    at 2000000 (event.End (moment 11000000)) ∷
    at 11000000 (event.Slice (core 0)) ∷
    at 11000000 (event.Arrive (processor 0)) ∷
    at 11000000 (event.Decide (core 0) (Some (unit 0 0)) (Some (moment 19666697)) (span 0) 0) ∷
    at 11000000 (event.Leave (processor 0) (Some (vcpu 0 0))) ∷
    at 11000000 (event.Save (core 0) (unit 1 0) true) ∷
    at 11000000 (event.End (moment 19666697)) ∷
    at 19666697 (event.Slice (core 0)) ∷
    at 19666697 (event.Arrive (processor 0)) ∷
    at 19666697 (event.Decide (core 0) (Some (unit 0 0)) (Some (moment 20666697)) (span 0) 1) ∷
    at 19666697 (event.Leave (processor 0) (Some (vcpu 0 0))) ∷
    at 19666697 event.Finish ∷
    []
