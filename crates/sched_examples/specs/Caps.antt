-- Caps of Credit2.
use Rattle.std.specs.Prelude.{List, [], ◌∷◌, Some, None, Ok, true, pos, negsuc, codes}
use Rattle.sched_base.specs.Numbers.{moment, span, processor, core, domain}
use Rattle.sched_model.specs.declared.event.Entry.{Entry}
use Rattle.sched_model.specs.declared.machine.Machine.{Machine}
use Rattle.sched_examples.specs.Words.{unit, vcpu, endless_script, credit2_pool, credit2_domain, stall, xl, at}
use Rattle.sched_model.specs.declared.event.Event.TheVariants as event
use Rattle.sched_model.specs.declared.event.Reply.TheVariants as reply
use Rattle.sched_model.specs.declared.command.Command.TheVariants as command
use Rattle.sched_model.specs.declared.command.Which.TheVariants as which

-- a domain of two units with a cap of 25 percent
unfoldable pub machine_capped_domain : Machine
machine_capped_domain = record {
  config = record {
    granularity = 1;
    processors = 2;
    horizon = moment 10000000;
    pools = credit2_pool (codes "Pool-0") 3 1000 ∷ [];
    domains = credit2_domain (codes "a") 0 256 25 (endless_script ∷ endless_script ∷ []) ∷ [];
  };
  work = record {
    stalls = [];
    commands = [];
  };
}

-- its ordered run
unfoldable pub entries_capped_domain : List Entry
entries_capped_domain =
    at 0 (event.Arrive (processor 0)) ∷
    at 0 (event.Arrive (processor 1)) ∷
    at 0 (event.Decide (core 0) (Some (unit 0 0)) (Some (moment 1000000)) (span 0) 0) ∷
    at 0 (event.Decide (core 1) (Some (unit 0 1)) (Some (moment 1250000)) (span 0) 0) ∷
    at 0 (event.Leave (processor 0) (Some (vcpu 0 0))) ∷
    at 0 (event.Leave (processor 1) (Some (vcpu 0 1))) ∷
    at 0 (event.End (moment 1000000)) ∷
    at 1000000 (event.Slice (core 0)) ∷
    at 1000000 (event.Arrive (processor 0)) ∷
    at 1000000 (event.Decide (core 0) (Some (unit 0 0)) (Some (moment 1250000)) (span 0) 0) ∷
    at 1000000 (event.Leave (processor 0) (Some (vcpu 0 0))) ∷
    at 1000000 (event.End (moment 1250000)) ∷
    at 1250000 (event.Slice (core 0)) ∷
    at 1250000 (event.Slice (core 1)) ∷
    at 1250000 (event.Arrive (processor 0)) ∷
    at 1250000 (event.Arrive (processor 1)) ∷
    at 1250000 (event.Decide (core 0) None None (span 0) 0) ∷
    at 1250000 (event.Decide (core 1) None None (span 0) 0) ∷
    at 1250000 (event.Leave (processor 0) None) ∷
    at 1250000 (event.Leave (processor 1) None) ∷
    at 1250000 (event.Save (core 0) (unit 0 0) true) ∷
    at 1250000 (event.Save (core 1) (unit 0 1) true) ∷
    at 1250000 (event.End (moment 10000000)) ∷
    at 10000000 (event.Refill (domain 0) 1 (pos 2500000)) ∷
    at 10000000 (event.Arrive (processor 0)) ∷
    at 10000000 (event.Arrive (processor 1)) ∷
    at 10000000 (event.Decide (core 0) (Some (unit 0 0)) (Some (moment 11000000)) (span 0) 0) ∷
    at 10000000 (event.Decide (core 1) (Some (unit 0 1)) (Some (moment 11250000)) (span 0) 0) ∷
    at 10000000 (event.Leave (processor 0) (Some (vcpu 0 0))) ∷
    at 10000000 (event.Leave (processor 1) (Some (vcpu 0 1))) ∷
    at 10000000 event.Finish ∷
    []

-- a domain of two units with a cap of 500 percent, whose lowest processor stalls over the refill
unfoldable pub machine_late_refill : Machine
machine_late_refill = record {
  config = record {
    granularity = 1;
    processors = 2;
    horizon = moment 25000000;
    pools = credit2_pool (codes "Pool-0") 3 1000 ∷ [];
    domains = credit2_domain (codes "a") 0 256 500 (endless_script ∷ endless_script ∷ []) ∷ [];
  };
  work = record {
    stalls = stall 5000000 0 16500000 ∷ [];
    commands = [];
  };
}

-- its ordered run
unfoldable pub entries_late_refill : List Entry
entries_late_refill =
    at 0 (event.Arrive (processor 0)) ∷
    at 0 (event.Arrive (processor 1)) ∷
    at 0 (event.Decide (core 0) (Some (unit 0 0)) (Some (moment 1000000)) (span 0) 0) ∷
    at 0 (event.Decide (core 1) (Some (unit 0 1)) (Some (moment 10000000)) (span 0) 0) ∷
    at 0 (event.Leave (processor 0) (Some (vcpu 0 0))) ∷
    at 0 (event.Leave (processor 1) (Some (vcpu 0 1))) ∷
    at 0 (event.End (moment 1000000)) ∷
    at 1000000 (event.Slice (core 0)) ∷
    at 1000000 (event.Arrive (processor 0)) ∷
    at 1000000 (event.Decide (core 0) (Some (unit 0 0)) (Some (moment 10000000)) (span 0) 0) ∷
    at 1000000 (event.Leave (processor 0) (Some (vcpu 0 0))) ∷
    at 1000000 (event.End (moment 5000000)) ∷
    at 5000000 (event.Stall (processor 0) (moment 21500000)) ∷
    at 5000000 (event.End (moment 10000000)) ∷
    at 10000000 (event.Slice (core 1)) ∷
    at 10000000 (event.Arrive (processor 1)) ∷
    at 10000000 (event.Decide (core 1) (Some (unit 0 1)) (Some (moment 20000000)) (span 0) 1) ∷
    at 10000000 (event.Leave (processor 1) (Some (vcpu 0 1))) ∷
    at 10000000 (event.End (moment 20000000)) ∷
    at 20000000 (event.Slice (core 1)) ∷
    at 20000000 (event.Arrive (processor 1)) ∷
    at 20000000 (event.Decide (core 1) (Some (unit 0 1)) (Some (moment 25000000)) (span 0) 1) ∷
    at 20000000 (event.Leave (processor 1) (Some (vcpu 0 1))) ∷
    at 20000000 (event.End (moment 21500000)) ∷
    at 21500000 (event.Slice (core 0)) ∷
    at 21500000 (event.Refill (domain 0) 2 (pos 43000000)) ∷
    at 21500000 (event.Arrive (processor 0)) ∷
    at 21500000 (event.Decide (core 0) (Some (unit 0 0)) (Some (moment 30000000)) (span 11500000) 0) ∷
    at 21500000 (event.Leave (processor 0) (Some (vcpu 0 0))) ∷
    at 21500000 (event.End (moment 25000000)) ∷
    at 25000000 (event.Slice (core 1)) ∷
    at 25000000 (event.Arrive (processor 1)) ∷
    at 25000000 (event.Decide (core 1) (Some (unit 0 1)) (Some (moment 30000000)) (span 0) 0) ∷
    at 25000000 (event.Leave (processor 1) (Some (vcpu 0 1))) ∷
    at 25000000 event.Finish ∷
    []

-- a unit, and a command that caps its domain at 20 percent
unfoldable pub machine_cap_in_mid_run : Machine
machine_cap_in_mid_run = record {
  config = record {
    granularity = 1;
    processors = 1;
    horizon = moment 13000000;
    pools = credit2_pool (codes "Pool-0") 1 1000 ∷ [];
    domains = credit2_domain (codes "a") 0 256 0 (endless_script ∷ []) ∷ [];
  };
  work = record {
    stalls = [];
    commands = xl 3000000 (Ok (command.Credit2Dom (which.Name (codes "a")) None (Some 20))) ∷ [];
  };
}

-- its ordered run
unfoldable pub entries_cap_in_mid_run : List Entry
entries_cap_in_mid_run =
    at 0 (event.Arrive (processor 0)) ∷
    at 0 (event.Decide (core 0) (Some (unit 0 0)) (Some (moment 10000000)) (span 0) 0) ∷
    at 0 (event.Leave (processor 0) (Some (vcpu 0 0))) ∷
    at 0 (event.End (moment 3000000)) ∷
    at 3000000 (event.Xl 1 (Ok (reply.Done))) ∷
    at 3000000 (event.Arrive (processor 0)) ∷
    at 3000000 (event.Decide (core 0) (Some (unit 0 0)) (Some (moment 5000000)) (span 0) 0) ∷
    at 3000000 (event.Leave (processor 0) (Some (vcpu 0 0))) ∷
    at 3000000 (event.End (moment 5000000)) ∷
    at 5000000 (event.Slice (core 0)) ∷
    at 5000000 (event.Arrive (processor 0)) ∷
    at 5000000 (event.Decide (core 0) None None (span 0) 0) ∷
    at 5000000 (event.Leave (processor 0) None) ∷
    at 5000000 (event.Save (core 0) (unit 0 0) true) ∷
    at 5000000 (event.End (moment 13000000)) ∷
    at 13000000 (event.Refill (domain 0) 1 (pos 2000000)) ∷
    at 13000000 (event.Arrive (processor 0)) ∷
    at 13000000 (event.Decide (core 0) (Some (unit 0 0)) (Some (moment 15000000)) (span 0) 0) ∷
    at 13000000 (event.Leave (processor 0) (Some (vcpu 0 0))) ∷
    at 13000000 event.Finish ∷
    []

-- a unit with a cap of 25 percent whose processor stalls
unfoldable pub machine_overrun_is_paid_back : Machine
machine_overrun_is_paid_back = record {
  config = record {
    granularity = 1;
    processors = 1;
    horizon = moment 40000000;
    pools = credit2_pool (codes "Pool-0") 1 1000 ∷ [];
    domains = credit2_domain (codes "a") 0 256 25 (endless_script ∷ []) ∷ [];
  };
  work = record {
    stalls = stall 1000000 0 10500000 ∷ [];
    commands = [];
  };
}

-- its ordered run
unfoldable pub entries_overrun_is_paid_back : List Entry
entries_overrun_is_paid_back =
    at 0 (event.Arrive (processor 0)) ∷
    at 0 (event.Decide (core 0) (Some (unit 0 0)) (Some (moment 2500000)) (span 0) 0) ∷
    at 0 (event.Leave (processor 0) (Some (vcpu 0 0))) ∷
    at 0 (event.End (moment 1000000)) ∷
    at 1000000 (event.Stall (processor 0) (moment 11500000)) ∷
    at 1000000 (event.End (moment 11500000)) ∷
    at 11500000 (event.Slice (core 0)) ∷
    at 11500000 (event.Refill (domain 0) 1 (pos 2500000)) ∷
    at 11500000 (event.Arrive (processor 0)) ∷
    at 11500000 (event.Decide (core 0) None None (span 9000000) 0) ∷
    at 11500000 (event.Leave (processor 0) None) ∷
    at 11500000 (event.Save (core 0) (unit 0 0) true) ∷
    at 11500000 (event.End (moment 20000000)) ∷
    at 20000000 (event.Refill (domain 0) 1 (negsuc 3999999)) ∷
    at 20000000 (event.End (moment 30000000)) ∷
    at 30000000 (event.Refill (domain 0) 1 (negsuc 1499999)) ∷
    at 30000000 (event.End (moment 40000000)) ∷
    at 40000000 (event.Refill (domain 0) 1 (pos 1000000)) ∷
    at 40000000 (event.Arrive (processor 0)) ∷
    at 40000000 (event.Decide (core 0) (Some (unit 0 0)) (Some (moment 41000000)) (span 0) 1) ∷
    at 40000000 (event.Leave (processor 0) (Some (vcpu 0 0))) ∷
    at 40000000 event.Finish ∷
    []
