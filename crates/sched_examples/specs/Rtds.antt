-- RTDS pools.
use Rattle.std.specs.Prelude.{List, [], ◌∷◌, Some, None, Ok, true, false, codes}
use Rattle.sched_base.specs.Numbers.{moment, span, processor, core}
use Rattle.sched_model.specs.declared.event.Entry.{Entry}
use Rattle.sched_model.specs.declared.machine.Machine.{Machine}
use Rattle.sched_examples.specs.Words.{unit, vcpu, endless_script, rtds_pool, rtds_domain, stall, xl, at}
use Rattle.sched_model.specs.declared.event.Event.TheVariants as event
use Rattle.sched_model.specs.declared.event.Reply.TheVariants as reply
use Rattle.sched_model.specs.declared.command.Command.TheVariants as command
use Rattle.sched_model.specs.declared.command.Which.TheVariants as which

-- two units with budgets of 4 of 10 and 5 of 20 milliseconds
unfoldable pub machine_budgets_and_deadlines : Machine
machine_budgets_and_deadlines = record {
  config = record {
    granularity = 1;
    processors = 1;
    horizon = moment 20000000;
    pools = rtds_pool (codes "Pool-0") 1 ∷ [];
    domains =
        rtds_domain (codes "a") 0 10000000 4000000 false (endless_script ∷ []) ∷
        rtds_domain (codes "b") 0 20000000 5000000 false (endless_script ∷ []) ∷
        [];
  };
  work = record {
    stalls = [];
    commands = [];
  };
}

-- its ordered run
unfoldable pub entries_budgets_and_deadlines : List Entry
entries_budgets_and_deadlines =
    at 0 (event.Arrive (processor 0)) ∷
    at 0 (event.Decide (core 0) (Some (unit 0 0)) (Some (moment 4000000)) (span 0) 0) ∷
    at 0 (event.Leave (processor 0) (Some (vcpu 0 0))) ∷
    at 0 (event.End (moment 4000000)) ∷
    at 4000000 (event.Slice (core 0)) ∷
    at 4000000 (event.Arrive (processor 0)) ∷
    at 4000000 (event.Decide (core 0) (Some (unit 1 0)) (Some (moment 9000000)) (span 0) 0) ∷
    at 4000000 (event.Leave (processor 0) (Some (vcpu 1 0))) ∷
    at 4000000 (event.Save (core 0) (unit 0 0) true) ∷
    at 4000000 (event.End (moment 9000000)) ∷
    at 9000000 (event.Slice (core 0)) ∷
    at 9000000 (event.Arrive (processor 0)) ∷
    at 9000000 (event.Decide (core 0) None None (span 0) 0) ∷
    at 9000000 (event.Leave (processor 0) None) ∷
    at 9000000 (event.Save (core 0) (unit 1 0) true) ∷
    at 9000000 (event.End (moment 10000000)) ∷
    at 10000000 (event.Repl (unit 0 0) (moment 10000000) (moment 20000000) (span 4000000) false) ∷
    at 10000000 (event.Arrive (processor 0)) ∷
    at 10000000 (event.Decide (core 0) (Some (unit 0 0)) (Some (moment 14000000)) (span 0) 0) ∷
    at 10000000 (event.Leave (processor 0) (Some (vcpu 0 0))) ∷
    at 10000000 (event.End (moment 14000000)) ∷
    at 14000000 (event.Slice (core 0)) ∷
    at 14000000 (event.Arrive (processor 0)) ∷
    at 14000000 (event.Decide (core 0) None None (span 0) 0) ∷
    at 14000000 (event.Leave (processor 0) None) ∷
    at 14000000 (event.Save (core 0) (unit 0 0) true) ∷
    at 14000000 (event.End (moment 20000000)) ∷
    at 20000000 (event.Repl (unit 0 0) (moment 20000000) (moment 30000000) (span 4000000) false) ∷
    at 20000000 (event.Repl (unit 1 0) (moment 20000000) (moment 40000000) (span 5000000) false) ∷
    at 20000000 (event.Arrive (processor 0)) ∷
    at 20000000 (event.Decide (core 0) (Some (unit 0 0)) (Some (moment 24000000)) (span 0) 0) ∷
    at 20000000 (event.Leave (processor 0) (Some (vcpu 0 0))) ∷
    at 20000000 event.Finish ∷
    []

-- two units, and the processor stalls over the end of a budget
unfoldable pub machine_stall_past_the_due : Machine
machine_stall_past_the_due = record {
  config = record {
    granularity = 1;
    processors = 1;
    horizon = moment 5000000;
    pools = rtds_pool (codes "Pool-0") 1 ∷ [];
    domains =
        rtds_domain (codes "a") 0 10000000 4000000 false (endless_script ∷ []) ∷
        rtds_domain (codes "b") 0 20000000 5000000 false (endless_script ∷ []) ∷
        [];
  };
  work = record {
    stalls = stall 3000000 0 2000000 ∷ [];
    commands = [];
  };
}

-- its ordered run
unfoldable pub entries_stall_past_the_due : List Entry
entries_stall_past_the_due =
    at 0 (event.Arrive (processor 0)) ∷
    at 0 (event.Decide (core 0) (Some (unit 0 0)) (Some (moment 4000000)) (span 0) 0) ∷
    at 0 (event.Leave (processor 0) (Some (vcpu 0 0))) ∷
    at 0 (event.End (moment 3000000)) ∷
    at 3000000 (event.Stall (processor 0) (moment 5000000)) ∷
    at 3000000 (event.End (moment 5000000)) ∷
    at 5000000 (event.Slice (core 0)) ∷
    at 5000000 (event.Arrive (processor 0)) ∷
    at 5000000 (event.Decide (core 0) (Some (unit 1 0)) (Some (moment 10000000)) (span 1000000) 0) ∷
    at 5000000 (event.Leave (processor 0) (Some (vcpu 1 0))) ∷
    at 5000000 (event.Save (core 0) (unit 0 0) true) ∷
    at 5000000 event.Finish ∷
    []

-- a unit whose pool stalls for three periods
unfoldable pub machine_late_replenishment : Machine
machine_late_replenishment = record {
  config = record {
    granularity = 1;
    processors = 1;
    horizon = moment 35000000;
    pools = rtds_pool (codes "Pool-0") 1 ∷ [];
    domains = rtds_domain (codes "a") 0 10000000 4000000 false (endless_script ∷ []) ∷ [];
  };
  work = record {
    stalls = stall 5000000 0 30000000 ∷ [];
    commands = [];
  };
}

-- its ordered run
unfoldable pub entries_late_replenishment : List Entry
entries_late_replenishment =
    at 0 (event.Arrive (processor 0)) ∷
    at 0 (event.Decide (core 0) (Some (unit 0 0)) (Some (moment 4000000)) (span 0) 0) ∷
    at 0 (event.Leave (processor 0) (Some (vcpu 0 0))) ∷
    at 0 (event.End (moment 4000000)) ∷
    at 4000000 (event.Slice (core 0)) ∷
    at 4000000 (event.Arrive (processor 0)) ∷
    at 4000000 (event.Decide (core 0) None None (span 0) 0) ∷
    at 4000000 (event.Leave (processor 0) None) ∷
    at 4000000 (event.Save (core 0) (unit 0 0) true) ∷
    at 4000000 (event.End (moment 5000000)) ∷
    at 5000000 (event.Stall (processor 0) (moment 35000000)) ∷
    at 5000000 (event.End (moment 35000000)) ∷
    at 35000000 (event.Repl (unit 0 0) (moment 30000000) (moment 40000000) (span 4000000) false) ∷
    at 35000000 (event.Arrive (processor 0)) ∷
    at 35000000 (event.Decide (core 0) (Some (unit 0 0)) (Some (moment 39000000)) (span 0) 0) ∷
    at 35000000 (event.Leave (processor 0) (Some (vcpu 0 0))) ∷
    at 35000000 event.Finish ∷
    []

-- a unit with extra time and one without
unfoldable pub machine_extra_time : Machine
machine_extra_time = record {
  config = record {
    granularity = 1;
    processors = 1;
    horizon = moment 14000000;
    pools = rtds_pool (codes "Pool-0") 1 ∷ [];
    domains =
        rtds_domain (codes "a") 0 10000000 4000000 true (endless_script ∷ []) ∷
        rtds_domain (codes "b") 0 10000000 5000000 false (endless_script ∷ []) ∷
        [];
  };
  work = record {
    stalls = [];
    commands = [];
  };
}

-- its ordered run
unfoldable pub entries_extra_time : List Entry
entries_extra_time =
    at 0 (event.Arrive (processor 0)) ∷
    at 0 (event.Decide (core 0) (Some (unit 0 0)) (Some (moment 4000000)) (span 0) 0) ∷
    at 0 (event.Leave (processor 0) (Some (vcpu 0 0))) ∷
    at 0 (event.End (moment 4000000)) ∷
    at 4000000 (event.Slice (core 0)) ∷
    at 4000000 (event.Arrive (processor 0)) ∷
    at 4000000 (event.Decide (core 0) (Some (unit 1 0)) (Some (moment 9000000)) (span 0) 0) ∷
    at 4000000 (event.Leave (processor 0) (Some (vcpu 1 0))) ∷
    at 4000000 (event.Save (core 0) (unit 0 0) true) ∷
    at 4000000 (event.End (moment 9000000)) ∷
    at 9000000 (event.Slice (core 0)) ∷
    at 9000000 (event.Arrive (processor 0)) ∷
    at 9000000 (event.Decide (core 0) (Some (unit 0 0)) (Some (moment 13000000)) (span 0) 0) ∷
    at 9000000 (event.Leave (processor 0) (Some (vcpu 0 0))) ∷
    at 9000000 (event.Save (core 0) (unit 1 0) true) ∷
    at 9000000 (event.End (moment 10000000)) ∷
    at 10000000 (event.Repl (unit 0 0) (moment 10000000) (moment 20000000) (span 4000000) true) ∷
    at 10000000 (event.Repl (unit 1 0) (moment 10000000) (moment 20000000) (span 5000000) false) ∷
    at 10000000 (event.End (moment 13000000)) ∷
    at 13000000 (event.Slice (core 0)) ∷
    at 13000000 (event.Arrive (processor 0)) ∷
    at 13000000 (event.Decide (core 0) (Some (unit 0 0)) (Some (moment 14000000)) (span 0) 0) ∷
    at 13000000 (event.Leave (processor 0) (Some (vcpu 0 0))) ∷
    at 13000000 (event.End (moment 14000000)) ∷
    at 14000000 (event.Slice (core 0)) ∷
    at 14000000 (event.Arrive (processor 0)) ∷
    at 14000000 (event.Decide (core 0) (Some (unit 1 0)) (Some (moment 19000000)) (span 0) 0) ∷
    at 14000000 (event.Leave (processor 0) (Some (vcpu 1 0))) ∷
    at 14000000 (event.Save (core 0) (unit 0 0) true) ∷
    at 14000000 event.Finish ∷
    []

-- a unit, and a command that sets its budget
unfoldable pub machine_new_budget : Machine
machine_new_budget = record {
  config = record {
    granularity = 1;
    processors = 1;
    horizon = moment 10000000;
    pools = rtds_pool (codes "Pool-0") 1 ∷ [];
    domains = rtds_domain (codes "a") 0 10000000 4000000 false (endless_script ∷ []) ∷ [];
  };
  work = record {
    stalls = [];
    commands = xl 2000000 (Ok (command.RtdsDom (which.Name (codes "a")) None None (Some 1000) None)) ∷ [];
  };
}

-- its ordered run
unfoldable pub entries_new_budget : List Entry
entries_new_budget =
    at 0 (event.Arrive (processor 0)) ∷
    at 0 (event.Decide (core 0) (Some (unit 0 0)) (Some (moment 4000000)) (span 0) 0) ∷
    at 0 (event.Leave (processor 0) (Some (vcpu 0 0))) ∷
    at 0 (event.End (moment 2000000)) ∷
    at 2000000 (event.Xl 1 (Ok (reply.Done))) ∷
    at 2000000 (event.End (moment 4000000)) ∷
    at 4000000 (event.Slice (core 0)) ∷
    at 4000000 (event.Arrive (processor 0)) ∷
    at 4000000 (event.Decide (core 0) None None (span 0) 0) ∷
    at 4000000 (event.Leave (processor 0) None) ∷
    at 4000000 (event.Save (core 0) (unit 0 0) true) ∷
    at 4000000 (event.End (moment 10000000)) ∷
    at 10000000 (event.Repl (unit 0 0) (moment 10000000) (moment 20000000) (span 1000000) false) ∷
    at 10000000 (event.Arrive (processor 0)) ∷
    at 10000000 (event.Decide (core 0) (Some (unit 0 0)) (Some (moment 11000000)) (span 0) 0) ∷
    at 10000000 (event.Leave (processor 0) (Some (vcpu 0 0))) ∷
    at 10000000 event.Finish ∷
    []

-- a unit that runs over its deadline, and a command that sets its budget
unfoldable pub machine_new_budget_while_running : Machine
machine_new_budget_while_running = record {
  config = record {
    granularity = 1;
    processors = 1;
    horizon = moment 11000000;
    pools = rtds_pool (codes "Pool-0") 1 ∷ [];
    domains =
        rtds_domain (codes "a") 0 10000000 4000000 false ((span 1000000 ∷ span 7000000 ∷ span 9000000 ∷ span 1000000 ∷ []) ∷ []) ∷
        [];
  };
  work = record {
    stalls = [];
    commands = xl 9000000 (Ok (command.RtdsDom (which.Name (codes "a")) None None (Some 500) None)) ∷ [];
  };
}

-- its ordered run
unfoldable pub entries_new_budget_while_running : List Entry
entries_new_budget_while_running =
    at 0 (event.Arrive (processor 0)) ∷
    at 0 (event.Decide (core 0) (Some (unit 0 0)) (Some (moment 4000000)) (span 0) 0) ∷
    at 0 (event.Leave (processor 0) (Some (vcpu 0 0))) ∷
    at 0 (event.End (moment 1000000)) ∷
    at 1000000 (event.Block (processor 0) (vcpu 0 0)) ∷
    at 1000000 (event.Arrive (processor 0)) ∷
    at 1000000 (event.Decide (core 0) None None (span 0) 0) ∷
    at 1000000 (event.Leave (processor 0) None) ∷
    at 1000000 (event.Save (core 0) (unit 0 0) false) ∷
    at 1000000 (event.End (moment 8000000)) ∷
    at 8000000 (event.Wake (vcpu 0 0)) ∷
    at 8000000 (event.Arrive (processor 0)) ∷
    at 8000000 (event.Decide (core 0) (Some (unit 0 0)) (Some (moment 11000000)) (span 0) 0) ∷
    at 8000000 (event.Leave (processor 0) (Some (vcpu 0 0))) ∷
    at 8000000 (event.End (moment 9000000)) ∷
    at 9000000 (event.Xl 1 (Ok (reply.Done))) ∷
    at 9000000 (event.End (moment 10000000)) ∷
    at 10000000 (event.Repl (unit 0 0) (moment 10000000) (moment 20000000) (span 500000) false) ∷
    at 10000000 (event.End (moment 10500000)) ∷
    at 10500000 (event.Slice (core 0)) ∷
    at 10500000 (event.Arrive (processor 0)) ∷
    at 10500000 (event.Decide (core 0) None None (span 0) 0) ∷
    at 10500000 (event.Leave (processor 0) None) ∷
    at 10500000 (event.Save (core 0) (unit 0 0) true) ∷
    at 10500000 event.Finish ∷
    []

-- a unit that always runs, and one with an earlier deadline that sleeps at times
unfoldable pub machine_urgent_wake : Machine
machine_urgent_wake = record {
  config = record {
    granularity = 1;
    processors = 1;
    horizon = moment 10000000;
    pools = rtds_pool (codes "Pool-0") 1 ∷ [];
    domains =
        rtds_domain (codes "a") 0 20000000 10000000 false (endless_script ∷ []) ∷
        rtds_domain (codes "b") 0 10000000 4000000 false ((span 2000000 ∷ span 3000000 ∷ []) ∷ []) ∷
        [];
  };
  work = record {
    stalls = [];
    commands = [];
  };
}

-- its ordered run
unfoldable pub entries_urgent_wake : List Entry
entries_urgent_wake =
    at 0 (event.Arrive (processor 0)) ∷
    at 0 (event.Decide (core 0) (Some (unit 1 0)) (Some (moment 4000000)) (span 0) 0) ∷
    at 0 (event.Leave (processor 0) (Some (vcpu 1 0))) ∷
    at 0 (event.End (moment 2000000)) ∷
    at 2000000 (event.Block (processor 0) (vcpu 1 0)) ∷
    at 2000000 (event.Arrive (processor 0)) ∷
    at 2000000 (event.Decide (core 0) (Some (unit 0 0)) (Some (moment 12000000)) (span 0) 0) ∷
    at 2000000 (event.Leave (processor 0) (Some (vcpu 0 0))) ∷
    at 2000000 (event.Save (core 0) (unit 1 0) false) ∷
    at 2000000 (event.End (moment 5000000)) ∷
    at 5000000 (event.Wake (vcpu 1 0)) ∷
    at 5000000 (event.Arrive (processor 0)) ∷
    at 5000000 (event.Decide (core 0) (Some (unit 1 0)) (Some (moment 7000000)) (span 0) 0) ∷
    at 5000000 (event.Leave (processor 0) (Some (vcpu 1 0))) ∷
    at 5000000 (event.Save (core 0) (unit 0 0) true) ∷
    at 5000000 (event.End (moment 7000000)) ∷
    at 7000000 (event.Block (processor 0) (vcpu 1 0)) ∷
    at 7000000 (event.Arrive (processor 0)) ∷
    at 7000000 (event.Decide (core 0) (Some (unit 0 0)) (Some (moment 14000000)) (span 0) 0) ∷
    at 7000000 (event.Leave (processor 0) (Some (vcpu 0 0))) ∷
    at 7000000 (event.Save (core 0) (unit 1 0) false) ∷
    at 7000000 (event.End (moment 10000000)) ∷
    at 10000000 (event.Wake (vcpu 1 0)) ∷
    at 10000000 (event.Repl (unit 1 0) (moment 10000000) (moment 20000000) (span 4000000) false) ∷
    at 10000000 event.Finish ∷
    []
