-- Null pools.
use Rattle.std.specs.Prelude.{List, [], ◌∷◌, Some, None, Ok, Err, false, codes}
use Rattle.sched_base.specs.Numbers.{moment, span, processor, core, domain, pool}
use Rattle.sched_model.specs.declared.event.Entry.{Entry}
use Rattle.sched_model.specs.declared.machine.Machine.{Machine}
use Rattle.sched_examples.specs.Words.{unit, vcpu, endless_script, rtds_pool, null_pool, null_domain, xl, at}
use Rattle.sched_model.specs.declared.event.Event.TheVariants as event
use Rattle.sched_model.specs.declared.event.Refusal.TheVariants as refusal
use Rattle.sched_model.specs.declared.event.Reply.TheVariants as reply
use Rattle.sched_model.specs.declared.config.SchedKind.TheVariants as kinds
use Rattle.sched_model.specs.declared.command.Command.TheVariants as command
use Rattle.sched_model.specs.declared.command.Which.TheVariants as which

-- two cores and three units, of which one sleeps at times
unfoldable pub machine_core_is_kept : Machine
machine_core_is_kept = record {
  config = record {
    granularity = 1;
    processors = 2;
    horizon = moment 2000000;
    pools = null_pool (codes "Pool-0") 3 ∷ [];
    domains =
        null_domain (codes "a") 0 (endless_script ∷ []) ∷
        null_domain (codes "b") 0 ((span 1000000 ∷ span 1000000 ∷ []) ∷ []) ∷
        null_domain (codes "c") 0 (endless_script ∷ []) ∷
        [];
  };
  work = record {
    stalls = [];
    commands = [];
  };
}

-- its ordered run
unfoldable pub entries_core_is_kept : List Entry
entries_core_is_kept =
    at 0 (event.Arrive (processor 0)) ∷
    at 0 (event.Arrive (processor 1)) ∷
    at 0 (event.Decide (core 0) (Some (unit 0 0)) None (span 0) 0) ∷
    at 0 (event.Decide (core 1) (Some (unit 1 0)) None (span 0) 0) ∷
    at 0 (event.Leave (processor 0) (Some (vcpu 0 0))) ∷
    at 0 (event.Leave (processor 1) (Some (vcpu 1 0))) ∷
    at 0 (event.End (moment 1000000)) ∷
    at 1000000 (event.Block (processor 1) (vcpu 1 0)) ∷
    at 1000000 (event.Arrive (processor 1)) ∷
    at 1000000 (event.Decide (core 1) None None (span 0) 0) ∷
    at 1000000 (event.Leave (processor 1) None) ∷
    at 1000000 (event.Save (core 1) (unit 1 0) false) ∷
    at 1000000 (event.End (moment 2000000)) ∷
    at 2000000 (event.Wake (vcpu 1 0)) ∷
    at 2000000 (event.Arrive (processor 1)) ∷
    at 2000000 (event.Decide (core 1) (Some (unit 1 0)) None (span 0) 0) ∷
    at 2000000 (event.Leave (processor 1) (Some (vcpu 1 0))) ∷
    at 2000000 event.Finish ∷
    []

-- a null pool, and a command that sets a weight
unfoldable pub machine_no_weight : Machine
machine_no_weight = record {
  config = record {
    granularity = 1;
    processors = 2;
    horizon = moment 2000000;
    pools = null_pool (codes "Pool-0") 3 ∷ [];
    domains =
        null_domain (codes "a") 0 (endless_script ∷ []) ∷
        null_domain (codes "b") 0 ((span 1000000 ∷ span 1000000 ∷ []) ∷ []) ∷
        null_domain (codes "c") 0 (endless_script ∷ []) ∷
        [];
  };
  work = record {
    stalls = [];
    commands = xl 0 (Ok (command.Credit2Dom (which.Name (codes "a")) (Some 1) None)) ∷ [];
  };
}

-- its ordered run
unfoldable pub entries_no_weight : List Entry
entries_no_weight =
    at 0 (event.Xl 1 (Err (refusal.WrongSched (pool 0) kinds.Null))) ∷
    at 0 (event.Arrive (processor 0)) ∷
    at 0 (event.Arrive (processor 1)) ∷
    at 0 (event.Decide (core 0) (Some (unit 0 0)) None (span 0) 0) ∷
    at 0 (event.Decide (core 1) (Some (unit 1 0)) None (span 0) 0) ∷
    at 0 (event.Leave (processor 0) (Some (vcpu 0 0))) ∷
    at 0 (event.Leave (processor 1) (Some (vcpu 1 0))) ∷
    at 0 (event.End (moment 1000000)) ∷
    at 1000000 (event.Block (processor 1) (vcpu 1 0)) ∷
    at 1000000 (event.Arrive (processor 1)) ∷
    at 1000000 (event.Decide (core 1) None None (span 0) 0) ∷
    at 1000000 (event.Leave (processor 1) None) ∷
    at 1000000 (event.Save (core 1) (unit 1 0) false) ∷
    at 1000000 (event.End (moment 2000000)) ∷
    at 2000000 (event.Wake (vcpu 1 0)) ∷
    at 2000000 (event.Arrive (processor 1)) ∷
    at 2000000 (event.Decide (core 1) (Some (unit 1 0)) None (span 0) 0) ∷
    at 2000000 (event.Leave (processor 1) (Some (vcpu 1 0))) ∷
    at 2000000 event.Finish ∷
    []

-- a core, two units, and a command that moves the first away
unfoldable pub machine_core_is_freed : Machine
machine_core_is_freed = record {
  config = record {
    granularity = 1;
    processors = 2;
    horizon = moment 1000000;
    pools = null_pool (codes "Pool-0") 1 ∷ rtds_pool (codes "rt") 2 ∷ [];
    domains = null_domain (codes "a") 0 (endless_script ∷ []) ∷ null_domain (codes "b") 0 (endless_script ∷ []) ∷ [];
  };
  work = record {
    stalls = [];
    commands = xl 1000000 (Ok (command.Migrate (which.Name (codes "a")) (which.Name (codes "rt")))) ∷ [];
  };
}

-- its ordered run
unfoldable pub entries_core_is_freed : List Entry
entries_core_is_freed =
    at 0 (event.Arrive (processor 0)) ∷
    at 0 (event.Arrive (processor 1)) ∷
    at 0 (event.Decide (core 0) (Some (unit 0 0)) None (span 0) 0) ∷
    at 0 (event.Decide (core 1) None None (span 0) 0) ∷
    at 0 (event.Leave (processor 0) (Some (vcpu 0 0))) ∷
    at 0 (event.Leave (processor 1) None) ∷
    at 0 (event.End (moment 1000000)) ∷
    at 1000000 (event.Xl 1 (Ok (reply.Done))) ∷
    at 1000000 (event.Arrive (processor 0)) ∷
    at 1000000 (event.Decide (core 0) None None (span 0) 0) ∷
    at 1000000 (event.Leave (processor 0) None) ∷
    at 1000000 (event.Save (core 0) (unit 0 0) false) ∷
    at 1000000 (event.DomMoved (domain 0) (pool 1)) ∷
    at 1000000 (event.Arrive (processor 0)) ∷
    at 1000000 (event.Arrive (processor 1)) ∷
    at 1000000 (event.Decide (core 0) (Some (unit 1 0)) None (span 0) 0) ∷
    at 1000000 (event.Decide (core 1) (Some (unit 0 0)) (Some (moment 5000000)) (span 0) 0) ∷
    at 1000000 (event.Leave (processor 0) (Some (vcpu 1 0))) ∷
    at 1000000 (event.Leave (processor 1) (Some (vcpu 0 0))) ∷
    at 1000000 event.Finish ∷
    []

-- two cores and three units, and commands that take the core of the one that sleeps out of the pool and back
unfoldable pub machine_core_is_kept_while_away : Machine
machine_core_is_kept_while_away = record {
  config = record {
    granularity = 1;
    processors = 2;
    horizon = moment 10000000;
    pools = null_pool (codes "Pool-0") 3 ∷ [];
    domains =
        null_domain (codes "a") 0 (endless_script ∷ []) ∷
        null_domain (codes "b") 0 ((span 1000000 ∷ span 9000000 ∷ []) ∷ []) ∷
        null_domain (codes "c") 0 (endless_script ∷ []) ∷
        [];
  };
  work = record {
    stalls = [];
    commands =
        xl 2000000 (Ok (command.CpuRemove (which.Name (codes "Pool-0")) 1)) ∷
        xl 3000000 (Ok (command.CpuAdd (which.Name (codes "Pool-0")) 1)) ∷
        [];
  };
}

-- its ordered run
unfoldable pub entries_core_is_kept_while_away : List Entry
entries_core_is_kept_while_away =
    at 0 (event.Arrive (processor 0)) ∷
    at 0 (event.Arrive (processor 1)) ∷
    at 0 (event.Decide (core 0) (Some (unit 0 0)) None (span 0) 0) ∷
    at 0 (event.Decide (core 1) (Some (unit 1 0)) None (span 0) 0) ∷
    at 0 (event.Leave (processor 0) (Some (vcpu 0 0))) ∷
    at 0 (event.Leave (processor 1) (Some (vcpu 1 0))) ∷
    at 0 (event.End (moment 1000000)) ∷
    at 1000000 (event.Block (processor 1) (vcpu 1 0)) ∷
    at 1000000 (event.Arrive (processor 1)) ∷
    at 1000000 (event.Decide (core 1) None None (span 0) 0) ∷
    at 1000000 (event.Leave (processor 1) None) ∷
    at 1000000 (event.Save (core 1) (unit 1 0) false) ∷
    at 1000000 (event.End (moment 2000000)) ∷
    at 2000000 (event.Xl 1 (Ok (reply.Done))) ∷
    at 2000000 (event.Moved (core 1) None) ∷
    at 2000000 (event.End (moment 3000000)) ∷
    at 3000000 (event.Xl 2 (Ok (reply.Done))) ∷
    at 3000000 (event.Moved (core 1) (Some (pool 0))) ∷
    at 3000000 (event.Arrive (processor 1)) ∷
    at 3000000 (event.Decide (core 1) None None (span 0) 0) ∷
    at 3000000 (event.Leave (processor 1) None) ∷
    at 3000000 (event.End (moment 10000000)) ∷
    at 10000000 (event.Wake (vcpu 1 0)) ∷
    at 10000000 (event.Arrive (processor 1)) ∷
    at 10000000 (event.Decide (core 1) (Some (unit 1 0)) None (span 0) 0) ∷
    at 10000000 (event.Leave (processor 1) (Some (vcpu 1 0))) ∷
    at 10000000 event.Finish ∷
    []

-- two cores of four processors, a domain of five vCPUs, and another domain
unfoldable pub machine_cores_of_four : Machine
machine_cores_of_four = record {
  config = record {
    granularity = 4;
    processors = 8;
    horizon = moment 1500000;
    pools = null_pool (codes "Pool-0") 3 ∷ [];
    domains =
        null_domain (codes "a") 0 (endless_script ∷ (span 1000000 ∷ span 500000 ∷ []) ∷ endless_script ∷ endless_script ∷ (span 500000 ∷ span 1000000 ∷ []) ∷ []) ∷
        null_domain (codes "b") 0 (endless_script ∷ []) ∷
        [];
  };
  work = record {
    stalls = [];
    commands = [];
  };
}

-- its ordered run
unfoldable pub entries_cores_of_four : List Entry
entries_cores_of_four =
    at 0 (event.Arrive (processor 0)) ∷
    at 0 (event.Arrive (processor 1)) ∷
    at 0 (event.Arrive (processor 2)) ∷
    at 0 (event.Arrive (processor 3)) ∷
    at 0 (event.Arrive (processor 4)) ∷
    at 0 (event.Arrive (processor 5)) ∷
    at 0 (event.Arrive (processor 6)) ∷
    at 0 (event.Arrive (processor 7)) ∷
    at 0 (event.Decide (core 0) (Some (unit 0 0)) None (span 0) 0) ∷
    at 0 (event.Decide (core 1) (Some (unit 0 1)) None (span 0) 0) ∷
    at 0 (event.Leave (processor 0) (Some (vcpu 0 0))) ∷
    at 0 (event.Leave (processor 1) (Some (vcpu 0 1))) ∷
    at 0 (event.Leave (processor 2) (Some (vcpu 0 2))) ∷
    at 0 (event.Leave (processor 3) (Some (vcpu 0 3))) ∷
    at 0 (event.Leave (processor 4) (Some (vcpu 0 4))) ∷
    at 0 (event.Leave (processor 5) None) ∷
    at 0 (event.Leave (processor 6) None) ∷
    at 0 (event.Leave (processor 7) None) ∷
    at 0 (event.End (moment 500000)) ∷
    at 500000 (event.Block (processor 4) (vcpu 0 4)) ∷
    at 500000 (event.Arrive (processor 4)) ∷
    at 500000 (event.Arrive (processor 5)) ∷
    at 500000 (event.Arrive (processor 6)) ∷
    at 500000 (event.Arrive (processor 7)) ∷
    at 500000 (event.Decide (core 1) None None (span 0) 0) ∷
    at 500000 (event.Leave (processor 4) None) ∷
    at 500000 (event.Leave (processor 5) None) ∷
    at 500000 (event.Leave (processor 6) None) ∷
    at 500000 (event.Leave (processor 7) None) ∷
    at 500000 (event.Save (core 1) (unit 0 1) false) ∷
    at 500000 (event.End (moment 1000000)) ∷
    at 1000000 (event.Block (processor 1) (vcpu 0 1)) ∷
    at 1000000 (event.End (moment 1500000)) ∷
    at 1500000 (event.Wake (vcpu 0 1)) ∷
    at 1500000 (event.Wake (vcpu 0 4)) ∷
    at 1500000 (event.Arrive (processor 4)) ∷
    at 1500000 (event.Arrive (processor 5)) ∷
    at 1500000 (event.Arrive (processor 6)) ∷
    at 1500000 (event.Arrive (processor 7)) ∷
    at 1500000 (event.Decide (core 1) (Some (unit 0 1)) None (span 0) 0) ∷
    at 1500000 (event.Leave (processor 4) (Some (vcpu 0 4))) ∷
    at 1500000 (event.Leave (processor 5) None) ∷
    at 1500000 (event.Leave (processor 6) None) ∷
    at 1500000 (event.Leave (processor 7) None) ∷
    at 1500000 event.Finish ∷
    []
