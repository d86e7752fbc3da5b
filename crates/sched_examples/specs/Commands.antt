-- Commands.
use Rattle.std.specs.Prelude.{List, [], ◌∷◌, Some, None, Ok, Err, true, false, codes}
use Rattle.sched_base.specs.Numbers.{moment, span, processor, core, domain, pool}
use Rattle.sched_model.specs.declared.event.Entry.{Entry}
use Rattle.sched_model.specs.declared.machine.Machine.{Machine}
use Rattle.sched_examples.specs.Words.{unit, vcpu, endless_script, credit2_pool, rtds_pool, credit2_domain, rtds_domain, xl, no_reading, at}
use Rattle.sched_model.specs.declared.event.Event.TheVariants as event
use Rattle.sched_model.specs.declared.event.Refusal.TheVariants as refusal
use Rattle.sched_model.specs.declared.event.Reply.TheVariants as reply
use Rattle.sched_model.specs.declared.event.Param.TheVariants as param
use Rattle.sched_model.specs.declared.config.SchedKind.TheVariants as kinds
use Rattle.sched_model.specs.declared.command.Command.TheVariants as command
use Rattle.sched_model.specs.declared.command.Which.TheVariants as which

-- a unit, and commands that pause and unpause its domain
unfoldable pub machine_pause_and_unpause : Machine
machine_pause_and_unpause = record {
  config = record {
    granularity = 1;
    processors = 1;
    horizon = moment 1000000;
    pools = credit2_pool (codes "Pool-0") 1 1000 ∷ [];
    domains = credit2_domain (codes "a") 0 256 0 (endless_script ∷ []) ∷ [];
  };
  work = record {
    stalls = [];
    commands =
        xl 1000000 (Ok (command.Pause (which.Name (codes "a")))) ∷
        xl 1000000 (Ok (command.Unpause (which.Name (codes "a")))) ∷
        [];
  };
}

-- its ordered run
unfoldable pub entries_pause_and_unpause : List Entry
entries_pause_and_unpause =
    at 0 (event.Arrive (processor 0)) ∷
    at 0 (event.Decide (core 0) (Some (unit 0 0)) (Some (moment 10000000)) (span 0) 0) ∷
    at 0 (event.Leave (processor 0) (Some (vcpu 0 0))) ∷
    at 0 (event.End (moment 1000000)) ∷
    at 1000000 (event.Xl 1 (Ok (reply.Done))) ∷
    at 1000000 (event.Xl 2 (Ok (reply.Done))) ∷
    at 1000000 (event.Arrive (processor 0)) ∷
    at 1000000 (event.Decide (core 0) (Some (unit 0 0)) (Some (moment 10000000)) (span 0) 0) ∷
    at 1000000 (event.Leave (processor 0) (Some (vcpu 0 0))) ∷
    at 1000000 event.Finish ∷
    []

-- a core of a Credit2 pool that is removed, and added to an RTDS pool
unfoldable pub machine_core_changes_pool : Machine
machine_core_changes_pool = record {
  config = record {
    granularity = 1;
    processors = 3;
    horizon = moment 1000000;
    pools = credit2_pool (codes "Pool-0") 3 1000 ∷ rtds_pool (codes "rt") 4 ∷ [];
    domains =
        credit2_domain (codes "a") 0 256 0 (endless_script ∷ endless_script ∷ []) ∷
        rtds_domain (codes "b") 1 10000000 5000000 true (endless_script ∷ endless_script ∷ []) ∷
        [];
  };
  work = record {
    stalls = [];
    commands =
        xl 1000000 (Ok (command.CpuRemove (which.Name (codes "Pool-0")) 1)) ∷
        xl 1000000 (Ok (command.CpuAdd (which.Name (codes "rt")) 1)) ∷
        xl 1000000 (Ok (command.CpuRemove (which.Name (codes "Pool-0")) 1)) ∷
        [];
  };
}

-- its ordered run
unfoldable pub entries_core_changes_pool : List Entry
entries_core_changes_pool =
    at 0 (event.Arrive (processor 0)) ∷
    at 0 (event.Arrive (processor 1)) ∷
    at 0 (event.Arrive (processor 2)) ∷
    at 0 (event.Decide (core 0) (Some (unit 0 0)) (Some (moment 1000000)) (span 0) 0) ∷
    at 0 (event.Decide (core 1) (Some (unit 0 1)) (Some (moment 10000000)) (span 0) 0) ∷
    at 0 (event.Decide (core 2) (Some (unit 1 0)) (Some (moment 5000000)) (span 0) 0) ∷
    at 0 (event.Leave (processor 0) (Some (vcpu 0 0))) ∷
    at 0 (event.Leave (processor 1) (Some (vcpu 0 1))) ∷
    at 0 (event.Leave (processor 2) (Some (vcpu 1 0))) ∷
    at 0 (event.End (moment 1000000)) ∷
    at 1000000 (event.Xl 1 (Ok (reply.Done))) ∷
    at 1000000 (event.Slice (core 0)) ∷
    at 1000000 (event.Arrive (processor 0)) ∷
    at 1000000 (event.Arrive (processor 1)) ∷
    at 1000000 (event.Decide (core 0) (Some (unit 0 0)) (Some (moment 10000000)) (span 0) 0) ∷
    at 1000000 (event.Decide (core 1) None None (span 0) 0) ∷
    at 1000000 (event.Leave (processor 0) (Some (vcpu 0 0))) ∷
    at 1000000 (event.Leave (processor 1) None) ∷
    at 1000000 (event.Save (core 1) (unit 0 1) true) ∷
    at 1000000 (event.Moved (core 1) None) ∷
    at 1000000 (event.Xl 2 (Ok (reply.Done))) ∷
    at 1000000 (event.Moved (core 1) (Some (pool 1))) ∷
    at 1000000 (event.Xl 3 (Err (refusal.CpuElsewhere 1))) ∷
    at 1000000 (event.Arrive (processor 1)) ∷
    at 1000000 (event.Decide (core 1) (Some (unit 1 1)) (Some (moment 6000000)) (span 0) 0) ∷
    at 1000000 (event.Leave (processor 1) (Some (vcpu 1 1))) ∷
    at 1000000 event.Finish ∷
    []

-- a domain that is moved from a Credit2 pool to an RTDS pool
unfoldable pub machine_domain_migrates : Machine
machine_domain_migrates = record {
  config = record {
    granularity = 1;
    processors = 3;
    horizon = moment 1000000;
    pools = credit2_pool (codes "Pool-0") 3 1000 ∷ rtds_pool (codes "rt") 4 ∷ [];
    domains = credit2_domain (codes "a") 0 256 0 (endless_script ∷ (span 500000 ∷ span 500000 ∷ []) ∷ []) ∷ [];
  };
  work = record {
    stalls = [];
    commands = xl 1000000 (Ok (command.Migrate (which.Name (codes "a")) (which.Name (codes "rt")))) ∷ [];
  };
}

-- its ordered run
unfoldable pub entries_domain_migrates : List Entry
entries_domain_migrates =
    at 0 (event.Arrive (processor 0)) ∷
    at 0 (event.Arrive (processor 1)) ∷
    at 0 (event.Arrive (processor 2)) ∷
    at 0 (event.Decide (core 0) (Some (unit 0 0)) (Some (moment 1000000)) (span 0) 0) ∷
    at 0 (event.Decide (core 1) (Some (unit 0 1)) (Some (moment 10000000)) (span 0) 0) ∷
    at 0 (event.Decide (core 2) None None (span 0) 0) ∷
    at 0 (event.Leave (processor 0) (Some (vcpu 0 0))) ∷
    at 0 (event.Leave (processor 1) (Some (vcpu 0 1))) ∷
    at 0 (event.Leave (processor 2) None) ∷
    at 0 (event.End (moment 500000)) ∷
    at 500000 (event.Block (processor 1) (vcpu 0 1)) ∷
    at 500000 (event.Arrive (processor 1)) ∷
    at 500000 (event.Decide (core 1) None None (span 0) 0) ∷
    at 500000 (event.Leave (processor 1) None) ∷
    at 500000 (event.Save (core 1) (unit 0 1) false) ∷
    at 500000 (event.End (moment 1000000)) ∷
    at 1000000 (event.Xl 1 (Ok (reply.Done))) ∷
    at 1000000 (event.Wake (vcpu 0 1)) ∷
    at 1000000 (event.Arrive (processor 0)) ∷
    at 1000000 (event.Decide (core 0) None None (span 0) 0) ∷
    at 1000000 (event.Leave (processor 0) None) ∷
    at 1000000 (event.Save (core 0) (unit 0 0) false) ∷
    at 1000000 (event.DomMoved (domain 0) (pool 1)) ∷
    at 1000000 (event.Arrive (processor 2)) ∷
    at 1000000 (event.Decide (core 2) (Some (unit 0 0)) (Some (moment 5000000)) (span 0) 0) ∷
    at 1000000 (event.Leave (processor 2) (Some (vcpu 0 0))) ∷
    at 1000000 event.Finish ∷
    []

-- a machine with two pools, and commands of every kind
unfoldable pub machine_refusals : Machine
machine_refusals = record {
  config = record {
    granularity = 1;
    processors = 2;
    horizon = moment 1000000;
    pools = credit2_pool (codes "Pool-0") 1 1000 ∷ rtds_pool (codes "hold") 2 ∷ [];
    domains = credit2_domain (codes "a") 0 256 0 (endless_script ∷ []) ∷ [];
  };
  work = record {
    stalls = [];
    commands =
        xl 0 (Ok (command.PoolCreate (codes "rt") (Some kinds.Rtds))) ∷
        xl 0 (Ok (command.CpuRemove (which.Name (codes "Pool-0")) 5)) ∷
        xl 0 (Ok (command.CpuRemove (which.Name (codes "Pool-0")) 0)) ∷
        xl 0 (Ok (command.CpuRemove (which.Name (codes "Pool-0")) 1)) ∷
        xl 0 (Ok (command.CpuAdd (which.Name (codes "rt")) 1)) ∷
        xl 0 (Ok (command.PoolDestroy (which.Name (codes "Pool-0")))) ∷
        xl 0 (Ok (command.PoolDestroy (which.Name (codes "hold")))) ∷
        xl 0 (Ok (command.Migrate (which.Name (codes "a")) (which.Name (codes "rt")))) ∷
        xl 0 (Ok (command.RtdsDom (which.Name (codes "a")) None None (Some 1000) None)) ∷
        xl 0 (Ok (command.Credit2Dom (which.Name (codes "a")) (Some 0) None)) ∷
        xl 0 (Ok (command.Credit2Dom (which.Name (codes "a")) (Some 65536) None)) ∷
        xl 0 (Ok (command.Credit2Dom (which.Name (codes "a")) (Some 65535) None)) ∷
        xl 0 (Ok (command.PoolCreate (codes "rt") None)) ∷
        xl 0 (Ok (command.Pause (which.Name (codes "zed")))) ∷
        xl 0 (Ok (command.PoolList (Some (which.Name (codes "zed"))))) ∷
        xl 0 (no_reading 1) ∷
        xl 0 (Ok (command.PoolList None)) ∷
        xl 0 (Ok (command.Credit2Dom (which.Name (codes "a")) None None)) ∷
        xl 0 (Ok (command.Credit2Pool (which.Name (codes "Pool-0")) (Some 99))) ∷
        [];
  };
}

-- its ordered run
unfoldable pub entries_refusals : List Entry
entries_refusals =
    at 0 (event.Xl 1 (Ok (reply.Done))) ∷
    at 0 (event.Xl 2 (Err (refusal.NoCpu 5))) ∷
    at 0 (event.Xl 3 (Err (refusal.LastCpu (pool 0) (domain 0)))) ∷
    at 0 (event.Xl 4 (Err (refusal.CpuElsewhere 1))) ∷
    at 0 (event.Xl 5 (Err (refusal.CpuTaken 1 (pool 1)))) ∷
    at 0 (event.Xl 6 (Err (refusal.PoolZero))) ∷
    at 0 (event.Xl 7 (Err (refusal.PoolHolds (pool 1) 1 0))) ∷
    at 0 (event.Xl 8 (Err (refusal.PoolEmpty (pool 2)))) ∷
    at 0 (event.Xl 9 (Err (refusal.WrongSched (pool 0) kinds.Credit2))) ∷
    at 0 (event.Xl 10 (Err (refusal.Range param.Weight 0))) ∷
    at 0 (event.Xl 11 (Err (refusal.Range param.Weight 65536))) ∷
    at 0 (event.Xl 12 (Ok (reply.Done))) ∷
    at 0 (event.Xl 13 (Err (refusal.NameTaken (pool 2)))) ∷
    at 0 (event.Xl 14 (Err (refusal.NoDomain))) ∷
    at 0 (event.Xl 15 (Err (refusal.NoPool))) ∷
    at 0 (event.Xl 16 (Err (refusal.Syntax 1))) ∷
    at 0 (event.Xl 17 (Ok (reply.Pools 3 0))) ∷
    at 0 (event.Xl 18 (Ok (reply.Weight 65535 0))) ∷
    at 0 (event.Xl 19 (Err (refusal.Range param.Ratelimit 99))) ∷
    at 0 (event.Arrive (processor 0)) ∷
    at 0 (event.Arrive (processor 1)) ∷
    at 0 (event.Decide (core 0) (Some (unit 0 0)) (Some (moment 10000000)) (span 0) 0) ∷
    at 0 (event.Decide (core 1) None None (span 0) 0) ∷
    at 0 (event.Leave (processor 0) (Some (vcpu 0 0))) ∷
    at 0 (event.Leave (processor 1) None) ∷
    at 0 event.Finish ∷
    []

-- a pool that is made by a command
unfoldable pub machine_new_pool_is_listed : Machine
machine_new_pool_is_listed = record {
  config = record {
    granularity = 1;
    processors = 2;
    horizon = moment 1000000;
    pools = credit2_pool (codes "Pool-0") 1 1000 ∷ rtds_pool (codes "hold") 2 ∷ [];
    domains = credit2_domain (codes "a") 0 256 0 (endless_script ∷ []) ∷ [];
  };
  work = record {
    stalls = [];
    commands =
        xl 0 (Ok (command.PoolCreate (codes "rt") (Some kinds.Rtds))) ∷
        xl 0 (Ok (command.PoolList (Some (which.Name (codes "rt"))))) ∷
        [];
  };
}

-- its ordered run
unfoldable pub entries_new_pool_is_listed : List Entry
entries_new_pool_is_listed =
    at 0 (event.Xl 1 (Ok (reply.Done))) ∷
    at 0 (event.Xl 2 (Ok (reply.Pool (pool 2) kinds.Rtds 0 0))) ∷
    at 0 (event.Arrive (processor 0)) ∷
    at 0 (event.Arrive (processor 1)) ∷
    at 0 (event.Decide (core 0) (Some (unit 0 0)) (Some (moment 10000000)) (span 0) 0) ∷
    at 0 (event.Decide (core 1) None None (span 0) 0) ∷
    at 0 (event.Leave (processor 0) (Some (vcpu 0 0))) ∷
    at 0 (event.Leave (processor 1) None) ∷
    at 0 event.Finish ∷
    []

-- sixteen pools, and a command that makes another
unfoldable pub machine_pools_full : Machine
machine_pools_full = record {
  config = record {
    granularity = 1;
    processors = 1;
    horizon = moment 1000000;
    pools =
        credit2_pool (codes "Pool-0") 1 1000 ∷
        credit2_pool (codes "p1") 0 1000 ∷
        credit2_pool (codes "p2") 0 1000 ∷
        credit2_pool (codes "p3") 0 1000 ∷
        credit2_pool (codes "p4") 0 1000 ∷
        credit2_pool (codes "p5") 0 1000 ∷
        credit2_pool (codes "p6") 0 1000 ∷
        credit2_pool (codes "p7") 0 1000 ∷
        credit2_pool (codes "p8") 0 1000 ∷
        credit2_pool (codes "p9") 0 1000 ∷
        credit2_pool (codes "p10") 0 1000 ∷
        credit2_pool (codes "p11") 0 1000 ∷
        credit2_pool (codes "p12") 0 1000 ∷
        credit2_pool (codes "p13") 0 1000 ∷
        credit2_pool (codes "p14") 0 1000 ∷
        credit2_pool (codes "p15") 0 1000 ∷
        [];
    domains = [];
  };
  work = record {
    stalls = [];
    commands = xl 0 (Ok (command.PoolCreate (codes "x") None)) ∷ [];
  };
}

-- its ordered run
unfoldable pub entries_pools_full : List Entry
entries_pools_full =
    at 0 (event.Xl 1 (Err (refusal.PoolsFull))) ∷
    at 0 (event.Arrive (processor 0)) ∷
    at 0 (event.Decide (core 0) None None (span 0) 0) ∷
    at 0 (event.Leave (processor 0) None) ∷
    at 0 event.Finish ∷
    []
