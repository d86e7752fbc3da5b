-- Cores of two processors.
use Rattle.std.specs.Prelude.{List, [], ◌∷◌, Some, None, true, codes}
use Rattle.sched_base.specs.Numbers.{moment, span, processor, core}
use Rattle.sched_model.specs.declared.event.Entry.{Entry}
use Rattle.sched_model.specs.declared.machine.Machine.{Machine}
use Rattle.sched_examples.specs.Words.{unit, vcpu, endless_script, credit2_pool, credit2_domain, stall, at}
use Rattle.sched_model.specs.declared.event.Event.TheVariants as event

-- a core of two processors, and three vCPUs
unfoldable pub machine_siblings_meet : Machine
machine_siblings_meet = record {
  config = record {
    granularity = 2;
    processors = 2;
    horizon = moment 1000000;
    pools = credit2_pool (codes "Pool-0") 1 1000 ∷ [];
    domains = credit2_domain (codes "a") 0 256 0 (endless_script ∷ endless_script ∷ endless_script ∷ []) ∷ [];
  };
  work = record {
    stalls = [];
    commands = [];
  };
}

-- its ordered run
unfoldable pub entries_siblings_meet : List Entry
entries_siblings_meet =
    at 0 (event.Arrive (processor 0)) ∷
    at 0 (event.Arrive (processor 1)) ∷
    at 0 (event.Decide (core 0) (Some (unit 0 0)) (Some (moment 1000000)) (span 0) 0) ∷
    at 0 (event.Leave (processor 0) (Some (vcpu 0 0))) ∷
    at 0 (event.Leave (processor 1) (Some (vcpu 0 1))) ∷
    at 0 (event.End (moment 1000000)) ∷
    at 1000000 (event.Slice (core 0)) ∷
    at 1000000 (event.Arrive (processor 0)) ∷
    at 1000000 (event.Arrive (processor 1)) ∷
    at 1000000 (event.Decide (core 0) (Some (unit 0 1)) (Some (moment 11000000)) (span 0) 0) ∷
    at 1000000 (event.Leave (processor 0) (Some (vcpu 0 2))) ∷
    at 1000000 (event.Leave (processor 1) None) ∷
    at 1000000 (event.Save (core 0) (unit 0 0) true) ∷
    at 1000000 event.Finish ∷
    []

-- a core of two processors, of which one stalls
unfoldable pub machine_sibling_stalls : Machine
machine_sibling_stalls = record {
  config = record {
    granularity = 2;
    processors = 2;
    horizon = moment 1500000;
    pools = credit2_pool (codes "Pool-0") 1 1000 ∷ [];
    domains = credit2_domain (codes "a") 0 256 0 (endless_script ∷ endless_script ∷ endless_script ∷ []) ∷ [];
  };
  work = record {
    stalls = stall 500000 1 1000000 ∷ [];
    commands = [];
  };
}

-- its ordered run
unfoldable pub entries_sibling_stalls : List Entry
entries_sibling_stalls =
    at 0 (event.Arrive (processor 0)) ∷
    at 0 (event.Arrive (processor 1)) ∷
    at 0 (event.Decide (core 0) (Some (unit 0 0)) (Some (moment 1000000)) (span 0) 0) ∷
    at 0 (event.Leave (processor 0) (Some (vcpu 0 0))) ∷
    at 0 (event.Leave (processor 1) (Some (vcpu 0 1))) ∷
    at 0 (event.End (moment 500000)) ∷
    at 500000 (event.Stall (processor 1) (moment 1500000)) ∷
    at 500000 (event.End (moment 1000000)) ∷
    at 1000000 (event.Slice (core 0)) ∷
    at 1000000 (event.Arrive (processor 0)) ∷
    at 1000000 (event.End (moment 1500000)) ∷
    at 1500000 (event.Arrive (processor 1)) ∷
    at 1500000 (event.Decide (core 0) (Some (unit 0 1)) (Some (moment 11500000)) (span 500000) 0) ∷
    at 1500000 (event.Leave (processor 0) (Some (vcpu 0 2))) ∷
    at 1500000 (event.Leave (processor 1) None) ∷
    at 1500000 (event.Save (core 0) (unit 0 0) true) ∷
    at 1500000 event.Finish ∷
    []
