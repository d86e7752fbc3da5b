-- The scripts of vCPUs.
use Rattle.std.specs.Prelude.{List, [], ◌∷◌, Some, None, false, codes}
use Rattle.sched_base.specs.Numbers.{moment, span, processor, core}
use Rattle.sched_model.specs.declared.event.Entry.{Entry}
use Rattle.sched_model.specs.declared.machine.Machine.{Machine}
use Rattle.sched_examples.specs.Words.{unit, vcpu, null_pool, null_domain, at}
use Rattle.sched_model.specs.declared.event.Event.TheVariants as event

-- a core that is kept for a vCPU with a script of 64 spans
unfoldable pub machine_longest_script : Machine
machine_longest_script = record {
  config = record {
    granularity = 1;
    processors = 1;
    horizon = moment 825000;
    pools = null_pool (codes "Pool-0") 1 ∷ [];
    domains =
        null_domain (codes "a") 0 ((
        span 1000 ∷ span 1500 ∷ span 2000 ∷ span 2000 ∷ span 3000 ∷ span 2500 ∷ span 4000 ∷ span 3000 ∷
        span 5000 ∷ span 3500 ∷ span 6000 ∷ span 4000 ∷ span 7000 ∷ span 4500 ∷ span 8000 ∷ span 5000 ∷
        span 9000 ∷ span 5500 ∷ span 10000 ∷ span 6000 ∷ span 11000 ∷ span 6500 ∷ span 12000 ∷ span 7000 ∷
        span 13000 ∷ span 7500 ∷ span 14000 ∷ span 8000 ∷ span 15000 ∷ span 8500 ∷ span 16000 ∷ span 9000 ∷
        span 17000 ∷ span 9500 ∷ span 18000 ∷ span 10000 ∷ span 19000 ∷ span 10500 ∷ span 20000 ∷ span 11000 ∷
        span 21000 ∷ span 11500 ∷ span 22000 ∷ span 12000 ∷ span 23000 ∷ span 12500 ∷ span 24000 ∷ span 13000 ∷
        span 25000 ∷ span 13500 ∷ span 26000 ∷ span 14000 ∷ span 27000 ∷ span 14500 ∷ span 28000 ∷ span 15000 ∷
        span 29000 ∷ span 15500 ∷ span 30000 ∷ span 16000 ∷ span 31000 ∷ span 16500 ∷ span 32000 ∷ span 17000 ∷
        []) ∷ []) ∷
        [];
  };
  work = record {
    stalls = [];
    commands = [];
  };
}

-- its ordered run
unfoldable pub entries_longest_script : List Entry
entries_longest_script =
    at 0 (event.Arrive (processor 0)) ∷
    at 0 (event.Decide (core 0) (Some (unit 0 0)) None (span 0) 0) ∷
    at 0 (event.Leave (processor 0) (Some (vcpu 0 0))) ∷
    at 0 (event.End (moment 1000)) ∷
    at 1000 (event.Block (processor 0) (vcpu 0 0)) ∷
    at 1000 (event.Arrive (processor 0)) ∷
    at 1000 (event.Decide (core 0) None None (span 0) 0) ∷
    at 1000 (event.Leave (processor 0) None) ∷
    at 1000 (event.Save (core 0) (unit 0 0) false) ∷
    at 1000 (event.End (moment 2500)) ∷
    at 2500 (event.Wake (vcpu 0 0)) ∷
    at 2500 (event.Arrive (processor 0)) ∷
    at 2500 (event.Decide (core 0) (Some (unit 0 0)) None (span 0) 0) ∷
    at 2500 (event.Leave (processor 0) (Some (vcpu 0 0))) ∷
    at 2500 (event.End (moment 4500)) ∷
    at 4500 (event.Block (processor 0) (vcpu 0 0)) ∷
    at 4500 (event.Arrive (processor 0)) ∷
    at 4500 (event.Decide (core 0) None None (span 0) 0) ∷
    at 4500 (event.Leave (processor 0) None) ∷
    at 4500 (event.Save (core 0) (unit 0 0) false) ∷
    at 4500 (event.End (moment 6500)) ∷
    at 6500 (event.Wake (vcpu 0 0)) ∷
    at 6500 (event.Arrive (processor 0)) ∷
    at 6500 (event.Decide (core 0) (Some (unit 0 0)) None (span 0) 0) ∷
    at 6500 (event.Leave (processor 0) (Some (vcpu 0 0))) ∷
    at 6500 (event.End (moment 9500)) ∷
    at 9500 (event.Block (processor 0) (vcpu 0 0)) ∷
    at 9500 (event.Arrive (processor 0)) ∷
    at 9500 (event.Decide (core 0) None None (span 0) 0) ∷
    at 9500 (event.Leave (processor 0) None) ∷
    at 9500 (event.Save (core 0) (unit 0 0) false) ∷
    at 9500 (event.End (moment 12000)) ∷
    at 12000 (event.Wake (vcpu 0 0)) ∷
    at 12000 (event.Arrive (processor 0)) ∷
    at 12000 (event.Decide (core 0) (Some (unit 0 0)) None (span 0) 0) ∷
    at 12000 (event.Leave (processor 0) (Some (vcpu 0 0))) ∷
    at 12000 (event.End (moment 16000)) ∷
    at 16000 (event.Block (processor 0) (vcpu 0 0)) ∷
    at 16000 (event.Arrive (processor 0)) ∷
    at 16000 (event.Decide (core 0) None None (span 0) 0) ∷
    at 16000 (event.Leave (processor 0) None) ∷
    at 16000 (event.Save (core 0) (unit 0 0) false) ∷
    at 16000 (event.End (moment 19000)) ∷
    at 19000 (event.Wake (vcpu 0 0)) ∷
    at 19000 (event.Arrive (processor 0)) ∷
    at 19000 (event.Decide (core 0) (Some (unit 0 0)) None (span 0) 0) ∷
    at 19000 (event.Leave (processor 0) (Some (vcpu 0 0))) ∷
    at 19000 (event.End (moment 24000)) ∷
    at 24000 (event.Block (processor 0) (vcpu 0 0)) ∷
    at 24000 (event.Arrive (processor 0)) ∷
    at 24000 (event.Decide (core 0) None None (span 0) 0) ∷
    at 24000 (event.Leave (processor 0) None) ∷
    at 24000 (event.Save (core 0) (unit 0 0) false) ∷
    at 24000 (event.End (moment 27500)) ∷
    at 27500 (event.Wake (vcpu 0 0)) ∷
    at 27500 (event.Arrive (processor 0)) ∷
    at 27500 (event.Decide (core 0) (Some (unit 0 0)) None (span 0) 0) ∷
    at 27500 (event.Leave (processor 0) (Some (vcpu 0 0))) ∷
    at 27500 (event.End (moment 33500)) ∷
    at 33500 (event.Block (processor 0) (vcpu 0 0)) ∷
    at 33500 (event.Arrive (processor 0)) ∷
    at 33500 (event.Decide (core 0) None None (span 0) 0) ∷
    at 33500 (event.Leave (processor 0) None) ∷
    at 33500 (event.Save (core 0) (unit 0 0) false) ∷
    at 33500 (event.End (moment 37500)) ∷
    at 37500 (event.Wake (vcpu 0 0)) ∷
    at 37500 (event.Arrive (processor 0)) ∷
    at 37500 (event.Decide (core 0) (Some (unit 0 0)) None (span 0) 0) ∷
    at 37500 (event.Leave (processor 0) (Some (vcpu 0 0))) ∷
    at 37500 (event.End (moment 44500)) ∷
    at 44500 (event.Block (processor 0) (vcpu 0 0)) ∷
    at 44500 (event.Arrive (processor 0)) ∷
    at 44500 (event.Decide (core 0) None None (span 0) 0) ∷
    at 44500 (event.Leave (processor 0) None) ∷
    at 44500 (event.Save (core 0) (unit 0 0) false) ∷
    at 44500 (event.End (moment 49000)) ∷
    at 49000 (event.Wake (vcpu 0 0)) ∷
    at 49000 (event.Arrive (processor 0)) ∷
    at 49000 (event.Decide (core 0) (Some (unit 0 0)) None (span 0) 0) ∷
    at 49000 (event.Leave (processor 0) (Some (vcpu 0 0))) ∷
    at 49000 (event.End (moment 57000)) ∷
    at 57000 (event.Block (processor 0) (vcpu 0 0)) ∷
    at 57000 (event.Arrive (processor 0)) ∷
    at 57000 (event.Decide (core 0) None None (span 0) 0) ∷
    at 57000 (event.Leave (processor 0) None) ∷
    at 57000 (event.Save (core 0) (unit 0 0) false) ∷
    at 57000 (event.End (moment 62000)) ∷
    at 62000 (event.Wake (vcpu 0 0)) ∷
    at 62000 (event.Arrive (processor 0)) ∷
    at 62000 (event.Decide (core 0) (Some (unit 0 0)) None (span 0) 0) ∷
    at 62000 (event.Leave (processor 0) (Some (vcpu 0 0))) ∷
    at 62000 (event.End (moment 71000)) ∷
    at 71000 (event.Block (processor 0) (vcpu 0 0)) ∷
    at 71000 (event.Arrive (processor 0)) ∷
    at 71000 (event.Decide (core 0) None None (span 0) 0) ∷
    at 71000 (event.Leave (processor 0) None) ∷
    at 71000 (event.Save (core 0) (unit 0 0) false) ∷
    at 71000 (event.End (moment 76500)) ∷
    at 76500 (event.Wake (vcpu 0 0)) ∷
    at 76500 (event.Arrive (processor 0)) ∷
    at 76500 (event.Decide (core 0) (Some (unit 0 0)) None (span 0) 0) ∷
    at 76500 (event.Leave (processor 0) (Some (vcpu 0 0))) ∷
    at 76500 (event.End (moment 86500)) ∷
    at 86500 (event.Block (processor 0) (vcpu 0 0)) ∷
    at 86500 (event.Arrive (processor 0)) ∷
    at 86500 (event.Decide (core 0) None None (span 0) 0) ∷
    at 86500 (event.Leave (processor 0) None) ∷
    at 86500 (event.Save (core 0) (unit 0 0) false) ∷
    at 86500 (event.End (moment 92500)) ∷
    at 92500 (event.Wake (vcpu 0 0)) ∷
    at 92500 (event.Arrive (processor 0)) ∷
    at 92500 (event.Decide (core 0) (Some (unit 0 0)) None (span 0) 0) ∷
    at 92500 (event.Leave (processor 0) (Some (vcpu 0 0))) ∷
    at 92500 (event.End (moment 103500)) ∷
    at 103500 (event.Block (processor 0) (vcpu 0 0)) ∷
    at 103500 (event.Arrive (processor 0)) ∷
    at 103500 (event.Decide (core 0) None None (span 0) 0) ∷
    at 103500 (event.Leave (processor 0) None) ∷
    at 103500 (event.Save (core 0) (unit 0 0) false) ∷
    at 103500 (event.End (moment 110000)) ∷
    at 110000 (event.Wake (vcpu 0 0)) ∷
    at 110000 (event.Arrive (processor 0)) ∷
    at 110000 (event.Decide (core 0) (Some (unit 0 0)) None (span 0) 0) ∷
    at 110000 (event.Leave (processor 0) (Some (vcpu 0 0))) ∷
    at 110000 (event.End (moment 122000)) ∷
    at 122000 (event.Block (processor 0) (vcpu 0 0)) ∷
    at 122000 (event.Arrive (processor 0)) ∷
    at 122000 (event.Decide (core 0) None None (span 0) 0) ∷
    at 122000 (event.Leave (processor 0) None) ∷
    at 122000 (event.Save (core 0) (unit 0 0) false) ∷
    at 122000 (event.End (moment 129000)) ∷
    at 129000 (event.Wake (vcpu 0 0)) ∷
    at 129000 (event.Arrive (processor 0)) ∷
    at 129000 (event.Decide (core 0) (Some (unit 0 0)) None (span 0) 0) ∷
    at 129000 (event.Leave (processor 0) (Some (vcpu 0 0))) ∷
    at 129000 (event.End (moment 142000)) ∷
    at 142000 (event.Block (processor 0) (vcpu 0 0)) ∷
    at 142000 (event.Arrive (processor 0)) ∷
    at 142000 (event.Decide (core 0) None None (span 0) 0) ∷
    at 142000 (event.Leave (processor 0) None) ∷
    at 142000 (event.Save (core 0) (unit 0 0) false) ∷
    at 142000 (event.End (moment 149500)) ∷
    at 149500 (event.Wake (vcpu 0 0)) ∷
    at 149500 (event.Arrive (processor 0)) ∷
    at 149500 (event.Decide (core 0) (Some (unit 0 0)) None (span 0) 0) ∷
    at 149500 (event.Leave (processor 0) (Some (vcpu 0 0))) ∷
    at 149500 (event.End (moment 163500)) ∷
    at 163500 (event.Block (processor 0) (vcpu 0 0)) ∷
    at 163500 (event.Arrive (processor 0)) ∷
    at 163500 (event.Decide (core 0) None None (span 0) 0) ∷
    at 163500 (event.Leave (processor 0) None) ∷
    at 163500 (event.Save (core 0) (unit 0 0) false) ∷
    at 163500 (event.End (moment 171500)) ∷
    at 171500 (event.Wake (vcpu 0 0)) ∷
    at 171500 (event.Arrive (processor 0)) ∷
    at 171500 (event.Decide (core 0) (Some (unit 0 0)) None (span 0) 0) ∷
    at 171500 (event.Leave (processor 0) (Some (vcpu 0 0))) ∷
    at 171500 (event.End (moment 186500)) ∷
    at 186500 (event.Block (processor 0) (vcpu 0 0)) ∷
    at 186500 (event.Arrive (processor 0)) ∷
    at 186500 (event.Decide (core 0) None None (span 0) 0) ∷
    at 186500 (event.Leave (processor 0) None) ∷
    at 186500 (event.Save (core 0) (unit 0 0) false) ∷
    at 186500 (event.End (moment 195000)) ∷
    at 195000 (event.Wake (vcpu 0 0)) ∷
    at 195000 (event.Arrive (processor 0)) ∷
    at 195000 (event.Decide (core 0) (Some (unit 0 0)) None (span 0) 0) ∷
    at 195000 (event.Leave (processor 0) (Some (vcpu 0 0))) ∷
    at 195000 (event.End (moment 211000)) ∷
    at 211000 (event.Block (processor 0) (vcpu 0 0)) ∷
    at 211000 (event.Arrive (processor 0)) ∷
    at 211000 (event.Decide (core 0) None None (span 0) 0) ∷
    at 211000 (event.Leave (processor 0) None) ∷
    at 211000 (event.Save (core 0) (unit 0 0) false) ∷
    at 211000 (event.End (moment 220000)) ∷
    at 220000 (event.Wake (vcpu 0 0)) ∷
    at 220000 (event.Arrive (processor 0)) ∷
    at 220000 (event.Decide (core 0) (Some (unit 0 0)) None (span 0) 0) ∷
    at 220000 (event.Leave (processor 0) (Some (vcpu 0 0))) ∷
    at 220000 (event.End (moment 237000)) ∷
    at 237000 (event.Block (processor 0) (vcpu 0 0)) ∷
    at 237000 (event.Arrive (processor 0)) ∷
    at 237000 (event.Decide (core 0) None None (span 0) 0) ∷
    at 237000 (event.Leave (processor 0) None) ∷
    at 237000 (event.Save (core 0) (unit 0 0) false) ∷
    at 237000 (event.End (moment 246500)) ∷
    at 246500 (event.Wake (vcpu 0 0)) ∷
    at 246500 (event.Arrive (processor 0)) ∷
    at 246500 (event.Decide (core 0) (Some (unit 0 0)) None (span 0) 0) ∷
    at 246500 (event.Leave (processor 0) (Some (vcpu 0 0))) ∷
    at 246500 (event.End (moment 264500)) ∷
    at 264500 (event.Block (processor 0) (vcpu 0 0)) ∷
    at 264500 (event.Arrive (processor 0)) ∷
    at 264500 (event.Decide (core 0) None None (span 0) 0) ∷
    at 264500 (event.Leave (processor 0) None) ∷
    at 264500 (event.Save (core 0) (unit 0 0) false) ∷
    at 264500 (event.End (moment 274500)) ∷
    at 274500 (event.Wake (vcpu 0 0)) ∷
    at 274500 (event.Arrive (processor 0)) ∷
    at 274500 (event.Decide (core 0) (Some (unit 0 0)) None (span 0) 0) ∷
    at 274500 (event.Leave (processor 0) (Some (vcpu 0 0))) ∷
    at 274500 (event.End (moment 293500)) ∷
    at 293500 (event.Block (processor 0) (vcpu 0 0)) ∷
    at 293500 (event.Arrive (processor 0)) ∷
    at 293500 (event.Decide (core 0) None None (span 0) 0) ∷
    at 293500 (event.Leave (processor 0) None) ∷
    at 293500 (event.Save (core 0) (unit 0 0) false) ∷
    at 293500 (event.End (moment 304000)) ∷
    at 304000 (event.Wake (vcpu 0 0)) ∷
    at 304000 (event.Arrive (processor 0)) ∷
    at 304000 (event.Decide (core 0) (Some (unit 0 0)) None (span 0) 0) ∷
    at 304000 (event.Leave (processor 0) (Some (vcpu 0 0))) ∷
    at 304000 (event.End (moment 324000)) ∷
    at 324000 (event.Block (processor 0) (vcpu 0 0)) ∷
    at 324000 (event.Arrive (processor 0)) ∷
    at 324000 (event.Decide (core 0) None None (span 0) 0) ∷
    at 324000 (event.Leave (processor 0) None) ∷
    at 324000 (event.Save (core 0) (unit 0 0) false) ∷
    at 324000 (event.End (moment 335000)) ∷
    at 335000 (event.Wake (vcpu 0 0)) ∷
    at 335000 (event.Arrive (processor 0)) ∷
    at 335000 (event.Decide (core 0) (Some (unit 0 0)) None (span 0) 0) ∷
    at 335000 (event.Leave (processor 0) (Some (vcpu 0 0))) ∷
    at 335000 (event.End (moment 356000)) ∷
    at 356000 (event.Block (processor 0) (vcpu 0 0)) ∷
    at 356000 (event.Arrive (processor 0)) ∷
    at 356000 (event.Decide (core 0) None None (span 0) 0) ∷
    at 356000 (event.Leave (processor 0) None) ∷
    at 356000 (event.Save (core 0) (unit 0 0) false) ∷
    at 356000 (event.End (moment 367500)) ∷
    at 367500 (event.Wake (vcpu 0 0)) ∷
    at 367500 (event.Arrive (processor 0)) ∷
    at 367500 (event.Decide (core 0) (Some (unit 0 0)) None (span 0) 0) ∷
    at 367500 (event.Leave (processor 0) (Some (vcpu 0 0))) ∷
    at 367500 (event.End (moment 389500)) ∷
    at 389500 (event.Block (processor 0) (vcpu 0 0)) ∷
    at 389500 (event.Arrive (processor 0)) ∷
    at 389500 (event.Decide (core 0) None None (span 0) 0) ∷
    at 389500 (event.Leave (processor 0) None) ∷
    at 389500 (event.Save (core 0) (unit 0 0) false) ∷
    at 389500 (event.End (moment 401500)) ∷
    at 401500 (event.Wake (vcpu 0 0)) ∷
    at 401500 (event.Arrive (processor 0)) ∷
    at 401500 (event.Decide (core 0) (Some (unit 0 0)) None (span 0) 0) ∷
    at 401500 (event.Leave (processor 0) (Some (vcpu 0 0))) ∷
    at 401500 (event.End (moment 424500)) ∷
    at 424500 (event.Block (processor 0) (vcpu 0 0)) ∷
    at 424500 (event.Arrive (processor 0)) ∷
    at 424500 (event.Decide (core 0) None None (span 0) 0) ∷
    at 424500 (event.Leave (processor 0) None) ∷
    at 424500 (event.Save (core 0) (unit 0 0) false) ∷
    at 424500 (event.End (moment 437000)) ∷
    at 437000 (event.Wake (vcpu 0 0)) ∷
    at 437000 (event.Arrive (processor 0)) ∷
    at 437000 (event.Decide (core 0) (Some (unit 0 0)) None (span 0) 0) ∷
    at 437000 (event.Leave (processor 0) (Some (vcpu 0 0))) ∷
    at 437000 (event.End (moment 461000)) ∷
    at 461000 (event.Block (processor 0) (vcpu 0 0)) ∷
    at 461000 (event.Arrive (processor 0)) ∷
    at 461000 (event.Decide (core 0) None None (span 0) 0) ∷
    at 461000 (event.Leave (processor 0) None) ∷
    at 461000 (event.Save (core 0) (unit 0 0) false) ∷
    at 461000 (event.End (moment 474000)) ∷
    at 474000 (event.Wake (vcpu 0 0)) ∷
    at 474000 (event.Arrive (processor 0)) ∷
    at 474000 (event.Decide (core 0) (Some (unit 0 0)) None (span 0) 0) ∷
    at 474000 (event.Leave (processor 0) (Some (vcpu 0 0))) ∷
    at 474000 (event.End (moment 499000)) ∷
    at 499000 (event.Block (processor 0) (vcpu 0 0)) ∷
    at 499000 (event.Arrive (processor 0)) ∷
    at 499000 (event.Decide (core 0) None None (span 0) 0) ∷
    at 499000 (event.Leave (processor 0) None) ∷
    at 499000 (event.Save (core 0) (unit 0 0) false) ∷
    at 499000 (event.End (moment 512500)) ∷
    at 512500 (event.Wake (vcpu 0 0)) ∷
    at 512500 (event.Arrive (processor 0)) ∷
    at 512500 (event.Decide (core 0) (Some (unit 0 0)) None (span 0) 0) ∷
    at 512500 (event.Leave (processor 0) (Some (vcpu 0 0))) ∷
    at 512500 (event.End (moment 538500)) ∷
    at 538500 (event.Block (processor 0) (vcpu 0 0)) ∷
    at 538500 (event.Arrive (processor 0)) ∷
    at 538500 (event.Decide (core 0) None None (span 0) 0) ∷
    at 538500 (event.Leave (processor 0) None) ∷
    at 538500 (event.Save (core 0) (unit 0 0) false) ∷
    at 538500 (event.End (moment 552500)) ∷
    at 552500 (event.Wake (vcpu 0 0)) ∷
    at 552500 (event.Arrive (processor 0)) ∷
    at 552500 (event.Decide (core 0) (Some (unit 0 0)) None (span 0) 0) ∷
    at 552500 (event.Leave (processor 0) (Some (vcpu 0 0))) ∷
    at 552500 (event.End (moment 579500)) ∷
    at 579500 (event.Block (processor 0) (vcpu 0 0)) ∷
    at 579500 (event.Arrive (processor 0)) ∷
    at 579500 (event.Decide (core 0) None None (span 0) 0) ∷
    at 579500 (event.Leave (processor 0) None) ∷
    at 579500 (event.Save (core 0) (unit 0 0) false) ∷
    at 579500 (event.End (moment 594000)) ∷
    at 594000 (event.Wake (vcpu 0 0)) ∷
    at 594000 (event.Arrive (processor 0)) ∷
    at 594000 (event.Decide (core 0) (Some (unit 0 0)) None (span 0) 0) ∷
    at 594000 (event.Leave (processor 0) (Some (vcpu 0 0))) ∷
    at 594000 (event.End (moment 622000)) ∷
    at 622000 (event.Block (processor 0) (vcpu 0 0)) ∷
    at 622000 (event.Arrive (processor 0)) ∷
    at 622000 (event.Decide (core 0) None None (span 0) 0) ∷
    at 622000 (event.Leave (processor 0) None) ∷
    at 622000 (event.Save (core 0) (unit 0 0) false) ∷
    at 622000 (event.End (moment 637000)) ∷
    at 637000 (event.Wake (vcpu 0 0)) ∷
    at 637000 (event.Arrive (processor 0)) ∷
    at 637000 (event.Decide (core 0) (Some (unit 0 0)) None (span 0) 0) ∷
    at 637000 (event.Leave (processor 0) (Some (vcpu 0 0))) ∷
    at 637000 (event.End (moment 666000)) ∷
    at 666000 (event.Block (processor 0) (vcpu 0 0)) ∷
    at 666000 (event.Arrive (processor 0)) ∷
    at 666000 (event.Decide (core 0) None None (span 0) 0) ∷
    at 666000 (event.Leave (processor 0) None) ∷
    at 666000 (event.Save (core 0) (unit 0 0) false) ∷
    at 666000 (event.End (moment 681500)) ∷
    at 681500 (event.Wake (vcpu 0 0)) ∷
    at 681500 (event.Arrive (processor 0)) ∷
    at 681500 (event.Decide (core 0) (Some (unit 0 0)) None (span 0) 0) ∷
    at 681500 (event.Leave (processor 0) (Some (vcpu 0 0))) ∷
    at 681500 (event.End (moment 711500)) ∷
    at 711500 (event.Block (processor 0) (vcpu 0 0)) ∷
    at 711500 (event.Arrive (processor 0)) ∷
    at 711500 (event.Decide (core 0) None None (span 0) 0) ∷
    at 711500 (event.Leave (processor 0) None) ∷
    at 711500 (event.Save (core 0) (unit 0 0) false) ∷
    at 711500 (event.End (moment 727500)) ∷
    at 727500 (event.Wake (vcpu 0 0)) ∷
    at 727500 (event.Arrive (processor 0)) ∷
    at 727500 (event.Decide (core 0) (Some (unit 0 0)) None (span 0) 0) ∷
    at 727500 (event.Leave (processor 0) (Some (vcpu 0 0))) ∷
    at 727500 (event.End (moment 758500)) ∷
    at 758500 (event.Block (processor 0) (vcpu 0 0)) ∷
    at 758500 (event.Arrive (processor 0)) ∷
    at 758500 (event.Decide (core 0) None None (span 0) 0) ∷
    at 758500 (event.Leave (processor 0) None) ∷
    at 758500 (event.Save (core 0) (unit 0 0) false) ∷
    at 758500 (event.End (moment 775000)) ∷
    at 775000 (event.Wake (vcpu 0 0)) ∷
    at 775000 (event.Arrive (processor 0)) ∷
    at 775000 (event.Decide (core 0) (Some (unit 0 0)) None (span 0) 0) ∷
    at 775000 (event.Leave (processor 0) (Some (vcpu 0 0))) ∷
    at 775000 (event.End (moment 807000)) ∷
    at 807000 (event.Block (processor 0) (vcpu 0 0)) ∷
    at 807000 (event.Arrive (processor 0)) ∷
    at 807000 (event.Decide (core 0) None None (span 0) 0) ∷
    at 807000 (event.Leave (processor 0) None) ∷
    at 807000 (event.Save (core 0) (unit 0 0) false) ∷
    at 807000 (event.End (moment 824000)) ∷
    at 824000 (event.Wake (vcpu 0 0)) ∷
    at 824000 (event.Arrive (processor 0)) ∷
    at 824000 (event.Decide (core 0) (Some (unit 0 0)) None (span 0) 0) ∷
    at 824000 (event.Leave (processor 0) (Some (vcpu 0 0))) ∷
    at 824000 (event.End (moment 825000)) ∷
    at 825000 (event.Block (processor 0) (vcpu 0 0)) ∷
    at 825000 (event.Arrive (processor 0)) ∷
    at 825000 (event.Decide (core 0) None None (span 0) 0) ∷
    at 825000 (event.Leave (processor 0) None) ∷
    at 825000 (event.Save (core 0) (unit 0 0) false) ∷
    at 825000 event.Finish ∷
    []
