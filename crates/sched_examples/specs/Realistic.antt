-- A machine as users have one.
use Rattle.std.specs.Prelude.{List, [], ◌∷◌, Some, None, Ok, true, false, pos, codes}
use Rattle.sched_base.specs.Numbers.{moment, span, processor, core, domain}
use Rattle.sched_model.specs.declared.event.Entry.{Entry}
use Rattle.sched_model.specs.declared.machine.Machine.{Machine}
use Rattle.sched_examples.specs.Words.{unit, vcpu, window, frame, endless_script, credit2_pool, rtds_pool, arinc_pool, credit2_domain, rtds_domain, arinc_domain, stall, xl, at}
use Rattle.sched_model.specs.declared.event.Event.TheVariants as event
use Rattle.sched_model.specs.declared.command.Command.TheVariants as command
use Rattle.sched_model.specs.declared.command.Which.TheVariants as which

-- eight processors in cores of two, a Credit2, an RTDS and an ARINC 653 pool, and twelve domains
unfoldable pub machine_first_entries : Machine
machine_first_entries = record {
  config = record {
    granularity = 2;
    processors = 8;
    horizon = moment 1000000000;
    pools =
        credit2_pool (codes "Pool-0") 3 1000 ∷
        rtds_pool (codes "rt") 4 ∷
        arinc_pool (codes "flight") 8 (Some (frame 50000000 (window 10 0 20000000 ∷ window 11 0 10000000 ∷ []))) ∷
        [];
    domains =
        credit2_domain (codes "Domain-0") 0 512 0 ((span 300000 ∷ span 1700000 ∷ []) ∷ (span 200000 ∷ span 4800000 ∷ []) ∷ []) ∷
        credit2_domain (codes "web1") 0 256 0 ((span 2000000 ∷ span 3000000 ∷ []) ∷ (span 2000000 ∷ span 5000000 ∷ []) ∷ []) ∷
        credit2_domain (codes "web2") 0 256 0 ((span 2500000 ∷ span 2500000 ∷ []) ∷ (span 1000000 ∷ span 9000000 ∷ []) ∷ []) ∷
        credit2_domain (codes "db") 0 1024 0 (endless_script ∷ (span 4000000 ∷ span 2000000 ∷ []) ∷ (span 3000000 ∷ span 3000000 ∷ []) ∷ []) ∷
        credit2_domain (codes "batch1") 0 64 50 (endless_script ∷ endless_script ∷ []) ∷
        credit2_domain (codes "batch2") 0 64 0 (endless_script ∷ []) ∷
        credit2_domain (codes "mail") 0 256 0 ((span 500000 ∷ span 9500000 ∷ []) ∷ []) ∷
        rtds_domain (codes "audio") 1 10000000 2000000 false ((span 1500000 ∷ span 8500000 ∷ []) ∷ []) ∷
        rtds_domain (codes "video") 1 20000000 8000000 false (endless_script ∷ (span 5000000 ∷ span 15000000 ∷ []) ∷ []) ∷
        rtds_domain (codes "logger") 1 50000000 5000000 true (endless_script ∷ []) ∷
        arinc_domain (codes "fly") 2 (endless_script ∷ endless_script ∷ []) ∷
        arinc_domain (codes "nav") 2 ((span 6000000 ∷ span 44000000 ∷ []) ∷ []) ∷
        [];
  };
  work = record {
    stalls = stall 200000000 0 3000000 ∷ [];
    commands =
        xl 500000000 (Ok (command.CpuRemove (which.Name (codes "Pool-0")) 2)) ∷
        xl 500000000 (Ok (command.CpuAdd (which.Name (codes "rt")) 2)) ∷
        xl 600000000 (Ok (command.Credit2Dom (which.Name (codes "batch1")) None (Some 100))) ∷
        xl 700000000 (Ok (command.PoolList None)) ∷
        [];
  };
}

-- the first entries of its ordered run
unfoldable pub entries_first_entries : List Entry
entries_first_entries =
    at 0 (event.Arrive (processor 0)) ∷
    at 0 (event.Arrive (processor 1)) ∷
    at 0 (event.Arrive (processor 2)) ∷
    at 0 (event.Arrive (processor 3)) ∷
    at 0 (event.Arrive (processor 4)) ∷
    at 0 (event.Arrive (processor 5)) ∷
    at 0 (event.Arrive (processor 6)) ∷
    at 0 (event.Arrive (processor 7)) ∷
    at 0 (event.Decide (core 0) (Some (unit 0 0)) (Some (moment 1000000)) (span 0) 0) ∷
    at 0 (event.Decide (core 1) (Some (unit 1 0)) (Some (moment 1000000)) (span 0) 0) ∷
    at 0 (event.Decide (core 2) (Some (unit 7 0)) (Some (moment 2000000)) (span 0) 0) ∷
    at 0 (event.Decide (core 3) (Some (unit 10 0)) (Some (moment 20000000)) (span 0) 0) ∷
    at 0 (event.Leave (processor 0) (Some (vcpu 0 0))) ∷
    at 0 (event.Leave (processor 1) (Some (vcpu 0 1))) ∷
    at 0 (event.Leave (processor 2) (Some (vcpu 1 0))) ∷
    at 0 (event.Leave (processor 3) (Some (vcpu 1 1))) ∷
    at 0 (event.Leave (processor 4) (Some (vcpu 7 0))) ∷
    at 0 (event.Leave (processor 5) None) ∷
    at 0 (event.Leave (processor 6) (Some (vcpu 10 0))) ∷
    at 0 (event.Leave (processor 7) (Some (vcpu 10 1))) ∷
    at 0 (event.End (moment 200000)) ∷
    at 200000 (event.Block (processor 1) (vcpu 0 1)) ∷
    at 200000 (event.End (moment 300000)) ∷
    at 300000 (event.Block (processor 0) (vcpu 0 0)) ∷
    at 300000 (event.Arrive (processor 0)) ∷
    at 300000 (event.Arrive (processor 1)) ∷
    at 300000 (event.Decide (core 0) (Some (unit 2 0)) (Some (moment 1300000)) (span 0) 0) ∷
    at 300000 (event.Leave (processor 0) (Some (vcpu 2 0))) ∷
    at 300000 (event.Leave (processor 1) (Some (vcpu 2 1))) ∷
    at 300000 (event.Save (core 0) (unit 0 0) false) ∷
    at 300000 (event.End (moment 1000000)) ∷
    at 1000000 (event.Slice (core 1)) ∷
    at 1000000 (event.Arrive (processor 2)) ∷
    at 1000000 (event.Arrive (processor 3)) ∷
    at 1000000 (event.Decide (core 1) (Some (unit 3 0)) (Some (moment 2000000)) (span 0) 0) ∷
    at 1000000 (event.Leave (processor 2) (Some (vcpu 3 0))) ∷
    at 1000000 (event.Leave (processor 3) (Some (vcpu 3 1))) ∷
    at 1000000 (event.Save (core 1) (unit 1 0) true) ∷
    at 1000000 (event.End (moment 1300000)) ∷
    at 1300000 (event.Block (processor 1) (vcpu 2 1)) ∷
    at 1300000 (event.Arrive (processor 0)) ∷
    at 1300000 (event.Arrive (processor 1)) ∷
    at 1300000 (event.Decide (core 0) (Some (unit 3 1)) (Some (moment 2300000)) (span 0) 0) ∷
    at 1300000 (event.Leave (processor 0) (Some (vcpu 3 2))) ∷
    at 1300000 (event.Leave (processor 1) None) ∷
    at 1300000 (event.Save (core 0) (unit 2 0) true) ∷
    at 1300000 (event.End (moment 1500000)) ∷
    at 1500000 (event.Block (processor 4) (vcpu 7 0)) ∷
    at 1500000 (event.Arrive (processor 4)) ∷
    at 1500000 (event.Arrive (processor 5)) ∷
    at 1500000 (event.Decide (core 2) (Some (unit 8 0)) (Some (moment 9500000)) (span 0) 0) ∷
    at 1500000 (event.Leave (processor 4) (Some (vcpu 8 0))) ∷
    at 1500000 (event.Leave (processor 5) (Some (vcpu 8 1))) ∷
    at 1500000 (event.Save (core 2) (unit 7 0) false) ∷
    at 1500000 (event.End (moment 2000000)) ∷
    at 2000000 (event.Wake (vcpu 0 0)) ∷
    at 2000000 (event.Arrive (processor 2)) ∷
    at 2000000 (event.Arrive (processor 3)) ∷
    at 2000000 (event.Decide (core 1) (Some (unit 4 0)) (Some (moment 3000000)) (span 0) 0) ∷
    at 2000000 (event.Leave (processor 2) (Some (vcpu 4 0))) ∷
    at 2000000 (event.Leave (processor 3) (Some (vcpu 4 1))) ∷
    at 2000000 (event.Save (core 1) (unit 3 0) true) ∷
    at 2000000 (event.End (moment 2300000)) ∷
    at 2300000 (event.Slice (core 0)) ∷
    at 2300000 (event.Arrive (processor 0)) ∷
    at 2300000 (event.Arrive (processor 1)) ∷
    at 2300000 (event.Decide (core 0) (Some (unit 5 0)) (Some (moment 3300000)) (span 0) 0) ∷
    at 2300000 (event.Leave (processor 0) (Some (vcpu 5 0))) ∷
    at 2300000 (event.Leave (processor 1) None) ∷
    at 2300000 (event.Save (core 0) (unit 3 1) true) ∷
    at 2300000 (event.End (moment 3000000)) ∷
    at 3000000 (event.Slice (core 1)) ∷
    at 3000000 (event.Arrive (processor 2)) ∷
    at 3000000 (event.Arrive (processor 3)) ∷
    at 3000000 (event.Decide (core 1) (Some (unit 6 0)) (Some (moment 4000000)) (span 0) 0) ∷
    at 3000000 (event.Leave (processor 2) (Some (vcpu 6 0))) ∷
    at 3000000 (event.Leave (processor 3) None) ∷
    at 3000000 (event.Save (core 1) (unit 4 0) true) ∷
    at 3000000 (event.End (moment 3300000)) ∷
    at 3300000 (event.Slice (core 0)) ∷
    at 3300000 (event.Arrive (processor 0)) ∷
    at 3300000 (event.Arrive (processor 1)) ∷
    at 3300000 (event.Decide (core 0) (Some (unit 0 0)) (Some (moment 4300000)) (span 0) 0) ∷
    at 3300000 (event.Leave (processor 0) (Some (vcpu 0 0))) ∷
    at 3300000 (event.Leave (processor 1) None) ∷
    at 3300000 (event.Save (core 0) (unit 5 0) true) ∷
    at 3300000 (event.End (moment 3500000)) ∷
    at 3500000 (event.Block (processor 2) (vcpu 6 0)) ∷
    at 3500000 (event.Arrive (processor 2)) ∷
    at 3500000 (event.Arrive (processor 3)) ∷
    at 3500000 (event.Decide (core 1) (Some (unit 3 0)) (Some (moment 4500000)) (span 0) 0) ∷
    at 3500000 (event.Leave (processor 2) (Some (vcpu 3 0))) ∷
    at 3500000 (event.Leave (processor 3) (Some (vcpu 3 1))) ∷
    at 3500000 (event.Save (core 1) (unit 6 0) false) ∷
    at 3500000 (event.End (moment 3600000)) ∷
    at 3600000 (event.Block (processor 0) (vcpu 0 0)) ∷
    at 3600000 (event.Arrive (processor 0)) ∷
    at 3600000 (event.Arrive (processor 1)) ∷
    at 3600000 (event.Decide (core 0) (Some (unit 3 1)) (Some (moment 6600000)) (span 0) 0) ∷
    at 3600000 (event.Leave (processor 0) (Some (vcpu 3 2))) ∷
    at 3600000 (event.Leave (processor 1) None) ∷
    at 3600000 (event.Save (core 0) (unit 0 0) false) ∷
    at 3600000 (event.End (moment 4500000)) ∷
    at 4500000 (event.Slice (core 1)) ∷
    at 4500000 (event.Arrive (processor 2)) ∷
    at 4500000 (event.Arrive (processor 3)) ∷
    at 4500000 (event.Decide (core 1) (Some (unit 3 0)) (Some (moment 6500000)) (span 0) 0) ∷
    at 4500000 (event.Leave (processor 2) (Some (vcpu 3 0))) ∷
    at 4500000 (event.Leave (processor 3) (Some (vcpu 3 1))) ∷
    at 4500000 (event.End (moment 5000000)) ∷
    at 5000000 (event.Wake (vcpu 0 1)) ∷
    at 5000000 (event.Arrive (processor 0)) ∷
    at 5000000 (event.Arrive (processor 1)) ∷
    at 5000000 (event.Arrive (processor 2)) ∷
    at 5000000 (event.Arrive (processor 3)) ∷
    at 5000000 (event.Decide (core 0) (Some (unit 0 0)) (Some (moment 6400000)) (span 0) 0) ∷
    at 5000000 (event.Decide (core 1) (Some (unit 3 0)) (Some (moment 6500000)) (span 0) 0) ∷
    at 5000000 (event.Leave (processor 0) None) ∷
    at 5000000 (event.Leave (processor 1) (Some (vcpu 0 1))) ∷
    at 5000000 (event.Leave (processor 2) (Some (vcpu 3 0))) ∷
    at 5000000 (event.Leave (processor 3) (Some (vcpu 3 1))) ∷
    at 5000000 (event.Save (core 0) (unit 3 1) true) ∷
    at 5000000 (event.Arrive (processor 2)) ∷
    at 5000000 (event.Arrive (processor 3)) ∷
    at 5000000 (event.Decide (core 1) (Some (unit 3 1)) (Some (moment 6600000)) (span 0) 0) ∷
    at 5000000 (event.Leave (processor 2) (Some (vcpu 3 2))) ∷
    at 5000000 (event.Leave (processor 3) None) ∷
    at 5000000 (event.Save (core 1) (unit 3 0) true) ∷
    at 5000000 (event.End (moment 5200000)) ∷
    at 5200000 (event.Block (processor 1) (vcpu 0 1)) ∷
    at 5200000 (event.Arrive (processor 0)) ∷
    at 5200000 (event.Arrive (processor 1)) ∷
    at 5200000 (event.Decide (core 0) (Some (unit 3 0)) (Some (moment 6700000)) (span 0) 0) ∷
    at 5200000 (event.Leave (processor 0) (Some (vcpu 3 0))) ∷
    at 5200000 (event.Leave (processor 1) (Some (vcpu 3 1))) ∷
    at 5200000 (event.Save (core 0) (unit 0 0) false) ∷
    at 5200000 (event.End (moment 5300000)) ∷
    at 5300000 (event.Wake (vcpu 0 0)) ∷
    at 5300000 (event.End (moment 5600000)) ∷
    at 5600000 (event.Block (processor 2) (vcpu 3 2)) ∷
    at 5600000 (event.Arrive (processor 2)) ∷
    at 5600000 (event.Arrive (processor 3)) ∷
    at 5600000 (event.Decide (core 1) (Some (unit 0 0)) (Some (moment 6800000)) (span 0) 0) ∷
    at 5600000 (event.Leave (processor 2) (Some (vcpu 0 0))) ∷
    at 5600000 (event.Leave (processor 3) None) ∷
    at 5600000 (event.Save (core 1) (unit 3 1) false) ∷
    at 5600000 (event.End (moment 5900000)) ∷
    at 5900000 (event.Block (processor 2) (vcpu 0 0)) ∷
    at 5900000 (event.Arrive (processor 2)) ∷
    at 5900000 (event.Arrive (processor 3)) ∷
    at 5900000 (event.Decide (core 1) (Some (unit 1 0)) (Some (moment 6900000)) (span 0) 0) ∷
    at 5900000 (event.Leave (processor 2) (Some (vcpu 1 0))) ∷
    at 5900000 (event.Leave (processor 3) (Some (vcpu 1 1))) ∷
    at 5900000 (event.Save (core 1) (unit 0 0) false) ∷
    at 5900000 (event.End (moment 6500000)) ∷
    at 6500000 (event.Block (processor 5) (vcpu 8 1)) ∷
    at 6500000 (event.End (moment 6700000)) ∷
    at 6700000 (event.Block (processor 1) (vcpu 3 1)) ∷
    at 6700000 (event.Slice (core 0)) ∷
    at 6700000 (event.Arrive (processor 0)) ∷
    at 6700000 (event.Arrive (processor 1)) ∷
    at 6700000 (event.Decide (core 0) (Some (unit 3 0)) (Some (moment 7700000)) (span 0) 0) ∷
    at 6700000 (event.Leave (processor 0) (Some (vcpu 3 0))) ∷
    at 6700000 (event.Leave (processor 1) None) ∷
    at 6700000 (event.End (moment 6900000)) ∷
    at 6900000 (event.Block (processor 2) (vcpu 1 0)) ∷
    at 6900000 (event.Block (processor 3) (vcpu 1 1)) ∷
    at 6900000 (event.Arrive (processor 0)) ∷
    at 6900000 (event.Arrive (processor 1)) ∷
    at 6900000 (event.Arrive (processor 2)) ∷
    at 6900000 (event.Arrive (processor 3)) ∷
    at 6900000 (event.Decide (core 0) (Some (unit 2 0)) (Some (moment 9900000)) (span 0) 0) ∷
    at 6900000 (event.Decide (core 1) (Some (unit 4 0)) (Some (moment 7900000)) (span 0) 1) ∷
    at 6900000 (event.Leave (processor 0) (Some (vcpu 2 0))) ∷
    at 6900000 (event.Leave (processor 1) None) ∷
    at 6900000 (event.Leave (processor 2) (Some (vcpu 4 0))) ∷
    at 6900000 (event.Leave (processor 3) (Some (vcpu 4 1))) ∷
    at 6900000 (event.Save (core 0) (unit 3 0) true) ∷
    at 6900000 (event.Save (core 1) (unit 1 0) false) ∷
    at 6900000 (event.End (moment 7600000)) ∷
    at 7600000 (event.Wake (vcpu 0 0)) ∷
    at 7600000 (event.End (moment 7900000)) ∷
    at 7900000 (event.Slice (core 1)) ∷
    at 7900000 (event.Arrive (processor 0)) ∷
    at 7900000 (event.Arrive (processor 1)) ∷
    at 7900000 (event.Arrive (processor 2)) ∷
    at 7900000 (event.Arrive (processor 3)) ∷
    at 7900000 (event.Decide (core 0) (Some (unit 3 0)) (Some (moment 8900000)) (span 0) 0) ∷
    at 7900000 (event.Decide (core 1) (Some (unit 0 0)) (Some (moment 11150000)) (span 0) 0) ∷
    at 7900000 (event.Leave (processor 0) (Some (vcpu 3 0))) ∷
    at 7900000 (event.Leave (processor 1) None) ∷
    at 7900000 (event.Leave (processor 2) (Some (vcpu 0 0))) ∷
    at 7900000 (event.Leave (processor 3) None) ∷
    at 7900000 (event.Save (core 0) (unit 2 0) true) ∷
    at 7900000 (event.Save (core 1) (unit 4 0) true) ∷
    at 7900000 (event.End (moment 8200000)) ∷
    at 8200000 (event.Block (processor 2) (vcpu 0 0)) ∷
    at 8200000 (event.Arrive (processor 2)) ∷
    at 8200000 (event.Arrive (processor 3)) ∷
    at 8200000 (event.Decide (core 1) (Some (unit 2 0)) (Some (moment 9200000)) (span 0) 0) ∷
    at 8200000 (event.Leave (processor 2) (Some (vcpu 2 0))) ∷
    at 8200000 (event.Leave (processor 3) None) ∷
    at 8200000 (event.Save (core 1) (unit 0 0) false) ∷
    at 8200000 (event.End (moment 8600000)) ∷
    at 8600000 (event.Wake (vcpu 3 2)) ∷
    at 8600000 (event.End (moment 8700000)) ∷
    at 8700000 (event.Wake (vcpu 3 1)) ∷
    at 8700000 (event.Block (processor 2) (vcpu 2 0)) ∷
    at 8700000 (event.Arrive (processor 2)) ∷
    at 8700000 (event.Arrive (processor 3)) ∷
    at 8700000 (event.Decide (core 1) (Some (unit 3 1)) (Some (moment 15200000)) (span 0) 0) ∷
    at 8700000 (event.Leave (processor 2) (Some (vcpu 3 2))) ∷
    at 8700000 (event.Leave (processor 3) None) ∷
    at 8700000 (event.Save (core 1) (unit 2 0) false) ∷
    at 8700000 (event.End (moment 8900000)) ∷
    at 8900000 (event.Slice (core 0)) ∷
    at 8900000 (event.Arrive (processor 0)) ∷
    at 8900000 (event.Arrive (processor 1)) ∷
    at 8900000 (event.Decide (core 0) (Some (unit 3 0)) (Some (moment 14400000)) (span 0) 0) ∷
    at 8900000 (event.Leave (processor 0) (Some (vcpu 3 0))) ∷
    at 8900000 (event.Leave (processor 1) (Some (vcpu 3 1))) ∷
    at 8900000 (event.End (moment 9500000)) ∷
    at 9500000 (event.Slice (core 2)) ∷
    at 9500000 (event.Arrive (processor 4)) ∷
    at 9500000 (event.Arrive (processor 5)) ∷
    at 9500000 (event.Decide (core 2) (Some (unit 9 0)) (Some (moment 14500000)) (span 0) 0) ∷
    at 9500000 (event.Leave (processor 4) (Some (vcpu 9 0))) ∷
    at 9500000 (event.Leave (processor 5) None) ∷
    at 9500000 (event.Save (core 2) (unit 8 0) true) ∷
    at 9500000 (event.End (moment 9900000)) ∷
    at 9900000 (event.Wake (vcpu 0 0)) ∷
    at 9900000 (event.Wake (vcpu 1 0)) ∷
    at 9900000 (event.Arrive (processor 0)) ∷
    at 9900000 (event.Arrive (processor 1)) ∷
    at 9900000 (event.Arrive (processor 2)) ∷
    at 9900000 (event.Arrive (processor 3)) ∷
    at 9900000 (event.Decide (core 0) (Some (unit 1 0)) (Some (moment 10900000)) (span 0) 0) ∷
    at 9900000 (event.Decide (core 1) (Some (unit 0 0)) (Some (moment 12850000)) (span 0) 0) ∷
    at 9900000 (event.Leave (processor 0) (Some (vcpu 1 0))) ∷
    at 9900000 (event.Leave (processor 1) None) ∷
    at 9900000 (event.Leave (processor 2) (Some (vcpu 0 0))) ∷
    at 9900000 (event.Leave (processor 3) None) ∷
    at 9900000 (event.Save (core 0) (unit 3 0) true) ∷
    at 9900000 (event.Save (core 1) (unit 3 1) true) ∷
    at 9900000 (event.End (moment 10000000)) ∷
    at 10000000 (event.Wake (vcpu 0 1)) ∷
    at 10000000 (event.Wake (vcpu 7 0)) ∷
    at 10000000 (event.Repl (unit 7 0) (moment 10000000) (moment 20000000) (span 2000000) false) ∷
    at 10000000 (event.Refill (domain 4) 1 (pos 5000000)) ∷
    at 10000000 (event.Arrive (processor 4)) ∷
    at 10000000 (event.Arrive (processor 5)) ∷
    at 10000000 (event.Decide (core 2) (Some (unit 7 0)) (Some (moment 12000000)) (span 0) 0) ∷
    at 10000000 (event.Leave (processor 4) (Some (vcpu 7 0))) ∷
    at 10000000 (event.Leave (processor 5) None) ∷
    at 10000000 (event.Save (core 2) (unit 9 0) true) ∷
    at 10000000 (event.End (moment 10200000)) ∷
    at 10200000 (event.Block (processor 2) (vcpu 0 0)) ∷
    at 10200000 (event.Block (processor 3) (vcpu 0 1)) ∷
    at 10200000 (event.Arrive (processor 2)) ∷
    at 10200000 (event.Arrive (processor 3)) ∷
    at 10200000 (event.Decide (core 1) (Some (unit 3 1)) (Some (moment 11200000)) (span 0) 0) ∷
    at 10200000 (event.Leave (processor 2) (Some (vcpu 3 2))) ∷
    at 10200000 (event.Leave (processor 3) None) ∷
    at 10200000 (event.Save (core 1) (unit 0 0) false) ∷
    at 10200000 (event.End (moment 10300000)) ∷
    at 10300000 (event.Wake (vcpu 2 1)) ∷
    at 10300000 (event.End (moment 10900000)) ∷
    at 10900000 (event.Slice (core 0)) ∷
    at 10900000 (event.Arrive (processor 0)) ∷
    at 10900000 (event.Arrive (processor 1)) ∷
    at 10900000 (event.Decide (core 0) (Some (unit 3 0)) (Some (moment 14900000)) (span 0) 0) ∷
    at 10900000 (event.Leave (processor 0) (Some (vcpu 3 0))) ∷
    at 10900000 (event.Leave (processor 1) (Some (vcpu 3 1))) ∷
    at 10900000 (event.Save (core 0) (unit 1 0) true) ∷
    at 10900000 (event.End (moment 11200000)) ∷
    at 11200000 (event.Wake (vcpu 2 0)) ∷
    at 11200000 (event.Slice (core 1)) ∷
    at 11200000 (event.Arrive (processor 2)) ∷
    at 11200000 (event.Arrive (processor 3)) ∷
    at 11200000 (event.Decide (core 1) (Some (unit 3 1)) (Some (moment 13000000)) (span 0) 0) ∷
    at 11200000 (event.Leave (processor 2) (Some (vcpu 3 2))) ∷
    at 11200000 (event.Leave (processor 3) None) ∷
    at 11200000 (event.End (moment 11500000)) ∷
    at 11500000 (event.Block (processor 4) (vcpu 7 0)) ∷
    at 11500000 (event.Arrive (processor 4)) ∷
    at 11500000 (event.Arrive (processor 5)) ∷
    at 11500000 (event.Decide (core 2) (Some (unit 9 0)) (Some (moment 16000000)) (span 0) 0) ∷
    at 11500000 (event.Leave (processor 4) (Some (vcpu 9 0))) ∷
    at 11500000 (event.Leave (processor 5) None) ∷
    at 11500000 (event.Save (core 2) (unit 7 0) false) ∷
    at 11500000 (event.End (moment 11900000)) ∷
    at 11900000 (event.Wake (vcpu 0 0)) ∷
    at 11900000 (event.Wake (vcpu 1 1)) ∷
    at 11900000 (event.Arrive (processor 0)) ∷
    at 11900000 (event.Arrive (processor 1)) ∷
    at 11900000 (event.Arrive (processor 2)) ∷
    at 11900000 (event.Arrive (processor 3)) ∷
    at 11900000 (event.Decide (core 0) (Some (unit 0 0)) (Some (moment 13300000)) (span 0) 0) ∷
    at 11900000 (event.Decide (core 1) (Some (unit 3 1)) (Some (moment 13000000)) (span 0) 0) ∷
    at 11900000 (event.Leave (processor 0) (Some (vcpu 0 0))) ∷
    at 11900000 (event.Leave (processor 1) None) ∷
    at 11900000 (event.Leave (processor 2) (Some (vcpu 3 2))) ∷
    at 11900000 (event.Leave (processor 3) None) ∷
    at 11900000 (event.Save (core 0) (unit 3 0) true) ∷
    at 11900000 (event.End (moment 12000000)) ∷
    at 12000000 (event.Block (processor 2) (vcpu 3 2)) ∷
    at 12000000 (event.Arrive (processor 2)) ∷
    at 12000000 (event.Arrive (processor 3)) ∷
    at 12000000 (event.Decide (core 1) (Some (unit 3 0)) (Some (moment 13000000)) (span 0) 0) ∷
    at 12000000 (event.Leave (processor 2) (Some (vcpu 3 0))) ∷
    at 12000000 (event.Leave (processor 3) (Some (vcpu 3 1))) ∷
    at 12000000 (event.Save (core 1) (unit 3 1) false) ∷
    at 12000000 (event.End (moment 12200000)) ∷
    at 12200000 (event.Block (processor 0) (vcpu 0 0)) ∷
    at 12200000 (event.Arrive (processor 0)) ∷
    at 12200000 (event.Arrive (processor 1)) ∷
    at 12200000 (event.Decide (core 0) (Some (unit 1 0)) (Some (moment 13200000)) (span 0) 0) ∷
    at 12200000 (event.Leave (processor 0) (Some (vcpu 1 0))) ∷
    at 12200000 (event.Leave (processor 1) (Some (vcpu 1 1))) ∷
    at 12200000 (event.Save (core 0) (unit 0 0) false) ∷
    at 12200000 (event.End (moment 13000000)) ∷
    at 13000000 (event.Wake (vcpu 6 0)) ∷
    at 13000000 (event.Arrive (processor 2)) ∷
    at 13000000 (event.Arrive (processor 3)) ∷
    at 13000000 (event.Decide (core 1) (Some (unit 6 0)) (Some (moment 14500000)) (span 0) 0) ∷
    at 13000000 (event.Leave (processor 2) (Some (vcpu 6 0))) ∷
    at 13000000 (event.Leave (processor 3) None) ∷
    at 13000000 (event.Save (core 1) (unit 3 0) true) ∷
    at 13000000 (event.End (moment 13200000)) ∷
    at 13200000 (event.Block (processor 0) (vcpu 1 0)) ∷
    at 13200000 (event.Arrive (processor 0)) ∷
    at 13200000 (event.Arrive (processor 1)) ∷
    at 13200000 (event.Decide (core 0) (Some (unit 3 0)) (Some (moment 15200000)) (span 0) 0) ∷
    at 13200000 (event.Leave (processor 0) (Some (vcpu 3 0))) ∷
    at 13200000 (event.Leave (processor 1) (Some (vcpu 3 1))) ∷
    at 13200000 (event.Save (core 0) (unit 1 0) true) ∷
    at 13200000 (event.End (moment 13500000)) ∷
    at 13500000 (event.Block (processor 2) (vcpu 6 0)) ∷
    at 13500000 (event.Arrive (processor 2)) ∷
    at 13500000 (event.Arrive (processor 3)) ∷
    at 13500000 (event.Decide (core 1) (Some (unit 2 0)) (Some (moment 14500000)) (span 0) 0) ∷
    at 13500000 (event.Leave (processor 2) (Some (vcpu 2 0))) ∷
    at 13500000 (event.Leave (processor 3) (Some (vcpu 2 1))) ∷
    at 13500000 (event.Save (core 1) (unit 6 0) false) ∷
    at 13500000 (event.End (moment 13900000)) ∷
    at 13900000 (event.Wake (vcpu 0 0)) ∷
    at 13900000 (event.End (moment 14000000)) ∷
    at 14000000 (event.Block (processor 1) (vcpu 3 1)) ∷
    at 14000000 (event.End (moment 14500000)) ∷
    at 14500000 (event.Block (processor 3) (vcpu 2 1)) ∷
    at 14500000 (event.Arrive (processor 0)) ∷
    at 14500000 (event.Arrive (processor 1)) ∷
    at 14500000 (event.Arrive (processor 2)) ∷
    at 14500000 (event.Arrive (processor 3)) ∷
    at 14500000 (event.Decide (core 0) (Some (unit 0 0)) (Some (moment 16850000)) (span 0) 0) ∷
    at 14500000 (event.Decide (core 1) (Some (unit 5 0)) (Some (moment 15500000)) (span 0) 0) ∷
    at 14500000 (event.Leave (processor 0) (Some (vcpu 0 0))) ∷
    at 14500000 (event.Leave (processor 1) None) ∷
    at 14500000 (event.Leave (processor 2) (Some (vcpu 5 0))) ∷
    at 14500000 (event.Leave (processor 3) None) ∷
    at 14500000 (event.Save (core 0) (unit 3 0) true) ∷
    at 14500000 (event.Save (core 1) (unit 2 0) true) ∷
    at 14500000 (event.End (moment 14800000)) ∷
    at 14800000 (event.Block (processor 0) (vcpu 0 0)) ∷
    at 14800000 (event.Arrive (processor 0)) ∷
    at 14800000 (event.Arrive (processor 1)) ∷
    at 14800000 (event.Decide (core 0) (Some (unit 3 0)) (Some (moment 17500000)) (span 0) 0) ∷
    at 14800000 (event.Leave (processor 0) (Some (vcpu 3 0))) ∷
    at 14800000 (event.Leave (processor 1) None) ∷
    at 14800000 (event.Save (core 0) (unit 0 0) false) ∷
    at 14800000 (event.End (moment 15000000)) ∷
    at 15000000 (event.Wake (vcpu 0 1)) ∷
    at 15000000 (event.Wake (vcpu 3 2)) ∷
    at 15000000 (event.End (moment 15500000)) ∷
    at 15500000 (event.Slice (core 1)) ∷
    at 15500000 (event.Arrive (processor 2)) ∷
    at 15500000 (event.Arrive (processor 3)) ∷
    at 15500000 (event.Decide (core 1) (Some (unit 0 0)) (Some (moment 16500000)) (span 0) 0) ∷
    at 15500000 (event.Leave (processor 2) None) ∷
    at 15500000 (event.Leave (processor 3) (Some (vcpu 0 1))) ∷
    at 15500000 (event.Save (core 1) (unit 5 0) true) ∷
    at 15500000 (event.End (moment 15700000)) ∷
    at 15700000 (event.Block (processor 3) (vcpu 0 1)) ∷
    at 15700000 (event.Arrive (processor 2)) ∷
    at 15700000 (event.Arrive (processor 3)) ∷
    at 15700000 (event.Decide (core 1) (Some (unit 3 1)) (Some (moment 20700000)) (span 0) 0) ∷
    at 15700000 (event.Leave (processor 2) (Some (vcpu 3 2))) ∷
    at 15700000 (event.Leave (processor 3) None) ∷
    at 15700000 (event.Save (core 1) (unit 0 0) false) ∷
    at 15700000 (event.End (moment 16000000)) ∷
    at 16000000 (event.Wake (vcpu 3 1)) ∷
    at 16000000 (event.Slice (core 2)) ∷
    at 16000000 (event.Arrive (processor 4)) ∷
    at 16000000 (event.Arrive (processor 5)) ∷
    at 16000000 (event.Decide (core 2) (Some (unit 9 0)) (Some (moment 21000000)) (span 0) 0) ∷
    at 16000000 (event.Leave (processor 4) (Some (vcpu 9 0))) ∷
    at 16000000 (event.Leave (processor 5) None) ∷
    at 16000000 (event.End (moment 16200000)) ∷
    at 16200000 (event.Wake (vcpu 1 0)) ∷
    at 16200000 (event.End (moment 16500000)) ∷
    at 16500000 (event.Wake (vcpu 0 0)) ∷
    at 16500000 (event.Arrive (processor 0)) ∷
    at 16500000 (event.Arrive (processor 1)) ∷
    at 16500000 (event.Decide (core 0) (Some (unit 0 0)) (Some (moment 19100000)) (span 0) 0) ∷
    at 16500000 (event.Leave (processor 0) (Some (vcpu 0 0))) ∷
    at 16500000 (event.Leave (processor 1) None) ∷
    at 16500000 (event.Save (core 0) (unit 3 0) true) ∷
    at 16500000 (event.End (moment 16800000)) ∷
    at 16800000 (event.Block (processor 0) (vcpu 0 0)) ∷
    at 16800000 (event.Arrive (processor 0)) ∷
    at 16800000 (event.Arrive (processor 1)) ∷
    at 16800000 (event.Decide (core 0) (Some (unit 3 0)) (Some (moment 17800000)) (span 0) 0) ∷
    at 16800000 (event.Leave (processor 0) (Some (vcpu 3 0))) ∷
    at 16800000 (event.Leave (processor 1) (Some (vcpu 3 1))) ∷
    at 16800000 (event.Save (core 0) (unit 0 0) false) ∷
    at 16800000 (event.End (moment 17800000)) ∷
    at 17800000 (event.Slice (core 0)) ∷
    at 17800000 (event.Arrive (processor 0)) ∷
    at 17800000 (event.Arrive (processor 1)) ∷
    at 17800000 (event.Decide (core 0) (Some (unit 3 0)) (Some (moment 18800000)) (span 0) 0) ∷
    at 17800000 (event.Leave (processor 0) (Some (vcpu 3 0))) ∷
    at 17800000 (event.Leave (processor 1) (Some (vcpu 3 1))) ∷
    at 17800000 (event.End (moment 18500000)) ∷
    at 18500000 (event.Wake (vcpu 0 0)) ∷
    at 18500000 (event.Arrive (processor 0)) ∷
    at 18500000 (event.Arrive (processor 1)) ∷
    at 18500000 (event.Arrive (processor 2)) ∷
    at 18500000 (event.Arrive (processor 3)) ∷
    at 18500000 (event.Decide (core 0) (Some (unit 0 0)) (Some (moment 20800000)) (span 0) 0) ∷
    at 18500000 (event.Decide (core 1) (Some (unit 3 1)) (Some (moment 20700000)) (span 0) 0) ∷
    at 18500000 (event.Leave (processor 0) (Some (vcpu 0 0))) ∷
    at 18500000 (event.Leave (processor 1) None) ∷
    at 18500000 (event.Leave (processor 2) (Some (vcpu 3 2))) ∷
    at 18500000 (event.Leave (processor 3) None) ∷
    at 18500000 (event.Save (core 0) (unit 3 0) true) ∷
    at 18500000 (event.End (moment 18700000)) ∷
    at 18700000 (event.Block (processor 2) (vcpu 3 2)) ∷
    at 18700000 (event.Arrive (processor 2)) ∷
    at 18700000 (event.Arrive (processor 3)) ∷
    at 18700000 (event.Decide (core 1) (Some (unit 1 0)) (Some (moment 19700000)) (span 0) 0) ∷
    at 18700000 (event.Leave (processor 2) (Some (vcpu 1 0))) ∷
    at 18700000 (event.Leave (processor 3) (Some (vcpu 1 1))) ∷
    at 18700000 (event.Save (core 1) (unit 3 1) false) ∷
    at 18700000 (event.End (moment 18800000)) ∷
    at 18800000 (event.Block (processor 0) (vcpu 0 0)) ∷
    at 18800000 (event.Arrive (processor 0)) ∷
    at 18800000 (event.Arrive (processor 1)) ∷
    at 18800000 (event.Decide (core 0) (Some (unit 3 0)) (Some (moment 20100000)) (span 0) 0) ∷
    at 18800000 (event.Leave (processor 0) (Some (vcpu 3 0))) ∷
    at 18800000 (event.Leave (processor 1) (Some (vcpu 3 1))) ∷
    at 18800000 (event.Save (core 0) (unit 0 0) false) ∷
    at 18800000 (event.End (moment 19700000)) ∷
    at 19700000 (event.Block (processor 3) (vcpu 1 1)) ∷
    at 19700000 (event.Arrive (processor 2)) ∷
    at 19700000 (event.Arrive (processor 3)) ∷
    at 19700000 (event.Decide (core 1) (Some (unit 2 0)) (Some (moment 22825000)) (span 0) 0) ∷
    at 19700000 (event.Leave (processor 2) (Some (vcpu 2 0))) ∷
    at 19700000 (event.Leave (processor 3) None) ∷
    at 19700000 (event.Save (core 1) (unit 1 0) true) ∷
    at 19700000 (event.End (moment 20000000)) ∷
    at 20000000 (event.Wake (vcpu 7 0)) ∷
    at 20000000 (event.Slice (core 3)) ∷
    at 20000000 (event.Repl (unit 7 0) (moment 20000000) (moment 30000000) (span 2000000) false) ∷
    at 20000000 (event.Repl (unit 8 0) (moment 20000000) (moment 40000000) (span 8000000) false) ∷
    at 20000000 (event.Refill (domain 4) 1 (pos 5000000)) ∷
    at 20000000 (event.Arrive (processor 4)) ∷
    at 20000000 (event.Arrive (processor 5)) ∷
    at 20000000 (event.Arrive (processor 6)) ∷
    at 20000000 (event.Arrive (processor 7)) ∷
    at 20000000 (event.Decide (core 2) (Some (unit 7 0)) (Some (moment 22000000)) (span 0) 0) ∷
    at 20000000 (event.Decide (core 3) (Some (unit 11 0)) (Some (moment 30000000)) (span 0) 0) ∷
    at 20000000 (event.Leave (processor 4) (Some (vcpu 7 0))) ∷
    at 20000000 (event.Leave (processor 5) None) ∷
    at 20000000 (event.Leave (processor 6) (Some (vcpu 11 0))) ∷
    at 20000000 (event.Leave (processor 7) None) ∷
    at 20000000 (event.Save (core 2) (unit 9 0) true) ∷
    at 20000000 (event.Save (core 3) (unit 10 0) true) ∷
    at 20000000 (event.End (moment 20100000)) ∷
    at 20100000 (event.Slice (core 0)) ∷
    at 20100000 (event.Arrive (processor 0)) ∷
    at 20100000 (event.Arrive (processor 1)) ∷
    at 20100000 (event.Decide (core 0) (Some (unit 3 0)) (Some (moment 22100000)) (span 0) 0) ∷
    at 20100000 (event.Leave (processor 0) (Some (vcpu 3 0))) ∷
    at 20100000 (event.Leave (processor 1) (Some (vcpu 3 1))) ∷
    at 20100000 (event.End (moment 20500000)) ∷
    at 20500000 (event.Wake (vcpu 0 0)) ∷
    at 20500000 (event.Wake (vcpu 0 1)) ∷
    at 20500000 (event.Arrive (processor 0)) ∷
    at 20500000 (event.Arrive (processor 1)) ∷
    at 20500000 (event.Decide (core 0) (Some (unit 0 0)) (Some (moment 24500000)) (span 0) 0) ∷
    at 20500000 (event.Leave (processor 0) (Some (vcpu 0 0))) ∷
    at 20500000 (event.Leave (processor 1) (Some (vcpu 0 1))) ∷
    at 20500000 (event.Save (core 0) (unit 3 0) true) ∷
    at 20500000 (event.End (moment 20700000)) ∷
    at 20700000 (event.Block (processor 1) (vcpu 0 1)) ∷
    at 20700000 (event.Arrive (processor 2)) ∷
    at 20700000 (event.Arrive (processor 3)) ∷
    at 20700000 (event.Decide (core 1) (Some (unit 3 0)) (Some (moment 22300000)) (span 0) 0) ∷
    at 20700000 (event.Leave (processor 2) (Some (vcpu 3 0))) ∷
    at 20700000 (event.Leave (processor 3) (Some (vcpu 3 1))) ∷
    []
