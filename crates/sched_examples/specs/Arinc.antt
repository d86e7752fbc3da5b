-- ARINC 653 pools.
use Rattle.std.specs.Prelude.{List, [], ◌∷◌, Some, None, Ok, Err, true, false, codes}
use Rattle.sched_base.specs.Numbers.{moment, span, processor, core, pool}
use Rattle.sched_model.specs.declared.event.Entry.{Entry}
use Rattle.sched_model.specs.declared.machine.Machine.{Machine}
use Rattle.sched_examples.specs.Words.{unit, vcpu, window, new_window, frame, endless_script, arinc_pool, arinc_domain, stall, xl, at}
use Rattle.sched_model.specs.declared.event.Event.TheVariants as event
use Rattle.sched_model.specs.declared.event.Refusal.TheVariants as refusal
use Rattle.sched_model.specs.declared.event.Reply.TheVariants as reply
use Rattle.sched_model.specs.declared.event.Param.TheVariants as param
use Rattle.sched_model.specs.declared.command.Command.TheVariants as command
use Rattle.sched_model.specs.declared.command.Which.TheVariants as which

-- two windows in a frame of 10 milliseconds, and a rest
unfoldable pub machine_windows_of_a_frame : Machine
machine_windows_of_a_frame = record {
  config = record {
    granularity = 1;
    processors = 1;
    horizon = moment 20000000;
    pools = arinc_pool (codes "Pool-0") 1 (Some (frame 10000000 (window 0 0 4000000 ∷ window 1 0 3000000 ∷ []))) ∷ [];
    domains = arinc_domain (codes "a") 0 (endless_script ∷ []) ∷ arinc_domain (codes "b") 0 (endless_script ∷ []) ∷ [];
  };
  work = record {
    stalls = [];
    commands = [];
  };
}

-- its ordered run
unfoldable pub entries_windows_of_a_frame : List Entry
entries_windows_of_a_frame =
    at 0 (event.Arrive (processor 0)) ∷
    at 0 (event.Decide (core 0) (Some (unit 0 0)) (Some (moment 4000000)) (span 0) 0) ∷
    at 0 (event.Leave (processor 0) (Some (vcpu 0 0))) ∷
    at 0 (event.End (moment 4000000)) ∷
    at 4000000 (event.Slice (core 0)) ∷
    at 4000000 (event.Arrive (processor 0)) ∷
    at 4000000 (event.Decide (core 0) (Some (unit 1 0)) (Some (moment 7000000)) (span 0) 0) ∷
    at 4000000 (event.Leave (processor 0) (Some (vcpu 1 0))) ∷
    at 4000000 (event.Save (core 0) (unit 0 0) true) ∷
    at 4000000 (event.End (moment 7000000)) ∷
    at 7000000 (event.Slice (core 0)) ∷
    at 7000000 (event.Arrive (processor 0)) ∷
    at 7000000 (event.Decide (core 0) None (Some (moment 10000000)) (span 0) 0) ∷
    at 7000000 (event.Leave (processor 0) None) ∷
    at 7000000 (event.Save (core 0) (unit 1 0) true) ∷
    at 7000000 (event.End (moment 10000000)) ∷
    at 10000000 (event.Slice (core 0)) ∷
    at 10000000 (event.Arrive (processor 0)) ∷
    at 10000000 (event.Decide (core 0) (Some (unit 0 0)) (Some (moment 14000000)) (span 0) 0) ∷
    at 10000000 (event.Leave (processor 0) (Some (vcpu 0 0))) ∷
    at 10000000 (event.End (moment 14000000)) ∷
    at 14000000 (event.Slice (core 0)) ∷
    at 14000000 (event.Arrive (processor 0)) ∷
    at 14000000 (event.Decide (core 0) (Some (unit 1 0)) (Some (moment 17000000)) (span 0) 0) ∷
    at 14000000 (event.Leave (processor 0) (Some (vcpu 1 0))) ∷
    at 14000000 (event.Save (core 0) (unit 0 0) true) ∷
    at 14000000 (event.End (moment 17000000)) ∷
    at 17000000 (event.Slice (core 0)) ∷
    at 17000000 (event.Arrive (processor 0)) ∷
    at 17000000 (event.Decide (core 0) None (Some (moment 20000000)) (span 0) 0) ∷
    at 17000000 (event.Leave (processor 0) None) ∷
    at 17000000 (event.Save (core 0) (unit 1 0) true) ∷
    at 17000000 (event.End (moment 20000000)) ∷
    at 20000000 (event.Slice (core 0)) ∷
    at 20000000 (event.Arrive (processor 0)) ∷
    at 20000000 (event.Decide (core 0) (Some (unit 0 0)) (Some (moment 24000000)) (span 0) 0) ∷
    at 20000000 (event.Leave (processor 0) (Some (vcpu 0 0))) ∷
    at 20000000 event.Finish ∷
    []

-- two windows, and the first unit runs 1 millisecond and sleeps 2
unfoldable pub machine_guest_sleeps_in_its_window : Machine
machine_guest_sleeps_in_its_window = record {
  config = record {
    granularity = 1;
    processors = 1;
    horizon = moment 5000000;
    pools = arinc_pool (codes "Pool-0") 1 (Some (frame 10000000 (window 0 0 4000000 ∷ window 1 0 3000000 ∷ []))) ∷ [];
    domains =
        arinc_domain (codes "a") 0 ((span 1000000 ∷ span 2000000 ∷ []) ∷ []) ∷
        arinc_domain (codes "b") 0 (endless_script ∷ []) ∷
        [];
  };
  work = record {
    stalls = [];
    commands = [];
  };
}

-- its ordered run
unfoldable pub entries_guest_sleeps_in_its_window : List Entry
entries_guest_sleeps_in_its_window =
    at 0 (event.Arrive (processor 0)) ∷
    at 0 (event.Decide (core 0) (Some (unit 0 0)) (Some (moment 4000000)) (span 0) 0) ∷
    at 0 (event.Leave (processor 0) (Some (vcpu 0 0))) ∷
    at 0 (event.End (moment 1000000)) ∷
    at 1000000 (event.Block (processor 0) (vcpu 0 0)) ∷
    at 1000000 (event.Arrive (processor 0)) ∷
    at 1000000 (event.Decide (core 0) None (Some (moment 4000000)) (span 0) 0) ∷
    at 1000000 (event.Leave (processor 0) None) ∷
    at 1000000 (event.Save (core 0) (unit 0 0) false) ∷
    at 1000000 (event.End (moment 3000000)) ∷
    at 3000000 (event.Wake (vcpu 0 0)) ∷
    at 3000000 (event.Arrive (processor 0)) ∷
    at 3000000 (event.Decide (core 0) (Some (unit 0 0)) (Some (moment 4000000)) (span 0) 0) ∷
    at 3000000 (event.Leave (processor 0) (Some (vcpu 0 0))) ∷
    at 3000000 (event.End (moment 4000000)) ∷
    at 4000000 (event.Block (processor 0) (vcpu 0 0)) ∷
    at 4000000 (event.Arrive (processor 0)) ∷
    at 4000000 (event.Decide (core 0) (Some (unit 1 0)) (Some (moment 7000000)) (span 0) 0) ∷
    at 4000000 (event.Leave (processor 0) (Some (vcpu 1 0))) ∷
    at 4000000 (event.Save (core 0) (unit 0 0) false) ∷
    at 4000000 event.Finish ∷
    []

-- two windows, and the processor stalls for 24 milliseconds
unfoldable pub machine_stall_over_two_frames : Machine
machine_stall_over_two_frames = record {
  config = record {
    granularity = 1;
    processors = 1;
    horizon = moment 26000000;
    pools = arinc_pool (codes "Pool-0") 1 (Some (frame 10000000 (window 0 0 4000000 ∷ window 1 0 3000000 ∷ []))) ∷ [];
    domains = arinc_domain (codes "a") 0 (endless_script ∷ []) ∷ arinc_domain (codes "b") 0 (endless_script ∷ []) ∷ [];
  };
  work = record {
    stalls = stall 1000000 0 24000000 ∷ [];
    commands = [];
  };
}

-- its ordered run
unfoldable pub entries_stall_over_two_frames : List Entry
entries_stall_over_two_frames =
    at 0 (event.Arrive (processor 0)) ∷
    at 0 (event.Decide (core 0) (Some (unit 0 0)) (Some (moment 4000000)) (span 0) 0) ∷
    at 0 (event.Leave (processor 0) (Some (vcpu 0 0))) ∷
    at 0 (event.End (moment 1000000)) ∷
    at 1000000 (event.Stall (processor 0) (moment 25000000)) ∷
    at 1000000 (event.End (moment 25000000)) ∷
    at 25000000 (event.Slice (core 0)) ∷
    at 25000000 (event.Arrive (processor 0)) ∷
    at 25000000 (event.Decide (core 0) (Some (unit 1 0)) (Some (moment 27000000)) (span 21000000) 0) ∷
    at 25000000 (event.Leave (processor 0) (Some (vcpu 1 0))) ∷
    at 25000000 (event.Save (core 0) (unit 0 0) true) ∷
    at 25000000 event.Finish ∷
    []

-- two windows, a second processor that is free, and commands that set frames
unfoldable pub machine_frames_by_command : Machine
machine_frames_by_command = record {
  config = record {
    granularity = 1;
    processors = 2;
    horizon = moment 3000000;
    pools = arinc_pool (codes "Pool-0") 1 (Some (frame 10000000 (window 0 0 4000000 ∷ window 1 0 3000000 ∷ []))) ∷ [];
    domains = arinc_domain (codes "a") 0 (endless_script ∷ []) ∷ arinc_domain (codes "b") 0 (endless_script ∷ []) ∷ [];
  };
  work = record {
    stalls = [];
    commands =
        xl 1000000 (Ok (command.ArincSet (which.Name (codes "Pool-0")) 10000000 (new_window (which.Number 0) 0 6000000 ∷ new_window (which.Number 1) 0 4000001 ∷ []))) ∷
        xl 1000000 (Ok (command.ArincSet (which.Name (codes "Pool-0")) 10000000 (new_window (which.Number 0) 1 1 ∷ []))) ∷
        xl 1000000 (Ok (command.ArincSet (which.Name (codes "Pool-0")) 10000000 (new_window (which.Number 0) 0 0 ∷ []))) ∷
        xl 1000000 (Ok (command.CpuAdd (which.Name (codes "Pool-0")) 1)) ∷
        xl 1000000 (Ok (command.ArincSet (which.Name (codes "Pool-0")) 5000000 (new_window (which.Name (codes "b")) 0 2000000 ∷ []))) ∷
        [];
  };
}

-- its ordered run
unfoldable pub entries_frames_by_command : List Entry
entries_frames_by_command =
    at 0 (event.Arrive (processor 0)) ∷
    at 0 (event.Decide (core 0) (Some (unit 0 0)) (Some (moment 4000000)) (span 0) 0) ∷
    at 0 (event.Leave (processor 0) (Some (vcpu 0 0))) ∷
    at 0 (event.End (moment 1000000)) ∷
    at 1000000 (event.Xl 1 (Err (refusal.FrameLong 10000001 10000000))) ∷
    at 1000000 (event.Xl 2 (Err (refusal.NoVcpu))) ∷
    at 1000000 (event.Xl 3 (Err (refusal.Range param.Run 0))) ∷
    at 1000000 (event.Xl 4 (Err (refusal.ArincOne (pool 0)))) ∷
    at 1000000 (event.Xl 5 (Ok (reply.Done))) ∷
    at 1000000 (event.Arrive (processor 0)) ∷
    at 1000000 (event.Decide (core 0) (Some (unit 1 0)) (Some (moment 3000000)) (span 0) 0) ∷
    at 1000000 (event.Leave (processor 0) (Some (vcpu 1 0))) ∷
    at 1000000 (event.Save (core 0) (unit 0 0) true) ∷
    at 1000000 (event.End (moment 3000000)) ∷
    at 3000000 (event.Slice (core 0)) ∷
    at 3000000 (event.Arrive (processor 0)) ∷
    at 3000000 (event.Decide (core 0) None (Some (moment 6000000)) (span 0) 0) ∷
    at 3000000 (event.Leave (processor 0) None) ∷
    at 3000000 (event.Save (core 0) (unit 1 0) true) ∷
    at 3000000 event.Finish ∷
    []
