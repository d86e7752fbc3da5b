-- Runs in other orders.
use Rattle.std.specs.Prelude.{List, [], ◌∷◌, Some, None, Ok, true}
use Rattle.sched_base.specs.Numbers.{moment, span, processor, core}
use Rattle.sched_model.specs.declared.event.Entry.{Entry}
use Rattle.sched_examples.specs.Words.{unit, vcpu, at}
use Rattle.sched_model.specs.declared.event.Event.TheVariants as event
use Rattle.sched_model.specs.declared.event.Reply.TheVariants as reply

-- a run of it in another order
unfoldable pub entries_pause_seen_by_save : List Entry
entries_pause_seen_by_save =
    at 0 (event.Arrive (processor 0)) ∷
    at 0 (event.Decide (core 0) (Some (unit 0 0)) (Some (moment 10000000)) (span 0) 0) ∷
    at 0 (event.Leave (processor 0) (Some (vcpu 0 0))) ∷
    at 0 (event.End (moment 1000000)) ∷
    at 1000000 (event.Xl 1 (Ok (reply.Done))) ∷
    at 1000000 (event.Arrive (processor 0)) ∷
    at 1000000 (event.Decide (core 0) None None (span 0) 0) ∷
    at 1000000 (event.Leave (processor 0) None) ∷
    at 1000000 (event.Xl 2 (Ok (reply.Done))) ∷
    at 1000000 (event.Save (core 0) (unit 0 0) true) ∷
    at 1000000 (event.Arrive (processor 0)) ∷
    at 1000000 (event.Decide (core 0) (Some (unit 0 0)) (Some (moment 10000000)) (span 0) 0) ∷
    at 1000000 (event.Leave (processor 0) (Some (vcpu 0 0))) ∷
    at 1000000 event.Finish ∷
    []

-- a run of it in another order
unfoldable pub entries_siblings_in_turn : List Entry
entries_siblings_in_turn =
    at 0 (event.Arrive (processor 1)) ∷
    at 0 (event.Arrive (processor 0)) ∷
    at 0 (event.Decide (core 0) (Some (unit 0 0)) (Some (moment 1000000)) (span 0) 0) ∷
    at 0 (event.Leave (processor 1) (Some (vcpu 0 1))) ∷
    at 0 (event.Leave (processor 0) (Some (vcpu 0 0))) ∷
    at 0 (event.End (moment 1000000)) ∷
    at 1000000 (event.Slice (core 0)) ∷
    at 1000000 (event.Arrive (processor 1)) ∷
    at 1000000 (event.Arrive (processor 0)) ∷
    at 1000000 (event.Decide (core 0) (Some (unit 0 1)) (Some (moment 11000000)) (span 0) 0) ∷
    at 1000000 (event.Leave (processor 1) None) ∷
    at 1000000 (event.Leave (processor 0) (Some (vcpu 0 2))) ∷
    at 1000000 (event.Save (core 0) (unit 0 0) true) ∷
    at 1000000 event.Finish ∷
    []
