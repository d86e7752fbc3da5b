use Rattle.std.proofs.Common.{◌≡◌, take, map}
use Rattle.sched_model.specs.declared.state.Processor.{Processor}
use Rattle.pool_records.proofs.leaving.stall_ends_of.Given as goal

abbrev pub invariant-loop-p : goal.invariant-loop-p
invariant-loop-p l = l.stall_ends ≡ map (λ (p : Processor). p.stall_end) (take l.p-index l.p-items)
