use Rattle.credit2_core.specs.Keys.{KeysWhere, is_passed}
use Rattle.credit2_core.specs.Credit2State.{IsSameLine}
use Rattle.credit2_core.proofs.run_queue.rekey_domain.Given as goal

abbrev pub invariant-loop-n : goal.invariant-loop-n
invariant-loop-n l = record { keys : KeysWhere (is_passed l.d.0 l.n) l.records l.queue.units; same : IsSameLine l.initial.queue l.queue }
