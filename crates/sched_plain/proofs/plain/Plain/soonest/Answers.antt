use Rattle.std.proofs.Common.{subst}
use Rattle.sched_model.specs.Standing.{Standing}
use Rattle.sched_plain.specs.Soonest.{IsTurn}
use Rattle.sched_plain.proofs.plain.Plain.soonest.Goals as goal

pub next_turn-requires : goal.next_turn-requires
next_turn-requires c = c.self.invariant.0

pub returns : goal.returns
returns c = subst (λ (v : Standing). IsTurn v.machine v.state c.next_turn.result) c.self.view_is c.next_turn.ensures
