use Rattle.std.proofs.Common.{ℕ}
use Rattle.sched_model.specs.declared.action.Action.{Action}
use Rattle.sched_model.specs.declared.machine.Machine.{Machine}
use Rattle.sched_model.specs.declared.state.State.{State}
use Rattle.sched_plain.proofs.Turns.{turn_past, turn_within}
use Rattle.sched_plain.proofs.soonest.next_turn.Goals as goal

pub returns-then-at-machine : goal.returns-then-at-machine
returns-then-at-machine c =
    let m : Machine = c.args.machine.now in
    let s : State = c.args.state.now in
    turn_within m s c.requires c.soonest-at.result c.soonest-at.ensures (λ (t later : ℕ) (action : Action). c.law_enabled_stays.ensures m s t later action) (c.law_next_moment.ensures m s s.now) c.if-at-machine.true

pub returns-else-at-machine : goal.returns-else-at-machine
returns-else-at-machine c =
    let m : Machine = c.args.machine.now in
    let s : State = c.args.state.now in
    turn_past m s c.requires c.soonest-at.result c.soonest-at.ensures (λ (t later : ℕ) (action : Action). c.law_enabled_stays.ensures m s t later action) (c.law_next_moment.ensures m s s.now) c.if-at-machine.false
