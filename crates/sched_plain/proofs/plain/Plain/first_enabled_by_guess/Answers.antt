use Rattle.std.proofs.Common.{◌≡◌, subst, sym}
use Rattle.sched_model.specs.Machine.{first_enabled_action}
use Rattle.sched_model.specs.Standing.{Standing}
use Rattle.sched_model.specs.declared.state.State.{State}
use Rattle.sched_plain.specs.CommandList.{HasSpares}
use Rattle.sched_plain.specs.ReachedStates.{Stands}
use Rattle.sched_plain.specs.SettledPools.{AreSettled}
use Rattle.sched_plain.proofs.plain.Plain.first_enabled_by_guess.Goals as goal

pub invariant_of-self : goal.invariant_of-self
invariant_of-self c =
    let m = c.self.inside.machine in
    let same = sym c.first_by_guess.ensures.state in (
      subst (Stands m) same c.self.invariant.0,
      c.self.invariant.1,
      subst (λ (s : State). HasSpares m s.next_command c.self.inside.spares) same c.self.invariant.2,
      subst (λ (s : State). AreSettled s.now s.pools c.self.inside.settled) same c.self.invariant.3,
      c.first_by_guess.ensures.seen,
    )

pub returns-clause-first : goal.returns-clause-first
returns-clause-first c = subst (λ (v : Standing). c.first_by_guess.result ≡ first_enabled_action v.machine v.state v.state.now) c.self.view_is c.first_by_guess.ensures.first
