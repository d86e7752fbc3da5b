use Rattle.std.proofs.Common.{subst, sym}
use Rattle.sched_plain.specs.ReachedStates.{Stands}
use Rattle.sched_plain.proofs.Reaching.{stands-after}
use Rattle.sched_plain.proofs.plain.Plain.perform.Goals as goal

pub invariant_of-self : goal.invariant_of-self
invariant_of-self c =
    let m = c.self.inside.machine in
    let s = c.self.inside.state in
    (subst (Stands m) (sym c.perform.ensures.state) (stands-after m s c.args.action c.self.invariant.0 (rw (← c.self.view_is) at c.requires)), c.perform.ensures.tool, c.perform.ensures.spares, c.perform.ensures.settled, c.perform.ensures.outlook)
