use Rattle.std.proofs.Common.{ap, rules}
use Rattle.sched_model.specs.declared.state.Scheduler.{Scheduler}
use Rattle.sched_null.proofs.Choosing.{begun_anew}
use Rattle.sched_null.proofs.null.NullPolicy.restart.Goals as goal
use Rattle.sched_null.proofs.null.NullPolicy.restart.Goals.{in-Some, in_default}

pub returns : goal.returns
returns c = elim c.match-self.branch [
  | in-Some w ↦
      let r = rw (← c.self.view_is, w.in-Some.is) at c.requires in
      let parts = w.in-Some.parts in
      rw (w.self-inside-is, w.clear.ensures, ← c.self.view_is, w.in-Some.is)
      (ap (λ (s : Scheduler). record { scheduler = s; spare = parts.units.spare; latest = c.self.inside.latest }) (begun_anew parts.units.queue parts.units.affinity parts.kept c.args.params.now w.keeps.ensures.members r.vacant r.params))
  | in_default w ↦ search rules
]
