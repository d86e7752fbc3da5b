use Rattle.sched_laws.specs.RecordRanges.{IsFrame}
use Rattle.arinc_frame.proofs.Ready.{ready_later, ready_installed}
use Rattle.arinc_frame.proofs.arinc.ArincPolicy.set_params.Goals as goal
use Rattle.arinc_frame.proofs.arinc.ArincPolicy.set_params.Goals.{in-Frame, in-Pin+in-None, in-Pin+in-Some, in_default}

pub invariant_of-self : goal.invariant_of-self
invariant_of-self c =
    let r = rw (← c.self.view_is) at c.requires in
    let i = c.self.inside in
    elim c.match-change.branch [
      | in-Frame w ↦ (let fits : IsFrame w.in-Frame.frame = rw w.in-Frame.is at r.change in rw (w.self-inside-is, w.duplicate.ensures) (ready_installed w.in-Frame.frame c.args.t.0 fits))
      | in-Pin+in-None w ↦ rw w.self-inside-is (ready_later i.records i.present i.latest c.args.t.0 r.now.after c.self.invariant)
      | in-Pin+in-Some w ↦ rw w.self-inside-is (ready_later i.records i.present i.latest c.args.t.0 r.now.after c.self.invariant)
      | in_default w ↦ rw w.self-inside-is (ready_later i.records i.present i.latest c.args.t.0 r.now.after c.self.invariant)
    ]
