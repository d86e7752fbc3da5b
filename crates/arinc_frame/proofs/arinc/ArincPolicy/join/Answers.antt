use Rattle.arinc_frame.proofs.Ready.{ready_later}
use Rattle.arinc_frame.proofs.arinc.ArincPolicy.join.Goals as goal
use Rattle.arinc_frame.proofs.arinc.ArincPolicy.join.Goals.{in-None, in-Some}

pub invariant_of-self : goal.invariant_of-self
invariant_of-self c =
    let r = rw (← c.self.view_is) at c.requires in
    let i = c.self.inside in
    elim c.match-self.branch [
      | in-None w ↦ rw w.self-inside-is (ready_later i.records i.present i.latest c.args.t.0 r.now.after c.self.invariant)
      | in-Some w ↦ rw w.self-inside-is (ready_later i.records i.present i.latest c.args.t.0 r.now.after c.self.invariant)
    ]
