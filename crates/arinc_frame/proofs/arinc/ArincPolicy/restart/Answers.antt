use Rattle.std.proofs.Common.{ap}
use Rattle.sched_model.specs.declared.state.Scheduler.{Scheduler}
use Rattle.arinc_frame.specs.ArincView.{units_by}
use Rattle.arinc_frame.proofs.Ready.{begun_anew}
use Rattle.arinc_frame.proofs.arinc.ArincPolicy.restart.Goals as goal

pub returns : goal.returns
returns c =
    let r = rw (← c.self.view_is) at c.requires in
    let i = c.self.inside in
    let units = units_by i.units in
    rw (← c.self.view_is) (ap (λ (s : Scheduler). record { scheduler = s; spare = units.spare; latest = i.latest }) (begun_anew units.queue units.affinity i.records c.args.params.now c.frame_of.result c.law_members.ensures r.vacant c.frame_of.ensures.records))
