use Rattle.std.proofs.Common.{refl}
use Rattle.sched_model.specs.Credit2.{most_weight}
use Rattle.scheduler_records.specs.Bounds.{ParamsFit}
use Rattle.sched_laws.proofs.EachPlace.{place_fits}
use Rattle.scheduler_records.proofs.credit2_running.take_at.Goals as goal

pub take_budget-requires : goal.take_budget-requires
take_budget-requires c =
    (place_fits (ParamsFit (most_weight c.args.records.now)) c.args.records.now.domains c.args.u.dom.0 _ c.in-Some-place.d c.requires (c.in-Some.ensures.some.0 refl) c.in-Some.ensures.value c.in-Some-place.is).cap
