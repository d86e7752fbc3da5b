use Rattle.std.proofs.Common.{◌∙◌, ap, Option, []}
use Rattle.sched_base.specs.declared.UnitId.{UnitId}
use Rattle.sched_model.specs.Rtds.{first_of_units, rtds_candidate}
use Rattle.sched_model.specs.declared.state.Records.TheVariants.{RtdsPool}
use Rattle.scheduler_records.specs.Parts.{scheduler_of}
use Rattle.rtds_core.specs.Best.{list_of}
use Rattle.rtds_core.proofs.Queues.{IsOrdered}
use Rattle.rtds_core.proofs.Calls.{choice_of_first}
use Rattle.rtds_core.proofs.best.pick.Goals as goal

pub returns : goal.returns
returns c =
    let domains = c.args.domains.now in
    let order : IsOrdered c.args.queues.now = record { order = c.requires.order; ranks = c.requires.ranks; units = c.requires.units } in
    c.better_of.ensures
    ∙ ap (λ (o : Option UnitId). first_of_units domains o (list_of c.first_on-first.result)) c.own_candidate.ensures
    ∙ ap (λ (o : Option UnitId). first_of_units domains (rtds_candidate c.args.ask.now (scheduler_of [] c.args.affinity.now (RtdsPool domains)) domains) (list_of o)) c.first_on-first.ensures
    ∙ choice_of_first domains c.args.affinity.now c.args.queues.now c.args.masks.now c.args.ask.now c.if-ask.false order c.requires.shape c.requires.queues c.requires.masks
