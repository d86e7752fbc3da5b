use Rattle.std.proofs.Common.{true, sym, subst, refl}
use Rattle.std.specs.Prelude.{List, Option, None, replicate}
use Rattle.sched_base.specs.declared.Cores.{Cores}
use Rattle.sched_base.specs.declared.Moment.{Moment}
use Rattle.sched_model.specs.declared.state.Credit2Domain.{Credit2Domain}
use Rattle.runq.specs.Queue.{Queue, empty_queue}
use Rattle.credit2_core.specs.Room.{IsFresh}
use Rattle.credit2_core.proofs.Keeping.{sound_fresh}
use Rattle.credit2_core.proofs.room.reserve.Goals as goal

pub returns : goal.returns
returns c =
    let n = c.args.domains in
    let masks : List Cores = c.in_ok-queue.masks in
    let Fresh : List (Option Credit2Domain) → List (Option (List Cores)) → Queue → List (Option Moment) → Type 0 = λ domains affinity queue refills.
    IsFresh n c.args.units c.args.latest (record { records = record { limit = 1000; last_reset = None; domains = domains }; affinity = affinity; queue = queue; masks = masks; refills = refills; spare = c.args.units; latest = c.args.latest; unpinned = true })
    in
    subst (λ domains. Fresh domains c.in_ok-affinity.affinity c.in_ok-queue.queue c.in_ok-queue.refills) (sym c.in_ok-records.ensures)
    (subst (λ affinity. Fresh (replicate n None) affinity c.in_ok-queue.queue c.in_ok-queue.refills) (sym c.in_ok-affinity.ensures)
    (subst (λ queue. Fresh (replicate n None) (replicate n None) queue c.in_ok-queue.refills) (sym c.in_ok-queue.ensures.queue)
    (subst (λ refills. Fresh (replicate n None) (replicate n None) (empty_queue c.args.units) refills) (sym c.in_ok-queue.ensures.refills)
    (record { sound = sound_fresh n c.args.units c.args.latest masks c.requires.domains c.requires.units; seen = refl }))))
