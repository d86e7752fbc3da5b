use Rattle.std.proofs.Common.{◌<◌, ◌∙◌, ℕ, Bool, List, length, sym, subst, arith}
use Rattle.std.specs.Prelude.{Some, slice_set}
use Rattle.pool_records.proofs.FitsLemmas.{at_place-item, at_place-past}
use Rattle.sched_model.specs.Pool.{after_in}
use Rattle.sched_plain.specs.Outlooks.{IsSeenOverIf}
use Rattle.sched_plain.specs.SettledPools.{AreSettled}
use Rattle.sched_plain.proofs.Bridges.{stands-early, stands-machine, stands-state}
use Rattle.sched_plain.proofs.Performing.{pool-here, enabled-here, fits-here, fits-after, event-here, state-here}
use Rattle.sched_plain.proofs.Ready.{may_decide}
use Rattle.sched_plain.proofs.SeenLaw.{seen_over_if}
use Rattle.sched_plain.proofs.Settling.{settled_here, settled_then}
use Rattle.sched_plain.proofs.perform.perform_at.Goals as goal

pub unreachable-requires : goal.unreachable-requires
unreachable-requires c =
    pool-here c.args.machine.now c.args.state.now c.args.t.0 c.args.action c.args.place c.requires.stands c.requires.now c.requires.own c.requires.enabled c.requires.home
    (at_place-past c.args.state.now.pools c.args.place (omega arith))

pub unreachable-requires-in-None : goal.unreachable-requires-in-None
unreachable-requires-in-None c =
    pool-here c.args.machine.now c.args.state.now c.args.t.0 c.args.action c.args.place c.requires.stands c.requires.now c.requires.own c.requires.enabled c.requires.home
    (at_place-item c.args.state.now.pools c.args.place c.item_mut.result.now (omega arith) c.item_mut.ensures.value ∙ c.in-None.is)

pub perform_in-event-requires-clause-enabled : goal.perform_in-event-requires-clause-enabled
perform_in-event-requires-clause-enabled c =
    enabled-here c.args.machine.now c.args.state.now c.args.t.0 c.args.action c.args.place c.requires.stands c.requires.now c.requires.own c.requires.enabled c.requires.home c.in-Some.pool
    (at_place-item c.args.state.now.pools c.args.place c.item_mut.result.now (omega arith) c.item_mut.ensures.value ∙ c.in-Some.is)

pub perform_in-event-requires-clause-before : goal.perform_in-event-requires-clause-before
perform_in-event-requires-clause-before c =
    fits-here c.args.machine.now c.args.state.now c.args.t.0 c.args.action c.args.place c.requires.stands c.requires.now c.requires.own c.requires.enabled c.requires.home c.in-Some.pool
    (at_place-item c.args.state.now.pools c.args.place c.item_mut.result.now (omega arith) c.item_mut.ensures.value ∙ c.in-Some.is)

pub perform_in-event-requires-clause-after : goal.perform_in-event-requires-clause-after
perform_in-event-requires-clause-after c =
    fits-after c.args.machine.now c.args.state.now c.args.t.0 c.args.action c.args.place c.requires.stands c.requires.now c.requires.own c.requires.enabled c.requires.home c.in-Some.pool
    (at_place-item c.args.state.now.pools c.args.place c.item_mut.result.now (omega arith) c.item_mut.ensures.value ∙ c.in-Some.is)

pub returns-clause-event : goal.returns-clause-event
returns-clause-event c =
    event-here c.args.machine.now c.args.state.now c.args.t.0 c.args.action c.args.place c.requires.stands c.requires.now c.requires.own c.requires.enabled c.requires.home c.in-Some.pool
    (at_place-item c.args.state.now.pools c.args.place c.item_mut.result.now (omega arith) c.item_mut.ensures.value ∙ c.in-Some.is) c.perform_in-event.result c.perform_in-event.ensures.event

pub returns-clause-state : goal.returns-clause-state
returns-clause-state c =
    state-here c.args.machine.now c.args.state.now c.args.t.0 c.args.action c.args.place c.requires.stands c.requires.now c.requires.own c.requires.enabled c.requires.home c.in-Some.pool
    (at_place-item c.args.state.now.pools c.args.place c.item_mut.result.now (omega arith) c.item_mut.ensures.value ∙ c.in-Some.is) c.perform_in-event.new.pool c.perform_in-event.ensures.pool

pub perform_in-event-requires-clause-some : goal.perform_in-event-requires-clause-some
perform_in-event-requires-clause-some c = (stands-machine c.args.machine.now c.args.state.now c.requires.stands).some_processor

pub perform_in-event-requires-clause-few : goal.perform_in-event-requires-clause-few
perform_in-event-requires-clause-few c = (stands-machine c.args.machine.now c.args.state.now c.requires.stands).few_siblings

pub perform_in-event-requires-clause-early : goal.perform_in-event-requires-clause-early
perform_in-event-requires-clause-early c = (let early = stands-early c.args.machine.now c.args.state.now c.requires.stands in let now = c.requires.now in omega (arith, early, now))

pub has-requires : goal.has-requires
has-requires c =
    let inside : c.args.place < length c.args.state.now.pools = omega arith in
    let few = (stands-state c.args.machine.now c.args.state.now c.requires.stands).few_pools in
    omega (arith, inside, few)

pub mark-requires : goal.mark-requires
mark-requires c =
    let inside : c.args.place < length c.args.state.now.pools = omega arith in
    let few = (stands-state c.args.machine.now c.args.state.now c.requires.stands).few_pools in
    omega (arith, inside, few)

pub perform_in-event-requires-clause-settled : goal.perform_in-event-requires-clause-settled
perform_in-event-requires-clause-settled c = λ has.
    settled_here c.args.state.now.now c.args.t.0 c.args.place c.args.state.now.pools c.in-Some.pool c.args.settled.now c.requires.settled c.requires.now
    (at_place-item c.args.state.now.pools c.args.place c.item_mut.result.now (omega arith) c.item_mut.ensures.value ∙ c.in-Some.is) (sym c.has.ensures ∙ has)

pub returns-clause-settled : goal.returns-clause-settled
returns-clause-settled c =
    let s = c.args.state.now in
    subst (λ (marks : List Bool). AreSettled s.now (slice_set s.pools c.args.place (Some c.perform_in-event.new.pool)) marks) (sym c.mark.ensures)
    (settled_then s.now c.args.t.0 c.args.place s.pools c.in-Some.pool (after_in c.args.machine.now.config.granularity c.args.t.0 c.in-Some.pool c.args.action) c.perform_in-event.new.pool c.args.settled.now c.requires.settled c.requires.now
    (at_place-item c.args.state.now.pools c.args.place c.item_mut.result.now (omega arith) c.item_mut.ensures.value ∙ c.in-Some.is) c.perform_in-event.ensures.pool)

pub perform_in-event-requires-clause-decides : goal.perform_in-event-requires-clause-decides
perform_in-event-requires-clause-decides c =
    may_decide c.args.machine.now c.args.state.now c.requires.stands c.args.place c.in-Some.pool
    (at_place-item c.args.state.now.pools c.args.place c.item_mut.result.now (omega arith) c.item_mut.ensures.value ∙ c.in-Some.is)

pub returns-clause-outlook : goal.returns-clause-outlook
returns-clause-outlook c =
    let s = c.args.state.now in
    seen_over_if c.args.machine.now s c.args.place c.in-Some.pool c.perform_in-event.new.pool c.args.outlook.now c.perform_in-event.new.outlook
    (at_place-item s.pools c.args.place c.item_mut.result.now (omega arith) c.item_mut.ensures.value ∙ c.in-Some.is) c.requires.outlook
    (subst (λ (n : ℕ). IsSeenOverIf c.args.machine.now.config.granularity n c.in-Some.pool c.perform_in-event.new.pool c.args.outlook.now c.perform_in-event.new.outlook) c.requires.now c.perform_in-event.ensures.outlook)
