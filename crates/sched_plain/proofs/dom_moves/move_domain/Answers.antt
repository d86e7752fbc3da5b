use Rattle.std.proofs.Common.{◌∙◌, sym, subst}
use Rattle.sched_model.specs.Machine.{joined_by}
use Rattle.sched_model.specs.Places.{change_at}
use Rattle.sched_laws.specs.EachPlace.{EachPlace}
use Rattle.sched_plain.specs.Fits.{PoolFitsAt}
use Rattle.sched_plain.proofs.Bridges.{stands-early, stands-machine, stands-pool, stands-state}
use Rattle.sched_plain.proofs.DomMoving.{domain-few, pools-joined, pools-left}
use Rattle.sched_plain.proofs.dom_moves.move_domain.Goals as goal

pub home_of_domain-requires : goal.home_of_domain-requires
home_of_domain-requires c = (stands-state c.args.machine.now c.args.state.now c.requires.stands).few_pools

pub leave_at-requires-clause-early : goal.leave_at-requires-clause-early
leave_at-requires-clause-early c = stands-early c.args.machine.now c.args.state.now c.requires.stands

pub leave_at-requires-clause-fits : goal.leave_at-requires-clause-fits
leave_at-requires-clause-fits c = stands-pool c.args.machine.now c.args.state.now c.requires.stands

pub join_at-requires-clause-early : goal.join_at-requires-clause-early
join_at-requires-clause-early c = stands-early c.args.machine.now c.args.state.now c.requires.stands

pub join_at-requires-clause-some : goal.join_at-requires-clause-some
join_at-requires-clause-some c = (stands-machine c.args.machine.now c.args.state.now c.requires.stands).some_processor

pub join_at-requires-clause-few : goal.join_at-requires-clause-few
join_at-requires-clause-few c = (stands-machine c.args.machine.now c.args.state.now c.requires.stands).few_siblings

pub join_at-requires-clause-vcpus : goal.join_at-requires-clause-vcpus
join_at-requires-clause-vcpus c =
    domain-few c.args.state.now.now c.args.d.0 c.in-Some.from c.args.state.now.pools c.in-Some-leave_at.domain (stands-pool c.args.machine.now c.args.state.now c.requires.stands) (sym c.leave_at.ensures.domain ∙ c.in-Some-leave_at.is)

pub join_at-requires-clause-before : goal.join_at-requires-clause-before
join_at-requires-clause-before c =
    subst (EachPlace (PoolFitsAt c.args.state.now.now)) (sym c.leave_at.ensures.pools)
    (pools-left c.args.state.now.now c.args.d.0 c.in-Some.from c.args.state.now.pools (stands-pool c.args.machine.now c.args.state.now c.requires.stands))

pub join_at-requires-clause-after : goal.join_at-requires-clause-after
join_at-requires-clause-after c =
    let m = c.args.machine.now in
    let s = c.args.state.now in
    subst (λ pools. EachPlace (PoolFitsAt s.now) (change_at c.in-Some-target_in.to.0 (joined_by m.config.granularity s.now c.args.d.0 c.in-Some-leave_at.domain) pools)) (sym c.leave_at.ensures.pools)
    (pools-joined m s c.args.d.0 c.in-Some.from c.in-Some-target_in.to c.in-Some-leave_at.domain c.requires.stands c.requires.enabled
    (sym c.home_of_domain.ensures ∙ c.in-Some.is) (sym c.target_in.ensures ∙ c.in-Some-target_in.is) (sym c.leave_at.ensures.domain ∙ c.in-Some-leave_at.is))
