use Rattle.std.proofs.Common.{◌∙◌, arith, ap, subst, sym}
use Rattle.sched_laws.specs.EachPlace.{EachPlace}
use Rattle.sched_model.specs.declared.state.State.{State}
use Rattle.sched_model.specs.Machine.{settled_at}
use Rattle.plain_commands.proofs.Planned.{has-spare, plan-fits}
use Rattle.sched_plain.specs.CommandList.{HasSpares}
use Rattle.sched_plain.specs.Fits.{PoolFitsAt}
use Rattle.sched_plain.proofs.Bridges.{stands-early, stands-machine, stands-pool, stands-state}
use Rattle.sched_plain.proofs.Commanding.{accepted-state, carried-fit, command-over}
use Rattle.sched_plain.proofs.Judging.{few-commands}
use Rattle.sched_plain.proofs.Spares.{spare-next, spares-then}
use Rattle.sched_plain.proofs.command.accept.Goals as goal

pub pool_of_plan-home-requires : goal.pool_of_plan-home-requires
pool_of_plan-home-requires c = (stands-state c.args.machine.now c.args.state.now c.requires.stands).few_pools

pub overflow_add-state : goal.overflow_add-state
overflow_add-state c = (let low = few-commands c.args.machine.now c.args.state.now c.requires.stands in omega (arith, low))

pub carry_out-requires-clause-early : goal.carry_out-requires-clause-early
carry_out-requires-clause-early c = stands-early c.args.machine.now c.args.state.now c.requires.stands

pub carry_out-requires-clause-plan : goal.carry_out-requires-clause-plan
carry_out-requires-clause-plan c =
    let m = c.args.machine.now in
    let s = c.args.state.now in
    plan-fits m s c.requires.accepted.line c.args.plan (stands-machine m s c.requires.stands).few_siblings (λ i pool at. (stands-pool m s c.requires.stands i pool at).fits) c.requires.accepted.accepted

pub carry_out-requires-clause-spare : goal.carry_out-requires-clause-spare
carry_out-requires-clause-spare c =
    let m = c.args.machine.now in
    let s = c.args.state.now in
    has-spare m s c.requires.accepted.line c.args.plan s.next_command c.args.spares.now c.requires.accepted.accepted
    (spare-next m s.next_command c.requires.accepted.line c.args.spares.now c.requires.spares c.requires.accepted.next)

pub carry_out-requires-clause-fits : goal.carry_out-requires-clause-fits
carry_out-requires-clause-fits c = λ i pool at. (let fits = stands-pool c.args.machine.now c.args.state.now c.requires.stands i pool at in record { fits = fits.fits; records = fits.records })

pub carry_out-requires-clause-room : goal.carry_out-requires-clause-room
carry_out-requires-clause-room c = λ i pool at. (carried-fit c.args.machine.now c.args.state.now c.args.plan c.requires.stands c.requires.enabled c.requires.accepted i pool at).queue

pub settle_at-requires-clause-early : goal.settle_at-requires-clause-early
settle_at-requires-clause-early c = stands-early c.args.machine.now c.args.state.now c.requires.stands

pub settle_at-requires-clause-fits : goal.settle_at-requires-clause-fits
settle_at-requires-clause-fits c =
    subst (λ (x : State). EachPlace (PoolFitsAt c.args.state.now.now) x.pools) (sym c.carry_out.ensures.state)
    (carried-fit c.args.machine.now c.args.state.now c.args.plan c.requires.stands c.requires.enabled c.requires.accepted)

pub returns-clause-state : goal.returns-clause-state
returns-clause-state c =
    accepted-state c.args.machine.now c.args.state.now c.args.plan c.requires.stands c.requires.enabled c.requires.accepted c.carry_out.new.state c.settle_at.new.state c.carry_out.ensures.state
    (c.settle_at.ensures ∙ ap (λ home. settled_at c.args.state.now.now home c.carry_out.new.state) c.pool_of_plan-home.ensures)

pub returns-clause-spares : goal.returns-clause-spares
returns-clause-spares c =
    let m = c.args.machine.now in
    let s = c.args.state.now in
    let state = accepted-state m s c.args.plan c.requires.stands c.requires.enabled c.requires.accepted c.carry_out.new.state c.settle_at.new.state c.carry_out.ensures.state
    (c.settle_at.ensures ∙ ap (λ home. settled_at s.now home c.carry_out.new.state) c.pool_of_plan-home.ensures) in
    let over = ap (λ (x : State). x.next_command) state ∙ command-over m s s.now c.requires.accepted.line c.args.plan c.requires.accepted.next c.requires.accepted.accepted in
    subst (HasSpares m c.settle_at.new.state.next_command) (sym c.carry_out.ensures.spares) (spares-then m s.next_command c.settle_at.new.state.next_command c.args.plan c.args.spares.now c.requires.spares over)
