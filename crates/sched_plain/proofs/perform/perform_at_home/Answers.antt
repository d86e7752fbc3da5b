use Rattle.std.proofs.Common.{◌∙◌, sym}
use Rattle.sched_plain.proofs.Bridges.{stands-machine, stands-state}
use Rattle.sched_plain.proofs.Performing.{no-home, enabled-home}
use Rattle.sched_plain.proofs.perform.perform_at_home.Goals as goal

pub home_of-requires-clause-some : goal.home_of-requires-clause-some
home_of-requires-clause-some c = (stands-machine c.args.machine.now c.args.state.now c.requires.stands).some_processor

pub home_of-requires-clause-few : goal.home_of-requires-clause-few
home_of-requires-clause-few c = (stands-state c.args.machine.now c.args.state.now c.requires.stands).few_pools

pub unreachable-requires : goal.unreachable-requires
unreachable-requires c =
    let m = c.args.machine.now in
    let s = c.args.state.now in
    no-home m s s.now c.args.action (sym (enabled-home m s s.now c.args.action c.requires.own) ∙ c.requires.enabled) (sym c.home_of.ensures ∙ c.in-None.is)
