use Rattle.std.proofs.Common.{◌∙◌, sym}
use Rattle.sched_model.specs.Commands.{pool_with_rtds}
use Rattle.sched_model.specs.Places.{numbers_from}
use Rattle.plain_commands.proofs.Homes.{home-changed}
use Rattle.plain_commands.proofs.carry.set_units.Goals as goal

pub returns-in-Some : goal.returns-in-Some
returns-in-Some c = λ t.
    home-changed c.args.d.0 c.in-Some.i (pool_with_rtds t c.args.d.0 c.args.given.period c.args.given.budget c.args.given.extra (numbers_from c.args.first c.args.count)) c.args.state.now c.set_rtds_at.new.pools
    (sym c.requires.home ∙ c.in-Some.is) (c.set_rtds_at.ensures t)
