use Rattle.std.proofs.Common.{◌∙◌, sym, ap}
use Rattle.std.specs.Prelude.{Some}
use Rattle.sched_model.specs.declared.state.Pool.{Pool}
use Rattle.pool_core.specs.Seen.{pool_of}
use Rattle.pool_core.proofs.ByActor.{lowest_of, timers_of}
use Rattle.pool_core.proofs.actors.timer_by.Goals as goal

pub returns-then-first-r : goal.returns-then-first-r
returns-then-first-r g c guests on =
    let pool : Pool = pool_of guests c.args.cores.now (g.P.Policy.seen c.args.policy.now) in
    timers_of c.args.cores.now.granularity c.args.t.0 pool c.args.p c.first_timer.result
    (lowest_of c.args.cores.now.granularity c.args.r.0 c.args.p.0 pool c.requires.number (sym c.first.ensures ∙ c.in-Some.is ∙ ap Some c.if-first-r.true))
    (c.first_timer.ensures c.args.cores.now.granularity guests on)
