use Rattle.std.proofs.Common.{◌∙◌, sym, ap, arith}
use Rattle.sched_base.specs.Numbers.{has_moment_come}
use Rattle.pool_core.proofs.ByActor.{one_more, sleeps, wakes_first}
use Rattle.pool_core.proofs.actors.first_of_domain.Goals as goal

pub loop-n-init : goal.loop-n-init
loop-n-init c k below = absurd (omega (arith, below))

pub loop-n-preserved : goal.loop-n-preserved
loop-n-preserved c =
    one_more c.args.t.0 c.args.d c.args.guests.now c.loop-n.n
    (ap (has_moment_come c.args.t.0) (sym c.wakes_at.ensures) ∙ sym c.has_come.ensures ∙ c.if-has_come.false) c.loop-n.invariant

pub returns-then-has_come : goal.returns-then-has_come
returns-then-has_come c cores s =
    wakes_first c.args.t.0 c.args.d c.args.guests.now cores s c.loop-n.n
    (ap (has_moment_come c.args.t.0) (sym c.wakes_at.ensures) ∙ sym c.has_come.ensures ∙ c.if-has_come.true) c.loop-n.invariant

pub returns : goal.returns
returns c cores s =
    let over = c.loop-n-test.false in
    sleeps c.args.t.0 c.args.d c.args.guests.now cores s c.keeps.ensures (λ n below. c.loop-n.invariant n (omega (arith, below, over)))
