use Rattle.std.proofs.Common.{◌≡◌, arith}
use Rattle.std.specs.Prelude.{None}
use Rattle.sched_model.specs.Places.{at_place}
use Rattle.machine_parts.proofs.Firsts.{nexts-below}
use Rattle.machine_parts.proofs.places.read_nexts.Goals as goal

pub returns-clause-nexts : goal.returns-clause-nexts
returns-clause-nexts c =
    nexts-below c.args.slots.now c.loop-i.nexts (λ k. at_place c.args.firsts.now k ≡ None) c.loop-i.invariant.0
    (λ k low. c.loop-i.invariant.1 k (let done = c.loop-i-test.false in omega (arith, low, done)))
