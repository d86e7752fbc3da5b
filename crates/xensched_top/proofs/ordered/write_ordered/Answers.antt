use Rattle.std.proofs.Common.{◌<◌, true, length, subst, sym}
use Rattle.std.specs.Prelude.{◌^◌}
use Rattle.xensched_top.specs.Ends.{HasEnded}
use Rattle.xensched_top.specs.Entries.{Coming}
use Rattle.xensched_top.proofs.WritesLemmas.{opened_ended, opened_few, writes_nothing}
use Rattle.xensched_top.proofs.ordered.write_ordered.Goals as goal

pub returns-in-Err-clause-written : goal.returns-in-Err-clause-written
returns-in-Err-clause-written g c = writes_nothing _ _ _ _ _ _ _ _

pub write-status-requires-clause-few : goal.write-status-requires-clause-few
write-status-requires-clause-few g c = subst (λ (v : Coming). length v.entries < 2 ^ 32) (sym c.of-entries.ensures) (opened_few c.args.limit c.args.machine c.in-Ok-open.engine c.in-Ok-open.ensures c.ranges.limit.fits)

pub returns-in-Ok-open-clause-written : goal.returns-in-Ok-open-clause-written
returns-in-Ok-open-clause-written g c =
    c.write-status.ensures.written true c.args.form c.args.machine c.in-Ok.ensures.form
    (subst (λ (v : Coming). HasEnded v.end true c.args.limit c.args.machine v.entries) (sym c.of-entries.ensures) (opened_ended c.args.limit c.args.machine c.in-Ok-open.engine c.in-Ok-open.ensures))

pub returns-in-Err-open-clause-written : goal.returns-in-Err-open-clause-written
returns-in-Err-open-clause-written g c = writes_nothing _ _ _ _ _ _ _ _
