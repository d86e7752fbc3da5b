use Rattle.std.proofs.Common.{◌≤◌, subst, sym}
use Rattle.std.specs.Prelude.{Some, None}
use Rattle.sched_model.specs.Rtds.{unit_left_budget}
use Rattle.scheduler_records.proofs.RtdsLemmas.{left_low}
use Rattle.scheduler_records.proofs.rtds.burn_cur.Goals as goal

pub returns-in-Some-clause-left : goal.returns-in-Some-clause-left
returns-in-Some-clause-left c u = subst (λ domains. unit_left_budget domains u ≤ 1000000000000) (sym c.burn_unit.ensures) (left_low (Some c.in-Some.u) c.args.t.0 c.args.domains.now u c.requires.fits)

pub returns-in_default-clause-left : goal.returns-in_default-clause-left
returns-in_default-clause-left c u = left_low None c.args.t.0 c.args.domains.now u c.requires.fits
