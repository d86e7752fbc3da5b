use Rattle.std.proofs.Common.{◌≡◌, drop}
use Rattle.std.specs.Prelude.{filter}
use Rattle.sched_model.specs.Credit2.{richest_unit}
use Rattle.plain_schedulers.specs.WaitingUnits.{HasCredit, is_contender}
use Rattle.plain_schedulers.proofs.credit2_choice.greatest.Given as goal

abbrev pub invariant-loop-u : goal.invariant-loop-u
invariant-loop-u l =
    record {
      same : richest_unit l.records l.found (filter (is_contender l.affinity l.ask l.records l.over) (drop l.u-index l.waiting)) ≡ richest_unit l.records l.fn.best (filter (is_contender l.affinity l.ask l.records l.over) l.waiting);
      credit : HasCredit l.records l.found l.credit;
    }
